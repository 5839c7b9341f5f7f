-- What totals mean, and what their calls keep of a caller's places.
use Prim.Native.Nat.{zero-le}
use Rattle.std.specs.Prelude.{◌≡◌, ℕ, ◌-◌, List, length, take, refl}
use Rattle.std.specs.Borrow.{MutBor}
use Rattle.std.proofs.Common.{◌∙◌}
use Rattle.sink.specs.Stacks.{Stack, endless, limited}
use Rattle.totals.specs.declared.Totals.{Totals}

module _ {M : Type 0} where
  abbrev pub places : Totals M → List M
  places t = t.places.now

  -- all places are free
  abbrev pub fresh : MutBor (List M) → Totals M
  fresh lent = record { places = lent; used = 0; fits = zero-le }

  -- the first n places are the list, and the others are free
  abbrev pub stack : List M → ℕ → Stack M
  stack ps n = record { list = take n ps; records = endless; cells = limited (length ps - n) }

  abbrev pub meaning : Totals M → Stack M
  meaning t = stack (places t) t.used

  -- some places begin with a list
  abbrev pub Begins : List M → List M → Type 0
  Begins ps list = take (length list) ps ≡ list

  -- from totals a to later ones b: the same places; what the free ones hold is open
  pub record Kept (a b : Totals M) : Type 0 where
    pub lent : b.places.ghost_name ≡ a.places.ghost_name
    pub long : length (places b) ≡ length (places a)

  pub kept_none : (t : Totals M) → Kept t t
  kept_none t = record { lent = refl; long = refl }

  pub kept_more : (a b c : Totals M) → Kept a b → Kept b c → Kept a c
  kept_more a b c p q = record { lent = q.lent ∙ p.lent; long = q.long ∙ p.long }
