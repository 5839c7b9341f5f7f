-- What a write to a place makes of a stack.
use Rattle.std.proofs.Common.{◌≡◌, ℕ, ◌+◌, ◌-◌, ◌<◌, ◌≤◌, false, List, [], ◌∷◌, ◌++◌, length, take, drop, set, sym, ap, ◌∙◌, arith}
use Rattle.std.proofs.lemmas.List.{length-set, length-take-le, take_more_set, take-take}
use Rattle.std.proofs.lemmas.Slice.{between_is}
use Rattle.std.proofs.lemmas.Bool.Decides.{nat_tests}
use Rattle.sink.specs.Stacks.{endless, limited, full, sent, back}
use Rattle.totals.specs.declared.Totals.{Totals}
use Rattle.totals.specs.Meaning.{places, stack, meaning}

-- a value goes to the place `at`, where the first of its k children stands
module _ {M : Type 0} (a : Totals M) (k at : ℕ)
    (few : k ≤ a.used) (at_is : at ≡ a.used - k) (free : at < length (places a)) where
  abbrev list : List M
  list = (meaning a).list

  start : length list - k ≡ at
  start = omega (arith, length-take-le a.used (places a) a.fits)

  pub room : full k (meaning a) ≡ false
  room = grind (arith, nat_tests)

  pub children : back k list ≡ take (a.used - at) (drop at (places a))
  children = ap (λ n. drop n list) start ∙ sym (between_is (places a) at a.used)

  pub placed : (new : List M) (v : M) → new ≡ set (places a) at v → stack new (at + 1) ≡ sent k v (meaning a)
  placed new v new_is =
      let front = ap (λ n. take n list) start ∙ take-take at a.used (places a) (omega arith) in
      let onto = ap (λ l. l ++ (v ∷ [])) (sym front) in
      let pushed = ap (take (at + 1)) new_is ∙ take_more_set (places a) at v free ∙ onto in
      let long = ap length new_is ∙ length-set (places a) at v in
      let cells : length new - (at + 1) ≡ length (places a) - a.used + k - 1 = omega arith in
      λ i. record { list = pushed i; records = endless; cells = limited (cells i) }
