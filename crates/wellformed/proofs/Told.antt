-- What is told is the refusal of the first pass that fails, at its least place.
use Rattle.std.proofs.Common.{◌≡◌, ℕ, ◌+◌, ◌<◌, ◌⊎◌, List, [], ◌∷◌, ◌++◌, Some, None, Ok, Err, Option, sym, refl, ap, ◌∙◌, subst, inl, inr, arith}
use Rattle.layout.specs.declared.Refusal.{Refusal}
use Rattle.layout.specs.declared.Refusal.TheVariants.{Order, Range}
use Rattle.layout.specs.Refusals.{place, answered}
use Rattle.layout.specs.Choices.{or_else, unless, first}
use Rattle.layout.specs.Records.{Sheet, record_at, count}
use Rattle.layout.specs.Passes.{Pass, told}
use Rattle.layout.specs.Opening.{in_order, in_range, length_refused, record_refused, name_refused, sense_refused}
use Rattle.layout.specs.Opening.{sorting, opening, opening_passes}
use Rattle.wellformed.specs.Told.{CleanBelow, RefusesFirst, Tells, AllClean, NamesPlaces, TellsFirst}
use Rattle.wellformed.specs.Told.{OpeningTellsFirst}
use Rattle.wellformed.proofs.Tests.{none_some, or_none, none_or, or_some, some_or, unless_some}
use Rattle.wellformed.proofs.Firsts.{first_none, none_first, first_at, first_some}

pub clean : (ps : List Pass) → told ps ≡ None → AllClean ps
clean [] e = tt
clean (p ∷ ps) e =
    let (here, later) = or_none (first p.refused_at p.tries) (told ps) e in
    (none_first p.refused_at p.tries here, clean ps later)

pub none_told : (ps : List Pass) → AllClean ps → told ps ≡ None
none_told [] c = refl
none_told (p ∷ ps) c = none_or _ _ (first_none p.refused_at p.tries c.0) ∙ none_told ps c.1

tells : (ps : List Pass) → NamesPlaces ps → (x : Refusal) → told ps ≡ Some x → Tells ps x
tells [] named x e = absurd (none_some e)
tells (p ∷ ps) named x e = go (tells ps named.1 x) (or_some (first p.refused_at p.tries) (told ps) x e)
  where
    here : (i : ℕ) → i < p.tries → p.refused_at i ≡ Some x → CleanBelow p i → RefusesFirst p x
    here i lt e c =
        let is : i ≡ place x = sym (named.0 i x lt e) in
        record {
          tried = subst (λ k. k < p.tries) is lt;
          refused = subst (λ k. p.refused_at k ≡ Some x) is e;
          clean_before = subst (CleanBelow p) is c;
        }

    go : (told ps ≡ Some x → Tells ps x) →
        (first p.refused_at p.tries ≡ Some x) ⊎ ((first p.refused_at p.tries ≡ None) × (told ps ≡ Some x)) →
        Tells (p ∷ ps) x
    go later (inl h) = let (i, lt, at, c) = first_some p.refused_at p.tries x h in inl (here i lt at c)
    go later (inr h) = inr (none_first p.refused_at p.tries h.0, later h.1)

told_of : (ps : List Pass) (x : Refusal) → Tells ps x → told ps ≡ Some x
told_of [] x h = absurd h
told_of (p ∷ ps) x (inl r) =
    some_or _ _ x (first_at p.refused_at p.tries (place x) x r.clean_before r.refused r.tried)
told_of (p ∷ ps) x (inr (c, h)) =
    none_or _ _ (first_none p.refused_at p.tries c) ∙ told_of ps x h

pub tells_first : TellsFirst
tells_first ps named = ((clean ps, none_told ps), λ x. (tells ps named x, told_of ps x))

opening_named : (sh : Sheet) → NamesPlaces (opening_passes sh)
opening_named sh = (
  λ i x lt e. ap place (sym (unless_some _ _ x e)) ∙ omega arith,
  (
    λ i x lt e. records i x (or_some (unless (in_order sh i) (Order i)) (unless (in_range sh.format (record_at sh i)) (Range i)) x e),
    (
      λ i x lt e. ap place (sym (unless_some _ _ x e)),
      (λ i x lt e. ap place (sym (unless_some _ _ x e)), tt),
    ),
  ),
)
  where
    records : (i : ℕ) (x : Refusal) →
        (unless (in_order sh i) (Order i) ≡ Some x)
        ⊎ ((unless (in_order sh i) (Order i) ≡ None) × (unless (in_range sh.format (record_at sh i)) (Range i) ≡ Some x)) →
        place x ≡ i
    records i x (inl h) = ap place (sym (unless_some _ _ x h))
    records i x (inr h) = ap place (sym (unless_some _ _ x h.1))

pub opening_tells_first : OpeningTellsFirst
unfolding opening
opening_tells_first sh x = (tells_first (opening_passes sh) (opening_named sh)).1 x

-- THE PASSES OF AN OPENING, ONE BY ONE

-- what the answer of a pass says
pub ok_none : (o : Option Refusal) → Ok tt ≡ answered o → o ≡ None
ok_none None e = refl
ok_none (Some x) e = absurd (let z : ◌≡◌ {A = ℕ} 0 1 = cc in omega arith)

pub err_some : (o : Option Refusal) (x : Refusal) → Err x ≡ answered o → o ≡ Some x
err_some None x e = absurd (let z : ◌≡◌ {A = ℕ} 0 1 = cc in omega arith)
err_some (Some y) x e = cc

pub refused_answer : {o : Option Refusal} {x : Refusal} → o ≡ Some x → Err x ≡ answered o
refused_answer e = sym (ap answered e)

pub or_itself : (o : Option Refusal) → or_else o None ≡ o
or_itself None = refl
or_itself (Some x) = refl

module _ (sh : Sheet) where
  abbrev LengthNone : Type 0
  LengthNone = first (length_refused sh) 1 ≡ None

  abbrev RecordsNone : Type 0
  RecordsNone = first (record_refused sh) (count sh) ≡ None

  abbrev NamesNone : Type 0
  NamesNone = first (name_refused sh) (count sh + 1) ≡ None

  pub length_told : {x : Refusal} → first (length_refused sh) 1 ≡ Some x → opening sh ≡ Some x
  unfolding opening
  length_told e = simp e

  pub records_told : {x : Refusal} → LengthNone → first (record_refused sh) (count sh) ≡ Some x → opening sh ≡ Some x
  unfolding opening
  records_told a e = simp (a, e)

  pub names_told : {x : Refusal} → LengthNone → RecordsNone → first (name_refused sh) (count sh + 1) ≡ Some x →
      opening sh ≡ Some x
  unfolding opening
  names_told a b e = simp (a, b, e)

  pub sense_told : {o : Option Refusal} → LengthNone → RecordsNone → NamesNone →
      first (sense_refused sh) (count sh) ≡ o → opening sh ≡ o
  unfolding opening
  sense_told {o} a b c e = simp (a, b, c, e) (or_itself o)

  pub none_sorting : LengthNone → RecordsNone → sorting sh ≡ None
  unfolding sorting
  none_sorting a b = simp (a, b)

-- ROWS OF PASSES, ONE BEHIND THE OTHER

or_assoc : {X : Type 0} (a b c : Option X) → or_else a (or_else b c) ≡ or_else (or_else a b) c
or_assoc None b c = refl
or_assoc (Some x) b c = refl

-- the first row, and where it tells nothing the second
pub told_append : (ps qs : List Pass) → told (ps ++ qs) ≡ or_else (told ps) (told qs)
told_append [] qs = refl
told_append (p ∷ ps) qs =
    ap (or_else (first p.refused_at p.tries)) (told_append ps qs)
    ∙ or_assoc (first p.refused_at p.tries) (told ps) (told qs)
