-- Which refusal a row of passes tells: that of the first pass that fails, at its least place.
use Rattle.std.specs.Prelude.{◌≡◌, ℕ, ◌<◌, ◌⊎◌, ◌↔◌, List, [], ◌∷◌, Some, None}
use Rattle.layout.specs.declared.Refusal.{Refusal}
use Rattle.layout.specs.Refusals.{place}
use Rattle.layout.specs.Records.{Sheet}
use Rattle.layout.specs.Passes.{Pass, told}
use Rattle.layout.specs.Opening.{opening, opening_passes}

-- a pass finds nothing below a place
abbrev pub CleanBelow : Pass → ℕ → Type 0
CleanBelow p i = (k : ℕ) → k < i → p.refused_at k ≡ None

-- a pass refuses x, at the least place where it refuses anything
pub record RefusesFirst (p : Pass) (x : Refusal) : Type 0 where
  pub tried : place x < p.tries
  pub refused : p.refused_at (place x) ≡ Some x
  pub clean_before : CleanBelow p (place x)

-- the first pass of these that refuses anything refuses x
abbrev pub Tells : List Pass → Refusal → Type 0
Tells [] x = ⊥
Tells (p ∷ ps) x = RefusesFirst p x ⊎ (CleanBelow p p.tries × Tells ps x)

-- all of these find nothing
abbrev pub AllClean : List Pass → Type 0
AllClean [] = Unit {0}
AllClean (p ∷ ps) = CleanBelow p p.tries × AllClean ps

-- a pass names the place that it tried
abbrev pub NamesPlaces : List Pass → Type 0
NamesPlaces [] = Unit {0}
NamesPlaces (p ∷ ps) = ((i : ℕ) (x : Refusal) → i < p.tries → p.refused_at i ≡ Some x → place x ≡ i) × NamesPlaces ps

abbrev pub TellsFirst : Type 0
TellsFirst = (ps : List Pass) → NamesPlaces ps →
    ((told ps ≡ None) ↔ AllClean ps) × ((x : Refusal) → (told ps ≡ Some x) ↔ Tells ps x)

abbrev pub OpeningTellsFirst : Type 0
OpeningTellsFirst = (sh : Sheet) (x : Refusal) → (opening sh ≡ Some x) ↔ Tells (opening_passes sh) x
