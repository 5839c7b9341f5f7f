-- What the answer of the checker says of the bytes that it was given.
use Rattle.std.specs.Prelude.{◌≡◌, ℕ, ◌+◌, ◌↔◌, List, ◌++◌, Ok, Err, Option, Result}
use Rattle.layout.specs.declared.Refusal.{Refusal}
use Rattle.layout.specs.Choices.{first}
use Rattle.layout.specs.Records.{Sheet, sheet, count}
use Rattle.layout.specs.Opening.{opening_passes}
use Rattle.layout.specs.Checking.{unsafe_refused, incomplete_refused, checking_passes}
use Rattle.wellformed.specs.Told.{Tells}
use Rattle.exactness.specs.Exactness.{Meets}

-- an answer without the sheet that it hands out
abbrev pub answer_of : {A : Type 0} → Result A Refusal → Result (Unit {0}) Refusal
answer_of (Ok s) = Ok tt
answer_of (Err x) = Err x

-- nothing is refused exactly where the bytes are a well-formed sheet, safe and complete
abbrev pub Exact : Result (Unit {0}) Refusal → List ℕ → Type 0
Exact r bs = (r ≡ Ok tt) ↔ Meets (sheet bs)

-- and something exactly where the first pass that fails refuses it, at its least place
abbrev pub Told : Result (Unit {0}) Refusal → List ℕ → Type 0
Told r bs = (x : Refusal) → (r ≡ Err x) ↔ Tells (opening_passes (sheet bs) ++ checking_passes (sheet bs)) x

-- what the pass over safety finds
abbrev pub unsafe_found : Sheet → Option Refusal
unsafe_found sh = first (unsafe_refused sh) (count sh)

-- what the pass over completeness finds
abbrev pub incomplete_found : Sheet → Option Refusal
incomplete_found sh = first (incomplete_refused sh) (count sh + 1)
