-- The number and the place of each refusal of a sheet, and the answer of a call that refuses or not.
use Rattle.std.specs.Prelude.{ℕ, Some, None, Ok, Err, Option, Result}
use Rattle.layout.specs.declared.Refusal.{Refusal}
use Rattle.layout.specs.declared.Refusal.TheVariants.{Length, Order, Range, Absent, Contradiction, Unsafe}
use Rattle.layout.specs.declared.Refusal.TheVariants.{Incomplete}

abbrev pub number : Refusal → ℕ
number Length = 1
number (Order i) = 2
number (Range i) = 3
number (Absent i) = 4
number (Contradiction i) = 5
number (Unsafe i) = 6
number (Incomplete i) = 7

-- a record, counted from 0; the whole sheet at 0
abbrev pub place : Refusal → ℕ
place Length = 0
place (Order i) = i
place (Range i) = i
place (Absent i) = i
place (Contradiction i) = i
place (Unsafe i) = i
place (Incomplete i) = i

-- the answer of a call that refuses this, or nothing
abbrev pub answered : Option Refusal → Result (Unit {0}) Refusal
answered None = Ok tt
answered (Some x) = Err x

-- what a place holds after an answer: the new where nothing was refused
abbrev pub held : {X : Type 0} → Result (Unit {0}) Refusal → X → X → X
held (Ok u) new old = new
held (Err x) new old = old
