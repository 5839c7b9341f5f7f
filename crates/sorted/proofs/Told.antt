-- What the first two passes of an opening tell together.
use Rattle.std.proofs.Common.{◌≡◌, Some, None, Option}
use Rattle.layout.specs.declared.Refusal.{Refusal}
use Rattle.layout.specs.Records.{Sheet}
use Rattle.layout.specs.Opening.{length_found, records_found, sorting}
use Rattle.wellformed.proofs.Told.{or_itself}

pub length_told : (sh : Sheet) {x : Refusal} → length_found sh ≡ Some x → sorting sh ≡ Some x
unfolding sorting
length_told sh e = simp e

pub records_told : (sh : Sheet) {o : Option Refusal} → length_found sh ≡ None → records_found sh ≡ o → sorting sh ≡ o
unfolding sorting
records_told sh {o} a e = simp (a, e) (or_itself o)
