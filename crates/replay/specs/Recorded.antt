-- What a recorder means, and what events make of it.
use Rattle.std.specs.Prelude.{◌≡◌, ℕ, min, List, [], map}
use Rattle.std.specs.Borrow.{MutBor}
use Rattle.sink.specs.Stacks.{Stack, endless, limited}
use Rattle.quota.specs.Capped.{capped}
use Rattle.trace.specs.Records.{leaf_record, node_record, postfix, places}
use Rattle.trace.specs.Meaning.{fresh as empty, meaning}
use Rattle.trace.specs.Grown.{overlaid}
use Rattle.replay.specs.declared.Event.{Event}
use Rattle.replay.specs.declared.Event.TheVariants.{Leaf, Node}
use Rattle.replay.specs.declared.recorder.Recorder.{Recorder}
use Rattle.replay.specs.Events.{Answer, sent_all, taken}

-- a new recorder over some bytes
abbrev pub fresh : ℕ → MutBor (List ℕ) → Recorder
fresh limit bytes = record { sink = record { left = limit; below = empty bytes } }

-- the list of its trace, with no more records than its quota leaves
abbrev pub recording : Recorder → Stack (List ℕ)
recording r = capped r.sink.left (meaning r.sink.below)

-- sent to the recorder a, the events come to the answer r and to the recorder b
abbrev pub Fed : List Event → Recorder → Answer → Recorder → Type 0
Fed events a r b = (r, recording b) ≡ sent_all postfix events (recording a)

-- no tree yet, and as many records as the limit and the whole places of the bytes allow
abbrev pub blank : ℕ → List ℕ → Stack (List ℕ)
blank limit bytes = record { list = []; records = limited (min limit (places bytes)); cells = endless }

-- the answer to events that are sent to a new recorder
abbrev pub first_answer : ℕ → List Event → List ℕ → Answer
first_answer limit events bytes = (sent_all postfix events (blank limit bytes)).0

abbrev pub record_of : Event → List ℕ
record_of (Leaf t) = leaf_record t
record_of (Node p k) = node_record p k

-- bytes with the records of the events that are taken, one behind the other, laid over their beginning
abbrev pub overwritten : ℕ → List Event → List ℕ → List ℕ
overwritten limit events bytes = overlaid bytes (map record_of (taken postfix events (blank limit bytes)))
