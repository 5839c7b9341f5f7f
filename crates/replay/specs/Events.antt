-- What becomes of a stack to which events are sent in order.
use Rattle.std.specs.Prelude.{◌≡◌, List, [], ◌∷◌, Ok, Err, Result}
use Rattle.syntax.specs.Values.{Algebra}
use Rattle.sink.specs.declared.Sink as sinks
use Rattle.sink.specs.declared.SinkFault.{SinkFault}
use Rattle.sink.specs.Stacks.{Stack, leaf_answer, leaf_after, node_answer, node_after}
use Rattle.replay.specs.declared.Event.{Event}
use Rattle.replay.specs.declared.Event.TheVariants.{Leaf, Node}

abbrev pub Answer : Type 0
Answer = Result (Unit {0}) SinkFault

-- go on after Ok, stop at a fault
abbrev pub next : {A : Type 0} → Answer → (SinkFault → A) → A → A
next (Ok u) stop on = on
next (Err f) stop on = stop f

module _ {V : Type 0} where
  abbrev pub answer : Event → Stack V → Answer
  answer (Leaf t) s = leaf_answer s
  answer (Node p k) s = node_answer k s

  abbrev pub after : Algebra V → Event → Stack V → Stack V
  after R (Leaf t) s = leaf_after R t s
  after R (Node p k) s = node_after R p k s

  -- the first answer that is a refusal, and what the events before it leave; those behind it are not sent
  abbrev pub sent_all : Algebra V → List Event → Stack V → Answer × Stack V
  sent_all R [] s = (Ok tt, s)
  sent_all R (e ∷ es) s = next (answer e s) (λ f. (Err f, s)) (sent_all R es (after R e s))

  -- the events before the first that is refused
  abbrev pub taken : Algebra V → List Event → Stack V → List Event
  taken R [] s = []
  taken R (e ∷ es) s = next (answer e s) (λ f. []) (e ∷ taken R es (after R e s))

-- sent to the sink a, the events come to the answer r and to the sink b
abbrev pub Sent : {K : Type 0} (k : sinks.Ghosts K) → List Event → K → Answer → K → Type 0
Sent k es a r b = (r, k.meaning b) ≡ sent_all k.algebra es (k.meaning a)
