-- What an event is answered with, and what it leaves, where it is not refused: for the authors of sinks.
use Rattle.std.proofs.Common.{◌≡◌, ℕ, ◌≤◌, false, ltb, length, Ok, ap, ◌∙◌, le-ltb}
use Rattle.syntax.specs.declared.Token.{Token}
use Rattle.syntax.specs.Values.{Algebra}
use Rattle.sink.specs.Stacks.{Stack, full, sent, back, leaf_answer, leaf_after, node_answer, node_after}

module _ {V : Type 0} (R : Algebra V) (s : Stack V) where
  module _ (t : Token) (room : full 0 s ≡ false) where
    pub leaf_ok : Ok tt ≡ leaf_answer s
    leaf_ok = rw room

    pub leaf_done : {v : V} {after : Stack V} → v ≡ R.leaf_rule t → after ≡ sent 0 v s → after ≡ leaf_after R t s
    leaf_done v-is e = rw room (e ∙ ap (λ w. sent 0 w s) v-is)

  module _ (p k : ℕ) (enough : k ≤ length s.list) (room : full k s ≡ false) where
    few : ltb (length s.list) k ≡ false
    few = le-ltb (length s.list) k enough

    pub node_ok : Ok tt ≡ node_answer k s
    node_ok = rw (few, room)

    pub node_done : {v : V} {after : Stack V} → v ≡ R.node_rule p (back k s.list) → after ≡ sent k v s →
        after ≡ node_after R p k s
    node_done v-is e = rw (few, room) (e ∙ ap (λ w. sent k w s) v-is)
