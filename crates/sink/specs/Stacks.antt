-- What a sink stands for, and what an event makes of it.
use Rattle.std.specs.Prelude.{ℕ, ◌+◌, ◌-◌, Bool, false, cond, ◌&&◌, ◌||◌, List, [], ◌∷◌, ◌++◌, length, take, drop, Ok, Err, Result, ◌==◌, nat_lt}
use Rattle.syntax.specs.declared.Token.{Token}
use Rattle.syntax.specs.Values.{Algebra}
use Rattle.sink.specs.declared.SinkFault.{SinkFault}
use Rattle.sink.specs.declared.SinkFault.TheVariants.{Full, TooFewTrees}

-- how many more
pub data Count : Type 0 where
  endless : Count
  limited : ℕ → Count

pub record Stack (V : Type 0) : Type 0 where
  -- the oldest first
  pub list : List V
  -- events that it can still take
  pub records : Count
  -- values that it can still hold
  pub cells : Count

abbrev pub spent : Count → Bool
spent endless = false
spent (limited n) = n == 0

-- k given back and one used
abbrev pub recount : ℕ → Count → Count
recount k endless = endless
recount k (limited n) = limited ((n + k) - 1)

-- k more
abbrev pub more : ℕ → Count → Count
more k endless = endless
more k (limited n) = limited (n + k)

-- all but the last k, and the last k
abbrev pub front : {A : Type 0} → ℕ → List A → List A
front k xs = take (length xs - k) xs

abbrev pub back : {A : Type 0} → ℕ → List A → List A
back k xs = drop (length xs - k) xs

module _ {V : Type 0} where
  -- an event with k children finds no room: no record is left, or a cell more is wanted and none is left
  abbrev pub full : ℕ → Stack V → Bool
  full k s = spent s.records || (spent s.cells && k == 0)

  -- v in the place of the last k
  abbrev pub sent : ℕ → V → Stack V → Stack V
  sent k v s = record {
    list = front k s.list ++ (v ∷ []);
    records = recount 0 s.records;
    cells = recount k s.cells;
  }

  -- how many values it can hold, those of the list among them
  abbrev pub capacity : Stack V → Count
  capacity s = more (length s.list) s.cells

  abbrev pub leaf_answer : Stack V → Result (Unit {0}) SinkFault
  leaf_answer s = cond (full 0 s) (Err (Full (length s.list))) (Ok tt)

  abbrev pub leaf_after : Algebra V → Token → Stack V → Stack V
  leaf_after R t s = cond (full 0 s) s (sent 0 (R.leaf_rule t) s)

  -- too few values for the children come before a full sink
  abbrev pub node_answer : ℕ → Stack V → Result (Unit {0}) SinkFault
  node_answer k s =
      cond (nat_lt (length s.list) k) (Err (TooFewTrees (length s.list)))
      (cond (full k s) (Err (Full (length s.list))) (Ok tt))

  abbrev pub node_after : Algebra V → ℕ → ℕ → Stack V → Stack V
  node_after R p k s =
      cond (nat_lt (length s.list) k || full k s) s (sent k (R.node_rule p (back k s.list)) s)
