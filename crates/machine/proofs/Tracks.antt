-- A reading follows the machine without bounds, step by step, and where it ends by itself it has a reason.
use Rattle.std.proofs.Common.{◌≡◌, ℕ, suc, ◌+◌, ◌<◌, ◌≤◌, Bool, true, false, cond, ◌&&◌, ◌||◌, eqb, ltb, leb, ◌⊎◌, List, [], ◌∷◌, ◌++◌, reverse, length, take, Some, None, Ok, Err, Option, Result, sym, refl, ap, ◌∙◌, subst, inl, inr, arith}
use Rattle.std.proofs.lemmas.List.{length-append, length-reverse, length-drop}
use Rattle.std.proofs.lemmas.Bool.{eqb-true, leb-true, leb-false, le-ltb, cases_lt, and_parts, and_left, or_cases, or_parts}
use Rattle.syntax.specs.declared.Token.{Token}
use Rattle.syntax.specs.Grammar.{Rule}
use Rattle.syntax.specs.Values.{Algebra}
use Rattle.table.specs.declared.Action.{Action}
use Rattle.table.specs.declared.Action.TheVariants.{Shift, Reduce, Accept, Reject}
use Rattle.table.specs.Automaton.{Automaton}
use Rattle.theory.specs.Machine.{Core, core, fresh, current, Move, on, accepts, rejects, slips, carry_start, with_node}
use Rattle.theory.specs.Machine.{landing_of, shift_to, land, reduce_by, accept_with, perform, move, moves}
use Rattle.theory.specs.Theorems.{Within}
use Rattle.theory.proofs.Clash.{clash}
use Rattle.theory.proofs.View.{same_core, Works, shift_works, reduce_works, has_landed}
use Rattle.theory.proofs.Moves.{moves_more, moves_level}
use Rattle.source.specs.declared.SourceFault.{SourceFault}
use Rattle.source.specs.Streams.{end, fault, Stream, rest, dropped}
use Rattle.sink.specs.declared.SinkFault.{SinkFault}
use Rattle.sink.specs.declared.SinkFault.TheVariants.{Full, TooFewTrees}
use Rattle.sink.specs.Stacks.{Count, Stack, spent, recount, front, back, sent}
use Rattle.outcome.specs.declared.Halt.TheVariants.{Source, Sink, Cells, Slip}
use Rattle.outcome.specs.declared.Outcome.{Outcome}
use Rattle.outcome.specs.declared.Outcome.TheVariants.{More, Accepted, Rejected, Halted, Stopped}
use Rattle.machine.specs.Reading.{State, most_cells, place_of_next, found_in, settled, stepped, sent_to, if_room}
use Rattle.machine.specs.Reading.{halt, found, shifting, going, reducing, step_by, step}
use Rattle.machine.specs.Runs.{Run, AtMost}
use Rattle.machine.proofs.Alike.{ends, without_fault, stream_of, found_alike, found_fault, found_reject}
use Rattle.machine.proofs.Alike.{landing_alike, start_alike}
use Rattle.machine.proofs.Counts.{Left, left_at_most, spent_at_most, left_on, room, in_room}
use Rattle.machine.proofs.Turned.{pushed, replaced, back_turned, last_turned}
use Rattle.table.specs.declared.Slip.{Slip as WhySlip}
use Rattle.table.specs.declared.Slip.TheVariants.{FewCells, AtEnd}

module _ {V : Type 0} (R : Algebra V) (run : Run V) where
  -- what stood at new
  abbrev M : Automaton
  M = run.table

  abbrev stream : Stream
  stream = run.stream

  abbrev K : Stack V
  K = run.stack

  -- the reading where the machine is at c, after n steps, with what is left of the sink's records and cells
  abbrev pub at : Core V → Count → Count → ℕ → Outcome → State V
  at c a b n o = record {
    table = M;
    cells = reverse c.cells;
    stack = record { list = K.list ++ reverse c.values; records = a; cells = b };
    stream = stream_of c.rest stream.ending;
    steps = n;
    outcome = o;
  }

  -- the machine without bounds, on the same text
  abbrev pub next_move : Core V → Move V
  next_move c = move R M (ends stream.ending) c

  abbrev pub moves_made : ℕ → Move V
  moves_made n = moves R M (ends stream.ending) n (fresh stream.tokens)

  abbrev pub Inside : ℕ → ℕ → Type 0
  Inside n L = Within R M (ends stream.ending) stream.tokens n L

  -- n steps and the counts left are those of n moves that led to c
  pub record Tracks (c : Core V) (a b : Count) (n : ℕ) : Type 0 where
    pub moved : moves_made n ≡ on c
    pub records_left : Left K.records n a
    pub cells_left : Left K.cells (length c.cells) b
    pub high : Inside n (room K.cells)

  -- why a reading at c ended by itself after n steps
  abbrev pub Reason : Outcome → Core V → ℕ → Type 0
  Reason More c n = ⊥
  Reason Accepted c n = next_move c ≡ accepts
  Reason (Rejected p) c n =
      (next_move c ≡ rejects) × (p ≡ place_of_next c.rest) × (c.rest ≡ [] → stream.ending ≡ end)
  Reason (Halted (Source f)) c n = stream.ending ≡ fault f
  Reason (Halted (Sink (Full m))) c n =
      (d : Core V) × (next_move c ≡ on d)
      × ((AtMost (suc n) K.records → ⊥) ⊎ (AtMost (length d.cells) K.cells → ⊥))
  Reason (Halted (Sink (TooFewTrees m))) c n = ⊥
  Reason (Halted (Cells m)) c n = (d : Core V) × (next_move c ≡ on d) × (most_cells < length d.cells)
  Reason (Halted (Slip k)) c n = next_move c ≡ slips k
  Reason Stopped c n = ⊥

  -- r is one step on, still tracking
  abbrev pub WentOn : ℕ → State V → Type 0
  WentOn n r = (d : Core V) × (a b : Count) × (r ≡ at d a b (n + 1) More) × Tracks d a b (n + 1)

  abbrev pub Stepped : Core V → Count → Count → ℕ → State V → Type 0
  Stepped c a b n r = WentOn n r ⊎ ((o : Outcome) × (r ≡ at c a b n o) × Reason o c n)

  -- a reading with the parts of one that tracks d
  same_parts : (d : Core V) (a b : Count) (n : ℕ) (ss : List ℕ) (vs : List V) (w : List Token) →
      ss ≡ reverse d.cells → vs ≡ K.list ++ reverse d.values → w ≡ d.rest →
      ◌≡◌ {A = State V} (record {
        table = M;
        cells = ss;
        stack = record { list = vs; records = a; cells = b };
        stream = stream_of w stream.ending;
        steps = n;
        outcome = More;
      }) (at d a b n More)
  same_parts d a b n ss vs w e f g = λ i. record {
    table = M;
    cells = e i;
    stack = record { list = f i; records = a; cells = b };
    stream = stream_of (g i) stream.ending;
    steps = n;
    outcome = More;
  }

  inside_more : (n L : ℕ) (d : Core V) → Inside n L → moves_made (n + 1) ≡ on d → length d.cells ≤ L →
      Inside (n + 1) L
  inside_more n L d W h le m c lm hm = go (cases_lt m (n + 1))
    where
      go : (suc m ≤ n + 1) ⊎ (n + 1 ≤ m) → length c.cells ≤ L
      go (inl l) = W m c (omega arith) hm
      go (inr g) =
          let same : m ≡ n + 1 = omega arith in
          let there = sym h ∙ ap (λ k. moves_made k) (sym same) ∙ hm in
          subst (λ (x : Core V). length x.cells ≤ L) (same_core d c there) le

  module _ (c : Core V) (a b : Count) (n : ℕ) (T : Tracks c a b n) where
    abbrev r : State V
    r = at c a b n More

    level : length c.values ≡ length c.cells
    level = moves_level R M (ends stream.ending) n stream.tokens c T.moved

    -- an event with k children finds the sink full
    abbrev no_room : ℕ → Bool
    no_room k = spent a || (spent b && eqb k 0)

    -- an event with k children, by which the machine goes on to d
    module _ (k : ℕ) (d : Core V) (goes : next_move c ≡ on d)
        (grows : length d.cells + k ≡ length c.cells + 1) where
      tracks_on : length d.cells ≤ most_cells → no_room k ≡ false → Tracks d (recount 0 a) (recount k b) (n + 1)
      tracks_on low free =
          let (records, cells) = or_parts (spent a) (spent b && eqb k 0) free in
          let moved = moves_more R M (ends stream.ending) n (fresh stream.tokens) c (on d) T.moved goes in
          let old = length c.cells in
          let now = length d.cells in
          let records_left = left_on K.records n (n + 1) 0 a T.records_left (and_left (spent a) true records) in
          let cells_left = left_on K.cells old now k b T.cells_left cells grows in
          let high = in_room K.cells now low (left_at_most K.cells now (recount k b) cells_left) in
          record {
            moved = moved;
            records_left = records_left (omega arith);
            cells_left = cells_left;
            high = inside_more n (room K.cells) d T.high moved high;
          }

      sink_reason : (m : ℕ) → no_room k ≡ true → Reason (Halted (Sink (Full m))) c n
      sink_reason m f = (d, goes, go (or_cases (spent a) (spent b && eqb k 0) f))
        where
          go : (spent a ≡ true) ⊎ ((spent b && eqb k 0) ≡ true) →
              (AtMost (suc n) K.records → ⊥) ⊎ (AtMost (length d.cells) K.cells → ⊥)
          go (inl h) = inl (spent_at_most K.records n a T.records_left h)
          go (inr h) =
              let (none, bare) = and_parts (spent b) (eqb k 0) h in
              let childless = eqb-true k 0 bare in
              let one_more : suc (length c.cells) ≡ length d.cells = omega arith in
              let full_cells = spent_at_most K.cells (length c.cells) b T.cells_left none in
              inr (subst (λ (x : ℕ). AtMost x K.cells → ⊥) one_more full_cells)

      module _ (m : ℕ) (ss : List ℕ) (stack : Stack V) (to_come : Stream)
          (there : stepped ss stack to_come r ≡ at d (recount 0 a) (recount k b) (n + 1) More) where
        long : length ss ≡ length d.cells
        long = ap (λ (x : State V). length x.cells) there ∙ length-reverse d.cells

        abbrev next : Bool → State V
        next f = stepped ss (cond f r.stack stack) to_come r

        -- a cell too many, then a full sink, then the step
        tried : Stepped c a b n (if_room (cond (no_room k) (Err (Full m)) (Ok tt)) r (next (no_room k)))
        tried = go (leb (length ss) most_cells) refl (no_room k) refl
          where
            go : (x : Bool) → leb (length ss) most_cells ≡ x → (f : Bool) → no_room k ≡ f → Stepped c a b n
                (cond x (sent_to (cond f (Err (Full m)) (Ok tt)) r (next f)) (halt r (Cells n)))
            go true low true f = inr (Halted (Sink (Full m)), refl, sink_reason m f)
            go true low false f =
                let le = leb-true (length ss) most_cells low in
                let same = long in
                inl (d, recount 0 a, recount k b, there, tracks_on (omega arith) f)
            go false high f h =
                let lt = leb-false (length ss) most_cells high in
                let same = long in
                inr (Halted (Cells n), refl, (d, goes, omega arith))

        -- before a full sink, too few trees for the children
        abbrev refusal : Bool → Result (Unit {0}) SinkFault
        refusal few = cond few (Err (TooFewTrees m)) (cond (no_room k) (Err (Full m)) (Ok tt))

        tried_with : (few : Bool) → few ≡ false → Stepped c a b n (if_room (refusal few) r (next (few || no_room k)))
        tried_with true e = absurd (clash (cc))
        tried_with false e = tried

    -- where the leaf or the node leads

    leaf_there : (t : ℕ) (k : Token) (w : List Token) → c.rest ≡ k ∷ w →
        stepped (r.cells ++ (t ∷ [])) (sent 0 (R.leaf_rule k) r.stack) (dropped r.stream) r
        ≡ at (core (t ∷ c.cells) (R.leaf_rule k ∷ c.values) w) (recount 0 a) (recount 0 b) (n + 1) More
    leaf_there t k w is =
        let v = R.leaf_rule k in
        let d = core (t ∷ c.cells) (v ∷ c.values) w in
        let vs = front 0 r.stack.list ++ (v ∷ []) in
        let listed = replaced K.list c.values 0 v (omega arith) in
        same_parts d (recount 0 a) (recount 0 b) (n + 1) (r.cells ++ (t ∷ [])) vs (rest c.rest)
        (pushed [] c.cells t) listed (ap rest is)

    abbrev noded : ℕ → ℕ → Stack V
    noded p k = sent k (R.node_rule p (back k r.stack.list)) r.stack

    node_there : (p k t : ℕ) → k ≤ length c.cells →
        stepped (front k r.cells ++ (t ∷ [])) (noded p k) r.stream r
        ≡ at (with_node R p k t c) (recount 0 a) (recount k b) (n + 1) More
    node_there p k t le =
        let enough : k ≤ length c.values = omega (arith, level) in
        let kids = back_turned K.list c.values k enough in
        let v = R.node_rule p (reverse (take k c.values)) in
        let node_is = ap (λ xs. front k r.stack.list ++ (R.node_rule p xs ∷ [])) kids in
        same_parts (with_node R p k t c) (recount 0 a) (recount k b) (n + 1) (front k r.cells ++ (t ∷ []))
        (front k r.stack.list ++ (R.node_rule p (back k r.stack.list) ∷ [])) c.rest
        (replaced [] c.cells k t le) (node_is ∙ replaced K.list c.values k v enough) refl

    enough_trees : (k : ℕ) → k ≤ length c.cells → ltb (length r.stack.list) k ≡ false
    enough_trees k le =
        let sum = length-append K.list (reverse c.values) in
        let turned = length-reverse c.values in
        le-ltb (length r.stack.list) k (omega (arith, level))

    shift_steps : (t : ℕ) (w : List Token) → c.rest ≡ w → next_move c ≡ shift_to R t c.cells c.values w →
        Stepped c a b n (shifting R t r w)
    shift_steps t [] is h = inr (Halted (Slip AtEnd), refl, h)
    shift_steps t (k ∷ w) is h =
        let v = R.leaf_rule k in
        let d = core (t ∷ c.cells) (v ∷ c.values) w in
        tried 0 d h (omega arith) (length r.stack.list) (r.cells ++ (t ∷ [])) (sent 0 v r.stack)
        (dropped r.stream) (leaf_there t k w is)

    node_steps : (p k t : ℕ) → k ≤ length c.cells → next_move c ≡ on (with_node R p k t c) →
        Stepped c a b n (going R p k r (Ok t))
    node_steps p k t le h =
        let fewer = length-drop k c.cells in
        let old = r.stack.list in
        tried_with k (with_node R p k t c) h (omega arith) (length old) (front k r.cells ++ (t ∷ []))
        (noded p k) r.stream (node_there p k t le) (ltb (length old) k)
        (enough_trees k le)

    -- a shift, a reduce or an accept that the machine finds too

    land_steps : (p : ℕ) (rule : Rule) (l : Result ℕ WhySlip) → landing_of M rule c.cells ≡ l →
        next_move c ≡ land R p (length rule.right) c l → Stepped c a b n (going R p (length rule.right) r l)
    land_steps p rule (Err k) is h = inr (Halted (Slip k), refl, h)
    land_steps p rule (Ok t) is h =
        let k = length rule.right in
        let le = leb-true k (length c.cells) (has_landed M rule c.cells t is).enough in
        node_steps p k t le h

    reduce_steps : (p : ℕ) (o : Option Rule) → next_move c ≡ reduce_by R M p o c → Stepped c a b n (reducing R p o r)
    reduce_steps p None h = inr (Halted (Slip FewCells), refl, h)
    reduce_steps p (Some rule) h =
        let same = sym (landing_alike M rule c.cells) in
        subst (λ l. Stepped c a b n (going R p (length rule.right) r l)) same
        (land_steps p rule (landing_of M rule c.cells) refl h)

    accept_settles : next_move c ≡ accept_with M c.cells →
        Reason (cond (carry_start M (reverse c.cells)) Accepted (Halted (Slip AtEnd))) c n
    accept_settles h =
        subst (λ x. Reason (cond x Accepted (Halted (Slip AtEnd))) c n) (sym (start_alike M c.cells))
        (go (carry_start M c.cells) h)
      where
        go : (x : Bool) → next_move c ≡ cond x accepts (slips AtEnd) → Reason (cond x Accepted (Halted (Slip AtEnd))) c n
        go true g = g
        go false g = g

    -- what is found

    abbrev finds : Result Action SourceFault
    finds = found M (current c.cells) (stream_of c.rest stream.ending)

    found_is : found_in r ≡ finds
    found_is = ap (λ s. found M s (stream_of c.rest stream.ending)) (last_turned c.cells)

    move_is : next_move c ≡ perform R M c (without_fault finds)
    move_is = ap (perform R M c) (found_alike M (current c.cells) stream.ending c.rest)

    fault_settles : (f : SourceFault) → finds ≡ Err f → Reason (Halted (Source f)) c n
    fault_settles f e = found_fault M (current c.cells) stream.ending c.rest f e

    reject_settles : finds ≡ Ok Reject → next_move c ≡ rejects → Reason (Rejected (place_of_next c.rest)) c n
    reject_settles e h = (h, refl, found_reject M (current c.cells) stream.ending c.rest e)

    pub step_tracks : Stepped c a b n (step R r)
    step_tracks = subst (λ x. Stepped c a b n (step_by R r x)) (sym found_is) (go finds refl move_is)
      where
        go : (x : Result Action SourceFault) → finds ≡ x → next_move c ≡ perform R M c (without_fault x) →
            Stepped c a b n (step_by R r x)
        go (Err f) e h = inr (Halted (Source f), refl, fault_settles f e)
        go (Ok (Shift t)) e h = shift_steps t c.rest refl h
        go (Ok (Reduce p)) e h = reduce_steps p (M.grammar p) h
        go (Ok Accept) e h = inr (settled r (Ok Accept), refl, accept_settles h)
        go (Ok Reject) e h = inr (Rejected (place_of_next c.rest), refl, reject_settles e h)

    -- with no step left: an accept is not overlooked
    abbrev pub Looked : Outcome → Type 0
    Looked o = ((o ≡ More) × (next_move c ≡ accepts → ⊥)) ⊎ Reason o c n

    pub look_tracks : Looked (settled r (found_in r))
    look_tracks = subst (λ x. Looked (settled r x)) (sym found_is) (go finds refl move_is)
      where
        go : (x : Result Action SourceFault) → finds ≡ x → next_move c ≡ perform R M c (without_fault x) →
            Looked (settled r x)
        go (Err f) e h = inr (fault_settles f e)
        go (Ok (Shift t)) e h =
            inl (refl, λ g. subst Works (sym h ∙ g) (shift_works R M t c.cells c.values c.rest))
        go (Ok (Reduce p)) e h = inl (refl, λ g. subst Works (sym h ∙ g) (reduce_works R M p (M.grammar p) c))
        go (Ok Accept) e h = inr (accept_settles h)
        go (Ok Reject) e h = inr (reject_settles e h)
