-- The promise of runs.
use Rattle.std.proofs.Common.{◌≡◌, ℕ, suc, ◌<◌, ◌≤◌, Bool, true, ◌⊎◌, ◌++◌, reverse, length, Option, sym, refl, ap, ◌∙◌, subst, inl, inr, arith}
use Rattle.std.proofs.lemmas.Bool.{cases_lt}
use Rattle.syntax.specs.Grammar.{Kinded}
use Rattle.syntax.specs.Trees.{Tree, leaf, node, TreeOf, size, reach}
use Rattle.syntax.specs.Values.{Algebra}
use Rattle.table.specs.Automaton.{Automaton}
use Rattle.table.specs.Lawful.{Lawful}
use Rattle.table.specs.Validity.{Valid, safe_half, complete_half}
use Rattle.theory.specs.Machine.{Core, on, accepts, rejects, slips, fresh, move, moves}
use Rattle.theory.specs.Maps.{tree_algebra}
use Rattle.theory.specs.Theorems as theory
use Rattle.theory.proofs.Clash.{clash}
use Rattle.theory.proofs.View.{same_core}
use Rattle.theory.proofs.Sound.{accepts_only_trees}
use Rattle.theory.proofs.Safety.{never_slips}
use Rattle.theory.proofs.Completeness.{reads_every_tree}
use Rattle.theory.proofs.Onward.{stays_on_the_way, one_tree}
use Rattle.theory.proofs.Hopeless.{replayed, rejects_the_hopeless}
use Rattle.sink.specs.declared.SinkFault.TheVariants.{Full, TooFewTrees}
use Rattle.outcome.specs.declared.Halt.TheVariants.{Source, Sink, Cells, Slip}
use Rattle.outcome.specs.declared.Outcome.{Outcome}
use Rattle.outcome.specs.declared.Outcome.TheVariants.{More, Accepted, Rejected, Halted, Stopped}
use Rattle.machine.specs.Reading.{State, place_of_next}
use Rattle.machine.specs.Runs.{Run, after, grant, AtMost, Fits}
use Rattle.machine.specs.Promise.{ReadWhole, Hopeless, FittingTree, Promise}
use Rattle.machine.proofs.Alike.{ends, ends_true}
use Rattle.machine.proofs.Counts.{left_at_most, at_most_below, room, room_cells, room_sink}
use Rattle.machine.proofs.Tracks.{next_move}
use Rattle.machine.proofs.Told.{Waits, Why, Told, tokens_are, list_is, run_told}
use Rattle.table.specs.declared.Slip.{Slip as WhySlip}

-- what a valid table gives the machine without bounds
module _ {V : Type 0} {states : ℕ} (M : Automaton) (v : Valid states M) (R : Algebra V) where
  pub no_slips : theory.NoSlips R M
  no_slips = never_slips V states M (safe_half v) R

  pub reads_all : theory.ReadsAll R M
  reads_all = reads_every_tree V states M (complete_half v) R no_slips

size_positive : (t : Tree) → 1 ≤ size t
size_positive (leaf k) = omega arith
size_positive (node p ts) = omega arith

-- on the way to a tree the machine goes on, within the tree's reach, or has read it: so it neither rejects nor slips
module _ {V : Type 0} (R : Algebra V) (M : Automaton) (t : Tree) (k : ℕ) (c : Core V)
    (way : theory.OnTheWay R M t k c) where
  abbrev Goes : Type 0
  Goes = ((k < size t) × ((d : Core V) × (move R M true c ≡ on d) × (length d.cells ≤ reach t)))
      ⊎ (move R M true c ≡ accepts)

  goes : Goes
  goes = by (cases_lt k (size t))
    where
      by : (suc k ≤ size t) ⊎ (size t ≤ k) → Goes
      by (inl l) = inl (l, way.goes_on l)
      by (inr g) = let le = way.steps in inr (way.ends_well (omega arith))

  not_rejected : move R M true c ≡ rejects → ⊥
  not_rejected h = by goes
    where
      by : Goes → ⊥
      by (inl (l, (d, g, low))) = clash (cc)
      by (inr a) = clash (cc)

  not_slipped : (j : WhySlip) → move R M true c ≡ slips j → ⊥
  not_slipped j h = by goes
    where
      by : Goes → ⊥
      by (inl (l, (d, g, low))) = clash (cc)
      by (inr a) = clash (cc)

  -- nor does it outgrow the tree
  in_tree : (d : Core V) → move R M true c ≡ on d → (k < size t) × (length d.cells ≤ reach t)
  in_tree d h = by goes
    where
      by : Goes → (k < size t) × (length d.cells ≤ reach t)
      by (inl (l, (e, g, low))) =
          let same = same_core e d (sym g ∙ h) in
          (l, subst (λ (x : Core V). length x.cells ≤ reach t) same low)
      by (inr a) = absurd (clash (cc))

module _ {V : Type 0} (R : Algebra V) (run : Run V) where
  abbrev ending : Bool
  ending = ends run.stream.ending

  -- r is the reading at the end of the run
  module _ (r : State V) (T : Told R run (grant run) r) where
    -- why it has the outcome o
    abbrev Since : Outcome → Type 0
    Since o = Why R run (grant run) o T.core r.steps

    since : (o : Outcome) → r.outcome ≡ o → Since o
    since o is = subst Since is T.why

    to_come : r.stream.tokens ≡ T.core.rest
    to_come = tokens_are R run (grant run) r T

    -- what is accepted

    module _ (states : ℕ) (law : Lawful states run.table) (kinded : Kinded run.stream.tokens) where
      abbrev Read : Type 0
      Read =
          let L = room run.stack.cells in
          theory.TreeAccepted R run.table ending run.stream.tokens r.steps L T.core

      tree_accepted : r.outcome ≡ Accepted → Read
      tree_accepted is =
          accepts_only_trees V states run.table law R ending run.stream.tokens r.steps
          (room run.stack.cells) T.core kinded T.tracks.high T.tracks.moved (since Accepted is)

      read_whole : r.outcome ≡ Accepted → ReadWhole R run r
      read_whole is =
          let W = tree_accepted is in
          let listed = list_is R run (grant run) r T in
          record {
            has_ended = ends_true run.stream.ending W.has_ended;
            tree = W.tree;
            of_text = W.of_text;
            list_is = listed ∙ ap (λ vs. run.stack.list ++ reverse vs) W.value_is;
            steps_are = sym W.steps_are;
          }

      fitting_tree : r.outcome ≡ Accepted → FittingTree run
      fitting_tree is =
          let W = tree_accepted is in
          let t = W.tree in
          let count = W.steps_are in
          let granted_it = T.in_grant in
          let records = left_at_most run.stack.records r.steps T.records T.tracks.records_left in
          let fits : Fits run t = record {
            has_ended = ends_true run.stream.ending W.has_ended;
            in_grant = omega arith;
            in_records = at_most_below (size t) r.steps run.stack.records (omega arith) records;
            in_cells = room_cells run.stack.cells (reach t) W.cells_reach;
            in_sink = room_sink run.stack.cells (reach t) W.cells_reach;
          } in
          (t, W.of_text, fits)

    -- what a valid table adds

    module _ (states : ℕ) (v : Valid states run.table) where
      module _ (t : Tree) (o : TreeOf run.table.grammar run.stream.tokens t) (f : Fits run t) where
        same_end : ending ≡ true
        same_end = ap ends f.has_ended

        same_move : move R run.table true T.core ≡ next_move R run T.core
        same_move = ap (λ (b : Bool). move R run.table b T.core) (sym same_end)

        on_the_way : theory.OnTheWay R run.table t r.steps T.core
        on_the_way =
            let w = run.stream.tokens in
            let same = ap (λ (b : Bool). moves R run.table b r.steps (fresh w)) (sym same_end) in
            let all = reads_all run.table v R in
            stays_on_the_way V run.table R all w t o r.steps T.core (same ∙ T.tracks.moved)

        waits_no_more : Waits R run (grant run) T.core r.steps → ⊥
        waits_no_more (spent-it, inl none) =
            let a = f.in_grant in
            let b = size_positive t in
            omega arith
        waits_no_more (spent-it, inr not_yet) =
            let a = f.in_grant in
            let b = on_the_way.steps in
            not_yet (sym same_move ∙ on_the_way.ends_well (omega arith))

        room_enough : (d : Core V) → next_move R run T.core ≡ on d →
            (r.steps < size t) × (length d.cells ≤ reach t)
        room_enough d h = in_tree R run.table t r.steps T.core on_the_way d (same_move ∙ h)

        -- so neither what the sink has nor the cells run out
        abbrev Short : Core V → Type 0
        Short d =
            (AtMost (suc r.steps) run.stack.records → ⊥) ⊎ (AtMost (length d.cells) run.stack.cells → ⊥)

        not_short : (d : Core V) → next_move R run T.core ≡ on d → Short d → ⊥
        not_short d h (inl none) =
            none (at_most_below (suc r.steps) (size t) run.stack.records (room_enough d h).0 f.in_records)
        not_short d h (inr none) =
            none (at_most_below (length d.cells) (reach t) run.stack.cells (room_enough d h).1 f.in_sink)

        -- nothing but accepted is left
        accepted : (x : Outcome) → r.outcome ≡ x → Since x → r.outcome ≡ Accepted
        accepted More is y = absurd (waits_no_more y)
        accepted Accepted is y = is
        accepted (Rejected p) is y =
            absurd (not_rejected R run.table t r.steps T.core on_the_way (same_move ∙ y.0))
        accepted (Halted (Source g)) is y = let h = f.has_ended in absurd (clash (cc))
        accepted (Halted (Sink (Full n))) is (d, moved, short) = absurd (not_short d moved short)
        accepted (Halted (Sink (TooFewTrees n))) is y = absurd y
        accepted (Halted (Cells n)) is (d, moved, high) =
            let low = (room_enough d moved).1 in
            let a = f.in_cells in
            absurd (omega arith)
        accepted (Halted (Slip k)) is y =
            absurd (not_slipped R run.table t r.steps T.core on_the_way k (same_move ∙ y))
        accepted Stopped is y = absurd (waits_no_more y)

      fits_accepted : FittingTree run → r.outcome ≡ Accepted
      fits_accepted (t, o, f) = accepted t o f r.outcome refl T.why

      not_slipped_ever : (k : WhySlip) → r.outcome ≡ Halted (Slip k) → ⊥
      not_slipped_ever k is =
          let slipped = since (Halted (Slip k)) is in
          no_slips run.table v R ending r.steps run.stream.tokens T.core T.tracks.moved k slipped

      hopeless : (p : Option ℕ) → r.outcome ≡ Rejected p → Hopeless run r p
      hopeless p is =
          let (rejected, place, at_end) = since (Rejected p) is in
          let M = run.table in
          let n = r.steps in
          let c = T.core in
          let P = replayed R M ending n (fresh run.stream.tokens) c T.tracks.moved in
          let moved = subst (λ w. moves R M ending n (fresh w) ≡ on c) P.rest_is T.tracks.moved in
          let all = reads_all M v R in
          let H = rejects_the_hopeless V M R all ending n P.taken c.rest c moved refl rejected in
          record {
            taken = P.taken;
            text_is = P.rest_is ∙ ap (λ w. P.taken ++ w) (sym to_come);
            place_is = place ∙ ap place_of_next (sym to_come);
            token_refused = λ k ks next w made. H.token_refused k ks (sym to_come ∙ next) k w refl made;
            end_refused = λ none.
                let last = at_end (sym to_come ∙ none) in
                (last, λ made. H.end_refused (ap ends last) (sym to_come ∙ none) made);
          }

pub promise : (V : Type 0) → Promise V
promise V states R run law kinded =
    let T = run_told R run in
    let r = after R run in
    record {
      accepts_trees = read_whole R run r T states law kinded;
      one_tree = λ v. one_tree run.table (reads_all run.table v tree_algebra);
      accepts_what_fits = λ v. (fitting_tree R run r T states law kinded, fits_accepted R run r T states v);
      never_slips = λ v. not_slipped_ever R run r T states v;
      rejects_hopeless = λ v. hopeless R run r T states v;
    }
