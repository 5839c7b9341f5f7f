-- What no run exceeds.
use Rattle.std.proofs.Common.{◌≡◌, ℕ, ◌+◌, ◌≤◌, Bool, true, false, cond, leb, List, [], ◌∷◌, ◌++◌, reverse, length, sym, refl, ap, ◌∙◌, subst, arith}
use Rattle.std.proofs.lemmas.List.{length-reverse}
use Rattle.std.proofs.lemmas.Bool.{leb-true}
use Rattle.syntax.specs.Values.{Algebra}
use Rattle.theory.specs.Machine.{fresh}
use Rattle.theory.proofs.Hopeless.{replayed}
use Rattle.theory.proofs.Moves.{moves_level}
use Rattle.outcome.specs.declared.Outcome.{Outcome}
use Rattle.outcome.specs.declared.Call.{Call}
use Rattle.outcome.specs.declared.Call.TheVariants.{Turn, Stop, Mark, Report as Tell}
use Rattle.machine.specs.Reading.{State, most_steps}
use Rattle.machine.specs.Runs.{Run, after, granted, grant}
use Rattle.machine.specs.Promise.{Bounded, Bounds}
use Rattle.machine.proofs.Alike.{ends}
use Rattle.machine.proofs.Counts.{room_cells}
use Rattle.machine.proofs.Told.{Why, Told, tokens_are, list_is, cells_are, run_told}

granted_most : (cs : List Call) (g : ℕ) → g ≤ most_steps → granted g cs ≤ most_steps
granted_most [] g le = le
granted_most (Turn n ∷ cs) g le =
    granted_most cs (cond (leb (g + n) most_steps) (g + n) g) (by (leb (g + n) most_steps) refl)
  where
    by : (b : Bool) → leb (g + n) most_steps ≡ b → cond b (g + n) g ≤ most_steps
    by true h = leb-true (g + n) most_steps h
    by false h = le
granted_most (Tell ∷ cs) g le = granted_most cs g le
granted_most (Stop ∷ cs) g le = le
granted_most (Mark ∷ cs) g le = granted_most cs g le

module _ {V : Type 0} (R : Algebra V) (run : Run V) (r : State V) (T : Told R run (grant run) r) where
  bounded : Bounded run r
  bounded =
      let c = T.core in
      let w = run.stream.tokens in
      let moved = T.tracks.moved in
      let level = moves_level R run.table (ends run.stream.ending) r.steps w c moved in
      let count = ap length (cells_are R run (grant run) r T) in
      let turned_cells = length-reverse c.cells in
      let turned_values = length-reverse c.values in
      let high = T.tracks.high r.steps c (omega arith) moved in
      let P = replayed R run.table (ends run.stream.ending) r.steps (fresh w) c moved in
      let to_come = tokens_are R run (grant run) r T in
      let low = room_cells run.stack.cells (length c.cells) high in
      record {
        table_kept = ap (λ (s : State V). s.table) T.is;
        ending_kept = ap (λ (s : State V). s.stream.ending) T.is;
        tokens_left = (P.taken, P.rest_is ∙ ap (λ v. P.taken ++ v) (sym to_come));
        steps_granted = T.in_grant;
        grant_bounded = granted_most run.calls 0 (omega arith);
        cells_bounded = omega arith;
        list_grown = (reverse c.values, list_is R run (grant run) r T, omega arith);
        enough_trees = λ n is. subst (λ (o : Outcome). Why R run (grant run) o c r.steps) is T.why;
      }

pub bounds : (V : Type 0) → Bounds V
bounds V R run = bounded R run (after R run) (run_told R run)
