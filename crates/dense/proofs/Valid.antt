-- Rows that pass all tests together with hints hold a valid table.
use Rattle.std.proofs.Common.{◌≡◌, ℕ, T, [], get_or, Some, sym, subst, subst₂, inl, inr}
use Rattle.table.specs.declared.Action.{Action}
use Rattle.table.specs.declared.Action.TheVariants.{Shift, Reduce, Accept, Reject}
use Rattle.table.specs.Lawful.{narrow}
use Rattle.table.specs.Completeness.{Item}
use Rattle.table.specs.Safety.{Edge, Reduces}
use Rattle.table.specs.Validity.{Valid}
use Rattle.layout.specs.Choices.{every}
use Rattle.layout.specs.SafetyTests.{edge_safe, reduce_safe, action_safe}
use Rattle.layout.specs.CompletenessTests.{equations_hold, item_at}
use Rattle.wellformed.proofs.Tests.{T_and, T_present}
use Rattle.wellformed.proofs.Says.{each, itself}
use Rattle.exactness.proofs.SafeTable.{SafetyTested, safe_of_tests}
use Rattle.exactness.proofs.CompleteTable.{CompletenessTested, complete_of_tests}
use Rattle.dense.specs.Rows.{Rows, automaton_of}
use Rattle.dense.specs.HintRows.{HintRows, hints_of}
use Rattle.dense.specs.ValidityTests.{safe_rows, item_complete, complete_rows, valid_rows}
use Rattle.dense.specs.Theorems.{TestedIsValid}
use Rattle.dense.proofs.Entries.{at_each, at_each_cell, at_found, some_at, some_cell}
use Rattle.dense.proofs.Lawful.{law_tested, lawful}
use Rattle.dense.proofs.Hints.{in_looks, hints_tested, hints_lawful}

module _ (R : Rows) (H : HintRows) where
  -- SAFETY

  -- the test of a state's actions passes at any terminal
  abbrev ActionsPass : Type 0
  ActionsPass = (s a : ℕ) (x : Action) → (automaton_of R).action s a ≡ x →
      T (action_safe narrow (automaton_of R) (hints_of H) s x)

  abbrev GotosPass : Type 0
  GotosPass = (s n t : ℕ) → (automaton_of R).goto s n ≡ Some t → T (edge_safe narrow (automaton_of R) (hints_of H) s t)

  abbrev DefaultsPass : Type 0
  DefaultsPass = (s p : ℕ) → (automaton_of R).default s ≡ Some p →
      T (reduce_safe narrow (automaton_of R) (hints_of H) s p)

  edge_passed : ActionsPass → GotosPass → (s t : ℕ) → Edge (automaton_of R) s t →
      T (edge_safe narrow (automaton_of R) (hints_of H) s t)
  edge_passed actions gotos s t (inl (a, e)) = actions s a (Shift t) e
  edge_passed actions gotos s t (inr (n, e)) = gotos s n t e

  reduce_passed : ActionsPass → DefaultsPass → (s p : ℕ) → Reduces (automaton_of R) s p →
      T (reduce_safe narrow (automaton_of R) (hints_of H) s p)
  reduce_passed actions defaults s p (inl e) = defaults s p e
  reduce_passed actions defaults s p (inr (a, e)) = actions s a (Reduce p) e

  safety_tested : T (safe_rows R H) → SafetyTested narrow (automaton_of R) (hints_of H)
  safety_tested passed =
      let (defaults, parts) = T_and _ _ passed in
      let (actions, gotos) = T_and _ _ parts in
      let on_default : DefaultsPass =
      some_at (reduce_safe narrow (automaton_of R) (hints_of H)) R.defaults defaults
      in
      let on_goto : GotosPass =
      some_cell (λ s n. edge_safe narrow (automaton_of R) (hints_of H) s) R.gotos gotos
      in
      let on_action : ActionsPass =
      λ s a x e.
      subst (λ y. T (action_safe narrow (automaton_of R) (hints_of H) s y)) e
      (at_each_cell (λ s a. action_safe narrow (automaton_of R) (hints_of H) s) R.actions Reject actions
      (λ s a. tt) s a)
      in
      record {
        edges = edge_passed on_action on_goto;
        reductions = reduce_passed on_action on_default;
        accepts = λ s a e. on_action s a Accept e;
      }

  -- COMPLETENESS

  item_passed : ((s : ℕ) → T (every (item_complete R H s) (get_or H.items s []))) → (s p d : ℕ) →
      Item (hints_of H) s p d → T (item_at (automaton_of R) (hints_of H) s p d)
  item_passed items s p d (a, k) =
      let all = (each (λ i. itself (item_complete R H s i)) (get_or H.items s [])).to (items s) in
      let (i, is-p, is-d, complete, look) = in_looks (λ i. T (item_complete R H s i)) _ all p d a k in
      subst₂ (λ q e. T (item_at (automaton_of R) (hints_of H) s q e)) is-p is-d complete

  completeness_tested : T (complete_rows R H) → CompletenessTested (automaton_of R) (hints_of H)
  unfolding every
  completeness_tested passed =
      let (names, parts) = T_and _ _ passed in
      let (items, initial) = T_and _ _ parts in
      record {
        equations = λ n k.
            let (x, e) = T_present _ k in
            at_found (λ n x. equations_hold (automaton_of R) (hints_of H) n) H.names names n x e;
        items = item_passed (at_each (λ s. every (item_complete R H s)) H.items [] items (λ s. tt));
        initial = initial;
      }

  -- THE THEOREM

  valid : T (valid_rows R H) → Valid narrow (automaton_of R)
  valid passed =
      let (law, parts) = T_and _ _ passed in
      let (fit, conditions) = T_and _ _ parts in
      let (safe, complete) = T_and _ _ conditions in
      let table_lawful = lawful R (law_tested R law) in
      let in_place = hints_lawful R H (hints_tested R H fit) in
      record {
        hints = hints_of H;
        lawful = table_lawful;
        hints_lawful = in_place;
        safe = safe_of_tests narrow (automaton_of R) (hints_of H) table_lawful in_place (safety_tested safe);
        complete =
            complete_of_tests (automaton_of R) (hints_of H) table_lawful in_place (completeness_tested complete);
      }

pub tested_is_valid : TestedIsValid
tested_is_valid R H e = valid R H (subst T (sym e) tt)
