-- The safety tests of a well-formed sheet pass exactly where its table is safe under its hints.
use Rattle.std.proofs.Common.{◌≡◌, ℕ, T, ap, subst₂, inl, inr}
use Rattle.table.specs.declared.Action.{Action}
use Rattle.table.specs.declared.Action.TheVariants.{Shift, Reduce, Accept, Reject}
use Rattle.table.specs.Safety.{Edge, Reduces, Safe}
use Rattle.layout.specs.declared.Letter.{Letter}
use Rattle.layout.specs.declared.Letter.TheVariants.{A, D, G, I, K, N, P, S}
use Rattle.layout.specs.Choices.{given, mapped}
use Rattle.layout.specs.Records.{Sheet, record_at, byte, action_in}
use Rattle.layout.specs.Meaning.{automaton, hints}
use Rattle.layout.specs.SafetyTests.{edge_safe, reduce_safe, action_safe}
use Rattle.layout.specs.Checking.{safe_as}
use Rattle.wellformed.specs.Formed.{Formed}
use Rattle.wellformed.proofs.Rows.{Row}
use Rattle.wellformed.proofs.Lawful.{action_row, default_row, goto_row, reject_shift, reject_reduce, reject_accept, lawful}
use Rattle.exactness.proofs.Letters.{EachRecord, OwnKey, passed_at, each_passes}
use Rattle.exactness.proofs.Hints.{hints_lawful}
use Rattle.exactness.proofs.SafeTable.{SafetyTested, action_tested, safe_of_tests, tests_of_safe}

module _ (sh : Sheet) where
  -- the tests of the sheet's table
  abbrev edge_passes : ℕ → ℕ → Type 0
  edge_passes s t = T (edge_safe sh.format.states (automaton sh) (hints sh) s t)

  abbrev reduce_passes : ℕ → ℕ → Type 0
  reduce_passes s p = T (reduce_safe sh.format.states (automaton sh) (hints sh) s p)

  abbrev action_passes : ℕ → Action → Type 0
  action_passes s x = T (action_safe sh.format.states (automaton sh) (hints sh) s x)

  abbrev Tested : Type 0
  Tested = SafetyTested sh.format.states (automaton sh) (hints sh)

  -- FROM THE RECORDS

  module _ (passed : EachRecord sh (safe_as sh)) where
    safe_at : (l : Letter) (a b c i : ℕ) → Row sh l a b c i → T (safe_as sh (record_at sh i) l)
    safe_at = passed_at sh (safe_as sh) passed

    action_passed : (s a : ℕ) (x : Action) → (Reject ≡ x → ⊥) → (automaton sh).action s a ≡ x → action_passes s x
    action_passed s a x other e =
        let (i, r, is) = action_row sh s a x other e in
        subst₂ (λ k y. action_passes k y) r.is_1 is (safe_at A s a 0 i r)

    edge_passed : (s t : ℕ) → Edge (automaton sh) s t → edge_passes s t
    edge_passed s t (inl (a, e)) = action_passed s a (Shift t) (reject_shift t) e
    edge_passed s t (inr (n, e)) =
        let (i, r, is) = goto_row sh s n t e in subst₂ edge_passes r.is_1 is (safe_at G s n 0 i r)

    reduce_passed : (s p : ℕ) → Reduces (automaton sh) s p → reduce_passes s p
    reduce_passed s p (inl e) =
        let (i, r, is) = default_row sh s p e in subst₂ reduce_passes r.is_1 is (safe_at D s 0 0 i r)
    reduce_passed s p (inr (a, e)) = action_passed s a (Reduce p) (reject_reduce p) e

    tested : Tested
    tested = record {
      edges = edge_passed;
      reductions = reduce_passed;
      accepts = λ s a e. action_passed s a Accept reject_accept e;
    }

  -- TO THE RECORDS

  record_passes : Tested → (i : ℕ) (l : Letter) → OwnKey sh i l → T (safe_as sh (record_at sh i) l)
  record_passes h i A e =
      action_tested _ _ _ h _ _ _ (ap (given Reject (λ i. action_in (record_at sh i))) e)
  record_passes h i D e = h.reductions _ _ (inl (ap (mapped (λ i. byte sh i 4)) e))
  record_passes h i G e = h.edges _ _ (inr (byte sh i 2, ap (mapped (λ i. byte sh i 4)) e))
  record_passes h i I e = tt
  record_passes h i K e = tt
  record_passes h i N e = tt
  record_passes h i P e = tt
  record_passes h i S e = tt

module _ (sh : Sheet) (w : Formed sh) where
  pub safe_of_records : EachRecord sh (safe_as sh) → Safe (automaton sh) (hints sh)
  safe_of_records passed = safe_of_tests _ _ _ (lawful sh w) (hints_lawful sh w) (tested sh passed)

  pub records_of_safe : Safe (automaton sh) (hints sh) → EachRecord sh (safe_as sh)
  records_of_safe safe =
      let h = tests_of_safe _ _ _ (lawful sh w) (hints_lawful sh w) safe in
      each_passes sh (safe_as sh) w.sorted (record_passes sh h)
