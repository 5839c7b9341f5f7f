-- The completeness tests of a well-formed sheet pass exactly where its table is complete under its hints.
use Rattle.std.proofs.Common.{◌≡◌, Some, ℕ, ◌≤◌, false, T, Option, sym, subst, subst₂}
use Rattle.syntax.specs.Grammar.{terminals}
use Rattle.table.specs.Hints.{Set, ◌∈◌}
use Rattle.table.specs.Completeness.{Item, Complete}
use Rattle.layout.specs.declared.Letter.{Letter}
use Rattle.layout.specs.declared.Letter.TheVariants.{A, D, G, I, K, N, P, S}
use Rattle.layout.specs.Choices.{given}
use Rattle.layout.specs.Records.{Sheet, record_at, byte, set_in}
use Rattle.layout.specs.Meaning.{placed, automaton, hints}
use Rattle.layout.specs.CompletenessTests.{equations_hold, item_at}
use Rattle.layout.specs.Checking.{complete_as, initial_item}
use Rattle.layout.specs.Checking as by_record
use Rattle.wellformed.specs.Formed.{Formed}
use Rattle.wellformed.proofs.Tests.{present_T}
use Rattle.wellformed.proofs.Rows.{Row, row_of, placed_row}
use Rattle.wellformed.proofs.Lawful.{lawful}
use Rattle.wellformed.proofs.Bits.{some_member}
use Rattle.exactness.proofs.Letters.{EachRecord, OwnKey, passed_at, each_passes}
use Rattle.exactness.proofs.Hints.{look_row, known_row, ranged, hints_lawful}
use Rattle.exactness.proofs.Agree.{equations_same, item_same}
use Rattle.exactness.proofs.CompleteTable.{CompletenessTested, complete_of_tests, tests_of_complete}

-- what holds of the numbers in a record's key holds of those it is known by
with_key : (sh : Sheet) (l : Letter) (a b c i : ℕ) → Row sh l a b c i → (Q : ℕ → ℕ → ℕ → Type 0) →
    Q (byte sh i 1) (byte sh i 2) (byte sh i 3) → Q a b c
with_key sh l a b c i r Q h = subst (Q a b) r.is_3 (subst₂ (λ x y. Q x y (byte sh i 3)) r.is_1 r.is_2 h)

module _ (sh : Sheet) where
  -- the tests of the sheet's table
  abbrev equations_pass : ℕ → Type 0
  equations_pass n = T (equations_hold (automaton sh) (hints sh) n)

  abbrev item_passes : ℕ → ℕ → ℕ → Type 0
  item_passes s p d = T (item_at (automaton sh) (hints sh) s p d)

  abbrev Tested : Type 0
  Tested = CompletenessTested (automaton sh) (hints sh)

module _ (sh : Sheet) (w : Formed sh) where
  -- FROM THE RECORDS

  module _ (passed : EachRecord sh (complete_as sh)) where
    complete_at : (l : Letter) (a b c i : ℕ) → Row sh l a b c i → T (complete_as sh (record_at sh i) l)
    complete_at = passed_at sh (complete_as sh) passed

    equations_passed : (n : ℕ) → n ∈ (hints sh).known → equations_pass sh n
    equations_passed n h =
        let (i, r) = known_row sh w n h in
        subst T (equations_same sh w n)
        (subst (λ k. T (by_record.equations_hold sh k)) r.is_1 (complete_at N n 0 0 i r))

    item_passed : (s p d : ℕ) → Item (hints sh) s p d → item_passes sh s p d
    item_passed s p d (a, h) =
        let (i, r, k) = look_row sh s p d a h in
        subst T (item_same sh w s p d)
        (with_key sh I s p d i r (λ x y z. T (by_record.item_at sh x y z)) (complete_at I s p d i r))

    tested : T (initial_item sh) → Tested sh
    tested h = record { equations = equations_passed; items = item_passed; initial = h }

  -- TO THE RECORDS

  -- the item of a record has a look-ahead, where a set has room for it
  row_item : terminals ≤ sh.format.states → (s p d i : ℕ) → Row sh I s p d i → Item (hints sh) s p d
  row_item wide s p d i r =
      let (few, some) = (ranged sh w I s p d i r).1.1.1.1 in
      let (x, h) = some_member sh.format terminals _ wide few some in
      let at : Option ℕ → Set = given (λ x. false) (λ i. set_in sh.format (record_at sh i)) in
      (x, subst (λ o. x ∈ at o) (sym (placed_row sh w.sorted I s p d i r)) h)

  module _ (h : Tested sh) (wide : terminals ≤ sh.format.states) where
    item_at_record : (s p d i : ℕ) → placed sh I s p d ≡ Some i → T (by_record.item_at sh s p d)
    item_at_record s p d i e =
        subst T (sym (item_same sh w s p d)) (h.items s p d (row_item wide s p d i (row_of sh I s p d i e)))

    record_passes : (i : ℕ) (l : Letter) → OwnKey sh i l → T (complete_as sh (record_at sh i) l)
    record_passes i A e = tt
    record_passes i D e = tt
    record_passes i G e = tt
    record_passes i I e = item_at_record _ _ _ i e
    record_passes i K e = tt
    record_passes i N e =
        subst T (sym (equations_same sh w _)) (h.equations (byte sh i 1) (present_T (placed sh N (byte sh i 1) 0 0) i e))
    record_passes i P e = tt
    record_passes i S e = tt

  -- THE THEOREM

  pub complete_of_records : EachRecord sh (complete_as sh) → T (initial_item sh) →
      Complete (automaton sh) (hints sh)
  complete_of_records passed initial =
      complete_of_tests _ _ (lawful sh w) (hints_lawful sh w) (tested passed initial)

  pub records_of_complete : Complete (automaton sh) (hints sh) → terminals ≤ sh.format.states →
      EachRecord sh (complete_as sh)
  records_of_complete c wide =
      let h = tests_of_complete _ _ (lawful sh w) (hints_lawful sh w) c in
      each_passes sh (complete_as sh) w.sorted (record_passes h wide)
