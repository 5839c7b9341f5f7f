-- The tests of a well-formed sheet, which go over its records, are those of its table and hints.
use Rattle.std.proofs.Common.{◌≡◌, ℕ, ◌<◌, Bool, true, false, ◌&&◌, T, eqb, List, [], ◌∷◌, drop, Some, None, Option, sym, refl, ap, ap₂, subst, lit<, eqb→eq}
use Rattle.syntax.specs.declared.Symbol.{Symbol}
use Rattle.syntax.specs.declared.Symbol.TheVariants.{Terminal, Nonterminal}
use Rattle.syntax.specs.Grammar.{Rule, terminals}
use Rattle.table.specs.Automaton.{Automaton}
use Rattle.table.specs.Hints.{Set, Hints, right_side}
use Rattle.table.specs.Completeness.{nullable_all, first_of, wanted, SomeRight}
use Rattle.layout.specs.declared.Letter.TheVariants.{P}
use Rattle.layout.specs.Choices.{given, mapped, implies, below}
use Rattle.layout.specs.Records.{Sheet, count, record_at, byte, code, rule_in}
use Rattle.layout.specs.Meaning.{automaton, hints}
use Rattle.layout.specs.Opening.{has_letter}
use Rattle.layout.specs.Checking.{subset, same_test, is_rule_of}
use Rattle.layout.specs.Checking as by_record
use Rattle.layout.specs.CompletenessTests.{some_right, each_rule, equations_hold, one_dot_on, item_complete, item_at}
use Rattle.wellformed.specs.Formed.{Formed}
use Rattle.wellformed.proofs.Tests.{eq_T, T_and, and_T, below_same}
use Rattle.wellformed.proofs.Says.{Says, itself, says_as, one_test, if_so, all_below, one_below}
use Rattle.wellformed.proofs.Rows.{Row, range_at, placed_row}
use Rattle.wellformed.proofs.Lawful.{rule_row, lawful}
use Rattle.exactness.proofs.Hints.{hints_lawful}
use Rattle.exactness.proofs.CompleteTable.{says_and_then, says_right, says_each}

module _ (sh : Sheet) (w : Formed sh) where
  abbrev M : Automaton
  M = automaton sh

  abbrev H : Hints
  H = hints sh

  -- PRODUCTIONS AND THEIR RECORDS

  record_rule : (n i : ℕ) → i < count sh → T (is_rule_of sh n i) →
      (M.grammar (byte sh i 1) ≡ Some (rule_in (record_at sh i))) × (byte sh i 4 ≡ n)
  record_rule n i lt h =
      let (x, y) = T_and (has_letter sh P i) (eqb (byte sh i 4) n) h in
      let letter : byte sh i 0 ≡ code P = eqb→eq _ _ x in
      let z = (range_at sh w.sorted P i lt letter).1.0 in
      let r : Row sh P (byte sh i 1) 0 0 i =
      record { within = lt; is_0 = letter; is_1 = refl; is_2 = z 0 (lit< tt); is_3 = z 1 (lit< tt) }
      in
      (ap (mapped (λ i. rule_in (record_at sh i))) (placed_row sh w.sorted P _ 0 0 i r), eqb→eq _ _ y)

  rule_record : (p : ℕ) (q : Rule) → M.grammar p ≡ Some q →
      (i : ℕ) × (i < count sh) × T (is_rule_of sh q.left i) × (byte sh i 1 ≡ p) × (rule_in (record_at sh i) ≡ q)
  rule_record p q e =
      let (i, r, is) = rule_row sh p q e in
      (i, r.within, and_T _ _ (eq_T _ _ r.is_0) (eq_T _ _ (ap (λ (x : Rule). x.left) is)), r.is_1, is)

  records_say_right : (n : ℕ) (f : List Symbol → Bool) →
      Says (by_record.some_right sh n f) (SomeRight M.grammar n (λ α. T (f α)))
  records_say_right n f =
      says_as
      (λ (i, lt, (of_n, h)).
      let (e, left) = record_rule n i lt of_n in (byte sh i 1, rule_in (record_at sh i), e, left, h))
      (λ (p, q, e, left, h).
      let (i, lt, of_left, at, is) = rule_record p q e in
      (i, lt, (subst (λ k. T (is_rule_of sh k i)) left of_left, subst (λ (r : Rule). T (f r.right)) (sym is) h)))
      (one_below (count sh) (λ i. says_and_then (itself (is_rule_of sh n i)) (itself (f (rule_in (record_at sh i)).right))))

  -- every record of a production of n passes f by its number
  abbrev each_record : ℕ → (ℕ → Bool) → Bool
  each_record n f = below (count sh) (λ i. let y = f (byte sh i 1) in implies (is_rule_of sh n i) y)

  records_say_each : (n : ℕ) (f : ℕ → Bool) →
      Says (each_record n f) ((q : ℕ) (r : Rule) → M.grammar q ≡ Some r → r.left ≡ n → T (f q))
  records_say_each n f =
      says_as
      (λ g q r e left.
      let (i, lt, of_left, at, is) = rule_record q r e in
      subst (λ k. T (f k)) at (g i lt (subst (λ k. T (is_rule_of sh k i)) left of_left)))
      (λ g i lt of_n. let (e, left) = record_rule n i lt of_n in g (byte sh i 1) (rule_in (record_at sh i)) e left)
      (all_below (count sh) (λ i. if_so (is_rule_of sh n i) (itself (f (byte sh i 1)))))

  -- THE TESTS

  some_right_same : (n : ℕ) (f : List Symbol → Bool) → by_record.some_right sh n f ≡ some_right M.grammar n f
  some_right_same n f =
      one_test (records_say_right n f) (says_right M H (lawful sh w) (hints_lawful sh w) n f)

  each_rule_same : (n : ℕ) (f : ℕ → Bool) → each_record n f ≡ each_rule M.grammar n f
  each_rule_same n f =
      one_test (records_say_each n f) (says_each M H (lawful sh w) (hints_lawful sh w) n (λ q. itself (f q)))

  pub equations_same : (n : ℕ) → by_record.equations_hold sh n ≡ equations_hold M H n
  equations_same n =
      ap₂ (λ x y. x && y)
      (ap (same_test (H.nullable n)) (some_right_same n (nullable_all H)))
      (below_same terminals _ _ (λ a lt. ap (same_test (H.firsts n a)) (some_right_same n (λ α. first_of H α a))))

  module _ (s p d : ℕ) where
    item_complete_same : (X : Set) (γ : List Symbol) →
        by_record.item_complete sh s p d X γ ≡ item_complete M H s p d X γ
    item_complete_same X [] = refl
    item_complete_same X (Terminal b ∷ β) = refl
    item_complete_same X (Nonterminal n ∷ β) =
        ap (λ x. x && given true (one_dot_on M H p d X) (M.goto s n))
        (each_rule_same n (λ q. subset terminals (wanted H β X) (H.look_aheads s q 0)))

    pub item_same : by_record.item_at sh s p d ≡ item_at M H s p d
    item_same = go (right_side M.grammar p)
      where
        go : (o : Option (List Symbol)) →
            given false (λ α. by_record.item_complete sh s p d (H.look_aheads s p d) (drop d α)) o
            ≡ given false (λ α. item_complete M H s p d (H.look_aheads s p d) (drop d α)) o
        go None = refl
        go (Some α) = item_complete_same (H.look_aheads s p d) (drop d α)
