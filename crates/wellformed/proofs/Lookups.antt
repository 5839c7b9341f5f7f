-- What the look-ups of an opening find in a sorted sheet.
use Rattle.std.proofs.Common.{◌≡◌, ℕ, ◌+◌, ◌*◌, ◌<◌, ◌≤◌, Bool, true, false, cond, T, eqb, ltb, ◌⊎◌, List, length, Some, None, Option, sym, refl, ap, ◌∙◌, subst, inl, inr, ⊎_elim, arith, lit<, eqb→eq}
use Rattle.std.proofs.lemmas.Bool.{cases_lt, cases_Bool}
use Rattle.syntax.specs.declared.Production.{Production}
use Rattle.table.specs.Automaton.{nth, head, symbol_at}
use Rattle.table.specs.Hints.{added}
use Rattle.layout.specs.declared.Letter.{Letter}
use Rattle.layout.specs.declared.Letter.TheVariants.{A, D, G, I, K, N, P, S}
use Rattle.layout.specs.Choices.{given, mapped, some_below, gather}
use Rattle.layout.specs.Records.{sixteen, sheet, count, record_at, at, byte, code, key_of, key, symbol, rule_in}
use Rattle.layout.specs.Meaning.{placed, automaton}
use Rattle.layout.specs.Search.{position}
use Rattle.layout.specs.Opening.{acts_in, right_length}
use Rattle.wellformed.specs.Formed.{InRangeOf, Sorted}
use Rattle.wellformed.proofs.Tests.{T_and, and_T, eq_T, T_some}
use Rattle.wellformed.proofs.Rows.{Row, known, second, third, range_at, row_of, row_number}
use Rattle.wellformed.proofs.Seeks.{Between, at_position, keys_rise}
use Rattle.wellformed.proofs.Loops.{some_hit, nth_gather_or}
use Rattle.wellformed.proofs.Lawful.{length_gather}

-- the numbers of a key are bytes
pub digits : (r : List ℕ) (l : Letter) → InRangeOf sixteen r l → (at r 1 < 256) × (second r l < 256) × (third r l < 256)
digits r A h = (omega (arith, h.0), omega (arith, h.1.0), omega arith)
digits r D h = (omega (arith, h.0), omega arith, omega arith)
digits r G h = (omega (arith, h.0), omega (arith, h.1.0), omega arith)
digits r I h = (omega (arith, h.0), item h.1.0, h.1.1.0)
  where
    item : (at r 2 < 64) ⊎ (at r 2 ≡ added) → at r 2 < 256
    item (inl x) = omega arith
    item (inr x) = omega arith
digits r K h = (omega (arith, h.0), omega (arith, h.1.0), omega arith)
digits r N h = (omega (arith, h.0), omega arith, omega arith)
digits r P h = (omega (arith, h.0), omega arith, omega arith)
digits r S h = (omega (arith, h.0), omega arith, omega arith)

first_letter : (l : Letter) → (l ≡ A) ⊎ (68 ≤ code l)
first_letter A = inl refl
first_letter D = inr (omega arith)
first_letter G = inr (omega arith)
first_letter I = inr (omega arith)
first_letter K = inr (omega arith)
first_letter N = inr (omega arith)
first_letter P = inr (omega arith)
first_letter S = inr (omega arith)

module _ (bs : List ℕ) (w : Sorted (sheet bs)) where
  -- the key of an action, by its state and its terminal
  action_key : (i : ℕ) → i < count (sheet bs) → byte (sheet bs) i 0 ≡ code A →
      (key (record_at (sheet bs) i) ≡ key_of 65 (byte (sheet bs) i 1) (byte (sheet bs) i 2) 0)
      × (byte (sheet bs) i 1 < 64) × (byte (sheet bs) i 2 < 32)
  action_key i lt e =
      let h = range_at (sheet bs) w A i lt e in
      let r : Row (sheet bs) A (byte (sheet bs) i 1) (byte (sheet bs) i 2) 0 i =
      record { within = lt; is_0 = e; is_1 = refl; is_2 = refl; is_3 = h.1.1.0 0 (lit< tt) }
      in
      (row_number (sheet bs) A _ _ 0 i r, h.0, h.1.0)

  -- a key is not below its letter's
  letter_below : (i : ℕ) (lt : i < count (sheet bs)) →
      code (known (sheet bs) w i lt).which * 16777216 ≤ key (record_at (sheet bs) i)
  letter_below i lt = let k = known (sheet bs) w i lt in let e = row_number (sheet bs) _ _ _ _ i k.row in omega arith

  -- where a state has an action, its first action stands where a search for it ends
  first_action : (s j i : ℕ) → i ≡ position (sheet bs) (key_of 65 s 0 0) → j < count (sheet bs) →
      byte (sheet bs) j 0 ≡ code A → byte (sheet bs) j 1 ≡ s →
      (i < count (sheet bs)) × (byte (sheet bs) i 0 ≡ code A) × (byte (sheet bs) i 1 ≡ s)
  first_action s j i is lt e f =
      let k = key_of 65 s 0 0 in
      let b = subst (λ p. Between (sheet bs) k p p) (sym is) (at_position (sheet bs) w k) in
      let (key-j, state-j, terminal-j) = action_key j lt e in
      let le : i ≤ j = ⊎_elim (λ (q : j < i). absurd (omega (arith, b.under j q))) (λ q. q) (cases_lt j i) in
      let top : i < count (sheet bs) = omega arith in
      let low : key_of 65 s 0 0 ≤ key (record_at (sheet bs) i) = b.over i (omega arith) top in
      let high = keys_rise (sheet bs) w i j le lt in
      let own = known (sheet bs) w i top in
      let is_A : byte (sheet bs) i 0 ≡ code A =
      ⊎_elim (λ q. own.is_letter ∙ ap code q) (λ q. absurd (omega (arith, letter_below i top))) (first_letter own.which)
      in
      let (key-i, state-i, terminal-i) = action_key i top is_A in
      (top, is_A, omega arith)

  no_action : (s i : ℕ) → i ≡ position (sheet bs) (key_of 65 s 0 0) →
      (i < count (sheet bs) → T (acts_in (sheet bs) s i) → ⊥) →
      some_below (count (sheet bs)) (acts_in (sheet bs) s) ≡ false
  no_action s i is none =
      ⊎_elim
      (λ q.
      let (j, lt, h) = T_some (count (sheet bs)) (acts_in (sheet bs) s) (subst T (sym q) tt) in
      let (x, y) = T_and _ _ h in
      let (top, l, n) = first_action s j i is lt (eqb→eq _ _ x) (eqb→eq _ _ y) in
      absurd (none top (and_T _ _ (eq_T _ _ l) (eq_T _ _ n))))
      (λ q. q)
      (cases_Bool (some_below (count (sheet bs)) (acts_in (sheet bs) s)))

  -- so that one record tells whether the state has any
  pub acts_there : (s i : ℕ) → i ≡ position (sheet bs) (key_of 65 s 0 0) → i < count (sheet bs) →
      acts_in (sheet bs) s i ≡ some_below (count (sheet bs)) (acts_in (sheet bs) s)
  acts_there s i is lt = go (acts_in (sheet bs) s i) refl
    where
      go : (t : Bool) → acts_in (sheet bs) s i ≡ t → t ≡ some_below (count (sheet bs)) (acts_in (sheet bs) s)
      go true e = sym (some_hit _ _ i lt e)
      go false e = sym (no_action s i is (λ lt h. subst T e h))

  pub acts_nowhere : (s i : ℕ) → i ≡ position (sheet bs) (key_of 65 s 0 0) → count (sheet bs) ≤ i →
      some_below (count (sheet bs)) (acts_in (sheet bs) s) ≡ false
  acts_nowhere s i is le = no_action s i is (λ lt h. omega arith)

-- PRODUCTIONS

module _ (bs : List ℕ) (p i : ℕ) (e : placed (sheet bs) P p 0 0 ≡ Some i) where
  rule_at : (automaton (sheet bs)).grammar p ≡ Some (rule_in (record_at (sheet bs) i))
  rule_at = ap (mapped (λ i. rule_in (record_at (sheet bs) i))) e

  pub head_at :
      Some (record { left = byte (sheet bs) i 4; length = byte (sheet bs) i 5 })
      ≡ head ((automaton (sheet bs)).grammar p)
  head_at =
      ap {B = Option Production} (λ n. Some (record { left = byte (sheet bs) i 4; length = n })) (sym (length_gather _ _))
      ∙ sym (ap head rule_at)

  pub symbol_in : (k : ℕ) →
      cond (ltb k (byte (sheet bs) i 5)) (Some (symbol (byte (sheet bs) i (8 + k)))) None
      ≡ symbol_at ((automaton (sheet bs)).grammar p) k
  symbol_in k =
      let there : nth (gather (byte (sheet bs) i 5) (λ k. symbol (byte (sheet bs) i (8 + k)))) k
      ≡ cond (ltb k (byte (sheet bs) i 5)) (Some (symbol (byte (sheet bs) i (8 + k)))) None
      = nth_gather_or _ _ k
      in
      sym (ap (λ o. symbol_at o k) rule_at ∙ there)

  pub short_production : Sorted (sheet bs) → byte (sheet bs) i 5 ≤ 8
  short_production w =
      let r = row_of (sheet bs) P p 0 0 i e in (range_at (sheet bs) w P i r.within r.is_0).1.1.1.1.0

-- the right side of a production that has its record
pub right_length_at : (bs : List ℕ) (p i : ℕ) → (p ≡ added → ⊥) → placed (sheet bs) P p 0 0 ≡ Some i →
    right_length (sheet bs) p ≡ Some (byte (sheet bs) i 5)
right_length_at bs p i other e = go (eqb p added) (eqb→eq p added)
  where
    go : (t : Bool) → (T t → p ≡ added) →
        cond t (Some 1) (given None (λ q. Some (length q.right)) ((automaton (sheet bs)).grammar p))
        ≡ Some (byte (sheet bs) i 5)
    go true h = absurd (other (h tt))
    go false h =
        ap (λ o. given None (λ q. Some (length q.right)) (mapped (λ i. rule_in (record_at (sheet bs) i)) o)) e
        ∙ ap {B = Option ℕ} Some (length_gather _ _)
