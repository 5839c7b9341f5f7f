-- The table that the practice sheet holds is the practice table.
use Rattle.std.proofs.Common.{◌≡◌, ℕ, zero, suc, ◌<◌, ◌≤◌, Bool, ◌&&◌, T, eqb, ltb, ◌⊎◌, None, refl, ap, subst, inl, inr, arith, ltb→lt}
use Rattle.table.specs.declared.Action.TheVariants.{Reject}
use Rattle.layout.specs.declared.Letter.{Letter}
use Rattle.layout.specs.declared.Letter.TheVariants.{A, D, G, P, S}
use Rattle.layout.specs.Choices.{mapped, given, first, gather, below, implies}
use Rattle.layout.specs.Records.{Sheet, sheet, count, record_at, byte, code}
use Rattle.layout.specs.Meaning.{placed, automaton}
use Rattle.layout.specs.Practice.{practice_bytes}
use Rattle.wellformed.proofs.Tests.{eq_T, T_and, T_implies, T_below}
use Rattle.wellformed.proofs.Rows.{Row, none_placed}
use Rattle.theory.specs.Practice.{rules, entries, defaults, actions, gotos, practice}

-- KEYS THAT NO RECORD HAS

module _ (sh : Sheet) (l : Letter) (m n : ℕ) where
  -- the first two numbers in the key of record i are below m and n, if its letter is l
  abbrev near : ℕ → Bool
  near i = implies (eqb (byte sh i 0) (code l)) (ltb (byte sh i 1) m && ltb (byte sh i 2) n)

  inside : T (below (count sh) near) → (a b i : ℕ) → Row sh l a b 0 i → (a < m) × (b < n)
  inside all a b i r =
      let (x, y) = T_and _ _ (T_implies _ _ (T_below _ near all i r.within) (eq_T _ _ r.is_0)) in
      (subst (λ k. k < m) r.is_1 (ltb→lt _ _ x), subst (λ k. k < n) r.is_2 (ltb→lt _ _ y))

  outside : (a b : ℕ) → (m ≤ a) ⊎ (n ≤ b) → (a < m) × (b < n) → ⊥
  outside a b (inl h) (x, y) = omega arith
  outside a b (inr h) (x, y) = omega arith

  -- where they are so in every record, no greater key is found
  beyond : T (below (count sh) near) → (a b : ℕ) → (m ≤ a) ⊎ (n ≤ b) → placed sh l a b 0 ≡ None
  beyond all a b far = none_placed sh l a b 0 (λ i r. outside a b far (inside all a b i r))

-- QUESTION BY QUESTION

abbrev held : Sheet
held = sheet practice_bytes

pub same_rule : (p : ℕ) → (automaton held).grammar p ≡ rules p
unfolding first gather below count record_at placed
same_rule zero = refl
same_rule (suc zero) = refl
same_rule (suc (suc p)) = ap (mapped _) (beyond held P 2 1 tt (suc (suc p)) 0 (inl (omega arith)))

pub same_entry : (s : ℕ) → (automaton held).incoming s ≡ entries s
unfolding first gather below count record_at placed
same_entry zero = refl
same_entry (suc zero) = refl
same_entry (suc (suc zero)) = refl
same_entry (suc (suc (suc s))) = ap (given None _) (beyond held S 3 1 tt (suc (suc (suc s))) 0 (inl (omega arith)))

pub same_default : (s : ℕ) → (automaton held).default s ≡ defaults s
unfolding first gather below count record_at placed
same_default zero = refl
same_default (suc zero) = refl
same_default (suc (suc zero)) = refl
same_default (suc (suc (suc s))) = ap (mapped _) (beyond held D 3 1 tt (suc (suc (suc s))) 0 (inl (omega arith)))

pub same_action : (s a : ℕ) → (automaton held).action s a ≡ actions s a
unfolding first gather below count record_at placed
same_action zero a = refl
same_action (suc zero) zero = refl
same_action (suc zero) (suc zero) = refl
same_action (suc zero) (suc (suc a)) = ap (given Reject _) (beyond held A 2 2 tt 1 (suc (suc a)) (inr (omega arith)))
same_action (suc (suc s)) a = ap (given Reject _) (beyond held A 2 2 tt (suc (suc s)) a (inl (omega arith)))

pub same_goto : (s n : ℕ) → (automaton held).goto s n ≡ gotos s n
unfolding first gather below count record_at placed
same_goto zero zero = refl
same_goto zero (suc n) = ap (mapped _) (beyond held G 1 1 tt 0 (suc n) (inr (omega arith)))
same_goto (suc s) n = ap (mapped _) (beyond held G 1 1 tt (suc s) n (inl (omega arith)))

-- as a whole
pub same_table : automaton (sheet practice_bytes) ≡ practice
same_table = λ i. record {
  grammar = λ p. same_rule p i;
  incoming = λ s. same_entry s i;
  default = λ s. same_default s i;
  action = λ s a. same_action s a i;
  goto = λ s n. same_goto s n i;
}
