-- The productions of a lawful table, one by one.
use Rattle.std.proofs.Common.{◌≡◌, ℕ, zero, suc, ◌+◌, ◌^◌, ◌<◌, ◌≤◌, Bool, true, false, cond, ◌&&◌, ◌||◌, T, eqb, List, [], ◌∷◌, length, Some, None, Option, sym, refl, ap, ◌∙◌, subst, ⊎_elim, add-one, arith}
use mathlib.Core.Bool.{beq}
use Rattle.std.proofs.Math.Bool.{or_comm}
use Rattle.std.proofs.lemmas.Bool.{cases_order, eq-eqb, ne_eqb}
use Rattle.std.proofs.lemmas.Bool.Decides.{nat_tests}
use Rattle.syntax.specs.declared.Production.{Production}
use Rattle.syntax.specs.declared.Symbol.{Symbol}
use Rattle.syntax.specs.Grammar.{Rule, Grammar, start, terminals, productions, Present}
use Rattle.table.specs.Automaton.{Automaton, head}
use Rattle.table.specs.Lawful.{narrow, Lawful}
use Rattle.table.specs.Hints.{Hints, added, right_of}
use Rattle.table.specs.Completeness.{nullable_all, first_of}
use Rattle.layout.specs.Choices.{given, implies, before, run, below, some_below}
use Rattle.layout.specs.Checking.{same_test}
use Rattle.layout.specs.CompletenessTests.{rule_count, some_right, equations_hold}
use Rattle.hinted.specs.Sets.{Holds, InRange as HintsInRange}
use Rattle.wellformed.proofs.Tests.{none_some, some_same, T_some, T_given}
use Rattle.completeness.specs.Rights.{rights, BeginsAsAll}
use Rattle.completeness.proofs.Bits.{same_is}
use Rattle.completeness.proofs.Rights.{first_few}
use Rattle.wellformed.proofs.Sets.{Bounded}

-- the test of the right side of production p, if its left side is n
abbrev pub of_left : Grammar → ℕ → (List Symbol → Bool) → ℕ → Bool
of_left G n f p = given false (λ r. let y = f r.right in cond (eqb r.left n) y false) (G p)

-- the test of production p itself, likewise
abbrev pub if_left : Grammar → ℕ → (ℕ → Bool) → ℕ → Bool
if_left G n f p = given true (λ r. let y = f p in implies (eqb r.left n) y) (G p)

some_on : (f : ℕ → Bool) (p : ℕ) → some_below (p + 1) f ≡ f p || some_below p f
unfolding some_below
some_on f p = ap (λ k. some_below k f) (add-one p)

passed : (x y : Bool) → T (cond x y false) → T y
passed true y h = h
passed false y h = absurd h

pub agree : (x y : Bool) → beq x y ≡ true → x ≡ y
agree true true e = refl
agree true false e = sym e
agree false true e = e
agree false false e = refl

same_itself : (x : Bool) → true ≡ same_test x x
same_itself true = refl
same_itself false = refl

-- HOW MANY PRODUCTIONS THERE ARE

module _ {X : Type 0} where
  run_stops : (n : ℕ) (f : ℕ → Option X) (k : ℕ) → f k ≡ None → length (run n f) ≤ k
  unfolding run
  run_stops zero f k e = omega arith
  run_stops (suc n) f zero e = subst (λ o. length (before o (run n (λ j. f (suc j)))) ≤ 0) (sym e) (omega arith)
  run_stops (suc n) f (suc k) e = go (f 0) (run_stops n (λ j. f (suc j)) k e)
    where
      go : (o : Option X) → length (run n (λ j. f (suc j))) ≤ k → length (before o (run n (λ j. f (suc j)))) ≤ suc k
      go None le = omega arith
      go (Some x) le = omega arith

  run_few : (n : ℕ) (f : ℕ → Option X) → length (run n f) ≤ n
  unfolding run
  run_few zero f = omega arith
  run_few (suc n) f = go (f 0) (run_few n (λ j. f (suc j)))
    where
      go : (o : Option X) → length (run n (λ j. f (suc j))) ≤ n → length (before o (run n (λ j. f (suc j)))) ≤ suc n
      go None le = omega arith
      go (Some x) le = omega arith

  run_goes_on : (n : ℕ) (f : ℕ → Option X) (k : ℕ) → k < n → ((j : ℕ) → j ≤ k → Present (f j)) → k < length (run n f)
  unfolding run
  run_goes_on zero f k lt all = absurd (omega arith)
  run_goes_on (suc n) f k lt all = go k lt all (all 0 (omega arith)) (run_goes_on n (λ j. f (suc j)))
    where
      go : (k : ℕ) → k < suc n → ((j : ℕ) → j ≤ k → Present (f j)) → Present (f 0) →
          ((i : ℕ) → i < n → ((j : ℕ) → j ≤ i → Present (f (suc j))) → i < length (run n (λ j. f (suc j)))) →
          k < length (before (f 0) (run n (λ j. f (suc j))))
      go zero lt all (x, e) rec = subst (λ o. 0 < length (before o (run n (λ j. f (suc j))))) (sym e) (omega arith)
      go (suc k) lt all (x, e) rec =
          let more = rec k (omega arith) (λ j le. all (suc j) (omega arith)) in
          subst (λ o. suc k < length (before o (run n (λ j. f (suc j))))) (sym e) (omega arith)

module _ (M : Automaton) (lawful : Lawful narrow M) where
  abbrev G : Grammar
  G = M.grammar

  all_before : (p : ℕ) → Present (G p) → (j : ℕ) → j ≤ p → Present (G j)
  all_before zero here j le = let is : 0 ≡ j = omega arith in subst (λ k. Present (G k)) is here
  all_before (suc p) here j le =
      ⊎_elim
      (λ (q : j ≡ suc p). subst (λ k. Present (G k)) (sym q) here)
      (⊎_elim
      (λ (q : j < suc p). all_before p (lawful.rules_gapless p here) j (omega arith))
      (λ (q : suc p < j). absurd (omega arith)))
      (cases_order j (suc p))

  rule_of : (o : Option Rule) (x : Production) → head o ≡ Some x → (r : Rule) × (o ≡ Some r) × (r.left ≡ x.left)
  rule_of None x e = absurd (none_some e)
  rule_of (Some r) x e = (r, refl, ap (λ (y : Production). y.left) (some_same e))

  no_rule : (o : Option Rule) → head o ≡ None → o ≡ None
  no_rule None e = refl
  no_rule (Some r) e = absurd (none_some (sym e))

  -- production p is there: it is one of those that are counted
  pub counted : (p : ℕ) (x : Production) → head (G p) ≡ Some x → (p < productions) × (p < rule_count G)
  unfolding rule_count
  counted p x e =
      let (r, is, left) = rule_of (G p) x e in
      let few = (lawful.rules p r is).number in
      (few, run_goes_on productions G p few (all_before p (r, is)))

  -- it is not there: all are before it
  pub all_counted : (p : ℕ) → p ≤ rule_count G → head (G p) ≡ None → p ≡ rule_count G
  unfolding rule_count
  all_counted p le e = let stop = run_stops productions G p (no_rule (G p) e) in omega arith

  -- so they are below the most that there can be
  pub none_beyond : (p : ℕ) → p ≤ rule_count G → productions ≤ p → p ≡ rule_count G
  unfolding rule_count
  none_beyond p le most = omega (arith, run_few productions G)

  -- what it makes of a test over the productions of n

  rights_are : (p : ℕ) (r : Rule) → p < productions → G p ≡ Some r → rights G p ≡ r.right
  rights_are p r few is =
      let other : eqb p added ≡ false = grind (arith, nat_tests) in
      (λ i. given [] (λ α. α) (cond (other i) (Some (start ∷ [])) (right_of (is i))))

  module _ (n p : ℕ) (x : Production) (here : head (G p) ≡ Some x) (f : List Symbol → Bool) where
    takes : x.left ≡ n → of_left G n f p ≡ f (rights G p)
    takes own =
        let (r, is, left) = rule_of (G p) x here in
        let e = eq-eqb r.left n (left ∙ own) in
        ap (given false (λ r. cond (eqb r.left n) (f r.right) false)) is
        ∙ ap (λ b. cond b (f r.right) false) e
        ∙ ap f (sym (rights_are p r (counted p x here).0 is))

    skips : (x.left ≡ n → ⊥) → of_left G n f p ≡ false
    skips other =
        let (r, is, left) = rule_of (G p) x here in
        let e = ne_eqb r.left n (λ e. other (sym left ∙ e)) in
        ap (given false (λ r. cond (eqb r.left n) (f r.right) false)) is
        ∙ ap (λ b. cond b (f r.right) false) e

    pub some_takes : x.left ≡ n → some_below p (of_left G n f) || f (rights G p) ≡ some_below (p + 1) (of_left G n f)
    some_takes own =
        or_comm (some_below p (of_left G n f)) (f (rights G p))
        ∙ ap (λ b. b || some_below p (of_left G n f)) (sym (takes own))
        ∙ sym (some_on (of_left G n f) p)

    pub some_skips : (x.left ≡ n → ⊥) → some_below p (of_left G n f) ≡ some_below (p + 1) (of_left G n f)
    some_skips other =
        ap (λ b. b || some_below p (of_left G n f)) (sym (skips other)) ∙ sym (some_on (of_left G n f) p)

  module _ (n p : ℕ) (x : Production) (here : head (G p) ≡ Some x) (f : ℕ → Bool) where
    pub asks : x.left ≡ n → if_left G n f p ≡ f p
    asks own =
        let (r, is, left) = rule_of (G p) x here in
        ap (given true (λ r. implies (eqb r.left n) (f p))) is
        ∙ ap (λ b. implies b (f p)) (eq-eqb r.left n (left ∙ own))

    pub passes : (x.left ≡ n → ⊥) → if_left G n f p ≡ true
    passes other =
        let (r, is, left) = rule_of (G p) x here in
        ap (given true (λ r. implies (eqb r.left n) (f p))) is
        ∙ ap (λ b. implies b (f p)) (ne_eqb r.left n (λ e. other (sym left ∙ e)))

  -- their first terminals are terminals
  pub all_few : (H : Hints) → HintsInRange H → (n : ℕ) →
      Bounded terminals (λ a. some_right G n (λ α. first_of H α a))
  all_few H ranged n a h =
      let (p, lt, own) = T_some (rule_count G) (of_left G n (λ α. first_of H α a)) h in
      let (r, is, y) = T_given (λ r. cond (eqb r.left n) (first_of H r.right a) false) (G p) own in
      let first = passed (eqb r.left n) (first_of H r.right a) y in
      first_few H ranged r.right (lawful.rules p r is).symbols a first

  -- the right sides of n among the first p productions, taken together, where these are all
  pub together : (H : Hints) (n p m : ℕ) (b : Bool) → p ≡ rule_count G →
      Holds m (λ a. some_below p (of_left G n (λ α. first_of H α a))) → b ≡ some_below p (of_left G n (nullable_all H)) →
      BeginsAsAll M H n (record { firsts = m; nullable = b })
  together H n p m b all firsts nullable = record {
    firsts = λ a. firsts a ∙ ap (λ p. some_below p (of_left G n (λ α. first_of H α a))) all;
    nullable = nullable ∙ ap (λ p. some_below p (of_left G n (nullable_all H))) all;
  }

  -- x are the first terminals that are said of n, y those of its right sides, and on nullable they agree
  pub equations_are : (H : Hints) → HintsInRange H → (n x y : ℕ) → x < 2 ^ narrow → y < 2 ^ narrow →
      Holds x (H.firsts n) → Holds y (λ a. some_right G n (λ α. first_of H α a)) →
      H.nullable n ≡ some_right G n (nullable_all H) → eqb x y ≡ equations_hold M H n
  equations_are H ranged n x y fits fits' in_x in-y same =
      same_is x (H.firsts n) fits (ranged.firsts_fit n) in_x y (λ a. some_right G n (λ α. first_of H α a)) fits'
      (all_few H ranged n) in-y
      ∙ ap (λ b. b && below terminals (λ a. same_test (H.firsts n a) (some_right G n (λ α. first_of H α a))))
      (same_itself (H.nullable n) ∙ ap (same_test (H.nullable n)) same)
