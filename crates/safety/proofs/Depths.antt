-- Sets of states, depth by depth and bit by bit.
use Rattle.std.proofs.Common.{◌≡◌, ℕ, zero, suc, ◌+◌, ◌-◌, ◌*◌, ◌/◌, ◌^◌, ◌<◌, ◌≤◌, Bool, true, false, not, ◌&&◌, T, eqb, ◌⊎◌, List, [], ◌∷◌, length, drop, is_some, Some, None, Option, sym, refl, ap, ◌∙◌, subst, ap₂, inl, inr, ⊎_elim, div-lt_iff_lt-mul, one-mul, arith, drop_of_length-le, pow_pos}
use native.Mathlib.Nat.{pow-le-pow_right}
use lib.Bits.{bit_and}
use Rattle.std.proofs.lemmas.Bool.{cases_lt, cases_Bool, lt-ltb, le-ltb, ne_eqb, false≢true}
use Rattle.std.specs.Option.{MatchOption}
use Rattle.table.specs.Automaton.{Automaton, nth}
use Rattle.table.specs.Lawful.{narrow}
use Rattle.table.specs.Hints.{Set, Hints, shadow}
use Rattle.layout.specs.Choices.{given, present, implies, below}
use Rattle.layout.specs.Records.{sixteen, member}
use Rattle.layout.specs.Checking.{subset, covers}
use Rattle.layout.specs.SafetyTests.{all_go, initial_alone}
use Rattle.wellformed.proofs.Tests.{T_below, below_T, below_same}
use Rattle.hinted.specs.Sets.{Holds, HoldsIfAny}
use Rattle.hinted.proofs.Lists.{nth_some, nth_none}
use Rattle.hinted.proofs.Held.{holds_some, holds_none}
use Rattle.wellformed.proofs.Bits.{stands_none, stands_one, subset_is, alone_is, member_low}
use Rattle.safety.specs.Parts.{alone, marked}

-- THE STATE ITSELF

-- below 64 it is as it would be without a bound
alone_same : (s x : ℕ) → x < narrow → alone s x ≡ eqb s x
alone_same s x lt = ap (λ b. b && eqb s x) (lt-ltb x narrow lt)

pub covers_marked : (H : Hints) (s : ℕ) (xs : List Set) → covers narrow xs (marked H s) ≡ covers narrow xs (shadow H s)
unfolding covers
covers_marked H s [] = refl
covers_marked H s (X ∷ xs) =
    ap (λ b. b && covers narrow xs (H.past_sets s))
    (below_same narrow _ _ (λ x lt. ap (λ b. implies b (X x)) (alone_same s x lt)))

pub go_marked : (M : Automaton) (H : Hints) (s n k : ℕ) →
    given false (λ X. all_go narrow M H X n) (nth (marked H s) k)
    ≡ given false (λ X. all_go narrow M H X n) (nth (shadow H s) k)
go_marked M H s n zero =
    below_same narrow _ _ (λ x lt. ap (λ b. implies b (present (M.goto x n))) (alone_same s x lt))
go_marked M H s n (suc k) = refl

-- the number that has its bit alone
pub alone_held : (s : ℕ) → s < narrow → Holds (2 ^ s) (alone s)
alone_held s lt x = stands_one sixteen s lt x ∙ go (cases_lt x narrow)
  where
    go : (x < narrow) ⊎ (narrow ≤ x) → eqb s x ≡ alone s x
    go (inl q) = sym (alone_same s x q)
    go (inr q) = ne_eqb s x (λ e. omega arith) ∙ sym (ap (λ b. b && eqb s x) (le-ltb x narrow q))

pub beyond_held : (s : ℕ) → narrow ≤ s → Holds 0 (alone s)
beyond_held s le x = stands_none sixteen x ∙ go (cases_lt x narrow)
  where
    go : (x < narrow) ⊎ (narrow ≤ x) → false ≡ alone s x
    go (inl q) = sym (alone_same s x q ∙ ne_eqb s x (λ e. omega arith))
    go (inr q) = sym (ap (λ b. b && eqb s x) (le-ltb x narrow q))

-- NUMBERS AND THE SETS THAT THEY HOLD

held : (m : ℕ) (X : Set) → Holds m X → member sixteen m ≡ X
held m X h i x = h x i

-- lower & set == lower
pub within_is : (lower set : ℕ) → lower < 2 ^ narrow →
    eqb (bit_and lower set) lower ≡ subset narrow (member sixteen lower) (member sixteen set)
within_is lower set lt = subset_is sixteen narrow (omega arith) lower _ lt (λ x. refl) set _ (λ x. refl)

-- set == 1
pub initial_is : (set : ℕ) → set < 2 ^ narrow →
    eqb set 1 ≡ member sixteen set 0 && subset narrow (member sixteen set) (eqb 0)
initial_is set lt = alone_is sixteen narrow (omega arith) set _ lt (λ x. refl) (omega arith)

-- DEPTH BY DEPTH

-- from depth d on
abbrev pub covers_from : ℕ → List Set → List Set → Bool
covers_from d xs ys = covers narrow (drop d xs) (drop d ys)

module _ (xs ys : List Set) (d : ℕ) where
  -- the sets at depth d are there
  pub covers_next : (set lower : ℕ) → HoldsIfAny (Some set) (nth xs d) → HoldsIfAny (Some lower) (nth ys d) →
      covers_from d xs ys
      ≡ subset narrow (member sixteen lower) (member sixteen set) && covers_from (d + 1) xs ys
  unfolding covers
  covers_next set lower p q =
      let (X, e, in_x) = holds_some set (nth xs d) p in
      let (Y, f, in-y) = holds_some lower (nth ys d) q in
      ap₂ (covers narrow) (nth_some xs d X e) (nth_some ys d Y f)
      ∙ ap₂ (λ P Q. subset narrow P Q && covers_from (d + 1) xs ys) (sym (held lower Y in-y)) (sym (held set X in_x))

  -- the second one is not
  pub covers_short : (set : ℕ) → HoldsIfAny (Some set) (nth xs d) → HoldsIfAny None (nth ys d) →
      covers_from d xs ys ≡ false
  unfolding covers
  covers_short set p q =
      let (X, e, in_x) = holds_some set (nth xs d) p in
      ap₂ (covers narrow) (nth_some xs d X e) (nth_none ys d (holds_none (nth ys d) q))

  -- the first one is not
  pub covers_done : HoldsIfAny None (nth xs d) → covers_from d xs ys ≡ true
  unfolding covers
  covers_done p = ap (λ zs. covers narrow zs (drop d ys)) (nth_none xs d (holds_none (nth xs d) p))

  pub covers_end : length xs ≤ d → covers_from d xs ys ≡ true
  unfolding covers
  covers_end le = ap (λ zs. covers narrow zs (drop d ys)) (drop_of_length-le xs le)

-- what is left from depth d on decides
pub decided : (H : Hints) (s d : ℕ) (xs : List Set) {b : Bool} →
    covers_from d xs (marked H s) ≡ covers_from 0 xs (marked H s) → covers_from d xs (marked H s) ≡ b →
    b ≡ covers narrow xs (shadow H s)
decided H s d xs kept e = sym e ∙ kept ∙ covers_marked H s xs

-- BIT BY BIT

-- what is left above s is not 0
pub more_bits : (set s : ℕ) → set < 2 ^ narrow → (set / 2 ^ s ≡ 0 → ⊥) → s < narrow
more_bits set s lt some =
    ⊎_elim
    (λ (q : s < narrow). q)
    (λ (q : narrow ≤ s).
    let p : 2 ^ narrow ≤ 2 ^ s = pow-le-pow_right {n = 2} (omega arith) q in
    let k : set < 1 * 2 ^ s = rw one-mul (omega arith) in
    let z : set / 2 ^ s < 1 = (div-lt_iff_lt-mul (pow_pos s)).1 k in
    absurd (some (omega arith)))
    (cases_lt s narrow)

-- nothing is left from s on
pub no_more : (set s x : ℕ) → set / 2 ^ s ≡ 0 → s ≤ x → member sixteen set x ≡ false
no_more set s x e le =
    ⊎_elim (λ (q : member sixteen set x ≡ true). absurd (no (subst T (sym q) tt))) (λ q. q) (cases_Bool _)
  where
    no : T (member sixteen set x) → ⊥
    no h =
        let z : set / 2 ^ s < 1 = omega arith in
        let k : set < 1 * 2 ^ s = (div-lt_iff_lt-mul (pow_pos s)).0 z in
        let few : set < 2 ^ s = rw one-mul at k in
        let lt = member_low sixteen s set x few h in
        omega arith

says_true : {b : Bool} → T b → b ≡ true
says_true {b = true} h = refl
says_true {b = false} h = absurd h

module _ (M : Automaton) (H : Hints) (set n : ℕ) where
  -- the test of state s
  abbrev pub goes : ℕ → Bool
  goes s = implies (member sixteen set s) (present (M.goto s n))

  -- states that are not in the set need no goto
  pub skip : (s t : ℕ) → below s goes ≡ true → ((x : ℕ) → s ≤ x → x < s + t → member sixteen set x ≡ false) →
      below (s + t) goes ≡ true
  skip s t e none = says_true (below_T (s + t) goes test)
    where
      test : (k : ℕ) → k < s + t → T (goes k)
      test k lt =
          ⊎_elim
          (λ (q : k < s). T_below s goes (subst T (sym e) tt) k q)
          (λ (q : s ≤ k). subst (λ b. T (implies b (present (M.goto k n)))) (sym (none k q lt)) tt)
          (cases_lt k s)

  -- a state that is in it goes if it has one
  pub goes_is : (s : ℕ) (o : Option ℕ) → member sixteen set s ≡ true → o ≡ M.goto s n → goes s ≡ is_some o
  goes_is s o e f = ap (λ b. implies b (present (M.goto s n))) e ∙ ap present (sym f) ∙ there o
    where
      there : (o : Option ℕ) → present o ≡ is_some o
      there None = refl
      there (Some x) = refl

  -- and none of those beyond the last
  pub all_tested : (s : ℕ) → s ≤ narrow → below s goes ≡ true → set / 2 ^ s ≡ 0 →
      all_go narrow M H (member sixteen set) n ≡ true
  all_tested s le e none =
      let all : s + (narrow - s) ≡ narrow = omega arith in
      subst (λ k. below k goes ≡ true) all (skip s (narrow - s) e (λ x from to. no_more set s x none from))

-- BELOW A STATE

pub go_found : (M : Automaton) (H : Hints) (s n k set : ℕ) → HoldsIfAny (Some set) (nth (marked H s) k) →
    all_go narrow M H (member sixteen set) n ≡ given false (λ X. all_go narrow M H X n) (nth (shadow H s) k)
go_found M H s n k set h =
    let (X, e, in_x) = holds_some set (nth (marked H s) k) h in
    ap (λ P. all_go narrow M H P n) (held set X in_x)
    ∙ sym (ap (given false (λ X. all_go narrow M H X n)) e)
    ∙ go_marked M H s n k

pub go_absent : (M : Automaton) (H : Hints) (s n k : ℕ) → HoldsIfAny None (nth (marked H s) k) →
    false ≡ given false (λ X. all_go narrow M H X n) (nth (shadow H s) k)
go_absent M H s n k h =
    sym (ap (given false (λ X. all_go narrow M H X n)) (holds_none (nth (marked H s) k) h)) ∙ go_marked M H s n k

-- THE INITIAL STATE ALONE

abbrev initial : ℕ → Bool
initial m = member sixteen m 0 && subset narrow (member sixteen m) (eqb 0)

module _ (M : Automaton) (H : Hints) where
  one_set : (m : ℕ) (xs : List Set) (o : Option ℕ) (b : Bool) → HoldsIfAny (Some m) (nth xs 0) →
      HoldsIfAny o (nth xs 1) → is_some o ≡ not b → true ≡ initial m → b ≡ initial_alone narrow M H xs
  one_set m [] o b h k n e = absurd h
  one_set m (X ∷ []) (Some y) b h k n e = absurd k
  one_set m (X ∷ []) None true h k n e = e ∙ ap (λ Y. Y 0 && subset narrow Y (eqb 0)) (held m X h)
  one_set m (X ∷ []) None false h k n e = absurd (false≢true n)
  one_set m (X ∷ Y ∷ xs) None b h k n e = absurd k
  one_set m (X ∷ Y ∷ xs) (Some y) true h k n e = absurd (false≢true (sym n))
  one_set m (X ∷ Y ∷ xs) (Some y) false h k n e = refl

  other_set : (m : ℕ) (xs : List Set) → HoldsIfAny (Some m) (nth xs 0) → false ≡ initial m →
      false ≡ initial_alone narrow M H xs
  other_set m [] h e = refl
  other_set m (X ∷ []) h e = e ∙ ap (λ Y. Y 0 && subset narrow Y (eqb 0)) (held m X h)
  other_set m (X ∷ Y ∷ xs) h e = refl

  -- the first set as a test sees it, where there is one
  pub first_passes : (xs : List Set) (o p : Option ℕ) (r b : Bool) → HoldsIfAny o (nth xs 0) →
      HoldsIfAny p (nth xs 1) → MatchOption o (r ≡ false) (λ m. r ≡ initial m) → r ≡ true → is_some p ≡ not b →
      b ≡ initial_alone narrow M H xs
  first_passes xs None p r b h k t e n = absurd (false≢true (sym t ∙ e))
  first_passes xs (Some m) p r b h k t e n = one_set m xs p b h k n (sym e ∙ t)

  pub first_fails : (xs : List Set) (o : Option ℕ) (r : Bool) → HoldsIfAny o (nth xs 0) →
      MatchOption o (r ≡ false) (λ m. r ≡ initial m) → r ≡ false → r ≡ initial_alone narrow M H xs
  first_fails [] None r h t e = e
  first_fails (X ∷ xs) None r h t e = absurd h
  first_fails xs (Some m) r h t e = e ∙ other_set m xs h (sym e ∙ t)
