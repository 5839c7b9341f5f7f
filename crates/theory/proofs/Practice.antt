-- The practice table is valid.
use Rattle.std.proofs.Common.{◌≡◌, ℕ, zero, suc, ◌+◌, ◌<◌, ◌≤◌, Bool, true, false, ◌&&◌, ◌||◌, T, eqb, ◌≢◌, ◌⊎◌, ◌↔◌, List, [], ◌∷◌, length, Some, sym, refl, ◌∙◌, subst, subst₂, inl, inr, arith, eqb→eq}
use lib.Dec.{eqb_refl}
use Rattle.syntax.specs.declared.Symbol.{Symbol}
use Rattle.syntax.specs.declared.Symbol.TheVariants.{Terminal, Nonterminal}
use Rattle.syntax.specs.Grammar.{Rule, start, InRange, Every, Present}
use Rattle.table.specs.declared.Action.TheVariants.{Shift, Reduce, Accept, Reject}
use Rattle.table.specs.Automaton.{decide}
use Rattle.table.specs.Lawful.{narrow, State, RuleInRange, Lawful}
use Rattle.table.specs.Hints.{Set, ◌∈◌, ◌⊆◌, Occupied, added, right_side, Behind, trail, shadow}
use Rattle.table.specs.Hints.{Known, PastSet, LookAhead, HintsLawful}
use Rattle.table.specs.Safety.{Ends, Covers, GotosAt, Alone, Safe}
use Rattle.table.specs.Completeness.{SomeRight, nullable_all, first_of, wanted, Complete}
use Rattle.table.specs.Validity.{Valid}
use Rattle.theory.specs.Practice.{empty_rule, longer_rule, rules, entries, actions, gotos, practice}
use Rattle.theory.specs.Practice.{past, sets, at_end, anywhere, items, looks_in, practice_hints}
use Rattle.theory.proofs.Clash.{clash, none_some}
use Rattle.theory.proofs.PracticeCases.{each_rule, each_entry, each_default, each_goto, each_shift, each_accept}
use Rattle.theory.proofs.PracticeCases.{no_reduce, each_edge, each_reduce, each_item, behind}

-- the three states

state_0 : State practice 0
state_0 = inl refl

state_1 : State practice 1
state_1 = inr (Nonterminal 0, refl)

state_2 : State practice 2
state_2 = inr (Terminal 1, refl)

few : (s : ℕ) → State practice s → s < 64
few s (inl e) = omega arith
few s (inr (X, e)) = each_entry (λ s X. s < 64) (omega arith) (omega arith) s X e

gapless : (s : ℕ) → State practice (suc s) → State practice s
gapless s (inl e) = absurd (omega arith)
gapless zero (inr (X, e)) = state_0
gapless (suc zero) (inr (X, e)) = state_1
gapless (suc (suc s)) (inr (X, e)) = absurd (none_some e)

-- lawful

empty_in_range : RuleInRange 0 empty_rule
empty_in_range = record { number = omega arith; left = omega arith; short = omega arith; symbols = tt }

longer_in_range : RuleInRange 1 longer_rule
longer_in_range = record {
  number = omega arith;
  left = omega arith;
  short = omega arith;
  symbols = (omega arith, ((omega arith, omega arith), tt));
}

pub practice_lawful : Lawful narrow practice
practice_lawful = record {
  rules = each_rule RuleInRange empty_in_range longer_in_range;
  first_rule = (empty_rule, refl);
  rules_gapless = λ p (r, e). each_rule_below p r e;
  states_few = few;
  states_gapless = gapless;
  incoming_fits = each_entry (λ s X. InRange X) (omega arith) (omega arith, omega arith);
  initial_bare = refl;
  default_known = each_default (λ s p. State practice s × Present (rules p)) (state_0, (_, refl)) (state_2, (_, refl));
  default_alone = λ s p a e. each_default (λ s p. (a : ℕ) → actions s a ≡ Reject) (λ a. refl) (λ a. refl) s p e a;
  shift_enters = each_shift (λ s a t. State practice s × InRange (Terminal a) × (entries t ≡ Some (Terminal a)))
      (state_1, (omega arith, omega arith), refl);
  reduce_known = λ s a p e. absurd (no_reduce s a p e);
  accept_on_end = each_accept (λ s a. State practice s × (a ≡ 0)) (state_1, refl);
  goto_enters = each_goto (λ s n t. State practice s × (n < 32) × (entries t ≡ Some (Nonterminal n)))
      (state_0, omega arith, refl);
}
  where
    each_rule_below : (p : ℕ) (r : Rule) → rules (suc p) ≡ Some r → Present (rules p)
    each_rule_below zero r e = (empty_rule, refl)
    each_rule_below (suc p) r e = absurd (none_some e)

-- well-formed hints

known_zero : (n : ℕ) → T (eqb 0 n) → n ≡ 0
known_zero n h = sym (eqb→eq 0 n h)

is_zero : (n : ℕ) → n ≡ 0 → T (eqb 0 n)
is_zero n e = subst (λ (m : ℕ). T (eqb 0 m)) (sym e) tt

one_of : (s x : ℕ) → State practice s → T (eqb s x) → State practice x
one_of s x S h = subst (State practice) (eqb→eq s x h) S

past_set : (s t : ℕ) → State practice s → State practice t → PastSet practice s (eqb t)
past_set s t S S' = record { of_state = S; occupied = (t, eqb_refl t); states = λ x h. one_of t x S' h }

below_two : (a : ℕ) → T (anywhere a) → a < 32
below_two a h = go (eqb 0 a) refl h
  where
    go : (b : Bool) → eqb 0 a ≡ b → T (b || eqb 1 a) → a < 32
    go true e k = let z = eqb→eq 0 a (subst T (sym e) tt) in omega arith
    go false e k = let z = eqb→eq 1 a k in omega arith

-- an item of the practice hints, whose dot is within its right side
abbrev FineItem : ℕ → ℕ → ℕ → Set → Type 0
FineItem s p d looks = (a : ℕ) → a ∈ looks → LookAhead practice s p d a

fine_item : (s p d : ℕ) (looks : Set) (α : List Symbol) → State practice s → right_side rules p ≡ Some α →
    d ≤ length α → ((a : ℕ) → a ∈ looks → a < 32) → FineItem s p d looks
fine_item s p d looks α S e le low a h = record { of_state = S; dot_within = (α, e, le); terminal = low a h }

low_end : (a : ℕ) → T (at_end a) → a < 32
low_end a h = let z = known_zero a h in omega arith

fine_items : (s p d a : ℕ) → a ∈ looks_in items s p d → LookAhead practice s p d a
fine_items s p d a h =
    let longer = longer_rule.right in
    each_item FineItem
    (fine_item 0 0 0 anywhere [] state_0 refl (omega arith) below_two)
    (fine_item 0 1 0 anywhere longer state_0 refl (omega arith) below_two)
    (fine_item 0 added 0 at_end (start ∷ []) state_0 refl (omega arith) low_end)
    (fine_item 1 1 1 anywhere longer state_1 refl (omega arith) below_two)
    (fine_item 1 added 1 at_end (start ∷ []) state_1 refl (omega arith) low_end)
    (fine_item 2 1 2 anywhere longer state_2 refl (omega arith) below_two)
    s p d (a, h) a h

first_parts : (n a : ℕ) → T (eqb 0 n && eqb 1 a) → T (eqb 0 n) × T (eqb 1 a)
first_parts n a h = go (eqb 0 n) h
  where
    go : (b : Bool) → T (b && eqb 1 a) → T b × T (eqb 1 a)
    go true k = (tt, k)
    go false k = absurd k

past_fine : (s : ℕ) → (length (past s) ≤ 8) × Every InRange (past s) × Every (Known practice_hints) (past s)
past_fine zero = (omega arith, tt, tt)
past_fine (suc zero) = (omega arith, tt, tt)
past_fine (suc (suc zero)) = (omega arith, (omega arith, tt), (tt, tt))
past_fine (suc (suc (suc s))) = (omega arith, tt, tt)

sets_fine : (s : ℕ) → (length (sets s) ≤ 8) × Every (PastSet practice s) (sets s)
sets_fine zero = (omega arith, tt)
sets_fine (suc zero) = (omega arith, (past_set 1 0 state_1 state_0, tt))
sets_fine (suc (suc zero)) = (omega arith, (past_set 2 1 state_2 state_1, (past_set 2 0 state_2 state_0, tt)))
sets_fine (suc (suc (suc s))) = (omega arith, tt)

practice_hints_lawful : HintsLawful practice practice_hints
practice_hints_lawful = record {
  known_few = λ n h. let z = known_zero n h in omega arith;
  known_gapless = λ n h. let z = known_zero (suc n) h in absurd (omega arith);
  start_known = tt;
  rule_names = each_rule (λ p r. r.left ∈ practice_hints.known × Every (Known practice_hints) r.right)
      (tt, tt) (tt, (tt, (tt, tt)));
  incoming_names = each_entry (λ s X. Known practice_hints X) tt tt;
  goto_names = each_goto (λ s n t. n ∈ practice_hints.known) tt;
  past_names = λ s. (past_fine s).2;
  nullable_names = λ n h. h;
  first_names = λ n a h. (first_parts n a h).0;
  first_kinds = λ n a h. let z = eqb→eq 1 a (first_parts n a h).1 in (omega arith, omega arith);
  symbols_few = λ s. (past_fine s).0;
  symbols_fit = λ s. (past_fine s).1;
  sets_few = λ s. (sets_fine s).0;
  sets_fit = λ s. (sets_fine s).1;
  initial_symbols = refl;
  initial_sets = refl;
  items_fit = fine_items;
}

-- safe

from_zero : (n : ℕ) → n ≡ 0 → (s : ℕ) → T (eqb 0 s) → Present (gotos s n)
from_zero n e s h = (1, subst₂ (λ (x y : ℕ). gotos x y ≡ Some 1) (eqb→eq 0 s h) (sym e) refl)

practice_safe : Safe practice practice_hints
practice_safe = record {
  edge_symbols = each_edge (λ s t. Ends (past t) (trail practice practice_hints s)) ([], refl) ([], refl);
  edge_sets = each_edge (λ s t. Covers (sets t) (shadow practice_hints s)) (λ x h. h, (λ x h. h, tt)) (λ x h. h, tt);
  reduce_symbols = each_reduce (λ s r. Ends r.right (trail practice practice_hints s)) ([], refl) ([], refl);
  reduce_gotos = each_reduce (λ s r. GotosAt practice practice_hints s (length r.right) r.left)
      (eqb 0, refl, from_zero 0 refl) (eqb 0, refl, from_zero 0 refl);
  accept_alone = each_accept (λ s a. Alone practice practice_hints s) (record {
    not_initial = λ e. omega arith;
    entered_by_start = refl;
    initial_below = (eqb 0, refl, λ x. (known_zero x, is_zero x));
  });
}

-- complete

nullable_start : (n : ℕ) → (n ∈ practice_hints.nullable) ↔ SomeRight rules n (λ α. T (nullable_all practice_hints α))
nullable_start n =
    (λ h. (0, empty_rule, refl, sym (known_zero n h), tt), λ (p, r, e, l, h). is_zero n (sym l ∙ left_zero p r e))
  where
    left_zero : (p : ℕ) (r : Rule) → rules p ≡ Some r → r.left ≡ 0
    left_zero = each_rule (λ p r. r.left ≡ 0) refl refl

some_start : (n a : ℕ) → (a ∈ practice_hints.firsts n) ↔ SomeRight rules n (λ α. a ∈ first_of practice_hints α)
some_start n a =
    (λ h. let (x, y) = first_parts n a h in (1, longer_rule, refl, eqb→eq 0 n x, left_of (eqb 1 a) y), back)
  where
    left_of : (x : Bool) → T x → T (x || (x || false))
    left_of true h = tt
    left_of false h = absurd h

    one_of_both : (x : Bool) → T (x || (x || false)) → T x
    one_of_both true h = tt
    one_of_both false h = h

    both : T (eqb 0 n) → T (eqb 1 a) → T (eqb 0 n && eqb 1 a)
    both h k = subst (λ (m : ℕ). T (eqb 0 m && eqb 1 a)) (eqb→eq 0 n h) k

    back : SomeRight rules n (λ α. a ∈ first_of practice_hints α) → T (eqb 0 n && eqb 1 a)
    back (p, r, e, l, h) =
        each_rule (λ p r. r.left ≡ n → a ∈ first_of practice_hints r.right → T (eqb 0 n && eqb 1 a))
        (λ l h. absurd h) (λ l h. both (is_zero n (sym l)) (one_of_both (eqb 1 a) h)) p r e l h

in_anywhere : (a : ℕ) → T (eqb 0 a) ⊎ T (eqb 1 a) → T (anywhere a)
in_anywhere a h = go (eqb 0 a) h
  where
    go : (x : Bool) → T x ⊎ T (eqb 1 a) → T (x || eqb 1 a)
    go true k = tt
    go false (inl k) = absurd k
    go false (inr k) = k

-- every production of the start has its first item in state 0, whatever comes next
opens : (q : ℕ) (r : Rule) → rules q ≡ Some r → looks_in items 0 q 0 ≡ anywhere
opens = each_rule (λ q r. looks_in items 0 q 0 ≡ anywhere) refl refl

abbrev Closed : ℕ → ℕ → ℕ → Set → Type 0
Closed s p d looks = (n : ℕ) (β : List Symbol) → Behind rules p d (Nonterminal n ∷ β) →
    (q : ℕ) (r : Rule) → rules q ≡ Some r → wanted practice_hints β looks ⊆ looks_in items s q 0

before_word : (β : List Symbol) → β ≡ Terminal 1 ∷ [] → (looks : Set) (a : ℕ) → a ∈ wanted practice_hints β looks →
    T (eqb 1 a)
before_word β e looks a h = go (eqb 1 a) (subst (λ γ. a ∈ wanted practice_hints γ looks) e h)
  where
    go : (x : Bool) → T ((x || false) || false) → T x
    go true k = tt
    go false k = k

closed : (s p d : ℕ) → Occupied (looks_in items s p d) → Closed s p d (looks_in items s p d)
closed = each_item Closed
    (λ n β b. let e = behind [] (Nonterminal n ∷ β) 0 0 refl b in absurd (clash (cc)))
    (λ n β b q r k a h.
    let e = behind longer_rule.right (Nonterminal n ∷ β) 1 0 refl b in
    let one = before_word β (cc) anywhere a h in
    subst (λ (P : Set). a ∈ P) (sym (opens q r k)) (in_anywhere a (inr one)))
    (λ n β b q r k a h.
    let e = behind (start ∷ []) (Nonterminal n ∷ β) added 0 refl b in
    let none : β ≡ [] = cc in
    let zero_comes = subst (λ γ. a ∈ wanted practice_hints γ at_end) none h in
    subst (λ (P : Set). a ∈ P) (sym (opens q r k)) (in_anywhere a (inl zero_comes)))
    (λ n β b. let e = behind longer_rule.right (Nonterminal n ∷ β) 1 1 refl b in absurd (clash (cc)))
    (λ n β b. let e = behind (start ∷ []) (Nonterminal n ∷ β) added 1 refl b in absurd (clash (cc)))
    (λ n β b. let e = behind longer_rule.right (Nonterminal n ∷ β) 1 2 refl b in absurd (clash (cc)))

abbrev Finished : ℕ → ℕ → ℕ → Set → Type 0
Finished s p d looks = (a : ℕ) → a ∈ looks → p ≢ added → Behind rules p d [] → decide practice s a ≡ Reduce p

finished : (s p d : ℕ) → Occupied (looks_in items s p d) → Finished s p d (looks_in items s p d)
finished = each_item Finished
    (λ a h n b. refl)
    (λ a h n b. let e = behind longer_rule.right [] 1 0 refl b in absurd (clash (cc)))
    (λ a h n b. absurd (n refl))
    (λ a h n b. let e = behind longer_rule.right [] 1 1 refl b in absurd (clash (cc)))
    (λ a h n b. absurd (n refl))
    (λ a h n b. refl)

abbrev Shifted : ℕ → ℕ → ℕ → Set → Type 0
Shifted s p d looks = (a : ℕ) (β : List Symbol) → Behind rules p d (Terminal a ∷ β) →
    (t : ℕ) × (decide practice s a ≡ Shift t) × looks ⊆ looks_in items t p (d + 1)

shifted : (s p d : ℕ) → Occupied (looks_in items s p d) → Shifted s p d (looks_in items s p d)
shifted = each_item Shifted
    (λ a β b. let e = behind [] (Terminal a ∷ β) 0 0 refl b in absurd (clash (cc)))
    (λ a β b. let e = behind longer_rule.right (Terminal a ∷ β) 1 0 refl b in absurd (clash (cc)))
    (λ a β b. let e = behind (start ∷ []) (Terminal a ∷ β) added 0 refl b in absurd (clash (cc)))
    (λ a β b.
    let e = behind longer_rule.right (Terminal a ∷ β) 1 1 refl b in
    let word : 1 ≡ a = cc in
    (2, subst (λ (x : ℕ). decide practice 1 x ≡ Shift 2) word refl, λ x h. h))
    (λ a β b. let e = behind (start ∷ []) (Terminal a ∷ β) added 1 refl b in absurd (clash (cc)))
    (λ a β b. let e = behind longer_rule.right (Terminal a ∷ β) 1 2 refl b in absurd (clash (cc)))

-- a goto leads to state 1, with the items that stood before a start
abbrev Followed : ℕ → ℕ → ℕ → Set → Type 0
Followed s p d looks = (n : ℕ) (β : List Symbol) → Behind rules p d (Nonterminal n ∷ β) →
    (t : ℕ) → gotos s n ≡ Some t → looks ⊆ looks_in items t p (d + 1)

into_one : (p d : ℕ) (looks : Set) → looks_in items 1 p (d + 1) ≡ looks →
    (s n t : ℕ) → gotos s n ≡ Some t → looks ⊆ looks_in items t p (d + 1)
into_one p d looks e =
    each_goto (λ s n t. looks ⊆ looks_in items t p (d + 1)) (λ x h. subst (λ (P : Set). x ∈ P) (sym e) h)

followed : (s p d : ℕ) → Occupied (looks_in items s p d) → Followed s p d (looks_in items s p d)
followed = each_item Followed
    (λ n β b t g. let e = behind [] (Nonterminal n ∷ β) 0 0 refl b in absurd (clash (cc)))
    (λ n β b t g. into_one 1 0 anywhere refl 0 n t g)
    (λ n β b t g. into_one added 0 at_end refl 0 n t g)
    (λ n β b t g. absurd (none_some g))
    (λ n β b t g. absurd (none_some g))
    (λ n β b t g. absurd (none_some g))

abbrev Final : ℕ → ℕ → ℕ → Set → Type 0
Final s p d looks = p ≡ added → d ≡ 1 → decide practice s 0 ≡ Accept

final : (s : ℕ) → 0 ∈ looks_in items s added 1 → decide practice s 0 ≡ Accept
final s h =
    each_item Final (λ e f. absurd (omega arith)) (λ e f. absurd (omega arith)) (λ e f. absurd (omega arith))
    (λ e f. absurd (omega arith)) (λ e f. refl) (λ e f. absurd (omega arith)) s added 1 (0, h) refl refl

practice_complete : Complete practice practice_hints
practice_complete = record {
  nullable_solved = nullable_start;
  first_solved = some_start;
  items_closed = λ s p d n β i b q r e l. closed s p d i n β b q r e;
  done_reduces = λ s p d a h n b. finished s p d (a, h) a h n b;
  terminal_shifts = λ s p d a β i b. shifted s p d i a β b;
  goto_follows = λ s p d n t β i b g. followed s p d i n β b t g;
  initial_item = tt;
  final_accepts = final;
}

pub practice_valid : Valid narrow practice
practice_valid = record {
  hints = practice_hints;
  lawful = practice_lawful;
  hints_lawful = practice_hints_lawful;
  safe = practice_safe;
  complete = practice_complete;
}
