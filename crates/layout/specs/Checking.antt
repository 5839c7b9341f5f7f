-- What the checker refuses of a well-formed sheet, and where: the safety and completeness conditions, record by record.
use Rattle.std.specs.Prelude.{ℕ, ◌+◌, ◌-◌, Bool, true, false, cond, not, ◌&&◌, List, [], ◌∷◌, ◌++◌, length, drop, Option, ◌==◌, nat_eq, nat_le, nat_lt}
use Rattle.syntax.specs.declared.Symbol.{Symbol}
use Rattle.syntax.specs.declared.Symbol.TheVariants.{Terminal, Nonterminal}
use Rattle.syntax.specs.Grammar.{Rule, start, terminals}
use Rattle.table.specs.declared.Action.{Action}
use Rattle.table.specs.declared.Action.TheVariants.{Shift, Reduce, Accept, Reject}
use Rattle.table.specs.Automaton.{decide, nth}
use Rattle.table.specs.Hints.{Set, added, right_side, trail, shadow}
use Rattle.table.specs.Completeness.{nullable_all, first_of, wanted}
use Rattle.layout.specs.declared.Letter.{Letter}
use Rattle.layout.specs.declared.Letter.TheVariants.{A, D, G, I, K, N, P, S}
use Rattle.layout.specs.declared.Refusal.{Refusal}
use Rattle.layout.specs.declared.Refusal.TheVariants.{Unsafe, Incomplete}
use Rattle.layout.specs.Choices.{given, present, unless, implies, below, some_below}
use Rattle.layout.specs.Records.{Sheet, count, record_at, at, byte, rule_in, action_in}
use Rattle.layout.specs.Meaning.{automaton, hints}
use Rattle.layout.specs.Passes.{Pass, pass, told}
use Rattle.layout.specs.Opening.{by_letter, has_letter, same_symbol, enters, opening_passes}

-- TESTS OF SETS AND LISTS

-- each member of X below n is one of Y
abbrev pub subset : ℕ → Set → Set → Bool
subset n X Y = below n (λ x. let y = Y x in implies (X x) y)

abbrev pub same_test : Bool → Bool → Bool
same_test true y = y
same_test false y = not y

-- the same symbols, one for one
unfoldable pub same_symbols : List Symbol → List Symbol → Bool
same_symbols [] [] = true
same_symbols [] (y ∷ ys) = false
same_symbols (x ∷ xs) [] = false
same_symbols (x ∷ xs) (y ∷ ys) = same_symbol x y && same_symbols xs ys

-- ys ends with xs
abbrev pub ends : List Symbol → List Symbol → Bool
ends xs ys = nat_le (length xs) (length ys) && same_symbols xs (drop (length ys - length xs) ys)

-- no more sets than the others, and each contains the one at its depth there; both have the nearest first
unfoldable pub covers : ℕ → List Set → List Set → Bool
covers n [] ys = true
covers n (X ∷ xs) [] = false
covers n (X ∷ xs) (Y ∷ ys) = subset n Y X && covers n xs ys

-- SAFETY

module _ (sh : Sheet) where
  -- a shift or goto from s to t respects the past of t
  abbrev pub edge_safe : ℕ → ℕ → Bool
  edge_safe s t =
      ends ((hints sh).past_symbols t) (trail (automaton sh) (hints sh) s)
      && covers sh.format.states ((hints sh).past_sets t) (shadow (hints sh) s)

  -- every state of X has a goto on nonterminal n
  abbrev pub all_go : Set → ℕ → Bool
  all_go X n = below sh.format.states (λ s. let y = present ((automaton sh).goto s n) in implies (X s) y)

  -- the right side lies on top in s, and whatever lies below it has the goto
  abbrev pub rule_safe : ℕ → Rule → Bool
  rule_safe s r =
      ends r.right (trail (automaton sh) (hints sh) s)
      && given false (λ X. all_go X r.left) (nth (shadow (hints sh) s) (length r.right))

  abbrev pub reduce_safe : ℕ → ℕ → Bool
  reduce_safe s p = given false (rule_safe s) ((automaton sh).grammar p)

  -- one set, which holds the initial state and no other
  abbrev pub initial_alone : List Set → Bool
  initial_alone [] = false
  initial_alone (X ∷ []) = X 0 && subset sh.format.states X (nat_eq 0)
  initial_alone (X ∷ Y ∷ xs) = false

  -- an accepting state has one start below it and nothing else
  abbrev pub accept_safe : ℕ → Bool
  accept_safe s = not (s == 0) && (enters sh start s && initial_alone ((hints sh).past_sets s))

  abbrev pub action_safe : ℕ → Action → Bool
  action_safe s (Shift t) = edge_safe s t
  action_safe s (Reduce p) = reduce_safe s p
  action_safe s Accept = accept_safe s
  action_safe s Reject = true

  abbrev pub safe_as : List ℕ → Letter → Bool
  safe_as r A = action_safe (at r 1) (action_in r)
  safe_as r D = reduce_safe (at r 1) (at r 4)
  safe_as r G = edge_safe (at r 1) (at r 4)
  safe_as r I = true
  safe_as r K = true
  safe_as r N = true
  safe_as r P = true
  safe_as r S = true

-- COMPLETENESS

abbrev pub reduces_by : ℕ → Action → Bool
reduces_by p (Shift t) = false
reduces_by p (Reduce q) = q == p
reduces_by p Accept = false
reduces_by p Reject = false

abbrev pub accepts : Action → Bool
accepts (Shift t) = false
accepts (Reduce q) = false
accepts Accept = true
accepts Reject = false

abbrev pub shifts_to : (ℕ → Bool) → Action → Bool
shifts_to f (Shift t) = f t
shifts_to f (Reduce q) = false
shifts_to f Accept = false
shifts_to f Reject = false

module _ (sh : Sheet) where
  -- record i is a production of nonterminal n
  abbrev pub is_rule_of : ℕ → ℕ → Bool
  is_rule_of n i = has_letter sh P i && byte sh i 4 == n

  -- some right side of nonterminal n passes f
  abbrev pub some_right : ℕ → (List Symbol → Bool) → Bool
  some_right n f =
      some_below (count sh) (λ i. let y = f (rule_in (record_at sh i)).right in cond (is_rule_of n i) y false)

  -- nullable exactly where some right side is, and the first terminals are those of the right sides
  abbrev pub equations_hold : ℕ → Bool
  equations_hold n =
      same_test ((hints sh).nullable n) (some_right n (nullable_all (hints sh)))
      && below terminals (λ a. same_test ((hints sh).firsts n a) (some_right n (λ α. first_of (hints sh) α a)))

  -- each production of n has an item at dot 0 in s with what is wanted behind n
  abbrev pub items_closed : ℕ → ℕ → List Symbol → Set → Bool
  items_closed s n β looks =
      below (count sh) (λ i.
      let y = subset terminals (wanted (hints sh) β looks) ((hints sh).look_aheads s (byte sh i 1) 0) in
      implies (is_rule_of n i) y)

  -- reduce by p on each look-ahead
  abbrev pub done_reduces : ℕ → ℕ → Set → Bool
  done_reduces s p looks =
      below terminals (λ a. let y = reduces_by p (decide (automaton sh) s a) in implies (looks a) y)

  -- state t has the item one dot on, with at least these look-aheads
  abbrev pub one_dot_on : ℕ → ℕ → Set → ℕ → Bool
  one_dot_on p d looks t = subset terminals looks ((hints sh).look_aheads t p (d + 1))

  abbrev pub final_accepts : ℕ → Set → Bool
  final_accepts s looks = implies (looks 0) (accepts (decide (automaton sh) s 0))

  -- an item, by what stands behind its dot
  abbrev pub item_complete : ℕ → ℕ → ℕ → Set → List Symbol → Bool
  item_complete s p d looks [] = cond (p == added) (final_accepts s looks) (done_reduces s p looks)
  item_complete s p d looks (Terminal b ∷ β) = shifts_to (one_dot_on p d looks) (decide (automaton sh) s b)
  item_complete s p d looks (Nonterminal n ∷ β) =
      items_closed s n β looks && given true (one_dot_on p d looks) ((automaton sh).goto s n)

  abbrev pub item_at : ℕ → ℕ → ℕ → Bool
  item_at s p d =
      let looks = (hints sh).look_aheads s p d in
      given false (λ α. item_complete s p d looks (drop d α)) (right_side (automaton sh).grammar p)

  abbrev pub complete_as : List ℕ → Letter → Bool
  complete_as r A = true
  complete_as r D = true
  complete_as r G = true
  complete_as r I = item_at (at r 1) (at r 2) (at r 3)
  complete_as r K = true
  complete_as r N = equations_hold (at r 1)
  complete_as r P = true
  complete_as r S = true

  -- the item by which a reading begins
  abbrev pub initial_item : Bool
  initial_item = (hints sh).look_aheads 0 added 0 0

-- THE PASSES

abbrev pub unsafe_refused : Sheet → ℕ → Option Refusal
unsafe_refused sh i = unless (by_letter (record_at sh i) (safe_as sh (record_at sh i))) (Unsafe i)

-- each record, and behind the last the initial item
abbrev pub incomplete_refused : Sheet → ℕ → Option Refusal
incomplete_refused sh i =
    let complete = by_letter (record_at sh i) (complete_as sh (record_at sh i)) in
    unless (cond (nat_lt i (count sh)) complete (initial_item sh)) (Incomplete i)

abbrev pub checking_passes : Sheet → List Pass
checking_passes sh = pass (count sh) (unsafe_refused sh) ∷ pass (count sh + 1) (incomplete_refused sh) ∷ []

-- what the checker refuses: after the passes of an opening, those of the conditions
unfoldable pub verdict : Sheet → Option Refusal
verdict sh = told (opening_passes sh ++ checking_passes sh)
