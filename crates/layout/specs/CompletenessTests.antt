-- The completeness conditions as tests of a table and its hints, by nonterminal and item.
use Rattle.std.specs.Prelude.{ℕ, ◌+◌, Bool, true, false, cond, ◌&&◌, List, [], ◌∷◌, length, drop, ◌==◌}
use Rattle.syntax.specs.declared.Symbol.{Symbol}
use Rattle.syntax.specs.declared.Symbol.TheVariants.{Terminal, Nonterminal}
use Rattle.syntax.specs.Grammar.{Grammar, terminals, productions}
use Rattle.table.specs.Automaton.{Automaton, decide}
use Rattle.table.specs.Hints.{Set, Hints, added, right_side}
use Rattle.table.specs.Completeness.{nullable_all, first_of, wanted}
use Rattle.layout.specs.Choices.{given, implies, below, some_below, run}
use Rattle.layout.specs.Checking.{subset, same_test, reduces_by, accepts, shifts_to}

-- TESTS OF PRODUCTIONS

-- how many productions there are; they are numbered from 0 without a gap
unfoldable pub rule_count : Grammar → ℕ
rule_count G = length (run productions G)

-- some right side of nonterminal n passes f
abbrev pub some_right : Grammar → ℕ → (List Symbol → Bool) → Bool
some_right G n f =
    some_below (rule_count G) (λ p.
    given false (λ r. let y = f r.right in cond (r.left == n) y false) (G p))

-- every production of nonterminal n passes f
abbrev pub each_rule : Grammar → ℕ → (ℕ → Bool) → Bool
each_rule G n f =
    below (rule_count G) (λ p. given true (λ r. let y = f p in implies (r.left == n) y) (G p))

-- THE CONDITIONS

module _ (M : Automaton) (H : Hints) where
  -- nullable exactly where some right side is, and the first terminals are those of the right sides
  abbrev pub equations_hold : ℕ → Bool
  equations_hold n =
      same_test (H.nullable n) (some_right M.grammar n (nullable_all H))
      && below terminals (λ a. same_test (H.firsts n a) (some_right M.grammar n (λ α. first_of H α a)))

  -- each production of n has an item at dot 0 in s with what is wanted behind n
  abbrev pub items_closed : ℕ → ℕ → List Symbol → Set → Bool
  items_closed s n β looks =
      each_rule M.grammar n (λ q. subset terminals (wanted H β looks) (H.look_aheads s q 0))

  -- reduce by p on each look-ahead
  abbrev pub done_reduces : ℕ → ℕ → Set → Bool
  done_reduces s p looks = below terminals (λ a. let y = reduces_by p (decide M s a) in implies (looks a) y)

  -- state t has the item one dot on, with at least these look-aheads
  abbrev pub one_dot_on : ℕ → ℕ → Set → ℕ → Bool
  one_dot_on p d looks t = subset terminals looks (H.look_aheads t p (d + 1))

  abbrev pub final_accepts : ℕ → Set → Bool
  final_accepts s looks = implies (looks 0) (accepts (decide M s 0))

  -- an item, by what stands behind its dot
  abbrev pub item_complete : ℕ → ℕ → ℕ → Set → List Symbol → Bool
  item_complete s p d looks [] = cond (p == added) (final_accepts s looks) (done_reduces s p looks)
  item_complete s p d looks (Terminal b ∷ β) = shifts_to (one_dot_on p d looks) (decide M s b)
  item_complete s p d looks (Nonterminal n ∷ β) =
      items_closed s n β looks && given true (one_dot_on p d looks) (M.goto s n)

  abbrev pub item_at : ℕ → ℕ → ℕ → Bool
  item_at s p d =
      let looks = H.look_aheads s p d in
      given false (λ α. item_complete s p d looks (drop d α)) (right_side M.grammar p)

  -- the item by which a reading begins
  abbrev pub initial_item : Bool
  initial_item = H.look_aheads 0 added 0 0
