-- What a valid table keeps together with its hints, as tests of all entries of their rows.
use Rattle.std.specs.Prelude.{ℕ, Bool, true, false, not, ◌&&◌, ◌||◌, List, [], ◌∷◌, length, ◌==◌, nat_le, nat_lt}
use Rattle.syntax.specs.declared.Symbol.{Symbol}
use Rattle.syntax.specs.declared.Symbol.TheVariants.{Terminal, Nonterminal}
use Rattle.syntax.specs.Grammar.{Rule, terminals, nonterminals}
use Rattle.table.specs.Automaton.{Automaton}
use Rattle.table.specs.Lawful.{narrow}
use Rattle.table.specs.Hints.{Hints, deepest, right_side}
use Rattle.layout.specs.Choices.{given, every}
use Rattle.layout.specs.SafetyTests.{edge_safe, reduce_safe, action_safe}
use Rattle.layout.specs.CompletenessTests.{equations_hold, item_at, initial_item}
use Rattle.dense.specs.Rows.{Rows, automaton_of}
use Rattle.dense.specs.LawTests.{each_at, each_cell, kind_fits, symbol_fits, is_state, lawful_rows}
use Rattle.dense.specs.HintRows.{ItemRow, NameRow, HintRows, hints_of}

-- WELL-FORMED HINTS

abbrev pub empty : {A : Type 0} → List A → Bool
empty [] = true
empty (x ∷ xs) = false

-- the past of state s is not too long, and the initial state has none
abbrev pub past_short : {A : Type 0} → ℕ → List A → Bool
past_short s xs = nat_le (length xs) deepest && (empty xs || not (s == 0))

abbrev pub name_fits : ℕ → NameRow → Bool
name_fits n x = nat_lt n nonterminals && every kind_fits x.firsts

module _ (H : Hints) where
  -- a nonterminal that is named is one of the grammar's
  abbrev pub known_symbol : Symbol → Bool
  known_symbol (Terminal a) = true
  known_symbol (Nonterminal n) = H.known n

  abbrev pub known_rule : Rule → Bool
  known_rule r = H.known r.left && every known_symbol r.right

  abbrev pub past_symbols_fit : ℕ → List Symbol → Bool
  past_symbols_fit s α = past_short s α && (every known_symbol α && every symbol_fits α)

module _ (M : Automaton) where
  -- a past set of s is not empty and has states alone
  abbrev pub set_fits : ℕ → List ℕ → Bool
  set_fits s xs = is_state M s && (not (empty xs) && every (is_state M) xs)

  abbrev pub past_sets_fit : ℕ → List (List ℕ) → Bool
  past_sets_fit s xs = past_short s xs && every (set_fits s) xs

  -- an item of s has its dot within its right side, and its look-aheads are terminals
  abbrev pub item_fits : ℕ → ItemRow → Bool
  item_fits s i =
      is_state M s
      && (given false (λ α. nat_le i.dot (length α)) (right_side M.grammar i.production)
      && every (λ a. nat_lt a terminals) i.looks)

module _ (R : Rows) (H : HintRows) where
  -- whatever names a nonterminal names one of the grammar's
  abbrev pub names_known : Bool
  names_known =
      each_at (λ p. known_rule (hints_of H)) R.productions
      && (each_at (λ s. given true (known_symbol (hints_of H))) R.incoming
      && each_cell (λ s n. given true (λ t. (hints_of H).known n)) R.gotos)

  abbrev pub lawful_hint_rows : Bool
  lawful_hint_rows =
      ((hints_of H).known 0 && each_at name_fits H.names)
      && (names_known
      && (each_at (past_symbols_fit (hints_of H)) H.past_symbols
      && (each_at (past_sets_fit (automaton_of R)) H.past_sets
      && each_at (λ s. every (item_fits (automaton_of R) s)) H.items)))

  -- THE CONDITIONS

  abbrev pub safe_rows : Bool
  safe_rows =
      each_at (λ s. given true (reduce_safe narrow (automaton_of R) (hints_of H) s)) R.defaults
      && (each_cell (λ s a. action_safe narrow (automaton_of R) (hints_of H) s) R.actions
      && each_cell (λ s n. given true (edge_safe narrow (automaton_of R) (hints_of H) s)) R.gotos)

  abbrev pub item_complete : ℕ → ItemRow → Bool
  item_complete s i = item_at (automaton_of R) (hints_of H) s i.production i.dot

  abbrev pub complete_rows : Bool
  complete_rows =
      each_at (λ n x. equations_hold (automaton_of R) (hints_of H) n) H.names
      && (each_at (λ s. every (item_complete s)) H.items
      && initial_item (automaton_of R) (hints_of H))

  -- the whole table, lawful and with lawful hints, safe and complete
  abbrev pub valid_rows : Bool
  valid_rows = lawful_rows R && (lawful_hint_rows && (safe_rows && complete_rows))
