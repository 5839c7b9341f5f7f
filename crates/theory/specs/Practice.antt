-- The practice table with its hints: a text is any number of words, read by three states.
use Rattle.std.specs.Prelude.{ℕ, zero, suc, false, cond, ◌&&◌, ◌||◌, List, [], ◌∷◌, Some, None, Option, ◌==◌, nat_eq}
use Rattle.syntax.specs.declared.Symbol.{Symbol}
use Rattle.syntax.specs.declared.Symbol.TheVariants.{Terminal, Nonterminal}
use Rattle.syntax.specs.Grammar.{Rule, Grammar}
use Rattle.table.specs.declared.Action.{Action}
use Rattle.table.specs.declared.Action.TheVariants.{Shift, Accept, Reject}
use Rattle.table.specs.Automaton.{Automaton}
use Rattle.table.specs.Hints.{Set, Hints, added}

-- the start is empty, or a start and a word (terminal 1)
abbrev pub empty_rule : Rule
empty_rule = record { left = 0; right = [] }

abbrev pub longer_rule : Rule
longer_rule = record { left = 0; right = Nonterminal 0 ∷ Terminal 1 ∷ [] }

-- by number
abbrev pub rules : Grammar
rules zero = Some empty_rule
rules (suc zero) = Some longer_rule
rules (suc (suc p)) = None

-- state 0 is initial, a start enters state 1, and a word behind it state 2
abbrev pub entries : ℕ → Option Symbol
entries zero = None
entries (suc zero) = Some (Nonterminal 0)
entries (suc (suc zero)) = Some (Terminal 1)
entries (suc (suc (suc s))) = None

-- state 0 makes the empty start, and state 2 the longer one, without a look
abbrev pub defaults : ℕ → Option ℕ
defaults zero = Some 0
defaults (suc zero) = None
defaults (suc (suc zero)) = Some 1
defaults (suc (suc (suc s))) = None

-- state 1 accepts at the end and shifts a word
abbrev pub actions : ℕ → ℕ → Action
actions zero a = Reject
actions (suc zero) zero = Accept
actions (suc zero) (suc zero) = Shift 2
actions (suc zero) (suc (suc a)) = Reject
actions (suc (suc s)) a = Reject

-- a start leads from state 0 to state 1
abbrev pub gotos : ℕ → ℕ → Option ℕ
gotos zero zero = Some 1
gotos zero (suc n) = None
gotos (suc s) n = None

-- the table
abbrev pub practice : Automaton
practice = record { grammar = rules; incoming = entries; default = defaults; action = actions; goto = gotos }

-- the hints

-- a start always stands before the word that enters state 2
abbrev pub past : ℕ → List Symbol
past zero = []
past (suc zero) = []
past (suc (suc zero)) = Nonterminal 0 ∷ []
past (suc (suc (suc s))) = []

-- below state 1 lies state 0, and below state 2 lie state 1 and then 0
abbrev pub sets : ℕ → List Set
sets zero = []
sets (suc zero) = nat_eq 0 ∷ []
sets (suc (suc zero)) = nat_eq 1 ∷ nat_eq 0 ∷ []
sets (suc (suc (suc s))) = []

-- an item with its look-aheads
pub record ItemRow : Type 0 where
  pub state : ℕ
  pub production : ℕ
  pub dot : ℕ
  pub looks : Set

-- the same of its parts
abbrev pub item : ℕ → ℕ → ℕ → Set → ItemRow
item s p d looks = record { state = s; production = p; dot = d; looks = looks }

-- END, and END or a word
abbrev pub at_end : Set
at_end = nat_eq 0

abbrev pub anywhere : Set
anywhere a = 0 == a || 1 == a

-- all there are
abbrev pub items : List ItemRow
items =
    item 0 0 0 anywhere
    ∷ item 0 1 0 anywhere
    ∷ item 0 added 0 at_end
    ∷ item 1 1 1 anywhere
    ∷ item 1 added 1 at_end
    ∷ item 2 1 2 anywhere
    ∷ []

-- the look-aheads that a list of items gives
abbrev pub looks_in : List ItemRow → ℕ → ℕ → ℕ → Set
looks_in [] s p d = λ a. false
looks_in (i ∷ is) s p d =
    cond (i.state == s && (i.production == p && i.dot == d)) i.looks (looks_in is s p d)

-- the start is nullable and begins with a word, and there is no other nonterminal
abbrev pub practice_hints : Hints
practice_hints = record {
  past_symbols = past;
  past_sets = sets;
  look_aheads = looks_in items;
  nullable = nat_eq 0;
  firsts = λ n a. (0 == n) && (1 == a);
  known = nat_eq 0;
}
