-- Hints: what a table's maker says of its states, items and nonterminals, for safety and completeness to be checked.
use Rattle.std.specs.Prelude.{◌≡◌, ℕ, suc, ◌<◌, ◌≤◌, Bool, cond, T, List, [], ◌∷◌, ◌++◌, length, drop, Some, None, Option, ◌==◌, nat_eq}
use Rattle.syntax.specs.declared.Symbol.{Symbol}
use Rattle.syntax.specs.declared.Symbol.TheVariants.{Terminal, Nonterminal}
use Rattle.syntax.specs.Grammar.{Rule, Grammar, start, terminals, nonterminals, Kind, InRange, Every}
use Rattle.table.specs.Automaton.{Automaton}
use Rattle.table.specs.Lawful.{State}

infix 50 ◌∈◌ ◌⊆◌
-- a set of states, of terminals or of nonterminals
abbrev pub Set : Type 0
Set = ℕ → Bool

-- membership
abbrev pub ◌∈◌ : ℕ → Set → Type 0
x ∈ P = T (P x)

-- inclusion
abbrev pub ◌⊆◌ : Set → Set → Type 0
P ⊆ Q = (x : ℕ) → x ∈ P → x ∈ Q

-- P is not empty
abbrev pub Occupied : Set → Type 0
Occupied P = (x : ℕ) × (x ∈ P)

-- what is said of a table
pub record Hints : Type 0 where
  -- the symbols that always stand before the incoming one of a state, the nearest last
  pub past_symbols : ℕ → List Symbol
  -- the states that can lie below a state, at each depth, the nearest first
  pub past_sets : ℕ → List Set
  -- of an item, by state, production and dot (how many right symbols stand before it); empty where there is no item
  pub look_aheads : ℕ → ℕ → ℕ → Set
  -- the nonterminals that make the empty text
  pub nullable : Set
  -- the terminals with which the texts of a nonterminal begin
  pub firsts : ℕ → Set
  -- the nonterminals that the grammar has
  pub known : Set

-- how far back past symbols and past sets go at most
abbrev pub deepest : ℕ
deepest = 8

-- the number of the production that is added to every grammar: a whole text is one start
abbrev pub added : ℕ
added = 254

-- the right side of a production, if there is one
abbrev pub right_of : Option Rule → Option (List Symbol)
right_of None = None
right_of (Some r) = Some r.right

-- the right side of production p, which may be the added one
abbrev pub right_side : Grammar → ℕ → Option (List Symbol)
right_side G p = cond (p == added) (Some (start ∷ [])) (right_of (G p))

-- γ stands behind the dot of an item of production p with dot d
abbrev pub Behind : Grammar → ℕ → ℕ → List Symbol → Type 0
Behind G p d γ = (α : List Symbol) × (right_side G p ≡ Some α) × (drop d α ≡ γ)

-- a symbol, if there is one, as a list
abbrev pub incoming_list : Option Symbol → List Symbol
incoming_list None = []
incoming_list (Some X) = X ∷ []

-- the past symbols of a state, then its incoming one
abbrev pub trail : Automaton → Hints → ℕ → List Symbol
trail M H s = H.past_symbols s ++ incoming_list (M.incoming s)

-- the past sets of a state behind the state itself, the nearest first
abbrev pub shadow : Hints → ℕ → List Set
shadow H s = nat_eq s ∷ H.past_sets s

-- a nonterminal that is named is one of the grammar's
abbrev pub Known : Hints → Symbol → Type 0
Known H (Terminal a) = Unit {0}
Known H (Nonterminal n) = n ∈ H.known

-- P, a past set of s, and s itself have their parts in place
pub record PastSet (M : Automaton) (s : ℕ) (P : Set) : Type 0 where
  pub of_state : State M s
  pub occupied : Occupied P
  pub states : (x : ℕ) → x ∈ P → State M x

-- a look-ahead a of the item of production p with dot d in state s has its parts in place
pub record LookAhead (M : Automaton) (s p d a : ℕ) : Type 0 where
  pub of_state : State M s
  pub dot_within : (α : List Symbol) × (right_side M.grammar p ≡ Some α) × (d ≤ length α)
  pub terminal : a < terminals

-- what well-formed hints keep, together with the parts of their table
pub record HintsLawful (M : Automaton) (H : Hints) : Type 0 where
  -- nonterminals are numbered from 0 without a gap, and there is one
  pub known_few : (n : ℕ) → n ∈ H.known → n < nonterminals
  pub known_gapless : (n : ℕ) → suc n ∈ H.known → n ∈ H.known
  pub start_known : 0 ∈ H.known
  -- whatever names a nonterminal names one of them
  pub rule_names : (p : ℕ) (r : Rule) → M.grammar p ≡ Some r → r.left ∈ H.known × Every (Known H) r.right
  pub incoming_names : (s : ℕ) (X : Symbol) → M.incoming s ≡ Some X → Known H X
  pub goto_names : (s n t : ℕ) → M.goto s n ≡ Some t → n ∈ H.known
  pub past_names : (s : ℕ) → Every (Known H) (H.past_symbols s)
  pub nullable_names : H.nullable ⊆ H.known
  pub first_names : (n a : ℕ) → a ∈ H.firsts n → n ∈ H.known
  -- first terminals, past symbols, past sets and items are in range, and the initial state has no past
  pub first_kinds : (n a : ℕ) → a ∈ H.firsts n → Kind a
  pub symbols_few : (s : ℕ) → length (H.past_symbols s) ≤ deepest
  pub symbols_fit : (s : ℕ) → Every InRange (H.past_symbols s)
  pub sets_few : (s : ℕ) → length (H.past_sets s) ≤ deepest
  pub sets_fit : (s : ℕ) → Every (PastSet M s) (H.past_sets s)
  pub initial_symbols : H.past_symbols 0 ≡ []
  pub initial_sets : H.past_sets 0 ≡ []
  pub items_fit : (s p d a : ℕ) → a ∈ H.look_aheads s p d → LookAhead M s p d a
