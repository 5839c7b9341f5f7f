-- When a table is complete under hints: every text of its grammar can be read by it.
use Rattle.std.specs.Prelude.{◌≡◌, ℕ, ◌+◌, Bool, true, false, ◌&&◌, ◌||◌, T, ◌≢◌, ◌↔◌, List, [], ◌∷◌, Some, nat_eq}
use Rattle.syntax.specs.declared.Symbol.{Symbol}
use Rattle.syntax.specs.declared.Symbol.TheVariants.{Terminal, Nonterminal}
use Rattle.syntax.specs.Grammar.{Rule, Grammar}
use Rattle.table.specs.declared.Action.TheVariants.{Shift, Reduce, Accept}
use Rattle.table.specs.Automaton.{Automaton, decide}
use Rattle.table.specs.Hints.{Set, ◌∈◌, ◌⊆◌, Occupied, Hints, added, Behind}

module _ (H : Hints) where
  -- a symbol is nullable; no terminal is
  abbrev pub nullable_symbol : Symbol → Bool
  nullable_symbol (Terminal a) = false
  nullable_symbol (Nonterminal n) = H.nullable n

  -- the first terminals of a symbol; a terminal is its own
  abbrev pub first_symbol : Symbol → Set
  first_symbol (Terminal a) = nat_eq a
  first_symbol (Nonterminal n) = H.firsts n

  -- all of α is nullable
  abbrev pub nullable_all : List Symbol → Bool
  nullable_all [] = true
  nullable_all (X ∷ α) = nullable_symbol X && nullable_all α

  -- the first terminals of α: those of its symbols up to the first that is not nullable, and of that one
  abbrev pub first_of : List Symbol → Set
  first_of [] a = false
  first_of (X ∷ α) a = first_symbol X a || (nullable_symbol X && first_of α a)

  -- the first terminals of α, and those behind it where all of α is nullable
  abbrev pub wanted : List Symbol → Set → Set
  wanted α after a = first_of α a || (nullable_all α && after a)

  -- state s has an item of production p with dot d
  abbrev pub Item : ℕ → ℕ → ℕ → Type 0
  Item s p d = Occupied (H.look_aheads s p d)

  -- state t has the item of state s one dot on, with at least its look-aheads
  abbrev pub OneDotOn : ℕ → ℕ → ℕ → ℕ → Type 0
  OneDotOn s p d t = H.look_aheads s p d ⊆ H.look_aheads t p (d + 1)

-- some right side of nonterminal n has P
abbrev pub SomeRight : Grammar → ℕ → (List Symbol → Type 0) → Type 0
SomeRight G n P = (p : ℕ) × (r : Rule) × (G p ≡ Some r) × (r.left ≡ n) × P r.right

-- the conditions
pub record Complete (M : Automaton) (H : Hints) : Type 0 where
  -- a nonterminal is nullable, or has a first terminal, exactly when some right side of it is or has
  pub nullable_solved : (n : ℕ) → (n ∈ H.nullable) ↔ SomeRight M.grammar n (λ α. T (nullable_all H α))
  pub first_solved : (n a : ℕ) → (a ∈ H.firsts n) ↔ SomeRight M.grammar n (λ α. a ∈ first_of H α)
  -- an item before a nonterminal has with it the first items of that one's productions
  pub items_closed : (s p d n : ℕ) (β : List Symbol) → Item H s p d → Behind M.grammar p d (Nonterminal n ∷ β) →
      (q : ℕ) (r : Rule) → M.grammar q ≡ Some r → r.left ≡ n →
      wanted H β (H.look_aheads s p d) ⊆ H.look_aheads s q 0
  -- a finished item is reduced on each look-ahead
  pub done_reduces : (s p d a : ℕ) → a ∈ H.look_aheads s p d → p ≢ added → Behind M.grammar p d [] →
      decide M s a ≡ Reduce p
  -- before a terminal it is shifted, and before a nonterminal a goto, if there is one, goes on with the item
  pub terminal_shifts : (s p d b : ℕ) (β : List Symbol) → Item H s p d → Behind M.grammar p d (Terminal b ∷ β) →
      (t : ℕ) × (decide M s b ≡ Shift t) × OneDotOn H s p d t
  pub goto_follows : (s p d n t : ℕ) (β : List Symbol) → Item H s p d → Behind M.grammar p d (Nonterminal n ∷ β) →
      M.goto s n ≡ Some t → OneDotOn H s p d t
  -- reading begins with a whole text to come, and accepts at its end
  pub initial_item : 0 ∈ H.look_aheads 0 added 0
  pub final_accepts : (s : ℕ) → 0 ∈ H.look_aheads s added 1 → decide M s 0 ≡ Accept
