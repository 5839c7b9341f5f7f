-- When a table is safe under hints: no reading by it can slip.
use Rattle.std.specs.Prelude.{◌≡◌, ℕ, ◌≢◌, ◌⊎◌, ◌↔◌, List, [], ◌∷◌, ◌++◌, length, Some}
use Rattle.syntax.specs.declared.Symbol.{Symbol}
use Rattle.syntax.specs.Grammar.{Rule, start, Present}
use Rattle.table.specs.declared.Action.TheVariants.{Shift, Reduce, Accept}
use Rattle.table.specs.Automaton.{Automaton, nth}
use Rattle.table.specs.Hints.{Set, ◌∈◌, ◌⊆◌, Hints, trail, shadow}

-- ys ends with xs
abbrev pub Ends : List Symbol → List Symbol → Type 0
Ends xs ys = (zs : List Symbol) × (zs ++ xs ≡ ys)

-- there are no more sets in ps than in qs, and each contains the one at its depth in qs; both have the nearest first
abbrev pub Covers : List Set → List Set → Type 0
Covers [] qs = Unit {0}
Covers (P ∷ ps) [] = ⊥
Covers (P ∷ ps) (Q ∷ qs) = Q ⊆ P × Covers ps qs

module _ (M : Automaton) where
  -- a shift or a goto leads from s to t
  abbrev pub Edge : ℕ → ℕ → Type 0
  Edge s t = ((a : ℕ) × (M.action s a ≡ Shift t)) ⊎ ((n : ℕ) × (M.goto s n ≡ Some t))

  -- s reduces production p by default or on some terminal
  abbrev pub Reduces : ℕ → ℕ → Type 0
  Reduces s p = (M.default s ≡ Some p) ⊎ ((a : ℕ) × (M.action s a ≡ Reduce p))

  -- every state of P has a goto on nonterminal n
  abbrev pub AllGo : Set → ℕ → Type 0
  AllGo P n = (s : ℕ) → s ∈ P → Present (M.goto s n)

module _ (M : Automaton) (H : Hints) where
  -- the set at depth k of the shadow of s is there, and all of it has a goto on n
  abbrev pub GotosAt : ℕ → ℕ → ℕ → Type 0
  GotosAt s k n = (P : Set) × (nth (shadow H s) k ≡ Some P) × AllGo M P n

  -- s is entered by the start, from the initial state alone
  pub record Alone (s : ℕ) : Type 0 where
    pub not_initial : s ≢ 0
    pub entered_by_start : M.incoming s ≡ Some start
    pub initial_below : (P : Set) × (H.past_sets s ≡ P ∷ []) × ((x : ℕ) → (x ∈ P) ↔ (x ≡ 0))

  -- the conditions
  pub record Safe : Type 0 where
    -- an edge respects the past of the state that it leads to
    pub edge_symbols : (s t : ℕ) → Edge M s t → Ends (H.past_symbols t) (trail M H s)
    pub edge_sets : (s t : ℕ) → Edge M s t → Covers (H.past_sets t) (shadow H s)
    -- a right side that is reduced lies on top, and whatever lies below it has the goto
    pub reduce_symbols : (s p : ℕ) (r : Rule) → Reduces M s p → M.grammar p ≡ Some r → Ends r.right (trail M H s)
    pub reduce_gotos : (s p : ℕ) (r : Rule) → Reduces M s p → M.grammar p ≡ Some r →
        GotosAt s (length r.right) r.left
    -- an accepting state has the start on top of the initial state
    pub accept_alone : (s a : ℕ) → M.action s a ≡ Accept → Alone s
