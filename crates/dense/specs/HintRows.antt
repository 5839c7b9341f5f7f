-- The hints to a dense table, as rows: sets are lists of their members.
use Rattle.std.specs.Prelude.{ℕ, Bool, false, cond, ◌&&◌, ◌||◌, List, [], ◌∷◌, map, ◌==◌, slice_index_or}
use Rattle.syntax.specs.declared.Symbol.{Symbol}
use Rattle.table.specs.Automaton.{nth}
use Rattle.table.specs.Hints.{Set, Hints}
use Rattle.layout.specs.Choices.{given, present}

-- an item of a state: a production, a dot and look-aheads
pub record ItemRow : Type 0 where
  pub production : ℕ
  pub dot : ℕ
  pub looks : List ℕ

-- what is said of a nonterminal
pub record NameRow : Type 0 where
  pub nullable : Bool
  pub firsts : List ℕ

pub record HintRows : Type 0 where
  -- by state, the nearest symbol last and the nearest set first
  pub past_symbols : List (List Symbol)
  pub past_sets : List (List (List ℕ))
  pub items : List (List ItemRow)
  -- by nonterminal
  pub names : List NameRow

-- the numbers of a list
unfoldable pub listed : List ℕ → Set
listed [] x = false
listed (y ∷ ys) x = y == x || listed ys x

-- the look-aheads of the first item of production p with dot d
unfoldable pub looks_of : List ItemRow → ℕ → ℕ → List ℕ
looks_of [] p d = []
looks_of (i ∷ is) p d = cond (i.production == p && i.dot == d) i.looks (looks_of is p d)

-- the hints that rows hold
abbrev pub hints_of : HintRows → Hints
hints_of H = record {
  past_symbols = λ s. slice_index_or H.past_symbols s [];
  past_sets = λ s. map listed (slice_index_or H.past_sets s []);
  look_aheads = λ s p d. listed (looks_of (slice_index_or H.items s []) p d);
  nullable = λ n. given false (λ x. x.nullable) (nth H.names n);
  firsts = λ n. given (λ a. false) (λ x. listed x.firsts) (nth H.names n);
  known = λ n. present (nth H.names n);
}
