-- The right symbols of productions, and what they begin with.
use Rattle.std.specs.Prelude.{◌≡◌, ℕ, Bool, List, [], drop}
use Rattle.syntax.specs.declared.Symbol.{Symbol}
use Rattle.syntax.specs.Grammar.{Grammar}
use Rattle.table.specs.Automaton.{Automaton}
use Rattle.table.specs.Hints.{Set, Hints, right_side}
use Rattle.table.specs.Completeness.{nullable_all, first_of}
use Rattle.layout.specs.Choices.{given}
use Rattle.layout.specs.CompletenessTests.{some_right}
use Rattle.hinted.specs.Sets.{Holds}
use Rattle.completeness.specs.declared.beginnings.Beginning.{Beginning}

-- the right symbols of production p, which may be the added one; none where it is absent
abbrev pub rights : Grammar → ℕ → List Symbol
rights G p = given [] (λ α. α) (right_side G p)

-- the number and the bit are this set and this test
pub record Begins (X : Set) (b : Bool) (r : Beginning) : Type 0 where
  pub firsts : Holds r.firsts X
  pub nullable : r.nullable ≡ b

-- so the right symbols of production p from k on begin
abbrev pub BeginsFrom : Automaton → Hints → ℕ → ℕ → Beginning → Type 0
BeginsFrom M H p k = let α = drop k (rights M.grammar p) in Begins (first_of H α) (nullable_all H α)

-- so the right sides of nonterminal n begin, taken together
abbrev pub BeginsAsAll : Automaton → Hints → ℕ → Beginning → Type 0
BeginsAsAll M H n =
    Begins (λ a. some_right M.grammar n (λ α. first_of H α a)) (some_right M.grammar n (nullable_all H))
