-- The parts of the tests: symbols that have to lie on top, and the states that can lie at each depth.
use Rattle.std.specs.Prelude.{ℕ, Bool, false, ◌&&◌, List, ◌∷◌, Option, ◌==◌, nat_lt}
use Rattle.syntax.specs.declared.Symbol.{Symbol}
use Rattle.table.specs.Automaton.{Automaton, nth}
use Rattle.table.specs.Lawful.{narrow}
use Rattle.table.specs.Hints.{Set, Hints, shadow}
use Rattle.layout.specs.Choices.{given}
use Rattle.layout.specs.Records.{sixteen, member}
use Rattle.layout.specs.Opening.{same_symbol}
use Rattle.layout.specs.Checking.{covers}
use Rattle.layout.specs.SafetyTests.{all_go, initial_alone}

-- both are there and the same
abbrev pub same_ones : Option Symbol → Option Symbol → Bool
same_ones a b = given false (λ x. given false (same_symbol x) b) a

-- the one state s, if a set has room for it
abbrev pub alone : ℕ → Set
alone s x = nat_lt x narrow && s == x

-- the shadow of s, as far as sets have room for it
abbrev pub marked : Hints → ℕ → List Set
marked H s = alone s ∷ H.past_sets s

-- the past sets of t cover the shadow of s
abbrev pub covered : Hints → ℕ → ℕ → Bool
covered H s t = covers narrow (H.past_sets t) (shadow H s)

-- every state of a set has a goto on nonterminal n
abbrev pub all_members_go : Automaton → Hints → ℕ → ℕ → Bool
all_members_go M H set n = all_go narrow M H (member sixteen set) n

-- there is a set at depth k of the shadow of s, and all of it has a goto on nonterminal n
abbrev pub all_below_go : Automaton → Hints → ℕ → ℕ → ℕ → Bool
all_below_go M H s k n = given false (λ X. all_go narrow M H X n) (nth (shadow H s) k)

-- the initial state, and no other, lies below s
abbrev pub initial_below : Automaton → Hints → ℕ → Bool
initial_below M H s = initial_alone narrow M H (H.past_sets s)
