-- What is asked of an item, part by part. It is handed on with its look-aheads, so that they are looked up once.
use Rattle.std.specs.Prelude.{ℕ, ◌+◌, ◌<◌, Bool, true, false, List, [], ◌∷◌, drop}
use Rattle.syntax.specs.declared.Symbol.{Symbol}
use Rattle.syntax.specs.Grammar.{Grammar, terminals}
use Rattle.table.specs.Automaton.{Automaton, decide}
use Rattle.table.specs.Hints.{Set, ◌∈◌, Hints, right_side}
use Rattle.table.specs.Completeness.{wanted}
use Rattle.layout.specs.Choices.{given, implies, below}
use Rattle.layout.specs.Records.{sixteen, member}
use Rattle.layout.specs.Checking.{subset}
use Rattle.layout.specs.Checking.{reduces_by, shifts_to}
use Rattle.layout.specs.CompletenessTests.{each_rule, items_closed, done_reduces}
use Rattle.layout.specs.CompletenessTests.{one_dot_on, final_accepts, item_complete}
use Rattle.hinted.specs.Sets.{Holds}
use Rattle.completeness.specs.declared.item.Item.{Item}
use Rattle.completeness.specs.Rights.{rights}

-- a set, as a number, of terminals alone
abbrev pub OfTerminals : ℕ → Type 0
OfTerminals m = (a : ℕ) → a ∈ member sixteen m → a < terminals

-- the look-aheads that hints give an item
abbrev pub looks_of : Hints → Item → Set
looks_of H x = H.look_aheads x.state x.production x.dot

-- the item carries them
abbrev pub HasLooks : Hints → Item → Type 0
HasLooks H x = Holds x.looks (looks_of H x)

-- what stands behind the symbol at the dot
abbrev pub behind : Grammar → Item → List Symbol
behind G x = drop (x.dot + 1) (rights G x.production)

-- the first item of production q in state s has at least the look-aheads W
abbrev pub first_has : Hints → ℕ → ℕ → ℕ → Bool
first_has H s W q = subset terminals (member sixteen W) (H.look_aheads s q 0)

-- so have those of all productions of nonterminal n
abbrev pub all_have : Automaton → Hints → ℕ → ℕ → ℕ → Bool
all_have M H s n W = each_rule M.grammar n (first_has H s W)

module _ (M : Automaton) (H : Hints) (x : Item) where
  -- the look-aheads that the first items of the nonterminal at the dot must have
  abbrev pub wanted_by : Set
  wanted_by = wanted H (behind M.grammar x) (looks_of H x)

  -- nonterminal n at the dot has its first items
  abbrev pub closed_on : ℕ → Bool
  closed_on n = items_closed M H x.state n (behind M.grammar x) (looks_of H x)

  -- state t goes on with it
  abbrev pub next_in : ℕ → Bool
  next_in t = one_dot_on M H x.production x.dot (looks_of H x) t

  -- terminal a at the dot is shifted
  abbrev pub shifted_on : ℕ → Bool
  shifted_on a = shifts_to next_in (decide M x.state a)

  -- a goto on nonterminal n at the dot, if there is one, goes on with it
  abbrev pub followed_on : ℕ → Bool
  followed_on n = given true next_in (M.goto x.state n)

  -- done with END behind it, it is accepted
  abbrev pub accepted_at_end : Bool
  accepted_at_end = final_accepts M H x.state (looks_of H x)

  -- done, it is reduced on each look-ahead
  abbrev pub reduced : Bool
  reduced = done_reduces M H x.state x.production (looks_of H x)

  -- the action on terminal a reduces it
  abbrev pub reduced_on : ℕ → Bool
  reduced_on a = reduces_by x.production (M.action x.state a)

  -- so it is where no default decides
  abbrev pub actions_reduced : Bool
  actions_reduced = below terminals (λ a. let y = reduced_on a in implies (looks_of H x a) y)

  -- it is complete, with γ behind its dot
  abbrev pub complete_with : List Symbol → Bool
  complete_with γ = item_complete M H x.state x.production x.dot (looks_of H x) γ

  -- it is, with symbol X at its dot
  abbrev pub advanced : Symbol → Bool
  advanced X = complete_with (X ∷ behind M.grammar x)

  -- it is, with nothing there; its production may be absent
  abbrev pub complete_at_end : Bool
  complete_at_end = given false (λ α. complete_with []) (right_side M.grammar x.production)
