-- Sheets near the practice sheet, and what the verdict on each is.
use Rattle.std.specs.Prelude.{◌≡◌, ℕ, List, [], ◌∷◌, ◌++◌, take, Some, None}
use Rattle.layout.specs.declared.Letter.TheVariants.{P, S}
use Rattle.layout.specs.declared.Refusal.TheVariants.{Length, Unsafe, Incomplete}
use Rattle.layout.specs.Records.{sheet}
use Rattle.layout.specs.Practice.{row, no_symbols, act, default, goto, item, past, nonterminal, joined, actions, items, pasts, productions, states, practice_bytes, Case, case}
use Rattle.layout.specs.Checking.{verdict}

-- actions, default reductions and gotos
abbrev pub moves : List ℕ
moves = joined (actions ∷ default 0 0 ∷ default 2 1 ∷ goto 0 0 1 ∷ [])

-- the practice sheet with other moves, items, past sets and nonterminals
abbrev pub near : List ℕ → List ℕ → List ℕ → List ℕ → List ℕ
near ms its sets names = joined (ms ∷ its ∷ sets ∷ names ∷ productions ∷ states ∷ [])

abbrev pub with_moves : List (List ℕ) → List ℕ
with_moves ms = near (joined ms) items pasts (nonterminal 0 1 2)

abbrev pub with_items : List ℕ → List ℕ
with_items its = near moves its pasts (nonterminal 0 1 2)

abbrev pub with_pasts : List ℕ → List ℕ
with_pasts sets = near moves items sets (nonterminal 0 1 2)

abbrev pub with_firsts : ℕ → List ℕ
with_firsts set = near moves items pasts (nonterminal 0 1 set)

-- the items of states 0 and 1
abbrev pub first_items : List ℕ
first_items = joined (item 0 0 0 3 ∷ item 0 1 0 3 ∷ item 0 254 0 1 ∷ item 1 1 1 3 ∷ item 1 254 1 1 ∷ [])

abbrev pub cases : List Case
cases =
    case practice_bytes None
    ∷ case (take 319 practice_bytes) (Some Length)
    -- without the item of state 2, into which the item before a word shifts
    ∷ case (with_items first_items) (Some (Incomplete 8))
    -- without its goto, the default reduction of state 0 slips
    ∷ case (with_moves (actions ∷ default 0 0 ∷ default 2 1 ∷ [])) (Some (Unsafe 2))
    -- at the far depth below state 2 also state 1, which has no goto
    ∷ case (with_pasts (past 1 0 1 ++ past 2 0 2 ++ past 2 1 3)) (Some (Unsafe 3))
    -- state 2 below the accepting state
    ∷ case (with_pasts (past 1 0 5 ++ past 2 0 2 ++ past 2 1 1)) (Some (Unsafe 0))
    -- no set at the depth to which state 2 reduces
    ∷ case (with_pasts (past 1 0 1 ++ past 2 0 2)) (Some (Unsafe 3))
    -- a solution of the first equations that is not the least
    ∷ case (with_firsts 6) None
    -- no solution: a word begins a list
    ∷ case (with_firsts 0) (Some (Incomplete 14))
    -- a whole text read in state 2, which does not accept
    ∷ case (with_items (items ++ item 2 254 1 1)) (Some (Incomplete 11))
    -- no items, and so none by which a reading begins
    ∷ case (with_items []) (Some (Incomplete 14))
    -- no actions: the item before a word has no shift
    ∷ case (with_moves (default 0 0 ∷ default 2 1 ∷ goto 0 0 1 ∷ [])) (Some (Incomplete 6))
    -- state 2 reduces before a word alone, and its item asks it before END too
    ∷ case (with_moves (actions ∷ act 2 1 2 1 ∷ default 0 0 ∷ goto 0 0 1 ∷ [])) (Some (Incomplete 10))
    -- the smallest sheet that opens
    ∷ case (nonterminal 0 1 0 ++ row P 0 0 0 0 0 no_symbols ++ row S 0 0 0 255 0 no_symbols) (Some (Incomplete 3))
    ∷ []

abbrev pub AllHold : List Case → Type 0
AllHold [] = Unit {0}
AllHold (c ∷ cs) = (verdict (sheet c.bytes) ≡ c.refused) × AllHold cs

abbrev pub CasesHold : Type 0
CasesHold = AllHold cases
