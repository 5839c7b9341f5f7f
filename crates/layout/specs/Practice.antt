-- The practice sheet, record by record, and sheets near it: what opening says of each.
use Rattle.std.specs.Prelude.{◌≡◌, ℕ, List, [], ◌∷◌, ◌++◌, take, replicate, Some, None, Option}
use Rattle.layout.specs.declared.Letter.{Letter}
use Rattle.layout.specs.declared.Letter.TheVariants.{A, D, G, I, K, N, P, S}
use Rattle.layout.specs.declared.Refusal.{Refusal}
use Rattle.layout.specs.declared.Refusal.TheVariants.{Length, Order, Range, Absent, Contradiction}
use Rattle.layout.specs.Records.{sheet, code}
use Rattle.layout.specs.Opening.{opening}

-- a record: its letter and numbers, its first two fields, its payload
abbrev pub row : Letter → ℕ → ℕ → ℕ → ℕ → ℕ → List ℕ → List ℕ
row l a b c f g rest = code l ∷ a ∷ b ∷ c ∷ f ∷ g ∷ 0 ∷ 0 ∷ rest

-- a set of numbers below 8
abbrev pub small : ℕ → List ℕ
small m = 0 ∷ 0 ∷ 0 ∷ 0 ∷ 0 ∷ 0 ∷ 0 ∷ m ∷ []

abbrev pub no_symbols : List ℕ
no_symbols = 255 ∷ 255 ∷ 255 ∷ 255 ∷ 255 ∷ 255 ∷ 255 ∷ 255 ∷ []

abbrev pub act : ℕ → ℕ → ℕ → ℕ → List ℕ
act s a f t = row A s a 0 f t (small 0)

abbrev pub default : ℕ → ℕ → List ℕ
default s p = row D s 0 0 p 0 (small 0)

abbrev pub goto : ℕ → ℕ → ℕ → List ℕ
goto s n t = row G s n 0 t 0 (small 0)

abbrev pub item : ℕ → ℕ → ℕ → ℕ → List ℕ
item s p d looks = row I s p d 0 0 (small looks)

abbrev pub past : ℕ → ℕ → ℕ → List ℕ
past s d states = row K s d 0 0 0 (small states)

abbrev pub nonterminal : ℕ → ℕ → ℕ → List ℕ
nonterminal n nullable firsts = row N n 0 0 nullable 0 (small firsts)

abbrev pub joined : List (List ℕ) → List ℕ
joined [] = []
joined (r ∷ rs) = r ++ joined rs

-- A 1 0 accept, A 1 1 shift 2
abbrev pub actions : List ℕ
actions = act 1 0 3 0 ++ act 1 1 1 2

abbrev pub items : List ℕ
items =
    joined (item 0 0 0 3 ∷ item 0 1 0 3 ∷ item 0 254 0 1 ∷ item 1 1 1 3 ∷ item 1 254 1 1 ∷ item 2 1 2 3 ∷ [])

abbrev pub pasts : List ℕ
pasts = past 1 0 1 ++ past 2 0 2 ++ past 2 1 1

-- production 0 makes nothing, production 1 a list and a word
abbrev pub productions : List ℕ
productions = row P 0 0 0 0 0 no_symbols ++ row P 1 0 0 0 2 (64 ∷ 1 ∷ 255 ∷ 255 ∷ 255 ∷ 255 ∷ 255 ∷ 255 ∷ [])

abbrev pub states : List ℕ
states =
    row S 0 0 0 255 0 no_symbols ++ row S 1 0 0 64 0 no_symbols
    ++ row S 2 0 0 1 1 (64 ∷ 255 ∷ 255 ∷ 255 ∷ 255 ∷ 255 ∷ 255 ∷ 255 ∷ [])

abbrev pub grammar : List ℕ
grammar = joined (nonterminal 0 1 2 ∷ productions ∷ states ∷ [])

abbrev pub practice_bytes : List ℕ
practice_bytes =
    joined (actions ∷ default 0 0 ∷ default 2 1 ∷ goto 0 0 1 ∷ items ∷ pasts ∷ grammar ∷ [])

-- bytes, and what opening refuses of them
pub record Case : Type 0 where
  pub bytes : List ℕ
  pub refused : Option Refusal

abbrev pub case : List ℕ → Option Refusal → Case
case bs o = record { bytes = bs; refused = o }

abbrev pub cases : List Case
cases =
    case practice_bytes None
    ∷ case (take 319 practice_bytes) (Some Length)
    ∷ case [] (Some Length)
    ∷ case (replicate 320 0) (Some (Range 0))
    -- a key that is not above the last comes before a later byte out of range
    ∷ case (act 1 1 1 2 ++ act 1 0 3 0 ++ replicate 16 0) (Some (Order 1))
    -- a production and a state, and no nonterminal: the production's left side is absent
    ∷ case (row P 0 0 0 0 0 no_symbols ++ row S 0 0 0 255 0 no_symbols) (Some (Absent 0))
    -- a nonterminal and a state, and no production
    ∷ case (nonterminal 0 0 0 ++ row S 0 0 0 255 0 no_symbols) (Some (Absent 2))
    -- a default beside actions
    ∷ case
    (joined (actions ∷ default 0 0 ∷ default 1 0 ∷ default 2 1 ∷ goto 0 0 1 ∷ items ∷ pasts ∷ grammar ∷ []))
    (Some (Contradiction 3))
    ∷ []

abbrev pub AllHold : List Case → Type 0
AllHold [] = Unit {0}
AllHold (c ∷ cs) = (opening (sheet c.bytes) ≡ c.refused) × AllHold cs

abbrev pub CasesHold : Type 0
CasesHold = AllHold cases
