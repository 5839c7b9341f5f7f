-- What a well-formed sheet is, as propositions.
use Rattle.std.specs.Prelude.{◌≡◌, ℕ, ◌+◌, ◌-◌, ◌%◌, ◌^◌, ◌<◌, ◌≤◌, T, ◌⊎◌, ◌↔◌, List, length, Some, None, Option, ◌≢◌}
use Rattle.syntax.specs.declared.Symbol.{Symbol}
use Rattle.syntax.specs.declared.Symbol.TheVariants.{Terminal, Nonterminal}
use Rattle.syntax.specs.Grammar.{terminals, nonterminals, productions, longest, Every, Present}
use Rattle.table.specs.declared.Action.{Action}
use Rattle.table.specs.declared.Action.TheVariants.{Shift, Reduce, Accept, Reject}
use Rattle.table.specs.Lawful.{Lawful}
use Rattle.table.specs.Hints.{deepest, added}
use Rattle.layout.specs.declared.Letter.{Letter}
use Rattle.layout.specs.declared.Letter.TheVariants.{A, D, G, I, K, N, P, S}
use Rattle.layout.specs.Records.{Format, Sheet, count, record_at, at, byte, code, key, payload, set_in, no_symbol}
use Rattle.layout.specs.Records.{maybe_symbol, symbols, action_in}
use Rattle.layout.specs.Meaning.{placed, automaton}
use Rattle.layout.specs.Opening.{most_bytes, right_length, sorting, opening}

-- Q holds of what is there
abbrev pub IfAny : {X : Type 0} → (X → Type 0) → Option X → Type 0
IfAny Q None = Unit {0}
IfAny Q (Some x) = Q x

abbrev pub LengthFits : Sheet → Type 0
LengthFits sh =
    ((length sh.bytes ≢ 0) × (length sh.bytes % sh.format.width ≡ 0)) × (length sh.bytes ≤ most_bytes)

-- RANGE

-- bytes k to m - 1 are zero
abbrev pub Unused : List ℕ → ℕ → ℕ → Type 0
Unused r k m = (j : ℕ) → j < m - k → at r (k + j) ≡ 0

abbrev pub SymbolByte : ℕ → Type 0
SymbolByte b = ((1 ≤ b) × (b < terminals)) ⊎ ((64 ≤ b) × (b < 64 + nonterminals))

abbrev pub SymbolBytes : Format → List ℕ → ℕ → Type 0
SymbolBytes f r n =
    (n ≤ longest) × (((k : ℕ) → k < n → SymbolByte (at r (8 + k)))
    × ((k : ℕ) → k < f.width - 8 - n → at r (8 + n + k) ≡ no_symbol))

abbrev pub ActionBytes : Format → ℕ → ℕ → Type 0
ActionBytes f x t =
    (((x ≡ 1) × (t < f.states)) ⊎ ((x ≡ 2) × (t < productions))) ⊎ ((x ≡ 3) × (t ≡ 0))

abbrev pub TerminalSet : Format → List ℕ → Type 0
TerminalSet f r = payload f r < 2 ^ terminals

abbrev pub StateSet : Format → List ℕ → Type 0
StateSet f r = payload f r < 2 ^ f.states

abbrev pub Occupied : Format → List ℕ → Type 0
Occupied f r = payload f r ≡ 0 → ⊥

abbrev pub InRangeOf : Format → List ℕ → Letter → Type 0
InRangeOf f r A =
    (at r 1 < f.states) × ((at r 2 < terminals) × (Unused r 3 4
    × (ActionBytes f (at r 4) (at r 5) × Unused r 6 f.width)))
InRangeOf f r D =
    (at r 1 < f.states) × (Unused r 2 4 × ((at r 4 < productions) × Unused r 5 f.width))
InRangeOf f r G =
    (at r 1 < f.states) × ((at r 2 < nonterminals) × (Unused r 3 4
    × ((at r 4 < f.states) × Unused r 5 f.width)))
InRangeOf f r I =
    (at r 1 < f.states) × (((at r 2 < productions) ⊎ (at r 2 ≡ added)) × ((at r 3 < 256) × (Unused r 4 8
    × (TerminalSet f r × Occupied f r))))
InRangeOf f r K =
    (at r 1 < f.states) × ((at r 2 < deepest) × (Unused r 3 8 × (StateSet f r × Occupied f r)))
InRangeOf f r N =
    (at r 1 < nonterminals) × (Unused r 2 4 × ((at r 4 < 2) × (Unused r 5 8
    × (TerminalSet f r × (payload f r % 2 ≡ 0)))))
InRangeOf f r P =
    (at r 1 < productions) × (Unused r 2 4 × ((at r 4 < nonterminals) × (Unused r 6 8
    × SymbolBytes f r (at r 5))))
InRangeOf f r S =
    (at r 1 < f.states) × (Unused r 2 4 × ((SymbolByte (at r 4) ⊎ (at r 4 ≡ no_symbol)) × (Unused r 6 8
    × SymbolBytes f r (at r 5))))

-- NAMES

-- there is a record with this key
abbrev pub Has : Sheet → Letter → ℕ → ℕ → Type 0
Has sh l a b = Present (placed sh l a b 0)

abbrev pub HasSymbol : Sheet → Symbol → Type 0
HasSymbol sh (Terminal a) = Unit {0}
HasSymbol sh (Nonterminal n) = Has sh N n 0

abbrev pub HasTarget : Sheet → Action → Type 0
HasTarget sh (Shift t) = Has sh S t 0
HasTarget sh (Reduce p) = Has sh P p 0
HasTarget sh Accept = Unit {0}
HasTarget sh Reject = Unit {0}

abbrev pub NoGap : Sheet → List ℕ → Letter → Type 0
NoGap sh r A = Unit {0}
NoGap sh r D = Unit {0}
NoGap sh r G = Unit {0}
NoGap sh r I = Unit {0}
NoGap sh r K = (at r 2 ≡ 0) ⊎ Has sh K (at r 1) (at r 2 - 1)
NoGap sh r N = (at r 1 ≡ 0) ⊎ Has sh N (at r 1 - 1) 0
NoGap sh r P = (at r 1 ≡ 0) ⊎ Has sh P (at r 1 - 1) 0
NoGap sh r S = (at r 1 ≡ 0) ⊎ Has sh S (at r 1 - 1) 0

abbrev pub NamesKnown : Sheet → List ℕ → Letter → Type 0
NamesKnown sh r A = Has sh S (at r 1) 0 × HasTarget sh (action_in r)
NamesKnown sh r D = Has sh S (at r 1) 0 × Has sh P (at r 4) 0
NamesKnown sh r G = Has sh S (at r 1) 0 × (Has sh N (at r 2) 0 × Has sh S (at r 4) 0)
NamesKnown sh r I = Has sh S (at r 1) 0 × ((at r 2 ≡ added) ⊎ Has sh P (at r 2) 0)
NamesKnown sh r K =
    Has sh S (at r 1) 0 × ((s : ℕ) → s < sh.format.states → T (set_in sh.format r s) → Has sh S s 0)
NamesKnown sh r N = Unit {0}
NamesKnown sh r P = Has sh N (at r 4) 0 × Every (HasSymbol sh) (symbols r (at r 5))
NamesKnown sh r S = IfAny (HasSymbol sh) (maybe_symbol (at r 4)) × Every (HasSymbol sh) (symbols r (at r 5))

abbrev pub SomeRecord : Sheet → Letter → Type 0
SomeRecord sh l = (i : ℕ) × (i < count sh) × (byte sh i 0 ≡ code l)

-- SENSE

-- no shift on END, accept on END alone, and a shift leads where its terminal enters
abbrev pub ActionMakesSense : Sheet → ℕ → Action → Type 0
ActionMakesSense sh a (Shift t) = (a ≢ 0) × ((automaton sh).incoming t ≡ Some (Terminal a))
ActionMakesSense sh a (Reduce p) = Unit {0}
ActionMakesSense sh a Accept = a ≡ 0
ActionMakesSense sh a Reject = Unit {0}

abbrev pub MakesSenseAs : Sheet → List ℕ → Letter → Type 0
MakesSenseAs sh r A = ActionMakesSense sh (at r 2) (action_in r)
MakesSenseAs sh r D = (j : ℕ) → j < count sh → byte sh j 0 ≡ code A → byte sh j 1 ≢ at r 1
MakesSenseAs sh r G = (automaton sh).incoming (at r 4) ≡ Some (Nonterminal (at r 2))
MakesSenseAs sh r I = (n : ℕ) × (right_length sh (at r 2) ≡ Some n) × (at r 3 ≤ n)
MakesSenseAs sh r K = at r 1 ≡ 0 → ⊥
MakesSenseAs sh r N = Unit {0}
MakesSenseAs sh r P = Unit {0}
MakesSenseAs sh r S =
    (at r 1 ≡ 0 → (at r 4 ≡ no_symbol) × (at r 5 ≡ 0)) × ((at r 1 ≢ 0) → at r 4 ≢ no_symbol)

-- record i has a letter, and Q holds of it and that letter
abbrev pub ByLetter : Sheet → (List ℕ → Letter → Type 0) → ℕ → Type 0
ByLetter sh Q i = (l : Letter) × (byte sh i 0 ≡ code l) × Q (record_at sh i) l

-- records in range, and in the order of their keys
pub record Sorted (sh : Sheet) : Type 0 where
  pub length_fits : LengthFits sh
  pub in_order : (i j : ℕ) → i < j → j < count sh → key (record_at sh i) < key (record_at sh j)
  pub in_range : (i : ℕ) → i < count sh → ByLetter sh (InRangeOf sh.format) i

pub record Formed (sh : Sheet) : Type 0 where
  pub sorted : Sorted sh
  pub gapless : (i : ℕ) → i < count sh → ByLetter sh (NoGap sh) i
  pub names_known : (i : ℕ) → i < count sh → ByLetter sh (NamesKnown sh) i
  pub some_production : SomeRecord sh P
  pub some_state : SomeRecord sh S
  pub some_nonterminal : SomeRecord sh N
  pub makes_sense : (i : ℕ) → i < count sh → ByLetter sh (MakesSenseAs sh) i

abbrev pub SortsExactlySorted : Type 0
SortsExactlySorted = (sh : Sheet) → (sorting sh ≡ None) ↔ Sorted sh

-- opening refuses nothing exactly of the well-formed sheets
abbrev pub OpensExactlyFormed : Type 0
OpensExactlyFormed = (sh : Sheet) → (opening sh ≡ None) ↔ Formed sh

-- a well-formed sheet holds a lawful table
abbrev pub FormedIsLawful : Type 0
FormedIsLawful = (sh : Sheet) → Formed sh → Lawful sh.format.states (automaton sh)
