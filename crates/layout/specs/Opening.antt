-- What opening refuses of a sheet, and where: the one account of it, in the order of the passes.
use Rattle.std.specs.Prelude.{ℕ, ◌+◌, ◌-◌, ◌%◌, ◌^◌, Bool, true, false, cond, not, ◌&&◌, ◌||◌, leb, List, [], ◌∷◌, ◌++◌, length, Some, None, Option, ◌==◌, nat_eq, nat_le, nat_lt}
use Rattle.syntax.specs.declared.Symbol.{Symbol}
use Rattle.syntax.specs.declared.Symbol.TheVariants.{Terminal, Nonterminal}
use Rattle.syntax.specs.Grammar.{terminals, nonterminals, productions, longest}
use Rattle.table.specs.declared.Action.{Action}
use Rattle.table.specs.declared.Action.TheVariants.{Shift, Reduce, Accept, Reject}
use Rattle.table.specs.Hints.{deepest, added}
use Rattle.layout.specs.declared.Letter.{Letter}
use Rattle.layout.specs.declared.Letter.TheVariants.{A, D, G, I, K, N, P, S}
use Rattle.layout.specs.declared.Refusal.{Refusal}
use Rattle.layout.specs.declared.Refusal.TheVariants.{Length, Order, Range, Absent, Contradiction}
use Rattle.layout.specs.Choices.{or_else, given, present, unless, implies, first, below, some_below, every}
use Rattle.layout.specs.Records.{Format, Sheet, count, record_at, at, byte, code, letter, key, payload, set_in}
use Rattle.layout.specs.Records.{no_symbol, maybe_symbol, symbols, action_in}
use Rattle.layout.specs.Meaning.{placed, automaton}
use Rattle.layout.specs.Passes.{Pass, pass, told}

-- a test by the letter of a record; a record without a letter fails it
abbrev pub by_letter : List ℕ → (Letter → Bool) → Bool
by_letter r f = given false f (letter r)

-- LENGTH

abbrev pub most_bytes : ℕ
most_bytes = 65520

abbrev pub length_fits : Sheet → Bool
length_fits sh =
    (not (length sh.bytes == 0) && length sh.bytes % sh.format.width == 0)
    && nat_le (length sh.bytes) most_bytes

-- ORDER

-- a key above the one before
abbrev pub in_order : Sheet → ℕ → Bool
in_order sh i = i == 0 || nat_lt (key (record_at sh (i - 1))) (key (record_at sh i))

-- RANGE

-- bytes k to m - 1 are zero
abbrev pub unused : List ℕ → ℕ → ℕ → Bool
unused r k m = below (m - k) (λ j. nat_eq (at r (k + j)) 0)

abbrev pub symbol_byte : ℕ → Bool
symbol_byte b = (nat_le 1 b && nat_lt b terminals) || (nat_le 64 b && nat_lt b (64 + nonterminals))

-- n symbols and then only the byte for none
abbrev pub symbol_bytes : Format → List ℕ → ℕ → Bool
symbol_bytes f r n =
    nat_le n longest && (below n (λ k. symbol_byte (at r (8 + k)))
    && below (f.width - 8 - n) (λ k. nat_eq (at r (8 + n + k)) no_symbol))

-- shift to a state, reduce by a production, or accept
abbrev pub action_bytes : Format → ℕ → ℕ → Bool
action_bytes f x t =
    ((x == 1 && nat_lt t f.states) || (x == 2 && nat_lt t productions)) || (x == 3 && t == 0)

-- a set of terminals
abbrev pub terminal_set : Format → List ℕ → Bool
terminal_set f r = nat_lt (payload f r) (2 ^ terminals)

-- a set of states
abbrev pub state_set : Format → List ℕ → Bool
state_set f r = nat_lt (payload f r) (2 ^ f.states)

abbrev pub occupied : Format → List ℕ → Bool
occupied f r = not (payload f r == 0)

-- by the letter; the dot of an item may be any byte, since one too far is a contradiction
abbrev pub in_range_of : Format → List ℕ → Letter → Bool
in_range_of f r A =
    nat_lt (at r 1) f.states && (nat_lt (at r 2) terminals && (unused r 3 4
    && (action_bytes f (at r 4) (at r 5) && unused r 6 f.width)))
in_range_of f r D =
    nat_lt (at r 1) f.states && (unused r 2 4 && (nat_lt (at r 4) productions && unused r 5 f.width))
in_range_of f r G =
    nat_lt (at r 1) f.states && (nat_lt (at r 2) nonterminals && (unused r 3 4
    && (nat_lt (at r 4) f.states && unused r 5 f.width)))
in_range_of f r I =
    nat_lt (at r 1) f.states && ((nat_lt (at r 2) productions || at r 2 == added) && (nat_lt (at r 3) 256 && (unused r 4 8
    && (terminal_set f r && occupied f r))))
in_range_of f r K =
    nat_lt (at r 1) f.states && (nat_lt (at r 2) deepest && (unused r 3 8 && (state_set f r && occupied f r)))
in_range_of f r N =
    nat_lt (at r 1) nonterminals && (unused r 2 4 && (nat_lt (at r 4) 2 && (unused r 5 8
    && (terminal_set f r && payload f r % 2 == 0))))
in_range_of f r P =
    nat_lt (at r 1) productions && (unused r 2 4 && (nat_lt (at r 4) nonterminals && (unused r 6 8
    && symbol_bytes f r (at r 5))))
in_range_of f r S =
    nat_lt (at r 1) f.states && (unused r 2 4 && ((symbol_byte (at r 4) || at r 4 == no_symbol) && (unused r 6 8
    && symbol_bytes f r (at r 5))))

abbrev pub in_range : Format → List ℕ → Bool
in_range f r = by_letter r (in_range_of f r)

-- NAMES

abbrev pub has_state : Sheet → ℕ → Bool
has_state sh s = present (placed sh S s 0 0)

abbrev pub has_production : Sheet → ℕ → Bool
has_production sh p = present (placed sh P p 0 0)

abbrev pub has_nonterminal : Sheet → ℕ → Bool
has_nonterminal sh n = present (placed sh N n 0 0)

abbrev pub has_symbol : Sheet → Symbol → Bool
has_symbol sh (Terminal a) = true
has_symbol sh (Nonterminal n) = has_nonterminal sh n

abbrev pub has_target : Sheet → Action → Bool
has_target sh (Shift t) = has_state sh t
has_target sh (Reduce p) = has_production sh p
has_target sh Accept = true
has_target sh Reject = true

-- every state of the set that a record holds
abbrev pub has_states : Sheet → List ℕ → Bool
has_states sh r = below sh.format.states (λ s. let y = has_state sh s in implies (set_in sh.format r s) y)

-- the number before one that is not 0
abbrev pub after_none_or : (ℕ → Bool) → ℕ → Bool
after_none_or has n = n == 0 || has (n - 1)

-- productions, states and nonterminals, and each state's past sets, are numbered from 0 without a gap
abbrev pub no_gap : Sheet → List ℕ → Letter → Bool
no_gap sh r A = true
no_gap sh r D = true
no_gap sh r G = true
no_gap sh r I = true
no_gap sh r K = after_none_or (λ d. present (placed sh K (at r 1) d 0)) (at r 2)
no_gap sh r N = after_none_or (has_nonterminal sh) (at r 1)
no_gap sh r P = after_none_or (has_production sh) (at r 1)
no_gap sh r S = after_none_or (has_state sh) (at r 1)

-- what a record names has its own
abbrev pub names_known : Sheet → List ℕ → Letter → Bool
names_known sh r A = has_state sh (at r 1) && has_target sh (action_in r)
names_known sh r D = has_state sh (at r 1) && has_production sh (at r 4)
names_known sh r G = has_state sh (at r 1) && (has_nonterminal sh (at r 2) && has_state sh (at r 4))
names_known sh r I = has_state sh (at r 1) && (at r 2 == added || has_production sh (at r 2))
names_known sh r K = has_state sh (at r 1) && has_states sh r
names_known sh r N = true
names_known sh r P = has_nonterminal sh (at r 4) && every (has_symbol sh) (symbols r (at r 5))
names_known sh r S =
    given true (has_symbol sh) (maybe_symbol (at r 4)) && every (has_symbol sh) (symbols r (at r 5))

abbrev pub names_fit : Sheet → List ℕ → Bool
names_fit sh r = by_letter r (λ l. no_gap sh r l && names_known sh r l)

abbrev pub has_letter : Sheet → Letter → ℕ → Bool
has_letter sh l i = byte sh i 0 == code l

abbrev pub has_kind : Sheet → Letter → Bool
has_kind sh l = some_below (count sh) (has_letter sh l)

-- there is a production, a state and a nonterminal
abbrev pub has_all_kinds : Sheet → Bool
has_all_kinds sh = has_kind sh P && (has_kind sh S && has_kind sh N)

-- SENSE

abbrev pub same_symbol : Symbol → Symbol → Bool
same_symbol (Terminal a) (Terminal b) = a == b
same_symbol (Terminal a) (Nonterminal b) = false
same_symbol (Nonterminal a) (Terminal b) = false
same_symbol (Nonterminal a) (Nonterminal b) = a == b

-- symbol X enters state t
abbrev pub enters : Sheet → Symbol → ℕ → Bool
enters sh X t = given false (λ Y. same_symbol Y X) ((automaton sh).incoming t)

-- no shift on END, accept on END alone, and a shift leads where its terminal enters
abbrev pub action_makes_sense : Sheet → ℕ → Action → Bool
action_makes_sense sh a (Shift t) = not (a == 0) && enters sh (Terminal a) t
action_makes_sense sh a (Reduce p) = true
action_makes_sense sh a Accept = a == 0
action_makes_sense sh a Reject = true

-- record i is an action of state s
abbrev pub acts_in : Sheet → ℕ → ℕ → Bool
acts_in sh s i = has_letter sh A i && byte sh i 1 == s

-- state s has an action
abbrev pub acts : Sheet → ℕ → Bool
acts sh s = some_below (count sh) (acts_in sh s)

-- how many symbols stand in the right side of a production, or of the added one
abbrev pub right_length : Sheet → ℕ → Option ℕ
right_length sh p =
    cond (p == added) (Some 1) (given None (λ q. Some (length q.right)) ((automaton sh).grammar p))

abbrev pub makes_sense_as : Sheet → List ℕ → Letter → Bool
makes_sense_as sh r A = action_makes_sense sh (at r 2) (action_in r)
makes_sense_as sh r D = not (acts sh (at r 1))
makes_sense_as sh r G = enters sh (Nonterminal (at r 2)) (at r 4)
makes_sense_as sh r I = given false (leb (at r 3)) (right_length sh (at r 2))
makes_sense_as sh r K = not (at r 1 == 0)
makes_sense_as sh r N = true
makes_sense_as sh r P = true
makes_sense_as sh r S =
    cond (at r 1 == 0) (at r 4 == no_symbol && at r 5 == 0) (not (at r 4 == no_symbol))

abbrev pub makes_sense : Sheet → List ℕ → Bool
makes_sense sh r = by_letter r (makes_sense_as sh r)

-- THE PASSES

-- one try: the sheet is of a right length
abbrev pub length_refused : Sheet → ℕ → Option Refusal
length_refused sh i = unless (length_fits sh) Length

-- order and then range, record by record
abbrev pub record_refused : Sheet → ℕ → Option Refusal
record_refused sh i =
    or_else (unless (in_order sh i) (Order i)) (unless (in_range sh.format (record_at sh i)) (Range i))

-- the names of each record; behind the last, that there is a record of each kind that must be
abbrev pub name_refused : Sheet → ℕ → Option Refusal
name_refused sh i = unless (cond (nat_lt i (count sh)) (names_fit sh (record_at sh i)) (has_all_kinds sh)) (Absent i)

abbrev pub sense_refused : Sheet → ℕ → Option Refusal
sense_refused sh i = unless (makes_sense sh (record_at sh i)) (Contradiction i)

-- what each pass finds
abbrev pub length_found : Sheet → Option Refusal
length_found sh = first (length_refused sh) 1

abbrev pub records_found : Sheet → Option Refusal
records_found sh = first (record_refused sh) (count sh)

abbrev pub names_found : Sheet → Option Refusal
names_found sh = first (name_refused sh) (count sh + 1)

abbrev pub sense_found : Sheet → Option Refusal
sense_found sh = first (sense_refused sh) (count sh)

-- records one by one, and then records with each other
abbrev pub sorting_passes : Sheet → List Pass
sorting_passes sh = pass 1 (length_refused sh) ∷ pass (count sh) (record_refused sh) ∷ []

abbrev pub naming_passes : Sheet → List Pass
naming_passes sh = pass (count sh + 1) (name_refused sh) ∷ pass (count sh) (sense_refused sh) ∷ []

abbrev pub opening_passes : Sheet → List Pass
opening_passes sh = sorting_passes sh ++ naming_passes sh

-- what keeps a sheet from being sorted: searched by key
unfoldable pub sorting : Sheet → Option Refusal
sorting sh = told (sorting_passes sh)

-- what opening refuses
unfoldable pub opening : Sheet → Option Refusal
opening sh = told (opening_passes sh)
