-- The rows of the items table. A list is nothing, or a list and an item; an item is a word and a number, or a list in
-- brackets. States 0, 1, 2, 4, 5 and 9 stand outside of brackets, the others within.
use Rattle.std.specs.Prelude.{ℕ, List, [], ◌∷◌, Some, None, Option}
use Rattle.syntax.specs.declared.Symbol.{Symbol}
use Rattle.syntax.specs.declared.Symbol.TheVariants.{Terminal, Nonterminal}
use Rattle.syntax.specs.Grammar.{Rule}
use Rattle.table.specs.declared.Action.{Action}
use Rattle.table.specs.declared.Action.TheVariants.{Shift, Accept, Reject}
use Rattle.dense.specs.Rows.{Rows}

-- symbols

abbrev pub list : Symbol
list = Nonterminal 0

abbrev pub item : Symbol
item = Nonterminal 1

abbrev pub word : Symbol
word = Terminal 1

abbrev pub number : Symbol
number = Terminal 2

abbrev pub opening : Symbol
opening = Terminal 7

abbrev pub closing : Symbol
closing = Terminal 8

-- productions

abbrev pub makes : ℕ → List Symbol → Rule
makes n α = record { left = n; right = α }

abbrev pub rules : List Rule
rules =
    makes 0 []
    ∷ makes 0 (list ∷ item ∷ [])
    ∷ makes 1 (word ∷ number ∷ [])
    ∷ makes 1 (opening ∷ list ∷ closing ∷ [])
    ∷ []

-- by state

abbrev pub incoming_row : List (Option Symbol)
incoming_row =
    None ∷ Some list ∷ Some word ∷ Some opening ∷ Some item ∷ Some number ∷ Some list
    ∷ Some word ∷ Some opening ∷ Some closing ∷ Some item ∷ Some number ∷ Some list ∷ Some closing ∷ []

abbrev pub default_row : List (Option ℕ)
default_row =
    Some 0 ∷ None ∷ None ∷ Some 0 ∷ Some 1 ∷ Some 2 ∷ None
    ∷ None ∷ Some 0 ∷ Some 3 ∷ Some 1 ∷ Some 2 ∷ None ∷ Some 3 ∷ []

-- what is done before each of 16 terminals, of which END, a word, a number and the brackets are used
abbrev pub before : Action → Action → Action → Action → Action → List Action
before x w n o c =
    x ∷ w ∷ n ∷ Reject ∷ Reject ∷ Reject ∷ Reject ∷ o ∷ c
    ∷ Reject ∷ Reject ∷ Reject ∷ Reject ∷ Reject ∷ Reject ∷ Reject ∷ []

-- nothing before any
abbrev pub idle : List Action
idle = before Reject Reject Reject Reject Reject

abbrev pub action_rows : List (List Action)
action_rows =
    idle
    ∷ before Accept (Shift 2) Reject (Shift 3) Reject
    ∷ before Reject Reject (Shift 5) Reject Reject
    ∷ idle
    ∷ idle
    ∷ idle
    ∷ before Reject (Shift 7) Reject (Shift 8) (Shift 9)
    ∷ before Reject Reject (Shift 11) Reject Reject
    ∷ idle
    ∷ idle
    ∷ idle
    ∷ idle
    ∷ before Reject (Shift 7) Reject (Shift 8) (Shift 13)
    ∷ idle
    ∷ []

-- where a list and an item lead
abbrev pub on : Option ℕ → Option ℕ → List (Option ℕ)
on l i = l ∷ i ∷ []

abbrev pub nowhere : List (Option ℕ)
nowhere = on None None

abbrev pub goto_rows : List (List (Option ℕ))
goto_rows =
    on (Some 1) None
    ∷ on None (Some 4)
    ∷ nowhere
    ∷ on (Some 6) None
    ∷ nowhere
    ∷ nowhere
    ∷ on None (Some 10)
    ∷ nowhere
    ∷ on (Some 12) None
    ∷ nowhere
    ∷ nowhere
    ∷ nowhere
    ∷ on None (Some 10)
    ∷ nowhere
    ∷ []

abbrev pub items_rows : Rows
items_rows = record {
  productions = rules;
  incoming = incoming_row;
  defaults = default_row;
  actions = action_rows;
  gotos = goto_rows;
}
