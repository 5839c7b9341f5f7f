-- The hints to the items table.
use Rattle.std.specs.Prelude.{ℕ, true, false, List, [], ◌∷◌}
use Rattle.syntax.specs.declared.Symbol.{Symbol}
use Rattle.table.specs.Hints.{added}
use Rattle.dense.specs.HintRows.{ItemRow, NameRow, HintRows}
use Rattle.items.specs.Rows.{list, word, opening}

-- the symbols before the incoming one of each state, the nearest last
abbrev pub past_symbol_rows : List (List Symbol)
past_symbol_rows =
    []
    ∷ []
    ∷ (list ∷ [])
    ∷ (list ∷ [])
    ∷ (list ∷ [])
    ∷ (list ∷ word ∷ [])
    ∷ (list ∷ opening ∷ [])
    ∷ (list ∷ opening ∷ list ∷ [])
    ∷ (list ∷ opening ∷ list ∷ [])
    ∷ (list ∷ opening ∷ list ∷ [])
    ∷ (list ∷ opening ∷ list ∷ [])
    ∷ (list ∷ opening ∷ list ∷ word ∷ [])
    ∷ (list ∷ opening ∷ list ∷ opening ∷ [])
    ∷ (list ∷ opening ∷ list ∷ opening ∷ list ∷ [])
    ∷ []

-- a set of one state
abbrev pub only : ℕ → List ℕ
only s = s ∷ []

-- the states behind a list and behind a bracket, within brackets
abbrev pub lists_within : List ℕ
lists_within = 6 ∷ 12 ∷ []

abbrev pub opened : List ℕ
opened = 3 ∷ 8 ∷ []

-- the states behind a list, and those in which a list begins
abbrev pub lists : List ℕ
lists = 1 ∷ lists_within

abbrev pub beginnings : List ℕ
beginnings = 0 ∷ opened

-- the states below each state, the nearest first
abbrev pub past_set_rows : List (List (List ℕ))
past_set_rows =
    []
    ∷ (only 0 ∷ [])
    ∷ (only 1 ∷ only 0 ∷ [])
    ∷ (only 1 ∷ only 0 ∷ [])
    ∷ (only 1 ∷ only 0 ∷ [])
    ∷ (only 2 ∷ only 1 ∷ only 0 ∷ [])
    ∷ (only 3 ∷ only 1 ∷ only 0 ∷ [])
    ∷ (lists_within ∷ opened ∷ lists ∷ beginnings ∷ [])
    ∷ (lists_within ∷ opened ∷ lists ∷ beginnings ∷ [])
    ∷ (only 6 ∷ only 3 ∷ only 1 ∷ only 0 ∷ [])
    ∷ (lists_within ∷ opened ∷ lists ∷ beginnings ∷ [])
    ∷ (only 7 ∷ lists_within ∷ opened ∷ lists ∷ beginnings ∷ [])
    ∷ (only 8 ∷ lists_within ∷ opened ∷ lists ∷ beginnings ∷ [])
    ∷ (only 12 ∷ only 8 ∷ lists_within ∷ opened ∷ lists ∷ beginnings ∷ [])
    ∷ []

abbrev pub item_of : ℕ → ℕ → List ℕ → ItemRow
item_of p d looks = record { production = p; dot = d; looks = looks }

-- what can follow: behind a whole text, behind an item outside of brackets, and behind one within
abbrev pub end : List ℕ
end = 0 ∷ []

abbrev pub outer : List ℕ
outer = 0 ∷ 1 ∷ 7 ∷ []

abbrev pub inner : List ℕ
inner = 1 ∷ 7 ∷ 8 ∷ []

abbrev pub item_rows : List (List ItemRow)
item_rows =
    (item_of 0 0 outer ∷ item_of 1 0 outer ∷ item_of added 0 end ∷ [])
    ∷ (item_of 1 1 outer ∷ item_of 2 0 outer ∷ item_of 3 0 outer ∷ item_of added 1 end ∷ [])
    ∷ (item_of 2 1 outer ∷ [])
    ∷ (item_of 0 0 inner ∷ item_of 1 0 inner ∷ item_of 3 1 outer ∷ [])
    ∷ (item_of 1 2 outer ∷ [])
    ∷ (item_of 2 2 outer ∷ [])
    ∷ (item_of 1 1 inner ∷ item_of 2 0 inner ∷ item_of 3 0 inner ∷ item_of 3 2 outer ∷ [])
    ∷ (item_of 2 1 inner ∷ [])
    ∷ (item_of 0 0 inner ∷ item_of 1 0 inner ∷ item_of 3 1 inner ∷ [])
    ∷ (item_of 3 3 outer ∷ [])
    ∷ (item_of 1 2 inner ∷ [])
    ∷ (item_of 2 2 inner ∷ [])
    ∷ (item_of 1 1 inner ∷ item_of 2 0 inner ∷ item_of 3 0 inner ∷ item_of 3 2 inner ∷ [])
    ∷ (item_of 3 3 inner ∷ [])
    ∷ []

-- a list can be empty, an item cannot; both begin with a word or an opening bracket
abbrev pub name_rows : List NameRow
name_rows =
    record { nullable = true; firsts = 1 ∷ 7 ∷ [] } ∷ record { nullable = false; firsts = 1 ∷ 7 ∷ [] } ∷ []

abbrev pub items_hints : HintRows
items_hints = record {
  past_symbols = past_symbol_rows;
  past_sets = past_set_rows;
  items = item_rows;
  names = name_rows;
}
