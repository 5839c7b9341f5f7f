-- The value of a word that stands alone, and that no other word has it.
use Rattle.std.specs.Prelude.{◌≡◌, ℕ, Bool, cond, ◌&&◌, List, length, Some, None, Option, nat_le}
use Rattle.std.specs.List.{list_all}
use Rattle.lexing.specs.Plans.{longest_word, is_letter, spelled}

-- every byte is a letter
abbrev pub letters : List ℕ → Bool
letters = list_all is_letter

-- 1 to 8 letters
abbrev pub is_word : List ℕ → Bool
is_word bs = letters bs && (nat_le 1 (length bs) && nat_le (length bs) longest_word)

-- the value of a word; of anything else, none
abbrev pub spelling : List ℕ → Option ℕ
spelling bs = cond (is_word bs) (Some (spelled bs)) None

-- different words have different values
abbrev pub Distinct : List ℕ → Type 0
Distinct bs = (other : List ℕ) (v : ℕ) → spelling bs ≡ Some v → spelling other ≡ Some v → other ≡ bs
