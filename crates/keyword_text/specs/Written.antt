-- What a keyword's text means.
use Rattle.std.specs.Prelude.{◌≡◌, ◌<◌, ℕ, List, Some, None, Ok, Err, Option, Result, length, codes, ◌==◌, ◌^◌, true, is_some}
use Rattle.std.specs.List.{position_or_len, before_first, after_first}
use Rattle.std.specs.Str.Parse.{IsNumeral, digits_value, without_leading_plus}
use Rattle.streams.specs.declared.Keyword.{Keyword}
use Rattle.lexing.specs.Spelling.{spelling}
use Rattle.keyword_text.specs.declared.KeywordTextError.{KeywordTextError}
use Rattle.keyword_text.specs.declared.KeywordTextError.TheVariants.{NoEquals, NoSpelling, Kind}

-- the text before the first `=`
abbrev pub letters : List ℕ → List ℕ
letters text = before_first (λ b. b == 61) text

-- the text behind it, where a plus may stand before the digits
abbrev pub digits : List ℕ → List ℕ
digits text = without_leading_plus (after_first (λ b. b == 61) text)

-- some byte of it is `=`
abbrev pub HasEquals : List ℕ → Type 0
HasEquals text = position_or_len (λ b. b == 61) text < length text

-- the digits write a number of 8 bits
abbrev pub HasKind : List ℕ → Type 0
HasKind text = IsNumeral 10 (digits text) × (digits_value 10 (digits text) < 2 ^ 8)

-- a keyword with the spelling of the letters and the number that the digits write; else the first thing that is wrong
abbrev pub IsRead : List ℕ → Result Keyword KeywordTextError → Type 0
IsRead text (Ok k) =
    HasEquals text × (spelling (letters text) ≡ Some k.spelling)
    × HasKind text × (k.kind ≡ digits_value 10 (digits text))
IsRead text (Err NoEquals) = HasEquals text → ⊥
IsRead text (Err NoSpelling) = HasEquals text × (spelling (letters text) ≡ None)
IsRead text (Err (Kind e)) =
    HasEquals text × (is_some (spelling (letters text)) ≡ true) × (HasKind text → ⊥)

-- what an error says; that of a number is the library's
abbrev pub words : KeywordTextError → Option (List ℕ)
words NoEquals = Some (codes "a keyword is SPELLING=KIND")
words NoSpelling = Some (codes "a spelling has 1 to 8 letters a to z")
words (Kind e) = None
