-- The tokens of a plan, from its bytes.
use Rattle.std.specs.Prelude.{ℕ, zero, suc, pred, ◌+◌, ◌-◌, Bool, cond, ◌&&◌, ◌||◌, List, [], ◌∷◌, map, length, drop, Some, None, Ok, Err, codes, Option, Result, ◌==◌, nat_le}
use Rattle.std.specs.List.{take_while}
use Rattle.std.specs.Int.Digits.{number_from_digits}
use Rattle.syntax.specs.declared.Token.{Token}
use Rattle.source.specs.declared.SourceFault.{SourceFault}
use Rattle.source.specs.declared.SourceFault.TheVariants.{UnknownByte, LongWord, LargeNumber}
use Rattle.source.specs.Streams.{end, fault, Stream}

-- how many bytes a plan has at most, how many letters a word, and how large a number is
abbrev pub longest_plan : ℕ
longest_plan = 65535

abbrev pub longest_word : ℕ
longest_word = 8

abbrev pub largest_number : ℕ
largest_number = 4294967295

-- the bytes that separate: a line feed and a space
abbrev pub is_blank : ℕ → Bool
is_blank b = b == 10 || b == 32

-- a to z
abbrev pub is_letter : ℕ → Bool
is_letter b = nat_le 97 b && nat_le b 122

-- 0 to 9
abbrev pub is_digit : ℕ → Bool
is_digit b = nat_le 48 b && nat_le b 57

-- the index of b in a list, counted from k
abbrev pub index_from : ℕ → List ℕ → ℕ → Option ℕ
index_from k [] b = None
index_from k (x ∷ xs) b = cond (b == x) (Some k) (index_from (k + 1) xs b)

-- the kind of a character that is a token of its own
abbrev pub mark_kind : ℕ → Option ℕ
mark_kind = index_from 3 (codes "+-*/(),;:=<>{}")

-- the longest front of which every byte passes
abbrev pub run : (ℕ → Bool) → List ℕ → List ℕ
run = take_while

-- the number that letters stand for: their codes in base 256
abbrev pub spelled : List ℕ → ℕ
spelled = number_from_digits 256

-- what a digit counts
abbrev pub digit : ℕ → ℕ
digit b = b - 48

-- the number that digits stand for
abbrev pub decimal : List ℕ → ℕ
decimal ds = number_from_digits 10 (map digit ds)

-- a token by its parts
abbrev pub token : ℕ → ℕ → ℕ → ℕ → Token
token kind place length value = record { kind = kind; place = place; length = length; value = value }

-- what an item is: a token, or a fault
abbrev pub Item : Type 0
Item = Result Token SourceFault

-- these letters at place p
abbrev pub word : ℕ → List ℕ → Item
word p ls = cond (nat_le (length ls) longest_word) (Ok (token 1 p (length ls) (spelled ls))) (Err (LongWord p 0))

-- these digits at place p
abbrev pub numeral : ℕ → List ℕ → Item
numeral p ds = cond (nat_le (decimal ds) largest_number) (Ok (token 2 p (length ds) (decimal ds))) (Err (LargeNumber p 0))

-- a character of this kind at place p
abbrev pub mark : ℕ → Option ℕ → Item
mark p (Some k) = Ok (token k p 1 0)
mark p None = Err (UnknownByte p 0)

-- the item at place p, where the bytes bs stand; the first of them is b, and no blank
abbrev pub item : ℕ → ℕ → List ℕ → Item
item p b bs =
    cond (is_letter b) (word p (run is_letter bs))
    (cond (is_digit b) (numeral p (run is_digit bs)) (mark p (mark_kind b)))

-- the item, and behind a token what its length gives
abbrev pub item_then : Item → (ℕ → Stream) → Stream
item_then (Ok t) onward = record { tokens = t ∷ (onward t.length).tokens; ending = (onward t.length).ending }
item_then (Err f) onward = record { tokens = []; ending = fault f }

-- what the bytes at place p mean, when the first n of them belong to the token before
unfoldable pub lexed : ℕ → ℕ → List ℕ → Stream
lexed p n [] = record { tokens = []; ending = end }
lexed p (suc n) (b ∷ bs) = lexed (p + 1) n bs
lexed p zero (b ∷ bs) =
    cond (is_blank b) (lexed (p + 1) 0 bs) (item_then (item p b (b ∷ bs)) (λ n. lexed (p + 1) (pred n) bs))

-- what a plan means from place p on
abbrev pub lexed_from : ℕ → List ℕ → Stream
lexed_from p plan = lexed p 0 (drop p plan)
