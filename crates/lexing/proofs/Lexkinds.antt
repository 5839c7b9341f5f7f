-- Every token of a plan has a kind of 1 to 16.
use Rattle.std.proofs.Common.{ℕ, zero, suc, pred, ◌+◌, ◌<◌, ◌≤◌, eqb, List, [], ◌∷◌, length, drop, Some, None, Ok, Err, codes, Option, arith}
use Rattle.std.proofs.lemmas.Bool.{cond_both}
use Rattle.syntax.specs.Grammar.{Kind, Kinded}
use Rattle.source.specs.Streams.{Stream}
use Rattle.lexing.specs.Plans.{is_blank, is_letter, is_digit, index_from, mark_kind, run, Item, mark, item, item_then, lexed, lexed_from}
use Rattle.lexing.proofs.Items.{word_cases, numeral_cases, item_cases}

-- an index between low and high, or none
abbrev Between : ℕ → ℕ → Option ℕ → Type 0
Between low high (Some k) = (low ≤ k) × (k < high)
Between low high None = Unit {0}

index_between :
    (high k : ℕ) (xs : List ℕ) (b low : ℕ) → low ≤ k → k + length xs ≤ high → Between low high (index_from k xs b)
index_between high k [] b low from to = tt
index_between high k (x ∷ xs) b low from to =
    cond_both (eqb b x) (Some k) (index_from (k + 1) xs b) (Between low high)
    (λ _. (from, omega arith))
    (λ _. index_between high (k + 1) xs b low (omega arith) (omega arith))

-- an item that is a token has a kind of a token
abbrev KindedItem : Item → Type 0
KindedItem (Ok t) = Kind t.kind
KindedItem (Err f) = Unit {0}

mark_kinded : (p : ℕ) (k : Option ℕ) → Between 3 17 k → KindedItem (mark p k)
mark_kinded p (Some k) h = (omega arith, omega arith)
mark_kinded p None h = tt

item_kinded : (p b : ℕ) (bs : List ℕ) → KindedItem (item p b bs)
item_kinded p b bs =
    item_cases KindedItem p b bs
    (λ _. word_cases KindedItem p (run is_letter bs) (λ _. (omega arith, omega arith)) (λ _. tt))
    (λ _. numeral_cases KindedItem p (run is_digit bs) (λ _. (omega arith, omega arith)) (λ _. tt))
    (λ _ _. mark_kinded p (mark_kind b) (index_between 17 3 (codes "+-*/(),;:=<>{}") b 3 (omega arith) (omega arith)))

then_kinded :
    (i : Item) (onward : ℕ → Stream) → KindedItem i → ((n : ℕ) → Kinded (onward n).tokens)
    → Kinded (item_then i onward).tokens
then_kinded (Ok t) onward here behind = (here, behind t.length)
then_kinded (Err f) onward here behind = tt

all_kinded : (p n : ℕ) (bs : List ℕ) → Kinded (lexed p n bs).tokens
unfolding lexed
all_kinded p n [] = tt
all_kinded p (suc n) (b ∷ bs) = all_kinded (p + 1) n bs
all_kinded p zero (b ∷ bs) =
    let onward : ℕ → Stream = λ n. lexed (p + 1) (pred n) bs in
    cond_both (is_blank b) (lexed (p + 1) 0 bs) (item_then (item p b (b ∷ bs)) onward) (λ s. Kinded s.tokens)
    (λ _. all_kinded (p + 1) 0 bs)
    (λ _. then_kinded (item p b (b ∷ bs)) onward (item_kinded p b (b ∷ bs)) (λ n. all_kinded (p + 1) (pred n) bs))

pub lexed_kinded : (p : ℕ) (plan : List ℕ) → Kinded (lexed_from p plan).tokens
lexed_kinded p plan = all_kinded p 0 (drop p plan)
