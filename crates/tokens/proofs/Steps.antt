-- One token more of a listing.
use Rattle.std.proofs.Common.{◌≡◌, ℕ, List, [], ◌∷◌, ◌++◌, Some, Ok, sym, ap, ◌∙◌, append_assoc, arith}
use Rattle.syntax.specs.declared.Token.{Token}
use Rattle.source.specs.Streams.{Ending, end, fault, Stream, next, rest, answer, dropped}

next_is : (ts : List Token) (e : Ending) (t : Token) → Ok (Some t) ≡ next ts e → ts ≡ t ∷ rest ts
next_is [] end t a = let z : ◌≡◌ {A = ℕ} 0 1 = cc in absurd (omega arith)
next_is [] (fault f) t a = let z : ◌≡◌ {A = ℕ} 0 1 = cc in absurd (omega arith)
next_is (x ∷ ts) e t a = let same : x ≡ t = cc in ap (λ u. u ∷ ts) same

-- the token that is taken goes over from those to come to those that are listed
pub listed_more :
    (s : Stream) (t : Token) (before all : List Token) → Ok (Some t) ≡ answer s → before ++ s.tokens ≡ all
    → (before ++ (t ∷ [])) ++ (dropped s).tokens ≡ all
listed_more s t before all a h =
    append_assoc before (t ∷ []) (rest s.tokens)
    ∙ sym (ap (λ ts. before ++ ts) (next_is s.tokens s.ending t a)) ∙ h
