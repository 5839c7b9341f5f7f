-- Every token of a list, of a limited stream and of a rekinded one has a kind of 1 to 31.
use Rattle.std.proofs.Common.{◌≡◌, ℕ, zero, suc, ◌+◌, true, not, eqb, leb, List, [], ◌∷◌, map, take, Some, None, Ok, refl, sym, ap, ◌∙◌, arith}
use Rattle.std.specs.List.{find, position_from}
use Rattle.std.specs.Option.{option_map, unwrap_or}
use Rattle.std.proofs.lemmas.Bool.{and_parts, and_from, cond_both, leb-true, le-leb, not-false}
use Rattle.std.proofs.lemmas.Iterator.Adapters.{position_from-zero}
use Rattle.syntax.specs.declared.Token.{Token}
use Rattle.syntax.specs.Grammar.{Kind, Every, Kinded}
use Rattle.source.specs.Streams.{Ending, end, fault, Stream, next, answer}
use Rattle.streams.specs.declared.Keyword.{Keyword}
use Rattle.streams.specs.Listed.{is_kind, all_fit, first_out}
use Rattle.streams.specs.Rekinded.{word, kind_of, rekind, rekinded, all_kinds}

module _ {A : Type 0} (P : A → Type 0) where
  every_take : (n : ℕ) (xs : List A) → Every P xs → Every P (take n xs)
  every_take zero xs h = tt
  every_take (suc n) [] h = tt
  every_take (suc n) (x ∷ xs) h = (h.0, every_take n xs h.1)

  every_map : (f : A → A) → ((x : A) → P x → P (f x)) → (xs : List A) → Every P xs → Every P (map f xs)
  every_map f keeps [] h = tt
  every_map f keeps (x ∷ xs) h = (keeps x h.0, every_map f keeps xs h.1)

abbrev HasKind : Token → Type 0
HasKind t = Kind t.kind

pub limited_kinded : (n : ℕ) (s : Stream) → Kinded s.tokens → Kinded (take n s.tokens)
limited_kinded n s h = every_take HasKind n s.tokens h

pub kind_from : (k : ℕ) → is_kind k ≡ true → Kind k
kind_from k h = let p = and_parts (leb 1 k) (leb k 31) h in (leb-true 1 k p.0, omega (arith, leb-true k 31 p.1))

none_from : (i : ℕ) (ts : List Token) → position_from (λ t. not (is_kind t.kind)) i ts ≡ None → all_fit ts ≡ true
none_from i [] h = refl
none_from i (t ∷ ts) h =
    cond_both (not (is_kind t.kind)) (Some i) (position_from (λ u. not (is_kind u.kind)) (i + 1) ts)
    (λ o. o ≡ None → all_fit (t ∷ ts) ≡ true)
    (λ _ some. let z : ◌≡◌ {A = ℕ} 0 1 = cc in absurd (omega arith))
    (λ fits none. and_from (is_kind t.kind) (all_fit ts) (not-false (is_kind t.kind) fits) (none_from (i + 1) ts none))
    h

-- where no kind is out of range, every token fits
pub all_fit_from : (ts : List Token) → first_out ts ≡ None → all_fit ts ≡ true
all_fit_from ts h = none_from 0 ts (sym (position_from-zero _ ts) ∙ h)

pub listed_kinded : (ts : List Token) → all_fit ts ≡ true → Kinded ts
listed_kinded [] h = tt
listed_kinded (t ∷ ts) h =
    let p = and_parts (is_kind t.kind) (all_fit ts) h in (kind_from t.kind p.0, listed_kinded ts p.1)

kind_kept : (ws : List Keyword) (v : ℕ) → all_kinds ws ≡ true → Kind (kind_of ws v)
kind_kept [] v h = (omega arith, omega arith)
kind_kept (w ∷ ws) v h =
    let p = and_parts (is_kind w.kind) (all_kinds ws) h in
    cond_both (eqb w.spelling v) (Some w) (find (λ x. eqb x.spelling v) ws) (λ o. Kind (unwrap_or (option_map (λ x. x.kind) o) word))
    (λ _. kind_from w.kind p.0)
    (λ _. kind_kept ws v p.1)

rekind_kept : (ws : List Keyword) → all_kinds ws ≡ true → (t : Token) → HasKind t → HasKind (rekind ws t)
rekind_kept ws h t k =
    cond_both (eqb t.kind word) (kind_of ws t.value) t.kind Kind (λ _. kind_kept ws t.value h) (λ _. k)

pub rekinded_kinded :
    (ws : List Keyword) (s : Stream) → all_kinds ws ≡ true → Kinded s.tokens → Kinded (rekinded ws s).tokens
rekinded_kinded ws s fit h = every_map HasKind (rekind ws) (rekind_kept ws fit) s.tokens h

to_test : (k : ℕ) → Kind k → is_kind k ≡ true
to_test k h = and_from (leb 1 k) (leb k 31) (le-leb 1 k h.0) (le-leb k 31 (omega (arith, h.1)))

next_kind :
    (ts : List Token) (e : Ending) (t : Token) → Kinded ts → Ok (Some t) ≡ next ts e → is_kind t.kind ≡ true
next_kind [] end t h a = let z : ◌≡◌ {A = ℕ} 0 1 = cc in absurd (omega arith)
next_kind [] (fault f) t h a = let z : ◌≡◌ {A = ℕ} 0 1 = cc in absurd (omega arith)
next_kind (x ∷ ts) e t h a = let same : t ≡ x = cc in ap (λ u. is_kind u.kind) same ∙ to_test x.kind h.0

-- a token that is answered has a kind of a token
pub answer_kind : (s : Stream) (t : Token) → Kinded s.tokens → Ok (Some t) ≡ answer s → is_kind t.kind ≡ true
answer_kind s t h a = next_kind s.tokens s.ending t h a
