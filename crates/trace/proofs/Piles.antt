-- The top of a pile, taken apart.
use Rattle.std.proofs.Common.{◌≡◌, ℕ, zero, suc, ◌+◌, ◌-◌, ◌≤◌, List, [], ◌∷◌, ◌++◌, length, take, drop, sym, refl, ap, ◌∙◌, append_assoc, append-nil, add-zero, add-suc, add-one, arith, take_at, drop_at}
use Rattle.std.proofs.lemmas.List.{length_push}
use Rattle.sink.specs.Stacks.{front, back}
use Rattle.trace.specs.Records.{joined}
use Rattle.trace.specs.Piles.{Pile, put, below, top}

pub length_top : (k : ℕ) (s : Pile) → length (top k s) ≡ k
length_top zero s = refl
length_top (suc k) s =
    length_push (top k (λ n. s (suc n))) (s 0) ∙ ap (λ n. n + 1) (length_top k (λ n. s (suc n))) ∙ add-one k

top_split : (j k : ℕ) (s : Pile) → top (j + k) s ≡ top j (below k s) ++ top k s
top_split j zero s = ap (λ n. top n s) (add-zero j) ∙ sym (append-nil (top j s))
top_split j (suc k) s =
    let rest : Pile = λ n. s (suc n) in
    ap (λ n. top n s) (add-suc j k) ∙ ap (λ l. l ++ (s 0 ∷ [])) (top_split j k rest)
    ∙ append_assoc (top j (below k rest)) (top k rest) (s 0 ∷ [])

-- the top t, without its last k and with them
module _ (t k : ℕ) (s : Pile) (few : k ≤ t) where
  pub split : top t s ≡ top (t - k) (below k s) ++ top k s
  split = let e : t ≡ (t - k) + k = omega arith in ap (λ n. top n s) e ∙ top_split (t - k) k s

  at : length (top t s) - k ≡ t - k
  at = ap (λ n. n - k) (length_top t s)

  pub front_top : front k (top t s) ≡ top (t - k) (below k s)
  front_top = (λ i. take (at i) (split i)) ∙ take_at _ (top k s) (t - k) (length_top (t - k) (below k s))

  pub back_top : back k (top t s) ≡ top k s
  back_top = (λ i. drop (at i) (split i)) ∙ drop_at _ (top k s) (t - k) (length_top (t - k) (below k s))

pub top_put : (n : ℕ) (x : List ℕ) (s : Pile) → top (n + 1) (put x s) ≡ top n s ++ (x ∷ [])
top_put n x s = ap (λ m. top m (put x s)) (add-one n)

pub joined_append : (xs ys : List (List ℕ)) → joined (xs ++ ys) ≡ joined xs ++ joined ys
joined_append [] ys = refl
joined_append (x ∷ xs) ys = ap (λ l. x ++ l) (joined_append xs ys) ∙ sym (append_assoc x (joined xs) (joined ys))
