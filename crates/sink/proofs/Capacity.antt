-- No event changes how many values a stack can hold.
use Rattle.std.proofs.Common.{◌≡◌, ℕ, ◌+◌, ◌-◌, ◌≤◌, Bool, true, false, cond, ◌&&◌, ◌||◌, eqb, ltb, length, refl, ap, ◌∙◌, arith}
use Rattle.std.proofs.lemmas.List.{length_push, length-take-le}
use Rattle.std.proofs.lemmas.Bool.Decides.{nat_tests}
use Rattle.syntax.specs.declared.Token.{Token}
use Rattle.syntax.specs.Values.{Algebra}
use Rattle.sink.specs.Stacks.{Count, endless, limited, Stack, spent, recount, more, front, full, sent, capacity}
use Rattle.sink.specs.Stacks.{leaf_after, node_after}

-- l values are made l - k + 1, and a cell is free for one that has no children
recounted : (c : Count) (l k : ℕ) → k ≤ l → (spent c && eqb k 0) ≡ false → more (l - k + 1) (recount k c) ≡ more l c
recounted endless l k few free = refl
recounted (limited n) l k few free = let e : n + k - 1 + (l - k + 1) ≡ n + l = grind (arith, nat_tests) in ap limited e

second : (a b : Bool) → (a || b) ≡ false → b ≡ false
second true b e = let z : ◌≡◌ {A = ℕ} 0 1 = cc in absurd (omega arith)
second false b e = e

module _ {V : Type 0} (s : Stack V) where
  sent_capacity : (k : ℕ) (v : V) → k ≤ length s.list → full k s ≡ false → capacity (sent k v s) ≡ capacity s
  sent_capacity k v few room =
      let kept = length-take-le (length s.list - k) s.list (omega arith) in
      let count = length_push (front k s.list) v ∙ ap (λ n. n + 1) kept in
      ap (λ n. more n (recount k s.cells)) count ∙ recounted s.cells (length s.list) k few (second _ _ room)

  where_taken : (b : Bool) (t : Stack V) → (b ≡ false → capacity t ≡ capacity s) → capacity (cond b s t) ≡ capacity s
  where_taken true t h = refl
  where_taken false t h = h refl

  module _ (R : Algebra V) where
    pub leaf_keeps : (t : Token) → capacity (leaf_after R t s) ≡ capacity s
    leaf_keeps t = where_taken (full 0 s) _ (sent_capacity 0 _ (omega arith))

    pub node_keeps : (p k : ℕ) → capacity (node_after R p k s) ≡ capacity s
    node_keeps p k =
        where_taken (ltb (length s.list) k || full k s) _
        (λ e. sent_capacity k _ (grind (arith, nat_tests)) (second (ltb (length s.list) k) (full k s) e))
