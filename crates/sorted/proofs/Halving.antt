-- A search by halving: the key in the middle leaves one half.
use Rattle.std.proofs.Common.{◌≡◌, ℕ, ◌+◌, ◌-◌, ◌/◌, ◌<◌, ◌≤◌, List, [], get_or, ◌∙◌, arith}
use Rattle.layout.specs.Records.{sheet, count, key, record_at}
use Rattle.wellformed.specs.Formed.{Sorted}
use Rattle.wellformed.proofs.Seeks.{Between, under_too, over_too}
use Rattle.sorted.specs.Contents.{rows_in}
use Rattle.sorted.proofs.Chunks.{row_key}

module _ (bs : List ℕ) (w : Sorted (sheet bs)) (k low high : ℕ) (b : Between (sheet bs) k low high) (lt : low < high)
    (rows : List (List ℕ)) (e : rows ≡ rows_in (sheet bs)) where
  abbrev middle : ℕ
  middle = low + (high - low) / 2

  inside : middle < count (sheet bs)
  inside = omega (arith, b.within)

  -- the key that is read in the middle is that of the record there
  key_is : (x : ℕ) → x ≡ key (get_or rows middle []) → x ≡ key (record_at (sheet bs) middle)
  key_is x r = r ∙ row_key (sheet bs) rows middle e inside

  pub upper_half : (x : ℕ) → x ≡ key (get_or rows middle []) → x < k → Between (sheet bs) k (middle + 1) high
  upper_half x r less =
      let is = key_is x r in
      record {
        ordered = omega arith;
        within = b.within;
        under = under_too (sheet bs) w k middle inside (omega (arith, is));
        over = b.over;
      }

  pub lower_half : (x : ℕ) → x ≡ key (get_or rows middle []) → k ≤ x → Between (sheet bs) k low middle
  lower_half x r least =
      let is = key_is x r in
      record {
        ordered = omega arith;
        within = omega (arith, b.within);
        under = b.under;
        over = over_too (sheet bs) w k middle inside (omega (arith, is));
      }
