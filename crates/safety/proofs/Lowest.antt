-- The lowest member of a set that is shifted out from below.
use Rattle.std.proofs.Common.{◌≡◌, ℕ, zero, suc, ◌+◌, ◌-◌, ◌*◌, ◌/◌, ◌%◌, ◌^◌, ◌<◌, ◌≤◌, true, false, sym, refl, ap, ◌∙◌, pow-suc, arith, shr-shr}
use lib.Count.{under, count_trailing_zeros}
use lib.Pow.{shr_le}
use Rattle.std.proofs.lemmas.Bool.{eq-eqb, ne_eqb}
use Rattle.table.specs.Lawful.{narrow}
use Rattle.layout.specs.Records.{sixteen, member}
use Rattle.wellformed.proofs.Bits.{Bit, half_bit, bit_is}
use Rattle.safety.proofs.Depths.{more_bits}

-- bit t of m is set, and none below it is
record Lowest (m t : ℕ) : Type 0 where
  pub is_set : Bit m t
  pub none_below : (x : ℕ) → x < t → (m / 2 ^ x) % 2 ≡ 0

lowest : (k m : ℕ) → m < 2 ^ k → (m ≡ 0 → ⊥) → Lowest m (count_trailing_zeros k m)
unfolding count_trailing_zeros
lowest zero m lt some = absurd (some (omega arith))
lowest (suc k) m lt some = go (m % 2) refl (lowest k (m / 2))
  where
    later : {t : ℕ} → m % 2 ≡ 0 → ((x : ℕ) → x < t → (m / 2 / 2 ^ x) % 2 ≡ 0) → (x : ℕ) → x < suc t →
        (m / 2 ^ x) % 2 ≡ 0
    later even none zero lt = omega arith
    later even none (suc x) lt = sym (half_bit m x) ∙ none x (omega arith)

    go : (d : ℕ) → m % 2 ≡ d →
        (m / 2 < 2 ^ k → (m / 2 ≡ 0 → ⊥) → Lowest (m / 2) (count_trailing_zeros k (m / 2))) →
        Lowest m (under d (count_trailing_zeros k (m / 2)))
    go zero e rec =
        let lt' : m < 2 ^ k * 2 = rw pow-suc at lt in
        let r = rec (omega arith) (λ z. some (omega arith)) in
        record { is_set = sym (half_bit m _) ∙ r.is_set; none_below = later e r.none_below }
    go (suc d) e rec = record { is_set = omega arith; none_below = λ x lt. absurd (omega arith) }

-- what is left of a set from s on has its lowest member t further
pub record Found (set s t : ℕ) : Type 0 where
  pub near : t < narrow
  pub within : s + t < narrow
  pub is_member : member sixteen set (s + t) ≡ true
  pub skipped : (x : ℕ) → s ≤ x → x < s + t → member sixteen set x ≡ false

module _ (set rest s : ℕ) (few : set < 2 ^ narrow) (left : rest ≡ set / 2 ^ s) (some : rest ≡ 0 → ⊥) where
  -- a bit of what is left
  further : (t : ℕ) → (rest / 2 ^ t) % 2 ≡ (set / 2 ^ (s + t)) % 2
  further t = ap (λ m. (m / 2 ^ t) % 2) left ∙ ap (λ m. m % 2) (shr-shr set s t)

  pub found : Found set s (count_trailing_zeros narrow rest)
  found =
      let t = count_trailing_zeros narrow rest in
      let r = lowest narrow rest (omega (arith, shr_le set s)) some in
      let bit : (set / 2 ^ (s + t)) % 2 ≡ 1 = sym (further t) ∙ r.is_set in
      let within = more_bits set (s + t) few (λ e. omega arith) in
      record {
        near = omega arith;
        within = within;
        is_member = sym (bit_is sixteen set (s + t) within) ∙ eq-eqb _ 1 bit;
        skipped = λ x le lt.
            let d = x - s in
            let at : s + d ≡ x = omega arith in
            let zero_bit : (set / 2 ^ x) % 2 ≡ 0 =
            ap (λ k. (set / 2 ^ k) % 2) (sym at) ∙ sym (further d) ∙ r.none_below d (omega arith)
            in
            sym (bit_is sixteen set x (omega arith)) ∙ ne_eqb _ 1 (λ e. omega arith);
      }

  pub shifted_on : rest / 2 ^ count_trailing_zeros narrow rest / 2 ≡ set / 2 ^ (s + count_trailing_zeros narrow rest + 1)
  shifted_on =
      let t = count_trailing_zeros narrow rest in
      ap (λ m. m / 2 ^ t / 2) left ∙ ap (λ m. m / 2) (shr-shr set s t) ∙ shr-shr set (s + t) 1
