-- The hints of a well-formed sheet fit into numbers of 64 bits, and a past set is found by its key.
use Rattle.std.proofs.Common.{◌≡◌, ℕ, suc, ◌-◌, ◌<◌, ◌≤◌, false, ◌⊎◌, List, [], length, is_some, Some, None, Option, refl, ap, subst, inl, inr, arith}
use Rattle.syntax.specs.Grammar.{terminals, Present}
use Rattle.table.specs.Automaton.{nth}
use Rattle.table.specs.Hints.{Set, ◌∈◌, deepest}
use Rattle.hinted.specs.Sets.{InRange}
use Rattle.layout.specs.declared.Letter.{Letter}
use Rattle.layout.specs.declared.Letter.TheVariants.{I, K, N, S}
use Rattle.layout.specs.Choices.{given, mapped}
use Rattle.layout.specs.Records.{sixteen, sheet, record_at, byte, set_in, symbols}
use Rattle.layout.specs.Meaning.{placed, hints}
use Rattle.layout.specs.Opening.{opening}
use Rattle.wellformed.specs.Formed.{Has, NoGap, InRangeOf, Formed}
use Rattle.wellformed.proofs.Tests.{mapped_some, in_found}
use Rattle.wellformed.proofs.Rows.{Row, row_of, range_at, at_letter, none_placed}
use Rattle.wellformed.proofs.Formed.{formed_of}
use Rattle.wellformed.proofs.Lawful.{length_gather}
use Rattle.wellformed.proofs.Bits.{member_low}
use Rattle.wellformed.proofs.Runs.{length_run, nth_run}

module _ (bs : List ℕ) (w : Formed (sheet bs)) where
  ranged : (l : Letter) (a b c i : ℕ) → Row (sheet bs) l a b c i → InRangeOf sixteen (record_at (sheet bs) i) l
  ranged l a b c i r = range_at (sheet bs) w.sorted l i r.within r.is_0

  abbrev set_at : ℕ → Set
  set_at i = set_in sixteen (record_at (sheet bs) i)

  look_aheads_fit : (s p d a : ℕ) → a ∈ (hints (sheet bs)).look_aheads s p d → a < terminals
  look_aheads_fit s p d a h =
      let (i, e, k) = in_found set_at (placed (sheet bs) I s p d) a h in
      let r = ranged I s p d i (row_of (sheet bs) I s p d i e) in
      member_low sixteen terminals _ a r.1.1.1.1.0 k

  firsts_fit : (n a : ℕ) → a ∈ (hints (sheet bs)).firsts n → a < terminals
  firsts_fit n a h =
      let (i, e, k) = in_found set_at (placed (sheet bs) N n 0 0) a h in
      let r = ranged N n 0 0 i (row_of (sheet bs) N n 0 0 i e) in
      member_low sixteen terminals _ a r.1.1.1.1.0 k

  symbols_few : (s : ℕ) → length ((hints (sheet bs)).past_symbols s) ≤ deepest
  symbols_few s = go (placed (sheet bs) S s 0 0) refl
    where
      go : (o : Option ℕ) → placed (sheet bs) S s 0 0 ≡ o →
          length (given [] (λ i. symbols (record_at (sheet bs) i) (byte (sheet bs) i 5)) o) ≤ deepest
      go None e = omega arith
      go (Some i) e =
          let r = ranged S s 0 0 i (row_of (sheet bs) S s 0 0 i e) in rw length_gather r.1.1.1.1.0

  -- PAST SETS

  -- the set at depth d below state s
  abbrev depth : ℕ → ℕ → Option Set
  depth s d = mapped set_at (placed (sheet bs) K s d 0)

  depth_gapless : (s d : ℕ) → Present (depth s (suc d)) → Present (depth s d)
  depth_gapless s d (X, e) =
      let (i, at, is) = mapped_some set_at (placed (sheet bs) K s (suc d) 0) X e in
      let r = row_of (sheet bs) K s (suc d) 0 i at in
      go r (at_letter (sheet bs) (NoGap (sheet bs)) i K r.is_0 (w.gapless i r.within))
    where
      go : {i : ℕ} → Row (sheet bs) K s (suc d) 0 i →
          (byte (sheet bs) i 2 ≡ 0) ⊎ Has (sheet bs) K (byte (sheet bs) i 1) (byte (sheet bs) i 2 - 1) →
          Present (depth s d)
      go r (inl z) = absurd (omega (arith, r.is_2))
      go {i} r (inr (j, e)) =
          let before : byte (sheet bs) i 2 - 1 ≡ d = omega (arith, r.is_2) in
          let there : placed (sheet bs) K s d 0 ≡ Some j =
          subst (λ k. placed (sheet bs) K s k 0 ≡ Some j) before
          (subst (λ k. placed (sheet bs) K k (byte (sheet bs) i 2 - 1) 0 ≡ Some j) r.is_1 e)
          in
          (set_at j, ap (mapped set_at) there)

  depth_few : (s d : ℕ) → deepest ≤ d → depth s d ≡ None
  depth_few s d le =
      ap (mapped set_at) (none_placed (sheet bs) K s d 0 (λ i r.
      let few = (ranged K s d 0 i r).1.0 in omega (arith, r.is_2)))

  -- there is no gap, so that a past set is the one with its key
  pub past_set_is : (s d : ℕ) → nth ((hints (sheet bs)).past_sets s) d ≡ depth s d
  past_set_is s d = nth_run deepest (depth s) (depth_gapless s) (depth_few s) d

  bounds : InRange (hints (sheet bs))
  bounds = record {
    look_aheads_fit = look_aheads_fit;
    firsts_fit = firsts_fit;
    symbols_few = symbols_few;
    sets_few = λ s. length_run deepest (depth s);
  }

pub in_range_of : (bs : List ℕ) → is_some (opening (sheet bs)) ≡ false → InRange (hints (sheet bs))
in_range_of bs e = bounds bs (formed_of (sheet bs) e)
