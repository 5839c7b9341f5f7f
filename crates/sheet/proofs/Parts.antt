-- Symbols and numbers of records as the table and the hints have them.
use Rattle.std.proofs.Common.{◌≡◌, ℕ, ◌+◌, ◌≤◌, cond, ◌&&◌, ltb, List, [], length, Some, None, Option, sym, refl, ap, ◌∙◌, arith}
use Rattle.std.proofs.lemmas.Bool.Decides.{nat_tests}
use Rattle.syntax.specs.declared.Production.{Production}
use Rattle.records.specs.Parts.{head_in, symbol_in}
use Rattle.table.specs.Automaton.{head, nth, symbol_at}
use Rattle.layout.specs.declared.Letter.TheVariants.{P, S}
use Rattle.layout.specs.Choices.{given, mapped}
use Rattle.layout.specs.Records.{Sheet, sheet, record_at, at, byte, symbol, symbols, rule_in}
use Rattle.layout.specs.Meaning.{placed, automaton, hints}
use Rattle.wellformed.specs.Formed.{Formed}
use Rattle.wellformed.proofs.Rows.{row_of, range_at}
use Rattle.wellformed.proofs.Lawful.{length_gather}
use Rattle.wellformed.proofs.Lookups.{short_production}
use Rattle.wellformed.proofs.Loops.{nth_gather_or}

-- a symbol that is read is the one in the list, where a record has no more than the payload holds
symbol_is : (r : List ℕ) (k : ℕ) → at r 5 ≤ 8 → symbol_in r k ≡ nth (symbols r (at r 5)) k
symbol_is r k few =
    let same : ltb k (at r 5) && ltb k 8 ≡ ltb k (at r 5) = grind (arith, nat_tests) in
    ap (λ t. cond t (Some (symbol (at r (8 + k)))) None) same ∙ sym (nth_gather_or (at r 5) (λ k. symbol (at r (8 + k))) k)

module _ (sh : Sheet) where
  pub head_is : (o : Option ℕ) →
      mapped (λ i. head_in (record_at sh i)) o ≡ head (mapped (λ i. rule_in (record_at sh i)) o)
  head_is None = refl
  head_is (Some i) =
      ap {B = Option Production} (λ n. Some (record { left = byte sh i 4; length = n })) (sym (length_gather (byte sh i 5) _))

  pub past_length_is : (o : Option ℕ) →
      given 0 (λ i. byte sh i 5) o ≡ length (given [] (λ i. symbols (record_at sh i) (byte sh i 5)) o)
  past_length_is None = refl
  past_length_is (Some i) = sym (length_gather (byte sh i 5) _)

-- a symbol of what was found, in a sheet in which every record is in range
module _ (bs : List ℕ) (w : Formed (sheet bs)) where
  pub right_symbol_is : (p k : ℕ) →
      given None (λ i. symbol_in (record_at (sheet bs) i) k) (placed (sheet bs) P p 0 0)
      ≡ symbol_at ((automaton (sheet bs)).grammar p) k
  right_symbol_is p k = go (placed (sheet bs) P p 0 0) refl
    where
      go : (o : Option ℕ) → placed (sheet bs) P p 0 0 ≡ o →
          given None (λ i. symbol_in (record_at (sheet bs) i) k) o
          ≡ symbol_at (mapped (λ i. rule_in (record_at (sheet bs) i)) o) k
      go None e = refl
      go (Some i) e = symbol_is (record_at (sheet bs) i) k (short_production bs p i e w.sorted)

  pub past_symbol_is : (s k : ℕ) →
      given None (λ i. symbol_in (record_at (sheet bs) i) k) (placed (sheet bs) S s 0 0)
      ≡ nth ((hints (sheet bs)).past_symbols s) k
  past_symbol_is s k = go (placed (sheet bs) S s 0 0) refl
    where
      go : (o : Option ℕ) → placed (sheet bs) S s 0 0 ≡ o →
          given None (λ i. symbol_in (record_at (sheet bs) i) k) o
          ≡ nth (given [] (λ i. symbols (record_at (sheet bs) i) (byte (sheet bs) i 5)) o) k
      go None e = refl
      go (Some i) e =
          let r = row_of (sheet bs) S s 0 0 i e in
          symbol_is (record_at (sheet bs) i) k (range_at (sheet bs) w.sorted S i r.within r.is_0).1.1.1.1.0
