-- The verdict is none exactly of the sheets that meet all conditions, and these hold valid tables.
use Rattle.std.proofs.Common.{◌≡◌, ℕ, ◌+◌, ◌<◌, ◌≤◌, Bool, false, cond, T, ltb, List, is_some, None, ap, arith, lit≤}
use Rattle.syntax.specs.Grammar.{terminals}
use Rattle.table.specs.Lawful.{narrow}
use Rattle.table.specs.Validity.{Valid}
use Rattle.layout.specs.declared.Refusal.TheVariants.{Unsafe, Incomplete}
use Rattle.layout.specs.Records.{Sheet, sheet, count, record_at}
use Rattle.layout.specs.Meaning.{automaton, hints}
use Rattle.layout.specs.Opening.{by_letter, opening}
use Rattle.layout.specs.Checking.{safe_as, complete_as, initial_item, checking_passes, verdict}
use Rattle.wellformed.specs.Told.{AllClean}
use Rattle.wellformed.proofs.Tests.{T_unless, unless_T}
use Rattle.wellformed.proofs.Says.{Says, itself, split, less}
use Rattle.wellformed.proofs.Formed.{opens_exactly_formed, not_some}
use Rattle.wellformed.proofs.Lawful.{lawful}
use Rattle.exactness.specs.Exactness.{Meets, PassesExactlyTheValid, PassesInEachFormat, CheckedIsValid}
use Rattle.exactness.proofs.Letters.{EachRecord}
use Rattle.exactness.proofs.Told.{verdict_none, none_verdict, verdict_opens}
use Rattle.exactness.proofs.Hints.{hints_lawful}
use Rattle.exactness.proofs.Safe.{safe_of_records, records_of_safe}
use Rattle.exactness.proofs.Complete.{complete_of_records, records_of_complete}

module _ (sh : Sheet) where
  abbrev record_complete : ℕ → Bool
  record_complete i = by_letter (record_at sh i) (complete_as sh (record_at sh i))

  -- the last pass tests a record, and behind the last record the initial item
  says_last : (i : ℕ) →
      Says (cond (ltb i (count sh)) (record_complete i) (initial_item sh))
      ((i < count sh → T (record_complete i)) × ((i < count sh → ⊥) → T (initial_item sh)))
  says_last i = split (less i (count sh)) (itself _) (itself _)

  -- every record is safe and complete, and there is the initial item
  pub record AllPass : Type 0 where
    pub safe : EachRecord sh (safe_as sh)
    pub complete : EachRecord sh (complete_as sh)
    pub initial : T (initial_item sh)

  clean_passes : AllClean (checking_passes sh) → AllPass
  clean_passes (safe-clean, (complete-clean, end)) =
      let last : (i : ℕ) → i < count sh + 1 → T _ = λ i lt. T_unless _ (Incomplete i) (complete-clean i lt) in
      record {
        safe = λ i lt. T_unless _ (Unsafe i) (safe-clean i lt);
        complete = λ i lt. ((says_last i).to (last i (omega arith))).0 lt;
        initial = ((says_last (count sh)).to (last (count sh) (omega arith))).1 (λ lt. omega arith);
      }

  passes_clean : AllPass → AllClean (checking_passes sh)
  passes_clean a = (
    λ i lt. unless_T _ (Unsafe i) (a.safe i lt),
    (λ i lt. unless_T _ (Incomplete i) ((says_last i).back (a.complete i, λ end. a.initial)), tt),
  )

  pub meets_of : verdict sh ≡ None → Meets sh
  meets_of e =
      let (opens, clean) = verdict_none sh e in
      let w = (opens_exactly_formed sh).0 opens in
      let a = clean_passes clean in
      record {
        formed = w;
        safe = safe_of_records sh w a.safe;
        complete = complete_of_records sh w a.complete a.initial;
      }

  passes : terminals ≤ sh.format.states → Meets sh → verdict sh ≡ None
  passes wide m =
      none_verdict sh ((opens_exactly_formed sh).1 m.formed) (passes_clean (record {
        safe = records_of_safe sh m.formed m.safe;
        complete = records_of_complete sh m.formed m.complete wide;
        initial = m.complete.initial_item;
      }))

pub passes_in_each_format : PassesInEachFormat
passes_in_each_format sh wide = (meets_of sh, passes sh wide)

pub passes_exactly_the_valid : PassesExactlyTheValid
passes_exactly_the_valid bs = passes_in_each_format (sheet bs) (lit≤ tt)

pub checked_is_valid : CheckedIsValid
checked_is_valid sh e =
    let m = meets_of sh e in
    record {
      hints = hints sh;
      lawful = lawful sh m.formed;
      hints_lawful = hints_lawful sh m.formed;
      safe = m.safe;
      complete = m.complete;
    }

-- AS A SHEET THAT IS HELD HAS IT

pub valid_of : (bs : List ℕ) → is_some (verdict (sheet bs)) ≡ false → Valid narrow (automaton (sheet bs))
valid_of bs e = checked_is_valid (sheet bs) (not_some _ e)

pub opens_of : (bs : List ℕ) → is_some (verdict (sheet bs)) ≡ false → is_some (opening (sheet bs)) ≡ false
opens_of bs e = ap is_some (verdict_opens (sheet bs) (not_some _ e))
