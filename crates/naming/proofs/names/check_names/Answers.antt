use Rattle.std.proofs.Common.{◌≡◌, ℕ, ◌+◌, ◌<◌, true, false, Err, sym, refl, ap, ◌∙◌, arith}
use Rattle.layout.specs.declared.Refusal.TheVariants.{Absent}
use Rattle.layout.specs.Choices.{unless}
use Rattle.layout.specs.Records.{Sheet, count, record_at}
use Rattle.layout.specs.Opening.{names_fit, name_refused, has_all_kinds}
use Rattle.wellformed.proofs.Firsts.{first_more}
use Rattle.wellformed.proofs.Formed.{sorted_of, few_records, names_test, kinds_test_at}
use Rattle.wellformed.proofs.Loops.{unless_fails, unless_passes, refuses_at, refuses_nothing}
use Rattle.sorted.specs.Contents.{sheet_in}
use Rattle.naming.proofs.Rows.{passed, refused_first}
use Rattle.naming.proofs.names.check_names.Goals as goal

-- behind the last record, that there is one of each kind
kinds_here : (sh : Sheet) → name_refused sh (count sh) ≡ unless (has_all_kinds sh) (Absent (count sh))
kinds_here sh = ap (λ b. unless b (Absent (count sh))) (kinds_test_at sh (count sh) refl)

-- and before it, what each names
names_here : (sh : Sheet) (k : ℕ) → k < count sh → name_refused sh k ≡ unless (names_fit sh (record_at sh k)) (Absent k)
names_here sh k lt = ap (λ b. unless b (Absent k)) (names_test sh k lt)

pub overflow_cast-result : goal.overflow_cast-result
overflow_cast-result c =
    omega (arith, few_records _ (sorted_of _ c.args.sorted.now.sorted), c.in-Some.ensures.0)

pub returns-in-Some : goal.returns-in-Some
returns-in-Some c =
    let sh = sheet_in c.args.sorted.now in
    refused_first sh (names_fit sh) (name_refused sh) Absent (names_here sh)
    (count sh + 1) (omega arith) _ c.in-Some.ensures

pub returns-in-None : goal.returns-in-None
returns-in-None c =
    let sh = sheet_in c.args.sorted.now in
    let named = passed sh (names_fit sh) (name_refused sh) Absent (names_here sh) (count sh) (omega arith) c.in-None.ensures in
    let kinds : has_all_kinds sh ≡ true = sym c.has_all_kinds.ensures ∙ c.if-has_all_kinds.true in
    let clean = first_more (name_refused sh) (count sh) named (kinds_here sh ∙ unless_passes _ kinds) in
    refuses_nothing (name_refused sh) (count sh + 1) (count sh + 1) clean refl

pub overflow_cast-result-in-None-2 : goal.overflow_cast-result-in-None-2
overflow_cast-result-in-None-2 c =
    omega (arith, few_records _ (sorted_of _ c.args.sorted.now.sorted), c.records.ensures)

pub returns-in-None-2 : goal.returns-in-None-2
returns-in-None-2 c =
    let sh = sheet_in c.args.sorted.now in
    let named = passed sh (names_fit sh) (name_refused sh) Absent (names_here sh) (count sh) (omega arith) c.in-None-2.ensures in
    let kinds : has_all_kinds sh ≡ false = sym c.has_all_kinds.ensures ∙ c.if-has_all_kinds.false in
    let refused =
    refuses_at (name_refused sh) (count sh + 1) (count sh) (Absent (count sh)) named
    (kinds_here sh ∙ unless_fails _ kinds) (omega arith)
    in
    ap Err (ap Absent c.records.ensures) ∙ refused
