use Rattle.std.proofs.Common.{sym, refl, ap, ◌∙◌}
use Rattle.std.proofs.lemmas.Result.{err_from_is_err_and}
use Rattle.layout.specs.Refusals.{answered}
use Rattle.wellformed.proofs.Formed.{short_bytes}
use Rattle.wellformed.proofs.Told.{ok_none, err_some, refused_answer}
use Rattle.sorted.proofs.Told.{length_told, records_told}
use Rattle.sorted.proofs.sorting.inspect.Goals as goal

pub returns-in_err-check_length : goal.returns-in_err-check_length
returns-in_err-check_length c =
    let p = err_from_is_err_and c.from_residual.result c.from_residual.ensures.1 in
    rw (p.1, p.2) (refused_answer (length_told _ (err_some _ _ c.in_err-check_length.ensures)))

pub check_records-requires : goal.check_records-requires
check_records-requires c = short_bytes _ (ok_none _ c.in_ok-check_length.ensures)

pub returns : goal.returns
returns c =
    c.check_records.ensures
    ∙ sym (ap answered (records_told _ (ok_none _ c.in_ok-check_length.ensures) refl))
