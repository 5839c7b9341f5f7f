use Rattle.std.proofs.Common.{ap, ◌∙◌}
use Rattle.std.specs.List.{slice_get}
use Rattle.std.specs.Option.{option_map}
use Rattle.sorted.specs.Found.{record_of}
use Rattle.sorted.proofs.Chunks.{place_row}
use Rattle.sorted.proofs.held.SortedSheet.record.Goals as goal

pub returns : goal.returns
returns c =
    c.record_at.ensures
    ∙ (ap (λ rows. option_map record_of (slice_get rows c.args.i)) c.rows.ensures.rows ∙ place_row _ c.args.i)
