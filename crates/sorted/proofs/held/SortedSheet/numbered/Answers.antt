use Rattle.std.proofs.Common.{◌+◌, take, ap, ◌∙◌, arith}
use Rattle.std.specs.List.{slice_get}
use Rattle.std.specs.Option.{option_map}
use Rattle.layout.specs.Records.{sheet}
use Rattle.wellformed.proofs.Formed.{sorted_of, few_records}
use Rattle.wellformed.proofs.Seeks.{letter_range}
use Rattle.sorted.specs.Found.{record_of}
use Rattle.sorted.proofs.Chunks.{numbered_row}
use Rattle.sorted.proofs.held.SortedSheet.numbered.Goals as goal

pub overflow_add-start : goal.overflow_add-start
overflow_add-start c =
    let held = c.args.self.now in
    let w = sorted_of (sheet held.bytes.now) held.sorted in
    let range = letter_range (sheet held.bytes.now) w c.args.letter 0 0 0 (omega arith) (omega arith) (omega arith) in
    omega (arith, few_records _ w, c.range_of-start.ensures.start, range.ordered, range.within)

pub returns : goal.returns
returns c =
    let range = c.range_of-start in
    let i = range.result.start + c.args.n in
    c.record_at.ensures
    ∙ (ap (λ rows. option_map record_of (slice_get (take range.result.end rows) i)) c.rows.ensures.rows
    ∙ numbered_row _ c.args.letter c.args.n _ _ range.ensures.start range.ensures.end range.ensures.within)
