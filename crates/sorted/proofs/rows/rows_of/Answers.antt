use Rattle.std.proofs.Common.{◌∙◌}
use Rattle.layout.specs.Records.{count, record_at}
use Rattle.sorted.proofs.Chunks.{chunks_gather}
use Rattle.sorted.proofs.rows.rows_of.Goals as goal

pub returns : goal.returns
unfolding count record_at
returns c = record {
  rows = c.as_chunks.ensures.front ∙ chunks_gather 16 _ c.args.bytes.now;
  count = c.as_chunks.ensures.front_len;
}
