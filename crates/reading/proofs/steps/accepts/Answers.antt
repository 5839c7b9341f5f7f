use Rattle.reading.proofs.Cells.{not_alone}
use Rattle.reading.proofs.steps.accepts.Goals as goal

pub returns-in_default-2 : goal.returns-in_default-2
returns-in_default-2 g c =
    not_alone (g.T.Table.meaning c.args.table.now) c.args.cells.now c.in_default.len_at_least
