use Rattle.std.proofs.Common.{sym, ◌∙◌, arith}
use Rattle.records.proofs.Bytes.{symbols_split}
use Rattle.records.proofs.Record.symbols_fit.Goals as goal

pub returns-then-all_symbols : goal.returns-then-all_symbols
returns-then-all_symbols c =
    let split = symbols_split c.args.self.bytes c.args.n _ _ (omega arith) c.in-Some.ensures.cases in
    let passed = sym c.all_symbols.ensures ∙ c.if-all_symbols.true in
    rw split (rw passed c.no_symbols.ensures)

pub returns-else-all_symbols : goal.returns-else-all_symbols
returns-else-all_symbols c =
    let split = symbols_split c.args.self.bytes c.args.n _ _ (omega arith) c.in-Some.ensures.cases in
    let failed = sym c.all_symbols.ensures ∙ c.if-all_symbols.false in
    rw split (rw failed c.if-all_symbols.false)
