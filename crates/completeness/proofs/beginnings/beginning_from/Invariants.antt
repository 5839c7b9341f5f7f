use Rattle.std.proofs.Common.{◌≡◌, ℕ, ◌||◌, drop}
use Rattle.table.specs.Completeness.{nullable_all, first_of}
use Rattle.layout.specs.Records.{sixteen, member}
use Rattle.completeness.specs.Rights.{rights}
use Rattle.completeness.proofs.beginnings.beginning_from.Given as goal

-- what is left begins as all did, apart from the first terminals that are there already
abbrev pub invariant-loop-k : goal.invariant-loop-k
invariant-loop-k g l =
    let H = g.T.Hinted.hints l.table in
    let all = rights (g.T.Table.meaning l.table).grammar l.p in
    (nullable_all H (drop l.k all) ≡ nullable_all H (drop l.from all))
    × ((a : ℕ) → member sixteen l.firsts a || first_of H (drop l.k all) a ≡ first_of H (drop l.from all) a)
