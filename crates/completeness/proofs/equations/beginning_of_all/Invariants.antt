use Rattle.std.proofs.Common.{◌≡◌, ◌≤◌}
use Rattle.table.specs.Completeness.{nullable_all, first_of}
use Rattle.layout.specs.Choices.{some_below}
use Rattle.layout.specs.CompletenessTests.{rule_count}
use Rattle.hinted.specs.Sets.{Holds}
use Rattle.completeness.proofs.Rules.{of_left}
use Rattle.completeness.proofs.equations.beginning_of_all.Given as goal

-- the right sides before production p, taken together
abbrev pub invariant-loop-p : goal.invariant-loop-p
invariant-loop-p g l =
    let H = g.T.Hinted.hints l.table in
    let G = (g.T.Table.meaning l.table).grammar in
    (l.p ≤ rule_count G)
    × (l.nullable ≡ some_below l.p (of_left G l.n (nullable_all H)))
    × Holds l.firsts (λ a. some_below l.p (of_left G l.n (λ α. first_of H α a)))
