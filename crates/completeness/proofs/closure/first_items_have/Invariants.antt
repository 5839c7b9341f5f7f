use Rattle.std.proofs.Common.{◌≡◌, ◌≤◌, true}
use Rattle.layout.specs.Choices.{below}
use Rattle.layout.specs.CompletenessTests.{rule_count}
use Rattle.completeness.specs.Items.{first_has}
use Rattle.completeness.proofs.Rules.{if_left}
use Rattle.completeness.proofs.closure.first_items_have.Given as goal

-- the productions before q pass
abbrev pub invariant-loop-q : goal.invariant-loop-q
invariant-loop-q g l =
    let H = g.T.Hinted.hints l.table in
    let G = (g.T.Table.meaning l.table).grammar in
    (l.q ≤ rule_count G)
    × (below l.q (if_left G l.n (first_has H l.s l.wanted)) ≡ true)
