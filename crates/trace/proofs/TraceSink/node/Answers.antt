use Rattle.std.proofs.Common.{◌≡◌, ◌-◌, ◌≤◌, false, ◌++◌, length, sym, ap, ◌∙◌, arith, length-drop}
use Rattle.std.proofs.lemmas.Bool.Decides.{nat_tests}
use Rattle.sink.specs.Stacks.{full, back}
use Rattle.sink.proofs.Taken.{node_done}
use Rattle.trace.specs.Records.{joined, node_record, postfix}
use Rattle.trace.specs.Meaning.{meaning}
use Rattle.trace.proofs.TraceSink.node.Goals as goal

pub returns-clause-after : goal.returns-clause-after
returns-clause-after c =
    let a = c.args.self.now in
    let p = c.args.production in
    let k = c.args.children in
    let ts = (meaning a).list in
    let room : full k (meaning a) ≡ false = grind (arith, nat_tests) in
    let enough : k ≤ length ts = omega arith in
    let count : length (back k ts) ≡ k = omega (arith, length-drop (length ts - k) ts) in
    let piece = ap (λ r. joined (back k ts) ++ r) (c.node_record.ensures ∙ ap (node_record p) (sym count)) in
    node_done postfix (meaning a) p k enough room piece c.append.ensures.after
