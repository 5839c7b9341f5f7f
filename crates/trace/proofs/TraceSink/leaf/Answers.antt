use Rattle.std.proofs.Common.{◌≡◌, false, ◌++◌, ap, ◌∙◌, arith}
use Rattle.std.proofs.lemmas.List.{drop_all}
use Rattle.std.proofs.lemmas.Bool.Decides.{nat_tests}
use Rattle.sink.specs.Stacks.{full}
use Rattle.sink.proofs.Taken.{leaf_done}
use Rattle.trace.specs.Records.{joined, postfix}
use Rattle.trace.specs.Meaning.{meaning}
use Rattle.trace.proofs.TraceSink.leaf.Goals as goal

pub returns-clause-after : goal.returns-clause-after
returns-clause-after c =
    let a = c.args.self.now in
    let room : full 0 (meaning a) ≡ false = grind (arith, nat_tests) in
    let alone = ap (λ l. joined l ++ c.leaf_record.result) (drop_all _ (meaning a).list (omega arith)) in
    leaf_done postfix (meaning a) c.args.token room (alone ∙ c.leaf_record.ensures) c.append.ensures.after
