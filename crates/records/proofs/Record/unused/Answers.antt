use Rattle.std.proofs.Common.{◌==◌, refl, ◌∙◌, rules, tests}
use Rattle.std.proofs.lemmas.Iterator.{YieldsList-from_slice, YieldsList-from_take}
use Rattle.std.proofs.lemmas.Iterator.Adapters.{YieldsList-from_skip}
use Rattle.std.proofs.lemmas.Iterator.Search.{all_from_yields_List}
use Rattle.records.proofs.Bytes.{all_range}
use Rattle.records.proofs.Record.unused.Goals as goal

pub returns : goal.returns
returns c =
    all_from_yields_List (λ b. b == 0) _ _ c.all.result c.all.ensures.ran
    (YieldsList-from_skip c.args.from (YieldsList-from_take c.args.to (YieldsList-from_slice c.args.self.bytes cc) cc) cc)
    (λ x b q k. search (rules, tests))
    ∙ all_range (λ b. b == 0) refl c.args.self.bytes c.args.from c.args.to
