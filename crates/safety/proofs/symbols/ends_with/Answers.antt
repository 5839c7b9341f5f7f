use Rattle.std.proofs.Common.{ℕ, ◌+◌, ◌-◌, rules, tests, sym, ◌∙◌, refl, arith}
use Rattle.std.proofs.lemmas.Iterator.{YieldsList-from_range}
use Rattle.std.proofs.lemmas.Iterator.Search.{all_from_yields_List}
use Rattle.table.specs.Automaton.{nth}
use Rattle.layout.specs.Choices.{below}
use Rattle.hinted.proofs.Ranges.{all_in_range}
use Rattle.safety.specs.Parts.{same_ones}
use Rattle.safety.proofs.OnTop.{ends_is}
use Rattle.safety.proofs.symbols.ends_with.Goals as goal

pub returns : goal.returns
returns g c =
    let xs = g.B.Row.symbols c.args.top.now in
    let ys = g.A.Row.symbols c.args.row.now in
    let n = c.length-length.result in
    let known = c.length-known.result in
    let long = c.length-length.ensures in
    let longer = c.length-known.ensures in
    let test = λ (k : ℕ). same_ones (nth xs k) (nth ys (known - n + k)) in
    all_from_yields_List test _ _ _ c.all.ensures.ran
    (YieldsList-from_range 0 n n refl (omega arith)) (λ k b q h. search (rules, tests))
    ∙ all_in_range n test
    ∙ (λ i. below (long i) (λ k. same_ones (nth xs k) (nth ys (longer i - long i + k))))
    ∙ sym (ends_is xs ys (omega arith))
