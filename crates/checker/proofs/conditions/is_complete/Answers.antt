use Rattle.std.proofs.Common.{Some, sym, ap, ◌∙◌}
use Rattle.wellformed.proofs.Formed.{formed_of}
use Rattle.sheet.specs.Contents.{sheet_in}
use Rattle.checker.proofs.Steps.{item_judged, nonterminal_judged}
use Rattle.checker.proofs.conditions.is_complete.Goals as goal

pub returns-in-Some-I : goal.returns-in-Some-I
returns-in-Some-I c =
    let raw = c.args.raw.now in
    item_judged (sheet_in raw) (formed_of (sheet_in raw) raw.opens) c.args.row.bytes _
    (sym c.letter.ensures ∙ c.in-Some-I.is ∙ ap Some c.in-Some-I.field-0-is) _ _ _ c.first.ensures c.second.ensures c.third.ensures
    c.item_is_complete.ensures

pub returns-in-Some-N : goal.returns-in-Some-N
returns-in-Some-N c =
    let raw = c.args.raw.now in
    nonterminal_judged (sheet_in raw) (formed_of (sheet_in raw) raw.opens) c.args.row.bytes _
    (sym c.letter.ensures ∙ c.in-Some-N.is ∙ ap Some c.in-Some-N.field-0-is) _ c.first-in-Some-N.ensures c.equations_hold.ensures
