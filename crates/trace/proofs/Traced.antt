-- The bytes of a trace that began without records.
use Rattle.std.proofs.Common.{◌≡◌, ◌*◌, ◌≤◌, ◌++◌, length, take, drop, sym, ap, ◌∙◌, arith, take-append-drop}
use Rattle.std.proofs.lemmas.List.{length-take-le}
use Rattle.trace.specs.declared.Trace.{Trace}
use Rattle.trace.specs.Records.{joined}
use Rattle.trace.specs.Piles.{top, pile}
use Rattle.trace.specs.Meaning.{bytes, meaning}
use Rattle.trace.specs.Grown.{Whole, Grown, overlaid, Traced}

whole_at_first : (t : Trace) → t.records ≡ 0 → Whole t
whole_at_first t none =
    let no_tree : t.trees ≡ 0 = omega arith in
    let no_byte : 0 ≡ 16 * t.records = omega arith in
    ap (λ k. joined (top k (pile t.records (bytes t)))) no_tree ∙ ap (λ m. take m (bytes t)) no_byte

laid : (start t : Trace) → Grown start t → Whole t → bytes t ≡ overlaid (bytes start) (meaning t).list
laid start t grown whole =
    let end = 16 * t.records in
    let fits : end ≤ length (bytes t) = omega arith in
    let long : length (joined (meaning t).list) ≡ end = ap length whole ∙ length-take-le end (bytes t) fits in
    sym (take-append-drop end (bytes t)) ∙ ap (λ l. l ++ drop end (bytes t)) (sym whole)
    ∙ ap (λ l. joined (meaning t).list ++ l) (grown.behind ∙ ap (λ m. drop m (bytes start)) (sym long))

pub traced : (t : Trace) → Traced t
traced t start none grown = laid start t grown (grown.whole (whole_at_first start none))
