use Rattle.std.proofs.Common.{◌≡◌, ap, ◌∙◌, arith}
use Rattle.layout.specs.Records.{sheet, code, key_of}
use Rattle.wellformed.proofs.Formed.{sorted_of}
use Rattle.sorted.proofs.Finds.{range_between}
use Rattle.sorted.proofs.held.SortedSheet.position_of.Goals as goal

pub position-requires : goal.position-requires
position-requires c =
    let held = c.args.self.now in
    let w = sorted_of (sheet held.bytes.now) held.sorted in
    let key_is : c.key_of.result ≡ key_of (code c.args.letter) c.args.a c.args.b c.args.c =
    c.key_of.ensures ∙ ap (λ l. key_of l c.args.a c.args.b c.args.c) c.code.ensures
    in
    range_between held.bytes.now w c.args.letter c.args.a c.args.b c.args.c _ _ _ _ c.ordered.ensures key_is
    c.range_of-start.ensures.start c.range_of-start.ensures.end (omega arith) (omega arith) (omega arith)
