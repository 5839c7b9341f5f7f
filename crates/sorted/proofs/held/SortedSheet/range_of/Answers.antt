use denote.Enum.Declared.{tag_of}
use Rattle.std.proofs.Common.{◌≡◌, rules}
use Rattle.layout.specs.contracts.Letter.{the_type}
use Rattle.layout.specs.Records.{sheet}
use Rattle.layout.specs.Search.{index_of}
use Rattle.wellformed.proofs.Formed.{sorted_of}
use Rattle.sorted.proofs.Finds.{letter_within}
use Rattle.sorted.proofs.held.SortedSheet.range_of.Goals as goal

pub returns-clause-within : goal.returns-clause-within
returns-clause-within c =
    let held = c.args.self.now in
    let w = sorted_of (sheet held.bytes.now) held.sorted in
    let place : tag_of the_type c.args.letter ≡ index_of c.args.letter = search rules in
    letter_within _ w c.args.letter _ _ place held.located
