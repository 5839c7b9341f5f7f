use Rattle.std.proofs.Common.{◌≡◌, ◌++◌, take, drop}
use Rattle.keywords.specs.Listing.{listing}
use Rattle.pile.specs.Piles.{add_all}
use Rattle.pile.proofs.add_all.Given as goal

-- the first words are listed, and the others answer for all
abbrev pub invariant-loop-word : goal.invariant-loop-word
invariant-loop-word g l =
    let before = listing l.initial.keywords.words in
    let now = listing l.keywords.words in
    (now ≡ before ++ take l.word-index l.words)
    × (add_all now (drop l.word-index l.words) ≡ add_all before l.words)
    × (l.keywords.below ≡ l.initial.keywords.below)
