-- What a trace without records means.
use Rattle.std.proofs.Common.{◌≡◌, ℕ, ◌-◌, min, arith}
use Rattle.sink.specs.Stacks.{endless, limited}
use Rattle.quota.specs.Capped.{capped}
use Rattle.trace.specs.declared.Trace.{Trace}
use Rattle.trace.specs.Records.{places}
use Rattle.trace.specs.Piles.{top, pile}
use Rattle.trace.specs.Meaning.{bytes, meaning}
use Rattle.replay.specs.Recorded.{blank}

pub at_first : (limit : ℕ) (t : Trace) → t.records ≡ 0 → capped limit (meaning t) ≡ blank limit (bytes t)
at_first limit t none =
    let no_tree : t.trees ≡ 0 = omega (arith, t.rooted) in
    let left : min limit (places (bytes t) - t.records) ≡ min limit (places (bytes t)) = omega arith in
    λ i. record { list = top (no_tree i) (pile t.records (bytes t)); records = limited (left i); cells = endless }
