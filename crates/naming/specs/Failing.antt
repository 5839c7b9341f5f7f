-- The first record of a sheet that fails a test.
use Rattle.std.specs.Prelude.{◌≡◌, ℕ, ◌<◌, Bool, true, false, List, Option, MatchOption}
use Rattle.layout.specs.Records.{Sheet, count, record_at}

-- by its place: those before it pass, and where there is none every record does
abbrev pub FirstFailing : Sheet → (List ℕ → Bool) → Option ℕ → Type 0
FirstFailing sh test r =
    MatchOption r
    ((k : ℕ) → k < count sh → test (record_at sh k) ≡ true)
    (λ i.
    (i < count sh) × (test (record_at sh i) ≡ false)
    × ((k : ℕ) → k < i → test (record_at sh k) ≡ true))
