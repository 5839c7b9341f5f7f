-- What the calls of a trace keep of a caller's bytes.
use Rattle.std.specs.Prelude.{◌≡◌, ℕ, ◌+◌, ◌-◌, ◌*◌, ◌≤◌, List, ◌++◌, length, take, drop, refl}
use Rattle.std.proofs.Common.{sym, ap, ◌∙◌, arith, drop-drop, take-take}
use Rattle.trace.specs.declared.Trace.{Trace}
use Rattle.trace.specs.Records.{joined}
use Rattle.trace.specs.Meaning.{bytes, meaning}

-- the trees of the list are, record by record, all that was written
abbrev pub Whole : Trace → Type 0
Whole t = joined (meaning t).list ≡ take (16 * t.records) (bytes t)

-- from a trace a to a later one b
pub record Grown (a b : Trace) : Type 0 where
  -- over the same bytes
  pub lent : b.bytes.ghost_name ≡ a.bytes.ghost_name
  pub long : length (bytes b) ≡ length (bytes a)
  pub more : a.records ≤ b.records
  -- the records that stood stand
  pub front : take (16 * a.records) (bytes b) ≡ take (16 * a.records) (bytes a)
  -- behind the records all is as it was
  pub behind : drop (16 * b.records) (bytes b) ≡ drop (16 * b.records) (bytes a)
  pub whole : Whole a → Whole b

pub grown_none : (t : Trace) → Grown t t
grown_none t = record { lent = refl; long = refl; more = omega arith; front = refl; behind = refl; whole = λ e. e }

-- a front that two steps keep, and a rest that two steps keep
front_twice : (xs ys zs : List ℕ) (m n : ℕ) → m ≤ n →
    take (16 * m) ys ≡ take (16 * m) xs → take (16 * n) zs ≡ take (16 * n) ys → take (16 * m) zs ≡ take (16 * m) xs
front_twice xs ys zs m n h p q =
    let low : 16 * m ≤ 16 * n = omega arith in
    sym (take-take (16 * m) (16 * n) zs low) ∙ ap (take (16 * m)) q ∙ take-take (16 * m) (16 * n) ys low ∙ p

behind_twice : (xs ys zs : List ℕ) (m n : ℕ) → m ≤ n →
    drop (16 * m) ys ≡ drop (16 * m) xs → drop (16 * n) zs ≡ drop (16 * n) ys → drop (16 * n) zs ≡ drop (16 * n) xs
behind_twice xs ys zs m n h p q =
    let far : 16 * m + (16 * n - 16 * m) ≡ 16 * n = omega arith in
    let on : (ws : List ℕ) → drop (16 * n) ws ≡ drop (16 * n - 16 * m) (drop (16 * m) ws) =
    λ ws. sym (drop-drop (16 * n - 16 * m) (16 * m) ws ∙ ap (λ j. drop j ws) far) in
    q ∙ on ys ∙ ap (drop (16 * n - 16 * m)) p ∙ sym (on xs)

pub grown_more : (a b c : Trace) → Grown a b → Grown b c → Grown a c
grown_more a b c p q = record {
  lent = q.lent ∙ p.lent;
  long = q.long ∙ p.long;
  more = omega (arith, p.more, q.more);
  front = front_twice (bytes a) (bytes b) (bytes c) a.records b.records p.more p.front q.front;
  behind = behind_twice (bytes a) (bytes b) (bytes c) b.records c.records q.more p.behind q.behind;
  whole = λ e. q.whole (p.whole e);
}

-- bytes with pieces laid over their beginning
abbrev pub overlaid : List ℕ → List (List ℕ) → List ℕ
overlaid bs pieces = joined pieces ++ drop (length (joined pieces)) bs

-- whatever calls led to t from a trace without records: the bytes are the trees of the list, record by record, and
-- behind these all is as it was
abbrev pub Traced : Trace → Type 0
Traced t = (start : Trace) → start.records ≡ 0 → Grown start t → bytes t ≡ overlaid (bytes start) (meaning t).list
