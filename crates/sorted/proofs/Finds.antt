-- What a search by key finds, as a value, and what is read in it.
use Rattle.std.proofs.Common.{◌≡◌, ℕ, ◌+◌, ◌<◌, ◌≤◌, Bool, true, false, cond, List, get_or, slice_index, is_some, Some, None, Option, sym, refl, ap, ◌∙◌, ⊎_elim, arith}
use Rattle.std.specs.Bool.{then_some}
use Rattle.std.proofs.lemmas.Bool.{cases_lt, lt-ltb, le-ltb}
use Rattle.records.specs.declared.Record.{Record}
use Rattle.layout.specs.declared.Letter.{Letter}
use Rattle.layout.specs.Choices.{mapped, given, present}
use Rattle.layout.specs.Records.{Sheet, sheet, count, record_at, code, key_of, has_key}
use Rattle.layout.specs.Search.{position, starts, index_of}
use Rattle.wellformed.specs.Formed.{Sorted}
use Rattle.wellformed.proofs.Tests.{some_same, none_some}
use Rattle.wellformed.proofs.Seeks.{Between, letter_range, search_range, search_finds, search_misses}
use Rattle.sorted.specs.Found.{taken, by_place, by_key, from_key}

module _ (sh : Sheet) where
  place_there : (i : ℕ) → i < count sh → by_place sh i ≡ Some (taken sh i)
  place_there i lt = ap {B = Option Record} (λ t. cond t (Some (taken sh i)) None) (lt-ltb i _ lt)

  place_beyond : (i : ℕ) → count sh ≤ i → by_place sh i ≡ None
  place_beyond i le = ap {B = Option Record} (λ t. cond t (Some (taken sh i)) None) (le-ltb i _ le)

  -- record i
  pub place_some : (i : ℕ) (r : Record) → Some r ≡ by_place sh i → (i < count sh) × (r ≡ taken sh i)
  place_some i r e =
      ⊎_elim
      (λ lt. (lt, some_same (e ∙ place_there i lt)))
      (λ le. absurd (none_some (sym (e ∙ place_beyond i le))))
      (cases_lt i (count sh))

  pub place_none : (i : ℕ) → None ≡ by_place sh i → count sh ≤ i
  place_none i e = ⊎_elim (λ lt. absurd (none_some (e ∙ place_there i lt))) (λ le. le) (cases_lt i (count sh))

  -- what is read in the record that was found, if any was
  module _ {Y : Type 0} (f : List ℕ → Y) where
    pub read_some : (y : Y) (o : Option ℕ) (r : Record) → Some r ≡ mapped (taken sh) o →
        f r.bytes ≡ given y (λ i. f (record_at sh i)) o
    read_some y None r e = absurd (none_some (sym e))
    read_some y (Some i) r e = ap (λ q. f q.bytes) (some_same e)

    pub read_none : (y : Y) (o : Option ℕ) → None ≡ mapped (taken sh) o → y ≡ given y (λ i. f (record_at sh i)) o
    read_none y None e = refl
    read_none y (Some i) e = absurd (none_some e)

    pub map_some : (o : Option ℕ) (r : Record) → Some r ≡ mapped (taken sh) o →
        Some (f r.bytes) ≡ mapped (λ i. f (record_at sh i)) o
    map_some None r e = absurd (none_some (sym e))
    map_some (Some i) r e = ap {B = Option Y} (λ q. Some (f q.bytes)) (some_same e)

    pub map_none : (o : Option ℕ) → None ≡ mapped (taken sh) o → None ≡ mapped (λ i. f (record_at sh i)) o
    map_none None e = refl
    map_none (Some i) e = absurd (none_some e)

  pub some_present : (o : Option ℕ) → is_some (mapped (taken sh) o) ≡ present o
  some_present None = refl
  some_present (Some i) = refl

module _ (bs : List ℕ) (w : Sorted (sheet bs)) (l : Letter) where
  -- the records of a letter end within the sheet
  pub letter_within : (at : ℕ) (table : List ℕ) → at ≡ index_of l → table ≡ starts (sheet bs) →
      get_or table (at + 1) 0 ≤ count (sheet bs)
  letter_within at table e f =
      (search_range (sheet bs) w l 0 0 0 _ at table refl e f (omega arith) (omega arith) (omega arith)).within

  module _ (a b c : ℕ) where
    abbrev place : ℕ
    place = position (sheet bs) (key_of (code l) a b c)

    -- the record from a key on that has it is the one that is found
    pub found_there : (r : Record) → Some r ≡ from_key (sheet bs) l a b c → has_key l a b c r.bytes ≡ true →
        Some r ≡ by_key (sheet bs) l a b c
    found_there r e h =
        let (lt, is) = place_some (sheet bs) place r e in
        let hit = ap (λ q. has_key l a b c q.bytes) (sym is) ∙ h in
        ap {B = Option Record} Some is
        ∙ sym (ap (mapped (taken (sheet bs))) (search_finds _ w l a b c place refl lt hit))

    -- where it has another, or there is none, nothing is found
    pub missed_there : (r : Record) → Some r ≡ from_key (sheet bs) l a b c → has_key l a b c r.bytes ≡ false →
        None ≡ by_key (sheet bs) l a b c
    missed_there r e h =
        let (lt, is) = place_some (sheet bs) place r e in
        let other = ap (λ q. has_key l a b c q.bytes) (sym is) ∙ h in
        sym (ap (mapped (taken (sheet bs))) (search_misses _ w l a b c place refl (λ lt. other)))

    pub nothing_there : None ≡ from_key (sheet bs) l a b c → None ≡ by_key (sheet bs) l a b c
    nothing_there e =
        let le = place_none (sheet bs) place e in
        sym (ap (mapped (taken (sheet bs))) (search_misses _ w l a b c place refl (λ lt. absurd (omega arith))))

    -- the record from a key on, if it has that key
    pub found_if : (r : Record) → Some r ≡ from_key (sheet bs) l a b c →
        then_some (has_key l a b c r.bytes) r ≡ by_key (sheet bs) l a b c
    found_if r e = go (has_key l a b c r.bytes) refl
      where
        go : (h : Bool) → has_key l a b c r.bytes ≡ h → then_some h r ≡ by_key (sheet bs) l a b c
        go true q = found_there r e q
        go false q = missed_there r e q

  -- a search for a key may go on within the letter's records
  pub range_between : (a b c : ℕ) (bs' : List ℕ) (k s e : ℕ) → bs' ≡ bs → k ≡ key_of (code l) a b c →
      s ≡ slice_index (starts (sheet bs)) (index_of l) → e ≡ slice_index (starts (sheet bs)) (index_of l + 1) →
      a < 256 → b < 256 → c < 256 → Between (sheet bs') k s e
  range_between a b c bs' k s e same key_is begins ends x y z =
      simp (same, key_is, begins, ends) (letter_range (sheet bs) w l a b c x y z)
