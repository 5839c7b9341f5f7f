-- One record more.
use Rattle.std.proofs.Common.{◌≡◌, ℕ, zero, suc, ◌+◌, ◌-◌, ◌*◌, ◌<◌, ◌≤◌, List, [], ◌∷◌, ◌++◌, length, take, drop, sym, refl, ap, ◌∙◌, subst, append_assoc, append-nil, add-one, arith, take-append-drop, take_all, take-take, take_at, drop_at}
use denote.Ref.{at_last}
use lib.Seq.{paste, take-paste, drop-paste, length-paste}
use Rattle.std.proofs.lemmas.List.{drop-take, length-take-le}
use Rattle.sink.specs.Stacks.{Stack, endless, limited, front, back}
use Rattle.trace.specs.declared.Trace.{Trace}
use Rattle.trace.specs.Records.{joined, places, record_at}
use Rattle.trace.specs.Piles.{Pile, children, played, put, below, top, pile}
use Rattle.trace.specs.Meaning.{bytes, stack, meaning, appended}
use Rattle.trace.specs.Grown.{Grown}
use Rattle.trace.proofs.Piles.{front_top, back_top, top_put, joined_append}

-- records that stand leave the pile that they left
same_pile : (n : ℕ) (cs bs : List ℕ) → take (16 * n) cs ≡ take (16 * n) bs → pile n cs ≡ pile n bs
same_pile zero cs bs h = refl
same_pile (suc n) cs bs h =
    let e : 16 * suc n ≡ 16 * n + 16 = omega arith in
    let both : take (16 * n + 16) cs ≡ take (16 * n + 16) bs = subst (λ m. take m cs ≡ take m bs) e h in
    let near : (ds : List ℕ) → take (16 * n) (take (16 * n + 16) ds) ≡ take (16 * n) ds =
    λ ds. take-take (16 * n) (16 * n + 16) ds (omega arith) in
    let low = sym (near cs) ∙ ap (take (16 * n)) both ∙ near bs in
    let here = sym (drop-take (16 * n) 16 cs) ∙ ap (drop (16 * n)) both ∙ drop-take (16 * n) 16 bs in
    λ i. played (here i) (same_pile n cs bs low i)

-- the bytes d, with a record r at place n
module _ (d : List ℕ) (n : ℕ) (r : List ℕ) (free : n < places d) (sixteen : length r ≡ 16) where
  abbrev next : List ℕ
  next = paste d (16 * n) r 16

  fits : 16 * n + 16 ≤ length d
  fits = omega arith

  fore : length (take (16 * n) d) ≡ 16 * n
  fore = length-take-le (16 * n) d (omega (arith, fits))

  pub next_front : take (16 * n + 16) next ≡ take (16 * n) d ++ r
  next_front =
      take-paste d (16 * n) r 16 (omega (arith, fits)) (omega arith)
      ∙ ap (λ l. take (16 * n) d ++ l) (take_all 16 r (omega arith))

  pub next_low : take (16 * n) next ≡ take (16 * n) d
  next_low =
      sym (take-take (16 * n) (16 * n + 16) next (omega arith)) ∙ ap (take (16 * n)) next_front
      ∙ take_at (take (16 * n) d) r (16 * n) fore

  pub next_behind : drop (16 * n + 16) next ≡ drop (16 * n + 16) d
  next_behind = drop-paste d (16 * n) r 16 (omega (arith, fits)) (omega arith)

  pub next_length : length next ≡ length d
  next_length = length-paste d (16 * n) r 16 fits (omega arith)

  pub next_pile : pile (n + 1) next ≡ played r (pile n d)
  next_pile =
      let here : record_at next n ≡ r =
      sym (drop-take (16 * n) 16 next) ∙ ap (drop (16 * n)) next_front ∙ drop_at (take (16 * n) d) r (16 * n) fore in
      ap (λ m. pile m next) (add-one n) ∙ (λ i. played (here i) (same_pile n next d next_low i))

-- one tree of the last k, with r behind them, keeps all that was joined
pub rejoined : (k : ℕ) (ts : List (List ℕ)) (r : List ℕ) →
    joined (front k ts ++ ((joined (back k ts) ++ r) ∷ [])) ≡ joined ts ++ r
rejoined k ts r =
    joined_append (front k ts) ((joined (back k ts) ++ r) ∷ [])
    ∙ ap (λ l. joined (front k ts) ++ l) (append-nil (joined (back k ts) ++ r))
    ∙ sym (append_assoc (joined (front k ts)) (joined (back k ts)) r)
    ∙ ap (λ l. l ++ r) (sym (joined_append (front k ts) (back k ts)) ∙ ap joined (take-append-drop (length ts - k) ts))

-- the bytes of a trace with a record r more, which has the last k trees as its children
module _ (a : Trace) (k : ℕ) (r new : List ℕ)
    (free : a.records < places (bytes a)) (few : k ≤ a.trees) (sixteen : length r ≡ 16) (kids : children r ≡ k)
    (new_is : new ≡ paste (bytes a) (16 * a.records) r 16) where
  abbrev was : Pile
  was = pile a.records (bytes a)

  abbrev ts : List (List ℕ)
  ts = (meaning a).list

  abbrev now : Stack (List ℕ)
  now = stack new (a.records + 1) (a.trees - k + 1)

  long : length new ≡ length (bytes a)
  long = ap length new_is ∙ next_length (bytes a) a.records r free sixteen

  list_is : now.list ≡ front k ts ++ ((joined (back k ts) ++ r) ∷ [])
  list_is =
      let pile_is =
      ap (pile (a.records + 1)) new_is ∙ next_pile (bytes a) a.records r free sixteen
      ∙ (λ i. put (joined (top (kids i) was) ++ r) (below (kids i) was)) in
      ap (top (a.trees - k + 1)) pile_is ∙ top_put (a.trees - k) (joined (top k was) ++ r) (below k was)
      ∙ sym (λ i. front_top a.trees k was few i ++ ((joined (back_top a.trees k was few i) ++ r) ∷ []))

  pub one_tree : now ≡ appended k r (meaning a)
  one_tree =
      let left : places new - (a.records + 1) ≡ places (bytes a) - a.records + 0 - 1 = omega (arith, long) in
      λ i. record { list = list_is i; records = limited (left i); cells = endless }

  end : 16 * (a.records + 1) ≡ 16 * a.records + 16
  end = omega arith

  pub grown : (fits : a.records + 1 ≤ places new) (rooted : a.trees - k + 1 ≤ a.records + 1) →
      Grown a (record {
        bytes = at_last a.bytes new;
        records = a.records + 1;
        trees = a.trees - k + 1;
        fits = fits;
        rooted = rooted;
      })
  grown fits rooted = record {
    lent = refl;
    long = long;
    more = omega arith;
    front = ap (take (16 * a.records)) new_is ∙ next_low (bytes a) a.records r free sixteen;
    behind =
        (λ i. drop (end i) (new_is i)) ∙ next_behind (bytes a) a.records r free sixteen
        ∙ ap (λ m. drop m (bytes a)) (sym end);
    whole = λ h.
        ap joined list_is ∙ rejoined k ts r ∙ ap (λ l. l ++ r) h
        ∙ sym (next_front (bytes a) a.records r free sixteen) ∙ sym (λ i. take (end i) (new_is i));
  }
