-- Records by their keys: in a well-formed sheet the record with a key is the one that is found.
use Rattle.std.proofs.Common.{◌≡◌, ℕ, ◌<◌, Bool, true, false, cond, T, eqb, List, Some, None, Option, sym, refl, ap, ◌∙◌, subst, arith, lit<, eqb→eq}
use Rattle.layout.specs.declared.Letter.{Letter}
use Rattle.layout.specs.declared.Letter.TheVariants.{A, D, G, I, K, N, P, S}
use Rattle.layout.specs.Choices.{given}
use Rattle.layout.specs.Records.{Format, Sheet, count, record_at, at, byte, code, letter, letter_of, key_of, key}
use Rattle.layout.specs.Records.{has_key}
use Rattle.layout.specs.Meaning.{placed}
use Rattle.layout.specs.Opening.{by_letter}
use Rattle.wellformed.specs.Formed.{InRangeOf, ByLetter, Sorted}
use Rattle.wellformed.proofs.Tests.{eq_T, some_same, none_some, T_and, and_T}
use Rattle.wellformed.proofs.Says.{Says}
use Rattle.wellformed.proofs.Firsts.{first_none, first_at, first_some}

-- LETTERS

decoded : (l : Letter) → letter_of (code l) ≡ Some l
decoded A = refl
decoded D = refl
decoded G = refl
decoded I = refl
decoded K = refl
decoded N = refl
decoded P = refl
decoded S = refl

pub one_letter : (m l : Letter) → code m ≡ code l → m ≡ l
one_letter m l e = some_same (sym (decoded m) ∙ ap letter_of e ∙ decoded l)

if_code : (b c : ℕ) (x l : Letter) (r : Option Letter) → code x ≡ c → (r ≡ Some l → b ≡ code l) →
    cond (eqb b c) (Some x) r ≡ Some l → b ≡ code l
if_code b c x l r e rest h = go (eqb b c) (eqb→eq b c) h
  where
    go : (t : Bool) → (T t → b ≡ c) → cond t (Some x) r ≡ Some l → b ≡ code l
    go true s k = s tt ∙ sym e ∙ ap code (some_same k)
    go false s k = rest k

pub code_of : (b : ℕ) (l : Letter) → letter_of b ≡ Some l → b ≡ code l
code_of b l h =
    if_code b 65 A l _ refl (if_code b 68 D l _ refl (if_code b 71 G l _ refl (if_code b 73 I l _ refl
    (if_code b 75 K l _ refl (if_code b 78 N l _ refl (if_code b 80 P l _ refl (if_code b 83 S l _ refl
    (λ e. absurd (none_some e)))))))))
    h

-- a test by a record's letter, as what it says
pub says_by_letter : (sh : Sheet) (i : ℕ) (f : Letter → Bool) (Q : List ℕ → Letter → Type 0) →
    ((l : Letter) → Says (f l) (Q (record_at sh i) l)) → Says (by_letter (record_at sh i) f) (ByLetter sh Q i)
says_by_letter sh i f Q s = record {
  to = λ h. go (letter (record_at sh i)) (code_of (byte sh i 0)) h;
  back = λ h. subst (λ o. T (given false f o)) (sym (ap letter_of h.1 ∙ decoded h.0)) ((s h.0).back h.2);
}
  where
    go : (o : Option Letter) → ((l : Letter) → o ≡ Some l → byte sh i 0 ≡ code l) → T (given false f o) → ByLetter sh Q i
    go None c h = absurd h
    go (Some l) c h = (l, c l refl, (s l).to h)

pub at_letter : (sh : Sheet) (Q : List ℕ → Letter → Type 0) (i : ℕ) (l : Letter) → byte sh i 0 ≡ code l →
    ByLetter sh Q i → Q (record_at sh i) l
at_letter sh Q i l e (m, e', h) = subst (Q (record_at sh i)) (one_letter m l (sym e' ∙ e)) h

-- KEYS

-- record i has this key
pub record Row (sh : Sheet) (l : Letter) (a b c i : ℕ) : Type 0 where
  pub within : i < count sh
  pub is_0 : byte sh i 0 ≡ code l
  pub is_1 : byte sh i 1 ≡ a
  pub is_2 : byte sh i 2 ≡ b
  pub is_3 : byte sh i 3 ≡ c

cond_is : {X : Type 0} (t : Bool) (x y : X) → cond t (Some x) None ≡ Some y → T t × (x ≡ y)
cond_is true x y e = (tt, some_same e)
cond_is false x y e = absurd (none_some e)

cond_yes : {X : Type 0} (t : Bool) (x : X) → T t → cond t (Some x) None ≡ Some x
cond_yes true x h = refl
cond_yes false x h = absurd h

cond_no : {X : Type 0} (t : Bool) (x : X) → (T t → ⊥) → cond t (Some x) None ≡ None
cond_no true x h = absurd (h tt)
cond_no false x h = refl

module _ (sh : Sheet) where
  abbrev found_at : Letter → ℕ → ℕ → ℕ → ℕ → Option ℕ
  found_at l a b c i = cond (has_key l a b c (record_at sh i)) (Some i) None

  pub key_row : (l : Letter) (a b c i : ℕ) → i < count sh → T (has_key l a b c (record_at sh i)) → Row sh l a b c i
  key_row l a b c i lt h =
      let (x, y) = T_and _ _ h in
      let (x₀, x₁) = T_and _ _ x in
      let (y₀, y₁) = T_and _ _ y in
      record { within = lt; is_0 = eqb→eq _ _ x₀; is_1 = eqb→eq _ _ x₁; is_2 = eqb→eq _ _ y₀; is_3 = eqb→eq _ _ y₁ }

  pub row_key : (l : Letter) (a b c i : ℕ) → Row sh l a b c i → T (has_key l a b c (record_at sh i))
  row_key l a b c i r =
      and_T _ _ (and_T _ _ (eq_T _ _ r.is_0) (eq_T _ _ r.is_1)) (and_T _ _ (eq_T _ _ r.is_2) (eq_T _ _ r.is_3))

  -- what is found has the key
  pub row_of : (l : Letter) (a b c i : ℕ) → placed sh l a b c ≡ Some i → Row sh l a b c i
  unfolding placed
  row_of l a b c i e =
      let (j, lt, here, none) = first_some (found_at l a b c) (count sh) i e in
      let (hit, same) = cond_is (has_key l a b c (record_at sh j)) j i here in
      subst (Row sh l a b c) same (key_row l a b c j lt hit)

  -- nothing is found where no record has the key
  pub none_placed : (l : Letter) (a b c : ℕ) → ((i : ℕ) → Row sh l a b c i → ⊥) → placed sh l a b c ≡ None
  unfolding placed
  none_placed l a b c none =
      first_none (found_at l a b c) (count sh)
      (λ k lt. cond_no (has_key l a b c (record_at sh k)) k (λ h. none k (key_row l a b c k lt h)))

  pub row_number : (l : Letter) (a b c i : ℕ) → Row sh l a b c i → key (record_at sh i) ≡ key_of (code l) a b c
  unfolding key
  row_number l a b c i r = simp (r.is_0, r.is_1, r.is_2, r.is_3)

-- the second and third number of a record's key: 0 where its letter has none
abbrev pub second : List ℕ → Letter → ℕ
second r A = at r 2
second r D = 0
second r G = at r 2
second r I = at r 2
second r K = at r 2
second r N = 0
second r P = 0
second r S = 0

abbrev pub third : List ℕ → Letter → ℕ
third r A = 0
third r D = 0
third r G = 0
third r I = at r 3
third r K = 0
third r N = 0
third r P = 0
third r S = 0

-- a record in range has these numbers in its key
numbers : (f : Format) (r : List ℕ) (l : Letter) → InRangeOf f r l → (at r 2 ≡ second r l) × (at r 3 ≡ third r l)
numbers f r A h = (refl, h.1.1.0 0 (lit< tt))
numbers f r D h = (h.1.0 0 (lit< tt), h.1.0 1 (lit< tt))
numbers f r G h = (refl, h.1.1.0 0 (lit< tt))
numbers f r I h = (refl, refl)
numbers f r K h = (refl, h.1.1.0 0 (lit< tt))
numbers f r N h = (h.1.0 0 (lit< tt), h.1.0 1 (lit< tt))
numbers f r P h = (h.1.0 0 (lit< tt), h.1.0 1 (lit< tt))
numbers f r S h = (h.1.0 0 (lit< tt), h.1.0 1 (lit< tt))

module _ (sh : Sheet) (w : Sorted sh) where
  pub range_at : (l : Letter) (i : ℕ) → i < count sh → byte sh i 0 ≡ code l → InRangeOf sh.format (record_at sh i) l
  range_at l i lt e = at_letter sh (InRangeOf sh.format) i l e (w.in_range i lt)

  -- the record with a key is found
  pub placed_row : (l : Letter) (a b c i : ℕ) → Row sh l a b c i → placed sh l a b c ≡ Some i
  unfolding placed
  placed_row l a b c i r =
      first_at (found_at sh l a b c) (count sh) i i
      (λ k lt. cond_no (has_key l a b c (record_at sh k)) k (λ h.
      let q = key_row sh l a b c k (let t = r.within in omega arith) h in
      let e = row_number sh l a b c k q ∙ sym (row_number sh l a b c i r) in
      let o = w.in_order k i lt r.within in
      omega arith))
      (cond_yes (has_key l a b c (record_at sh i)) i (row_key sh l a b c i r))
      r.within

  -- record i by its own key
  pub record Known (i : ℕ) : Type 0 where
    pub which : Letter
    pub is_letter : byte sh i 0 ≡ code which
    pub ranged : InRangeOf sh.format (record_at sh i) which
    pub row : Row sh which (byte sh i 1) (second (record_at sh i) which) (third (record_at sh i) which) i
    pub found : placed sh which (byte sh i 1) (second (record_at sh i) which) (third (record_at sh i) which) ≡ Some i

  pub known : (i : ℕ) → i < count sh → Known i
  known i lt =
      let (l, e, h) = w.in_range i lt in
      let z = numbers sh.format (record_at sh i) l h in
      let r : Row sh l (byte sh i 1) (second (record_at sh i) l) (third (record_at sh i) l) i =
      record { within = lt; is_0 = e; is_1 = refl; is_2 = z.0; is_3 = z.1 }
      in
      record { which = l; is_letter = e; ranged = h; row = r; found = placed_row l _ _ _ i r }
