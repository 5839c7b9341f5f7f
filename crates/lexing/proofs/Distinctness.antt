-- Different words have different values.
use Rattle.std.proofs.Common.{◌≡◌, ℕ, zero, suc, ◌+◌, ◌-◌, ◌*◌, ◌<◌, ◌≤◌, true, leb, List, [], ◌∷◌, ◌++◌, length, take, drop, Some, None, sym, refl, ap, ◌∙◌, ap₂, ⊎_elim, arith, length-drop}
use Rattle.std.specs.Int.Digits.{number_from_digits_after}
use Rattle.std.proofs.lemmas.Int.Digits.{number_after_append, number_after_ge}
use Rattle.std.proofs.lemmas.List.{take-append-drop}
use Rattle.std.proofs.lemmas.Bool.{and_parts, cases_Bool, cases_lt, cond-true, cond-false, leb-true}
use Rattle.lexing.specs.Plans.{is_letter, spelled}
use Rattle.lexing.specs.Spelling.{letters, is_word, spelling, Distinct}

letter : (b : ℕ) → is_letter b ≡ true → (0 < b) × (b < 256)
letter b h =
    let p = and_parts (leb 97 b) (leb b 122) h in
    (omega (arith, leb-true 97 b p.0), omega (arith, leb-true b 122 p.1))

-- a front and a back of letters
letters_drop : (n : ℕ) (bs : List ℕ) → letters bs ≡ true → letters (drop n bs) ≡ true
letters_drop zero bs h = h
letters_drop (suc n) [] h = h
letters_drop (suc n) (b ∷ bs) h = letters_drop n bs (and_parts (is_letter b) (letters bs) h).1

-- letters of the same count, behind a and b
same_after :
    (xs ys : List ℕ) (a b : ℕ) → length xs ≡ length ys → letters xs ≡ true → letters ys ≡ true
    → number_from_digits_after 256 a xs ≡ number_from_digits_after 256 b ys → (a ≡ b) × (xs ≡ ys)
same_after [] [] a b n hx hy e = (e, refl)
same_after [] (y ∷ ys) a b n hx hy e = absurd (omega arith)
same_after (x ∷ xs) [] a b n hx hy e = absurd (omega arith)
same_after (x ∷ xs) (y ∷ ys) a b n hx hy e =
    let px = and_parts (is_letter x) (letters xs) hx in
    let py = and_parts (is_letter y) (letters ys) hy in
    let lx = letter x px.0 in
    let ly = letter y py.0 in
    let r = same_after xs ys (a * 256 + x) (b * 256 + y) (omega arith) px.1 py.1 e in
    let same : x ≡ y = omega arith in
    (omega arith, ap₂ (λ h t. h ∷ t) same r.1)

-- letters that come to nothing are none
none_from_zero : (bs : List ℕ) (n : ℕ) → letters bs ≡ true → 0 ≡ spelled (take n bs) → take n bs ≡ []
none_from_zero bs zero h e = refl
none_from_zero [] (suc n) h e = refl
none_from_zero (b ∷ bs) (suc n) h e =
    let l = letter b (and_parts (is_letter b) (letters bs) h).0 in
    absurd (omega (arith, number_after_ge 256 (0 * 256 + b) (take n bs) (omega arith)))

-- the shorter one is the back of the longer one, and there is nothing in front of it
shorter :
    (xs ys : List ℕ) → length xs ≤ length ys → letters xs ≡ true → letters ys ≡ true
    → spelled xs ≡ spelled ys → xs ≡ ys
shorter xs ys le hx hy e =
    let n : ℕ = length ys - length xs in
    let whole = take-append-drop n ys in
    let split = e ∙ sym (ap spelled whole) ∙ number_after_append 256 0 (take n ys) (drop n ys) in
    let count : length xs ≡ length (drop n ys) = omega (arith, length-drop n ys) in
    let r = same_after xs (drop n ys) 0 (spelled (take n ys)) count hx (letters_drop n ys hy) split in
    r.1 ∙ sym (ap (λ f. f ++ drop n ys) (none_from_zero ys n hy r.0)) ∙ whole

same_word : (xs ys : List ℕ) → letters xs ≡ true → letters ys ≡ true → spelled xs ≡ spelled ys → xs ≡ ys
same_word xs ys hx hy e =
    ⊎_elim
    (λ lt. shorter xs ys (omega arith) hx hy e)
    (λ ge. sym (shorter ys xs ge hy hx (sym e)))
    (cases_lt (length xs) (length ys))

some_word : (bs : List ℕ) (v : ℕ) → spelling bs ≡ Some v → (letters bs ≡ true) × (spelled bs ≡ v)
some_word bs v e =
    ⊎_elim
    (λ word. let same : Some (spelled bs) ≡ Some v = sym (cond-true (is_word bs) (Some (spelled bs)) None word) ∙ e in
    ((and_parts (letters bs) _ word).0, cc))
    (λ other. let never : None ≡ Some v = sym (cond-false (is_word bs) (Some (spelled bs)) None other) ∙ e in
    let z : ◌≡◌ {A = ℕ} 0 1 = cc in absurd (omega arith))
    (cases_Bool (is_word bs))

pub words_distinct : (bs : List ℕ) → Distinct bs
words_distinct bs other v here there =
    let p = some_word bs v here in
    let q = some_word other v there in
    same_word other bs q.0 p.0 (q.1 ∙ sym p.1)
