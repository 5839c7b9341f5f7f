-- A plan is read in one way, and that is what its bytes mean.
use Rattle.std.proofs.Common.{◌≡◌, ℕ, zero, suc, ◌+◌, ◌-◌, ◌<◌, ◌≤◌, Bool, true, false, not, ◌&&◌, eqb, List, [], ◌∷◌, length, get_or, drop, Some, None, Ok, Err, codes, Option, sym, refl, ap, ◌∙◌, subst, ap₂, ⊎_elim, add-zero, arith, length-drop}
use Rattle.std.proofs.lemmas.List.{get_or-drop, length-take-le}
use Rattle.std.proofs.lemmas.Bool.{cases_lt, and_parts, not-true, eqb-true, cond-true, cond-false, cond_both}
use Rattle.std.proofs.lemmas.Bool.Decides.{nat_tests}
use Rattle.syntax.specs.declared.Token.{Token}
use Rattle.source.specs.declared.SourceFault.{SourceFault}
use Rattle.source.specs.Faults.{place}
use Rattle.source.specs.Streams.{Ending, end, fault, Stream}
use Rattle.lexing.specs.Plans.{
  is_blank,
  is_letter,
  is_digit,
  index_from,
  mark_kind,
  run,
  spelled,
  decimal,
  token,
  Item,
  word,
  numeral,
  mark,
  item,
  lexed_from,
}
use Rattle.lexing.specs.Reading.{text, Passes, Run, behind, TokenAt, a_word, a_number, a_mark, FaultAt, an_unknown_byte, a_long_word, a_large_number, Reads, TheReading}
use Rattle.lexing.proofs.Items.{word_cases, numeral_cases, item_cases}
use Rattle.lexing.proofs.Runs.{
  length_run_le,
  run_passes,
  run_behind,
  run_is,
  run_some,
  word_ok,
  word_err,
  numeral_ok,
  numeral_err,
}
use Rattle.lexing.proofs.Lexed.{
  here,
  here_within,
  at_blank,
  end_there,
  token_there,
  fault_there,
  behind_blanks,
  no_blank_there,
  blanks_within,
}

module _ (plan : List ℕ) where
  -- the longest run that the meaning takes, as places of the plan
  module _ (f : ℕ → Bool) (p : ℕ) (lt : p < length plan) (first : f (get_or plan p 0) ≡ true) where
    abbrev bytes : List ℕ
    bytes = run f (drop p plan)

    there : (k : ℕ) → get_or (drop p plan) k 0 ≡ get_or plan (p + k) 0
    there k = get_or-drop p plan k 0

    the_run : Run plan f p (p + length bytes)
    the_run = record {
      some = omega (arith, run_some f plan p lt first);
      within = omega (arith, length_run_le f (drop p plan), length-drop p plan);
      passes = λ k from to.
          let j : k ≡ p + (k - p) = omega arith in
          ap (λ i. f (get_or plan i 0)) j ∙ sym (ap f (there (k - p)))
          ∙ run_passes f (drop p plan) (k - p) (omega arith);
      stops = λ to.
          sym (ap f (there (length bytes))) ∙ run_behind f (drop p plan) (omega (arith, length-drop p plan));
    }

  -- a run between places is the one that the meaning takes
  run_there : (f : ℕ → Bool) (p q : ℕ) → Run plan f p q → run f (drop p plan) ≡ text plan p q
  run_there f p q r =
      run_is f (drop p plan) (q - p) (omega (arith, r.some, r.within, length-drop p plan))
      (λ k h. ap f (get_or-drop p plan k 0) ∙ r.passes (p + k) (omega arith) (omega (arith, r.some)))
      (λ h. ap f (get_or-drop p plan (q - p) 0) ∙ ap (λ i. f (get_or plan i 0)) (omega (arith, r.some))
      ∙ r.stops (omega (arith, r.some, length-drop p plan)))

  text_length : (f : ℕ → Bool) (p q : ℕ) → Run plan f p q → length (text plan p q) ≡ q - p
  text_length f p q r = length-take-le (q - p) (drop p plan) (omega (arith, r.within, length-drop p plan))

  -- what the meaning takes for an item, as places of the plan
  abbrev ItemAt : ℕ → Item → Type 0
  ItemAt p (Ok t) = (t.place ≡ p) × TokenAt plan t
  ItemAt p (Err f) = (place f ≡ p) × FaultAt plan f

  module _ (p : ℕ) (lt : p < length plan) where
    word_at : is_letter (get_or plan p 0) ≡ true → ItemAt p (word p (run is_letter (drop p plan)))
    word_at first =
        let bs = run is_letter (drop p plan) in
        let r = the_run is_letter p lt first in
        let same = ap spelled (run_there is_letter p (p + length bs) r) in
        word_cases (ItemAt p) p bs
        (λ short. (refl, a_word r short refl same))
        (λ long. (refl, a_long_word p (p + length bs) r (omega arith)))

    numeral_at : is_digit (get_or plan p 0) ≡ true → ItemAt p (numeral p (run is_digit (drop p plan)))
    numeral_at first =
        let bs = run is_digit (drop p plan) in
        let r = the_run is_digit p lt first in
        let same = ap decimal (run_there is_digit p (p + length bs) r) in
        numeral_cases (ItemAt p) p bs
        (λ small. (refl, a_number r small refl same))
        (λ large. (refl, a_large_number p (p + length bs) r (omega (arith, same))))

    module _ (blank : is_blank (get_or plan p 0) ≡ false) where
      mark_at :
          is_letter (get_or plan p 0) ≡ false → is_digit (get_or plan p 0) ≡ false
          → (k : Option ℕ) → mark_kind (get_or plan p 0) ≡ k → ItemAt p (mark p k)
      mark_at letter digit (Some k) e = (refl, a_mark lt refl e refl)
      mark_at letter digit None e = (refl, an_unknown_byte p lt blank letter digit e)

      item_at : ItemAt p (here plan p)
      item_at =
          item_cases (ItemAt p) p (get_or plan p 0) (drop p plan) word_at numeral_at
          (λ letter digit. mark_at letter digit (mark_kind (get_or plan p 0)) refl)

  abbrev Reading : ℕ → Stream → Type 0
  Reading p s = Reads plan p s.tokens s.ending

  -- with blanks from place p up to place q, and an item there
  read_item :
      (p q : ℕ) → p ≤ q → Passes plan is_blank p q → q < length plan → is_blank (get_or plan q 0) ≡ false
      → (i : Item) → i ≡ here plan q → ItemAt q i
      → ((r : ℕ) → q < r → r ≤ length plan → Reading r (lexed_from r plan)) → Reading p (lexed_from q plan)
  read_item p q le blanks lt blank (Ok t) i at onward =
      let inside = here_within plan q lt t i in
      let next = onward (q + t.length) (omega (arith, inside.0)) inside.1 in
      let back = sym at.0 in
      subst (Reading p) (sym (token_there plan q lt blank t i)) (
        omega (arith, back),
        subst (λ k. Passes plan is_blank p k) back blanks,
        at.1,
        subst (λ k. Reading (k + t.length) (lexed_from (q + t.length) plan)) back next,
      )
  read_item p q le blanks lt blank (Err f) i at onward =
      subst (Reading p) (sym (fault_there plan q lt blank f i)) (q, le, blanks, (sym at.0, at.1))

  blanks_pass : (p : ℕ) → Passes plan is_blank p (p + length (run is_blank (drop p plan)))
  blanks_pass p k from to =
      let j : k ≡ p + (k - p) = omega arith in
      ap (λ i. is_blank (get_or plan i 0)) j ∙ sym (ap is_blank (get_or-drop p plan (k - p) 0))
      ∙ run_passes is_blank (drop p plan) (k - p) (omega arith)

  -- from place p on, within so many steps
  reads_from : (steps p : ℕ) → p ≤ length plan → length plan < p + steps → Reading p (lexed_from p plan)
  reads_from zero p within far = absurd (omega arith)
  reads_from (suc steps) p within far =
      let n : ℕ = length (run is_blank (drop p plan)) in
      let le : p ≤ p + n = omega arith in
      subst (Reading p) (behind_blanks plan p (p + n) refl)
      (⊎_elim
      (λ lt. let blank = no_blank_there plan p (p + n) refl lt in
      read_item p (p + n) le (blanks_pass p) lt blank (here plan (p + n)) refl (item_at (p + n) lt blank)
      (λ r behind within. reads_from steps r within (omega arith)))
      (λ ge. let at : p + n ≡ length plan = omega (arith, blanks_within plan p (p + n) refl within) in
      subst (Reading p) (sym (end_there plan (p + n) ge)) (p + n, le, blanks_pass p, at))
      (cases_lt (p + n) (length plan)))

-- the classes of bytes do not meet
letter_blank : (b : ℕ) → is_letter b ≡ true → is_blank b ≡ false
letter_blank b h = grind (arith, nat_tests)

digit_blank : (b : ℕ) → is_digit b ≡ true → is_blank b ≡ false
digit_blank b h = grind (arith, nat_tests)

digit_letter : (b : ℕ) → is_digit b ≡ true → is_letter b ≡ false
digit_letter b h = grind (arith, nat_tests)

-- no byte of a list passes
abbrev none : (ℕ → Bool) → List ℕ → Bool
none f [] = true
none f (x ∷ xs) = not (f x) && none f xs

-- then one that is found there does not
found : (f : ℕ → Bool) (k : ℕ) (xs : List ℕ) (b j : ℕ) → none f xs ≡ true → index_from k xs b ≡ Some j → f b ≡ false
found f k [] b j each e = let z : ◌≡◌ {A = ℕ} 0 1 = cc in absurd (omega arith)
found f k (x ∷ xs) b j each e =
    let p = and_parts (not (f x)) (none f xs) each in
    cond_both (eqb b x) (Some k) (index_from (k + 1) xs b) (λ o. o ≡ Some j → f b ≡ false)
    (λ same _. ap f (eqb-true b x same) ∙ not-true (f x) p.0)
    (λ _ e. found f (k + 1) xs b j p.1 e)
    e

-- a mark is of no other class
module _ (b k : ℕ) (e : mark_kind b ≡ Some k) where
  mark_blank : is_blank b ≡ false
  mark_blank = found is_blank 3 (codes "+-*/(),;:=<>{}") b k refl e

  mark_letter : is_letter b ≡ false
  mark_letter = found is_letter 3 (codes "+-*/(),;:=<>{}") b k refl e

  mark_digit : is_digit b ≡ false
  mark_digit = found is_digit 3 (codes "+-*/(),;:=<>{}") b k refl e

-- the item by the class of its first byte
module _ (p b : ℕ) (bs : List ℕ) where
  item_word : is_letter b ≡ true → item p b bs ≡ word p (run is_letter bs)
  item_word letter = cond-true (is_letter b) (word p (run is_letter bs)) _ letter

  item_numeral : is_letter b ≡ false → is_digit b ≡ true → item p b bs ≡ numeral p (run is_digit bs)
  item_numeral letter digit =
      cond-false (is_letter b) (word p (run is_letter bs)) _ letter
      ∙ cond-true (is_digit b) (numeral p (run is_digit bs)) _ digit

  item_mark : is_letter b ≡ false → is_digit b ≡ false → item p b bs ≡ mark p (mark_kind b)
  item_mark letter digit =
      cond-false (is_letter b) (word p (run is_letter bs)) _ letter
      ∙ cond-false (is_digit b) (numeral p (run is_digit bs)) _ digit

module _ (plan : List ℕ) where
  -- what stands at place p is the item i
  record Stands (p : ℕ) (i : Item) : Type 0 where
    lt : p < length plan
    blank : is_blank (get_or plan p 0) ≡ false
    is : i ≡ here plan p

  first_passes : (f : ℕ → Bool) (p q : ℕ) → Run plan f p q → f (get_or plan p 0) ≡ true
  first_passes f p q r = r.passes p (omega arith) r.some

  word_stands : (p q : ℕ) → Run plan is_letter p q → Stands p (word p (text plan p q))
  word_stands p q r =
      let letter = first_passes is_letter p q r in
      record {
        lt = omega (arith, r.some, r.within);
        blank = letter_blank (get_or plan p 0) letter;
        is = sym (item_word p (get_or plan p 0) (drop p plan) letter ∙ ap (word p) (run_there plan is_letter p q r));
      }

  numeral_stands : (p q : ℕ) → Run plan is_digit p q → Stands p (numeral p (text plan p q))
  numeral_stands p q r =
      let digit = first_passes is_digit p q r in
      record {
        lt = omega (arith, r.some, r.within);
        blank = digit_blank (get_or plan p 0) digit;
        is = sym (item_numeral p (get_or plan p 0) (drop p plan) (digit_letter (get_or plan p 0) digit) digit
            ∙ ap (numeral p) (run_there plan is_digit p q r));
      }

  mark_stands :
      (p k : ℕ) → p < length plan → mark_kind (get_or plan p 0) ≡ Some k → Stands p (Ok (token k p 1 0))
  mark_stands p k lt e =
      let b = get_or plan p 0 in
      record {
        lt = lt;
        blank = mark_blank b k e;
        is = sym (item_mark p b (drop p plan) (mark_letter b k e) (mark_digit b k e) ∙ ap (mark p) e);
      }

  -- a token by its parts
  as_token :
      (t : Token) (k n v : ℕ) → t.kind ≡ k → t.length ≡ n → t.value ≡ v → token k t.place n v ≡ t
  as_token t k n v kind length value =
      sym (ap₂ (λ x y. token x t.place y t.value) kind length ∙ ap (token k t.place n) value)

  token_stands : (t : Token) → TokenAt plan t → Stands t.place (Ok t)
  token_stands t (a_word r few kind value) =
      let bs = text plan t.place (behind plan t) in
      let n : t.length ≡ length bs = omega (arith, text_length plan is_letter t.place (behind plan t) r) in
      subst (Stands t.place) (sym (word_ok t.place bs (omega arith)) ∙ ap Ok (as_token t 1 _ _ kind n value))
      (word_stands t.place (behind plan t) r)
  token_stands t (a_number r small kind value) =
      let bs = text plan t.place (behind plan t) in
      let n : t.length ≡ length bs = omega (arith, text_length plan is_digit t.place (behind plan t) r) in
      subst (Stands t.place) (sym (numeral_ok t.place bs (omega arith)) ∙ ap Ok (as_token t 2 _ _ kind n value))
      (numeral_stands t.place (behind plan t) r)
  token_stands t (a_mark lt one e value) =
      subst (Stands t.place) (ap Ok (as_token t t.kind 1 0 refl one value))
      (mark_stands t.place t.kind lt e)

  fault_stands : (f : SourceFault) → FaultAt plan f → Stands (place f) (Err f)
  fault_stands f (an_unknown_byte p lt blank letter digit e) = record {
    lt = lt;
    blank = blank;
    is = sym (item_mark p (get_or plan p 0) (drop p plan) letter digit ∙ ap (mark p) e);
  }
  fault_stands f (a_long_word p q r long) =
      let n = text_length plan is_letter p q r in
      subst (Stands p) (sym (word_err p (text plan p q) (omega arith))) (word_stands p q r)
  fault_stands f (a_large_number p q r large) =
      subst (Stands p) (sym (numeral_err p (text plan p q) large)) (numeral_stands p q r)

  -- blanks from place p up to place q mean nothing
  over_blanks :
      (n p : ℕ) → p + n ≤ length plan → Passes plan is_blank p (p + n) → lexed_from p plan ≡ lexed_from (p + n) plan
  over_blanks zero p within blanks = ap (λ k. lexed_from k plan) (sym (add-zero p))
  over_blanks (suc n) p within blanks =
      at_blank plan p (omega arith) (blanks p (omega arith) (omega arith))
      ∙ over_blanks n (p + 1) (omega arith) (λ k from to. blanks k (omega arith) (omega arith))
      ∙ ap (λ k. lexed_from k plan) (omega arith)

  up_to :
      (p q : ℕ) → p ≤ q → q ≤ length plan → Passes plan is_blank p q → lexed_from p plan ≡ lexed_from q plan
  up_to p q le within blanks =
      let e : p + (q - p) ≡ q = omega arith in
      over_blanks (q - p) p (omega arith) (subst (Passes plan is_blank p) (sym e) blanks)
      ∙ ap (λ k. lexed_from k plan) e

  reads_as :
      (ts : List Token) (e : Ending) (p : ℕ) → Reads plan p ts e
      → record { tokens = ts; ending = e } ≡ lexed_from p plan
  reads_as [] end p (q, le, blanks, at) =
      sym (up_to p q le (omega (arith, at)) blanks ∙ end_there plan q (omega (arith, at)))
  reads_as [] (fault f) p (q, le, blanks, at) =
      let s = subst (λ k. Stands k (Err f)) (sym at.0) (fault_stands f at.1) in
      sym (up_to p q le (omega (arith, s.lt)) blanks ∙ fault_there plan q s.lt s.blank f s.is)
  reads_as (t ∷ ts) e p (le, blanks, at, onward) =
      let s = token_stands t at in
      let behind_it = reads_as ts e (behind plan t) onward in
      let there = token_there plan t.place s.lt s.blank t s.is in
      ap (λ m. record { tokens = t ∷ m.tokens; ending = m.ending }) behind_it
      ∙ sym (up_to p t.place le (omega (arith, s.lt)) blanks ∙ there)

-- the meaning of a plan is the one way to read it
pub the_reading : (plan : List ℕ) → TheReading plan (lexed_from 0 plan)
the_reading plan = record {
  reads = reads_from plan (length plan + 1) 0 (omega arith) (omega arith);
  only = λ other r. reads_as plan other.tokens other.ending 0 r;
}
