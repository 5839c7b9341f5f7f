-- A word that stands alone is a word to the lexer.
use Rattle.std.proofs.Common.{◌≡◌, ℕ, ◌<◌, ◌≤◌, true, leb, List, [], ◌∷◌, length, Some, None, Ok, Err, sym, refl, ap, ◌∙◌, subst, ⊎_elim, arith}
use Rattle.std.proofs.lemmas.List.Elements.{All-from_get_or}
use Rattle.std.proofs.lemmas.List.Sums.{take_while-cons, list_all-from_AllPass}
use Rattle.std.proofs.lemmas.Bool.{and_parts, and_from, cases_Bool, cond-true, cond-false, leb-true, le-leb}
use Rattle.syntax.specs.declared.Token.{Token}
use Rattle.source.specs.declared.SourceFault.{SourceFault}
use Rattle.lexing.specs.Plans.{is_letter, run, spelled, Item, word}
use Rattle.lexing.specs.Spelling.{letters, is_word, spelling}
use Rattle.lexing.proofs.Items.{word_cases}
use Rattle.lexing.proofs.Runs.{run_passes}

-- what a word says of its letters
abbrev Says : List ℕ → Item → Type 0
Says ls (Ok t) = (t.length ≡ length ls) × (t.value ≡ spelled ls) × (length ls ≤ 8)
Says ls (Err f) = 8 < length ls

word_says : (p : ℕ) (ls : List ℕ) → Says ls (word p ls)
word_says p ls = word_cases (Says ls) p ls (λ short. (refl, refl, short)) (λ long. long)

run_letters : (bs : List ℕ) → letters bs ≡ true → run is_letter bs ≡ bs
run_letters [] h = refl
run_letters (b ∷ bs) h =
    let p = and_parts (is_letter b) (letters bs) h in
    take_while-cons is_letter b bs ∙ cond-true (is_letter b) _ [] p.0 ∙ ap (λ r. b ∷ r) (run_letters bs p.1)

all_letters : (bs : List ℕ) → length bs ≤ length (run is_letter bs) → letters bs ≡ true
all_letters bs h =
    list_all-from_AllPass is_letter bs
    (All-from_get_or (λ b. is_letter b ≡ true) bs 0 (λ k lt. run_passes is_letter bs k (omega arith)))

module _ (bs : List ℕ) where
  no_word : (letters bs ≡ true → 1 ≤ length bs → length bs ≤ 8 → ⊥) → None ≡ spelling bs
  no_word never =
      ⊎_elim
      (λ yes'. let p = and_parts (letters bs) _ yes' in
      let q = and_parts (leb 1 (length bs)) (leb (length bs) 8) p.1 in
      absurd (never p.0 (leb-true 1 _ q.0) (leb-true _ 8 q.1)))
      (λ no'. sym (cond-false (is_word bs) (Some (spelled bs)) None no'))
      (cases_Bool (is_word bs))

  pub empty_alone : length bs ≡ 0 → None ≡ spelling bs
  empty_alone h = no_word (λ all some few. omega arith)

  pub long_alone : (f : SourceFault) → Err f ≡ word 0 (run is_letter bs) → None ≡ spelling bs
  long_alone f e =
      let says = subst (Says (run is_letter bs)) (sym e) (word_says 0 (run is_letter bs)) in
      no_word (λ all some few. omega (arith, says, ap length (run_letters bs all)))

  module _ (t : Token) (e : Ok t ≡ word 0 (run is_letter bs)) where
    says : Says (run is_letter bs) (Ok t)
    says = subst (Says (run is_letter bs)) (sym e) (word_says 0 (run is_letter bs))

    pub other_alone : (t.length ≡ length bs → ⊥) → None ≡ spelling bs
    other_alone h = no_word (λ all some few. h (omega (arith, says.0, ap length (run_letters bs all))))

    pub word_alone : 1 ≤ length bs → t.length ≡ length bs → Some t.value ≡ spelling bs
    word_alone some whole =
        let all = all_letters bs (omega (arith, says.0)) in
        let same = run_letters bs all in
        let few : length bs ≤ 8 = omega (arith, says.2, ap length same) in
        let is = and_from (letters bs) _ all (and_from (leb 1 _) (leb _ 8) (le-leb 1 _ some) (le-leb _ 8 few)) in
        ap Some (says.1 ∙ ap spelled same) ∙ sym (cond-true (is_word bs) (Some (spelled bs)) None is)
