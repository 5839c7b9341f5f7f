-- Lists with the oldest first, as a reading and its sink have them, turned into the newest first of the machine.
use Rattle.std.proofs.Common.{◌≡◌, ℕ, ◌-◌, ◌≤◌, List, [], ◌∷◌, ◌++◌, reverse, length, take, drop, sym, refl, ap, ◌∙◌, arith}
use mathlib.Core.List.{reverse-cons}
use Rattle.std.proofs.lemmas.List.{append_assoc, reverse-append, length-append, length-reverse, length-drop, take-append-drop, take_at, drop_at, get_or_push}
use Rattle.sink.specs.Stacks.{front, back}
use Rattle.theory.specs.Machine.{current}
use Rattle.machine.specs.Reading.{last_of}

pub pushed : {A : Type 0} (old xs : List A) (x : A) → (old ++ reverse xs) ++ (x ∷ []) ≡ old ++ reverse (x ∷ xs)
pushed old xs x = append_assoc old (reverse xs) (x ∷ []) ∙ ap (λ ys. old ++ ys) (sym (reverse-cons x xs))

module _ {A : Type 0} (old xs : List A) (k : ℕ) (le : k ≤ length xs) where
  split : old ++ reverse xs ≡ (old ++ reverse (drop k xs)) ++ reverse (take k xs)
  split =
      ap (λ ys. old ++ reverse ys) (sym (take-append-drop k xs))
      ∙ ap (λ ys. old ++ ys) (reverse-append (take k xs) (drop k xs))
      ∙ sym (append_assoc old (reverse (drop k xs)) (reverse (take k xs)))

  count : length (old ++ reverse (drop k xs)) ≡ length (old ++ reverse xs) - k
  count =
      let a = length-append old (reverse (drop k xs)) in
      let b = length-append old (reverse xs) in
      let c = length-reverse (drop k xs) in
      let d = length-reverse xs in
      let e = length-drop k xs in
      omega arith

  pub front_turned : front k (old ++ reverse xs) ≡ old ++ reverse (drop k xs)
  front_turned =
      let n = length (old ++ reverse xs) - k in
      ap (take n) split ∙ take_at (old ++ reverse (drop k xs)) (reverse (take k xs)) n count

  pub back_turned : back k (old ++ reverse xs) ≡ reverse (take k xs)
  back_turned =
      let n = length (old ++ reverse xs) - k in
      ap (drop n) split ∙ drop_at (old ++ reverse (drop k xs)) (reverse (take k xs)) n count

-- y in the place of the newest k
pub replaced : {A : Type 0} (old xs : List A) (k : ℕ) (y : A) → k ≤ length xs →
    front k (old ++ reverse xs) ++ (y ∷ []) ≡ old ++ reverse (y ∷ drop k xs)
replaced old xs k y le = ap (λ zs. zs ++ (y ∷ [])) (front_turned old xs k le) ∙ pushed old (drop k xs) y

pub last_turned : (ss : List ℕ) → last_of (reverse ss) ≡ current ss
last_turned [] = refl
last_turned (s ∷ ss) =
    let grown = reverse-cons s ss in
    let long = length-append (reverse ss) (s ∷ []) in
    let at : length (reverse ss) ≡ length (reverse ss ++ (s ∷ [])) - 1 = omega arith in
    ap last_of grown ∙ get_or_push (reverse ss) s 0 (length (reverse ss ++ (s ∷ [])) - 1) at
