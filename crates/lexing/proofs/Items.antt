-- What holds of an item, by its cases.
use Rattle.std.proofs.Common.{◌≡◌, ℕ, ◌<◌, ◌≤◌, true, false, cond, leb, List, length, Ok, Err}
use Rattle.std.proofs.lemmas.Bool.{cond_both, leb-true, leb-false}
use Rattle.source.specs.declared.SourceFault.TheVariants.{LongWord, LargeNumber}
use Rattle.lexing.specs.Plans.{
  is_letter,
  is_digit,
  mark_kind,
  run,
  spelled,
  decimal,
  token,
  Item,
  word,
  numeral,
  mark,
  item,
}

module _ (P : Item → Type 0) (p : ℕ) where
  pub word_cases :
      (ls : List ℕ) → (length ls ≤ 8 → P (Ok (token 1 p (length ls) (spelled ls))))
      → (8 < length ls → P (Err (LongWord p 0))) → P (word p ls)
  word_cases ls short long =
      let t = token 1 p (length ls) (spelled ls) in
      cond_both (leb (length ls) 8) (Ok t) (Err (LongWord p 0)) P
      (λ e. short (leb-true _ 8 e)) (λ e. long (leb-false _ 8 e))

  pub numeral_cases :
      (ds : List ℕ) → (decimal ds ≤ 4294967295 → P (Ok (token 2 p (length ds) (decimal ds))))
      → (4294967295 < decimal ds → P (Err (LargeNumber p 0))) → P (numeral p ds)
  numeral_cases ds small large =
      let t = token 2 p (length ds) (decimal ds) in
      cond_both (leb (decimal ds) 4294967295) (Ok t) (Err (LargeNumber p 0)) P
      (λ e. small (leb-true _ 4294967295 e)) (λ e. large (leb-false _ 4294967295 e))

  pub item_cases :
      (b : ℕ) (bs : List ℕ) → (is_letter b ≡ true → P (word p (run is_letter bs)))
      → (is_digit b ≡ true → P (numeral p (run is_digit bs)))
      → (is_letter b ≡ false → is_digit b ≡ false → P (mark p (mark_kind b))) → P (item p b bs)
  item_cases b bs if-letter if-digit if-other =
      let n = numeral p (run is_digit bs) in
      let m = mark p (mark_kind b) in
      cond_both (is_letter b) (word p (run is_letter bs)) (cond (is_digit b) n m) P if-letter
      (λ letter. cond_both (is_digit b) n m P if-digit (λ digit. if-other letter digit))
