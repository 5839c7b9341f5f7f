-- Keywords that are listed one after the other.
use Rattle.std.proofs.Common.{◌≡◌, ℕ, ◌+◌, ◌<◌, List, [], ◌∷◌, ◌++◌, length, get_or, take, drop, Ok, Err, sym, ap, ◌∙◌, append_assoc}
use Rattle.std.proofs.lemmas.List.{at_drop_more, take_more}
use Rattle.streams.specs.declared.Keyword.{Keyword}
use Rattle.keywords.specs.declared.refusal.KeywordRefusal.{KeywordRefusal}
use Rattle.keywords.specs.Adding.{add_answer, kept, added}
use Rattle.pile.specs.Piles.{and_then, add_all}

-- the word at i is added behind those before it
module _ (before ws words : List Keyword) (i : ℕ) (d : Keyword) (lt : i < length words) where
  abbrev it : Keyword
  it = get_or words i d

  rest_all : add_all ws (drop i words) ≡ and_then (add_answer ws it) (add_all (ws ++ (it ∷ [])) (drop (i + 1) words))
  rest_all = at_drop_more (add_all ws) words i d lt

  pub words_more : ws ≡ before ++ take i words → ws ++ (it ∷ []) ≡ before ++ take (i + 1) words
  words_more h =
      ap (λ l. l ++ (it ∷ [])) h ∙ append_assoc before (take i words) (it ∷ [])
      ∙ ap (λ l. before ++ l) (sym (take_more words i d lt))

  pub added_ok : Ok tt ≡ add_answer ws it → added ws it ≡ ws ++ (it ∷ [])
  added_ok ok = sym (ap (λ r. kept r ws it) ok)

  pub answers_on :
      Ok tt ≡ add_answer ws it → add_all (ws ++ (it ∷ [])) (drop (i + 1) words) ≡ add_all ws (drop i words)
  answers_on ok = sym (rest_all ∙ ap (λ r. and_then r (add_all (ws ++ (it ∷ [])) (drop (i + 1) words))) (sym ok))

  pub answers_here : (e : KeywordRefusal) → Err e ≡ add_answer ws it → Err e ≡ add_all ws (drop i words)
  answers_here e err = sym (rest_all ∙ ap (λ r. and_then r (add_all (ws ++ (it ∷ [])) (drop (i + 1) words))) (sym err))
