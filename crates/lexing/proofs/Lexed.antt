-- What the meaning of a plan's bytes is, item by item.
use Rattle.std.proofs.Common.{◌≡◌, ℕ, zero, suc, pred, ◌+◌, ◌<◌, ◌≤◌, true, false, List, [], ◌∷◌, length, get_or, drop, Some, None, Ok, Err, Option, sym, refl, ap, ◌∙◌, subst, ap₂, add-zero, arith, length-drop, drop-drop}
use Rattle.std.specs.List.{prefix_len}
use Rattle.std.proofs.lemmas.List.{drop_more, drop_all, get_or-drop}
use Rattle.std.proofs.lemmas.List.Folds.{length-prefix_len}
use Rattle.std.proofs.lemmas.Bool.{cond-true, cond-false, cond_both}
use Rattle.syntax.specs.declared.Token.{Token}
use Rattle.source.specs.declared.SourceFault.{SourceFault}
use Rattle.source.specs.Streams.{end, fault}
use Rattle.lexing.specs.Plans.{
  is_blank,
  is_letter,
  is_digit,
  mark_kind,
  run,
  Item,
  mark,
  item,
  item_then,
  lexed,
  lexed_from,
}
use Rattle.lexing.proofs.Items.{word_cases, numeral_cases, item_cases}
use Rattle.lexing.proofs.Runs.{length_run_le, run_behind, run_some}

-- an item of at most m bytes, and at least one
abbrev Within : ℕ → Item → Type 0
Within m (Ok t) = (1 ≤ t.length) × (t.length ≤ m)
Within m (Err f) = Unit {0}

mark_within : (m p : ℕ) (k : Option ℕ) → 1 ≤ m → Within m (mark p k)
mark_within m p (Some k) h = (omega arith, h)
mark_within m p None h = tt

item_within : (p b : ℕ) (bs : List ℕ) → Within (length (b ∷ bs)) (item p b (b ∷ bs))
item_within p b bs =
    let all = b ∷ bs in
    item_cases (Within (length all)) p b all
    (λ letter. word_cases (Within (length all)) p (run is_letter all)
    (λ _. (run_some is_letter all 0 (omega arith) letter, length_run_le is_letter all)) (λ _. tt))
    (λ digit. numeral_cases (Within (length all)) p (run is_digit all)
    (λ _. (run_some is_digit all 0 (omega arith) digit, length_run_le is_digit all)) (λ _. tt))
    (λ _ _. mark_within _ p (mark_kind b) (omega arith))

lexed_skip : (p n : ℕ) (bs : List ℕ) → lexed p n bs ≡ lexed (p + n) 0 (drop n bs)
unfolding lexed
lexed_skip p zero bs = ap (λ q. lexed q 0 bs) (sym (add-zero p))
lexed_skip p (suc n) [] = refl
lexed_skip p (suc n) (b ∷ bs) = lexed_skip (p + 1) n bs ∙ ap (λ q. lexed q 0 (drop n bs)) (omega arith)

module _ (p b : ℕ) (bs : List ℕ) where
  blank_front : is_blank b ≡ true → lexed p 0 (b ∷ bs) ≡ lexed (p + 1) 0 bs
  unfolding lexed
  blank_front e = cond-true (is_blank b) (lexed (p + 1) 0 bs) _ e

  item_front :
      is_blank b ≡ false
      → lexed p 0 (b ∷ bs) ≡ item_then (item p b (b ∷ bs)) (λ n. lexed (p + 1) (pred n) bs)
  unfolding lexed
  item_front e = cond-false (is_blank b) _ (item_then (item p b (b ∷ bs)) (λ n. lexed (p + 1) (pred n) bs)) e

-- the plan from place p on
module _ (plan : List ℕ) (p : ℕ) where
  pub at_blank : p < length plan → is_blank (get_or plan p 0) ≡ true → lexed_from p plan ≡ lexed_from (p + 1) plan
  at_blank h e = ap (lexed p 0) (drop_more plan p 0 h) ∙ blank_front p (get_or plan p 0) (drop (p + 1) plan) e

  -- the item there
  abbrev pub here : Item
  here = item p (get_or plan p 0) (drop p plan)

  split : p < length plan → here ≡ item p (get_or plan p 0) (get_or plan p 0 ∷ drop (p + 1) plan)
  split h = ap (item p (get_or plan p 0)) (drop_more plan p 0 h)

  pub here_within : p < length plan → (t : Token) → Ok t ≡ here → (1 ≤ t.length) × (p + t.length ≤ length plan)
  here_within h t e =
      let w = subst (Within (length (get_or plan p 0 ∷ drop (p + 1) plan))) (sym (e ∙ split h))
      (item_within p (get_or plan p 0) (drop (p + 1) plan)) in
      (w.0, omega (arith, w.1, length-drop (p + 1) plan))

  at_item :
      p < length plan → is_blank (get_or plan p 0) ≡ false
      → lexed_from p plan ≡ item_then here (λ n. lexed (p + 1) (pred n) (drop (p + 1) plan))
  at_item h e =
      ap (lexed p 0) (drop_more plan p 0 h) ∙ item_front p (get_or plan p 0) (drop (p + 1) plan) e
      ∙ ap (λ i. item_then i (λ n. lexed (p + 1) (pred n) (drop (p + 1) plan))) (sym (split h))

  behind_token : (n : ℕ) → 1 ≤ n → lexed (p + 1) (pred n) (drop (p + 1) plan) ≡ lexed_from (p + n) plan
  behind_token n some =
      lexed_skip (p + 1) (pred n) (drop (p + 1) plan)
      ∙ ap (lexed ((p + 1) + pred n) 0) (drop-drop (pred n) (p + 1) plan)
      ∙ ap (λ q. lexed_from q plan) (omega arith)

  pub end_there : length plan ≤ p → lexed_from p plan ≡ record { tokens = []; ending = end }
  unfolding lexed
  end_there h = ap (lexed p 0) (drop_all p plan h)

-- with the blanks at place p passed over
skip_blanks :
    (p : ℕ) (bs : List ℕ) → lexed (p + prefix_len is_blank bs) 0 (drop (prefix_len is_blank bs) bs) ≡ lexed p 0 bs
skip_blanks p [] = ap (λ q. lexed q 0 []) (add-zero p)
skip_blanks p (b ∷ bs) =
    cond_both (is_blank b) (1 + prefix_len is_blank bs) 0 (λ n. lexed (p + n) 0 (drop n (b ∷ bs)) ≡ lexed p 0 (b ∷ bs))
    (λ yes'. let on : 1 + prefix_len is_blank bs ≡ suc (prefix_len is_blank bs) = omega arith in
    ap₂ (λ q n. lexed q 0 (drop n (b ∷ bs))) (omega arith) on
    ∙ skip_blanks (p + 1) bs ∙ sym (blank_front p b bs yes'))
    (λ _. ap (λ q. lexed q 0 (b ∷ bs)) (add-zero p))

-- the blanks at place p end before place q
module _ (plan : List ℕ) (p q : ℕ) (h : q ≡ p + length (run is_blank (drop p plan))) where
  pub behind_blanks : lexed_from q plan ≡ lexed_from p plan
  behind_blanks =
      let n = prefix_len is_blank (drop p plan) in
      let at : q ≡ p + n = omega (arith, length-prefix_len is_blank (drop p plan)) in
      ap (λ k. lexed_from k plan) at ∙ ap (lexed (p + n) 0) (sym (drop-drop n p plan))
      ∙ skip_blanks p (drop p plan)

  pub no_blank_there : q < length plan → is_blank (get_or plan q 0) ≡ false
  no_blank_there lt =
      ap (λ k. is_blank (get_or plan k 0)) h ∙ sym (ap is_blank (get_or-drop p plan _ 0))
      ∙ run_behind is_blank (drop p plan) (omega (arith, length-drop p plan))

  pub blanks_within : p ≤ length plan → q ≤ length plan
  blanks_within lt = omega (arith, length_run_le is_blank (drop p plan), length-drop p plan)

-- the plan at an item
module _ (plan : List ℕ) (p : ℕ) (h : p < length plan) (e : is_blank (get_or plan p 0) ≡ false) where
  pub token_there :
      (t : Token) → Ok t ≡ here plan p
      → lexed_from p plan ≡ record {
        tokens = t ∷ (lexed_from (p + t.length) plan).tokens;
        ending = (lexed_from (p + t.length) plan).ending;
      }
  token_there t i =
      at_item plan p h e ∙ ap (λ r. item_then r (λ n. lexed (p + 1) (pred n) (drop (p + 1) plan))) (sym i)
      ∙ ap (λ s. record { tokens = t ∷ s.tokens; ending = s.ending })
      (behind_token plan p t.length (here_within plan p h t i).0)

  pub fault_there :
      (f : SourceFault) → Err f ≡ here plan p → lexed_from p plan ≡ record { tokens = []; ending = fault f }
  fault_there f i =
      at_item plan p h e ∙ ap (λ r. item_then r (λ n. lexed (p + 1) (pred n) (drop (p + 1) plan))) (sym i)
