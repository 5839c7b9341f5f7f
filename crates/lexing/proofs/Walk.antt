-- One step of the walk over a plan: the blanks at place p are passed, and then there is END, a fault or a token.
use Rattle.std.proofs.Common.{◌≡◌, ℕ, ◌+◌, ◌-◌, ◌<◌, ◌≤◌, true, List, [], ◌∷◌, length, get_or, take, drop, Ok, Err, sym, ap, ◌∙◌, add-zero, arith}
use Rattle.std.proofs.lemmas.List.{take_rest, get_or-drop}
use Rattle.syntax.specs.declared.Token.{Token}
use Rattle.source.specs.declared.SourceFault.{SourceFault}
use Rattle.source.specs.Streams.{Stream, end, fault, answer}
use Rattle.streams.specs.Listed.{is_kind}
use Rattle.streams.proofs.Kinding.{answer_kind}
use Rattle.lexing.specs.Plans.{is_blank, run, item, lexed_from}
use Rattle.lexing.proofs.Lexed.{
  here,
  here_within,
  end_there,
  token_there,
  fault_there,
  behind_blanks,
  no_blank_there,
}
use Rattle.lexing.proofs.Lexkinds.{lexed_kinded}

-- the bytes from place p on, as a cut gives them
abbrev rest : List ℕ → ℕ → List ℕ
rest plan p = take (length plan - p) (drop p plan)

same_item : (plan : List ℕ) (p : ℕ) → item p (get_or (rest plan p) 0 0) (rest plan p) ≡ here plan p
same_item plan p =
    ap (λ bs. item p (get_or bs 0 0) bs) (take_rest plan p)
    ∙ ap (λ b. item p b (drop p plan)) (get_or-drop p plan 0 0 ∙ ap (λ k. get_or plan k 0) (add-zero p))

-- the blanks at place p end before place q
module _ (plan : List ℕ) (p q : ℕ) (h : q ≡ p + length (run is_blank (rest plan p))) where
  at : q ≡ p + length (run is_blank (drop p plan))
  at = h ∙ ap (λ bs. p + length (run is_blank bs)) (take_rest plan p)

  at_place : (s : Stream) → lexed_from q plan ≡ s → s ≡ lexed_from p plan
  at_place s there = sym there ∙ behind_blanks plan p q at

  pub end_behind : q ≡ length plan → record { tokens = []; ending = end } ≡ lexed_from p plan
  end_behind e = at_place _ (end_there plan q (omega arith))

  module _ (lt : q < length plan) where
    pub fault_behind :
        (f : SourceFault) → Err f ≡ item q (get_or (rest plan q) 0 0) (rest plan q)
        → record { tokens = []; ending = fault f } ≡ lexed_from p plan
    fault_behind f i = at_place _ (fault_there plan q lt (no_blank_there plan p q at lt) f (i ∙ same_item plan q))

    module _ (t : Token) (i : Ok t ≡ item q (get_or (rest plan q) 0 0) (rest plan q)) where
      pub token_fits : q + t.length ≤ length plan
      token_fits = (here_within plan q lt t (i ∙ same_item plan q)).1

      pub token_behind :
          record {
            tokens = t ∷ (lexed_from (q + t.length) plan).tokens;
            ending = (lexed_from (q + t.length) plan).ending;
          } ≡ lexed_from p plan
      token_behind = at_place _ (token_there plan q lt (no_blank_there plan p q at lt) t (i ∙ same_item plan q))

      pub token_kind : is_kind t.kind ≡ true
      token_kind = answer_kind (lexed_from p plan) t (lexed_kinded p plan) (ap answer token_behind)
