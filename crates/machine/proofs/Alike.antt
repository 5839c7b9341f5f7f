-- A reading finds the actions and the landings that the machine without bounds finds.
use Rattle.std.proofs.Common.{◌≡◌, ℕ, ◌≤◌, Bool, true, false, leb, List, [], ◌∷◌, reverse, length, take, drop, Some, None, Ok, Err, Option, Result, sym, refl, ap, ◌∙◌, ap₂}
use Rattle.std.proofs.lemmas.List.{length-reverse, reverse-reverse}
use Rattle.std.proofs.lemmas.Bool.{leb-true}
use Rattle.syntax.specs.declared.Token.{Token}
use Rattle.syntax.specs.Grammar.{Rule, start}
use Rattle.table.specs.declared.Action.{Action}
use Rattle.table.specs.declared.Action.TheVariants.{Reject}
use Rattle.table.specs.Automaton.{Automaton}
use Rattle.theory.specs.Machine as free
use Rattle.theory.proofs.Clash.{clash}
use Rattle.theory.proofs.Symbols.{carry_reverse}
use Rattle.source.specs.declared.SourceFault.{SourceFault}
use Rattle.source.specs.Streams.{Ending, end, fault, Stream, next}
use Rattle.sink.specs.Stacks.{front, back}
use Rattle.machine.specs.Reading.{last_of, peeked, unless_default, found, landing_from}
use Rattle.machine.proofs.Turned.{front_turned, back_turned, last_turned}

-- END stands behind the tokens
abbrev pub ends : Ending → Bool
ends end = true
ends (fault f) = false

pub ends_true : (e : Ending) → ends e ≡ true → e ≡ end
ends_true end h = refl
ends_true (fault f) h = absurd (clash (cc))

-- what the machine without bounds makes of what was found
abbrev pub without_fault : Result Action SourceFault → Option Action
without_fault (Ok x) = Some x
without_fault (Err f) = None

abbrev pub stream_of : List Token → Ending → Stream
stream_of w e = record { tokens = w; ending = e }

module _ (M : Automaton) (s : ℕ) (e : Ending) (w : List Token) where
  pub found_alike : free.found M s (free.seen (ends e) w) ≡ without_fault (found M s (stream_of w e))
  found_alike = go (M.default s) e w
    where
      go : (d : Option ℕ) (e : Ending) (w : List Token) →
          free.unless_default d (free.looked (M.action s) (free.seen (ends e) w))
          ≡ without_fault (unless_default d (peeked (M.action s) (next w e)))
      go (Some p) e w = refl
      go None end [] = refl
      go None (fault f) [] = refl
      go None e (t ∷ w) = refl

  -- a fault that is found is the one behind the tokens
  pub found_fault : (f : SourceFault) → found M s (stream_of w e) ≡ Err f → e ≡ fault f
  found_fault f h = go (M.default s) e w h
    where
      go : (d : Option ℕ) (e : Ending) (w : List Token) → unless_default d (peeked (M.action s) (next w e)) ≡ Err f →
          e ≡ fault f
      go (Some p) e w h = absurd (clash (cc))
      go None end [] h = absurd (clash (cc))
      go None (fault g) [] h = ap fault (cc)
      go None e (t ∷ w) h = absurd (clash (cc))

  -- a rejection behind all tokens is of END
  pub found_reject : found M s (stream_of w e) ≡ Ok Reject → w ≡ [] → e ≡ end
  found_reject h none = go (M.default s) e w h none
    where
      go : (d : Option ℕ) (e : Ending) (w : List Token) →
          unless_default d (peeked (M.action s) (next w e)) ≡ Ok Reject → w ≡ [] → e ≡ end
      go (Some p) e w h none = absurd (clash (cc))
      go None end w h none = refl
      go None (fault g) [] h none = absurd (clash (cc))
      go None (fault g) (t ∷ w) h none = absurd (clash (cc))

pub landing_alike : (M : Automaton) (r : Rule) (ss : List ℕ) → landing_from M r (reverse ss) ≡ free.landing_of M r ss
landing_alike M r ss =
    ap (λ n. free.landing M r (leb k n) (back k (reverse ss)) (last_of (front k (reverse ss)))) (length-reverse ss)
    ∙ go (leb k (length ss)) refl
  where
    k : ℕ
    k = length r.right

    below : k ≤ length ss → last_of (front k (reverse ss)) ≡ free.current (drop k ss)
    below le = ap last_of (front_turned [] ss k le) ∙ last_turned (drop k ss)

    go : (b : Bool) → leb k (length ss) ≡ b →
        free.landing M r b (back k (reverse ss)) (last_of (front k (reverse ss)))
        ≡ free.landing M r b (reverse (take k ss)) (free.current (drop k ss))
    go true h =
        let le = leb-true k (length ss) h in
        ap₂ (λ top s. free.landing M r true top s) (back_turned [] ss k le) (below le)
    go false h = refl

-- one cell, which the start entered, is the same in either order
pub start_alike : (M : Automaton) (ss : List ℕ) → free.carry_start M (reverse ss) ≡ free.carry_start M ss
start_alike M ss = go (free.carry_start M (reverse ss)) refl (free.carry_start M ss) refl
  where
    turn : (ss : List ℕ) → free.carry_start M ss ≡ true → free.carry_start M (reverse ss) ≡ true
    turn ss h = carry_reverse M ss (start ∷ []) h

    go : (x : Bool) → free.carry_start M (reverse ss) ≡ x → (y : Bool) → free.carry_start M ss ≡ y → x ≡ y
    go true e true f = refl
    go false e false f = refl
    go false e true f = sym e ∙ turn ss f
    go true e false f =
        let back_again = ap (free.carry_start M) (sym (reverse-reverse ss)) in
        sym (turn (reverse ss) e) ∙ sym back_again ∙ f
