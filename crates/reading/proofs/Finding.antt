-- What is found to do is what the machine finds.
use Rattle.std.proofs.Common.{◌≡◌, ℕ, List, [], ◌∷◌, Some, None, Ok, Err, Option, Result, refl}
use Rattle.syntax.specs.declared.Token.{Token}
use Rattle.syntax.specs.Values.{Algebra}
use Rattle.table.specs.declared.Action.{Action}
use Rattle.table.specs.declared.Action.TheVariants.{Reduce}
use Rattle.table.specs.Automaton.{Automaton}
use Rattle.theory.proofs.Clash.{clash}
use Rattle.source.specs.declared.SourceFault.{SourceFault}
use Rattle.source.specs.Streams.{Stream, Ending, end, fault, answer, next}
use Rattle.machine.specs.Reading.{State, found, peeked, unless_default as unless_found, shifting}
use Rattle.reading.specs.declared.steps.Found.{Found}
use Rattle.reading.specs.Steps.{listed, seen, unless_default, finding}

-- the next token, if one is to come
abbrev pub first : List Token → Option Token
first [] = None
first (t ∷ ts) = Some t

module _ (act : ℕ → Action) where
  found_by : (x : Found) (o : Option ℕ) (a : Result (Option Token) SourceFault) → Ok x ≡ unless_default o (seen act a) →
      unless_found o (peeked act a) ≡ Ok x.action
  found_by x None (Err f) e = absurd (clash (cc))
  found_by x None (Ok None) e = let same : x ≡ record { action = act 0; next = None } = cc in cc
  found_by x None (Ok (Some t)) e = let same : x ≡ record { action = act t.kind; next = Some t } = cc in cc
  found_by x (Some p) a e = let same : x ≡ record { action = Reduce p; next = None } = cc in cc

  next_by : (x : Found) (o : Option ℕ) (ts : List Token) (n : Ending) → Ok x ≡ unless_default o (seen act (next ts n)) →
      ((p : ℕ) → x.action ≡ Reduce p → ⊥) → x.next ≡ first ts
  next_by x None [] end e not_reduce = let same : x ≡ record { action = act 0; next = None } = cc in cc
  next_by x None [] (fault f) e not_reduce = absurd (clash (cc))
  next_by x None (t ∷ ts) n e not_reduce = let same : x ≡ record { action = act t.kind; next = Some t } = cc in cc
  next_by x (Some p) ts n e not_reduce =
      let same : x ≡ record { action = Reduce p; next = None } = cc in absurd (not_reduce p (cc))

module _ (M : Automaton) (s : ℕ) (stream : Stream) where
  -- an action
  pub action_found : (x : Found) → Ok x ≡ finding M s stream → found M s stream ≡ Ok x.action
  action_found x e = found_by (M.action s) x (M.default s) (answer stream) e

  -- unless it is a reduce, it was found on the next token
  pub next_found : (x : Found) → Ok x ≡ finding M s stream → ((p : ℕ) → x.action ≡ Reduce p → ⊥) →
      x.next ≡ first stream.tokens
  next_found x e not_reduce = next_by (M.action s) x (M.default s) stream.tokens stream.ending e not_reduce

pub shift_first : {V : Type 0} (R : Algebra V) (to : ℕ) (r : State V) (ts : List Token) →
    shifting R to r (listed (first ts)) ≡ shifting R to r ts
shift_first R to r [] = refl
shift_first R to r (t ∷ ts) = refl
