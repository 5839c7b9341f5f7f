-- What a run did with the tokens that it took it does on every text that goes on alike, and there rejects alike.
use Rattle.std.proofs.Common.{◌≡◌, ℕ, zero, suc, Bool, true, List, [], ◌∷◌, ◌++◌, length, Some, None, Ok, Err, Option, Result, sym, refl, ap, ◌∙◌, subst}
use Rattle.std.proofs.lemmas.List.{append_assoc, append-nil, append_cancel_right}
use Rattle.syntax.specs.declared.Token.{Token}
use Rattle.syntax.specs.Grammar.{Rule}
use Rattle.syntax.specs.Trees.{Makes}
use Rattle.syntax.specs.Values.{Algebra}
use Rattle.table.specs.declared.Action.{Action}
use Rattle.table.specs.declared.Action.TheVariants.{Shift, Reduce, Accept, Reject}
use Rattle.table.specs.Automaton.{Automaton}
use Rattle.theory.specs.Machine.{Core, core, Move, on, rejects, fresh, current, seen, found, landing_of, shift_to}
use Rattle.theory.specs.Machine.{land, reduce_by, perform, and_then, move, moves}
use Rattle.theory.specs.Theorems.{ReadsAll, RejectsTheHopeless}
use Rattle.theory.proofs.Clash.{clash}
use Rattle.theory.proofs.Moves.{first_move}
use Rattle.theory.proofs.Onward.{stops_there}
use Rattle.theory.proofs.View.{same_core, accept_stays, view_rejects}
use Rattle.table.specs.declared.Slip.{Slip}

-- the same sight behind the same tokens
seen_behind : (x : List Token) (a b : Bool) (r s : List Token) → seen a r ≡ seen b s →
    seen a (x ++ r) ≡ seen b (x ++ s)
seen_behind [] a b r s e = e
seen_behind (k ∷ x) a b r s e = refl

-- the same core with other tokens to come
abbrev pub with_rest : {V : Type 0} → Core V → List Token → Core V
with_rest c r = core c.cells c.values r

module _ {V : Type 0} (R : Algebra V) (M : Automaton) where
  -- a move went on from c to d: it took x, and f goes on likewise before any other tokens
  abbrev Replays : Core V → (List Token → Move V) → Core V → Type 0
  Replays c f d = (x : List Token) × (c.rest ≡ x ++ d.rest) × ((r : List Token) → f (x ++ r) ≡ on (with_rest d r))

  shift_replays : (t : ℕ) (ss : List ℕ) (vs : List V) (w : List Token) (d : Core V) → shift_to R t ss vs w ≡ on d →
      Replays (core ss vs w) (λ r. shift_to R t ss vs r) d
  shift_replays t ss vs [] d e = absurd (clash (cc))
  shift_replays t ss vs (k ∷ w) d e =
      let s = same_core _ d e in
      (k ∷ [], ap (λ b. k ∷ b.rest) s, λ r. ap (λ b. on (with_rest b r)) s)

  reduce_replays : (p : ℕ) (o : Option Rule) (c d : Core V) → reduce_by R M p o c ≡ on d →
      Replays c (λ r. reduce_by R M p o (with_rest c r)) d
  reduce_replays p None c d e = absurd (clash (cc))
  reduce_replays p (Some rule) c d e = go (landing_of M rule c.cells) e
    where
      go : (l : Result ℕ Slip) → land R p (length rule.right) c l ≡ on d →
          Replays c (λ r. land R p (length rule.right) (with_rest c r) l) d
      go (Err n) f = absurd (clash (cc))
      go (Ok t) f = let s = same_core _ d f in ([], ap (λ b. b.rest) s, λ r. ap (λ b. on (with_rest b r)) s)

  perform_replays : (c d : Core V) (o : Option Action) → perform R M c o ≡ on d →
      Replays c (λ r. perform R M (with_rest c r) o) d
  perform_replays c d None e = absurd (clash (cc))
  perform_replays c d (Some (Shift t)) e = shift_replays t c.cells c.values c.rest d e
  perform_replays c d (Some (Reduce p)) e = reduce_replays p (M.grammar p) c d e
  perform_replays c d (Some Accept) e = absurd (accept_stays M c.cells d e)
  perform_replays c d (Some Reject) e = absurd (clash (cc))

  -- n moves took x, and they are the same on any text that goes on behind x with the same sight
  pub record Replayed (ended : Bool) (n : ℕ) (c d : Core V) : Type 0 where
    pub taken : List Token
    pub rest_is : c.rest ≡ taken ++ d.rest
    pub again : (ended' : Bool) (r : List Token) → seen ended' r ≡ seen ended d.rest →
        moves R M ended' n (with_rest c (taken ++ r)) ≡ on (with_rest d r)

  pub replayed : (ended : Bool) (n : ℕ) (c d : Core V) → moves R M ended n c ≡ on d → Replayed ended n c d
  replayed ended zero c d e =
      let s = same_core c d e in
      record { taken = []; rest_is = ap (λ b. b.rest) s; again = λ ended' r f. ap (λ b. on (with_rest b r)) s }
  replayed ended (suc n) c d e =
      let (b, f, g) = first_move R M ended n c d e in
      let s = current c.cells in
      let (x, is, same) = perform_replays c b (found M s (seen ended c.rest)) f in
      let P = replayed ended n b d g in
      let y = P.taken in
      let whole = is ∙ ap (λ z. x ++ z) P.rest_is in
      record {
        taken = x ++ y;
        rest_is = whole ∙ sym (append_assoc x y d.rest);
        again = λ ended' r h.
            let soon = seen_behind y ended' ended r d.rest h in
            let sight = seen_behind x ended' ended (y ++ r) (y ++ d.rest) soon in
            let here = ap (found M s) (sight ∙ ap (seen ended) (sym whole)) in
            let first = ap (perform R M (with_rest c (x ++ (y ++ r)))) here ∙ same (y ++ r) in
            let regroup = ap (λ z. moves R M ended' (suc n) (with_rest c z)) (append_assoc x y r) in
            regroup ∙ ap (λ m. and_then m (λ z. moves R M ended' n z)) first ∙ P.again ended' r h;
      }

module _ {V : Type 0} (R : Algebra V) (M : Automaton) (all : ReadsAll R M) where
  -- with the same sight behind what was taken, no text is made
  refused : (ended : Bool) (n : ℕ) (u r : List Token) (c : Core V) → moves R M ended n (fresh (u ++ r)) ≡ on c →
      c.rest ≡ r → move R M ended c ≡ rejects → (v : List Token) → seen true v ≡ seen ended r →
      Makes M.grammar (u ++ v) → ⊥
  refused ended n u r c e er rejects-it v sight (t, o) =
      let P = replayed R M ended n (fresh (u ++ r)) c e in
      let same = append_cancel_right u P.taken r (P.rest_is ∙ ap (λ z. P.taken ++ z) er) in
      let sight' = sight ∙ ap (seen ended) (sym er) in
      let run = ap (λ z. moves R M true n (fresh (z ++ v))) same ∙ P.again true v sight' in
      let s = current c.cells in
      let d = with_rest c v in
      let found_it = ap (found M s) sight' ∙ view_rejects R M ended c rejects-it in
      let rejected : move R M true d ≡ rejects = ap (perform R M d) found_it in
      let accepted = (stops_there R M all (u ++ v) t o n d run (λ x g. clash (cc))).1 in
      clash (cc)

pub rejects_the_hopeless : (V : Type 0) → RejectsTheHopeless V
rejects_the_hopeless V M R all ended n u r c e er rejects-it =
    let none = refused R M all ended n u r c e er rejects-it in
    record {
      token_refused = λ k w is l v same m.
          none (l ∷ v) (ap {B = Option ℕ} Some same ∙ ap (seen ended) (sym is)) m;
      end_refused = λ is_ended is m.
          none [] (ap (λ b. seen b []) (sym is_ended) ∙ ap (seen ended) (sym is))
          (subst (Makes M.grammar) (sym (append-nil u)) m);
    }
