-- What a move did: the facts that a proof about the machine starts from.
use Rattle.std.proofs.Common.{◌≡◌, ℕ, Bool, true, false, cond, leb, ◌⊎◌, List, [], ◌∷◌, reverse, length, take, drop, Some, None, Ok, Err, Option, Result, sym, refl, ap, ◌∙◌, subst, inl, inr}
use Rattle.syntax.specs.declared.Token.{Token}
use Rattle.syntax.specs.Grammar.{Rule}
use Rattle.syntax.specs.Values.{Algebra}
use Rattle.table.specs.declared.Action.{Action}
use Rattle.table.specs.declared.Action.TheVariants.{Shift, Reduce, Accept, Reject}
use Rattle.table.specs.Automaton.{Automaton}
use Rattle.table.specs.Safety.{Reduces}
use Rattle.theory.specs.Machine.{Core, core, Move, on, accepts, rejects, slips, starves, current, seen, looked}
use Rattle.theory.specs.Machine.{unless_default, found, carry, carry_start, landed, landing_of, shift_to}
use Rattle.theory.specs.Machine.{with_node, land, reduce_by, accept_with, perform, move, and_then}
use Rattle.theory.proofs.Clash.{clash, some_some, none_some}
use Rattle.table.specs.declared.Slip.{Slip}
use Rattle.table.specs.declared.Slip.TheVariants.{FewCells, WrongSymbol, AtEnd}

-- moves

module _ {V : Type 0} where
  pub same_core : (c d : Core V) → on c ≡ on d → c ≡ d
  same_core c d e = cc

  pub first_on : (m : Move V) (f : Core V → Move V) (d : Core V) → and_then m f ≡ on d →
      (c : Core V) × (m ≡ on c) × (f c ≡ on d)
  first_on (on c) f d e = (c, refl, e)
  first_on accepts f d e = absurd (clash (cc))
  first_on rejects f d e = absurd (clash (cc))
  first_on (slips k) f d e = absurd (clash (cc))
  first_on starves f d e = absurd (clash (cc))

  -- an accept goes nowhere
  pub accept_stays : (M : Automaton) (ss : List ℕ) (d : Core V) → accept_with M ss ≡ on d → ⊥
  accept_stays M ss d e = go (carry_start M ss) e
    where
      go : (b : Bool) → ◌≡◌ {A = Move V} (cond b accepts (slips AtEnd)) (on d) → ⊥
      go true h = clash (cc)
      go false h = clash (cc)

-- where an action was found

module _ (M : Automaton) (s : ℕ) (sight : Option ℕ) where
  -- by default, or on what was seen
  abbrev Origin : Action → Type 0
  Origin x = ((p : ℕ) × (M.default s ≡ Some p) × (x ≡ Reduce p)) ⊎ ((a : ℕ) × (sight ≡ Some a) × (M.action s a ≡ x))

  origin : (x : Action) → found M s sight ≡ Some x → Origin x
  origin x e = go (M.default s) refl sight refl e
    where
      go : (d : Option ℕ) → M.default s ≡ d → (o : Option ℕ) → sight ≡ o →
          unless_default d (looked (M.action s) o) ≡ Some x → Origin x
      go (Some p) f o g h = inl (p, f, sym (some_some h))
      go None f None g h = absurd (none_some h)
      go None f (Some a) g h = inr (a, g, some_some h)

  pub found_reduce : (p : ℕ) → found M s sight ≡ Some (Reduce p) → Reduces M s p
  found_reduce p e = go (origin (Reduce p) e)
    where
      go : Origin (Reduce p) → Reduces M s p
      go (inl (q, f, h)) = inl (f ∙ ap {B = Option ℕ} Some (cc))
      go (inr (a, f, h)) = inr (a, h)

  -- any other action was found on what was seen
  pub found_seen : (x : Action) → ((p : ℕ) → x ≡ Reduce p → ⊥) → found M s sight ≡ Some x →
      (a : ℕ) × (sight ≡ Some a) × (M.action s a ≡ x)
  found_seen x other e = go (origin x e)
    where
      go : Origin x → (a : ℕ) × (sight ≡ Some a) × (M.action s a ≡ x)
      go (inl (p, f, h)) = absurd (other p h)
      go (inr seen-it) = seen-it

-- what a landing found

pub record Landed (M : Automaton) (r : Rule) (ss : List ℕ) (t : ℕ) : Type 0 where
  pub enough : leb (length r.right) (length ss) ≡ true
  pub carried : carry M (reverse (take (length r.right) ss)) r.right ≡ true
  pub goes : M.goto (current (drop (length r.right) ss)) r.left ≡ Some t

pub has_landed : (M : Automaton) (r : Rule) (ss : List ℕ) (t : ℕ) → landing_of M r ss ≡ Ok t → Landed M r ss t
has_landed M r ss t e =
    let k = length r.right in
    let top = reverse (take k ss) in
    let (b, c, g) = go (leb k (length ss)) (carry M top r.right) (M.goto (current (drop k ss)) r.left) e in
    record { enough = b; carried = c; goes = g }
  where
    go : (b c : Bool) (g : Option ℕ) → cond b (cond c (landed g) (Err WrongSymbol)) (Err FewCells) ≡ Ok t →
        (b ≡ true) × (c ≡ true) × (g ≡ Some t)
    go true true None h = absurd (clash (cc))
    go true true (Some u) h = (refl, refl, ap {B = Option ℕ} Some (cc))
    go true false g h = absurd (clash (cc))
    go false c g h = absurd (clash (cc))

pub lands : (M : Automaton) (r : Rule) (ss : List ℕ) (t : ℕ) → Landed M r ss t → landing_of M r ss ≡ Ok t
lands M r ss t l = simp (l.enough, l.carried, l.goes)

-- what a move that went on did, and what an accepting one saw

module _ {V : Type 0} (R : Algebra V) (M : Automaton) where
  pub record Shifted (c d : Core V) : Type 0 where
    pub token : Token
    pub others : List Token
    pub into : ℕ
    pub rest_is : c.rest ≡ token ∷ others
    pub acts : M.action (current c.cells) token.kind ≡ Shift into
    pub now_is : d ≡ core (into ∷ c.cells) (R.leaf_rule token ∷ c.values) others

  pub record Reduced (c d : Core V) : Type 0 where
    pub number : ℕ
    pub rule : Rule
    pub into : ℕ
    pub reduces : Reduces M (current c.cells) number
    pub known : M.grammar number ≡ Some rule
    pub landed : Landed M rule c.cells into
    pub now_is : d ≡ with_node R number (length rule.right) into c

  pub record Accepted (ended : Bool) (c : Core V) : Type 0 where
    pub sight : ℕ
    pub sees : seen ended c.rest ≡ Some sight
    pub acts : M.action (current c.cells) sight ≡ Accept
    pub carried : carry_start M c.cells ≡ true

  module _ (ended : Bool) (c : Core V) where
    abbrev pub Finds : Action → Type 0
    Finds x = found M (current c.cells) (seen ended c.rest) ≡ Some x

    found_here : (x : Action) → ((p : ℕ) → x ≡ Reduce p → ⊥) → Finds x →
        (a : ℕ) × (seen ended c.rest ≡ Some a) × (M.action (current c.cells) a ≡ x)
    found_here x other e = found_seen M (current c.cells) (seen ended c.rest) x other e

    shifted : (d : Core V) (t : ℕ) → Finds (Shift t) → shift_to R t c.cells c.values c.rest ≡ on d →
        Shifted c d
    shifted d t e h = go c.rest refl (found_here (Shift t) (λ p f. clash (cc)) e) h
      where
        go : (w : List Token) → c.rest ≡ w →
            (a : ℕ) × (seen ended c.rest ≡ Some a) × (M.action (current c.cells) a ≡ Shift t) →
            shift_to R t c.cells c.values w ≡ on d → Shifted c d
        go [] r o g = absurd (clash (cc))
        go (k ∷ w) r (a, f, act) g =
            let same : k.kind ≡ a = some_some (ap (seen ended) (sym r) ∙ f) in
            record {
              token = k;
              others = w;
              into = t;
              rest_is = r;
              acts = ap (M.action (current c.cells)) same ∙ act;
              now_is = sym (same_core _ d g);
            }

    reduced : (d : Core V) (p : ℕ) → Finds (Reduce p) → reduce_by R M p (M.grammar p) c ≡ on d → Reduced c d
    reduced d p e h = go (M.grammar p) refl h
      where
        by : (r : Rule) → M.grammar p ≡ Some r → (l : Result ℕ Slip) → landing_of M r c.cells ≡ l →
            land R p (length r.right) c l ≡ on d → Reduced c d
        by r k (Err n) f g = absurd (clash (cc))
        by r k (Ok t) f g = record {
          number = p;
          rule = r;
          into = t;
          reduces = found_reduce M (current c.cells) (seen ended c.rest) p e;
          known = k;
          landed = has_landed M r c.cells t f;
          now_is = sym (same_core _ d g);
        }

        go : (o : Option Rule) → M.grammar p ≡ o → reduce_by R M p o c ≡ on d → Reduced c d
        go None k g = absurd (clash (cc))
        go (Some r) k g = by r k (landing_of M r c.cells) refl g

    pub view_on : (d : Core V) → move R M ended c ≡ on d → Shifted c d ⊎ Reduced c d
    view_on d h = go (found M (current c.cells) (seen ended c.rest)) refl h
      where
        go : (o : Option Action) → found M (current c.cells) (seen ended c.rest) ≡ o → perform R M c o ≡ on d →
            Shifted c d ⊎ Reduced c d
        go None e g = absurd (clash (cc))
        go (Some (Shift t)) e g = inl (shifted d t e g)
        go (Some (Reduce p)) e g = inr (reduced d p e g)
        go (Some Accept) e g = absurd (accept_stays M c.cells d g)
        go (Some Reject) e g = absurd (clash (cc))

    accepted : Finds Accept → accept_with {V = V} M c.cells ≡ accepts → Accepted ended c
    accepted e h =
        let (a, f, act) = found_here Accept (λ p g. clash (cc)) e in
        record { sight = a; sees = f; acts = act; carried = go (carry_start M c.cells) h }
      where
        go : (b : Bool) → ◌≡◌ {A = Move V} (cond b accepts (slips AtEnd)) accepts → b ≡ true
        go true g = refl
        go false g = absurd (clash (cc))

-- a shift or a reduce goes on or slips

module _ {V : Type 0} where
  abbrev pub Works : Move V → Type 0
  Works (on c) = Unit {0}
  Works accepts = ⊥
  Works rejects = ⊥
  Works (slips k) = Unit {0}
  Works starves = ⊥

module _ {V : Type 0} (R : Algebra V) (M : Automaton) where
  pub shift_works : (t : ℕ) (ss : List ℕ) (vs : List V) (w : List Token) → Works (shift_to R t ss vs w)
  shift_works t ss vs [] = tt
  shift_works t ss vs (k ∷ w) = tt

  pub reduce_works : (p : ℕ) (o : Option Rule) (c : Core V) → Works (reduce_by R M p o c)
  reduce_works p None c = tt
  reduce_works p (Some r) c = go (landing_of M r c.cells)
    where
      go : (l : Result ℕ Slip) → Works (land R p (length r.right) c l)
      go (Ok t) = tt
      go (Err n) = tt

  module _ (ended : Bool) (c : Core V) where
    pub view_accepts : move R M ended c ≡ accepts → Accepted R M ended c
    view_accepts h = go (found M (current c.cells) (seen ended c.rest)) refl h
      where
        go : (o : Option Action) → found M (current c.cells) (seen ended c.rest) ≡ o →
            perform R M c o ≡ accepts → Accepted R M ended c
        go None e g = absurd (clash (cc))
        go (Some (Shift t)) e g = absurd (subst Works g (shift_works t c.cells c.values c.rest))
        go (Some (Reduce p)) e g = absurd (subst Works g (reduce_works p (M.grammar p) c))
        go (Some Accept) e g = accepted R M ended c e g
        go (Some Reject) e g = absurd (clash (cc))

    pub view_rejects : move R M ended c ≡ rejects → Finds R M ended c Reject
    view_rejects h = go (found M (current c.cells) (seen ended c.rest)) refl h
      where
        by : (b : Bool) → ◌≡◌ {A = Move V} (cond b accepts (slips AtEnd)) rejects → ⊥
        by true g = clash (cc)
        by false g = clash (cc)

        go : (o : Option Action) → found M (current c.cells) (seen ended c.rest) ≡ o →
            perform R M c o ≡ rejects → Finds R M ended c Reject
        go None e g = absurd (clash (cc))
        go (Some (Shift t)) e g = absurd (subst Works g (shift_works t c.cells c.values c.rest))
        go (Some (Reduce p)) e g = absurd (subst Works g (reduce_works p (M.grammar p) c))
        go (Some Accept) e g = absurd (by (carry_start M c.cells) g)
        go (Some Reject) e g = e
