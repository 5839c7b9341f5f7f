-- What holds of each entry of the practice table and its hints holds of all there is.
use Rattle.std.proofs.Common.{◌≡◌, ℕ, zero, suc, Bool, true, false, cond, ◌&&◌, eqb, List, [], ◌∷◌, drop, Some, sym, refl, ap, ◌∙◌, subst, subst₂, inl, inr}
use Rattle.std.proofs.lemmas.Bool.{eqb-true, and_parts}
use Rattle.syntax.specs.declared.Symbol.{Symbol}
use Rattle.syntax.specs.declared.Symbol.TheVariants.{Terminal, Nonterminal}
use Rattle.syntax.specs.Grammar.{Rule}
use Rattle.table.specs.declared.Action.TheVariants.{Shift, Reduce, Accept}
use Rattle.table.specs.Hints.{Set, Occupied, added, right_side, Behind}
use Rattle.table.specs.Safety.{Edge, Reduces}
use Rattle.theory.specs.Practice.{empty_rule, longer_rule, rules, entries, defaults, actions, gotos, practice}
use Rattle.theory.specs.Practice.{ItemRow, at_end, anywhere, items, looks_in}
use Rattle.theory.proofs.Clash.{clash, some_some, none_some}

pub each_rule : (P : ℕ → Rule → Type 0) → P 0 empty_rule → P 1 longer_rule →
    (p : ℕ) (r : Rule) → rules p ≡ Some r → P p r
each_rule P x y zero r e = subst (P 0) (some_some e) x
each_rule P x y (suc zero) r e = subst (P 1) (some_some e) y
each_rule P x y (suc (suc p)) r e = absurd (none_some e)

pub each_entry : (P : ℕ → Symbol → Type 0) → P 1 (Nonterminal 0) → P 2 (Terminal 1) →
    (s : ℕ) (X : Symbol) → entries s ≡ Some X → P s X
each_entry P x y zero X e = absurd (none_some e)
each_entry P x y (suc zero) X e = subst (P 1) (some_some e) x
each_entry P x y (suc (suc zero)) X e = subst (P 2) (some_some e) y
each_entry P x y (suc (suc (suc s))) X e = absurd (none_some e)

pub each_default : (P : ℕ → ℕ → Type 0) → P 0 0 → P 2 1 → (s p : ℕ) → defaults s ≡ Some p → P s p
each_default P x y zero p e = subst (P 0) (some_some e) x
each_default P x y (suc zero) p e = absurd (none_some e)
each_default P x y (suc (suc zero)) p e = subst (P 2) (some_some e) y
each_default P x y (suc (suc (suc s))) p e = absurd (none_some e)

pub each_goto : (P : ℕ → ℕ → ℕ → Type 0) → P 0 0 1 → (s n t : ℕ) → gotos s n ≡ Some t → P s n t
each_goto P x zero zero t e = subst (P 0 0) (some_some e) x
each_goto P x zero (suc n) t e = absurd (none_some e)
each_goto P x (suc s) n t e = absurd (none_some e)

pub each_shift : (P : ℕ → ℕ → ℕ → Type 0) → P 1 1 2 → (s a t : ℕ) → actions s a ≡ Shift t → P s a t
each_shift P x zero a t e = absurd (clash (cc))
each_shift P x (suc zero) zero t e = absurd (clash (cc))
each_shift P x (suc zero) (suc zero) t e = subst (P 1 1) (cc) x
each_shift P x (suc zero) (suc (suc a)) t e = absurd (clash (cc))
each_shift P x (suc (suc s)) a t e = absurd (clash (cc))

pub each_accept : (P : ℕ → ℕ → Type 0) → P 1 0 → (s a : ℕ) → actions s a ≡ Accept → P s a
each_accept P x zero a e = absurd (clash (cc))
each_accept P x (suc zero) zero e = x
each_accept P x (suc zero) (suc zero) e = absurd (clash (cc))
each_accept P x (suc zero) (suc (suc a)) e = absurd (clash (cc))
each_accept P x (suc (suc s)) a e = absurd (clash (cc))

pub no_reduce : (s a p : ℕ) → actions s a ≡ Reduce p → ⊥
no_reduce zero a p e = clash (cc)
no_reduce (suc zero) zero p e = clash (cc)
no_reduce (suc zero) (suc zero) p e = clash (cc)
no_reduce (suc zero) (suc (suc a)) p e = clash (cc)
no_reduce (suc (suc s)) a p e = clash (cc)

pub each_edge : (P : ℕ → ℕ → Type 0) → P 1 2 → P 0 1 → (s t : ℕ) → Edge practice s t → P s t
each_edge P x y s t (inl (a, e)) = each_shift (λ s a t. P s t) x s a t e
each_edge P x y s t (inr (n, e)) = each_goto (λ s n t. P s t) y s n t e

pub each_reduce : (P : ℕ → Rule → Type 0) → P 0 empty_rule → P 2 longer_rule →
    (s p : ℕ) (r : Rule) → Reduces practice s p → rules p ≡ Some r → P s r
each_reduce P x y s p r (inl e) k =
    each_default (λ s p. (r : Rule) → rules p ≡ Some r → P s r) (λ r k. subst (P 0) (some_some k) x)
    (λ r k. subst (P 2) (some_some k) y) s p e r k
each_reduce P x y s p r (inr (a, e)) k = absurd (no_reduce s a p e)

-- items

abbrev Each : (ℕ → ℕ → ℕ → Set → Type 0) → List ItemRow → Type 0
Each P [] = Unit {0}
Each P (i ∷ is) = P i.state i.production i.dot i.looks × Each P is

each_in : (P : ℕ → ℕ → ℕ → Set → Type 0) (is : List ItemRow) → Each P is → (s p d : ℕ) → Occupied (looks_in is s p d) →
    P s p d (looks_in is s p d)
each_in P [] E s p d (a, h) = absurd h
each_in P (i ∷ is) E s p d o =
    go (eqb i.state s && (eqb i.production p && eqb i.dot d)) refl o (each_in P is E.1 s p d)
  where
    go : (b : Bool) → (eqb i.state s && (eqb i.production p && eqb i.dot d)) ≡ b →
        Occupied (cond b i.looks (looks_in is s p d)) →
        (Occupied (looks_in is s p d) → P s p d (looks_in is s p d)) → P s p d (cond b i.looks (looks_in is s p d))
    go true h o' others =
        let (x, yz) = and_parts (eqb i.state s) (eqb i.production p && eqb i.dot d) h in
        let (y, z) = and_parts (eqb i.production p) (eqb i.dot d) yz in
        let at_state = subst (λ s'. P s' i.production i.dot i.looks) (eqb-true i.state s x) E.0 in
        subst₂ (λ p' d'. P s p' d' i.looks) (eqb-true i.production p y) (eqb-true i.dot d z) at_state
    go false h o' others = others o'

pub each_item : (P : ℕ → ℕ → ℕ → Set → Type 0) → P 0 0 0 anywhere → P 0 1 0 anywhere → P 0 added 0 at_end →
    P 1 1 1 anywhere → P 1 added 1 at_end → P 2 1 2 anywhere →
    (s p d : ℕ) → Occupied (looks_in items s p d) → P s p d (looks_in items s p d)
each_item P a b c d e f = each_in P items (a, (b, (c, (d, (e, (f, tt))))))

-- what stands behind the dot
pub behind : (α γ : List Symbol) (p d : ℕ) → right_side rules p ≡ Some α → Behind rules p d γ → drop d α ≡ γ
behind α γ p d e (β, rs, dr) = ap (drop d) (some_some (sym e ∙ rs)) ∙ dr
