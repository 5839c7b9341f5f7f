-- The machine reads every tree: by induction on trees and forests together.
use Rattle.std.proofs.Common.{◌≡◌, ℕ, zero, suc, ◌+◌, ◌≤◌, Bool, true, false, cond, ◌≢◌, List, [], ◌∷◌, ◌++◌, reverse, length, take, drop, Some, None, Ok, Err, Option, Result, sym, refl, ap, ◌∙◌, subst, add-zero, add_comm, arith}
use mathlib.Core.List.{reverse_aux, reverse_aux-eq}
use Rattle.std.proofs.lemmas.List.{drop_at, take_at, drop-drop, drop_all, length-reverse, reverse-reverse, append_assoc, append-nil}
use Rattle.std.proofs.lemmas.Bool.{ne_eqb}
use Rattle.syntax.specs.declared.Token.{Token}
use Rattle.syntax.specs.declared.Symbol.{Symbol}
use Rattle.syntax.specs.declared.Symbol.TheVariants.{Terminal, Nonterminal}
use Rattle.syntax.specs.Grammar.{Rule, start}
use Rattle.syntax.specs.Trees.{Tree, leaf, node, Forest, no_tree, tree_then, Of, OfAll, text, texts}
use Rattle.syntax.specs.Trees.{size, sizes, reach, reaches}
use Rattle.syntax.specs.Values.{Algebra, read, reads}
use Rattle.table.specs.declared.Action.{Action}
use Rattle.table.specs.declared.Action.TheVariants.{Shift, Reduce, Accept}
use Rattle.table.specs.Automaton.{Automaton, decide}
use Rattle.table.specs.Lawful.{Lawful}
use Rattle.table.specs.Hints.{◌∈◌, Hints, added, right_side, Behind}
use Rattle.table.specs.Completeness.{Complete, Item, OneDotOn, wanted}
use Rattle.theory.specs.Machine.{Core, core, Move, on, accepts, slips, fresh, current, seen, found, carry_start}
use Rattle.theory.specs.Machine.{landing_of, with_node, land, reduce_by, perform, move, moves, Leads}
use Rattle.theory.specs.Theorems.{NoSlips, ReadsEveryTree}
use Rattle.theory.proofs.Firsts.{next, forest_wanted}
use Rattle.theory.proofs.Moves.{moves_more, leads_moves, leads_add, leads_more}
use Rattle.theory.proofs.View.{has_landed}
use Rattle.table.specs.declared.Slip.{Slip}
use Rattle.table.specs.declared.Slip.TheVariants.{AtEnd}

-- lists

drop_aux : {A : Type 0} (xs ys : List A) (k : ℕ) → length xs ≡ k → drop k (reverse_aux xs ys) ≡ ys
drop_aux xs ys k e = rw (reverse_aux-eq xs ys) (drop_at (reverse xs) ys k (length-reverse xs ∙ e))

take_aux : {A : Type 0} (xs ys : List A) (k : ℕ) → length xs ≡ k → reverse (take k (reverse_aux xs ys)) ≡ xs
take_aux xs ys k e = rw (reverse_aux-eq xs ys, take_at (reverse xs) ys k (length-reverse xs ∙ e)) (reverse-reverse xs)

drop_step : {A : Type 0} (d : ℕ) (xs : List A) (x : A) (ys : List A) → drop d xs ≡ x ∷ ys → drop (d + 1) xs ≡ ys
drop_step d xs x ys e = sym (drop-drop 1 d xs) ∙ ap (drop 1) e

-- what is found where a token or END comes next

found_next : (M : Automaton) (s : ℕ) (w : List Token) → found M s (seen true w) ≡ Some (decide M s (next w))
found_next M s w = go (M.default s) refl w
  where
    go : (o : Option ℕ) → M.default s ≡ o → (v : List Token) → found M s (seen true v) ≡ Some (decide M s (next v))
    go None e [] = rw e refl
    go None e (k ∷ v) = rw e refl
    go (Some p) e v = rw e refl

-- productions

module _ {states : ℕ} (M : Automaton) (law : Lawful states M) (p : ℕ) (r : Rule) (e : M.grammar p ≡ Some r) where
  not_added : p ≢ added
  not_added f = let few = (law.rules p r e).number in omega arith

  known_right : right_side M.grammar p ≡ Some r.right
  known_right = rw (ne_eqb p added not_added, e)

module _ {V : Type 0} (R : Algebra V) (M : Automaton) where
  move_by : (ss : List ℕ) (vs : List V) (w : List Token) (x : Action) → decide M (current ss) (next w) ≡ x →
      move R M true (core ss vs w) ≡ perform R M (core ss vs w) (Some x)
  move_by ss vs w x e =
      ap (perform R M (core ss vs w)) (found_next M (current ss) w ∙ ap {B = Option Action} Some e)

  abbrev Reachable : Core V → Type 0
  Reachable c = (n : ℕ) × (w : List Token) × (moves R M true n (fresh w) ≡ on c)

  reachable_leads : (L n : ℕ) (c d : Core V) → Reachable c → Leads R M L true n c d → Reachable d
  reachable_leads L zero c d r l = subst Reachable l r
  reachable_leads L (suc n) c d (m, w, e) (b, f, h, l) =
      reachable_leads L n b d (m + 1, w, moves_more R M true m (fresh w) c (on b) e f) l

  -- k values that are on top become a node
  node_core : (p k t : ℕ) (xs ss : List ℕ) (ys vs : List V) (w : List Token) → length xs ≡ k → length ys ≡ k →
      with_node R p k t (core (reverse_aux xs ss) (reverse_aux ys vs) w) ≡ core (t ∷ ss) (R.node_rule p ys ∷ vs) w
  node_core p k t xs ss ys vs w ex ey =
      let taken = take_aux ys vs k ey in
      let left = drop_aux ys vs k ey in
      let under = drop_aux xs ss k ex in
      λ i. core (t ∷ under i) (R.node_rule p (taken i) ∷ left i) w

  module _ (N : NoSlips R M) where
    -- from a reachable core a reduce of what is on top goes on
    node_move : (p : ℕ) (r : Rule) (xs ss : List ℕ) (ys vs : List V) (w : List Token) →
        Reachable (core (reverse_aux xs ss) (reverse_aux ys vs) w) →
        decide M (current (reverse_aux xs ss)) (next w) ≡ Reduce p → M.grammar p ≡ Some r →
        length xs ≡ length r.right → length ys ≡ length r.right →
        (t : ℕ) × (M.goto (current ss) r.left ≡ Some t)
        × (move R M true (core (reverse_aux xs ss) (reverse_aux ys vs) w)
        ≡ on (core (t ∷ ss) (R.node_rule p ys ∷ vs) w))
    node_move p r xs ss ys vs w (n, u, moved) act e ex ey = go (landing_of M r (reverse_aux xs ss)) refl reduces
      where
        k : ℕ
        k = length r.right

        c : Core V
        c = core (reverse_aux xs ss) (reverse_aux ys vs) w

        reduces : move R M true c ≡ land R p k c (landing_of M r (reverse_aux xs ss))
        reduces =
            move_by (reverse_aux xs ss) (reverse_aux ys vs) w (Reduce p) act ∙ ap (λ o. reduce_by R M p o c) e

        go : (l : Result ℕ Slip) → landing_of M r (reverse_aux xs ss) ≡ l → move R M true c ≡ land R p k c l →
            (t : ℕ) × (M.goto (current ss) r.left ≡ Some t)
            × (move R M true c ≡ on (core (t ∷ ss) (R.node_rule p ys ∷ vs) w))
        go (Err j) l f = absurd (N true n u c moved j f)
        go (Ok t) l f =
            let goes = (has_landed M r (reverse_aux xs ss) t l).goes in
            let under = ap (λ zs. M.goto (current zs) r.left) (sym (drop_aux xs ss k ex)) in
            (t, under ∙ goes, f ∙ ap {B = Move V} on (node_core p k t xs ss ys vs w ex ey))

    module _ {states : ℕ} (law : Lawful states M) (H : Hints) (C : Complete M H) (L : ℕ) where
      reads_length : (ts : Forest) (α : List Symbol) → OfAll M.grammar α ts → length (reads R ts) ≡ length α
      reads_length no_tree α o = rw o refl
      reads_length (tree_then t ts) α (X, β, is, o, all) = rw is (ap suc (reads_length ts β all))

      -- t was read, before which an item of production p had dot d: there is one cell more, and the item goes on
      record TreeDone (p d : ℕ) (t : Tree) (ss : List ℕ) (vs : List V) (w : List Token) : Type 0 where
        last : ℕ
        leads : Leads R M L true (size t) (core ss vs (text t ++ w)) (core (last ∷ ss) (read R t ∷ vs) w)
        item : OneDotOn H (current ss) p d last

      -- the trees of α, all that stood behind the dot, were read: there is a cell for each, and the item is finished
      record ForestDone (p d : ℕ) (α : List Symbol) (ts : Forest) (ss : List ℕ) (vs : List V) (w : List Token)
          : Type 0 where
        above : List ℕ
        count : length above ≡ length α
        item : next w ∈ H.look_aheads (current (reverse_aux above ss)) p (d + length α)
        leads : Leads R M L true (sizes ts) (core ss vs (texts ts ++ w))
            (core (reverse_aux above ss) (reverse_aux (reads R ts) vs) w)

      leaf_done : (k : Token) (p d : ℕ) (β : List Symbol) (ss : List ℕ) (vs : List V) (w : List Token) →
          Item H (current ss) p d → Behind M.grammar p d (Terminal k.kind ∷ β) → length ss + 1 ≤ L →
          TreeDone p d (leaf k) ss vs w
      leaf_done k p d β ss vs w it b l =
          let (t, act, onward) = C.terminal_shifts (current ss) p d k.kind β it b in
          let e = core (t ∷ ss) (R.leaf_rule k ∷ vs) w in
          record { last = t; leads = (e, move_by ss vs (k ∷ w) (Shift t) act, omega arith, refl); item = onward }

      node_done : (q : ℕ) (ts : Forest) (r : Rule) → M.grammar q ≡ Some r → OfAll M.grammar r.right ts →
          (p d : ℕ) (β : List Symbol) (ss : List ℕ) (vs : List V) (w : List Token) →
          Reachable (core ss vs (texts ts ++ w)) → Item H (current ss) p d →
          Behind M.grammar p d (Nonterminal r.left ∷ β) → length ss + reach (node q ts) ≤ L →
          ForestDone q 0 r.right ts ss vs w → TreeDone p d (node q ts) ss vs w
      node_done q ts r e all p d β ss vs w g it b l F =
          let k = length r.right in
          let c = core ss vs (texts ts ++ w) in
          let ss' = reverse_aux F.above ss in
          let c' = core ss' (reverse_aux (reads R ts) vs) w in
          let none = drop_all (0 + k) r.right (omega arith) in
          let done : Behind M.grammar q (0 + k) [] = (r.right, known_right M law q r e, none) in
          let act = C.done_reduces (current ss') q (0 + k) (next w) F.item (not_added M law q r e) done in
          let g' = reachable_leads L (sizes ts) c c' g F.leads in
          let full = reads_length ts r.right all in
          let (t, goes, moved) = node_move q r F.above ss (reads R ts) vs w g' act e F.count full in
          let c'' = core (t ∷ ss) (R.node_rule q (reads R ts) ∷ vs) w in
          let n = sizes ts in
          record {
            last = t;
            leads = rw (add_comm 1 n) (leads_more R M L true n c c' c'' F.leads moved (omega arith));
            item = C.goto_follows (current ss) p d r.left t β it b goes;
          }

      mutual
        tree_done : (t : Tree) (p d : ℕ) (X : Symbol) (β : List Symbol) (ss : List ℕ) (vs : List V) (w : List Token) →
            Reachable (core ss vs (text t ++ w)) → Item H (current ss) p d → Behind M.grammar p d (X ∷ β) →
            Of M.grammar X t → next w ∈ wanted H β (H.look_aheads (current ss) p d) → length ss + reach t ≤ L →
            TreeDone p d t ss vs w
        tree_done (leaf k) p d X β ss vs w g it (α, rs, dr) o f l =
            leaf_done k p d β ss vs w it (α, rs, dr ∙ ap (λ Y. Y ∷ β) o) l
        tree_done (node q ts) p d X β ss vs w g it (α, rs, dr) (r, e, is, all) f l =
            let b : Behind M.grammar p d (Nonterminal r.left ∷ β) = (α, rs, dr ∙ ap (λ Y. Y ∷ β) is) in
            let first = C.items_closed (current ss) p d r.left β it b q r e refl (next w) f in
            let begins : Behind M.grammar q 0 r.right = (r.right, known_right M law q r e, refl) in
            let low : length ss + reaches 0 ts ≤ L = omega arith in
            let F = forest_done ts q 0 r.right 0 (length ss) ss vs w g first begins all (omega arith) low in
            node_done q ts r e all p d β ss vs w g it b l F

        forest_done : (ts : Forest) (p d : ℕ) (α : List Symbol) (i base : ℕ) (ss : List ℕ) (vs : List V)
            (w : List Token) → Reachable (core ss vs (texts ts ++ w)) → next w ∈ H.look_aheads (current ss) p d →
            Behind M.grammar p d α → OfAll M.grammar α ts → length ss ≡ base + i → base + reaches i ts ≤ L →
            ForestDone p d α ts ss vs w
        forest_done no_tree p d α i base ss vs w g it b o eb l =
            record { above = []; count = ap length (sym o); item = rw (o, add-zero) it; leads = refl }
        forest_done (tree_then t ts) p d α i base ss vs w g it (γ, rs, dr) (X, β, is, o, all) eb l =
            let v = texts ts ++ w in
            let c = core ss vs (text t ++ v) in
            let g' = subst (λ z. Reachable (core ss vs z)) (append_assoc (text t) (texts ts) w) g in
            let dr' = dr ∙ is in
            let soon = forest_wanted M H C ts β all w (H.look_aheads (current ss) p d) it in
            let T = tree_done t p d X β ss vs v g' (next w, it) (γ, rs, dr') o soon (omega arith) in
            let ss' = T.last ∷ ss in
            let vs' = read R t ∷ vs in
            let g'' = reachable_leads L (size t) c (core ss' vs' v) g' T.leads in
            let b : Behind M.grammar p (d + 1) β = (γ, rs, drop_step d γ X β dr') in
            let it' = T.item (next w) it in
            let F = forest_done ts p (d + 1) β (i + 1) base ss' vs' w g'' it' b all (omega arith) (omega arith) in
            let ss'' = reverse_aux F.above ss' in
            let vs'' = reverse_aux (reads R ts) vs' in
            let c' = core ss' vs' v in
            let c'' = core ss'' vs'' w in
            let more = leads_add R M L true (size t) (sizes ts) c c' c'' T.leads F.leads in
            let dot : (d + 1) + length β ≡ d + length α = omega (arith, ap length is) in
            record {
              above = T.last ∷ F.above;
              count = ap suc F.count ∙ ap length (sym is);
              item = subst (λ n. next w ∈ H.look_aheads (current ss'') p n) dot F.item;
              leads = rw append_assoc more;
            }

accepted : {V : Type 0} (m : Move V) (b : Bool) → m ≡ cond b accepts (slips AtEnd) → ((k : Slip) → m ≡ slips k → ⊥) →
    m ≡ accepts
accepted m true e firm = e
accepted m false e firm = absurd (firm AtEnd e)

pub reads_every_tree : (V : Type 0) → ReadsEveryTree V
reads_every_tree V states M completely R N w t (o, is) =
    let H = completely.hints in
    let C = completely.complete in
    let law = completely.lawful in
    let begins : Behind M.grammar added 0 (start ∷ []) = (start ∷ [], refl, refl) in
    let first = C.initial_item in
    let drive = tree_done R M N law H C (reach t) t added 0 start [] [] [] [] in
    let T = drive (0, text t ++ [], refl) (0, first) begins o first (omega arith) in
    let d = core (T.last ∷ []) (read R t ∷ []) [] in
    let leads = subst (λ z. Leads R M (reach t) true (size t) (fresh z) d) (append-nil (text t) ∙ is) T.leads in
    let moved = leads_moves R M (reach t) true (size t) (fresh w) d leads in
    let act = C.final_accepts T.last (T.item 0 first) in
    let found_it = move_by R M (T.last ∷ []) (read R t ∷ []) [] Accept act in
    record {
      last = T.last;
      leads = leads;
      accepted = accepted (move R M true d) (carry_start M (T.last ∷ [])) found_it (λ k. N true (size t) w d moved k);
    }
