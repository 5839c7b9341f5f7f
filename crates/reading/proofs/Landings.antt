-- Where a reduce leads.
use Rattle.std.proofs.Common.{◌≡◌, ℕ, ◌-◌, ◌<◌, ◌≤◌, Bool, cond, List, [], ◌∷◌, ◌++◌, length, Some, None, Ok, Err, Option, Result, sym, refl, ap, ◌∙◌, ap₂, arith, le-leb}
use Rattle.std.proofs.lemmas.List.{length-drop, length-take-le, length_push}
use Rattle.syntax.specs.declared.Production.{Production}
use Rattle.syntax.specs.Grammar.{Rule}
use Rattle.syntax.specs.Values.{Algebra}
use Rattle.table.specs.declared.Slip.{Slip}
use Rattle.table.specs.declared.Slip.TheVariants.{WrongSymbol}
use Rattle.table.specs.Automaton.{Automaton, head}
use Rattle.theory.specs.Machine.{landing, landed as landed_on}
use Rattle.theory.proofs.Clash.{clash}
use Rattle.sink.specs.declared.SinkFault.{SinkFault}
use Rattle.sink.specs.Stacks.{front, back, node_answer, node_after}
use Rattle.outcome.specs.declared.Halt.TheVariants.{Sink}
use Rattle.machine.specs.Reading.{State, most_cells, last_of, halt, stepped, sent_to, if_room, going, reducing, landing_from}
use Rattle.reading.specs.declared.steps.Landing.{Landing}
use Rattle.reading.specs.Steps.{carrying, landed, landed_by, landing_by}
use Rattle.reading.proofs.Cells.{carrying_is}

-- a production that is there is that of a rule
headed : (q : Production) (o : Option Rule) → Some q ≡ head o →
    (r : Rule) × (o ≡ Some r) × (q.left ≡ r.left) × (q.length ≡ length r.right)
headed q None e = absurd (clash (cc))
headed q (Some r) e = (r, refl, cc, cc)

module _ (M : Automaton) (p : ℕ) (ss : List ℕ) where
  -- a reduce with cells enough, whose test of symbols comes to b and whose goto, from s, is o
  by_rule : (r : Rule) (b : Bool) (s : ℕ) (o : Option ℕ) → M.grammar p ≡ Some r → length r.right ≤ length ss →
      b ≡ carrying M p 0 (back (length r.right) ss) → s ≡ last_of (front (length r.right) ss) →
      o ≡ M.goto s r.left →
      landed (length r.right) (cond b (landed_on o) (Err WrongSymbol)) ≡ landing_by M p ss
  by_rule r b s o is enough carried s-is goes =
      let k = length r.right in
      let long = length-drop (length ss - k) ss in
      let all = le-leb k (length ss) enough in
      let test = carried ∙ carrying_is M p r (back k ss) is (omega arith) in
      let goto = goes ∙ ap (λ x. M.goto x r.left) s-is in
      ap (landed k)
      (ap₂ (λ x y. cond x (landed_on y) (Err WrongSymbol)) test goto
      ∙ sym (ap (λ x. landing M r x (back k ss) (last_of (front k ss))) all))
      ∙ sym (ap (λ x. landed_by M x ss) is)

  -- the same of a production that was asked for, and of cells cut in two
  pub landing_is : (q : Production) {n : ℕ} {below top : List ℕ} (b : Bool) (s : ℕ) (o : Option ℕ) →
      Some q ≡ head (M.grammar p) → n ≡ q.length → n ≤ length ss → below ≡ front n ss → top ≡ back n ss →
      b ≡ carrying M p 0 top → s ≡ last_of below → o ≡ M.goto s q.left →
      landed q.length (cond b (landed_on o) (Err WrongSymbol)) ≡ landing_by M p ss
  landing_is q b s o is n_is enough below_is top-is carried s-is goes =
      let (r, is-r, left_is, k-is) = headed q (M.grammar p) is in
      let same = n_is ∙ k-is in
      ap (λ m. landed m (cond b (landed_on o) (Err WrongSymbol))) k-is
      ∙ by_rule r b s o is-r (omega arith)
      (carried ∙ ap (carrying M p 0) (top-is ∙ ap (λ m. back m ss) same))
      (s-is ∙ ap last_of (below_is ∙ ap (λ m. front m ss) same)) (goes ∙ ap (M.goto s) left_is)

-- a step that finds room, and whose event the sink refuses
refused : {V : Type 0} (r next : State V) {a : Result (Unit {0}) SinkFault} {f : SinkFault} →
    length next.cells ≤ most_cells → a ≡ Err f → halt r (Sink f) ≡ if_room a r next
refused r next {a} h bad =
    let free = le-leb (length next.cells) most_cells h in sym (ap (λ x. sent_to x r next) bad) ∙ rw free

module _ {V : Type 0} (R : Algebra V) (p : ℕ) (r : State V) where
  -- what a reduce sends and pushes
  abbrev reduced : Landing → State V
  reduced l =
      let k = l.children in
      stepped (front k r.cells ++ (l.to ∷ [])) (node_after R p k r.stack) r.stream r

  reduced_by : (k : ℕ) (x : Result ℕ Slip) (l : Landing) → Ok l ≡ landed k x →
      if_room (node_answer l.children r.stack) r (reduced l) ≡ going R p k r x
  reduced_by k (Err n) l e = absurd (clash (cc))
  reduced_by k (Ok t) l e =
      let same : l ≡ record { children = k; to = t } = cc in
      ap (λ (m : Landing). if_room (node_answer m.children r.stack) r (reduced m)) same

  lands : (o : Option Rule) (l : Landing) → Ok l ≡ landed_by r.table o r.cells →
      if_room (node_answer l.children r.stack) r (reduced l) ≡ reducing R p o r
  lands None l e = absurd (clash (cc))
  lands (Some rule) l e = reduced_by (length rule.right) (landing_from r.table rule r.cells) l e

  -- a reduce whose node the sink refuses
  pub node_refused : (o : Option Rule) (l : Landing) {f : SinkFault} → Ok l ≡ landed_by r.table o r.cells →
      length r.cells - l.children < most_cells → Err f ≡ node_answer l.children r.stack →
      halt r (Sink f) ≡ reducing R p o r
  node_refused o l is room bad =
      let long = length_push (front l.children r.cells) l.to in
      let under = length-take-le (length r.cells - l.children) r.cells (omega arith) in
      refused r (reduced l) (omega arith) (sym bad) ∙ lands o l is
