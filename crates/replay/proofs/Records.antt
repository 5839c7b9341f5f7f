-- The list of a trace, joined, is the records of the events that it took.
use Rattle.std.proofs.Common.{◌≡◌, ℕ, ◌-◌, ◌≤◌, Bool, true, false, cond, ltb, List, [], ◌∷◌, ◌++◌, map, length, Ok, Err, sym, refl, ap, ◌∙◌, append_assoc, append-nil, arith, length-drop}
use Rattle.std.proofs.lemmas.List.{drop_all}
use Rattle.std.proofs.lemmas.Bool.Decides.{nat_tests}
use Rattle.sink.specs.declared.SinkFault.{SinkFault}
use Rattle.sink.specs.Stacks.{Stack, full, front, back}
use Rattle.trace.specs.Records.{leaf_record, node_record, joined, postfix}
use Rattle.trace.proofs.Appended.{rejoined}
use Rattle.replay.specs.declared.Event.{Event}
use Rattle.replay.specs.declared.Event.TheVariants.{Leaf, Node}
use Rattle.replay.specs.Events.{Answer, next, answer, after, sent_all, taken}
use Rattle.replay.specs.Recorded.{record_of}

never : {P : Type 0} {f : SinkFault} → ◌≡◌ {A = Answer} (Err f) (Ok tt) → P
never e = let z : ◌≡◌ {A = ℕ} 0 1 = cc in absurd (omega arith)

-- what an answer Ok tells of the tests behind it
passed : (b : Bool) (f : SinkFault) → ◌≡◌ {A = Answer} (cond b (Err f) (Ok tt)) (Ok tt) → b ≡ false
passed true f e = never e
passed false f e = refl

passed_both : (a b : Bool) (f h : SinkFault) →
    ◌≡◌ {A = Answer} (cond a (Err f) (cond b (Err h) (Ok tt))) (Ok tt) → (a ≡ false) × (b ≡ false)
passed_both true b f h e = never e
passed_both false b f h e = (refl, passed b h e)

module _ (s : Stack (List ℕ)) where
  abbrev ts : List (List ℕ)
  ts = s.list

  -- an event that is taken adds its record behind the others
  adds : (e : Event) → answer e s ≡ Ok tt → joined (after postfix e s).list ≡ joined ts ++ record_of e
  adds (Leaf t) ok =
      let room = passed (full 0 s) _ ok in
      let alone = ap (λ l. joined l ++ leaf_record t) (drop_all (length ts - 0) ts (omega arith)) in
      rw room (ap (λ v. joined (front 0 ts ++ (v ∷ []))) (sym alone) ∙ rejoined 0 ts (leaf_record t))
  adds (Node p k) ok =
      let both = passed_both (ltb (length ts) k) (full k s) _ _ ok in
      let few = both.0 in
      let enough : k ≤ length ts = grind (arith, nat_tests) in
      let count : length (back k ts) ≡ k = length-drop (length ts - k) ts ∙ omega arith in
      let piece = ap (λ n. joined (front k ts ++ ((joined (back k ts) ++ node_record p n) ∷ []))) count in
      rw (few, both.1) (piece ∙ rejoined k ts (node_record p k))

  -- so the records of the events behind it follow
  adds_first : (e : Event) (rest : Answer × Stack (List ℕ)) (more : List Event) →
      joined rest.1.list ≡ joined (after postfix e s).list ++ joined (map record_of more) →
      (a : Answer) → answer e s ≡ a →
      joined (next a (λ f. (Err f, s)) rest).1.list
      ≡ joined ts ++ joined (map record_of (next a (λ f. []) (e ∷ more)))
  adds_first e rest more behind (Ok u) ok =
      behind ∙ ap (λ l. l ++ joined (map record_of more)) (adds e ok)
      ∙ append_assoc (joined ts) (record_of e) (joined (map record_of more))
  adds_first e rest more behind (Err f) bad = sym (append-nil (joined ts))

pub all_records : (es : List Event) (s : Stack (List ℕ)) →
    joined (sent_all postfix es s).1.list ≡ joined s.list ++ joined (map record_of (taken postfix es s))
all_records [] s = sym (append-nil (joined s.list))
all_records (e ∷ es) s = adds_first s e _ _ (all_records es (after postfix e s)) (answer e s) refl
