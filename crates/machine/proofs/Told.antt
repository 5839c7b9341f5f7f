-- What is known of a reading after any calls: where the machine is, and why the reading goes no further.
use Rattle.std.proofs.Common.{◌≡◌, ℕ, zero, suc, ◌+◌, ◌≤◌, Bool, true, false, cond, leb, ◌⊎◌, List, [], ◌∷◌, ◌++◌, reverse, length, Some, None, sym, refl, ap, ◌∙◌, subst, inl, inr, arith}
use Rattle.std.proofs.lemmas.List.{append-nil}
use Rattle.syntax.specs.Values.{Algebra}
use Rattle.theory.specs.Machine.{Core, fresh, on, accepts}
use Rattle.theory.proofs.Clash.{clash}
use Rattle.theory.proofs.View.{same_core}
use Rattle.sink.specs.Stacks.{Count}
use Rattle.outcome.specs.declared.Outcome.{Outcome}
use Rattle.outcome.specs.declared.Outcome.TheVariants.{More, Accepted, Rejected, Halted, Stopped}
use Rattle.outcome.specs.declared.Declined.TheVariants.{TooManySteps, BeforeEnd}
use Rattle.outcome.specs.declared.Call.{Call}
use Rattle.outcome.specs.declared.Call.TheVariants.{Turn, Stop, Mark, Report as Tell}
use Rattle.outcome.specs.Numbers.{ended}
use Rattle.machine.specs.Reading.{State, most_steps, found_in, settled, step, go_on, spend}
use Rattle.machine.specs.Calls.{unless, called, after_calls}
use Rattle.machine.specs.Runs.{Run, new, after, granted, grant}
use Rattle.machine.proofs.Counts.{left_all, room}
use Rattle.machine.proofs.Tracks.{at, next_move, moves_made, Inside, Tracks, Reason, Stepped, step_tracks, look_tracks}

-- an ended reading stays as it is

more_or_ended : (o : Outcome) → (o ≡ More) ⊎ (ended o ≡ true)
more_or_ended More = inl refl
more_or_ended Accepted = inr refl
more_or_ended (Rejected p) = inr refl
more_or_ended (Halted h) = inr refl
more_or_ended Stopped = inr refl

module _ {V : Type 0} (R : Algebra V) where
  called_stays : (c : Call) (r : State V) → ended r.outcome ≡ true → called R c r ≡ r
  called_stays (Turn n) r i = rw i refl
  called_stays Tell r i = refl
  called_stays Stop r i = rw i refl
  called_stays Mark r i = rw i refl

  calls_stay : (cs : List Call) (r : State V) → ended r.outcome ≡ true → after_calls R cs r ≡ r
  calls_stay [] r i = refl
  calls_stay (c ∷ cs) r i = ap (after_calls R cs) (called_stays c r i) ∙ calls_stay cs r i

module _ {V : Type 0} (R : Algebra V) (run : Run V) where
  -- all that was granted was spent, and no accept was overlooked
  abbrev pub Waits : ℕ → Core V → ℕ → Type 0
  Waits g c n = (g ≡ n) × ((n ≡ 0) ⊎ (next_move R run c ≡ accepts → ⊥))

  -- why a reading at c stands as it does after n steps of g granted ones
  abbrev pub Why : ℕ → Outcome → Core V → ℕ → Type 0
  Why g More c n = Waits g c n
  Why g Accepted c n = Reason R run Accepted c n
  Why g (Rejected p) c n = Reason R run (Rejected p) c n
  Why g (Halted h) c n = Reason R run (Halted h) c n
  Why g Stopped c n = Waits g c n

  pub record Told (g : ℕ) (r : State V) : Type 0 where
    pub core : Core V
    pub records : Count
    pub cells : Count
    pub is : r ≡ at R run core records cells r.steps r.outcome
    pub tracks : Tracks R run core records cells r.steps
    pub in_grant : r.steps ≤ g
    pub why : Why g r.outcome core r.steps

  module _ (g : ℕ) (r : State V) (T : Told g r) where
    pub tokens_are : r.stream.tokens ≡ T.core.rest
    tokens_are = ap (λ (s : State V). s.stream.tokens) T.is

    pub list_is : r.stack.list ≡ run.stack.list ++ reverse T.core.values
    list_is = ap (λ (s : State V). s.stack.list) T.is

    pub cells_are : r.cells ≡ reverse T.core.cells
    cells_are = ap (λ (s : State V). s.cells) T.is

  abbrev Unstopped : Outcome → Type 0
  Unstopped More = Unit {0}
  Unstopped Accepted = Unit {0}
  Unstopped (Rejected p) = Unit {0}
  Unstopped (Halted h) = Unit {0}
  Unstopped Stopped = ⊥

  -- told, and not stopped by a call
  abbrev Running : ℕ → State V → Type 0
  Running g r = Told g r × Unstopped r.outcome

  told_at : (g : ℕ) (c : Core V) (a b : Count) (n : ℕ) (o : Outcome) → Tracks R run c a b n → n ≤ g →
      Why g o c n → Told g (at R run c a b n o)
  told_at g c a b n o T le y =
      record { core = c; records = a; cells = b; is = refl; tracks = T; in_grant = le; why = y }

  -- a reading that ended by itself
  reason_told : (g : ℕ) (c : Core V) (a b : Count) (n : ℕ) (o : Outcome) → Tracks R run c a b n → n ≤ g →
      Reason R run o c n → Running g (at R run c a b n o)
  reason_told g c a b n More T le E = absurd E
  reason_told g c a b n Accepted T le E = (told_at g c a b n Accepted T le E, tt)
  reason_told g c a b n (Rejected p) T le E = (told_at g c a b n (Rejected p) T le E, tt)
  reason_told g c a b n (Halted h) T le E = (told_at g c a b n (Halted h) T le E, tt)
  reason_told g c a b n Stopped T le E = absurd E

  reason_ends : (c : Core V) (n : ℕ) (o : Outcome) → Reason R run o c n → ended o ≡ true
  reason_ends c n More E = absurd E
  reason_ends c n Accepted E = refl
  reason_ends c n (Rejected p) E = refl
  reason_ends c n (Halted h) E = refl
  reason_ends c n Stopped E = absurd E

  -- turns

  look_told : (g : ℕ) (c : Core V) (a b : Count) (n : ℕ) → Tracks R run c a b n → g ≡ n → (o : Outcome) →
      ((o ≡ More) × (next_move R run c ≡ accepts → ⊥)) ⊎ Reason R run o c n →
      Running g (at R run c a b n o)
  look_told g c a b n T eg o (inl (is, not_yet)) =
      let now = told_at g c a b n More T (omega arith) (eg, inr not_yet) in
      subst (λ (x : Outcome). Running g (at R run c a b n x)) (sym is) (now, tt)
  look_told g c a b n T eg o (inr E) = reason_told g c a b n o T (omega arith) E

  spend_told : (m g : ℕ) (c : Core V) (a b : Count) (n : ℕ) → Tracks R run c a b n → g ≡ n + m →
      Running g (spend R m (at R run c a b n More))
  spend_told zero g c a b n T eg =
      let r = at R run c a b n More in
      look_told g c a b n T (omega arith) (settled r (found_in r)) (look_tracks R run c a b n T)
  spend_told (suc m) g c a b n T eg =
      let r = at R run c a b n More in
      go (step R r) (step_tracks R run c a b n T) (λ d x y. spend_told m g d x y (n + 1))
    where
      go : (s : State V) → Stepped R run c a b n s →
          ((d : Core V) (x y : Count) → Tracks R run d x y (n + 1) → g ≡ (n + 1) + m →
          Running g (spend R m (at R run d x y (n + 1) More))) →
          Running g (go_on R (ended s.outcome) (λ x. spend R m x) s)
      go s (inl (d, x, y, is, T')) again =
          subst (λ (z : State V). Running g (go_on R (ended z.outcome) (λ x. spend R m x) z)) (sym is)
          (again d x y T' (omega arith))
      go s (inr (o, is, E)) again =
          let r = at R run c a b n o in
          let stays = ap (λ (t : Bool). go_on R t (λ x. spend R m x) r) (reason_ends c n o E) in
          let told = subst (Running g) (sym stays) (reason_told g c a b n o T (omega arith) E) in
          subst (λ (z : State V). Running g (go_on R (ended z.outcome) (λ x. spend R m x) z)) (sym is) told

  -- more granted to a reading that ended by itself
  why_more : (g g' : ℕ) (o : Outcome) (c : Core V) (n : ℕ) → ended o ≡ true → Unstopped o → Why g o c n → Why g' o c n
  why_more g g' More c n i u y = absurd (clash (cc))
  why_more g g' Accepted c n i u y = y
  why_more g g' (Rejected p) c n i u y = y
  why_more g g' (Halted h) c n i u y = y
  why_more g g' Stopped c n i u y = absurd u

  told_more : (g g' : ℕ) (r : State V) → g ≤ g' → ended r.outcome ≡ true → Running g r → Running g' r
  told_more g g' r le i (T, u) =
      let h = T.in_grant in (
        record {
          core = T.core;
          records = T.records;
          cells = T.cells;
          is = T.is;
          tracks = T.tracks;
          in_grant = omega arith;
          why = why_more g g' r.outcome T.core r.steps i u T.why;
        },
        u,
      )

  -- a reading that runs is at its core
  abbrev here : (g : ℕ) (r : State V) → Told g r → State V
  here g r T = at R run T.core T.records T.cells r.steps More

  runs_at : (g : ℕ) (r : State V) (T : Told g r) → r.outcome ≡ More → r ≡ here g r T
  runs_at g r T m = T.is ∙ ap (λ o. at R run T.core T.records T.cells r.steps o) m

  -- what is left of a turn of a reading that runs: it is taken, or declined for its steps
  abbrev taken : ℕ → State V → Bool → State V
  taken n r few = unless (cond few None (Some (TooManySteps r.steps))) (λ s. spend R n s) r

  turn_by : (n g : ℕ) (r : State V) → r.outcome ≡ More → g ≡ r.steps →
      called R (Turn n) r ≡ taken n r (leb (g + n) most_steps)
  turn_by n g r m eg = rw (m, eg) refl

  turn_told : (n g : ℕ) (r : State V) → Running g r →
      Running (cond (leb (g + n) most_steps) (g + n) g) (called R (Turn n) r)
  turn_told n g r (T, u) = go (more_or_ended r.outcome)
    where
      g' : ℕ
      g' = cond (leb (g + n) most_steps) (g + n) g

      grows : (b : Bool) → g ≤ cond b (g + n) g
      grows true = omega arith
      grows false = omega arith

      by : (b : Bool) → g ≡ r.steps → r.outcome ≡ More → Running (cond b (g + n) g) (taken n r b)
      by true eg m =
          let told = spend_told n (g + n) T.core T.records T.cells r.steps T.tracks (omega arith) in
          subst (λ (s : State V). Running (g + n) (spend R n s)) (sym (runs_at g r T m)) told
      by false eg m = (T, u)

      go : (r.outcome ≡ More) ⊎ (ended r.outcome ≡ true) → Running g' (called R (Turn n) r)
      go (inl m) =
          let eg : g ≡ r.steps = (subst (λ (o : Outcome). Why g o T.core r.steps) m T.why).0 in
          subst (Running g') (sym (turn_by n g r m eg)) (by (leb (g + n) most_steps) eg m)
      go (inr i) =
          subst (Running g') (sym (called_stays R (Turn n) r i))
          (told_more g g' r (grows (leb (g + n) most_steps)) i (T, u))

  -- stops

  stop_told : (cs : List Call) (g : ℕ) (r : State V) → Told g r → Told g (after_calls R cs (called R Stop r))
  stop_told cs g r T = go (more_or_ended r.outcome)
    where
      go : (r.outcome ≡ More) ⊎ (ended r.outcome ≡ true) → Told g (after_calls R cs (called R Stop r))
      go (inl m) =
          let waits = subst (λ (o : Outcome). Why g o T.core r.steps) m T.why in
          let s = at R run T.core T.records T.cells r.steps Stopped in
          let told = told_at g T.core T.records T.cells r.steps Stopped T.tracks T.in_grant waits in
          subst (λ (x : State V). Told g (after_calls R cs (called R Stop x))) (sym (runs_at g r T m))
          (subst (Told g) (sym (calls_stay R cs s refl)) told)
      go (inr i) =
          let stays = ap (after_calls R cs) (called_stays R Stop r i) ∙ calls_stay R cs r i in
          subst (Told g) (sym stays) T

  -- all calls

  calls_told : (cs : List Call) (g : ℕ) (r : State V) → Running g r → Told (granted g cs) (after_calls R cs r)
  calls_told [] g r T = T.0
  calls_told (Turn n ∷ cs) g r T =
      calls_told cs (cond (leb (g + n) most_steps) (g + n) g) (called R (Turn n) r) (turn_told n g r T)
  calls_told (Tell ∷ cs) g r T = calls_told cs g r T
  calls_told (Stop ∷ cs) g r T = stop_told cs g r T.0
  calls_told (Mark ∷ cs) g r T =
      subst (λ (s : State V). Told (granted g cs) (after_calls R cs s)) (sym (marked (ended r.outcome)))
      (calls_told cs g r T)
    where
      marked : (b : Bool) → unless (cond b None (Some (BeforeEnd r.steps))) (λ s. s) r ≡ r
      marked true = refl
      marked false = refl

  -- a new reading

  none_high : Inside R run 0 (room run.stack.cells)
  none_high m c le h = go m le h
    where
      go : (k : ℕ) → k ≤ 0 → moves_made R run k ≡ on c → length c.cells ≤ room run.stack.cells
      go zero l g =
          let same = same_core (fresh run.stream.tokens) c g in
          let none = ap (λ (d : Core V). length d.cells) same in
          omega arith
      go (suc k) l g = absurd (omega arith)

  none_tracks : Tracks R run (fresh run.stream.tokens) run.stack.records run.stack.cells 0
  none_tracks = record {
    moved = refl;
    records_left = left_all run.stack.records;
    cells_left = left_all run.stack.cells;
    high = none_high;
  }

  abbrev begin : State V
  begin = new run.table run.stream run.stack

  begin_is : begin ≡ at R run (fresh run.stream.tokens) run.stack.records run.stack.cells 0 More
  begin_is =
      let K = run.stack in
      let grown = sym (append-nil K.list) in
      λ i. new run.table run.stream (record { list = grown i; records = K.records; cells = K.cells })

  begin_told : Told 0 begin
  begin_told = record {
    core = fresh run.stream.tokens;
    records = run.stack.records;
    cells = run.stack.cells;
    is = begin_is;
    tracks = none_tracks;
    in_grant = omega arith;
    why = (refl, inl refl);
  }

-- every run
pub run_told : {V : Type 0} (R : Algebra V) (run : Run V) → Told R run (grant run) (after R run)
run_told R run = calls_told R run run.calls 0 (begin R run) (begin_told R run, tt)
