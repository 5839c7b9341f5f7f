-- What is left of a sink's counts, and of the cells that it and the reading have.
use Rattle.std.proofs.Common.{◌≡◌, ℕ, suc, ◌+◌, ◌-◌, ◌≤◌, min, true, false, ◌&&◌, eqb, ◌⊎◌, sym, refl, ap, ◌∙◌, inl, inr, add-zero, arith}
use Rattle.std.proofs.lemmas.Bool.{eqb-true, eqb-false, and_cases, false≢true}
use Rattle.sink.specs.Stacks.{Count, endless, limited, spent, recount}
use Rattle.machine.specs.Reading.{most_cells}
use Rattle.machine.specs.Runs.{AtMost}

-- of b, n are used and x is left
abbrev pub Left : Count → ℕ → Count → Type 0
Left endless n x = x ≡ endless
Left (limited b) n x = (m : ℕ) × (x ≡ limited m) × (m + n ≡ b)

pub left_all : (b : Count) → Left b 0 b
left_all endless = refl
left_all (limited m) = (m, refl, add-zero m)

pub left_at_most : (b : Count) (n : ℕ) (x : Count) → Left b n x → AtMost n b
left_at_most endless n x l = tt
left_at_most (limited b) n x (m, is, sum) = omega arith

pub spent_at_most : (b : Count) (n : ℕ) (x : Count) → Left b n x → spent x ≡ true → AtMost (suc n) b → ⊥
spent_at_most endless n x l h a = false≢true (sym (ap spent l) ∙ h)
spent_at_most (limited b) n x (m, is, sum) h a = let none = eqb-true m 0 (sym (ap spent is) ∙ h) in omega arith

-- k given back and one used
pub left_on : (b : Count) (n n' k : ℕ) (x : Count) → Left b n x → (spent x && eqb k 0) ≡ false → n' + k ≡ n + 1 →
    Left b n' (recount k x)
left_on endless n n' k x l h e = ap (recount k) l
left_on (limited b) n n' k x (m, is, sum) h e = ((m + k) - 1, ap (recount k) is, go (and_cases (spent x) (eqb k 0) h))
  where
    go : (spent x ≡ false) ⊎ (eqb k 0 ≡ false) → ((m + k) - 1) + n' ≡ b
    go (inl f) = let some = eqb-false m 0 (sym (ap spent is) ∙ f) in omega arith
    go (inr f) = let some = eqb-false k 0 f in omega arith

pub at_most_below : (m n : ℕ) (b : Count) → m ≤ n → AtMost n b → AtMost m b
at_most_below m n endless le a = tt
at_most_below m n (limited b) le a = omega arith

-- the cells that both the reading and its sink have
abbrev pub room : Count → ℕ
room endless = most_cells
room (limited b) = min most_cells b

pub in_room : (b : Count) (n : ℕ) → n ≤ most_cells → AtMost n b → n ≤ room b
in_room endless n h a = h
in_room (limited b) n h a = omega arith

pub room_cells : (b : Count) (n : ℕ) → n ≤ room b → n ≤ most_cells
room_cells endless n h = h
room_cells (limited b) n h = omega arith

pub room_sink : (b : Count) (n : ℕ) → n ≤ room b → AtMost n b
room_sink endless n h = tt
room_sink (limited b) n h = omega arith
