-- Contradictions between constructors, and what equal ones hold.
use Rattle.std.proofs.Common.{◌≡◌, ℕ, Some, None, arith}

-- `clash (cc)` refutes equations in scope that take one constructor for another
pub clash : ◌≡◌ {A = ℕ} 0 1 → ⊥
clash e = omega arith

pub some_some : {A : Type 0} {a b : A} → Some a ≡ Some b → a ≡ b
some_some e = cc

pub none_some : {A : Type 0} {a : A} → None ≡ Some a → ⊥
none_some e = clash (cc)
