-- What a test says: a proposition that holds exactly when the test passes.
use Rattle.std.proofs.Common.{◌≡◌, ℕ, ◌<◌, ◌≤◌, Bool, true, false, cond, not, ◌&&◌, ◌||◌, T, eqb, ltb, leb, ◌⊎◌, List, [], ◌∷◌, Some, None, Option, refl, ap, subst, inl, inr, le→leb, eqb→eq, ltb→lt, lt→ltb, leb→le, T_not}
use lib.Dec.{not_T, eqb_refl}
use Rattle.syntax.specs.declared.Symbol.{Symbol}
use Rattle.syntax.specs.declared.Symbol.TheVariants.{Terminal, Nonterminal}
use Rattle.syntax.specs.Grammar.{Every, Present}
use Rattle.layout.specs.Choices.{given, present, implies, below, some_below, every}
use Rattle.layout.specs.Opening.{same_symbol}
use Rattle.wellformed.specs.Formed.{IfAny}
use Rattle.wellformed.proofs.Tests.{eq_T, T_and, and_T, T_or, or_T, T_implies, implies_T, T_below, below_T}
use Rattle.wellformed.proofs.Tests.{T_some, some_T, T_present, present_T, T_given, given_T}

pub record Says (b : Bool) (Q : Type 0) : Type 0 where
  pub to : T b → Q
  pub back : Q → T b

pub itself : (b : Bool) → Says b (T b)
itself b = record { to = λ h. h; back = λ h. h }

pub says_as : {b : Bool} {P Q : Type 0} → (P → Q) → (Q → P) → Says b P → Says b Q
says_as f g s = record { to = λ h. f (s.to h); back = λ h. s.back (g h) }

-- two tests that say the same are the same
pub one_test : {x y : Bool} {P : Type 0} → Says x P → Says y P → x ≡ y
one_test {x = true} {y = true} p q = refl
one_test {x = true} {y = false} p q = absurd (q.back (p.to tt))
one_test {x = false} {y = true} p q = absurd (p.back (q.to tt))
one_test {x = false} {y = false} p q = refl

pub always : Says true (Unit {0})
always = record { to = λ h. h; back = λ h. h }

pub both : {x y : Bool} {P Q : Type 0} → Says x P → Says y Q → Says (x && y) (P × Q)
both {x} {y} f g = record {
  to = λ h. let k = T_and x y h in (f.to k.0, g.to k.1);
  back = λ h. and_T x y (f.back h.0) (g.back h.1);
}

pub either : {x y : Bool} {P Q : Type 0} → Says x P → Says y Q → Says (x || y) (P ⊎ Q)
either {x} {y} {P} {Q} f g = record { to = λ h. there (T_or x y h); back = λ h. or_T x y (here h) }
  where
    there : T x ⊎ T y → P ⊎ Q
    there (inl a) = inl (f.to a)
    there (inr a) = inr (g.to a)

    here : P ⊎ Q → T x ⊎ T y
    here (inl a) = inl (f.back a)
    here (inr a) = inr (g.back a)

pub never : {x : Bool} {P : Type 0} → Says x P → Says (not x) (P → ⊥)
never {x} f = record { to = λ h p. T_not x h (f.back p); back = λ h. not_T x (λ k. h (f.to k)) }

pub if_so : (x : Bool) {y : Bool} {Q : Type 0} → Says y Q → Says (implies x y) (T x → Q)
if_so x {y} s = record {
  to = λ h k. s.to (T_implies x y h k);
  back = λ h. implies_T x y (λ k. s.back (h k));
}

pub split : {x y z : Bool} {P Q R : Type 0} → Says x P → Says y Q → Says z R →
    Says (cond x y z) ((P → Q) × ((P → ⊥) → R))
split {x = true} f g h = record {
  to = λ k. (λ p. g.to k, λ n. absurd (n (f.to tt)));
  back = λ k. g.back (k.0 (f.to tt));
}
split {x = false} f g h = record {
  to = λ k. (λ p. absurd (f.back p), λ n. h.to k);
  back = λ k. h.back (k.1 (λ p. f.back p));
}

pub less : (a b : ℕ) → Says (ltb a b) (a < b)
less a b = record { to = ltb→lt a b; back = lt→ltb a b }

pub at_most : (a b : ℕ) → Says (leb a b) (a ≤ b)
at_most a b = record { to = leb→le a b; back = le→leb a b }

pub equal : (a b : ℕ) → Says (eqb a b) (a ≡ b)
equal a b = record { to = eqb→eq a b; back = eq_T a b }

pub all_below : (n : ℕ) {f : ℕ → Bool} {Q : ℕ → Type 0} → ((k : ℕ) → Says (f k) (Q k)) →
    Says (below n f) ((k : ℕ) → k < n → Q k)
all_below n {f} s = record {
  to = λ h k lt. (s k).to (T_below n f h k lt);
  back = λ h. below_T n f (λ k lt. (s k).back (h k lt));
}

pub one_below : (n : ℕ) {f : ℕ → Bool} {Q : ℕ → Type 0} → ((k : ℕ) → Says (f k) (Q k)) →
    Says (some_below n f) ((k : ℕ) × (k < n) × Q k)
one_below n {f} s = record {
  to = λ h. let (k, lt, x) = T_some n f h in (k, lt, (s k).to x);
  back = λ h. some_T n f h.0 h.1 ((s h.0).back h.2);
}

pub each : {X : Type 0} {f : X → Bool} {Q : X → Type 0} → ((x : X) → Says (f x) (Q x)) → (xs : List X) →
    Says (every f xs) (Every Q xs)
unfolding every
each s [] = always
each s (x ∷ xs) = both (s x) (each s xs)

pub there : {X : Type 0} (o : Option X) → Says (present o) (Present o)
there o = record { to = T_present o; back = λ h. present_T o h.0 h.1 }

-- of what is there, if anything is
pub if_any : {X : Type 0} {f : X → Bool} {Q : X → Type 0} → ((x : X) → Says (f x) (Q x)) → (o : Option X) →
    Says (given true f o) (IfAny Q o)
if_any s None = always
if_any s (Some x) = s x

-- there is one, and it is so
pub there_is : {X : Type 0} {f : X → Bool} {Q : X → Type 0} → ((x : X) → Says (f x) (Q x)) → (o : Option X) →
    Says (given false f o) ((x : X) × (o ≡ Some x) × Q x)
there_is {f = f} s o = record {
  to = λ h. let (x, e, k) = T_given f o h in (x, e, (s x).to k);
  back = λ h. given_T f o h.0 h.1 ((s h.0).back h.2);
}

T_symbol : (X Y : Symbol) → T (same_symbol X Y) → X ≡ Y
T_symbol (Terminal a) (Terminal b) h = ap {B = Symbol} Terminal (eqb→eq a b h)
T_symbol (Terminal a) (Nonterminal b) h = absurd h
T_symbol (Nonterminal a) (Terminal b) h = absurd h
T_symbol (Nonterminal a) (Nonterminal b) h = ap {B = Symbol} Nonterminal (eqb→eq a b h)

symbol_itself : (X : Symbol) → T (same_symbol X X)
symbol_itself (Terminal a) = eqb_refl a
symbol_itself (Nonterminal a) = eqb_refl a

pub symbols_same : (X Y : Symbol) → Says (same_symbol X Y) (X ≡ Y)
symbols_same X Y = record {
  to = T_symbol X Y;
  back = λ e. subst (λ Z. T (same_symbol X Z)) e (symbol_itself X);
}

-- a state's incoming symbol is X
pub is_symbol : (o : Option Symbol) (X : Symbol) → Says (given false (λ Y. same_symbol Y X) o) (o ≡ Some X)
is_symbol o X = record {
  to = λ h. let (Y, e, k) = T_given (λ Y. same_symbol Y X) o h in subst (λ Z. o ≡ Some Z) (T_symbol Y X k) e;
  back = λ e. given_T (λ Y. same_symbol Y X) o X e (symbol_itself X);
}
