-- What it is to read a plan as tokens: blanks, longest runs and marks, one behind the other, up to the ending.
use Rattle.std.specs.Prelude.{◌≡◌, ℕ, ◌+◌, ◌<◌, ◌≤◌, Bool, true, false, List, [], ◌∷◌, length, Some, None, slice_index, slice_range}
use Rattle.syntax.specs.declared.Token.{Token}
use Rattle.source.specs.declared.SourceFault.{SourceFault}
use Rattle.source.specs.declared.SourceFault.TheVariants.{UnknownByte, LongWord, LargeNumber}
use Rattle.source.specs.Faults.{place}
use Rattle.source.specs.Streams.{Ending, end, fault, Stream}
use Rattle.lexing.specs.Plans.{
  longest_word,
  largest_number,
  is_blank,
  is_letter,
  is_digit,
  mark_kind,
  spelled,
  decimal,
}

module _ (plan : List ℕ) where
  -- the byte at place p
  abbrev pub byte : ℕ → ℕ
  byte p = slice_index plan p

  -- the bytes from place p up to place q
  abbrev pub text : ℕ → ℕ → List ℕ
  text p q = slice_range plan p q

  -- each byte from place p up to place q passes
  abbrev pub Passes : (ℕ → Bool) → ℕ → ℕ → Type 0
  Passes f p q = (k : ℕ) → p ≤ k → k < q → f (byte k) ≡ true

  -- the longest run from place p on ends before place q: its bytes pass, and the next one, if any, does not
  pub record Run (f : ℕ → Bool) (p q : ℕ) : Type 0 where
    pub some : p < q
    pub within : q ≤ length plan
    pub passes : Passes f p q
    pub stops : q < length plan → f (byte q) ≡ false

  -- the first place behind a token
  abbrev pub behind : Token → ℕ
  behind t = t.place + t.length

  -- what the plan has where it has the token t
  pub data TokenAt (t : Token) : Type 0 where
    a_word :
        Run is_letter t.place (behind t) → t.length ≤ longest_word
        → t.kind ≡ 1 → t.value ≡ spelled (text t.place (behind t)) → TokenAt t
    a_number :
        Run is_digit t.place (behind t) → t.value ≤ largest_number
        → t.kind ≡ 2 → t.value ≡ decimal (text t.place (behind t)) → TokenAt t
    a_mark :
        t.place < length plan → t.length ≡ 1
        → mark_kind (byte t.place) ≡ Some t.kind → t.value ≡ 0 → TokenAt t

  -- what it has where it has a fault
  pub data FaultAt : SourceFault → Type 0 where
    an_unknown_byte :
        (p : ℕ) → p < length plan → is_blank (byte p) ≡ false → is_letter (byte p) ≡ false → is_digit (byte p) ≡ false
        → mark_kind (byte p) ≡ None → FaultAt (UnknownByte p 0)
    a_long_word :
        (p q : ℕ) → Run is_letter p q → p + longest_word < q → FaultAt (LongWord p 0)
    a_large_number :
        (p q : ℕ) → Run is_digit p q → largest_number < decimal (text p q) → FaultAt (LargeNumber p 0)

  -- where the plan ends in this way
  abbrev pub EndsAt : Ending → ℕ → Type 0
  EndsAt end q = q ≡ length plan
  EndsAt (fault f) q = (q ≡ place f) × FaultAt f

  -- from place p on there are these tokens in order, with blanks alone around them, and then the ending
  abbrev pub Reads : ℕ → List Token → Ending → Type 0
  Reads p [] e = (q : ℕ) × (p ≤ q) × Passes is_blank p q × EndsAt e q
  Reads p (t ∷ ts) e = (p ≤ t.place) × Passes is_blank p t.place × TokenAt t × Reads (behind t) ts e

-- s is the one way to read the plan
pub record TheReading (plan : List ℕ) (s : Stream) : Type 0 where
  pub reads : Reads plan 0 s.tokens s.ending
  pub only : (other : Stream) → Reads plan 0 other.tokens other.ending → other ≡ s
