-- A test of every record, by its letter.
use Rattle.std.proofs.Common.{◌≡◌, ℕ, ◌<◌, Bool, T, List, Some}
use Rattle.layout.specs.declared.Letter.{Letter}
use Rattle.layout.specs.Records.{Sheet, count, record_at, byte, code}
use Rattle.layout.specs.Meaning.{placed}
use Rattle.layout.specs.Opening.{by_letter}
use Rattle.wellformed.specs.Formed.{Sorted}
use Rattle.wellformed.proofs.Says.{Says, itself}
use Rattle.wellformed.proofs.Rows.{Row, known, second, third, says_by_letter, at_letter}

-- record i is found by its own key, under this letter
abbrev pub OwnKey : Sheet → ℕ → Letter → Type 0
OwnKey sh i l = placed sh l (byte sh i 1) (second (record_at sh i) l) (third (record_at sh i) l) ≡ Some i

module _ (sh : Sheet) (f : List ℕ → Letter → Bool) where
  -- each record passes the test of its letter
  abbrev pub EachRecord : Type 0
  EachRecord = (i : ℕ) → i < count sh → T (by_letter (record_at sh i) (f (record_at sh i)))

  says_letter : (i : ℕ) (l : Letter) → byte sh i 0 ≡ code l →
      Says (by_letter (record_at sh i) (f (record_at sh i))) (T (f (record_at sh i) l))
  says_letter i l e =
      let s = says_by_letter sh i (f (record_at sh i)) (λ r m. T (f r m)) (λ m. itself (f (record_at sh i) m)) in
      record { to = λ h. at_letter sh (λ r m. T (f r m)) i l e (s.to h); back = λ h. s.back (l, e, h) }

  -- so does one that is known by a key
  pub passed_at : EachRecord → (l : Letter) (a b c i : ℕ) → Row sh l a b c i → T (f (record_at sh i) l)
  passed_at passed l a b c i r = (says_letter i l r.is_0).to (passed i r.within)

  -- and each does if those found by their own keys do
  pub each_passes : Sorted sh → ((i : ℕ) (l : Letter) → OwnKey sh i l → T (f (record_at sh i) l)) → EachRecord
  each_passes w h i lt =
      let k = known sh w i lt in (says_letter i k.which k.is_letter).back (h i k.which k.found)
