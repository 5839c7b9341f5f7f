-- What the verdict tells is the refusal of the first pass that fails, of an opening's passes or of those behind them.
use Rattle.std.proofs.Common.{◌≡◌, ◌+◌, ◌⊎◌, List, [], ◌∷◌, ◌++◌, Some, None, Option, sym, ap, ◌∙◌, inl, inr}
use Rattle.layout.specs.declared.Refusal.{Refusal}
use Rattle.layout.specs.Refusals.{place}
use Rattle.layout.specs.Choices.{or_else, first}
use Rattle.layout.specs.Records.{Sheet, count}
use Rattle.layout.specs.Passes.{Pass, told}
use Rattle.layout.specs.Opening.{opening, opening_passes}
use Rattle.layout.specs.Checking.{unsafe_refused, incomplete_refused, checking_passes, verdict}
use Rattle.wellformed.specs.Told.{Tells, AllClean, NamesPlaces}
use Rattle.wellformed.proofs.Tests.{or_none, none_or, or_some, some_or, unless_some}
use Rattle.wellformed.proofs.Told.{clean, none_told, tells_first, opening_tells_first, or_itself, told_append}
use Rattle.exactness.specs.Exactness.{VerdictTellsFirst}

tells_either : (ps qs : List Pass) (x : Refusal) → Tells ps x ⊎ (AllClean ps × Tells qs x) → Tells (ps ++ qs) x
tells_either [] qs x (inl h) = absurd h
tells_either [] qs x (inr h) = h.1
tells_either (p ∷ ps) qs x (inl (inl h)) = inl h
tells_either (p ∷ ps) qs x (inl (inr h)) = inr (h.0, tells_either ps qs x (inl h.1))
tells_either (p ∷ ps) qs x (inr h) = inr (h.0.0, tells_either ps qs x (inr (h.0.1, h.1)))

either_tells : (ps qs : List Pass) (x : Refusal) → Tells (ps ++ qs) x → Tells ps x ⊎ (AllClean ps × Tells qs x)
either_tells [] qs x h = inr (tt, h)
either_tells (p ∷ ps) qs x (inl h) = inl (inl h)
either_tells (p ∷ ps) qs x (inr (c, h)) = go (either_tells ps qs x h)
  where
    go : Tells ps x ⊎ (AllClean ps × Tells qs x) → Tells (p ∷ ps) x ⊎ (AllClean (p ∷ ps) × Tells qs x)
    go (inl k) = inl (inr (c, k))
    go (inr (d, k)) = inr ((c, d), k)

module _ (sh : Sheet) where
  -- the refusal of the opening, else that of the conditions
  pub verdict_is : verdict sh ≡ or_else (opening sh) (told (checking_passes sh))
  unfolding verdict opening
  verdict_is = told_append (opening_passes sh) (checking_passes sh)

  -- nothing is refused exactly where neither refuses anything
  pub verdict_none : verdict sh ≡ None → (opening sh ≡ None) × AllClean (checking_passes sh)
  verdict_none e =
      let (opens, passes) = or_none (opening sh) (told (checking_passes sh)) (sym verdict_is ∙ e) in
      (opens, clean (checking_passes sh) passes)

  pub none_verdict : opening sh ≡ None → AllClean (checking_passes sh) → verdict sh ≡ None
  none_verdict opens passes = verdict_is ∙ none_or _ _ opens ∙ none_told (checking_passes sh) passes

  pub verdict_opens : verdict sh ≡ None → opening sh ≡ None
  verdict_opens e = (verdict_none e).0

  -- THE PASSES BEHIND AN OPENING, ONE BY ONE

  pub opening_told : {x : Refusal} → opening sh ≡ Some x → verdict sh ≡ Some x
  opening_told e = verdict_is ∙ some_or _ _ _ e

  pub unsafe_told : {x : Refusal} → opening sh ≡ None → first (unsafe_refused sh) (count sh) ≡ Some x →
      verdict sh ≡ Some x
  unsafe_told opens e = verdict_is ∙ none_or _ _ opens ∙ some_or _ _ _ e

  pub incomplete_told : {o : Option Refusal} → opening sh ≡ None → first (unsafe_refused sh) (count sh) ≡ None →
      first (incomplete_refused sh) (count sh + 1) ≡ o → verdict sh ≡ o
  incomplete_told opens safe e = verdict_is ∙ none_or _ _ opens ∙ none_or _ _ safe ∙ or_itself _ ∙ e

  pub checking_named : NamesPlaces (checking_passes sh)
  checking_named = (
    λ i x lt e. ap place (sym (unless_some _ _ x e)),
    (λ i x lt e. ap place (sym (unless_some _ _ x e)), tt),
  )

  opening_clean : opening sh ≡ None → AllClean (opening_passes sh)
  unfolding opening
  opening_clean = clean (opening_passes sh)

  clean_opening : AllClean (opening_passes sh) → opening sh ≡ None
  unfolding opening
  clean_opening = none_told (opening_passes sh)

pub verdict_tells_first : VerdictTellsFirst
verdict_tells_first sh x = (
  λ e. tells_either (opening_passes sh) (checking_passes sh) x (go (or_some _ _ x (sym (verdict_is sh) ∙ e))),
  λ h. back (either_tells (opening_passes sh) (checking_passes sh) x h),
)
  where
    go : (opening sh ≡ Some x) ⊎ ((opening sh ≡ None) × (told (checking_passes sh) ≡ Some x)) →
        Tells (opening_passes sh) x ⊎ (AllClean (opening_passes sh) × Tells (checking_passes sh) x)
    go (inl e) = inl ((opening_tells_first sh x).0 e)
    go (inr (o, e)) = inr (opening_clean sh o, ((tells_first (checking_passes sh) (checking_named sh)).1 x).0 e)

    back : Tells (opening_passes sh) x ⊎ (AllClean (opening_passes sh) × Tells (checking_passes sh) x) →
        verdict sh ≡ Some x
    back (inl h) = verdict_is sh ∙ some_or _ _ x ((opening_tells_first sh x).1 h)
    back (inr (c, h)) =
        verdict_is sh ∙ none_or _ _ (clean_opening sh c)
        ∙ ((tells_first (checking_passes sh) (checking_named sh)).1 x).1 h
