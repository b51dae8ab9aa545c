-- A machine after a turn shows the run with that turn.
use Rattle.std.proofs.Common.{◌≡◌, ◌<◌, ℕ, zero, suc, List, [], ◌∷◌, length, set, refl, sym, ap, ◌∙◌, subst, Option, Some, None, arith}
use Rattle.std.specs.Prelude.{slice_get}
use Rattle.ppm_strands.specs.Tree.{Words}
use Rattle.ppm_strands.specs.Strand.{Frame}
use Rattle.ppm_unseen.specs.Run.{System, Deed, doer, State, NotYet, UnderWay, Waits, IsOver, numbered, begun_if_any, once_done, count, asked, nothing}
use Rattle.ppm_unseen.specs.Run.{Changed as HasChanged, Forked as HasForked, Finished as IsFinished}
use Rattle.ppm_code.specs.declared.location.FrameWord.{FrameWord}
use Rattle.ppm_code.specs.Strands.{Result}
use Rattle.ppm_filled.specs.Racing.{OwnWord, Place, Exit}
use Rattle.ppm_racy.specs.declared.code.RacyParts.{RacyParts}
use Rattle.ppm_interleaving.specs.declared.deed.Turn.{Turn}
use Rattle.ppm_interleaving.specs.declared.deed.Turn.TheVariants.{Step}
use Rattle.ppm_interleaving.specs.declared.running.Running.{Running}
use Rattle.ppm_interleaving.specs.declared.strand.Strand.{Strand}
use Rattle.ppm_interleaving.specs.declared.strand.Strand.TheVariants.{Running as IsRunning, Waiting as IsWaiting, Tells, Over}
use Rattle.ppm_interleaving.specs.Steps.{BeginsFrame}
use Rattle.ppm_interleaving.specs.Shows.{ShowsState, ShowsStrand, system}
use Rattle.ppm_interleaving.specs.Turns.{Moment, moment, deeds, ComesBy, Others, came, strand_of}
use Rattle.ppm_interleaving.proofs.EndLemmas.{begun_state, begun_asks}

-- a strand that was put back, and the others
pub set_there : {X : Type 0} (xs : List X) (i : ℕ) (x : X) → i < length xs → slice_get (set xs i x) i ≡ Some x
set_there [] i x less = absurd (omega arith)
set_there (y ∷ ys) zero x less = refl
set_there (y ∷ ys) (suc i) x less = set_there ys i x (omega arith)

pub set_elsewhere : {X : Type 0} (xs : List X) (i j : ℕ) (x : X) → (i ≡ j → ⊥) → slice_get (set xs i x) j ≡ slice_get xs j
set_elsewhere [] i j x other = refl
set_elsewhere (y ∷ ys) zero zero x other = absurd (other refl)
set_elsewhere (y ∷ ys) zero (suc j) x other = refl
set_elsewhere (y ∷ ys) (suc i) zero x other = refl
set_elsewhere (y ∷ ys) (suc i) (suc j) x other = set_elsewhere ys i j x (λ e. other (ap suc e))

module _ (code : RacyParts) (array_words : ℕ) (root : FrameWord → ℕ) (arrays : Words) (h : List Moment) where
  abbrev pub s : System OwnWord Place Exit Result
  s = system code array_words root arrays

  -- a strand in the turn of another one, of which it sees nothing
  pub rests : (found : Option Strand) (j : ℕ) (turn : Turn) → (strand_of turn ≡ j → ⊥) → ShowsStrand code array_words root arrays found j h
      → ShowsStrand code array_words root arrays found j (moment turn None ∷ h)
  rests found j turn other shows = (shows.0, Others turn None other tt shows.1, shows.2, shows.3)

  -- or a deed that leaves it where it is
  sees : (found : Option Strand) (j who : ℕ) (d : Deed OwnWord Place Result) → doer d ≡ who → (who ≡ j → ⊥)
      → ((σ : State OwnWord Place Exit) → ShowsState code array_words found σ → once_done s j (deeds h) d σ ≡ σ)
      → ShowsStrand code array_words root arrays found j h → ShowsStrand code array_words root arrays found j (moment (Step who) (Some d) ∷ h)
  sees found j who d is other same shows = (
    once_done s j (deeds h) d shows.0,
    Others (Step who) (Some d) other is shows.1,
    subst (ShowsState code array_words found) (sym (same shows.0 shows.2)) shows.2,
    shows.3,
  )

  -- no strand is moved by a change or an end of another one
  by_change : (j who x v : ℕ) (σ : State OwnWord Place Exit) → once_done s j (deeds h) (HasChanged who x v) σ ≡ σ
  by_change j who x v NotYet = refl
  by_change j who x v (UnderWay k rest o) = refl
  by_change j who x v (Waits g n fs) = refl
  by_change j who x v IsOver = refl

  by_finish : (j who : ℕ) (result : Result) (σ : State OwnWord Place Exit) → once_done s j (deeds h) (IsFinished who result) σ ≡ σ
  by_finish j who result NotYet = refl
  by_finish j who result (UnderWay k rest o) = refl
  by_finish j who result (Waits g n fs) = refl
  by_finish j who result IsOver = refl

  -- nor one that is there by a fork
  by_fork : (x : Strand) (j : ℕ) (d : Deed OwnWord Place Result) (σ : State OwnWord Place Exit) → ShowsState code array_words (Some x) σ
      → once_done s j (deeds h) d σ ≡ σ
  by_fork (IsRunning r) j d σ shows = subst (λ (τ : State OwnWord Place Exit). once_done s j (deeds h) d τ ≡ τ) (sym shows.2) refl
  by_fork (IsWaiting w) j d σ shows = subst (λ (τ : State OwnWord Place Exit). once_done s j (deeds h) d τ ≡ τ) (sym shows.3) refl
  by_fork (Tells f) j d σ shows = subst (λ (τ : State OwnWord Place Exit). once_done s j (deeds h) d τ ≡ τ) (sym shows.1) refl
  by_fork (Over f) j d σ shows = subst (λ (τ : State OwnWord Place Exit). once_done s j (deeds h) d τ ≡ τ) (sym shows) refl

  pub sees_change : (found : Option Strand) (j who x v : ℕ) → (who ≡ j → ⊥) → ShowsStrand code array_words root arrays found j h
      → ShowsStrand code array_words root arrays found j (moment (Step who) (Some (HasChanged who x v)) ∷ h)
  sees_change found j who x v other shows = sees found j who (HasChanged who x v) refl other (λ σ there. by_change j who x v σ) shows

  pub sees_finish : (found : Option Strand) (j who : ℕ) (result : Result) → (who ≡ j → ⊥) → ShowsStrand code array_words root arrays found j h
      → ShowsStrand code array_words root arrays found j (moment (Step who) (Some (IsFinished who result)) ∷ h)
  sees_finish found j who result other shows = sees found j who (IsFinished who result) refl other (λ σ there. by_finish j who result σ) shows

  pub sees_fork : (x : Strand) (j who : ℕ) (fs : List (Frame OwnWord Place)) → (who ≡ j → ⊥) → ShowsStrand code array_words root arrays (Some x) j h
      → ShowsStrand code array_words root arrays (Some x) j (moment (Step who) (Some (HasForked who fs)) ∷ h)
  sees_fork x j who fs other shows = sees (Some x) j who (HasForked who fs) refl other (λ σ there. by_fork x j (HasForked who fs) σ there) shows

  -- a strand that isn't there yet
  pub not_yet : (j : ℕ) → ShowsStrand code array_words root arrays None j h → (c : ComesBy s j h NotYet) × (asked (came s c) ≡ nothing)
  not_yet j shows = subst (λ (σ : State OwnWord Place Exit). (c : ComesBy s j h σ) × (asked (came s c) ≡ nothing)) shows.2 (shows.1, shows.3)

  -- a branch begins
  pub begins_by_fork : (r : Running) (f : Frame OwnWord Place) (j who : ℕ) (fs : List (Frame OwnWord Place)) → BeginsFrame r f
      → numbered (count s (deeds h)) fs j ≡ Some f → (who ≡ j → ⊥) → ShowsStrand code array_words root arrays None j h
      → ShowsStrand code array_words root arrays (Some (IsRunning r)) j (moment (Step who) (Some (HasForked who fs)) ∷ h)
  begins_by_fork r f j who fs begins is other shows = (
    begun_if_any s (numbered (count s (deeds h)) fs j),
    Others (Step who) (Some (HasForked who fs)) other refl (not_yet j shows).0,
    (f.own, begins.own, ap (begun_if_any s) is ∙ begun_state code array_words root arrays r f begins),
    (not_yet j shows).1 ∙ sym (begun_asks r.capsule r.own r begins.begun),
  )

  -- a strand that isn't forked by that
  pub waits_for_fork : (j who : ℕ) (fs : List (Frame OwnWord Place)) → numbered (count s (deeds h)) fs j ≡ None → (who ≡ j → ⊥)
      → ShowsStrand code array_words root arrays None j h
      → ShowsStrand code array_words root arrays None j (moment (Step who) (Some (HasForked who fs)) ∷ h)
  waits_for_fork j who fs is other shows = (
    begun_if_any s (numbered (count s (deeds h)) fs j),
    Others (Step who) (Some (HasForked who fs)) other refl (not_yet j shows).0,
    ap (begun_if_any s) is,
    (not_yet j shows).1,
  )
