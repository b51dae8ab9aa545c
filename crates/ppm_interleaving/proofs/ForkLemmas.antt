-- Branches that are forked have the next numbers, and begin as their frames do.
use Rattle.std.proofs.Common.{◌≡◌, ◌<◌, ℕ, zero, suc, ◌+◌, Bool, cond, List, [], ◌∷◌, ◌++◌, length, refl, sym, ap, ◌∙◌, subst, Option, Some, None, arith}
use Rattle.std.specs.Prelude.{slice_get, map}
use Rattle.std.proofs.lemmas.Bool.{eq-eqb, ne_eqb}
use Rattle.ppm_strands.specs.Tree.{Words}
use Rattle.ppm_strands.specs.Strand.{Frame}
use Rattle.ppm_unseen.specs.Run.{numbered, count, Forked as HasForked}
use Rattle.ppm_code.specs.declared.location.FrameWord.{FrameWord}
use Rattle.ppm_filled.specs.Racing.{OwnWord, Place}
use Rattle.ppm_racy.specs.declared.code.RacyParts.{RacyParts}
use Rattle.ppm_interleaving.specs.declared.deed.Turn.TheVariants.{Step}
use Rattle.ppm_interleaving.specs.declared.running.Running.{Running}
use Rattle.ppm_interleaving.specs.declared.strand.Strand.{Strand}
use Rattle.ppm_interleaving.specs.declared.strand.Strand.TheVariants.{Running as IsRunning}
use Rattle.ppm_interleaving.specs.Steps.{BeginsFrame}
use Rattle.ppm_interleaving.specs.Shows.{ShowsStrand, system}
use Rattle.ppm_interleaving.specs.Turns.{Moment, moment, deeds}
use Rattle.ppm_interleaving.proofs.ShowLemmas.{sees_fork, begins_by_fork, waits_for_fork}

-- strands begin as frames do, one as one
abbrev pub BeginAll : List Running → List (Frame OwnWord Place) → Type 0
BeginAll [] [] = Unit {0}
BeginAll (r ∷ rs) (f ∷ fs) = BeginsFrame r f × BeginAll rs fs
BeginAll rs fs = ⊥

-- a strand that may be forked, with its frame: it begins, or is none of them
pub data BranchAt (found : Option Strand) (frame : Option (Frame OwnWord Place)) : Type 0 where
  Begins : (r : Running) (f : Frame OwnWord Place) → found ≡ Some (IsRunning r) → frame ≡ Some f → BeginsFrame r f → BranchAt found frame
  Past : found ≡ None → frame ≡ None → BranchAt found frame

branch_at : (n k : ℕ) (rs : List Running) (fs : List (Frame OwnWord Place)) → BeginAll rs fs
    → BranchAt (slice_get (map IsRunning rs) k) (numbered n fs (n + k))
branch_at n k [] [] b = Past refl refl
branch_at n k [] (f ∷ fs) b = absurd b
branch_at n k (r ∷ rs) [] b = absurd b
branch_at n zero (r ∷ rs) (f ∷ fs) b =
    Begins r f refl (ap (λ (t : Bool). cond t (Some f) (numbered (suc n) fs (n + 0))) (eq-eqb (n + 0) n (omega arith))) b.0
branch_at n (suc k) (r ∷ rs) (f ∷ fs) b =
    let past : numbered n (f ∷ fs) (n + suc k) ≡ numbered (suc n) fs (suc n + k) =
    ap (λ (t : Bool). cond t (Some f) (numbered (suc n) fs (n + suc k))) (ne_eqb (n + suc k) n (λ e. omega arith))
    ∙ ap (numbered (suc n) fs) (omega arith) in
    subst (BranchAt (slice_get (map IsRunning rs) k)) (sym past) (branch_at (suc n) k rs fs b.1)

-- a strand that was there has none of these numbers
numbered_before : (n j : ℕ) (fs : List (Frame OwnWord Place)) → j < n → numbered n fs j ≡ None
numbered_before n j [] less = refl
numbered_before n j (f ∷ fs) less =
    ap (λ (t : Bool). cond t (Some f) (numbered (suc n) fs j)) (ne_eqb j n (λ e. omega arith)) ∙ numbered_before (suc n) j fs (omega arith)

-- elements of a list that went on
pub get_front : {X : Type 0} (xs ys : List X) (j : ℕ) → j < length xs → slice_get (xs ++ ys) j ≡ slice_get xs j
get_front [] ys j less = absurd (omega arith)
get_front (x ∷ xs) ys zero less = refl
get_front (x ∷ xs) ys (suc j) less = get_front xs ys j (omega arith)

pub get_back : {X : Type 0} (xs ys : List X) (k : ℕ) → slice_get (xs ++ ys) (length xs + k) ≡ slice_get ys k
get_back [] ys k =
    let same : 0 + k ≡ k = omega arith in
    ap (slice_get ys) same
get_back (x ∷ xs) ys k =
    let same : length (x ∷ xs) + k ≡ suc (length xs + k) = omega arith in
    ap (slice_get (x ∷ (xs ++ ys))) same ∙ get_back xs ys k

module _ (code : RacyParts) (array_words : ℕ) (root : FrameWord → ℕ) (arrays : Words) (h : List Moment) (who : ℕ) (fs : List (Frame OwnWord Place)) where
  -- a strand after the fork of another one, where it was there before
  seen : (found : Option Strand) (j : ℕ) → numbered (count (system code array_words root arrays) (deeds h)) fs j ≡ None → (who ≡ j → ⊥)
      → ShowsStrand code array_words root arrays found j h → ShowsStrand code array_words root arrays found j (moment (Step who) (Some (HasForked who fs)) ∷ h)
  seen None j none other shows = waits_for_fork code array_words root arrays h j who fs none other shows
  seen (Some x) j none other shows = sees_fork code array_words root arrays h x j who fs other shows

  pub seen_before : (found : Option Strand) (j : ℕ) → j < count (system code array_words root arrays) (deeds h) → (who ≡ j → ⊥)
      → ShowsStrand code array_words root arrays found j h → ShowsStrand code array_words root arrays found j (moment (Step who) (Some (HasForked who fs)) ∷ h)
  seen_before found j less other shows =
      seen found j (numbered_before (count (system code array_words root arrays) (deeds h)) j fs less) other shows

  -- or where it was not
  pub seen_after : (rs : List Running) (k : ℕ) → BeginAll rs fs → (who ≡ count (system code array_words root arrays) (deeds h) + k → ⊥)
      → ShowsStrand code array_words root arrays None (count (system code array_words root arrays) (deeds h) + k) h
      → ShowsStrand code array_words root arrays (slice_get (map IsRunning rs) k) (count (system code array_words root arrays) (deeds h) + k)
      (moment (Step who) (Some (HasForked who fs)) ∷ h)
  seen_after rs k begin other shows = by (branch_at (count (system code array_words root arrays) (deeds h)) k rs fs begin)
    where
      by : BranchAt (slice_get (map IsRunning rs) k) (numbered (count (system code array_words root arrays) (deeds h)) fs (count (system code array_words root arrays) (deeds h) + k))
          → ShowsStrand code array_words root arrays (slice_get (map IsRunning rs) k) (count (system code array_words root arrays) (deeds h) + k)
          (moment (Step who) (Some (HasForked who fs)) ∷ h)
      by (Begins r f found frame begins) =
          subst (λ x. ShowsStrand code array_words root arrays x (count (system code array_words root arrays) (deeds h) + k) (moment (Step who) (Some (HasForked who fs)) ∷ h))
          (sym found) (begins_by_fork code array_words root arrays h r f (count (system code array_words root arrays) (deeds h) + k) who fs begins frame other shows)
      by (Past found frame) =
          subst (λ x. ShowsStrand code array_words root arrays x (count (system code array_words root arrays) (deeds h) + k) (moment (Step who) (Some (HasForked who fs)) ∷ h))
          (sym found) (waits_for_fork code array_words root arrays h (count (system code array_words root arrays) (deeds h) + k) who fs frame other shows)
