-- What one step of a strand comes to beside the others.
use Rattle.std.specs.Prelude.{◌≡◌, ℕ, List, [], ◌∷◌, ◌++◌, length, get_or, set, Option, Some, None}
use Rattle.ppm_strands.specs.Ahead.{put}
use Rattle.ppm_strands.specs.Tree.{Words}
use Rattle.ppm_strands.specs.Strand.{Frame}
use Rattle.ppm_unseen.specs.Run.{Deed, count, now, Changed as HasChanged, Forked as HasForked, Finished as IsFinished}
use Rattle.ppm_code.specs.declared.location.FrameWord.{FrameWord}
use Rattle.ppm_code.specs.Strands.{Result}
use Rattle.ppm_filled.specs.Racing.{OwnWord, Place}
use Rattle.ppm_racy.specs.declared.code.RacyParts.{RacyParts}
use Rattle.ppm_interleaving.specs.declared.deed.Deed.{Deed as Told}
use Rattle.ppm_interleaving.specs.declared.deed.Deed.TheVariants as told
use Rattle.ppm_interleaving.specs.declared.deed.Turn.TheVariants.{Step, Fault}
use Rattle.ppm_interleaving.specs.declared.ending.Opened.{Opened}
use Rattle.ppm_interleaving.specs.declared.ending.Opened.TheVariants as opened
use Rattle.ppm_interleaving.specs.declared.stepped.Stepped.{Stepped}
use Rattle.ppm_interleaving.specs.declared.stepped.Stepped.TheVariants.{Goes, Changed, Calls, Forks, Closes}
use Rattle.ppm_interleaving.specs.declared.strand.Strand.{Strand}
use Rattle.ppm_interleaving.specs.declared.strand.Strand.TheVariants.{Running, Waiting, Over}
use Rattle.ppm_interleaving.specs.Steps.{BeginsFrame, result_of}
use Rattle.ppm_interleaving.specs.Shows.{FinishesAre, ShowsStrand, finish_in, finish_of, system}
use Rattle.ppm_interleaving.specs.Turns.{Moment, moment, deeds}

-- what an end opens, as a step
abbrev pub as_step : Opened → Stepped
as_step (opened.GoesOn r) = Goes (Running r)
as_step (opened.Calls r w) = Calls r w
as_step (opened.Forks l r w) = Forks l r w
as_step (opened.Closes f) = Closes f

-- the words after it: one is changed, or none
abbrev pub WordsAfter : (words : List ℕ) → Stepped → (after : List ℕ) → Type 0
WordsAfter words (Changed r word was is) after = (was ≡ get_or words word 0) × (length after ≡ length words)
    × ((x : ℕ) → get_or after x 0 ≡ put (λ y. get_or words y 0) word is x)
WordsAfter words stepped after = after ≡ words

module _ (code : RacyParts) (array_words : ℕ) (root : FrameWord → ℕ) (arrays : Words) where
  -- words and strands as a run has them
  pub record IsBeside (t : List (Deed OwnWord Place Result)) (array : List ℕ) (others : List Strand) : Type 0 where
    pub words : (x : ℕ) → now (system code array_words root arrays) t x ≡ get_or array x 0
    pub word_count : length array ≡ array_words
    pub strand_count : count (system code array_words root arrays) t ≡ length others
    pub finishes : FinishesAre (finish_in others) t

  -- where the strand with a number is after its step, and which deed the step was, if it was one
  abbrev pub StepsTo : List Moment → (i : ℕ) → Strand → Stepped → Type 0
  StepsTo h i old (Goes new) = ShowsStrand code array_words root arrays (Some new) i (moment (Step i) None ∷ h) × (finish_of (Some new) ≡ finish_of (Some old))
  StepsTo h i old (Changed r word was is) = ShowsStrand code array_words root arrays (Some (Running r)) i (moment (Step i) (Some (HasChanged i word is)) ∷ h)
      × (finish_of (Some old) ≡ None)
  StepsTo h i old (Calls r w) = (f : Frame OwnWord Place) × BeginsFrame r f
      × ShowsStrand code array_words root arrays (Some (Waiting w)) i (moment (Step i) (Some (HasForked i (f ∷ []))) ∷ h) × (finish_of (Some old) ≡ None)
  StepsTo h i old (Forks l r w) = (e : Frame OwnWord Place) × (f : Frame OwnWord Place) × BeginsFrame l e × BeginsFrame r f
      × ShowsStrand code array_words root arrays (Some (Waiting w)) i (moment (Step i) (Some (HasForked i (e ∷ f ∷ []))) ∷ h) × (finish_of (Some old) ≡ None)
  StepsTo h i old (Closes f) = ShowsStrand code array_words root arrays (Some (Over f)) i (moment (Step i) (Some (IsFinished i (result_of f))) ∷ h)
      × (finish_of (Some old) ≡ None)

-- a strand makes a step, in any run in which it is
abbrev pub MakesStep : RacyParts → (strand : Strand) → (strands : List Strand) → (words : List ℕ) → Stepped → (after : List ℕ) → Type 0
MakesStep code strand strands words stepped after = WordsAfter words stepped after
    × ((root : FrameWord → ℕ) (arrays : Words) (h : List Moment) (i : ℕ)
    → IsBeside code (length words) root arrays (deeds h) words strands → ShowsStrand code (length words) root arrays (Some strand) i h
    → StepsTo code (length words) root arrays h i strand stepped)

-- a soft fault befalls a strand, in any run in which it is
abbrev pub FailsTo : (old new : Strand) → Type 0
FailsTo old new = (finish_of (Some new) ≡ finish_of (Some old))
    × ((code : RacyParts) (array_words : ℕ) (root : FrameWord → ℕ) (arrays : Words) (h : List Moment) (i : ℕ)
    → ShowsStrand code array_words root arrays (Some old) i h → ShowsStrand code array_words root arrays (Some new) i (moment (Fault i) None ∷ h))

-- the strand with a number is put back after its step, with the branches that it forked; and what is told of that
abbrev pub PutsBack : (strands : List Strand) → (i : ℕ) → Stepped → Option Told → (after : List Strand) → Type 0
PutsBack strands i (Goes x) tells after = (tells ≡ None) × (after ≡ set strands i x)
PutsBack strands i (Changed r word was is) tells after = (tells ≡ Some (told.Changed word was is)) × (after ≡ set strands i (Running r))
PutsBack strands i (Calls r w) tells after = (tells ≡ Some (told.Forked (length strands) 1)) × (after ≡ set strands i (Waiting w) ++ Running r ∷ [])
PutsBack strands i (Forks l r w) tells after =
    (tells ≡ Some (told.Forked (length strands) 2)) × (after ≡ set strands i (Waiting w) ++ Running l ∷ Running r ∷ [])
PutsBack strands i (Closes f) tells after = (tells ≡ Some (told.Finished f)) × (after ≡ set strands i (Over f))
