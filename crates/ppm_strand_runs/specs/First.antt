-- The first moment of a run after which something does not stand.
use Rattle.std.specs.Prelude.{◌≡◌, ℕ, ◌+◌, List, [], ◌∷◌, ◌++◌, length, Option, Some, None}
use Rattle.ppm_strands.specs.Tree.{Words}
use Rattle.ppm_unseen.specs.Run.{Deed}
use Rattle.ppm_code.specs.declared.location.FrameWord.{FrameWord}
use Rattle.ppm_code.specs.Strands.{Result}
use Rattle.ppm_filled.specs.Racing.{OwnWord, Place}
use Rattle.ppm_racy.specs.declared.code.RacyParts.{RacyParts}
use Rattle.ppm_interleaving.specs.declared.deed.Turn.{Turn}
use Rattle.ppm_interleaving.specs.Falls.{AllStand}
use Rattle.ppm_interleaving.specs.Shows.{system, IsTold, IsFirstFallen}
use Rattle.ppm_interleaving.specs.Turns.{Moment, moment, deeds, strand_of}
use Rattle.ppm_strand_runs.specs.declared.done.Fall.{Fall}
use Rattle.ppm_strand_runs.specs.Made.{IsMadeIn}

module _ (code : RacyParts) (array_words : ℕ) (root : FrameWord → ℕ) (arrays : Words) where
  -- after each of these moments all stands
  abbrev pub AllStood : List Moment → Type 0
  AllStood [] = Unit {0}
  AllStood (m ∷ h) = AllStand (system code array_words root arrays) (m ∷ h) × AllStood h

  -- of moments this is the first fall: it comes after the turn of this strand, with what that did, and the change was made in its turn; and after all
  -- moments before that all stands
  pub record IsFirst (h : List Moment) (fall : Fall) : Type 0 where
    pub later : List Moment
    pub turn : Turn
    pub deed : Option (Deed OwnWord Place Result)
    pub before : List Moment
    pub order : h ≡ later ++ moment turn deed ∷ before
    pub stood : AllStood before
    pub is : IsFirstFallen code array_words root arrays (moment turn deed ∷ before) fall.fallen
    pub made : IsMadeIn code array_words root arrays fall.fallen.strand fall.fallen.number (moment turn deed ∷ before) fall.made
    pub number : fall.turn ≡ length before + 1
    pub strand : fall.strand ≡ strand_of turn
    pub told : IsTold code array_words root arrays (strand_of turn) fall.deed (deeds before) deed

  -- what is said of moments: there is no fall, or this is the first one
  abbrev pub IsFirstFall : List Moment → Option Fall → Type 0
  IsFirstFall h None = AllStood h
  IsFirstFall h (Some fall) = IsFirst h fall
