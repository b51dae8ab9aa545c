-- Runs of strands by a schedule.
use Rattle.std.specs.Prelude.{◌≡◌, ◌≤◌, ℕ, ◌+◌, List, [], ◌∷◌, ◌++◌, length, Option, Some, None}
use Rattle.ppm_strands.specs.Tree.{Words}
use Rattle.ppm_unseen.specs.Run.{System, Deed}
use Rattle.ppm_words.specs.declared.named_array.NamedArray.{NamedArray}
use Rattle.ppm_code.specs.declared.location.FrameWord.{FrameWord}
use Rattle.ppm_code.specs.Inputs.{words_in}
use Rattle.ppm_code.specs.Strands.{Result}
use Rattle.ppm_depth.specs.Start.{words_of, root_own}
use Rattle.ppm_filled.specs.Racing.{OwnWord, Place, Exit}
use Rattle.ppm_plan.specs.declared.strand_item.StrandItem.{StrandItem}
use Rattle.ppm_racy.specs.declared.code.RacyParts.{RacyParts}
use Rattle.ppm_racy.specs.Code.{plain_code}
use Rattle.ppm_interleaving.specs.declared.deed.Deed.{Deed as Told}
use Rattle.ppm_interleaving.specs.declared.deed.Turn.{Turn}
use Rattle.ppm_interleaving.specs.declared.machine.Machine.{Machine}
use Rattle.ppm_interleaving.specs.Shows.{Shows, IsTold, system, finish_in}
use Rattle.ppm_interleaving.specs.Turns.{Moment, moment, deeds, strand_of}
use Rattle.ppm_strand_runs.specs.declared.done.Done.{Done}
use Rattle.ppm_strand_runs.specs.declared.done.Fall.{Fall}
use Rattle.ppm_strand_runs.specs.declared.made.Made.{Made}
use Rattle.ppm_strand_runs.specs.declared.run.StrandRun.{StrandRun}
use Rattle.ppm_strand_runs.specs.First.{IsFirstFall}
use Rattle.ppm_strand_runs.specs.Made.{AreMade}
use Rattle.ppm_strand_runs.specs.Order.{InOrder, turns_of}

-- what is told of a turn: its deed, if others saw one
abbrev pub done_in : (turn strand : ℕ) → Option Told → List Done
done_in turn strand None = []
done_in turn strand (Some deed) = record { turn = turn; strand = strand; deed = deed } ∷ []

module _ (code : RacyParts) (array_words : ℕ) (root : FrameWord → ℕ) (arrays : Words) where
  -- what is told of moments: the deed of each turn that made one, in their order, with the number of the turn from 1
  pub data AreDone : List Moment → List Done → Type 0 where
    Nothing : AreDone [] []
    Then : {h : List Moment} {done : List Done} (turn : Turn) (told : Option Told) (d : Option (Deed OwnWord Place Result)) → AreDone h done
        → IsTold code array_words root arrays (strand_of turn) told (deeds h) d
        → AreDone (moment turn d ∷ h) (done ++ done_in (length h + 1) (strand_of turn) told)

  -- a run has come along moments: its machine shows them, and it has their deeds, the turns of changes, and their first fall
  pub record HasCome (h : List Moment) (run : StrandRun) : Type 0 where
    pub shows : Shows code array_words root arrays h run.machine
    pub turns : run.turns ≡ length h
    pub done : AreDone h run.done.items
    pub made : AreMade code array_words root arrays h run.made.items
    pub fall : IsFirstFall code array_words root arrays h run.fall

-- whatever moments a run has come along, it then comes along these and a turn
abbrev pub AddsTurn : RacyParts → Turn → (old new : StrandRun) → Type 0
AddsTurn code turn old new = (root : FrameWord → ℕ) (arrays : Words) (array_words : ℕ) (h : List Moment) → HasCome code array_words root arrays h old
    → (d : Option (Deed OwnWord Place Result)) × HasCome code array_words root arrays (moment turn d ∷ h) new

-- what the first fall is, once the machine shows a turn more
abbrev pub SeesTurn : Machine → List Made → Option Fall → (turn strand : ℕ) → Option Told → Option Fall → Type 0
SeesTurn machine made fall number strand told result = (code : RacyParts) (array_words : ℕ) (root : FrameWord → ℕ) (arrays : Words) (h : List Moment)
    (turn : Turn) (d : Option (Deed OwnWord Place Result)) → Shows code array_words root arrays (moment turn d ∷ h) machine
    → AreMade code array_words root arrays (moment turn d ∷ h) made → number ≡ length h + 1 → strand ≡ strand_of turn → IsTold code array_words root arrays (strand_of turn) told (deeds h) d
    → IsFirstFall code array_words root arrays h fall → IsFirstFall code array_words root arrays (moment turn d ∷ h) result

module _ (code : RacyParts) (input : List NamedArray) where
  -- the run of a code with arrays: the words of these, and their regions in the root's slots
  abbrev pub Comes : List Moment → StrandRun → Type 0
  Comes h run = HasCome code (length (words_in input)) (root_own (plain_code code) input) (words_of (words_in input)) h run

  abbrev pub strands_of : System OwnWord Place Exit Result
  strands_of = system code (length (words_in input)) (root_own (plain_code code) input) (words_of (words_in input))

  -- before any turn
  abbrev pub IsStart : StrandRun → Type 0
  IsStart run = Comes [] run

  -- the run of a schedule: its moments, in the order of the schedule, until the root's strand is over, or after so many turns
  pub record IsRunOf (schedule : List StrandItem) (limit : ℕ) (run : StrandRun) : Type 0 where
    pub moments : List Moment
    pub left : List Turn
    pub next : ℕ
    pub order : InOrder strands_of (turns_of schedule) moments left next
    pub come : Comes moments run
    pub within : run.turns ≤ limit
    pub ended : finish_in run.machine.strands.items 0 ≡ None → run.turns ≡ limit
