-- A replay of a saved text that is unfinished had fewer acts than are enough, of each sound code that left the state.
use Rattle.std.specs.Prelude.{◌≤◌, ◌+◌, ℕ, List, length}
use Rattle.ppm_strands.specs.Run.{End as CapsuleEnd}
use Rattle.ppm_words.specs.declared.named_array.NamedArray.{NamedArray}
use Rattle.ppm_ports.specs.Outside.{Ports}
use Rattle.ppm_code.specs.Strands.{Result}
use Rattle.ppm_code.specs.declared.code.CodeParts.{CodeParts}
use Rattle.ppm_depth.specs.Run.{ComesTo}
use Rattle.ppm_plan.specs.Faults.{acts_of}
use Rattle.ppm_plan.specs.Forms.{schedule_form}
use Rattle.ppm_plan.specs.Refusals.{IsAccepted}
use Rattle.ppm_plan.specs.declared.schedule_item.ScheduleItem.{ScheduleItem}
use Rattle.ppm_takeover.specs.Replays.{enough_acts_over_legs}
use Rattle.ppm_answers.specs.declared.answer.Answer.TheVariants as answers
use Rattle.ppm_answers.specs.declared.status.Status.{Status}
use Rattle.ppm_cli.specs.declared.replay.ReplaySavedOptions.{ReplaySavedOptions}
use Rattle.ppm_outcomes.specs.AsCode.{MayRun}
use Rattle.ppm_outcomes.specs.CodeResumes.{IsLeftByCode}
use Rattle.ppm_outcomes.specs.Legs.{struck_in_all}
use Rattle.ppm_outcomes.specs.Resumes.{SavedState}
use Rattle.ppm_legs.specs.CountedReplayRows.{WritesUnfinished as WritesCountedUnfinished}
use Rattle.ppm_legs.specs.SavedReplayRows.{WritesUnfinished}
use Rattle.ppm_legs.specs.SavedReplays.{StateReplays}

-- The code, run depth first on this input, has no end; or it has one, and the acts that may be made are fewer than are enough for these items, after the
-- legs of that code that left the state: those before the last one, and the last one.
abbrev pub NeedsMoreActsInAll : {code : CodeParts} {input : List NamedArray} {z : SavedState} → (options : ReplaySavedOptions) → List ScheduleItem
    → IsLeftByCode code input z → Type 0
NeedsMoreActsInAll {code} {input} {z} options items left = (end : CapsuleEnd Result) → ComesTo code input end
    → enough_acts_over_legs (acts_of items) z.shape.processors end.counts.capsules (struck_in_all left.start left.legs left.turns) (length left.legs + 1)
    ≤ options.turns
    → ⊥

-- with a schedule that is accepted: a replay from a state that is unfinished needs more acts, of each sound code that left the state
abbrev pub UnfinishedSavedNeedMore : Type 0
UnfinishedSavedNeedMore = (options : ReplaySavedOptions) (schedule : List ℕ) (items : List ScheduleItem) (z : SavedState)
    → IsAccepted schedule_form schedule z.shape.processors items → (acts : ℕ) → StateReplays options items z (answers.Unfinished acts)
    → (code : CodeParts) (input : List NamedArray) → MayRun code input → (left : IsLeftByCode code input z) → NeedsMoreActsInAll options items left

-- what the rows of `replay` of a saved text say more
pub record SavedReplayEnds (options : ReplaySavedOptions) (schedule : List ℕ) (o : Ports) (status : Status) : Type 0 where
  pub unfinished : (w : WritesUnfinished options schedule o) → (code : CodeParts) (input : List NamedArray) → MayRun code input
      → (left : IsLeftByCode code input w.read.2.state) → NeedsMoreActsInAll options w.read.2.has.items left

-- and those where its counts are told
pub record CountedSavedReplayEnds (options : ReplaySavedOptions) (schedule : List ℕ) (o : Ports) (status : Status) : Type 0 where
  pub unfinished : (w : WritesCountedUnfinished options schedule o) → (code : CodeParts) (input : List NamedArray) → MayRun code input
      → (left : IsLeftByCode code input w.replays.read.2.state) → NeedsMoreActsInAll options w.replays.read.2.has.items left
