-- Laws of replays: unfinished ones need more acts, and with acts and room enough each ends.
use Rattle.std.specs.Prelude.{ℕ, List}
use Rattle.ppm_words.specs.declared.named_array.NamedArray.{NamedArray}
use Rattle.ppm_code.specs.declared.code.CodeParts.{CodeParts}
use Rattle.ppm_depth.specs.Sound.{IsSound}
use Rattle.ppm_case.specs.Case.{IsCaseOf}
use Rattle.ppm_tree.specs.Tree.{ProgramTree}
use Rattle.ppm_tree.specs.Program.{initial_arrays}
use Rattle.ppm_program.specs.Programs.{HasProgram}
use Rattle.ppm_cut_code.specs.Routines.{code_of}
use Rattle.ppm_plan.specs.Forms.{schedule_form}
use Rattle.ppm_plan.specs.Refusals.{IsAccepted}
use Rattle.ppm_plan.specs.declared.schedule_item.ScheduleItem.{ScheduleItem}
use Rattle.ppm_answers.specs.declared.answer.Answer.{Answer}
use Rattle.ppm_answers.specs.declared.answer.Answer.TheVariants as answers
use Rattle.ppm_cli.specs.declared.replay.ReplayOptions.{ReplayOptions}
use Rattle.ppm_cli.specs.Words.{AreReplayed}
use Rattle.ppm_outcomes.specs.AsCode.{MayRun}
use Rattle.ppm_replay_command.specs.CaseReplays.{ReplayCaseHas}
use Rattle.ppm_outcomes.specs.Replays.{CodeHas, ProgramHas, ReplayHas}
use Rattle.ppm_replay_command.specs.CompleteReplays.{NeedsMoreActs, ReplayIsEnough}

-- with options in their ranges, and a schedule that is accepted: a replay that is unfinished, of a sound code or of a text's program, needs more acts
abbrev pub UnfinishedNeedMore : Type 0
UnfinishedNeedMore = (options : ReplayOptions) → AreReplayed options
    → (schedule : List ℕ) (items : List ScheduleItem) → IsAccepted schedule_form schedule options.processors items
    → (code : CodeParts) (input : List NamedArray) → MayRun code input
    → (acts : ℕ) → CodeHas options items code input (answers.Unfinished acts) → NeedsMoreActs options items code input

abbrev pub UnfinishedProgramsNeedMore : Type 0
UnfinishedProgramsNeedMore = (options : ReplayOptions) → AreReplayed options
    → (schedule : List ℕ) (items : List ScheduleItem) → IsAccepted schedule_form schedule options.processors items
    → (text : List ℕ) (t : ProgramTree) → HasProgram text t
    → (acts : ℕ) → ProgramHas options items t (answers.Unfinished acts) → NeedsMoreActs options items (code_of t) (initial_arrays t)

-- the answer of a replay that ended: with arrays, or in a trap
abbrev pub IsReplayEnd : Answer → Type 0
IsReplayEnd (answers.EndedWith arrays tally) = Unit {0}
IsReplayEnd (answers.TrappedWith trap line tally) = Unit {0}
IsReplayEnd answer = ⊥

-- with options in their ranges, and a schedule that is accepted: where that is enough for a sound code, its replay ends
abbrev pub ReplaysOfCodeComplete : Type 0
ReplaysOfCodeComplete = (options : ReplayOptions) → AreReplayed options
    → (schedule : List ℕ) (items : List ScheduleItem) → IsAccepted schedule_form schedule options.processors items
    → (code : CodeParts) (input : List NamedArray) → MayRun code input → ReplayIsEnough options items code input
    → (answer : Answer) → CodeHas options items code input answer → IsReplayEnd answer

-- where a schedule is enough for a text's program, each answer of the text is that its replay ended
abbrev pub ReplaysComplete : Type 0
ReplaysComplete = (options : ReplayOptions) → AreReplayed options
    → (schedule : List ℕ) (items : List ScheduleItem) → IsAccepted schedule_form schedule options.processors items
    → (text : List ℕ) (t : ProgramTree) → HasProgram text t → ReplayIsEnough options items (code_of t) (initial_arrays t)
    → (answer : Answer) → ReplayHas options schedule text answer → IsReplayEnd answer

-- and so where it is enough for a text's sound case
abbrev pub CaseReplaysComplete : Type 0
CaseReplaysComplete = (options : ReplayOptions) → AreReplayed options
    → (schedule : List ℕ) (items : List ScheduleItem) → IsAccepted schedule_form schedule options.processors items
    → (text : List ℕ) (code : CodeParts) (input : List NamedArray) → IsCaseOf text code input → IsSound code input
    → ReplayIsEnough options items code input
    → (answer : Answer) → ReplayCaseHas options schedule text answer → IsReplayEnd answer
