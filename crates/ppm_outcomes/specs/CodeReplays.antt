-- What an answer says where it is that of a replay of a code on an input, with options and a schedule as `replay` has them, and no program in sight.
use Rattle.std.specs.Prelude.{◌≡◌, ℕ, List, length}
use Rattle.ppm_words.specs.declared.named_array.NamedArray.{NamedArray}
use Rattle.ppm_words.specs.declared.outcome.Outcome.{Outcome}
use Rattle.ppm_words.specs.declared.outcome.Outcome.TheVariants as outcome
use Rattle.ppm_code.specs.declared.code.CodeParts.{CodeParts}
use Rattle.ppm_plan.specs.declared.schedule_item.ScheduleItem.{ScheduleItem}
use Rattle.ppm_plan.specs.Forms.{schedule_form}
use Rattle.ppm_plan.specs.Refusals.{IsAccepted}
use Rattle.ppm_step.specs.declared.turn.Turn.{Turn}
use Rattle.ppm_choice.specs.Schedules.{schedule_turns}
use Rattle.ppm_core.specs.Situation.{Situation}
use Rattle.ppm_answers.specs.declared.answer.Answer.{Answer}
use Rattle.ppm_answers.specs.declared.answer.Answer.TheVariants as answers
use Rattle.ppm_answers.specs.declared.tally.Tally.{Tally}
use Rattle.ppm_cli.specs.declared.replay.ReplayOptions.{ReplayOptions}
use Rattle.ppm_cli.specs.Words.{AreReplayed}
use Rattle.ppm_outcomes.specs.AsCode.{MayRun, CodeNeedsMoreRoom, EndsAsCode, IsAsCode}
use Rattle.ppm_outcomes.specs.Meant.{forked_in}
use Rattle.ppm_outcomes.specs.Replays.{CodeHas}

module _ (options : ReplayOptions) (code : CodeParts) (input : List NamedArray) (start : Situation) (turns : List Turn) where
  -- the replay ends as the code does, and the tally counts the branches that were forked, and as many takes
  pub record EndsTallied (o : Outcome) (tally : Tally) : Type 0 where
    pub ends : EndsAsCode start turns code input o
    pub forks : tally.forks ≡ length (forked_in start turns)
    pub takes : tally.forks ≡ tally.takes

  -- What it says: an outcome is that of the code, run depth first, and this replay ends so; or all acts were made; or that run takes more words than
  -- a pool has, or has no end. No other answer comes.
  abbrev pub SaysAsReplay : Answer → Type 0
  SaysAsReplay (answers.EndedWith arrays tally) = EndsTallied (outcome.Ended arrays) tally
  SaysAsReplay (answers.TrappedWith trap line tally) = EndsTallied (outcome.Trapped trap line) tally
  SaysAsReplay (answers.Unfinished acts) = acts ≡ options.turns
  SaysAsReplay (answers.OutOfRoom place) = CodeNeedsMoreRoom code input options.room
  SaysAsReplay answer = ⊥

-- the turns that a schedule says, from a machine
abbrev pub turns_in : ReplayOptions → List ScheduleItem → Situation → List Turn
turns_in options items m = schedule_turns m.shape m.code m.state items options.turns

-- with options in their ranges and a schedule that is accepted, of each sound code: the replay is as the code is, and its answer says so
abbrev pub ReplaysAreAsCode : Type 0
ReplaysAreAsCode = (options : ReplayOptions) → AreReplayed options → (schedule : List ℕ) (items : List ScheduleItem)
    → IsAccepted schedule_form schedule options.processors items
    → (code : CodeParts) (input : List NamedArray) → MayRun code input
    → (answer : Answer) (h : CodeHas options items code input answer)
    → IsAsCode h.start (turns_in options items h.start) code input
    × SaysAsReplay options code input h.start (turns_in options items h.start) answer
