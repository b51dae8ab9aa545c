-- What is stopped of a sound case and resumed ends as its code does: `resume` reads what `stop` wrote of a case.
use Rattle.std.specs.Prelude.{◌≡◌, ℕ, List}
use Rattle.ppm_words.specs.declared.outcome.Outcome.TheVariants as outcome
use Rattle.ppm_ports.specs.Outside.{Outside, Ports, ToldLists}
use Rattle.ppm_depth.specs.Sound.{IsSound}
use Rattle.ppm_plan.specs.declared.plan_item.PlanItem.{PlanItem}
use Rattle.ppm_plan.specs.Forms.{plan_form}
use Rattle.ppm_plan.specs.Refusals.{IsAccepted}
use Rattle.ppm_answers.specs.declared.answer.Answer.{Answer}
use Rattle.ppm_cli.specs.declared.resume.ResumeOptions.{ResumeOptions}
use Rattle.ppm_cli.specs.declared.stop.StopOptions.{StopOptions}
use Rattle.ppm_cli.specs.Words.{AreStopped, AreResumed}
use Rattle.ppm_outcomes.specs.AsCode.{CodeEnds, CodeNeedsMoreRoom, CodeNeedsMoreTurns}
use Rattle.ppm_stop_command.specs.CaseStopRows.{WritesSaved}
use Rattle.ppm_outcomes.specs.CodeResumes.{IsLeftByCode, IsTextLeftByCode, legs_of}
use Rattle.ppm_outcomes.specs.CompleteAsCode.{CodeIsEnough}
use Rattle.ppm_outcomes.specs.Completeness.{IsEnd}
use Rattle.ppm_outcomes.specs.LegsAsCode.{EndsAsCodeInAll}
use Rattle.ppm_outcomes.specs.ResumeCompleteness.{lost_with}
use Rattle.ppm_stop_command.specs.ResumeRows.{WritesArrays, WritesTrap, WritesFault, WritesOutOfTurns, WritesOutOfRoom, WritesBroken}
use Rattle.ppm_outcomes.specs.Resumes.{TextHas}
use Rattle.ppm_outcomes.specs.Strikes.{scheduled_faults}

-- Where the text that `resume` read is the one that `stop` wrote of a sound case: it is that of a state which the code of the case left, so all that
-- the rows of `resume` say of such codes is said of this one. It is never refused, and with options in their ranges broken words are never met. The
-- arrays that are written, or the trap, are the end of the code, run depth first; and over each run of the code that left the state, the stopped one
-- among them, and the resumed run after it each branch that was forked was taken exactly once. That turns are spent, or a pool is full, says that they are too few for the code, the faults of the schedule and of the plan, and one of
-- each processor, or the room is too little for it. Where both are enough, each answer of the text is that the resumed run ended.
pub record ResumesStoppedCase {stop : StopOptions} {schedule : List ℕ} {p : Ports} (w : WritesSaved stop schedule p) (options : ResumeOptions)
    (plan : List ℕ) (o : Outside) : Type 0 where
  pub left : (text : List ℕ) → text ≡ w.text → IsTextLeftByCode w.read.2.has.code w.read.2.has.input (scheduled_faults w.read.2.items) text
  pub accepted : (fault : WritesFault options plan o) → fault.1.0 ≡ w.text → ⊥
  pub unbroken : AreResumed options → (b : WritesBroken options plan o) → b.read.0 ≡ w.text → ⊥
  pub ended : (a : WritesArrays options plan o) → a.read.0 ≡ w.text
      → CodeEnds w.read.2.has.code w.read.2.has.input (outcome.Ended a.arrays)
      × ((left : IsLeftByCode w.read.2.has.code w.read.2.has.input a.read.2.state)
      → EndsAsCodeInAll left.start (legs_of left a.read.2.has.has.start.state.words) a.read.2.has.has.run.turns w.read.2.has.code w.read.2.has.input
      (outcome.Ended a.arrays))
  pub trapped : (k : WritesTrap options plan o) → k.read.0 ≡ w.text
      → CodeEnds w.read.2.has.code w.read.2.has.input (outcome.Trapped k.trap k.line)
      × ((left : IsLeftByCode w.read.2.has.code w.read.2.has.input k.read.2.state)
      → EndsAsCodeInAll left.start (legs_of left k.read.2.has.has.start.state.words) k.read.2.has.has.run.turns w.read.2.has.code w.read.2.has.input
      (outcome.Trapped k.trap k.line))
  pub spent : (k : WritesOutOfTurns options plan o) → k.read.0 ≡ w.text
      → CodeNeedsMoreTurns w.read.2.has.code w.read.2.has.input
      (lost_with (scheduled_faults w.read.2.items) stop.processors k.read.2.has.items) options.turns
  pub full : (k : WritesOutOfRoom options plan o) → k.read.0 ≡ w.text → CodeNeedsMoreRoom w.read.2.has.code w.read.2.has.input stop.room
  pub completes : AreResumed options → (items : List PlanItem) → IsAccepted plan_form plan stop.processors items
      → CodeIsEnough w.read.2.has.code w.read.2.has.input (lost_with (scheduled_faults w.read.2.items) stop.processors items) options.turns stop.room
      → (before now : ToldLists) (answer : Answer) → TextHas options plan before now w.text answer → IsEnd answer

-- this holds whatever sound case was stopped, with options in their ranges, and however it is resumed
abbrev pub StoppedCasesGoOn : Type 0
StoppedCasesGoOn = (stop : StopOptions) → AreStopped stop → (schedule : List ℕ) (p : Ports) (w : WritesSaved stop schedule p)
    → IsSound w.read.2.has.code w.read.2.has.input → (options : ResumeOptions) (plan : List ℕ) (o : Outside) → ResumesStoppedCase w options plan o
