-- What is stopped and resumed ends as its program does: `resume` reads what `stop` wrote.
use Rattle.std.specs.Prelude.{◌≡◌, ℕ, List}
use Rattle.ppm_words.specs.declared.outcome.Outcome.{Outcome}
use Rattle.ppm_words.specs.declared.outcome.Outcome.TheVariants as outcome
use Rattle.ppm_ports.specs.Outside.{Outside, Ports, ToldLists}
use Rattle.ppm_plan.specs.declared.plan_item.PlanItem.{PlanItem}
use Rattle.ppm_plan.specs.Forms.{plan_form}
use Rattle.ppm_plan.specs.Refusals.{IsAccepted}
use Rattle.ppm_answers.specs.declared.answer.Answer.{Answer}
use Rattle.ppm_cli.specs.declared.resume.ResumeOptions.{ResumeOptions}
use Rattle.ppm_cli.specs.declared.stop.StopOptions.{StopOptions}
use Rattle.ppm_cli.specs.Words.{AreStopped, AreResumed}
use Rattle.ppm_tree.specs.Tree.{ProgramTree}
use Rattle.ppm_program.specs.Programs.{HasProgram}
use Rattle.ppm_stop_command.specs.StopRows.{WritesSaved}
use Rattle.ppm_outcomes.specs.Completeness.{IsEnough, IsEnd}
use Rattle.ppm_outcomes.specs.Meant.{HasOutcome}
use Rattle.ppm_outcomes.specs.ResumeCompleteness.{lost_with}
use Rattle.ppm_stop_command.specs.ResumeRows.{WritesArrays, WritesTrap, WritesFault, WritesBroken}
use Rattle.ppm_outcomes.specs.Resumes.{IsTextLeftBy, TextHas}
use Rattle.ppm_outcomes.specs.Strikes.{scheduled_faults}

-- the program of a source has this serial outcome
pub record IsOutcomeOf (source : List ℕ) (o : Outcome) : Type 0 where
  pub tree : ProgramTree
  pub has : HasProgram source tree
  pub serially : HasOutcome tree o

-- Where the text that `resume` read is the one that `stop` wrote: it is that of a state which the source left that `stop` read, so all that the rows
-- of `resume` say of such sources is said of this one. It is never refused, and with options in their ranges broken words are never met. The
-- arrays that are written, or the trap, are the serial outcome of that source. Where turns and room are enough for its program, the faults of the
-- schedule, one of each processor and those of the plan, each answer of the text is that the resumed run ended.
pub record ResumesStopped {stop : StopOptions} {schedule : List ℕ} {p : Ports} (w : WritesSaved stop schedule p) (options : ResumeOptions) (plan : List ℕ)
    (o : Outside) : Type 0 where
  pub left : (text : List ℕ) → text ≡ w.text → IsTextLeftBy w.read.0 (scheduled_faults w.read.2.items) text
  pub accepted : (fault : WritesFault options plan o) → fault.1.0 ≡ w.text → ⊥
  pub unbroken : AreResumed options → (b : WritesBroken options plan o) → b.read.0 ≡ w.text → ⊥
  pub ended : (a : WritesArrays options plan o) → a.read.0 ≡ w.text → IsOutcomeOf w.read.0 (outcome.Ended a.arrays)
  pub trapped : (k : WritesTrap options plan o) → k.read.0 ≡ w.text → IsOutcomeOf w.read.0 (outcome.Trapped k.trap k.line)
  pub completes : AreResumed options → (items : List PlanItem) → IsAccepted plan_form plan stop.processors items
      → (t : ProgramTree) → HasProgram w.read.0 t → IsEnough t (lost_with (scheduled_faults w.read.2.items) stop.processors items) options.turns stop.room
      → (before now : ToldLists) (answer : Answer) → TextHas options plan before now w.text answer → IsEnd answer

-- this holds whatever was stopped, with options in their ranges, and however it is resumed
abbrev pub StoppedRunsGoOn : Type 0
StoppedRunsGoOn = (stop : StopOptions) → AreStopped stop → (schedule : List ℕ) (p : Ports) (w : WritesSaved stop schedule p)
    → (options : ResumeOptions) (plan : List ℕ) (o : Outside) → ResumesStopped w options plan o
