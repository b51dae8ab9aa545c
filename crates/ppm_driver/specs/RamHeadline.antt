-- The theorem on `ram`, for whoever reads its contract: what holds of its answer, at each status.
use Rattle.std.specs.Prelude.{◌≡◌, ◌<◌, ◌≤◌, ◌⊎◌, ℕ, List, Some}
use Rattle.ppm_words.specs.declared.named_array.NamedArray.{NamedArray}
use Rattle.ppm_words.specs.declared.outcome.Outcome.{Outcome}
use Rattle.ppm_words.specs.declared.outcome.Outcome.TheVariants as outcome
use Rattle.ppm_words.specs.declared.trap.Trap.{Trap}
use Rattle.ppm_ports.specs.Ports.{Fails}
use Rattle.ppm_ports.specs.Outside.{Outside}
use Rattle.ppm_ram.specs.Limits.{text_limit}
use Rattle.ppm_plan.specs.Correct.{SomeAccepted}
use Rattle.ppm_plan.specs.Forms.{plan_form}
use Rattle.ppm_choice.specs.Deeds.{work_made}
use Rattle.ppm_answers.specs.declared.answer.Answer.{Answer}
use Rattle.ppm_answers.specs.declared.answer.Answer.TheVariants as answers
use Rattle.ppm_answers.specs.declared.refusal.Refusal.{Refusal}
use Rattle.ppm_answers.specs.declared.status.Status.{Status}
use Rattle.ppm_answers.specs.declared.status.Status.TheVariants as statuses
use Rattle.ppm_answers.specs.Delivery.{OutFails, ErrFails}
use Rattle.ppm_answers.specs.Reading.{Reads, ReadsSome}
use Rattle.ppm_answers.specs.Texts.{arrays_text, trap_text, refusal_text, plan_text, turns_text, err_text}
use Rattle.ppm_cli.specs.declared.run.RunOptions.{RunOptions}
use Rattle.ppm_driver.specs.Headline.{OutTakes, ErrTakes, RefusesPlan}
use Rattle.ppm_outcomes.specs.Meant.{undone_in}
use Rattle.ppm_driver.specs.RamEnds.{RamNeedsMoreTurns, RunEndsAsRam}
use Rattle.ppm_driver.specs.RamRuns.{RamMade, RamWants}
use Rattle.ppm_orders.specs.Rams.{RefusesRam}
use Rattle.ppm_outcomes.specs.Strikes.{fault_count}

module _ (options : RunOptions) (watching : ℕ) (plan : List ℕ) (o : Outside) where
  -- A run of the RAM whose text was read, by a plan that was accepted, so it spares a processor, the keeper. The turns of all processors are in one
  -- order, from the machine with which a run of the RAM's code on its memory begins, its root with the keeper, and each processor obeys the plan and
  -- the limits in them. The words after them say this answer, and the finish word there has its cause in them. What each watcher was told is its
  -- processor's record of these turns, with event 7 where it parked.
  abbrev pub Made : Answer → Type 0
  Made answer = RamMade options watching plan o.told_before o.told_now o.source answer

  -- the run ended with this outcome, and that is the RAM's; no branch was forked or taken
  pub record EndsSo (answer : Answer) (outcome : Outcome) : Type 0 where
    pub made : Made answer
    pub ends : RunEndsAsRam made.ran.start made.ran.run.turns made.ram outcome

  -- A processor has made exactly as many work turns as it may make. They are fewer than 256 for each step of the RAM and each fault of the plan, or
  -- the RAM has no end; and of the faults those that undid work are enough for this.
  pub record SpendsTurns (processor : ℕ) : Type 0 where
    pub made : Made (answers.OutOfTurns processor)
    pub there : processor < options.processors
    pub spent : work_made made.ran.start.shape made.ran.start.code processor made.ran.start.state made.ran.run.turns ≡ options.turns
    pub exceeds : RamNeedsMoreTurns made.ram (fault_count made.items) options.turns
    pub needs : RamNeedsMoreTurns made.ram (undone_in made.ran.start made.ran.run.turns) options.turns
    pub undone : undone_in made.ran.start made.ran.run.turns ≤ fault_count made.items

  -- the text that was read is of no RAM, for this fault, and all bytes of the source are, where they are known; the plan is accepted; nobody was told
  -- anything
  pub record RefusesText (r : Refusal) : Type 0 where
    pub text : List ℕ
    pub read : Reads text_limit o.source text
    pub refused : RefusesRam text r
    pub whole : (all : List ℕ) → o.source.before ≡ Some all → RefusesRam all r
    pub accepted : SomeAccepted plan_form plan options.processors
    pub untold : o.told_now ≡ o.told_before

  -- the source failed, and the plan is accepted; nobody was told anything
  pub record FailsToRead : Type 0 where
    pub fails : Fails o.source
    pub front : ReadsSome text_limit o.source
    pub accepted : SomeAccepted plan_form plan options.processors
    pub untold : o.told_now ≡ o.told_before

  -- What holds of an answer, also where a port failed at its texts. Where memory is wanting, either nobody was told anything, or what watchers were
  -- told is of one run of this kind: of one that was given up, or of a whole one.
  abbrev pub HoldsOf : Answer → Type 0
  HoldsOf (answers.Ended arrays) = EndsSo (answers.Ended arrays) (outcome.Ended arrays)
  HoldsOf (answers.Trapped trap line) = EndsSo (answers.Trapped trap line) (outcome.Trapped trap line)
  HoldsOf (answers.SourceRefused r) = RefusesText r
  HoldsOf (answers.PlanRefused number) = RefusesPlan options watching plan o number
  HoldsOf (answers.OutOfTurns processor) = SpendsTurns processor
  HoldsOf answers.ReadFault = FailsToRead
  HoldsOf answers.NoMemory = RamWants options watching plan o.told_before o.told_now o.source
  HoldsOf answer = ⊥

  -- Whatever the source, the number of processors, the order of turns and the plan: `ram`, if it returns, writes what the RAM of the source comes to,
  -- its memory or its trap, or names a limit of turns that is too low for it. All else that it may do is to refuse the text or the plan, or to say that
  -- a port failed or that memory is wanting. That a pool is full or that words are broken it never says. Where out or err failed, all holds that is
  -- said of the answer to be written.
  abbrev pub RamHeadline : Status → Type 0
  RamHeadline statuses.Ended =
      (arrays : List NamedArray) × HoldsOf (answers.Ended arrays) × OutTakes options watching plan o (arrays_text arrays)
  RamHeadline statuses.Trapped =
      (trap : Trap) × (line : ℕ) × HoldsOf (answers.Trapped trap line) × OutTakes options watching plan o (trap_text trap line)
  RamHeadline statuses.SourceRefused = (r : Refusal) × HoldsOf (answers.SourceRefused r) × ErrTakes options watching plan o (refusal_text r)
  RamHeadline statuses.WordsRefused = (number : ℕ) × HoldsOf (answers.PlanRefused number) × ErrTakes options watching plan o (plan_text number)
  RamHeadline statuses.OutOfTurns =
      (processor : ℕ) × HoldsOf (answers.OutOfTurns processor) × ErrTakes options watching plan o (turns_text processor)
  RamHeadline statuses.ReadFault = HoldsOf answers.ReadFault × ErrTakes options watching plan o (err_text answers.ReadFault)
  RamHeadline statuses.WriteFault = (answer : Answer) × HoldsOf answer × (OutFails o.out o.err answer ⊎ ErrFails o.out o.err answer)
  RamHeadline statuses.NoMemory = HoldsOf answers.NoMemory × ErrTakes options watching plan o (err_text answers.NoMemory)
  RamHeadline status = ⊥
