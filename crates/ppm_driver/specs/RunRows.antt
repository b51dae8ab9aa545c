-- What follows from each status of `run`.
use Rattle.std.specs.Prelude.{◌≡◌, ◌≢◌, ℕ, ◌≤◌, List, [], ◌∷◌, Some}
use Rattle.ppm_ports.specs.Outside.{Outside, ports_of}
use Rattle.ppm_plan.specs.Forms.{plan_form}
use Rattle.ppm_plan.specs.declared.plan_item.PlanItem.{PlanItem}
use Rattle.ppm_plan.specs.Refusals.{IsAccepted}
use Rattle.ppm_answers.specs.declared.answer.Answer.{Answer}
use Rattle.ppm_answers.specs.declared.answer.Answer.TheVariants as answers
use Rattle.ppm_answers.specs.declared.status.Status.{Status}
use Rattle.ppm_answers.specs.declared.status.Status.TheVariants as statuses
use Rattle.ppm_answers.specs.Rows.{IsJudged, IsShown, IsOneOf, GoesWell}
use Rattle.ppm_answers.specs.Reading.{IsUnread}
use Rattle.ppm_cli.specs.declared.run.RunOptions.{RunOptions}
use Rattle.ppm_tree.specs.Tree.{ProgramTree}
use Rattle.ppm_program.specs.Programs.{HasProgram}
use Rattle.ppm_loading.specs.Planned.{IsRefusedBy}
use Rattle.ppm_outcomes.specs.Completeness.{IsEnough}
use Rattle.ppm_driver.specs.Headline.{Headline}
use Rattle.ppm_outcomes.specs.Meant.{undone_in, IsAsProgram}
use Rattle.ppm_outcomes.specs.Runs.{ProgramHas, RunHas}
use Rattle.ppm_outcomes.specs.Strikes.{fault_count}

module _ (options : RunOptions) (watching : ℕ) (plan : List ℕ) (o : Outside) where
  -- where the plan is refused, nothing is read, and the status is 3, or 8 or 9
  abbrev pub Refuses : Status → Type 0
  Refuses status = (number : ℕ) → IsRefusedBy plan_form plan options.processors number
      → IsUnread o.source × IsOneOf status (statuses.WordsRefused ∷ statuses.WriteFault ∷ statuses.NoMemory ∷ [])

  -- a run that an answer is of is as its program, no more faults undid work than the plan has, and the answer is not that words are broken
  pub record IsAsPlanned (items : List PlanItem) (t : ProgramTree) (answer : Answer)
      (h : ProgramHas options watching o.told_before o.told_now items t answer) : Type 0 where
    pub as_program : IsAsProgram h.start h.run.turns t
    pub undone : undone_in h.start h.run.turns ≤ fault_count items
    pub unbroken : (place : ℕ) → answer ≢ answers.Broken place

  -- each run is so: a law, in which no status occurs
  abbrev pub AreAsPrograms : Type 0
  AreAsPrograms = (items : List PlanItem) (text : List ℕ) (t : ProgramTree) → HasProgram text t → (answer : Answer)
      (h : ProgramHas options watching o.told_before o.told_now items t answer) → IsAsPlanned items t answer h

  -- completeness: with a plan that is accepted, and turns and room enough for its faults and for the program of the source's bytes, which are
  -- known, the run ends with arrays or in a trap, where the ports hold and memory is there
  abbrev pub Completes : Status → Type 0
  Completes status = (items : List PlanItem) → IsAccepted plan_form plan options.processors items
      → (all : List ℕ) → o.source.before ≡ Some all → (t : ProgramTree) → HasProgram all t
      → IsEnough t (fault_count items) options.turns options.room → GoesWell (ports_of o) status
      → IsOneOf status (statuses.Ended ∷ statuses.Trapped ∷ [])

  -- The rows of `run` with such options, in their ranges, and such a plan, where so many watchers are told what their processors do. The first is
  -- the theorem: all that is said of a run is said of one, that of the headline. Where all goes well, something is judged, and so written. Where
  -- there is one processor, the answer that a text has is written, whichever it is and whatever watchers were told. What is in `meant` is a law: it
  -- holds of every answer of a run, and says nothing of this one alone.
  pub record RunRows (status : Status) : Type 0 where
    pub headline : Headline options watching plan o status
    pub judged : GoesWell (ports_of o) status → IsJudged status
    pub refuses : Refuses status
    pub shown : options.processors ≡ 1 → IsShown (RunHas options plan) (ports_of o) status
    pub meant : AreAsPrograms
    pub completes : Completes status
