-- What follows from each status of `ram`.
use Rattle.std.specs.Prelude.{◌≡◌, ℕ, ◌≤◌, List, [], ◌∷◌, Some, Err}
use Rattle.ppm_ports.specs.Outside.{Outside, ports_of}
use Rattle.ppm_ram.specs.declared.ram.RamParts.{RamParts}
use Rattle.ppm_ram.specs.Lines.{Fault, ram_in}
use Rattle.ppm_ram.specs.Program.{IsRam}
use Rattle.ppm_ram.specs.Text.{IsTextOf}
use Rattle.ppm_plan.specs.Correct.{SomeAccepted}
use Rattle.ppm_plan.specs.Forms.{plan_form}
use Rattle.ppm_plan.specs.declared.plan_item.PlanItem.{PlanItem}
use Rattle.ppm_plan.specs.Refusals.{IsAccepted}
use Rattle.ppm_answers.specs.declared.answer.Answer.{Answer}
use Rattle.ppm_answers.specs.declared.answer.Answer.TheVariants as answers
use Rattle.ppm_answers.specs.declared.status.Status.{Status}
use Rattle.ppm_answers.specs.declared.status.Status.TheVariants as statuses
use Rattle.ppm_answers.specs.Delivery.{IsWritten}
use Rattle.ppm_answers.specs.Rows.{IsJudged, IsShown, IsOneOf, GoesWell}
use Rattle.ppm_cli.specs.declared.run.RunOptions.{RunOptions}
use Rattle.ppm_outcomes.specs.Meant.{undone_in}
use Rattle.ppm_driver.specs.RamEnds.{IsAsRam, RamHas, RamIsEnough}
use Rattle.ppm_driver.specs.RamHeadline.{RamHeadline}
use Rattle.ppm_driver.specs.RamRuns.{RamTextHas}
use Rattle.ppm_orders.specs.Rams.{ram_refusal}
use Rattle.ppm_driver.specs.RunRows.{Refuses}
use Rattle.ppm_outcomes.specs.Strikes.{fault_count}

module _ (options : RunOptions) (watching : ℕ) (plan : List ℕ) (o : Outside) where
  -- a run that an answer is of is as the RAM is, and no more faults undid work than the plan has
  pub record IsAsPlanned (items : List PlanItem) (ram : RamParts) (answer : Answer)
      (h : RamHas ram options watching o.told_before o.told_now items answer) : Type 0 where
    pub as_ram : IsAsRam options items ram h.start h.run.turns answer
    pub undone : undone_in h.start h.run.turns ≤ fault_count items

  -- each run is so: a law, in which no status occurs
  abbrev pub AreAsRams : Type 0
  AreAsRams = (items : List PlanItem) (ram : RamParts) → IsRam ram → (answer : Answer)
      (h : RamHas ram options watching o.told_before o.told_now items answer) → IsAsPlanned items ram answer h

  -- the first fault of the source's bytes, which are known, is written, where the plan is accepted, the ports hold and memory is there
  abbrev pub TellsFaults : Status → Type 0
  TellsFaults status = SomeAccepted plan_form plan options.processors → (all : List ℕ) → o.source.before ≡ Some all
      → (f : Fault) → ram_in all ≡ Err f → GoesWell (ports_of o) status
      → IsWritten o.out o.err (answers.SourceRefused (ram_refusal f)) status

  -- completeness: with a plan that is accepted, and turns enough for its faults and for the RAM of the source's bytes, which are known, the run ends
  -- with a memory or in a trap, where the ports hold and memory is there
  abbrev pub Completes : Status → Type 0
  Completes status = (items : List PlanItem) → IsAccepted plan_form plan options.processors items
      → (all : List ℕ) → o.source.before ≡ Some all → (ram : RamParts) → IsTextOf all ram
      → RamIsEnough ram (fault_count items) options.turns → GoesWell (ports_of o) status
      → IsOneOf status (statuses.Ended ∷ statuses.Trapped ∷ [])

  -- The rows of `ram` with such options, in their ranges, and such a plan, where so many watchers are told what their processors do. The first is the
  -- theorem. Where all goes well, something is judged, and so written. Where there is one processor, the answer that a text has is written, whichever
  -- it is and whatever watchers were told. What is in `meant` is a law: it holds of every answer of a run.
  pub record RamRows (status : Status) : Type 0 where
    pub headline : RamHeadline options watching plan o status
    pub judged : GoesWell (ports_of o) status → IsJudged status
    pub refuses : Refuses options watching plan o status
    pub faults : TellsFaults status
    pub shown : options.processors ≡ 1 → IsShown (RamTextHas options plan) (ports_of o) status
    pub meant : AreAsRams
    pub completes : Completes status
