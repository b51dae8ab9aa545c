-- What `ram` answers of a text, and when it may: what `run` answers of a text's program, with the code and the memory of its RAM in their place.
use Rattle.std.specs.Prelude.{◌≡◌, ℕ, List, [], Some}
use Rattle.ppm_ports.specs.Ports.{Port}
use Rattle.ppm_ports.specs.Outside.{ToldLists}
use Rattle.ppm_ram.specs.declared.ram.RamParts.{RamParts}
use Rattle.ppm_ram.specs.Limits.{text_limit}
use Rattle.ppm_ram.specs.Program.{memory_of}
use Rattle.ppm_ram.specs.Text.{IsTextOf}
use Rattle.ppm_ram_code.specs.Code.{code_of}
use Rattle.ppm_ram_code.specs.Correct.{input_of}
use Rattle.ppm_plan.specs.declared.plan_item.PlanItem.{PlanItem}
use Rattle.ppm_plan.specs.Forms.{plan_form}
use Rattle.ppm_plan.specs.Refusals.{IsAccepted}
use Rattle.ppm_answers.specs.declared.answer.Answer.{Answer}
use Rattle.ppm_answers.specs.Reading.{AreOne, FrontsDecide, Reads}
use Rattle.ppm_cli.specs.declared.run.RunOptions.{RunOptions}
use Rattle.ppm_loading.specs.Planned.{PlannedHas, PlannedMay}
use Rattle.ppm_orders.specs.Rams.{OfText}
use Rattle.ppm_driver.specs.RamEnds.{RamHas}
use Rattle.ppm_outcomes.specs.Runs.{RunTold, WantsOf}

-- the answer of a text: of its RAM, by the items of a plan, where the first so many watchers are told what their processors do; or its refusal
abbrev pub TextHas : RunOptions → (watching : ℕ) → (before now : ToldLists) → List PlanItem → List ℕ → Answer → Type 0
TextHas options watching before now items text answer = OfText (λ ram a. RamHas ram options watching before now items a) text answer

-- that with such options and such a plan, whatever watchers were told: that the plan is refused, or that by its items
abbrev pub RamTextHas : RunOptions → (plan : List ℕ) → List ℕ → Answer → Type 0
RamTextHas options plan text answer = PlannedHas plan_form plan options.processors (TextHas options 0 [] []) text answer

-- the answers of `ram` with such options and such a plan, where the first so many watchers are told what their processors do, and such lists
abbrev pub RamMay : RunOptions → (watching : ℕ) → (plan : List ℕ) → (before now : ToldLists) → Port → Answer → Type 0
RamMay options watching plan before now source answer =
    PlannedMay plan_form plan options.processors (TextHas options watching before now) text_limit source answer

-- The text that was read is that of a RAM, and the plan is accepted. Of this RAM and the plan's items this holds. Where the source's bytes are known,
-- the text is all of them.
pub record OfReadRam (options : RunOptions) (plan : List ℕ) (source : Port) (Run : List PlanItem → RamParts → Type 0) : Type 0 where
  pub text : List ℕ
  pub read : Reads text_limit source text
  pub whole : (all : List ℕ) → source.before ≡ Some all → text ≡ all
  pub ram : RamParts
  pub is : IsTextOf text ram
  pub items : List PlanItem
  pub accepted : IsAccepted plan_form plan options.processors items
  pub ran : Run items ram

-- the run that an answer is of: one of the RAM of the text that was read
abbrev pub RamMade : RunOptions → (watching : ℕ) → (plan : List ℕ) → (before now : ToldLists) → Port → Answer → Type 0
RamMade options watching plan before now source answer =
    OfReadRam options plan source (λ items ram. RamHas ram options watching before now items answer)

-- what watchers were told where memory is wanting: of a run of that RAM
abbrev pub RamWants : RunOptions → (watching : ℕ) → (plan : List ℕ) → (before now : ToldLists) → Port → Type 0
RamWants options watching plan before now source =
    WantsOf options watching before now (λ Run. OfReadRam options plan source (λ items ram. Run items (code_of ram) (input_of (memory_of ram))))

-- what watchers were told with an answer of a run of the RAM that was read
abbrev pub RamTells : RunOptions → (watching : ℕ) → (plan : List ℕ) → Port → Answer → ToldLists → ToldLists → Type 0
RamTells options watching plan source answer before now =
    RunTold watching (RamWants options watching plan before now source) answer before now

-- two answers of a text are one where there is one processor, with such options and all plans
abbrev pub RamAnswersAreOne : Type 0
RamAnswersAreOne = (options : RunOptions) (plan : List ℕ) → options.processors ≡ 1 → AreOne (RamTextHas options plan)

-- what stands after more bytes than a text may have changes no answer, with all options and all plans, whoever is told anything
abbrev pub RamFrontsDecide : Type 0
RamFrontsDecide = (options : RunOptions) (watching : ℕ) (before now : ToldLists) (plan : List ℕ)
    → FrontsDecide text_limit (λ text answer. PlannedHas plan_form plan options.processors (TextHas options watching before now) text answer)
