-- How an answer of `ram` is delivered, and its rows.
use Rattle.std.proofs.Common.{◌≡◌, ◌⊎◌, ◌≤◌, ◌<◌, ℕ, ◌+◌, ◌*◌, List, [], ◌∷◌, Some, Err, refl, sym, subst, arith}
use Rattle.std.specs.Prelude.{⊤}
use Rattle.ppm_ports.specs.Outside.{KeepFronts, Outside, ports_of}
use Rattle.ppm_ram.specs.Correct.{TextsAreOfRams}
use Rattle.ppm_ram.specs.declared.ram.RamParts.{RamParts}
use Rattle.ppm_ram.specs.Limits.{text_limit}
use Rattle.ppm_ram.specs.Lines.{Fault, ram_in}
use Rattle.ppm_ram.specs.Text.{IsTextOf}
use Rattle.ppm_plan.specs.Correct.{HasOneAnswer as HasOnePlan, HaveOneAnswer as PlansHaveOneAnswer, SomeAccepted}
use Rattle.ppm_plan.specs.Forms.{plan_form}
use Rattle.ppm_plan.specs.Refusals.{IsAccepted}
use Rattle.ppm_plan.specs.declared.plan_item.PlanItem.{PlanItem}
use Rattle.ppm_answers.specs.declared.answer.Answer.{Answer}
use Rattle.ppm_answers.specs.declared.answer.Answer.TheVariants as answers
use Rattle.ppm_answers.specs.declared.status.Status.{Status}
use Rattle.ppm_answers.specs.declared.status.Status.TheVariants as statuses
use Rattle.ppm_answers.specs.Delivery.{IsWritten, Delivers}
use Rattle.ppm_answers.specs.Reading.{Answers}
use Rattle.ppm_answers.specs.Rows.{PlannedRows, IsShown}
use Rattle.ppm_answers.specs.Texts.{IsFixed}
use Rattle.ppm_answers.proofs.Delivered.{of_answers}
use Rattle.ppm_cli.specs.declared.run.RunOptions.{RunOptions}
use Rattle.ppm_cli.specs.Words.{AreRun}
use Rattle.ppm_loading.specs.Planned.{IsRefusedBy, HasByItems, PlannedHas}
use Rattle.ppm_loading.proofs.PlannedLemmas as planned
use Rattle.ppm_outcomes.specs.Completeness.{IsEnd}
use Rattle.ppm_driver.specs.RamEnds.{AnswersAreAsRams, RamHas, RamIsEnough, RamNeedsMoreTurns, SaysAsRam}
use Rattle.ppm_driver.specs.RamRows.{AreAsRams, Completes, RamRows, TellsFaults}
use Rattle.ppm_driver.specs.RamRuns.{TextHas, RamTextHas, RamMay, RamTells, RamAnswersAreOne, RamFrontsDecide}
use Rattle.ppm_orders.specs.Rams.{ram_refusal}
use Rattle.ppm_outcomes.specs.Runs.{plan_of, limits_of}
use Rattle.ppm_outcomes.specs.Strikes.{fault_count}
use Rattle.ppm_driver.proofs.OfRun.{ended}
use Rattle.ppm_driver.proofs.RamHeadlineLemmas.{ram_headline}
use Rattle.ppm_driver.proofs.RamLemmas.{ram_wants, run_forgets}
use Rattle.ppm_orders.proofs.RamTextLemmas.{fault_told, not_both, one_ram, said}
use Rattle.ppm_outcomes.proofs.StrikeLemmas.{undone_are_planned}

-- what was delivered is the answer, or want of memory in its place
pub ram_delivered : HasOnePlan plan_form → (options : RunOptions) (watching : ℕ) (plan : List ℕ) (o : Outside) (a : Answer) (status : Status)
    → KeepFronts o.told_before o.told_now → RamTells options watching plan o.source a o.told_before o.told_now
    → RamMay options watching plan o.told_before o.told_now o.source a
    → Delivers o.out o.err a status ⊎ ((¬ IsFixed a) × Delivers o.out o.err answers.NoMemory status)
    → Answers (RamMay options watching plan o.told_before o.told_now o.source) (RamTells options watching plan o.source) o status
ram_delivered plans options watching plan o a status kept told may d =
    planned.planned_delivered plan_form plan options.processors (TextHas options watching o.told_before o.told_now) text_limit
    (RamTells options watching plan o.source) plans o a status told
    (kept, told.1, ram_wants options watching plan o.told_before o.told_now o.source a may told) may d

-- what the crates below show of every text, every plan and every run of a RAM's code
pub record Laws : Type 0 where
  pub runs : AnswersAreAsRams
  pub texts : TextsAreOfRams
  pub plans : PlansHaveOneAnswer
  pub one : RamAnswersAreOne
  pub fronts : RamFrontsDecide

module _ (laws : Laws) (options : RunOptions) (plan : List ℕ) (watching : ℕ) (o : Outside) (text : List ℕ) where
  -- where the plan is accepted, the answer of a text with a fault is its refusal
  pub faults_told : SomeAccepted plan_form plan options.processors → (f : Fault) → ram_in text ≡ Err f → (a : Answer)
      → PlannedHas plan_form plan options.processors (TextHas options watching o.told_before o.told_now) text a
      → a ≡ answers.SourceRefused (ram_refusal f)
  faults_told some f e (answers.PlanRefused number) h =
      absurd (laws.plans.plans.apart plan options.processors some.items h.error h.of_text some.accepted h.refused)
  faults_told some f e a h =
      fault_told (λ ram a. RamHas ram options watching o.told_before o.told_now h.items a) laws.texts text f e a h.has

-- Where turns are enough for the RAM of a text and the plan's faults, each answer of the text is that the run ended.
module _ (laws : Laws) (options : RunOptions) (are : AreRun options) (plan : List ℕ) (items : List PlanItem)
    (accepted : IsAccepted plan_form plan options.processors items) (text : List ℕ) (ram : RamParts) (is : IsTextOf text ram)
    (enough : RamIsEnough ram (fault_count items) options.turns) (watching : ℕ) (o : Outside) where
  abbrev Has : RamParts → List PlanItem → Answer → Type 0
  Has ram items a = RamHas ram options watching o.told_before o.told_now items a

  not_few : RamNeedsMoreTurns ram (fault_count items) options.turns → ⊥
  not_few needs = let few = needs enough.steps enough.end enough.ends in let some = enough.for_turns in omega (arith, few, some)

  ends_of : (a : Answer) (h : Has ram items a) → SaysAsRam options items ram h.start h.run.turns a → IsEnd a
  ends_of (answers.Ended arrays) h says = tt
  ends_of (answers.Trapped trap line) h says = tt
  ends_of (answers.OutOfTurns c) h says = absurd (not_few says)
  ends_of a h says = absurd says

  -- the text is of one RAM, and the plan has one list of items
  by_ram : (a : Answer) (others : List PlanItem) → IsAccepted plan_form plan options.processors others → (other : RamParts) → IsTextOf text other
      → Has other others a → IsEnd a
  by_ram a others also other there h =
      let same : other ≡ ram = one_ram (ram_in text) ram other (said laws.texts text ram is) (said laws.texts text other there) in
      let with_items : Has other items a =
      subst (λ (x : List PlanItem). Has other x a) (laws.plans.plans.items plan others items also.has accepted.has) h in
      let has : Has ram items a = subst (λ (r : RamParts). Has r items a) same with_items in
      ends_of a has (laws.runs options are items ram is.ram watching o.told_before o.told_now a has).says

  pub ends : (a : Answer) → PlannedHas plan_form plan options.processors (TextHas options watching o.told_before o.told_now) text a → IsEnd a
  ends (answers.PlanRefused number) h = absurd (laws.plans.plans.apart plan options.processors items h.error h.of_text accepted h.refused)
  ends (answers.SourceRefused r) h =
      absurd (not_both (ram_in text) ram h.has.fault (said laws.texts text ram is) h.has.there)
  ends a h = by_ram a h.items h.accepted h.has.ram h.has.is h.has.has

module _ (laws : Laws) (options : RunOptions) (are : AreRun options) (watching : ℕ) (plan : List ℕ) (o : Outside) (status : Status)
    (a : Answers (RamMay options watching plan o.told_before o.told_now o.source) (RamTells options watching plan o.source) o status) where
  abbrev ByItems : List ℕ → Answer → Type 0
  ByItems = HasByItems plan_form plan options.processors (TextHas options watching o.told_before o.told_now)

  abbrev Rows : Type 0
  Rows = PlannedRows (IsRefusedBy plan_form plan options.processors) ByItems text_limit (λ s. ⊤) (ports_of o) status

  -- what all commands with a plan have
  planned_rows : Rows
  planned_rows =
      planned.planned_rows plan_form plan options.processors (TextHas options watching o.told_before o.told_now) text_limit (ports_of o) status
      (of_answers (RamMay options watching plan o.told_before o.told_now o.source) (RamTells options watching plan o.source) o status a)
      laws.plans.plans (laws.fronts options watching o.told_before o.told_now plan) (λ s. ⊤)
      (record { read_fault = λ f. tt; write_fault = λ f. tt; memory = tt }) (λ answer h w. tt)

  -- where there is one processor, a text has one answer
  shown : Rows → options.processors ≡ 1 → IsShown (RamTextHas options plan) (ports_of o) status
  shown rows alone all e well answer h =
      let k = rows.rows.known all e well in
      subst (λ (x : Answer). IsWritten o.out o.err x status)
      (laws.one options plan alone all k.0 answer (run_forgets options watching o.told_before o.told_now plan all k.0 k.1) h) k.2

  -- and the first fault of a text is its answer with any number of them
  faults : Rows → TellsFaults options watching plan o status
  faults rows some all e f fault well =
      let k = rows.rows.known all e well in
      subst (λ (x : Answer). IsWritten o.out o.err x status) (faults_told laws options plan watching o all some f fault k.0 k.1) k.2

  completes : Rows → Completes options watching plan o status
  completes rows items accepted all e ram is enough well =
      let k = rows.rows.known all e well in
      ended status k.0 (ends laws options are plan items accepted all ram is enough watching o k.0 k.1) k.2.own

  -- a run of a RAM's code is as the RAM is, whatever became of its answer
  as_rams : AreAsRams options watching plan o
  as_rams items ram is answer h = record {
    as_ram = laws.runs options are items ram is watching o.told_before o.told_now answer h;
    undone = undone_are_planned (plan_of options items) (limits_of options) h.start h.run.turns h.run.obey;
  }

  pub ram_rows : RamRows options watching plan o status
  ram_rows =
      let rows = planned_rows in
      record {
        headline = ram_headline laws.runs laws.fronts options are watching plan o status a;
        judged = rows.rows.judged;
        refuses = rows.refuses;
        faults = faults rows;
        shown = shown rows;
        meant = as_rams;
        completes = completes rows;
      }
