-- `explain` of a plan or a schedule: what it says of one, when it may give each answer, and what follows from each status.
use Rattle.std.specs.Prelude.{◌≡◌, ◌++◌, ℕ, true, List}
use Rattle.ppm_ports.specs.Ports.{Port, Gets}
use Rattle.ppm_ports.specs.Outside.{Ports}
use Rattle.ppm_plan.specs.declared.plan_error.PlanError.{PlanError}
use Rattle.ppm_plan.specs.Correct.{is_of_text, SomeAccepted}
use Rattle.ppm_plan.specs.Forms.{Form, plan_form, schedule_form}
use Rattle.ppm_plan.specs.Refusals.{IsRefused, number_of}
use Rattle.ppm_answers.specs.declared.answer.Answer.{Answer}
use Rattle.ppm_answers.specs.declared.answer.Answer.TheVariants as answers
use Rattle.ppm_answers.specs.declared.refused.Refused.{Refused}
use Rattle.ppm_answers.specs.declared.refused.Refused.TheVariants as refused
use Rattle.ppm_answers.specs.declared.status.Status.{Status}
use Rattle.ppm_answers.specs.declared.status.Status.TheVariants as statuses
use Rattle.ppm_answers.specs.Texts.{accepted_text, plan_text}
use Rattle.ppm_answers.specs.Reading.{IsUnread}
use Rattle.ppm_answers.specs.Rows.{PortsSay, JudgedRows, IsShown, IsDone}
use Rattle.ppm_cli.specs.declared.explain.ExplainedOrders.{ExplainedOrders}
use Rattle.ppm_cli.specs.declared.explain.ExplainedOrders.TheVariants as orders
use Rattle.ppm_cli.specs.declared.explain.ExplainOptions.{ExplainOptions}
use Rattle.ppm_notes.specs.Orders.{orders_notes}

-- the plan, or the schedule, may be obeyed by so many processors
abbrev pub IsOrderly : ExplainedOrders → ℕ → List ℕ → Type 0
IsOrderly orders.Plan p text = SomeAccepted plan_form text p
IsOrderly orders.Schedule p text = SomeAccepted schedule_form text p

-- a text of a form is refused for this error, which says something of the text
pub record IsRefusedFor {A : Type 0} (form : Form A) (p : ℕ) (text : List ℕ) (error : PlanError) : Type 0 where
  pub of_text : is_of_text error ≡ true
  pub refused : IsRefused form text p error

abbrev pub IsDisorderly : ExplainedOrders → ℕ → List ℕ → PlanError → Type 0
IsDisorderly orders.Plan p text error = IsRefusedFor plan_form p text error
IsDisorderly orders.Schedule p text error = IsRefusedFor schedule_form p text error

module _ (options : ExplainOptions) (text : List ℕ) where
  -- it is refused by this number, and these are the notes of its error
  pub record AreOrdersExplained (number : ℕ) (notes : List ℕ) : Type 0 where
    pub error : PlanError
    pub refusal : IsDisorderly options.orders options.processors text error
    pub number_is : number ≡ number_of error
    pub told : notes ≡ orders_notes options.orders options.processors text error

  -- for this reason
  abbrev pub OrdersToldBy : Refused → List ℕ → Type 0
  OrdersToldBy (refused.Plan number) notes = AreOrdersExplained number notes
  OrdersToldBy r notes = ⊥

  -- the answer that a plan or a schedule has where it is explained
  abbrev pub OrdersHave : Answer → Type 0
  OrdersHave answers.Accepted = IsOrderly options.orders options.processors text
  OrdersHave (answers.Explained r notes) = OrdersToldBy r notes
  OrdersHave _ = ⊥

  -- two answers are one; and there is one: what is not refused may be obeyed
  pub record HaveOneAnswer : Type 0 where
    pub one : (a b : Answer) → OrdersHave a → OrdersHave b → a ≡ b
    pub some : ((number : ℕ) (notes : List ℕ) → ¬ AreOrdersExplained number notes) → IsOrderly options.orders options.processors text

  -- nothing is read, and this is the answer
  abbrev pub HaveUnread : Port → Answer → Type 0
  HaveUnread source answer = IsUnread source × OrdersHave answer

  -- the answers of `explain` with such options: nothing is read
  abbrev pub OrdersMay : Port → Answer → Type 0
  OrdersMay source answers.NoMemory = IsUnread source
  OrdersMay source answer = HaveUnread source answer

  module _ (o : Ports) where
    -- it may be obeyed, and out got exactly `ok`
    abbrev pub WritesOk : Type 0
    WritesOk = OrdersHave answers.Accepted × Gets o.out accepted_text

    -- it is refused, and err got exactly the line that each command writes of this refusal, and the notes after it
    pub record WritesNotes : Type 0 where
      pub number : ℕ
      pub notes : List ℕ
      pub has : AreOrdersExplained number notes
      pub gets : Gets o.err (plan_text number ++ notes)

    -- what each status says
    abbrev pub OrdersSay : Status → Type 0
    OrdersSay statuses.Ended = WritesOk
    OrdersSay statuses.WordsRefused = WritesNotes
    OrdersSay status = PortsSay o status

  -- the rows of `explain` with such options: nothing is read, and where all goes well the answer is written
  pub record OrdersRows (o : Ports) (status : Status) : Type 0 where
    pub unread : IsUnread o.source
    pub rows : JudgedRows HaveUnread (λ all answer. OrdersHave answer) (OrdersSay o) o status
    pub shown : IsShown (λ all answer. OrdersHave answer) o status

-- `explain` of a plan or a schedule has one answer, whatever the options and the text
abbrev pub AllHaveOneAnswer : Type 0
AllHaveOneAnswer = (options : ExplainOptions) (text : List ℕ) → HaveOneAnswer options text

-- `explain` of a plan or a schedule is done
abbrev pub AreToldWhy : ExplainOptions → List ℕ → Ports → Status → Type 0
AreToldWhy options text = IsDone (OrdersMay options text) (OrdersRows options text)
