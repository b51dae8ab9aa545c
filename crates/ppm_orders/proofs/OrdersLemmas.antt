-- The answers of a command that reads orders first, and then a program or a case: from what was read, or in place of it.
use Rattle.std.proofs.Common.{ℕ, List}
use Rattle.ppm_ports.specs.Ports.{Port}
use Rattle.ppm_text.specs.Limits.{text_limit}
use Rattle.ppm_tree.specs.Tree.{ProgramTree}
use Rattle.ppm_plan.specs.Correct.{HasOneAnswer}
use Rattle.ppm_plan.specs.Forms.{Form}
use Rattle.ppm_plan.specs.Refusals.{IsAccepted}
use Rattle.ppm_answers.specs.declared.answer.Answer.{Answer}
use Rattle.ppm_answers.specs.declared.answer.Answer.TheVariants as answers
use Rattle.ppm_loading.specs.Planned.{PlannedMay}
use Rattle.ppm_answers.specs.Reading.{JudgingMay, Reads}
use Rattle.ppm_loading.specs.Programs.{ProgramMay, ReadsProgram, RefusedHas, TextHas}
use Rattle.ppm_loading.proofs.PlannedLemmas.{by_items}
use Rattle.ppm_loading.proofs.ProgramLemmas.{AreKinds, has_may, plain, program_may}
use Rattle.ppm_words.specs.declared.named_array.NamedArray.{NamedArray}
use Rattle.ppm_code.specs.declared.code.CodeParts.{CodeParts}
use Rattle.ppm_case.specs.Case.{IsCaseOf}
use Rattle.ppm_case.specs.Rules.{case_limit}
use Rattle.ppm_loading.specs.Cases as cases
use Rattle.ppm_loading.proofs.CaseLemmas.{AreCaseKinds}
use Rattle.ppm_loading.proofs.CaseLemmas as of_cases
use Rattle.ppm_orders.specs.Orders.{NoTaskMay}

module _ {A : Type 0} (form : Form A) (orders : List ℕ) (processors : ℕ) where
  -- the orders are accepted, and what was read says nothing to run
  pub nothing_read : (limit : ℕ) (Refused : List ℕ → Answer → Type 0)
      → ((text : List ℕ) (number : ℕ) → ¬ Refused text (answers.PlanRefused number)) → HasOneAnswer form → (items : List A)
      → IsAccepted form orders processors items → (source : Port) (a : Answer) → JudgingMay limit Refused source a
      → NoTaskMay form orders processors limit Refused source a
  nothing_read limit Refused plain one items accepted source a h =
      by_items form orders processors (λ items. Refused) limit one (λ items. plain) items accepted source a h

  module _ (Has : List A → ProgramTree → Answer → Type 0) where
    abbrev May : Port → Answer → Type 0
    May source a = PlannedMay form orders processors (λ items text answer. TextHas (Has items) text answer) text_limit source a

    -- what is answered where nothing is run is an answer of each such command
    pub no_task : (source : Port) (a : Answer) → NoTaskMay form orders processors text_limit RefusedHas source a → May source a
    no_task source answers.ReadFault h = h
    no_task source answers.NoMemory h = h
    no_task source (answers.PlanRefused number) h = h
    no_task source (answers.SourceRefused r) h = (h.0, h.1, record { items = h.2.items; accepted = h.2.accepted; has = h.2.has })
    no_task source a h = absurd h.2.has.2

    module _ {Is : Answer → Type 0} (kinds : AreKinds Is) (of_program : (items : List A) (t : ProgramTree) (a : Answer) → Has items t a → Is a)
        (one : HasOneAnswer form) (items : List A) (accepted : IsAccepted form orders processors items) (source : Port) (t : ProgramTree)
        (read : ReadsProgram source t) where
      by_program : (a : Answer) → ProgramMay (Has items t) a → May source a
      by_program a may =
          by_items form orders processors (λ items text answer. TextHas (Has items) text answer) text_limit one
          (λ items. plain (Has items) kinds (of_program items)) items accepted source a
          (program_may (Has items) kinds (of_program items) source t a read may)

      -- and so is an answer of the program that was read
      pub task_has : (a : Answer) → Has items t a → May source a
      task_has a has = by_program a (has_may (Has items) kinds (of_program items) t a has)

      -- or want of memory
      pub task_wants : May source answers.NoMemory
      task_wants = by_program answers.NoMemory tt

  -- what a command that runs a case may answer
  module _ (Has : List A → CodeParts → List NamedArray → Answer → Type 0) where
    abbrev CaseMay : Port → Answer → Type 0
    CaseMay source a = PlannedMay form orders processors (λ items text answer. cases.TextHas (Has items) text answer) case_limit source a

    pub no_case_task : (source : Port) (a : Answer) → NoTaskMay form orders processors case_limit cases.RefusedHas source a → CaseMay source a
    no_case_task source answers.ReadFault h = h
    no_case_task source answers.NoMemory h = h
    no_case_task source (answers.PlanRefused number) h = h
    no_case_task source (answers.InputRefused r) h = (h.0, h.1, record { items = h.2.items; accepted = h.2.accepted; has = h.2.has })
    no_case_task source (answers.ListingRefused r) h = (h.0, h.1, record { items = h.2.items; accepted = h.2.accepted; has = h.2.has })
    no_case_task source a h = absurd h.2.has.has

    module _ {Is : Answer → Type 0} (kinds : AreCaseKinds Is)
        (of_code : (items : List A) (code : CodeParts) (input : List NamedArray) (a : Answer) → Has items code input a → Is a)
        (one : HasOneAnswer form) (items : List A) (accepted : IsAccepted form orders processors items) (source : Port) (text : List ℕ)
        (read : Reads case_limit source text) (code : CodeParts) (input : List NamedArray) (is : IsCaseOf text code input) where
      by_case : (a : Answer) → JudgingMay case_limit (cases.TextHas (Has items)) source a → CaseMay source a
      by_case a may =
          by_items form orders processors (λ items text answer. cases.TextHas (Has items) text answer) case_limit one
          (λ items. of_cases.plain (Has items) kinds (of_code items)) items accepted source a may

      pub case_has : (a : Answer) → Has items code input a → CaseMay source a
      case_has a has = by_case a (of_cases.case_may (Has items) kinds (of_code items) source text read code input is a has)

      pub case_wants : CaseMay source answers.NoMemory
      case_wants = by_case answers.NoMemory (of_cases.wants_may (Has items) kinds (of_code items) source text read code input is)
