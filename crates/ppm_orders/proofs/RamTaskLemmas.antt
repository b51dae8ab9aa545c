-- The answers of a command that reads orders first, and then a RAM: from what was read, or in place of it.
use Rattle.std.proofs.Common.{ℕ, List}
use Rattle.ppm_ports.specs.Ports.{Port}
use Rattle.ppm_ram.specs.declared.ram.RamParts.{RamParts}
use Rattle.ppm_ram.specs.Limits.{text_limit}
use Rattle.ppm_ram.specs.Text.{IsTextOf}
use Rattle.ppm_plan.specs.Correct.{HasOneAnswer}
use Rattle.ppm_plan.specs.Forms.{Form}
use Rattle.ppm_plan.specs.Refusals.{IsAccepted}
use Rattle.ppm_answers.specs.declared.answer.Answer.{Answer}
use Rattle.ppm_answers.specs.declared.answer.Answer.TheVariants as answers
use Rattle.ppm_answers.specs.Reading.{JudgingMay, Reads}
use Rattle.ppm_loading.specs.Planned.{PlannedMay}
use Rattle.ppm_loading.proofs.PlannedLemmas.{by_items}
use Rattle.ppm_loading.proofs.ProgramLemmas.{AreKinds}
use Rattle.ppm_orders.specs.Orders.{NoTaskMay}
use Rattle.ppm_orders.specs.Rams.{OfText, RefusedHas}
use Rattle.ppm_orders.proofs.RamTextLemmas as texts

module _ {A : Type 0} (form : Form A) (orders : List ℕ) (processors : ℕ) (Has : List A → RamParts → Answer → Type 0) where
  abbrev May : Port → Answer → Type 0
  May source a = PlannedMay form orders processors (λ items text answer. OfText (Has items) text answer) text_limit source a

  -- what is answered where nothing is run is an answer of each such command
  pub no_ram_task : (source : Port) (a : Answer) → NoTaskMay form orders processors text_limit RefusedHas source a → May source a
  no_ram_task source answers.ReadFault h = h
  no_ram_task source answers.NoMemory h = h
  no_ram_task source (answers.PlanRefused number) h = h
  no_ram_task source (answers.SourceRefused r) h = (h.0, h.1, record { items = h.2.items; accepted = h.2.accepted; has = h.2.has })
  no_ram_task source a h = absurd h.2.has.has

  module _ {Is : Answer → Type 0} (kinds : AreKinds Is) (of_ram : (items : List A) (ram : RamParts) (a : Answer) → Has items ram a → Is a)
      (one : HasOneAnswer form) (items : List A) (accepted : IsAccepted form orders processors items) (source : Port) (text : List ℕ)
      (read : Reads text_limit source text) (ram : RamParts) (is : IsTextOf text ram) where
    by_ram : (a : Answer) → JudgingMay text_limit (OfText (Has items)) source a → May source a
    by_ram a may =
        by_items form orders processors (λ items text answer. OfText (Has items) text answer) text_limit one
        (λ items. texts.plain (Has items) kinds (of_ram items)) items accepted source a may

    -- and so is an answer of the RAM that was read
    pub ram_has : (a : Answer) → Has items ram a → May source a
    ram_has a has = by_ram a (texts.ram_may (Has items) kinds (of_ram items) source text read ram is a has)

    -- or want of memory
    pub ram_wants : May source answers.NoMemory
    ram_wants = by_ram answers.NoMemory (texts.wants_may (Has items) kinds (of_ram items) source text read ram is)
