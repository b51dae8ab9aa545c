-- What is said of a plan or a schedule that is refused, after the line of the refusal.
use Rattle.std.specs.Prelude.{ℕ, ◌-◌, List, [], ◌++◌, codes, decimal, Option, Some, None}
use Rattle.ppm_plan.specs.declared.plan_error.PlanError.{PlanError}
use Rattle.ppm_plan.specs.declared.plan_error.PlanError.TheVariants as error
use Rattle.ppm_cli.specs.declared.explain.ExplainedOrders.{ExplainedOrders}
use Rattle.ppm_cli.specs.declared.explain.ExplainedOrders.TheVariants as orders
use Rattle.ppm_explain.specs.Meanings.{note_text}
use Rattle.ppm_explain.specs.Places.{mark_text, shown_text}
use Rattle.ppm_notes.specs.Words.{after_pieces, column_in, first_piece}

-- the item that stands after some pieces
abbrev pub item_text : Option (List ℕ) → List ℕ
item_text None = []
item_text (Some rest) = first_piece 44 rest

-- an item by its number, from 1, and its column: the text with a mark under the item, and the item
abbrev pub item_notes : List ℕ → ℕ → List ℕ
item_notes text n =
    let rest = after_pieces 44 (n - 1) text in
    codes "item " ++ decimal n ++ codes " column " ++ decimal (column_in text rest) ++ codes "\n" ++ shown_text text
    ++ mark_text text (column_in text rest) ++ codes "found: `" ++ item_text rest ++ codes "`\n"

-- what an item is
abbrev pub item_meaning : ExplainedOrders → List ℕ
item_meaning orders.Plan =
    codes "an item of a plan is `C@Ts` or `C@Th`: at turn T of processor C a soft or a hard fault, C and T below 4294967296; items have commas between them, and `none` is no item"
item_meaning orders.Schedule =
    codes "an item of a schedule is `C` or `C>V`, a step of processor C that may look at place V, with `*N` behind it N such steps, 1 to 268435456, or `C!s` or `C!h`, a soft or a hard fault; items have commas between them, and `none` is no item"

-- which processors there are
abbrev pub processors_meaning : ExplainedOrders → ℕ → List ℕ
processors_meaning orders.Plan p = codes "processors are 0 to " ++ decimal (p - 1)
processors_meaning orders.Schedule p = codes "processors and places are 0 to " ++ decimal (p - 1)

abbrev pub many_meaning : List ℕ
many_meaning = codes "there are more than 4096 items"

abbrev pub killed_meaning : List ℕ
killed_meaning = codes "each processor has a hard fault; one has to be spared"

-- what is said of a plan or a schedule for so many processors
abbrev pub orders_notes : ExplainedOrders → (processors : ℕ) → List ℕ → PlanError → List ℕ
orders_notes o p text (error.BadItem n) = item_notes text n ++ note_text (item_meaning o)
orders_notes o p text (error.NoSuchProcessor n) = item_notes text n ++ note_text (processors_meaning o p)
orders_notes o p text error.TooManyFaults = note_text many_meaning
orders_notes o p text error.AllKilled = note_text killed_meaning
orders_notes o p text error.NoMemory = []
