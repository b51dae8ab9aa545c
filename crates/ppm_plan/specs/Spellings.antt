-- That items and texts are read exactly as they are written.
use Rattle.std.specs.Prelude.{◌≡◌, ◌↔◌, ℕ, List, [], ◌∷◌, ◌++◌, Some, codes}
use Rattle.ppm_plan.specs.declared.plan_item.PlanItem.{PlanItem}
use Rattle.ppm_plan.specs.declared.schedule_item.ScheduleItem.{ScheduleItem}
use Rattle.ppm_plan.specs.declared.strand_item.StrandItem.{StrandItem}
use Rattle.ppm_plan.specs.Items.{plan_item_text, FitsPlanItem, plan_item_of, WritesScheduleItem, schedule_item_of}
use Rattle.ppm_plan.specs.Forms.{plan_form, schedule_form}
use Rattle.ppm_plan.specs.Refusals.{HasItems}
use Rattle.ppm_plan.specs.Strands.{strand_form, WritesStrandItem}

-- an item of a plan whose numbers fit has one text, which reads as this item, and whatever reads as it is this text
pub record PlanItemsReadAsWritten : Type 0 where
  pub read : (i : PlanItem) → FitsPlanItem i → plan_item_of (plan_item_text i) ≡ Some i
  pub fits : (piece : List ℕ) (i : PlanItem) → plan_item_of piece ≡ Some i → FitsPlanItem i
  pub written : (piece : List ℕ) (i : PlanItem) → plan_item_of piece ≡ Some i → piece ≡ plan_item_text i

-- a piece reads as an item of a schedule exactly where it writes this item
pub record ScheduleItemsReadAsWritten : Type 0 where
  pub read : (piece : List ℕ) (i : ScheduleItem) → WritesScheduleItem piece i → schedule_item_of piece ≡ Some i
  pub written : (piece : List ℕ) (i : ScheduleItem) → schedule_item_of piece ≡ Some i → WritesScheduleItem piece i

-- a piece writes an item of a plan
pub record WritesPlanItem (piece : List ℕ) (i : PlanItem) : Type 0 where
  pub fits : FitsPlanItem i
  pub text : piece ≡ plan_item_text i

-- pieces that write some items, one at least, with a comma between two
pub data WritesInTurn {A : Type 0} (Writes : List ℕ → A → Type 0) : List ℕ → List A → Type 0 where
  Last : {piece : List ℕ} {i : A} → Writes piece i → WritesInTurn Writes piece (i ∷ [])
  More : {piece text : List ℕ} {i : A} {items : List A} → Writes piece i → WritesInTurn Writes text items
      → WritesInTurn Writes (piece ++ 44 ∷ text) (i ∷ items)

-- a text writes items: no items are written `none`
abbrev pub WritesAll : {A : Type 0} → (List ℕ → A → Type 0) → List ℕ → List A → Type 0
WritesAll Writes text [] = text ≡ codes "none"
WritesAll Writes text (i ∷ items) = WritesInTurn Writes text (i ∷ items)

-- a text has items exactly where it writes them
pub record TextsReadAsWritten : Type 0 where
  pub plans : (text : List ℕ) (items : List PlanItem) → HasItems plan_form text items ↔ WritesAll WritesPlanItem text items
  pub schedules : (text : List ℕ) (items : List ScheduleItem) → HasItems schedule_form text items ↔ WritesAll WritesScheduleItem text items
  pub strands : (text : List ℕ) (items : List StrandItem) → HasItems strand_form text items ↔ WritesAll WritesStrandItem text items
