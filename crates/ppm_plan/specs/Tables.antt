-- The faults of a plan as a table by processor and turn.
use Rattle.std.specs.Prelude.{◌≡◌, ℕ, if◌then◌else◌, List, Option, Some, None, IsSome}
use Rattle.std.specs.declared.cmp.Ordering.{Ordering}
use Rattle.std.specs.Ordering.{ordering_then, nat_cmp}
use Rattle.std.specs.BTreeMap.{BTreeMap, get}
use Rattle.std.specs.BTreeMap.Range.{IsLeBy}
use Rattle.ppm_plan.specs.declared.fault.Fault.{Fault}
use Rattle.ppm_plan.specs.declared.fault.Fault.TheVariants.{Soft, Hard}
use Rattle.ppm_plan.specs.declared.plan_item.PlanItem.{PlanItem}
use Rattle.ppm_plan.specs.Faults.{fault_at, is_at}

-- the order of a table's keys: by processor, then by turn
abbrev pub by_turn : ℕ × ℕ → ℕ × ℕ → Ordering
by_turn a b = ordering_then (nat_cmp a.0 b.0) (nat_cmp a.1 b.1)

-- the graver of a fault that was met, if any, and a further one
abbrev pub graver : Option Fault → Fault → Fault
graver None fault = fault
graver (Some Soft) fault = fault
graver (Some Hard) fault = Hard

-- the fault of a turn after a further item, given the one met before
abbrev pub with_item : Option Fault → PlanItem → (processor turn : ℕ) → Option Fault
with_item met i processor turn = if is_at processor turn i then Some (graver met i.fault) else met

-- the fault of a turn, given the one met so far and that of the items that are left
abbrev pub with_rest : Option Fault → Option Fault → Option Fault
with_rest None rest = rest
with_rest (Some met) None = Some met
with_rest (Some met) (Some fault) = Some (graver (Some met) fault)

-- a table has at each turn of each processor the fault that the items say
abbrev pub Shows : BTreeMap (ℕ × ℕ) Fault → List PlanItem → Type 0
Shows table items = (processor turn : ℕ) → get by_turn table (processor, turn) ≡ fault_at items processor turn

-- the first key of a table from a key on, if there is one
abbrev pub IsFirstFrom : BTreeMap (ℕ × ℕ) Fault → (from : ℕ × ℕ) → Option (ℕ × ℕ) → Type 0
IsFirstFrom table from None = (key : ℕ × ℕ) → IsLeBy by_turn from key → get by_turn table key ≡ None
IsFirstFrom table from (Some first) =
    IsLeBy by_turn from first
    × IsSome (get by_turn table first)
    × ((key : ℕ × ℕ) → IsLeBy by_turn from key → IsSome (get by_turn table key) → IsLeBy by_turn first key)
