use Rattle.std.proofs.Common.{◌≡◌, ℕ, length}
use Rattle.std.specs.BTreeMap.{get}
use Rattle.ppm_plan.specs.Faults.{fault_at}
use Rattle.ppm_plan.specs.Tables.{by_turn, with_rest}
use Rattle.ppm_plan.proofs.fault_table.table_of.Given as goal

-- what the table has, and the items that are left, say together what all items say
abbrev pub invariant-loop-left : goal.invariant-loop-left
invariant-loop-left l =
    (processor turn : ℕ) → with_rest (get by_turn l.table (processor, turn)) (fault_at l.left processor turn) ≡ fault_at l.items processor turn

abbrev pub decreases-loop-left : goal.decreases-loop-left
decreases-loop-left l = length l.left
