-- No procedure before this one has the name.
use Rattle.std.proofs.Common.{◌≡◌, ◌+◌, ◌-◌, ◌≤◌, length, drop, map}
use Rattle.ppm_tree.specs.Tree.{procedure_of}
use Rattle.ppm_serial.specs.Laying.{place_in}
use Rattle.ppm_serial.proofs.lay.place_of.Given as goal

abbrev pub invariant-loop-at : goal.invariant-loop-at
invariant-loop-at l = (place_in (map procedure_of l.procedures) l.name ≡ l.at + place_in (map procedure_of (drop l.at l.procedures)) l.name) × (l.at ≤ length l.procedures)

abbrev pub decreases-loop-at : goal.decreases-loop-at
decreases-loop-at l = length l.procedures - l.at
