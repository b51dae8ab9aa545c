use Rattle.std.proofs.Common.{◌≡◌, ◌≤◌, ◌++◌, ◌-◌, drop, length}
use Rattle.ppm_ram_code.specs.Code.{capsules_from}
use Rattle.ppm_ram_code.proofs.code.capsules_of.Given as goal

-- the capsules so far, and those of the instructions that are left
abbrev pub invariant-loop-instruction : goal.invariant-loop-instruction
invariant-loop-instruction l =
    l.capsules.items ++ capsules_from l.number (drop l.number l.ram.instructions) ≡ capsules_from 0 l.ram.instructions

abbrev pub decreases-loop-instruction : goal.decreases-loop-instruction
decreases-loop-instruction l = length l.ram.instructions - l.number
