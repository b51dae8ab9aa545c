-- A capsule that a frame enters goes as from 0 in all registers, where those hold 0 that it reads.
use Rattle.std.proofs.Common.{◌≡◌, ◌∙◌, ℕ, List, take, replicate, Some, sym, ap}
use Rattle.ppm_cells.specs.declared.restart.RestartKind.TheVariants.{Run}
use Rattle.ppm_cells.specs.declared.shape.Shape.{Shape}
use Rattle.ppm_code.specs.Capsules.{capsule_from}
use Rattle.ppm_code.specs.declared.instr.Instr.{Instr}
use Rattle.ppm_code.specs.declared.code.Capsule.{Capsule as Coded}
use Rattle.ppm_code.specs.declared.code.CodeParts.{CodeParts}
use Rattle.ppm_step.specs.declared.frame.Home.{Home}
use Rattle.ppm_step.specs.declared.row.Seat.{Seat}
use Rattle.ppm_step.specs.Frames.{rest_of}
use Rattle.ppm_step.specs.Standings.{Standing, enters, running}
use Rattle.ppm_widths.specs.Widths.{width_of}
use Rattle.ppm_widths.proofs.WidthLemmas.{begins_same}

-- a capsule that a frame enters stands at its first instruction, where the registers hold 0 that it reads
pub enters_with_zeros : (s : Shape) (code : CodeParts) (seat : Seat) (home : Home) (capsule : Coded) (instrs : List Instr) (g : List ℕ) (standing : Standing)
    → standing ≡ enters s code seat (Run home.frame home.copy) (Some capsule) → home.block ≡ 0 → instrs ≡ capsule.instrs
    → take (width_of capsule.instrs) g ≡ take (width_of capsule.instrs) (replicate 64 0)
    → standing ≡ running s seat (rest_of s code seat.place home (capsule_from s.arrays 0 0 instrs g))
enters_with_zeros s code seat home capsule instrs g standing at none is same =
    at
    ∙ (λ i. running s seat (rest_of s code seat.place (record { frame = home.frame; copy = home.copy; block = sym none i }) (begins_same s.arrays capsule.instrs g same i)))
    ∙ ap (λ (list : List Instr). running s seat (rest_of s code seat.place home (capsule_from s.arrays 0 0 list g))) (sym is)
