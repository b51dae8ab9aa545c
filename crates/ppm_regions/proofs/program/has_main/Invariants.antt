use Rattle.std.proofs.Common.{take}
use Rattle.ppm_regions.specs.Deciding.{HasOne, IsNamedMain}
use Rattle.ppm_regions.proofs.program.has_main.Given as goal

-- none of the procedures so far is `main`
abbrev pub invariant-loop-procedure : goal.invariant-loop-procedure
invariant-loop-procedure l = ¬ HasOne IsNamedMain (take l.procedure-index l.procedures)
