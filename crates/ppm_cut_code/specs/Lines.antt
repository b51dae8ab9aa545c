-- Codes, lines apart.
use Rattle.std.specs.Prelude.{map}
use Rattle.ppm_code.specs.declared.act.End.{End}
use Rattle.ppm_code.specs.declared.act.End.TheVariants as ends
use Rattle.ppm_code.specs.declared.code.Capsule.{Capsule}
use Rattle.ppm_code.specs.declared.code.CodeParts.{CodeParts}
use Rattle.ppm_code.specs.declared.instr.Instr.{Instr}
use Rattle.ppm_code.specs.declared.instr.Instr.TheVariants as instr

-- an end in no line
abbrev pub bare_end : End → End
bare_end (ends.Trap trap line) = ends.Trap trap 0
bare_end e = e

-- an instruction in no line
abbrev pub bare_instr : Instr → Instr
bare_instr (instr.Add to left right line) = instr.Add to left right 0
bare_instr (instr.Sub to left right line) = instr.Sub to left right 0
bare_instr (instr.Mul to left right line) = instr.Mul to left right 0
bare_instr (instr.Div to left right line) = instr.Div to left right 0
bare_instr (instr.Rem to left right line) = instr.Rem to left right 0
bare_instr (instr.CutLeft to region place line) = instr.CutLeft to region place 0
bare_instr (instr.CutRight to region place line) = instr.CutRight to region place 0
bare_instr (instr.Get to region index line) = instr.Get to region index 0
bare_instr (instr.Put region index from line) = instr.Put region index from 0
bare_instr (instr.Ends e) = instr.Ends (bare_end e)
bare_instr i = i

-- a capsule in no line
abbrev pub bare_capsule : Capsule → Capsule
bare_capsule c = record { procedure = c.procedure; instrs = map bare_instr c.instrs }

-- a code without its lines, all of which are 0
abbrev pub code_without_lines : CodeParts → CodeParts
code_without_lines c = record { root = c.root; arrays = c.arrays; procedures = c.procedures; capsules = map bare_capsule c.capsules }
