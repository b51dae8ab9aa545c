use Rattle.std.proofs.Common.{◌∙◌, List, ap}
use Rattle.std.specs.Prelude.{slice_get}
use Rattle.ppm_ram.specs.declared.instruction.Instruction.{Instruction}
use Rattle.ppm_ram.proofs.ProgramLemmas.{few_if, target_if}
use Rattle.ppm_ram.proofs.ram.Ram.instruction.Goals as goal

-- its number and its target are small
pub returns-clause-few : goal.returns-clause-few
returns-clause-few c =
    few_if _ c.self.invariant c.args.number _ (c.instruction_at.ensures ∙ ap (λ (l : List Instruction). slice_get l c.args.number) c.as_slice.ensures)

pub returns-clause-target : goal.returns-clause-target
returns-clause-target c =
    target_if _ c.self.invariant c.args.number _ (c.instruction_at.ensures ∙ ap (λ (l : List Instruction). slice_get l c.args.number) c.as_slice.ensures)
