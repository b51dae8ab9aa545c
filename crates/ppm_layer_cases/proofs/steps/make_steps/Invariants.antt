use Rattle.std.proofs.Common.{◌≡◌, ◌<◌, length}
use Rattle.ppm_cells.specs.Cells.{word_count}
use Rattle.ppm_step.specs.Locals.{IsLocal}
use Rattle.ppm_layer_cases.proofs.steps.make_steps.Given as goal

-- the processor is one of the shape's, and the words are
abbrev pub invariant-loop : goal.invariant-loop
invariant-loop l = IsLocal l.shape l.code l.local × (length l.words ≡ word_count l.shape) × (1 < l.shape.processors)
