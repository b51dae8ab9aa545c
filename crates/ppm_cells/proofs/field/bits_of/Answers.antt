use Rattle.std.proofs.Common.{◌^◌, ◌/◌}
use Rattle.std.proofs.lemmas.Nat.{and_mask, one_shl}
use Rattle.ppm_cells.specs.Fields.{bits}
use Rattle.ppm_cells.proofs.field.bits_of.Goals as goal

-- a mask of so many bits takes the remainder
pub returns-clause-value : goal.returns-clause-value
unfolding bits
returns-clause-value c = rw (one_shl c.args.width 64 c.requires.width) (and_mask (c.args.word / 2 ^ c.args.from) c.args.width)
