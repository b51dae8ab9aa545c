use Rattle.ppm_ram.proofs.NumberLemmas.{register_small, register_large}
use Rattle.ppm_ram.proofs.number.register_with.Goals as goal

-- there is one
pub returns-then-number-lt8 : goal.returns-then-number-lt8
returns-then-number-lt8 c = register_small c.args.number _

-- there is none
pub returns-else-number-lt8 : goal.returns-else-number-lt8
returns-else-number-lt8 c = register_large c.args.number c.if-number-lt8.false
