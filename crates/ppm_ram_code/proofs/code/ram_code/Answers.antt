use Rattle.std.proofs.Common.{sym, subst}
use Rattle.ppm_code.specs.Code.{IsCode}
use Rattle.ppm_ram_code.proofs.CodeLemmas.{code_is}
use Rattle.ppm_ram_code.proofs.code.ram_code.Goals as goal

-- the parts are those of the RAM's code
pub from_parts-requires : goal.from_parts-requires
from_parts-requires c = subst IsCode (sym c.in_ok-code.ensures) (code_is c.args.ram.now c.parts.ensures.ram)
