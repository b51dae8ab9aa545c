use Rattle.std.proofs.Common.{sym, subst}
use Rattle.ppm_core.specs.Situation.{Situation}
use Rattle.ppm_loading.specs.Loading.{OpensRun}
use Rattle.ppm_loading.proofs.loading.load_code.Goals as goal

-- the machine has the words of the image
pub returns : goal.returns
returns c =
    subst (λ (m : Situation). OpensRun c.args.sizes c.args.code c.args.input.now c.args.keeper m) (sym c.in_ok-machine.ensures) c.in_ok-image.ensures
