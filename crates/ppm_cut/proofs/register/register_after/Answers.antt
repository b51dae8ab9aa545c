use Rattle.std.proofs.Common.{◌≡◌, ◌+◌, suc, arith, ap, ◌∙◌}
use Rattle.ppm_cut_code.specs.Layout.{register}
use Rattle.ppm_cut.proofs.register.register_after.Goals as goal

pub returns : goal.returns
returns c = let e : c.args.number + 1 ≡ suc c.args.number = omega arith in c.register.ensures ∙ ap register e
