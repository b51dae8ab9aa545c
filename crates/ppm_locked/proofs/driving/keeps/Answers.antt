use Rattle.std.proofs.Common.{refl}
use Rattle.ppm_choice.proofs.KeeperLemmas.{is_keeper}
use Rattle.ppm_locked.proofs.driving.keeps.Goals as goal

pub returns : goal.returns
returns c = λ keeps. (is_keeper c.args.plan.now.items c.keeper.result c.args.processor _ refl c.keeper.ensures.keeper).1 keeps
