use Rattle.std.proofs.Common.{refl}
use Rattle.ppm_choice.proofs.CountLemmas.{none}
use Rattle.ppm_choice.proofs.KeeperLemmas.{is_keeper}
use Rattle.ppm_choice.proofs.pace.Pace.first.Goals as goal

-- nothing is done, and the plan has one keeper
pub returns-clause-pace : goal.returns-clause-pace
returns-clause-pace c limits = record {
  keeper = is_keeper c.args.plan.now.items c.keeper.result c.args.processor _ refl c.keeper.ensures.keeper;
  acts = refl;
  work = none limits.turns;
  looks = none limits.looks;
  next = refl;
  due = refl;
}
