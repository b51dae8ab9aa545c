use Rattle.ppm_plan.proofs.AmongLemmas.{all_among}
use Rattle.ppm_plan.proofs.schedule.read_schedule.Goals as goal

-- the items were judged
pub with_keeper-requires-clause-among : goal.with_keeper-requires-clause-among
with_keeper-requires-clause-among c =
    all_among c.args.text.now c.args.processors c.in_ok-items.items.items c.in_ok-items.ensures.items c.in_ok-keeper.ensures.keeper.there
