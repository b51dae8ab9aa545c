use Rattle.ppm_threads.proofs.HalvesLemmas.{end_one}
use Rattle.ppm_threads.proofs.driving.run_one.Goals as goal

pub returns : goal.returns
returns g c =
    end_one g.W.Watch.told c.args.crew.now.plan.now c.args.crew.now.limits c.args.crew.now.shared c.run.result c.args.processor.now c.args.watch.now c.run.new.processor c.run.new.watch c.run.ensures
