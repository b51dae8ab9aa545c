use Rattle.ppm_threads.proofs.RunningLemmas.{Runs}
use Rattle.ppm_threads.proofs.going.run.Given as goal

-- what it has done obeys so far, and its watcher was told of it
abbrev pub invariant-loop : goal.invariant-loop
invariant-loop g l = Runs g.W.Watch.told l.crew.plan.now l.crew.limits l.crew.shared l.fn.processor l.fn.watch l.processor l.watch l.pace l.victims
