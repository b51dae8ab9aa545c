-- The machine makes the turn, its deed is told, and the first fall.
use Rattle.std.proofs.Common.{refl}
use Rattle.ppm_strand_runs.proofs.TurnLemmas.{adds}
use Rattle.ppm_strand_runs.proofs.run.StrandRun.make.Goals as goal

pub returns-clause-adds : goal.returns-clause-adds
returns-clause-adds c =
    adds c.args.code.now c.args.turn c.in_ok-deed.deed c.strand-who.result c.made_count-had.result c.made_count-has.result c.args.self.now _
    c.in_ok-deed.ensures refl c.strand-who.ensures c.in_ok-push_done.ensures c.made_count-had.ensures c.made_count-has.ensures
    c.in_ok-push_made.ensures c.deref.result.now c.deref.ensures.value c.first_fall-self.ensures
