use Rattle.std.proofs.lemmas.Result.{on_ok_weaker}
use Rattle.ppm_sweep.proofs.FrontLemmas.{rejoined}
use Rattle.ppm_sweep.proofs.front.write_act.Goals as goal

-- the last item was taken off, and joined with the act
pub returns-in-Some : goal.returns-in-Some
returns-in-Some c =
    on_ok_weaker c.join.result (λ e. rejoined c.args.items.now.items c.pop.new.self.items c.join.new.items.items c.in-Some.last c.args.act c.in-Some.ensures.items e)
    c.join.ensures
