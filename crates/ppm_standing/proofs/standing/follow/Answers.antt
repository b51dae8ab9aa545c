-- Each step leaves where the run stands.
use Rattle.std.proofs.Common.{◌∙◌, sym, arith, map, false}
use Rattle.ppm_tree.specs.Tree.{procedure_of}
use Rattle.ppm_standing.specs.Shown.{run_of}
use Rattle.ppm_standing.proofs.FollowLemmas.{stands_after, stands_nowhere}
use Rattle.ppm_standing.proofs.standing.follow.Goals as goal

pub returns-in-Trapped : goal.returns-in-Trapped
returns-in-Trapped c =
    sym c.steps.invariant
    ∙ stands_nowhere c.args.steps c.steps.at c.cost-cost.result (map procedure_of c.args.procedures.now) (run_of c.steps.run) (run_of c.advance.new.self) c.in-Err.stop
    c.in-Trapped.field-0 c.in-Trapped.field-1 (let l = c.steps-test.true in omega (arith, l)) (let h = c.if-run.false in cc) c.cost-cost.ensures
    (let f = c.if-run-cost.false in omega (arith, f)) c.in-Trapped.is c.in-Err.ensures

pub steps-preserved : goal.steps-preserved
steps-preserved c =
    sym (stands_after c.args.steps c.steps.at c.cost-cost.result (map procedure_of c.args.procedures.now) (run_of c.steps.run) (run_of c.advance.new.self)
    (let l = c.steps-test.true in omega (arith, l)) (let h = c.if-run.false in cc) c.cost-cost.ensures (let f = c.if-run-cost.false in omega (arith, f))
    c.in_default.ensures)
    ∙ c.steps.invariant
