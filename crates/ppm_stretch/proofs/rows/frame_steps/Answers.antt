use Rattle.std.proofs.Common.{◌∙◌, sym, ap}
use Rattle.ppm_code.specs.declared.act.Step.{Step}
use Rattle.ppm_step.specs.declared.running.Stage.TheVariants.{Before}
use Rattle.ppm_stretch.proofs.AskingLemmas.{stands_at_ask}
use Rattle.ppm_stretch.proofs.EndingLemmas.{under_way_of, end_of, stands_at_end}
use Rattle.ppm_stretch.proofs.rows.frame_steps.Goals as goal

pub ends-requires-clause-own : goal.ends-requires-clause-own
ends-requires-clause-own g c κs within =
    (under_way_of c.args.shape.now c.args.code.now c.args.local.now c.in-Runs.under_way c.in-Runs.is c.requires.local).1

pub ends-requires-clause-seat : goal.ends-requires-clause-seat
ends-requires-clause-seat g c κs within =
    (under_way_of c.args.shape.now c.args.code.now c.args.local.now c.in-Runs.under_way c.in-Runs.is c.requires.local).0.seat

pub ends-requires-clause-home : goal.ends-requires-clause-home
ends-requires-clause-home g c κs within =
    (under_way_of c.args.shape.now c.args.code.now c.args.local.now c.in-Runs.under_way c.in-Runs.is c.requires.local).0.home

pub ends-requires-clause-capsule : goal.ends-requires-clause-capsule
ends-requires-clause-capsule g c κs within =
    (under_way_of c.args.shape.now c.args.code.now c.args.local.now c.in-Runs.under_way c.in-Runs.is c.requires.local).0.capsule

pub ends-requires-clause-end : goal.ends-requires-clause-end
ends-requires-clause-end g c κs within =
    end_of c.args.shape.now c.args.code.now c.args.local.now c.in-Runs.under_way c.in-Ending.end c.in-Ending.n c.in-Runs.is c.in-Ending.is c.requires.local

pub ends-requires-clause-stands : goal.ends-requires-clause-stands
ends-requires-clause-stands g c κs within =
    sym c.requires.stands
    ∙ stands_at_end c.args.shape.now c.args.code.now c.args.local.now c.in-Runs.under_way c.in-Ending.end c.in-Ending.n c.in-Runs.is c.in-Ending.is c.requires.local

pub fills-requires-clause-own : goal.fills-requires-clause-own
fills-requires-clause-own g c κs within =
    (under_way_of c.args.shape.now c.args.code.now c.args.local.now c.in-Runs.under_way c.in-Runs.is c.requires.local).1

pub fills-requires-clause-seat : goal.fills-requires-clause-seat
fills-requires-clause-seat g c κs within =
    (under_way_of c.args.shape.now c.args.code.now c.args.local.now c.in-Runs.under_way c.in-Runs.is c.requires.local).0.seat

pub fills-requires-clause-home : goal.fills-requires-clause-home
fills-requires-clause-home g c κs within =
    (under_way_of c.args.shape.now c.args.code.now c.args.local.now c.in-Runs.under_way c.in-Runs.is c.requires.local).0.home

pub fills-requires-clause-capsule : goal.fills-requires-clause-capsule
fills-requires-clause-capsule g c κs within =
    (under_way_of c.args.shape.now c.args.code.now c.args.local.now c.in-Runs.under_way c.in-Runs.is c.requires.local).0.capsule

pub fills-requires-clause-stands : goal.fills-requires-clause-stands
fills-requires-clause-stands g c κs within =
    sym c.requires.stands
    ∙ stands_at_ask c.args.shape.now c.args.code.now c.args.local.now c.in-Runs.under_way c.in-Asks.asked c.in-Runs.is
    (c.in-Before.is ∙ ap (λ (step : Step). Before step) c.in-Asks.is) c.requires.local
