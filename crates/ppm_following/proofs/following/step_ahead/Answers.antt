use Rattle.std.proofs.Common.{◌≤◌, arith}
use Rattle.ppm_following.proofs.AheadLemmas.{does_ahead, ready_ahead}
use Rattle.ppm_following.proofs.following.step_ahead.Goals as goal

-- they were steps of what is due
pub returns-clause-does : goal.returns-clause-does
returns-clause-does c due step =
    let few : c.steps-made.result ≤ c.args.way.now.left = omega (arith, c.steps-made.ensures.bound, c.min.ensures) in
    does_ahead c.args.processor c.steps-made.result few c.steps-made.ensures.steady c.steps-made.ensures.machine due step

-- as many turns more as acts fewer
pub returns-clause-ready : goal.returns-clause-ready
returns-clause-ready c =
    let few : c.steps-made.result ≤ c.args.way.now.left = omega (arith, c.steps-made.ensures.bound, c.min.ensures) in
    ready_ahead c.args.processor c.steps-made.result few c.requires.ready c.steps-made.ensures.machine
