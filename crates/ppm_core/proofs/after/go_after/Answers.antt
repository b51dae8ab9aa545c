use Rattle.std.proofs.Common.{subst}
use Rattle.ppm_core.specs.declared.capsule.Way.{Way}
use Rattle.ppm_core.specs.Rounds.{HaltsAt}
use Rattle.ppm_core.proofs.AfterLemmas.{asks_at}
use Rattle.ppm_core.proofs.ListLemmas.{get_there}
use Rattle.ppm_core.proofs.after.go_after.Goals as goal

pub fill_and_end-requires-clause-capsule : goal.fill_and_end-requires-clause-capsule
fill_and_end-requires-clause-capsule c =
    let halts = subst (λ (way : Way). HaltsAt c.args.shape.now c.args.code.now c.args.seat c.args.coming c.args.local.now.registers way c.requires.left.0)
    (asks_at c.args.way c.in-Some.asked c.in-Some.ensures) c.requires.left.1 in
    get_there c.args.code.now.capsules c.args.coming.number halts.0 halts.1

pub fill_and_end-requires-clause-left : goal.fill_and_end-requires-clause-left
fill_and_end-requires-clause-left c = (
  c.requires.left.0,
  subst (λ (way : Way). HaltsAt c.args.shape.now c.args.code.now c.args.seat c.args.coming c.args.local.now.registers way c.requires.left.0)
      (asks_at c.args.way c.in-Some.asked c.in-Some.ensures) c.requires.left.1,
)

pub returns-in-Some-room_at-clause-framed : goal.returns-in-Some-room_at-clause-framed
returns-in-Some-room_at-clause-framed c = λ standing halts.
    c.fill_and_end.ensures.framed standing
    (subst (λ (way : Way). HaltsAt c.args.shape.now c.args.code.now c.args.seat c.args.coming c.args.local.now.registers way standing)
    (asks_at c.args.way c.in-Some.asked c.in-Some.ensures) halts)
