use Rattle.std.proofs.Common.{◌<◌, ◌^◌, refl, arith, lit<}
use Rattle.ppm_races.proofs.NamingLemmas.{at_few, opener_moment, named, opener_first, opener_low, left_first, left_low, race_is}
use Rattle.ppm_races.proofs.naming.race_of.Goals as goal

-- the capsule that opened the fork has a number
pub overflow_sub-met : goal.overflow_sub-met
overflow_sub-met c = let first = opener_first c.args.code.now c.args.input.now c.args.meeting c.requires.meets in omega (arith, first)

pub visit_of-requires-clause-first : goal.visit_of-requires-clause-first
visit_of-requires-clause-first c = opener_first c.args.code.now c.args.input.now c.args.meeting c.requires.meets

pub visit_of-requires-clause-few : goal.visit_of-requires-clause-few
visit_of-requires-clause-few c =
    let low = opener_low c.args.code.now c.args.input.now c.args.meeting c.requires.meets in omega (arith, low, c.requires.few)

pub visit_of-requires-clause-there : goal.visit_of-requires-clause-there
visit_of-requires-clause-there c = opener_moment c.args.code.now c.args.input.now c.args.meeting c.requires.meets

-- and the one that is met
pub visit_of-requires-2-clause-first : goal.visit_of-requires-2-clause-first
visit_of-requires-2-clause-first c = left_first c.args.code.now c.args.input.now c.args.meeting c.requires.meets

pub visit_of-requires-2-clause-few : goal.visit_of-requires-2-clause-few
visit_of-requires-2-clause-few c =
    let low = left_low c.args.code.now c.args.input.now c.args.meeting c.requires.meets in omega (arith, low, c.requires.few)

pub visit_of-requires-2-clause-there : goal.visit_of-requires-2-clause-there
visit_of-requires-2-clause-there c = (named c.args.code.now c.args.input.now c.args.meeting c.requires.meets).moment

-- an instruction's number is small
pub overflow_cast-result : goal.overflow_cast-result
overflow_cast-result c =
    let low = at_few c.args.code.now c.parts.ensures.code c.args.input.now c.args.meeting c.requires.meets in
    let most : 160 < 2 ^ 32 = lit< tt in
    omega (arith, low, most)

-- the race
pub returns-clause-race : goal.returns-clause-race
returns-clause-race c = race_is c.args.code.now c.args.input.now c.args.meeting c.requires.meets c.in_ok-opener.opener c.in_ok-left.left
    c.args.meeting.met.touch.at
    c.in_ok-opener.ensures c.in_ok-left.ensures refl
