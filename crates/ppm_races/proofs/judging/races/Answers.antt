use Rattle.std.proofs.Common.{subst, arith}
use Rattle.ppm_races.specs.Judged.{IsJudged}
use Rattle.ppm_races.specs.declared.judging.Judged.{Judged}
use Rattle.ppm_races.proofs.judging.races.Goals as goal

-- what meets another one is within the limit
pub race_of-requires-clause-few : goal.race_of-requires-clause-few
race_of-requires-clause-few c =
    let it = subst (λ (j : Judged). IsJudged c.args.code.now c.args.input.now c.args.capsules j) c.in-Meets.is c.in_ok-judged.ensures in
    let low = it.2 in
    omega (arith, low, c.requires.few)

pub race_of-requires-clause-meets : goal.race_of-requires-clause-meets
race_of-requires-clause-meets c =
    (subst (λ (j : Judged). IsJudged c.args.code.now c.args.input.now c.args.capsules j) c.in-Meets.is c.in_ok-judged.ensures).1

-- by what is judged
pub returns-in-Calm : goal.returns-in-Calm
returns-in-Calm c = record {
  verdict = subst (λ (j : Judged). IsJudged c.args.code.now c.args.input.now c.args.capsules j) c.in-Calm.is c.in_ok-judged.ensures;
}

pub returns-in_ok-race-in-Meets : goal.returns-in_ok-race-in-Meets
returns-in_ok-race-in-Meets c =
    let it = subst (λ (j : Judged). IsJudged c.args.code.now c.args.input.now c.args.capsules j) c.in-Meets.is c.in_ok-judged.ensures in
    let low = it.2 in
    let run = c.in_ok-race-in-Meets.ensures.run in
    record { verdict = (it.0, c.in_ok-race-in-Meets.ensures.race, omega (arith, low, run)) }

pub returns-in-NotWithin : goal.returns-in-NotWithin
returns-in-NotWithin c = record {
  verdict = subst (λ (j : Judged). IsJudged c.args.code.now c.args.input.now c.args.capsules j) c.in-NotWithin.is c.in_ok-judged.ensures;
}
