use Rattle.ppm_outcomes.proofs.LegsMeant.{runs_in_legs_are_as_programs, tags_may_rise}
use Rattle.ppm_outcomes.proofs.legs.runs_in_legs_are_as_programs.Goals as goal

-- as of each sound code, since each program is as its code
pub returns : goal.returns
returns c = record {
  law = runs_in_legs_are_as_programs c.programs_are_as_code.ensures.law c.runs_in_legs_are_as_code.ensures.law;
  tags = tags_may_rise c.programs_are_as_code.ensures.law c.runs_in_legs_are_as_code.ensures.tags;
}
