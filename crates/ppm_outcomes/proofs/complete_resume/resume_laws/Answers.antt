use Rattle.ppm_outcomes.proofs.complete_resume.resume_laws.Goals as goal

-- each is one of these calls
pub returns : goal.returns
returns c = record {
  law = record {
    legs = c.runs_in_legs_are_as_code.ensures.law;
    comes = c.left_words_come_back.ensures.of_code;
    complete = c.resumes_complete.ensures.of_code;
    programs = c.programs_are_as_code.ensures.law;
  };
}
