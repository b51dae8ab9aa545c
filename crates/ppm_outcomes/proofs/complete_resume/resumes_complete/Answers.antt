use Rattle.ppm_outcomes.proofs.ResumeComplete.{resumes_complete, resumes_of_code_complete}
use Rattle.ppm_outcomes.proofs.complete_resume.resumes_complete.Goals as goal

-- from the laws of runs in legs, of texts, of plans and of saved texts
pub returns : goal.returns
returns c =
    let of_code = resumes_of_code_complete (record {
      runs = c.runs_in_legs_are_as_code.ensures.law;
      comes = c.left_words_come_back.ensures.of_code;
      plans = c.have_one_answer.ensures.law;
      states = c.saved_texts_tell_states.ensures.law;
      faults = c.faults_tell_saved_texts.ensures.law;
    }) in
    record { law = resumes_complete c.programs_are_as_code.ensures.law of_code; of_code = of_code }
