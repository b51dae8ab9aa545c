use Rattle.ppm_outcomes.proofs.LeftLemmas.{code_words_come_back, left_words_come_back}
use Rattle.ppm_outcomes.proofs.legs.left_words_come_back.Goals as goal

-- as no tag is the last
pub returns : goal.returns
returns c =
    let of_code = code_words_come_back c.runs_in_legs_are_as_code.ensures.tags c.renewed_words_come_back.ensures.law in
    record { law = left_words_come_back c.programs_are_as_code.ensures.law of_code; of_code = of_code }
