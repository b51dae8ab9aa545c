use Rattle.ppm_strands_command.proofs.drawn.draws_answer.Goals as goal

-- the answer by what was found
pub returns : goal.returns
returns c = record { found = c.in_ok-found.found; is = c.in_ok-found.ensures; tells = c.in_ok-answer.ensures }
