use Rattle.ppm_explained.proofs.trapping.text_answer.Goals as goal

-- a refusal is explained whatever the turns are
pub returns-in-Err-Refused : goal.returns-in-Err-Refused
returns-in-Err-Refused c = c.refused_answer.ensures c.args.turns
