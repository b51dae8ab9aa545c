use Rattle.ppm_case.proofs.JudgeLemmas.{no_numbers}
use Rattle.ppm_case.proofs.line.head_in.Goals as goal

-- no word follows the name
pub returns-in_default-split_once : goal.returns-in_default-split_once
returns-in_default-split_once c = λ name numbers h.
    no_numbers c.args.line.now c.in-Some.word.now c.in-Some.rest.now name numbers c.in-Some.ensures.pieces c.in_default-split_once.ensures.pieces h
