use Rattle.std.proofs.Common.{sym, subst}
use Rattle.std.proofs.lemmas.Result.{IfOk-weaker, MatchResult-weaker}
use Rattle.ppm_answers.specs.Reading.{TextMay}
use Rattle.ppm_answers.proofs.Judged.{is_read, not_read}
use Rattle.ppm_text.specs.Limits.{text_limit}
use Rattle.ppm_tree.specs.Tree.{tree_of}
use Rattle.ppm_program.specs.Programs.{HasProgram}
use Rattle.ppm_loading.specs.Programs.{NoProgramMay, RefusedHas}
use Rattle.ppm_loading.proofs.ProgramLemmas.{no_fault}
use Rattle.ppm_loading.proofs.programs.read_program.Goals as goal

-- a program is within the bounds
pub returns-in-Ok-clause-bounded : goal.returns-in-Ok-clause-bounded
returns-in-Ok-clause-bounded g c = IfOk-weaker c.text_program.result _ _ (λ program h. h.bounded) c.text_program.ensures.program

-- it is that of the text that was read
pub returns-in-Ok-clause-program : goal.returns-in-Ok-clause-program
returns-in-Ok-clause-program g c =
    IfOk-weaker c.text_program.result _ _
    (λ program h. (
      c.in-Ok.text.items,
      record { whole = c.in-Ok.ensures.bytes; holds = c.in-Ok.ensures.cause },
      subst (λ text. HasProgram text (tree_of program)) c.deref.ensures.value h,
    ))
    c.text_program.ensures.program

-- or the text that was read has none
pub returns-in-Ok-clause-none : goal.returns-in-Ok-clause-none
returns-in-Ok-clause-none g c =
    MatchResult-weaker c.text_program.result c.text_program.ensures.none (λ program h. h)
    (λ answer h. is_read text_limit RefusedHas no_fault _ c.in-Ok.text.items answer
    (record { whole = c.in-Ok.ensures.bytes; holds = c.in-Ok.ensures.cause })
    (subst (λ text. TextMay RefusedHas text answer) c.deref.ensures.value h))

-- or it was not read whole
pub returns-in-Err-clause-none : goal.returns-in-Err-clause-none
returns-in-Err-clause-none g c =
    subst (NoProgramMay _) (sym c.answer_of_read.ensures)
    (not_read text_limit RefusedHas _ c.in-Err.error c.in-Err.ensures.front c.in-Err.ensures.cause)
