use Rattle.std.proofs.Common.{sym, subst}
use Rattle.std.proofs.lemmas.Result.{IfOk-weaker, MatchResult-weaker}
use Rattle.ppm_answers.specs.Reading.{TextMay}
use Rattle.ppm_answers.proofs.Judged.{is_read, not_read}
use Rattle.ppm_case.specs.Case.{IsCaseOf}
use Rattle.ppm_case.specs.Rules.{case_limit}
use Rattle.ppm_loading.specs.Cases.{NoCaseMay, RefusedHas}
use Rattle.ppm_loading.proofs.CaseLemmas.{no_fault}
use Rattle.ppm_loading.proofs.cases.case_of_source.Goals as goal

-- it is that of the text that was read
pub returns-in-Ok-clause-case : goal.returns-in-Ok-clause-case
returns-in-Ok-clause-case g c =
    IfOk-weaker c.text_case.result _ _
    (λ case h. (
      c.in-Ok.text.items,
      record { whole = c.in-Ok.ensures.bytes; holds = c.in-Ok.ensures.cause },
      subst (λ text. IsCaseOf text case.code case.input) c.deref.ensures.value h,
    ))
    c.text_case.ensures.case

-- or the text that was read is of none
pub returns-in-Ok-clause-none : goal.returns-in-Ok-clause-none
returns-in-Ok-clause-none g c =
    MatchResult-weaker c.text_case.result c.text_case.ensures.none (λ case h. h)
    (λ answer h. is_read case_limit RefusedHas no_fault _ c.in-Ok.text.items answer
    (record { whole = c.in-Ok.ensures.bytes; holds = c.in-Ok.ensures.cause })
    (subst (λ text. TextMay RefusedHas text answer) c.deref.ensures.value h))

-- or it was not read whole
pub returns-in-Err-clause-none : goal.returns-in-Err-clause-none
returns-in-Err-clause-none g c =
    subst (NoCaseMay _) (sym c.answer_of_read.ensures)
    (not_read case_limit RefusedHas _ c.in-Err.error c.in-Err.ensures.front c.in-Err.ensures.cause)
