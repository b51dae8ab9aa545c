use Rattle.std.proofs.Common.{sym, subst}
use Rattle.std.proofs.lemmas.Result.{IfOk-weaker, MatchResult-weaker}
use Rattle.ppm_answers.specs.Reading.{TextMay}
use Rattle.ppm_answers.proofs.Judged.{is_read, not_read}
use Rattle.ppm_ram.specs.Limits.{text_limit}
use Rattle.ppm_ram.specs.Text.{IsTextOf}
use Rattle.ppm_orders.specs.Rams.{NoRamMay, RefusedHas}
use Rattle.ppm_orders.proofs.RamTextLemmas.{no_fault}
use Rattle.ppm_orders.proofs.rams.ram_of_source.Goals as goal

-- it is that of the text that was read
pub returns-in-Ok-clause-ram : goal.returns-in-Ok-clause-ram
returns-in-Ok-clause-ram g c =
    IfOk-weaker c.text_ram.result _ _
    (λ ram h. (
      c.in-Ok.text.items,
      record { whole = c.in-Ok.ensures.bytes; holds = c.in-Ok.ensures.cause },
      subst (λ text. IsTextOf text ram) c.deref.ensures.value h,
    ))
    c.text_ram.ensures.ram

-- or the text that was read is of none
pub returns-in-Ok-clause-none : goal.returns-in-Ok-clause-none
returns-in-Ok-clause-none g c =
    MatchResult-weaker c.text_ram.result c.text_ram.ensures.none (λ ram h. h)
    (λ answer h. is_read text_limit RefusedHas no_fault _ c.in-Ok.text.items answer
    (record { whole = c.in-Ok.ensures.bytes; holds = c.in-Ok.ensures.cause })
    (subst (λ text. TextMay RefusedHas text answer) c.deref.ensures.value h))

-- or it was not read whole
pub returns-in-Err-clause-none : goal.returns-in-Err-clause-none
returns-in-Err-clause-none g c =
    subst (NoRamMay _) (sym c.answer_of_read.ensures)
    (not_read text_limit RefusedHas _ c.in-Err.error c.in-Err.ensures.front c.in-Err.ensures.cause)
