-- The rows of `check`.
use Rattle.std.proofs.Common.{◌≡◌, ◌⊎◌, ℕ, List, inl, inr}
use Rattle.ppm_ports.specs.Outside.{Ports}
use Rattle.ppm_listing_reader.specs.Limits.{listing_limit}
use Rattle.ppm_answers.specs.declared.answer.Answer.{Answer}
use Rattle.ppm_answers.specs.declared.answer.Answer.TheVariants as answers
use Rattle.ppm_answers.specs.declared.status.Status.{Status}
use Rattle.ppm_answers.specs.Statuses.{status_of}
use Rattle.ppm_answers.specs.Delivery.{IsWritten}
use Rattle.ppm_answers.specs.Reading.{ReadHas, DeliversAnswer}
use Rattle.ppm_answers.proofs.Judged.{text_rows}
use Rattle.ppm_answers.proofs.RowsLemmas.{shown}
use Rattle.ppm_commands.specs.Check.{CheckHas, HaveOneAnswer, CheckMay, CheckSays, CheckRows}

-- no text has a read fault
pub no_fault : (text : List ℕ) → ¬ CheckHas text answers.ReadFault
no_fault text h = h

module _ (o : Ports) where
  -- what an answer's own status says follows from the answer
  by_answer : (answer : Answer) → ReadHas listing_limit CheckHas o.source answer → IsWritten o.out o.err answer (status_of answer)
      → CheckSays o (status_of answer)
  by_answer answers.Accepted h w = (h, w.out_takes.0)
  by_answer (answers.Conflicting c) h w = inl (c, h, w.err_takes.0)
  by_answer (answers.ListingRefused r) h w = inr (r, h, w.err_takes.0)
  by_answer answer h w = absurd h.2

  pub check_rows : HaveOneAnswer → (status : Status) → DeliversAnswer (CheckMay o.source) o status → CheckRows o status
  check_rows law status d =
      let rows = text_rows listing_limit CheckHas law.front (CheckSays o) o status d
      (record { read_fault = λ f. f; write_fault = λ f. f; memory = tt }) by_answer in
      record { rows = rows; shown = shown (ReadHas listing_limit CheckHas) CheckHas (CheckSays o) o status law.one rows }
