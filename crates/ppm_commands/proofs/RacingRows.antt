-- The rows of `check` of a code whose strands may race.
use Rattle.std.proofs.Common.{◌≡◌, ◌⊎◌, ℕ, List, inl, inr}
use Rattle.ppm_ports.specs.Outside.{Ports}
use Rattle.ppm_listing_reader.specs.Limits.{listing_limit}
use Rattle.ppm_answers.specs.declared.answer.Answer.{Answer}
use Rattle.ppm_answers.specs.declared.answer.Answer.TheVariants as answers
use Rattle.ppm_answers.specs.declared.status.Status.{Status}
use Rattle.ppm_answers.specs.Statuses.{status_of}
use Rattle.ppm_answers.specs.Delivery.{IsWritten}
use Rattle.ppm_answers.specs.Reading.{ReadHas, DeliversAnswer}
use Rattle.ppm_answers.proofs.Judged.{text_rows}
use Rattle.ppm_answers.proofs.RowsLemmas.{shown}
use Rattle.ppm_commands.specs.RacingCheck.{RacingHas, HaveOneAnswer, RacingCheckMay, RacingCheckSays, RacingCheckRows}

-- no text has a read fault
pub no_read_fault : (text : List ℕ) → ¬ RacingHas text answers.ReadFault
no_read_fault text h = h

module _ (o : Ports) where
  -- what an answer's own status says follows from the answer
  by_answer : (answer : Answer) → ReadHas listing_limit RacingHas o.source answer → IsWritten o.out o.err answer (status_of answer)
      → RacingCheckSays o (status_of answer)
  by_answer answers.Accepted h w = (h, w.out_takes.0)
  by_answer (answers.Conflicting c) h w = inl (c, h, w.err_takes.0)
  by_answer (answers.Gapped g) h w = inr (inl (g, h, w.err_takes.0))
  by_answer (answers.ListingRefused r) h w = inr (inr (r, h, w.err_takes.0))
  by_answer answer h w = absurd h.2

  pub racing_check_rows : HaveOneAnswer → (status : Status) → DeliversAnswer (RacingCheckMay o.source) o status → RacingCheckRows o status
  racing_check_rows law status d =
      let rows = text_rows listing_limit RacingHas law.front (RacingCheckSays o) o status d
      (record { read_fault = λ f. f; write_fault = λ f. f; memory = tt }) by_answer in
      record { rows = rows; shown = shown (ReadHas listing_limit RacingHas) RacingHas (RacingCheckSays o) o status law.one rows }
