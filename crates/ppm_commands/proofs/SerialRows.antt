-- The rows of `serial`.
use Rattle.std.proofs.Common.{◌≡◌, ℕ, List, subst}
use Rattle.ppm_ports.specs.Ports.{Gets}
use Rattle.ppm_ports.specs.Outside.{Ports}
use Rattle.ppm_text.specs.Limits.{text_limit}
use Rattle.ppm_answers.specs.declared.answer.Answer.{Answer}
use Rattle.ppm_answers.specs.declared.answer.Answer.TheVariants as answers
use Rattle.ppm_answers.specs.declared.status.Status.{Status}
use Rattle.ppm_answers.specs.Statuses.{status_of}
use Rattle.ppm_answers.specs.Texts.{not_within_text}
use Rattle.ppm_answers.specs.Delivery.{IsWritten}
use Rattle.ppm_answers.specs.Reading.{ReadHas, DeliversAnswer}
use Rattle.ppm_answers.proofs.Judged.{text_rows}
use Rattle.ppm_answers.proofs.RowsLemmas.{shown}
use Rattle.ppm_commands.specs.Serial.{SerialHas, HasOneAnswer, SerialMay, SerialSays, SerialRows}

-- no text has a read fault
pub no_fault : (turns : ℕ) (text : List ℕ) → ¬ SerialHas turns text answers.ReadFault
no_fault turns text h = h

module _ (turns : ℕ) (o : Ports) where
  -- what an answer's own status says follows from the answer
  by_answer : (answer : Answer) → ReadHas text_limit (SerialHas turns) o.source answer → IsWritten o.out o.err answer (status_of answer)
      → SerialSays turns o (status_of answer)
  by_answer (answers.Ended arrays) h w = (arrays, h, w.out_takes.0)
  by_answer (answers.Trapped t line) h w = (t, line, h, w.out_takes.0)
  by_answer (answers.SourceRefused r) h w = (r, h, w.err_takes.0)
  by_answer (answers.NotWithin n) h w = (
    subst (λ m. ReadHas text_limit (SerialHas turns) o.source (answers.NotWithin m)) h.2.0 h,
    subst (λ m. Gets o.err (not_within_text m)) h.2.0 w.err_takes.0,
  )
  by_answer answer h w = absurd h.2

  pub serial_rows : HasOneAnswer turns → (status : Status) → DeliversAnswer (SerialMay turns o.source) o status → SerialRows turns o status
  serial_rows law status d =
      let rows = text_rows text_limit (SerialHas turns) law.front (SerialSays turns o) o status d
      (record { read_fault = λ f. f; write_fault = λ f. f; memory = tt }) by_answer in
      record { rows = rows; shown = shown (ReadHas text_limit (SerialHas turns)) (SerialHas turns) (SerialSays turns o) o status law.one rows }
