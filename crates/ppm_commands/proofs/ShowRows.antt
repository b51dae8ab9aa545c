-- The rows of `show`.
use Rattle.std.proofs.Common.{ℕ, List}
use Rattle.ppm_ports.specs.Outside.{Ports}
use Rattle.ppm_saved_reader.specs.Rules.{saved_limit}
use Rattle.ppm_answers.specs.declared.answer.Answer.{Answer}
use Rattle.ppm_answers.specs.declared.answer.Answer.TheVariants as answers
use Rattle.ppm_answers.specs.declared.status.Status.{Status}
use Rattle.ppm_answers.specs.Statuses.{status_of}
use Rattle.ppm_answers.specs.Delivery.{IsWritten}
use Rattle.ppm_answers.specs.Reading.{ReadHas, DeliversAnswer}
use Rattle.ppm_answers.proofs.Judged.{text_rows}
use Rattle.ppm_answers.proofs.RowsLemmas.{shown}
use Rattle.ppm_commands.specs.Show.{ShowHas, HaveOneAnswer, ShowMay, ShowSays, ShowRows}

-- no text has a read fault
pub no_fault : (text : List ℕ) → ¬ ShowHas text answers.ReadFault
no_fault text h = h

module _ (o : Ports) where
  -- what an answer's own status says follows from the answer
  by_answer : (answer : Answer) → ReadHas saved_limit ShowHas o.source answer → IsWritten o.out o.err answer (status_of answer)
      → ShowSays o (status_of answer)
  by_answer (answers.Shown text) h w = record { shown = text; read = h; gets = w.out_takes.0 }
  by_answer (answers.SavedRefused r) h w = (r, h, w.err_takes.0)
  by_answer answer h w = absurd h.2

  pub show_rows : HaveOneAnswer → (status : Status) → DeliversAnswer (ShowMay o.source) o status → ShowRows o status
  show_rows law status d =
      let rows = text_rows saved_limit ShowHas law.front (ShowSays o) o status d
      (record { read_fault = λ f. f; write_fault = λ f. f; memory = tt }) by_answer in
      record { rows = rows; shown = shown (ReadHas saved_limit ShowHas) ShowHas (ShowSays o) o status law.one rows }
