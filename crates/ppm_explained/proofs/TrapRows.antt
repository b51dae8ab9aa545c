-- The rows of `explain --trap yes`.
use Rattle.std.proofs.Common.{◌≡◌, ◌++◌, ℕ, List, subst}
use Rattle.ppm_ports.specs.Ports.{Gets}
use Rattle.ppm_ports.specs.Outside.{Ports}
use Rattle.ppm_text.specs.Limits.{text_limit}
use Rattle.ppm_answers.specs.declared.answer.Answer.{Answer}
use Rattle.ppm_answers.specs.declared.answer.Answer.TheVariants as answers
use Rattle.ppm_answers.specs.declared.refused.Refused.{Refused}
use Rattle.ppm_answers.specs.declared.refused.Refused.TheVariants as refused
use Rattle.ppm_answers.specs.declared.status.Status.{Status}
use Rattle.ppm_answers.specs.Statuses.{refused_status, status_of}
use Rattle.ppm_answers.specs.Texts.{not_within_text}
use Rattle.ppm_answers.specs.Delivery.{IsWritten}
use Rattle.ppm_answers.specs.Reading.{ReadHas, DeliversAnswer}
use Rattle.ppm_answers.proofs.Judged.{text_rows}
use Rattle.ppm_answers.proofs.RowsLemmas.{shown}
use Rattle.ppm_explained.specs.Trapping.{TrapHas, HasOneAnswer, TrapMay, TrapSays, TrapRows, WritesNotes}

-- no text has a read fault
pub no_fault : (turns : ℕ) (text : List ℕ) → ¬ TrapHas turns text answers.ReadFault
no_fault turns text h = h

module _ (turns : ℕ) (o : Ports) where
  -- the status of a refusal is that of a source
  says : (r : Refused) (notes : List ℕ) → ReadHas text_limit (TrapHas turns) o.source (answers.Explained r notes) → WritesNotes turns o
      → TrapSays turns o (refused_status r)
  says (refused.Source r) notes h w = w
  says (refused.Listing r) notes h w = absurd h.2.refusal
  says (refused.Conflict c) notes h w = absurd h.2.refusal
  says (refused.Input r) notes h w = absurd h.2.refusal
  says (refused.ConflictAt c read write) notes h w = absurd h.2.refusal
  says (refused.Untidy u) notes h w = absurd h.2.refusal
  says (refused.Saved r) notes h w = absurd h.2.refusal
  says (refused.Plan number) notes h w = absurd h.2.refusal

  -- what an answer's own status says follows from the answer
  by_answer : (answer : Answer) → ReadHas text_limit (TrapHas turns) o.source answer → IsWritten o.out o.err answer (status_of answer)
      → TrapSays turns o (status_of answer)
  by_answer answers.Accepted h w = (h, w.out_takes.0)
  by_answer (answers.TrapExplained t line notes) h w = record { trap = t; line = line; notes = notes; read = h; gets = w.out_takes.0 }
  by_answer (answers.StandExplained n notes) h w = record {
    notes = notes;
    read = subst (λ m. ReadHas text_limit (TrapHas turns) o.source (answers.StandExplained m notes)) h.2.0 h;
    gets = subst (λ m. Gets o.err (not_within_text m ++ notes)) h.2.0 w.err_takes.0;
  }
  by_answer (answers.Explained r notes) h w = says r notes h (record { refusal = r; notes = notes; read = h; gets = w.err_takes.0 })
  by_answer answer h w = absurd h.2

  pub trap_rows : HasOneAnswer turns → (status : Status) → DeliversAnswer (TrapMay turns o.source) o status → TrapRows turns o status
  trap_rows law status d =
      let rows = text_rows text_limit (TrapHas turns) law.front (TrapSays turns o) o status d
      (record { read_fault = λ f. f; write_fault = λ f. f; memory = tt }) by_answer in
      record { rows = rows; shown = shown (ReadHas text_limit (TrapHas turns)) (TrapHas turns) (TrapSays turns o) o status law.one rows }
