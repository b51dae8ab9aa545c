-- The rows of `explain`.
use Rattle.std.proofs.Common.{◌≡◌, ℕ, List, refl, subst}
use Rattle.ppm_ports.specs.Ports.{Port}
use Rattle.ppm_ports.specs.Outside.{Ports}
use Rattle.ppm_answers.specs.declared.answer.Answer.{Answer}
use Rattle.ppm_answers.specs.declared.answer.Answer.TheVariants as answers
use Rattle.ppm_answers.specs.declared.refused.Refused.{Refused}
use Rattle.ppm_answers.specs.declared.refused.Refused.TheVariants as refused
use Rattle.ppm_answers.specs.declared.status.Status.{Status}
use Rattle.ppm_answers.specs.Statuses.{refused_status, status_of}
use Rattle.ppm_answers.specs.Delivery.{IsWritten}
use Rattle.ppm_answers.specs.Reading.{ReadHas, JudgingMay, DeliversAnswer}
use Rattle.ppm_answers.proofs.Judged.{text_rows}
use Rattle.ppm_answers.proofs.RowsLemmas.{shown}
use Rattle.ppm_cli.specs.declared.explain.ExplainedText.{ExplainedText}
use Rattle.ppm_cli.specs.declared.explain.ExplainedText.TheVariants as texts
use Rattle.ppm_explained.specs.Texts.{IsRefused, limit_of}
use Rattle.ppm_explained.specs.Explaining.{ExplainHas, HasOneAnswer, ExplainMay, ExplainSays, ExplainRows, WritesNotes}

-- no text has a read fault
pub no_fault : (kind : ExplainedText) (text : List ℕ) → ¬ ExplainHas kind text answers.ReadFault
no_fault kind text h = h

-- nor is it a plan that is refused
pub no_plan : (kind : ExplainedText) (text : List ℕ) (number : ℕ) → ¬ IsRefused kind text (refused.Plan number)
no_plan texts.Source text number h = h
no_plan texts.Listing text number h = h
no_plan texts.Case text number h = h.1
no_plan texts.Saved text number h = h

-- a limit is known by another name
pub by_limit : (Has : List ℕ → Answer → Type 0) {m n : ℕ} (source : Port) (answer : Answer) → m ≡ n → JudgingMay m Has source answer
    → JudgingMay n Has source answer
by_limit Has source answer e h = subst (λ k. JudgingMay k Has source answer) e h

module _ (kind : ExplainedText) (o : Ports) where
  -- the status of a refusal is one of those that say of notes
  says : (r : Refused) (notes : List ℕ) → ReadHas (limit_of kind) (ExplainHas kind) o.source (answers.Explained r notes)
      → WritesNotes kind o (refused_status r) → ExplainSays kind o (refused_status r)
  says (refused.Source r) notes h w = w
  says (refused.Listing r) notes h w = w
  says (refused.Conflict c) notes h w = w
  says (refused.Input r) notes h w = w
  says (refused.ConflictAt c read write) notes h w = w
  says (refused.Untidy u) notes h w = w
  says (refused.Saved r) notes h w = w
  says (refused.Plan number) notes h w = absurd (no_plan kind h.0 number h.2.refusal)

  -- what an answer's own status says follows from the answer
  by_answer : (answer : Answer) → ReadHas (limit_of kind) (ExplainHas kind) o.source answer → IsWritten o.out o.err answer (status_of answer)
      → ExplainSays kind o (status_of answer)
  by_answer answers.Accepted h w = (h, w.out_takes.0)
  by_answer (answers.Explained r notes) h w =
      says r notes h (record { refusal = r; notes = notes; own = refl; read = h; gets = w.err_takes.0 })
  by_answer answer h w = absurd h.2

  pub explain_rows : HasOneAnswer kind → (status : Status) → DeliversAnswer (ExplainMay kind o.source) o status → ExplainRows kind o status
  explain_rows law status d =
      let rows = text_rows (limit_of kind) (ExplainHas kind) law.front (ExplainSays kind o) o status d
      (record { read_fault = λ f. f; write_fault = λ f. f; memory = tt }) by_answer in
      record {
        rows = rows;
        shown = shown (ReadHas (limit_of kind) (ExplainHas kind)) (ExplainHas kind) (ExplainSays kind o) o status law.one rows;
      }
