-- The rows of `strands` by schedules that are drawn.
use Rattle.std.proofs.Common.{ℕ, subst, inl, inr}
use Rattle.ppm_ports.specs.Ports.{Gets}
use Rattle.ppm_ports.specs.Outside.{Ports}
use Rattle.ppm_case.specs.Rules.{case_limit}
use Rattle.ppm_answers.specs.declared.answer.Answer.{Answer}
use Rattle.ppm_answers.specs.declared.answer.Answer.TheVariants as answers
use Rattle.ppm_answers.specs.declared.status.Status.{Status}
use Rattle.ppm_answers.specs.Statuses.{status_of}
use Rattle.ppm_answers.specs.Texts.{all_stood_text}
use Rattle.ppm_answers.specs.Delivery.{IsWritten}
use Rattle.ppm_answers.specs.Reading.{ReadHas, DeliversAnswer}
use Rattle.ppm_answers.proofs.Judged.{text_rows}
use Rattle.ppm_answers.proofs.RowsLemmas.{shown}
use Rattle.ppm_cli.specs.declared.strands.DrawnStrandsOptions.{DrawnStrandsOptions}
use Rattle.ppm_strands_command.specs.Drawn.{DrawnHas, DrawnMay, HaveOneDrawnAnswer}
use Rattle.ppm_strands_command.specs.DrawnRows.{DrawnSays, DrawnRows}
use Rattle.ppm_strands_command.proofs.OneDrawnAnswer.{of_draws}

module _ (options : DrawnStrandsOptions) (o : Ports) where
  -- an answer that is written says the sentence of its status
  by_answer : (answer : Answer) → ReadHas case_limit (DrawnHas options) o.source answer → IsWritten o.out o.err answer (status_of answer)
      → DrawnSays options o (status_of answer)
  by_answer (answers.Fell lines c fall) h w = inl (lines, c, fall, h, w.err_takes.0)
  by_answer (answers.Untidy u) h w = inr (inl (u, h, w.err_takes.0))
  by_answer (answers.InputRefused r) h w = inr (inr (inl (r, h, w.err_takes.0)))
  by_answer (answers.ListingRefused r) h w = inr (inr (inr (r, h, w.err_takes.0)))
  by_answer (answers.AllStood runs) h w =
      let same = of_draws options h.2.0.code h.2.0.input (answers.AllStood runs) h.2.1 in (
        subst (λ (n : ℕ). ReadHas case_limit (DrawnHas options) o.source (answers.AllStood n)) same h,
        subst (λ (n : ℕ). Gets o.out (all_stood_text n)) same w.out_takes.0,
      )
  by_answer answer h w = absurd (of_draws options h.2.0.code h.2.0.input answer h.2.1)

  pub drawn_rows : HaveOneDrawnAnswer → (status : Status) → DeliversAnswer (DrawnMay options o.source) o status → DrawnRows options o status
  drawn_rows law status d =
      let rows = text_rows case_limit (DrawnHas options) (law.front options) (DrawnSays options o) o status d
      (record { read_fault = λ f. f; write_fault = λ f. f; memory = tt }) by_answer in
      record { rows = rows; shown = shown (ReadHas case_limit (DrawnHas options)) (DrawnHas options) (DrawnSays options o) o status (law.one options) rows }
