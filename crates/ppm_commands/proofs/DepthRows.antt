-- The rows of `depth`.
use Rattle.std.proofs.Common.{◌≡◌, ℕ, List, subst, inl, inr}
use Rattle.ppm_ports.specs.Ports.{Gets}
use Rattle.ppm_ports.specs.Outside.{Ports}
use Rattle.ppm_case.specs.Rules.{case_limit}
use Rattle.ppm_answers.specs.declared.answer.Answer.{Answer}
use Rattle.ppm_answers.specs.declared.answer.Answer.TheVariants as answers
use Rattle.ppm_answers.specs.declared.status.Status.{Status}
use Rattle.ppm_answers.specs.Statuses.{status_of}
use Rattle.ppm_answers.specs.Texts.{not_within_capsules_text}
use Rattle.ppm_answers.specs.Delivery.{IsWritten}
use Rattle.ppm_answers.specs.Reading.{ReadHas, DeliversAnswer}
use Rattle.ppm_answers.proofs.Judged.{text_rows}
use Rattle.ppm_answers.proofs.RowsLemmas.{shown}
use Rattle.ppm_commands.specs.Depth.{DepthHas, HasOneAnswer, DepthMay, DepthSays, DepthRows}

-- no text has a read fault
pub no_fault : (capsules : ℕ) (text : List ℕ) → ¬ DepthHas capsules text answers.ReadFault
no_fault capsules text h = h.1

module _ (capsules : ℕ) (o : Ports) where
  -- what an answer's own status says follows from the answer
  by_answer : (answer : Answer) → ReadHas case_limit (DepthHas capsules) o.source answer → IsWritten o.out o.err answer (status_of answer)
      → DepthSays capsules o (status_of answer)
  by_answer (answers.Counted arrays k) h w = (arrays, k, h, w.out_takes.0)
  by_answer (answers.TrappedAfter t line k) h w = (t, line, k, h, w.out_takes.0)
  by_answer (answers.Untidy u) h w = inl (u, h, w.err_takes.0)
  by_answer (answers.InputRefused r) h w = inr (inl (r, h, w.err_takes.0))
  by_answer (answers.ListingRefused r) h w = inr (inr (r, h, w.err_takes.0))
  by_answer (answers.NotWithinCapsules n) h w = (
    subst (λ m. ReadHas case_limit (DepthHas capsules) o.source (answers.NotWithinCapsules m)) h.2.1.0 h,
    subst (λ m. Gets o.err (not_within_capsules_text m)) h.2.1.0 w.err_takes.0,
  )
  by_answer answer h w = absurd h.2.1

  pub depth_rows : HasOneAnswer capsules → (status : Status) → DeliversAnswer (DepthMay capsules o.source) o status → DepthRows capsules o status
  depth_rows law status d =
      let rows = text_rows case_limit (DepthHas capsules) law.front (DepthSays capsules o) o status d
      (record { read_fault = λ f. f; write_fault = λ f. f; memory = tt }) by_answer in
      record { rows = rows; shown = shown (ReadHas case_limit (DepthHas capsules)) (DepthHas capsules) (DepthSays capsules o) o status law.one rows }
