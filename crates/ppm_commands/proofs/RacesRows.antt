-- The rows of `races`.
use Rattle.std.proofs.Common.{◌≡◌, ℕ, List, subst, inl, inr}
use Rattle.ppm_ports.specs.Ports.{Gets}
use Rattle.ppm_ports.specs.Outside.{Ports}
use Rattle.ppm_case.specs.Rules.{case_limit}
use Rattle.ppm_answers.specs.declared.answer.Answer.{Answer}
use Rattle.ppm_answers.specs.declared.answer.Answer.TheVariants as answers
use Rattle.ppm_answers.specs.declared.status.Status.{Status}
use Rattle.ppm_answers.specs.Statuses.{status_of}
use Rattle.ppm_answers.specs.Texts.{not_within_capsules_text}
use Rattle.ppm_answers.specs.Delivery.{IsWritten}
use Rattle.ppm_answers.specs.Reading.{ReadHas, DeliversAnswer}
use Rattle.ppm_answers.proofs.Judged.{text_rows}
use Rattle.ppm_answers.proofs.RowsLemmas.{shown}
use Rattle.ppm_commands.specs.Races.{RacesHas, HasOneAnswer, RacesMay, RacesSays, RacesRows}
use Rattle.ppm_loading.proofs.FirstStore.{none_told}
use Rattle.ppm_commands.proofs.RacesAnswers.{none_conflicts}

-- no text has a read fault
pub no_fault : (capsules : ℕ) (text : List ℕ) → ¬ RacesHas capsules text answers.ReadFault
no_fault capsules text h = h.1

module _ (capsules : ℕ) (o : Ports) where
  -- what an answer's own status says follows from the answer
  by_answer : (answer : Answer) → ReadHas case_limit (RacesHas capsules) o.source answer → IsWritten o.out o.err answer (status_of answer)
      → RacesSays capsules o (status_of answer)
  by_answer (answers.Sound k) h w = record { counts = k; read = h; sound = h.2.1.sound; gets = w.out_takes.0 }
  by_answer (answers.Raced r) h w = inl (record { race = r; read = h; unsound = λ s. h.2.1.first.0 s.calm; gets = w.err_takes.0 })
  by_answer (answers.ConflictingAt c read write) h w = inr (inl (record {
    conflict = c;
    read_line = read;
    write_line = write;
    read = h;
    unsound = λ s. none_conflicts h.2.0.code h.2.1.conflict s.free h.2.1.first;
    gets = w.err_takes.0;
  }))
  by_answer (answers.Untidy u) h w = inr (inr (inl (record {
    store = u;
    read = h;
    unsound = λ s. none_told h.2.0.code h.2.0.input u h.2.1.1 s.tidy;
    gets = w.err_takes.0;
  })))
  by_answer (answers.InputRefused r) h w = inr (inr (inr (inl (r, h, w.err_takes.0))))
  by_answer (answers.ListingRefused r) h w = inr (inr (inr (inr (r, h, w.err_takes.0))))
  by_answer (answers.NotWithinCapsules n) h w = (
    subst (λ m. ReadHas case_limit (RacesHas capsules) o.source (answers.NotWithinCapsules m)) h.2.1.0 h,
    subst (λ m. Gets o.err (not_within_capsules_text m)) h.2.1.0 w.err_takes.0,
  )
  by_answer answer h w = absurd h.2.1

  pub races_rows : HasOneAnswer capsules → (status : Status) → DeliversAnswer (RacesMay capsules o.source) o status → RacesRows capsules o status
  races_rows law status d =
      let rows = text_rows case_limit (RacesHas capsules) law.front (RacesSays capsules o) o status d
      (record { read_fault = λ f. f; write_fault = λ f. f; memory = tt }) by_answer in
      record { rows = rows; shown = shown (ReadHas case_limit (RacesHas capsules)) (RacesHas capsules) (RacesSays capsules o) o status law.one rows }
