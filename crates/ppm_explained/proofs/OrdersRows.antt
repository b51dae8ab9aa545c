-- The rows of `explain` of a plan or a schedule.
use Rattle.std.proofs.Common.{◌≡◌, ◌⊎◌, ℕ, List, refl, inl, inr}
use Rattle.ppm_ports.specs.Ports.{Fails, Port}
use Rattle.ppm_ports.specs.Outside.{Ports}
use Rattle.ppm_answers.specs.declared.answer.Answer.{Answer}
use Rattle.ppm_answers.specs.declared.answer.Answer.TheVariants as answers
use Rattle.ppm_answers.specs.declared.refused.Refused.TheVariants as refused
use Rattle.ppm_answers.specs.declared.status.Status.{Status}
use Rattle.ppm_answers.specs.Statuses.{status_of}
use Rattle.ppm_answers.specs.Delivery.{Delivers, IsWritten}
use Rattle.ppm_answers.specs.Reading.{DeliversAnswer, IsUnread, TextMay}
use Rattle.ppm_answers.specs.Texts.{IsFixed}
use Rattle.ppm_answers.proofs.RowsLemmas.{AreCauses, rows, shown}
use Rattle.ppm_cli.specs.declared.explain.ExplainOptions.{ExplainOptions}
use Rattle.ppm_explained.specs.Orders.{HaveOneAnswer, HaveUnread, OrdersHave, OrdersMay, OrdersRows, OrdersSay}

module _ (options : ExplainOptions) (text : List ℕ) where
  -- nothing is read with any answer
  pub unread : (source : Port) (answer : Answer) → OrdersMay options text source answer → IsUnread source
  unread source answers.NoMemory h = h
  unread source answer h = h.0

  fault : (source : Port) → OrdersMay options text source answers.ReadFault → Fails source
  fault source h = absurd h.1

  cause : (source : Port) (a : Answer) → OrdersMay options text source a
      → (a ≡ answers.ReadFault) ⊎ ((a ≡ answers.NoMemory) ⊎ HaveUnread options text source a)
  cause source answers.NoMemory h = inr (inl refl)
  cause source a h = inr (inr h)

  causes : AreCauses (OrdersMay options text) (HaveUnread options text)
  causes = record { fault = fault; cause = cause }

  -- what may be said where nothing is read
  pub may : (source : Port) → IsUnread source → (answer : Answer) → TextMay (OrdersHave options) text answer → OrdersMay options text source answer
  may source u answers.NoMemory h = u
  may source u answer h = (u, h)

  -- what is delivered of it is the answer, or out of memory in its place
  pub delivered : (o : Ports) → IsUnread o.source → (answer : Answer) (status : Status) → TextMay (OrdersHave options) text answer
      → Delivers o.out o.err answer status ⊎ ((¬ IsFixed answer) × Delivers o.out o.err answers.NoMemory status)
      → DeliversAnswer (OrdersMay options text o.source) o status
  delivered o u answer status h (inl d) = record { answer = answer; cause = may o.source u answer h; delivered = d }
  delivered o u answer status h (inr d) = record { answer = answers.NoMemory; cause = u; delivered = d.1 }

  module _ (o : Ports) where
    -- what an answer's own status says follows from the answer
    by_answer : (answer : Answer) → HaveUnread options text o.source answer → IsWritten o.out o.err answer (status_of answer)
        → OrdersSay options text o (status_of answer)
    by_answer answers.Accepted h w = (h.1, w.out_takes.0)
    by_answer (answers.Explained (refused.Plan number) notes) h w =
        record { number = number; notes = notes; has = h.1; gets = w.err_takes.0 }
    by_answer (answers.Explained r notes) h w = absurd h.1
    by_answer answer h w = absurd h.1

    pub orders_rows : HaveOneAnswer options text → (status : Status) → DeliversAnswer (OrdersMay options text o.source) o status
        → OrdersRows options text o status
    orders_rows law status d =
        let all = rows (OrdersMay options text) (HaveUnread options text) causes o status d (λ all answer. OrdersHave options text answer)
        (OrdersSay options text o) (λ all a e h. h.1) (record { read_fault = λ f. f; write_fault = λ f. f; memory = tt }) by_answer in
        record {
          unread = unread o.source d.answer d.cause;
          rows = all;
          shown = shown (HaveUnread options text) (λ all answer. OrdersHave options text answer) (OrdersSay options text o) o status
              (λ all a b. law.one a b) all;
        }
