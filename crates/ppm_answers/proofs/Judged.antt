-- A command that judges the text that it reads: how its answers are delivered, and its rows.
use Rattle.std.proofs.Common.{◌≡◌, ◌⊎◌, ℕ, List, [], Err}
use Rattle.std.proofs.Common.{refl, sym, subst, inl, inr, arith}
use Rattle.std.proofs.KnownBytes.{Consumes-nil, Consumes-kept}
use Rattle.std.specs.declared.vec.Vec.{Vec}
use Rattle.std.specs.declared.alloc.Global.{Global}
use Rattle.ppm_ports.specs.declared.read_error.ReadError.{ReadError}
use Rattle.ppm_ports.specs.declared.read_error.ReadError.TheVariants as errors
use Rattle.ppm_ports.specs.Ports.{Port, Holds}
use Rattle.ppm_ports.specs.Outside.{ToldLists, Ports, Outside}
use Rattle.ppm_ports.specs.Whole.{ReadsTo, CountsFaults}
use Rattle.ppm_answers.specs.declared.answer.Answer.{Answer}
use Rattle.ppm_answers.specs.declared.answer.Answer.TheVariants as answers
use Rattle.ppm_answers.specs.declared.status.Status.{Status}
use Rattle.ppm_answers.specs.declared.status.Status.TheVariants as statuses
use Rattle.ppm_answers.specs.Texts.{IsFixed}
use Rattle.ppm_answers.specs.Statuses.{status_of}
use Rattle.ppm_answers.specs.Delivery.{IsWritten, Delivers}
use Rattle.ppm_answers.specs.Reading.{Reads, ReadsSome, IsUnread, unread_answer, ReadHas, TextMay, JudgingMay, FrontsDecide, DeliversAnswer, Answers}
use Rattle.ppm_answers.specs.Rows.{TextRows}
use Rattle.ppm_answers.proofs.RowsLemmas.{AreCauses, SaysOfPorts}
use Rattle.ppm_answers.proofs.RowsLemmas as rows_lemmas
use Rattle.ppm_answers.proofs.WholeText.{whole}

module _ (limit : ℕ) (Has : List ℕ → Answer → Type 0) where
  -- an answer of the command is a read fault, want of memory, or that of the text that was read
  by_cause : (source : Port) (a : Answer) → JudgingMay limit Has source a →
      (a ≡ answers.ReadFault) ⊎ ((a ≡ answers.NoMemory) ⊎ ReadHas limit Has source a)
  by_cause source answers.ReadFault h = inl refl
  by_cause source answers.NoMemory h = inr (inl refl)
  by_cause source a h = inr (inr h)

  -- and a read fault comes where the source failed
  pub are_causes : AreCauses (JudgingMay limit Has) (ReadHas limit Has)
  are_causes = record { fault = λ source h. h.0; cause = by_cause }

  -- where a text was read, memory may be wanting after it
  memory_after : (source : Port) (text : List ℕ) → Reads limit source text → ReadsSome limit source × Holds source
  memory_after source text r = ((text, r.whole.most, r.whole.front), r.holds)

  -- where the text was not read whole, the source failed or memory was refused
  pub not_read : (source : Port) (e : ReadError) → ReadsSome limit source →
      CountsFaults {T = Vec ℕ Global} source.faults_before source.faults_now (Err e) → JudgingMay limit Has source (unread_answer e)
  not_read source errors.Failed front cause = (cause, front)
  not_read source errors.NoMemory front cause = (front, cause)

  -- where it was, its answer may come, or want of memory; no text has a read fault
  pub is_read : ((text : List ℕ) → ¬ Has text answers.ReadFault) → (source : Port) (text : List ℕ) (a : Answer) → Reads limit source text →
      TextMay Has text a → JudgingMay limit Has source a
  is_read none source text answers.ReadFault r h = absurd (none text h)
  is_read none source text answers.NoMemory r h = memory_after source text r
  is_read none source text a r h = (text, r, h)

  -- where nothing was read, memory may be wanting
  pub memory_before : (source : Port) → IsUnread source → JudgingMay limit Has source answers.NoMemory
  memory_before source h =
      (([], omega arith, Consumes-kept source.before source.before source.now [] (Consumes-nil source.before) h.kept), h.holds)

  -- where the source failed, the answer is a read fault
  pub source_failed : (source : Port) (a : Answer) → JudgingMay limit Has source a → ¬ Holds source → status_of a ≡ statuses.ReadFault
  source_failed source answers.ReadFault h f = refl
  source_failed source answers.NoMemory h f = absurd (f h.1)
  source_failed source a h f = absurd (f h.1.holds)

  -- where an answer of the command may come whose texts are made, out of memory may come in its place
  memory_may : (source : Port) (a : Answer) → JudgingMay limit Has source a → ¬ IsFixed a → JudgingMay limit Has source answers.NoMemory
  memory_may source a h made = go (by_cause source a h) where
    go : (a ≡ answers.ReadFault) ⊎ ((a ≡ answers.NoMemory) ⊎ ReadHas limit Has source a) → JudgingMay limit Has source answers.NoMemory
    go (inl e) = absurd (made (subst IsFixed (sym e) tt))
    go (inr (inl e)) = absurd (made (subst IsFixed (sym e) tt))
    go (inr (inr r)) = memory_after source r.0 r.1

  -- what was delivered of an answer of the command is the answer, or out of memory in its place
  pub judging_delivered : (o : Ports) (a : Answer) (status : Status) → JudgingMay limit Has o.source a →
      Delivers o.out o.err a status ⊎ ((¬ IsFixed a) × Delivers o.out o.err answers.NoMemory status) →
      DeliversAnswer (JudgingMay limit Has o.source) o status
  judging_delivered o a status h (inl d) = record { answer = a; cause = h; delivered = d }
  judging_delivered o a status h (inr d) =
      record { answer = answers.NoMemory; cause = memory_may o.source a h d.0; delivered = d.1 }

  -- what was delivered of an answer of a command with watchers, which were told what belongs to both
  pub judging_told : (Tells : Answer → ToldLists → ToldLists → Type 0) (o : Outside) (a : Answer) (status : Status)
      → Tells a o.told_before o.told_now → Tells answers.NoMemory o.told_before o.told_now → JudgingMay limit Has o.source a
      → Delivers o.out o.err a status ⊎ ((¬ IsFixed a) × Delivers o.out o.err answers.NoMemory status)
      → Answers (JudgingMay limit Has o.source) Tells o status
  judging_told Tells o a status told wanting h (inl d) = record { answer = a; cause = h; delivered = d; told = told }
  judging_told Tells o a status told wanting h (inr d) =
      record { answer = answers.NoMemory; cause = memory_may o.source a h d.0; delivered = d.1; told = wanting }

  -- the rows of the command, where what stands after the limit changes no answer
  pub text_rows : FrontsDecide limit Has → (Says : Status → Type 0) (o : Ports) (status : Status) →
      DeliversAnswer (JudgingMay limit Has o.source) o status → SaysOfPorts o Says →
      ((answer : Answer) → ReadHas limit Has o.source answer → IsWritten o.out o.err answer (status_of answer) → Says (status_of answer)) →
      TextRows limit Has Says o status
  text_rows front Says o status d ports by =
      rows_lemmas.rows (JudgingMay limit Has) (ReadHas limit Has) are_causes o status d Has Says
      (λ all a e r. whole limit Has front all o.source.now r.0 a (subst (λ l. ReadsTo limit l o.source.now r.0) e r.1.whole) r.2) ports by
