-- The rows of a command follow from its causes, whatever it judges.
use Rattle.std.proofs.Common.{◌≡◌, ◌≢◌, ◌⊎◌, ℕ, List, Some}
use Rattle.std.proofs.Common.{refl, sym, ap, ◌∙◌, subst, inl, inr}
use Rattle.ppm_ports.specs.Ports.{Port, Fails}
use Rattle.ppm_ports.specs.Outside.{Ports}
use Rattle.ppm_answers.specs.declared.answer.Answer.{Answer}
use Rattle.ppm_answers.specs.declared.answer.Answer.TheVariants as answers
use Rattle.ppm_answers.specs.declared.status.Status.{Status}
use Rattle.ppm_answers.specs.declared.status.Status.TheVariants as statuses
use Rattle.ppm_answers.specs.Statuses.{status_of}
use Rattle.ppm_answers.specs.Delivery.{IsWritten}
use Rattle.ppm_answers.specs.Reading.{AreOne, DeliversAnswer}
use Rattle.ppm_answers.specs.Rows.{GoesWell, IsJudged, JudgedRows, IsShown}
use Rattle.ppm_answers.proofs.Delivered.{came_no_fault, own_or_fault, ran_no_fault, refused_no_fault, written, write_failed}

-- what comes where: a read fault only where the source failed, and each other answer is want of memory, or that of what the source gave
pub record AreCauses (May Reads : Port → Answer → Type 0) : Type 0 where
  pub fault : (source : Port) → May source answers.ReadFault → Fails source
  pub cause : (source : Port) (a : Answer) → May source a → (a ≡ answers.ReadFault) ⊎ ((a ≡ answers.NoMemory) ⊎ Reads source a)

-- a table of statuses says of those that every command has no more than what ports do
pub record SaysOfPorts (o : Ports) (Says : Status → Type 0) : Type 0 where
  pub read_fault : Fails o.source → Says statuses.ReadFault
  pub write_fault : Fails o.out ⊎ Fails o.err → Says statuses.WriteFault
  pub memory : Says statuses.NoMemory

-- status 7 is that of a read fault alone
is_read_fault : (a : Answer) → status_of a ≡ statuses.ReadFault → a ≡ answers.ReadFault
is_read_fault answers.ReadFault e = refl
is_read_fault (answers.ReplayedWith c counts) e = absurd (came_no_fault c e)
is_read_fault (answers.RanWith r counts) e = absurd (ran_no_fault r e)
is_read_fault (answers.Stood lines c) e = absurd (came_no_fault c e)
is_read_fault (answers.Explained r notes) e = absurd (refused_no_fault r e)
is_read_fault a e = cc

module _ (May Reads : Port → Answer → Type 0) (are : AreCauses May Reads) (o : Ports) (status : Status)
    (d : DeliversAnswer (May o.source) o status) where
  -- what was judged has an answer, and it is written
  abbrev pub Written : Type 0
  Written = (answer : Answer) × Reads o.source answer × IsWritten o.out o.err answer status

  -- an answer is written at each status but those of faults and of want of memory
  pub is_written : IsJudged status → Written
  is_written j = go (are.cause o.source d.answer d.cause)
    where
      own : IsWritten o.out o.err d.answer status
      own = written o.out o.err d.answer status d.delivered j.no_write_fault

      go : (d.answer ≡ answers.ReadFault) ⊎ ((d.answer ≡ answers.NoMemory) ⊎ Reads o.source d.answer) → Written
      go (inl e) = absurd (j.no_read_fault (own.own ∙ ap status_of e))
      go (inr (inl e)) = absurd (j.memory (own.own ∙ ap status_of e))
      go (inr (inr h)) = (d.answer, h, own)

  -- where all goes well, the status is none of these
  pub is_judged : GoesWell o status → IsJudged status
  is_judged well = record { no_read_fault = no_read; no_write_fault = no_write; memory = well.memory }
    where
      no_write : status ≢ statuses.WriteFault
      no_write f = elim (write_failed o.out o.err d.answer status d.delivered f) [ inl out ↦ well.out_holds out | inr err ↦ well.err_holds err ]

      no_read : status ≢ statuses.ReadFault
      no_read f =
          let w = written o.out o.err d.answer status d.delivered no_write in
          well.source_holds (are.fault o.source (subst (May o.source) (is_read_fault d.answer (sym w.own ∙ f)) d.cause))

  -- each status says its sentence, where that of an answer's own status follows from the answer
  pub says : (Says : Status → Type 0) → SaysOfPorts o Says
      → ((answer : Answer) → Reads o.source answer → IsWritten o.out o.err answer (status_of answer) → Says (status_of answer)) → Says status
  says Says ports by = go (own_or_fault o.out o.err d.answer status d.delivered) (are.cause o.source d.answer d.cause)
    where
      go : (status ≡ statuses.WriteFault) ⊎ IsWritten o.out o.err d.answer status
          → (d.answer ≡ answers.ReadFault) ⊎ ((d.answer ≡ answers.NoMemory) ⊎ Reads o.source d.answer) → Says status
      go (inl e) c = subst Says (sym e) (ports.write_fault (write_failed o.out o.err d.answer status d.delivered e))
      go (inr w) (inl e) = subst Says (sym (w.own ∙ ap status_of e)) (ports.read_fault (are.fault o.source (subst (May o.source) e d.cause)))
      go (inr w) (inr (inl e)) = subst Says (sym (w.own ∙ ap status_of e)) ports.memory
      go (inr w) (inr (inr h)) = subst Says (sym w.own) (by d.answer h (subst (IsWritten o.out o.err d.answer) w.own w))

  -- all rows, where an answer of what was read of a source whose bytes are known is one that these bytes have
  pub rows : (Has : List ℕ → Answer → Type 0) (Says : Status → Type 0)
      → ((all : List ℕ) (a : Answer) → o.source.before ≡ Some all → Reads o.source a → Has all a) → SaysOfPorts o Says
      → ((answer : Answer) → Reads o.source answer → IsWritten o.out o.err answer (status_of answer) → Says (status_of answer))
      → JudgedRows Reads Has Says o status
  rows Has Says of_all ports by = record {
    says = says Says ports by;
    judged = is_judged;
    written = is_written;
    known = λ all e well. let w = is_written (is_judged well) in (w.0, of_all all w.0 e w.1, w.2);
  }

-- where a text has one answer, whatever answer it has is written
pub shown : (Reads : Port → Answer → Type 0) (Has : List ℕ → Answer → Type 0) (Says : Status → Type 0) (o : Ports) (status : Status)
    → AreOne Has → JudgedRows Reads Has Says o status → IsShown Has o status
shown Reads Has Says o status one rows all e well answer h =
    let k = rows.known all e well in
    subst (λ (x : Answer). IsWritten o.out o.err x status) (one all k.0 answer k.1 h) k.2
