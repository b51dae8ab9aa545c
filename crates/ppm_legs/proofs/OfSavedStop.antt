-- The rows of `stop` of a saved text.
use Rattle.std.proofs.Common.{◌≡◌, ◌⊎◌, ◌+◌, ℕ, List, inl, inr, sym, subst}
use Rattle.ppm_ports.specs.Outside.{Ports}
use Rattle.ppm_plan.specs.declared.schedule_item.ScheduleItem.{ScheduleItem}
use Rattle.ppm_step.specs.Standings.{unknown_place}
use Rattle.ppm_saved_reader.specs.Rules.{saved_limit}
use Rattle.ppm_answers.specs.declared.answer.Answer.{Answer}
use Rattle.ppm_answers.specs.declared.answer.Answer.TheVariants as answers
use Rattle.ppm_answers.specs.declared.status.Status.{Status}
use Rattle.ppm_answers.specs.Delivery.{IsWritten, Delivers}
use Rattle.ppm_answers.specs.Reading.{DeliversAnswer, ReadHas}
use Rattle.ppm_answers.specs.Rows.{TextRows}
use Rattle.ppm_answers.specs.Statuses.{status_of}
use Rattle.ppm_answers.specs.Texts.{IsFixed}
use Rattle.ppm_answers.proofs.Judged.{judging_delivered, text_rows}
use Rattle.ppm_answers.proofs.RowsLemmas.{SaysOfPorts}
use Rattle.ppm_cli.specs.declared.stop.StopSavedOptions.{StopSavedOptions}
use Rattle.ppm_cli.specs.Words.{AreSavedStopped}
use Rattle.ppm_outcomes.specs.ResumeLaws.{ResumeLaws}
use Rattle.ppm_outcomes.specs.Resumes.{SavedState, IsTextOf}
use Rattle.ppm_outcomes.specs.Strikes.{scheduled_faults}
use Rattle.ppm_outcomes.proofs.ResumedOfCode.{left_words_stand}
use Rattle.ppm_legs.specs.Chains.{IsTextOfChain, StopsGoOnChains}
use Rattle.ppm_legs.specs.SavedTexts.{IsBroken, ItemsHave}
use Rattle.ppm_legs.specs.SavedStops.{StateReads, StopHas, StopReads, StopMay, HaveOneAnswer, state_after, text_of}
use Rattle.ppm_legs.specs.SavedStopRows.{GoesOnChains, SavedStopRows, StopSays, WritesBroken}
use Rattle.ppm_legs.proofs.SavedStopLemmas.{same_text, stop_kind}

module _ (options : StopSavedOptions) (schedule : List ℕ) where
  -- the answer of the text that was read is the text's
  is_answer : (text : List ℕ) (answer : Answer) → StopReads options schedule text answer → StopHas options schedule text answer
  is_answer text (answers.SavedRefused r) h = h
  is_answer text (answers.PlanRefused number) h = h
  is_answer text (answers.Broken place) h = record {
    state = h.state;
    is = h.is;
    has = record {
      items = h.has.items;
      accepted = h.has.accepted;
      has = elim h.has.has [ inl broken ↦ inl broken | inr reads ↦ inr reads.has ];
    };
  }
  is_answer text answer h = record {
    state = h.state;
    is = h.is;
    has = record { items = h.has.items; accepted = h.has.accepted; has = h.has.has.has };
  }

-- what was delivered is the answer, or want of memory in its place
pub stop_delivered : (options : StopSavedOptions) (schedule : List ℕ) (o : Ports) (a : Answer) (status : Status) → StopMay options schedule o.source a
    → Delivers o.out o.err a status ⊎ ((¬ IsFixed a) × Delivers o.out o.err answers.NoMemory status)
    → DeliversAnswer (StopMay options schedule o.source) o status
stop_delivered options schedule o a status may d = judging_delivered saved_limit (StopReads options schedule) o a status may d

module _ (laws : ResumeLaws) (options : StopSavedOptions) (schedule : List ℕ) (o : Ports) where
  abbrev Read : Answer → Type 0
  Read answer = ReadHas saved_limit (StopReads options schedule) o.source answer

  -- what is said of faults and of want of memory
  of_ports : SaysOfPorts o (StopSays options schedule o)
  of_ports = record { read_fault = λ f. f; write_fault = λ f. f; memory = tt }

  -- that words are broken is said at a place that isn't known
  is_unknown : (place : ℕ) (read : Read (answers.Broken place)) → place ≡ unknown_place
  is_unknown place read = go read.2.has.has
    where
      go : ItemsHave (StateReads options) read.2.has.items read.2.state (answers.Broken place) → place ≡ unknown_place
      go (inl h) = h.1
      go (inr h) = absurd (stop_kind options read.2.has.items read.2.state (answers.Broken place) h.has)

  is_broken : (place : ℕ) (read : Read (answers.Broken place)) → IsBroken read.2.state
  is_broken place read = go read.2.has.has
    where
      go : ItemsHave (StateReads options) read.2.has.items read.2.state (answers.Broken place) → IsBroken read.2.state
      go (inl h) = h.0
      go (inr h) = absurd (stop_kind options read.2.has.items read.2.state (answers.Broken place) h.has)

  broken : (place : ℕ) → place ≡ unknown_place → Read (answers.Broken place) → IsWritten o.out o.err (answers.Broken place) (status_of (answers.Broken place))
      → WritesBroken options schedule o
  broken place e h w =
      subst (λ (n : ℕ). Read (answers.Broken n) → IsWritten o.out o.err (answers.Broken n) (status_of (answers.Broken n)) → WritesBroken options schedule o)
      (sym e)
      (λ read written. record {
        read = read;
        broken = is_broken unknown_place read;
        made = λ code input may left. left_words_stand laws.legs laws.comes code input may read.2.state left (is_broken unknown_place read);
        gets = written.err_takes.0;
      }) h w

  -- an answer that is written says the sentence of its status
  by : (answer : Answer) → Read answer → IsWritten o.out o.err answer (status_of answer) → StopSays options schedule o (status_of answer)
  by (answers.SavedRefused r) h w = (r, h, w.err_takes.0)
  by (answers.PlanRefused number) h w = (number, h, w.err_takes.0)
  by (answers.Saved text) h w =
      let k = h.2.has in
      let end = state_after options k.items h.2.state k.has.has.start in
      let same : text ≡ text_of end = same_text text (text_of end) k.has.has.saves in
      record {
        text = text;
        read = h;
        saves = same;
        read_back = subst (λ (t : List ℕ). IsTextOf t end) (sym same) k.has.read_back;
        gets = w.out_takes.0;
      }
  by (answers.Broken place) h w = broken place (is_unknown place h) h w
  by answer h w = absurd (stop_kind options h.2.has.items h.2.state answer h.2.has.has.has)

  module _ (status : Status) (a : DeliversAnswer (StopMay options schedule o.source) o status) where
    rows_of : HaveOneAnswer → TextRows saved_limit (StopReads options schedule) (StopSays options schedule o) o status
    rows_of one = text_rows saved_limit (StopReads options schedule) (one.front_read options schedule) (StopSays options schedule o) o status a of_ports by

    -- what is saved of a text of a chain is one of the chain
    chains : AreSavedStopped options → StopsGoOnChains → GoesOnChains options schedule o
    chains are law text read code input may stops faults chain few =
        let s = read.2 in
        let next = law options are read.0 s.state s.is schedule s.has.items s.has.accepted code input may stops faults chain few (answers.Saved text)
        s.has.has in
        subst (λ (t : List ℕ). IsTextOfChain code input (stops + 1) (faults + scheduled_faults s.has.items) t) (sym (same_text text next.0 next.1)) next.2

    pub stop_rows : AreSavedStopped options → HaveOneAnswer → StopsGoOnChains → SavedStopRows options schedule o status
    stop_rows are one law = record {
      rows = rows_of one;
      shown = λ all e well answer h.
          let k = (rows_of one).known all e well in
          subst (λ (x : Answer). IsWritten o.out o.err x status) (one.one options schedule all k.0 answer (is_answer options schedule all k.0 k.1) h) k.2;
      chains = chains are law;
    }
