-- The rows of `trace` of a saved text.
use Rattle.std.proofs.Common.{◌≡◌, ◌⊎◌, ℕ, List, inl, inr, sym, subst}
use Rattle.ppm_ports.specs.Outside.{Ports}
use Rattle.ppm_step.specs.Standings.{unknown_place}
use Rattle.ppm_saved_reader.specs.Rules.{saved_limit}
use Rattle.ppm_answers.specs.declared.answer.Answer.{Answer}
use Rattle.ppm_answers.specs.declared.answer.Answer.TheVariants as answers
use Rattle.ppm_answers.specs.declared.status.Status.{Status}
use Rattle.ppm_answers.specs.Delivery.{IsWritten, Delivers}
use Rattle.ppm_answers.specs.Reading.{DeliversAnswer, ReadHas}
use Rattle.ppm_answers.specs.Rows.{TextRows}
use Rattle.ppm_answers.specs.Statuses.{status_of}
use Rattle.ppm_answers.specs.Texts.{IsFixed}
use Rattle.ppm_answers.proofs.Judged.{judging_delivered, text_rows}
use Rattle.ppm_answers.proofs.RowsLemmas.{SaysOfPorts}
use Rattle.ppm_cli.specs.declared.trace.TraceSavedOptions.{TraceSavedOptions}
use Rattle.ppm_outcomes.specs.ResumeLaws.{ResumeLaws}
use Rattle.ppm_outcomes.proofs.ResumedOfCode.{left_words_stand}
use Rattle.ppm_legs.specs.SavedTexts.{IsBroken, ItemsHave}
use Rattle.ppm_legs.specs.SavedTraces.{StateTraces, TraceHas, TraceMay, HaveOneAnswer, text_by}
use Rattle.ppm_legs.specs.SavedTraceRows.{SavedTraceRows, TraceSays, WritesBroken}
use Rattle.ppm_legs.proofs.SavedTraceLemmas.{same_text, trace_kind}

-- what was delivered is the answer, or want of memory in its place
pub trace_delivered : (options : TraceSavedOptions) (schedule : List ℕ) (o : Ports) (a : Answer) (status : Status) → TraceMay options schedule o.source a
    → Delivers o.out o.err a status ⊎ ((¬ IsFixed a) × Delivers o.out o.err answers.NoMemory status)
    → DeliversAnswer (TraceMay options schedule o.source) o status
trace_delivered options schedule o a status may d = judging_delivered saved_limit (TraceHas options schedule) o a status may d

module _ (laws : ResumeLaws) (options : TraceSavedOptions) (schedule : List ℕ) (o : Ports) where
  abbrev Read : Answer → Type 0
  Read answer = ReadHas saved_limit (TraceHas options schedule) o.source answer

  -- what is said of faults and of want of memory
  of_ports : SaysOfPorts o (TraceSays options schedule o)
  of_ports = record { read_fault = λ f. f; write_fault = λ f. f; memory = tt }

  -- that words are broken is said at a place that isn't known
  is_unknown : (place : ℕ) (read : Read (answers.Broken place)) → place ≡ unknown_place
  is_unknown place read = go read.2.has.has
    where
      go : ItemsHave (StateTraces options) read.2.has.items read.2.state (answers.Broken place) → place ≡ unknown_place
      go (inl h) = h.1
      go (inr h) = absurd (trace_kind options read.2.has.items read.2.state (answers.Broken place) h)

  is_broken : (place : ℕ) (read : Read (answers.Broken place)) → IsBroken read.2.state
  is_broken place read = go read.2.has.has
    where
      go : ItemsHave (StateTraces options) read.2.has.items read.2.state (answers.Broken place) → IsBroken read.2.state
      go (inl h) = h.0
      go (inr h) = absurd (trace_kind options read.2.has.items read.2.state (answers.Broken place) h)

  broken : (place : ℕ) → place ≡ unknown_place → Read (answers.Broken place) → IsWritten o.out o.err (answers.Broken place) (status_of (answers.Broken place))
      → WritesBroken options schedule o
  broken place e h w =
      subst (λ (n : ℕ). Read (answers.Broken n) → IsWritten o.out o.err (answers.Broken n) (status_of (answers.Broken n)) → WritesBroken options schedule o)
      (sym e)
      (λ read written. record {
        read = read;
        broken = is_broken unknown_place read;
        made = λ code input may left. left_words_stand laws.legs laws.comes code input may read.2.state left (is_broken unknown_place read);
        gets = written.err_takes.0;
      }) h w

  -- an answer that is written says the sentence of its status
  by : (answer : Answer) → Read answer → IsWritten o.out o.err answer (status_of answer) → TraceSays options schedule o (status_of answer)
  by (answers.SavedRefused r) h w = (r, h, w.err_takes.0)
  by (answers.PlanRefused number) h w = (number, h, w.err_takes.0)
  by (answers.Traced text) h w =
      let k = h.2.has in record {
        text = text;
        read = h;
        tells = same_text text (text_by options k.items h.2.state k.has.start) k.has.tells;
        gets = w.out_takes.0;
      }
  by (answers.Broken place) h w = broken place (is_unknown place h) h w
  by answer h w = absurd (trace_kind options h.2.has.items h.2.state answer h.2.has.has)

  module _ (status : Status) (a : DeliversAnswer (TraceMay options schedule o.source) o status) where
    rows_of : HaveOneAnswer → TextRows saved_limit (TraceHas options schedule) (TraceSays options schedule o) o status
    rows_of one = text_rows saved_limit (TraceHas options schedule) (one.front options schedule) (TraceSays options schedule o) o status a of_ports by

    pub trace_rows : HaveOneAnswer → SavedTraceRows options schedule o status
    trace_rows one = record {
      rows = rows_of one;
      shown = λ all e well answer h.
          let k = (rows_of one).known all e well in
          subst (λ (x : Answer). IsWritten o.out o.err x status) (one.one options schedule all k.0 answer k.1 h) k.2;
    }
