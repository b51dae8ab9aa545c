-- The rows of `replay` of a saved text.
use Rattle.std.proofs.Common.{◌≡◌, ◌⊎◌, ◌<◌, ◌+◌, ◌^◌, ℕ, List, inl, inr, sym, subst}
use Rattle.ppm_words.specs.declared.named_array.NamedArray.{NamedArray}
use Rattle.ppm_ports.specs.Outside.{Ports}
use Rattle.ppm_code.specs.declared.code.CodeParts.{CodeParts}
use Rattle.ppm_saved_reader.specs.Rules.{saved_limit}
use Rattle.ppm_answers.specs.declared.answer.Answer.{Answer}
use Rattle.ppm_answers.specs.declared.answer.Answer.TheVariants as answers
use Rattle.ppm_answers.specs.declared.status.Status.{Status}
use Rattle.ppm_answers.specs.Delivery.{IsWritten, Delivers}
use Rattle.ppm_answers.specs.Reading.{DeliversAnswer, ReadHas}
use Rattle.ppm_answers.specs.Rows.{TextRows}
use Rattle.ppm_answers.specs.Statuses.{status_of}
use Rattle.ppm_answers.specs.Texts.{IsFixed}
use Rattle.ppm_answers.proofs.Judged.{judging_delivered, text_rows}
use Rattle.ppm_answers.proofs.RowsLemmas.{SaysOfPorts}
use Rattle.ppm_cli.specs.declared.replay.ReplaySavedOptions.{ReplaySavedOptions}
use Rattle.ppm_outcomes.specs.AsCode.{MayRun}
use Rattle.ppm_outcomes.specs.CodeResumes.{IsLeftByCode, legs_of}
use Rattle.ppm_outcomes.specs.Legs.{worked_in_all}
use Rattle.ppm_outcomes.specs.ResumeLaws.{ResumeLaws}
use Rattle.ppm_outcomes.proofs.ResumedOfCode.{left_words_stand}
use Rattle.ppm_legs.specs.SavedReplays.{StateReplays, ReplayHas, ReplayMay, HaveOneAnswer, turns_by}
use Rattle.ppm_legs.specs.SavedReplayRows.{SavedReplayRows, ReplaySays, WritesUnfinished}
use Rattle.ppm_legs.specs.SavedTexts.{ItemsHave}
use Rattle.ppm_legs.proofs.SavedReplayLemmas.{replay_kind, replays_are_as_code}

-- what was delivered is the answer, or want of memory in its place
pub replay_delivered : (options : ReplaySavedOptions) (schedule : List ℕ) (o : Ports) (a : Answer) (status : Status) → ReplayMay options schedule o.source a
    → Delivers o.out o.err a status ⊎ ((¬ IsFixed a) × Delivers o.out o.err answers.NoMemory status)
    → DeliversAnswer (ReplayMay options schedule o.source) o status
replay_delivered options schedule o a status may d = judging_delivered saved_limit (ReplayHas options schedule) o a status may d

module _ (laws : ResumeLaws) (options : ReplaySavedOptions) (schedule : List ℕ) (o : Ports) where
  abbrev Read : Answer → Type 0
  Read answer = ReadHas saved_limit (ReplayHas options schedule) o.source answer

  -- what is said of faults and of want of memory
  of_ports : SaysOfPorts o (ReplaySays options schedule o)
  of_ports = record { read_fault = λ f. f; write_fault = λ f. f; memory = tt }

  -- a run that has not ended has made as many acts as it may
  unfinished : (n : ℕ) → n ≡ options.turns → Read (answers.Unfinished n) → IsWritten o.out o.err (answers.Unfinished n) (status_of (answers.Unfinished n))
      → WritesUnfinished options schedule o
  unfinished n e h w =
      subst (λ m. Read (answers.Unfinished m) → IsWritten o.out o.err (answers.Unfinished m) (status_of (answers.Unfinished m))
      → WritesUnfinished options schedule o) (sym e) (λ read written. record { read = read; gets = written.err_takes.0 }) h w

  -- that words are broken comes late, and of a run
  late : (place : ℕ) (read : Read (answers.Broken place)) (code : CodeParts) (input : List NamedArray) → MayRun code input
      → (left : IsLeftByCode code input read.2.state)
      → (h : StateReplays options read.2.has.items read.2.state (answers.Broken place))
      × (2 ^ 34 + 2 ^ 28 < worked_in_all left.start (legs_of left h.start.state.words) (turns_by options read.2.has.items h.start))
  late place read code input may left = go read.2.has.has
    where
      go : ItemsHave (StateReplays options) read.2.has.items read.2.state (answers.Broken place)
          → (h : StateReplays options read.2.has.items read.2.state (answers.Broken place))
          × (2 ^ 34 + 2 ^ 28 < worked_in_all left.start (legs_of left h.start.state.words) (turns_by options read.2.has.items h.start))
      go (inl h) = absurd (left_words_stand laws.legs laws.comes code input may read.2.state left h.0)
      go (inr h) = (
        h,
        (replays_are_as_code laws.legs laws.comes options schedule read.2.has.items read.2.state read.2.has.accepted (answers.Broken place) h code input may
            left).says,
      )

  -- an answer that is written says the sentence of its status
  by : (answer : Answer) → Read answer → IsWritten o.out o.err answer (status_of answer) → ReplaySays options schedule o (status_of answer)
  by (answers.SavedRefused r) h w = (r, h, w.err_takes.0)
  by (answers.PlanRefused number) h w = (number, h, w.err_takes.0)
  by (answers.EndedWith arrays tally) h w = record {
    arrays = arrays;
    tally = tally;
    read = h;
    meant = λ code input may left.
        (replays_are_as_code laws.legs laws.comes options schedule h.2.has.items h.2.state h.2.has.accepted (answers.EndedWith arrays tally) h.2.has.has
        code input may left).says;
    gets = w.out_takes.0;
  }
  by (answers.TrappedWith trap line tally) h w = record {
    trap = trap;
    line = line;
    tally = tally;
    read = h;
    meant = λ code input may left.
        (replays_are_as_code laws.legs laws.comes options schedule h.2.has.items h.2.state h.2.has.accepted (answers.TrappedWith trap line tally)
        h.2.has.has code input may left).says;
    gets = w.out_takes.0;
  }
  by (answers.Unfinished n) h w = unfinished n (replay_kind options h.2.has.items h.2.state (answers.Unfinished n) h.2.has.has) h w
  by (answers.OutOfRoom place) h w = record {
    place = place;
    read = h;
    needs = λ code input may left.
        (replays_are_as_code laws.legs laws.comes options schedule h.2.has.items h.2.state h.2.has.accepted (answers.OutOfRoom place) h.2.has.has
        code input may left).says;
    gets = w.err_takes.0;
  }
  by (answers.Broken place) h w = record { place = place; read = h; late = late place h; gets = w.err_takes.0 }
  by answer h w = absurd (replay_kind options h.2.has.items h.2.state answer h.2.has.has)

  module _ (status : Status) (a : DeliversAnswer (ReplayMay options schedule o.source) o status) where
    rows_of : HaveOneAnswer → TextRows saved_limit (ReplayHas options schedule) (ReplaySays options schedule o) o status
    rows_of one = text_rows saved_limit (ReplayHas options schedule) (one.front options schedule) (ReplaySays options schedule o) o status a of_ports by

    pub replay_rows : HaveOneAnswer → SavedReplayRows options schedule o status
    replay_rows one = record {
      rows = rows_of one;
      shown = λ all e well answer h.
          let k = (rows_of one).known all e well in
          subst (λ (x : Answer). IsWritten o.out o.err x status) (one.one options schedule all k.0 answer k.1 h) k.2;
      codes = replays_are_as_code laws.legs laws.comes options;
    }
