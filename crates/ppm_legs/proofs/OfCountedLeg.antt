-- The rows of `replay` of a saved text where its counts are told.
use Rattle.std.proofs.Common.{◌≡◌, ◌⊎◌, ℕ, List, inl, inr, refl, sym, subst}
use Rattle.ppm_words.specs.declared.named_array.NamedArray.{NamedArray}
use Rattle.ppm_ports.specs.Outside.{Ports}
use Rattle.ppm_code.specs.declared.code.CodeParts.{CodeParts}
use Rattle.ppm_step.specs.Standings.{unknown_place}
use Rattle.ppm_saved_reader.specs.Rules.{saved_limit}
use Rattle.ppm_answers.specs.declared.answer.Answer.{Answer}
use Rattle.ppm_answers.specs.declared.answer.Answer.TheVariants as answers
use Rattle.ppm_answers.specs.declared.run_counts.RunCounts.{RunCounts}
use Rattle.ppm_answers.specs.declared.status.Status.{Status}
use Rattle.ppm_answers.specs.declared.sweep.Came.{Came}
use Rattle.ppm_answers.specs.declared.sweep.Came.TheVariants as came
use Rattle.ppm_answers.specs.Delivery.{IsWritten, Delivers}
use Rattle.ppm_answers.specs.Reading.{DeliversAnswer, ReadHas}
use Rattle.ppm_answers.specs.Rows.{TextRows}
use Rattle.ppm_answers.specs.Statuses.{came_status, status_of}
use Rattle.ppm_answers.specs.Texts.{IsFixed, tally_in}
use Rattle.ppm_answers.proofs.Judged.{judging_delivered, text_rows}
use Rattle.ppm_answers.proofs.RowsLemmas.{SaysOfPorts}
use Rattle.ppm_cli.specs.declared.replay.ReplaySavedOptions.{ReplaySavedOptions}
use Rattle.ppm_outcomes.specs.AsCode.{MayRun}
use Rattle.ppm_outcomes.specs.CodeResumes.{IsLeftByCode}
use Rattle.ppm_outcomes.specs.Replays.{with_tally}
use Rattle.ppm_outcomes.specs.Resumes.{SavedState}
use Rattle.ppm_outcomes.specs.ResumeLaws.{ResumeLaws}
use Rattle.ppm_outcomes.proofs.ResumedOfCode.{left_words_stand}
use Rattle.ppm_legs.specs.CountedReplays.{CountedHas, CountedMay, HaveOneAnswer}
use Rattle.ppm_legs.specs.CountedReplayRows.{CountedSavedRows, CountedSays, Replays, WritesUnfinished}
use Rattle.ppm_legs.specs.SavedReplays.{IsAsReplayed, turns_by}
use Rattle.ppm_legs.specs.SavedTexts.{IsBroken}
use Rattle.ppm_legs.proofs.SavedReplayLemmas.{replay_kind, replays_are_as_code}

-- what was delivered is the answer, or want of memory in its place
pub counted_delivered : (options : ReplaySavedOptions) (schedule : List ℕ) (o : Ports) (a : Answer) (status : Status)
    → CountedMay options schedule o.source a → Delivers o.out o.err a status ⊎ ((¬ IsFixed a) × Delivers o.out o.err answers.NoMemory status)
    → DeliversAnswer (CountedMay options schedule o.source) o status
counted_delivered options schedule o a status may d = judging_delivered saved_limit (CountedHas options schedule) o a status may d

module _ (laws : ResumeLaws) (options : ReplaySavedOptions) (schedule : List ℕ) (o : Ports) where
  abbrev Read : Answer → Type 0
  Read answer = ReadHas saved_limit (CountedHas options schedule) o.source answer

  -- what is said of faults and of want of memory
  of_ports : SaysOfPorts o (CountedSays options schedule o)
  of_ports = record { read_fault = λ f. f; write_fault = λ f. f; memory = tt }

  -- the run of which an answer is
  abbrev replays : (c : Came) (n : RunCounts) → Read (answers.ReplayedWith c n) → Replays options schedule o c n
  replays c n h = record {
    read = h;
    start = h.2.has.has.has.start;
    is_start = refl;
    turns = turns_by options h.2.has.items h.2.has.has.has.start;
    are_turns = refl;
    counted = h.2.has.has.counted;
  }

  -- with the legs before it is as each sound code that left the state, and its answer says so
  as_code : (c : Came) (n : RunCounts) (h : Read (answers.ReplayedWith c n)) (code : CodeParts) (input : List NamedArray) → MayRun code input
      → (left : IsLeftByCode code input h.2.state) → IsAsReplayed h.2.has.has.has left
  as_code c n h code input may left =
      replays_are_as_code laws.legs laws.comes options schedule h.2.has.items h.2.state h.2.has.accepted (with_tally c (tally_in n)) h.2.has.has.has code
      input may left

  -- a run that has not ended has made as many acts as it may
  unfinished : (acts : ℕ) (n : RunCounts) → acts ≡ options.turns → Read (answers.ReplayedWith (came.Unfinished acts) n)
      → IsWritten o.out o.err (answers.ReplayedWith (came.Unfinished acts) n) (came_status (came.Unfinished acts)) → WritesUnfinished options schedule o
  unfinished acts n e h w =
      subst (λ m. Read (answers.ReplayedWith (came.Unfinished m) n)
      → IsWritten o.out o.err (answers.ReplayedWith (came.Unfinished m) n) (came_status (came.Unfinished m)) → WritesUnfinished options schedule o) (sym e)
      (λ read written. record { counts = n; replays = replays (came.Unfinished options.turns) n read; gets = written.err_takes.0 }) h w

  -- what it came to says the sentence of its status
  by_came : (c : Came) (n : RunCounts) → Read (answers.ReplayedWith c n)
      → IsWritten o.out o.err (answers.ReplayedWith c n) (came_status c) → CountedSays options schedule o (came_status c)
  by_came (came.Ended arrays) n h w = record {
    arrays = arrays;
    counts = n;
    replays = replays (came.Ended arrays) n h;
    meant = λ code input may left. (as_code (came.Ended arrays) n h code input may left).says;
    gets = w.out_takes.0;
  }
  by_came (came.Trapped trap line) n h w = record {
    trap = trap;
    line = line;
    counts = n;
    replays = replays (came.Trapped trap line) n h;
    meant = λ code input may left. (as_code (came.Trapped trap line) n h code input may left).says;
    gets = w.out_takes.0;
  }
  by_came (came.Unfinished acts) n h w =
      unfinished acts n (replay_kind options h.2.has.items h.2.state (answers.Unfinished acts) h.2.has.has.has) h w
  by_came (came.OutOfRoom place) n h w = record {
    place = place;
    counts = n;
    replays = replays (came.OutOfRoom place) n h;
    needs = λ code input may left. (as_code (came.OutOfRoom place) n h code input may left).says;
    gets = w.err_takes.0;
  }
  by_came (came.Broken place) n h w = inl (record {
    place = place;
    counts = n;
    replays = replays (came.Broken place) n h;
    late = λ code input may left. (as_code (came.Broken place) n h code input may left).says;
    gets = w.err_takes.0;
  })

  -- where nothing was run, the finish word of the state stands for nothing
  unknown : (z : SavedState) (place : ℕ) → (IsBroken z × (place ≡ unknown_place)) ⊎ ⊥ → IsBroken z
  unknown z place (inl h) = h.0
  unknown z place (inr none) = absurd none

  -- an answer that is written says the sentence of its status
  by : (answer : Answer) → Read answer → IsWritten o.out o.err answer (status_of answer) → CountedSays options schedule o (status_of answer)
  by (answers.SavedRefused r) h w = (r, h, w.err_takes.0)
  by (answers.PlanRefused number) h w = (number, h, w.err_takes.0)
  by (answers.ReplayedWith c n) h w = by_came c n h w
  by (answers.Broken place) h w = inr (record {
    place = place;
    read = h;
    by_none = λ code input may left. left_words_stand laws.legs laws.comes code input may h.2.state left (unknown h.2.state place h.2.has.has);
    gets = w.err_takes.0;
  })
  by answer h w = absurd h.2.has.has

  module _ (status : Status) (a : DeliversAnswer (CountedMay options schedule o.source) o status) where
    rows_of : HaveOneAnswer → TextRows saved_limit (CountedHas options schedule) (CountedSays options schedule o) o status
    rows_of one = text_rows saved_limit (CountedHas options schedule) (one.front options schedule) (CountedSays options schedule o) o status a of_ports by

    pub counted_rows : HaveOneAnswer → CountedSavedRows options schedule o status
    counted_rows one = record {
      rows = rows_of one;
      shown = λ all e well answer h.
          let k = (rows_of one).known all e well in
          subst (λ (x : Answer). IsWritten o.out o.err x status) (one.one options schedule all k.0 answer k.1 h) k.2;
      codes = replays_are_as_code laws.legs laws.comes options;
    }
