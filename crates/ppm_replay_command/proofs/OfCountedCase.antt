-- The rows of `replay` of a case where its counts are told.
use Rattle.std.proofs.Common.{◌≡◌, ◌⊎◌, ℕ, List, inl, inr, refl, sym, subst}
use Rattle.ppm_ports.specs.Ports.{Port}
use Rattle.ppm_ports.specs.Outside.{Ports}
use Rattle.ppm_case.specs.Rules.{case_limit}
use Rattle.ppm_plan.specs.Correct.{HaveOneAnswer as PlansHaveOneAnswer}
use Rattle.ppm_plan.specs.Forms.{schedule_form}
use Rattle.ppm_answers.specs.declared.answer.Answer.{Answer}
use Rattle.ppm_answers.specs.declared.answer.Answer.TheVariants as answers
use Rattle.ppm_answers.specs.declared.run_counts.RunCounts.{RunCounts}
use Rattle.ppm_answers.specs.declared.status.Status.{Status}
use Rattle.ppm_answers.specs.declared.sweep.Came.{Came}
use Rattle.ppm_answers.specs.declared.sweep.Came.TheVariants as came
use Rattle.ppm_answers.specs.Delivery.{IsWritten}
use Rattle.ppm_answers.specs.Reading.{DeliversAnswer}
use Rattle.ppm_answers.specs.Rows.{PlannedRows, ReadOrRefused}
use Rattle.ppm_answers.specs.Statuses.{came_status, status_of}
use Rattle.ppm_answers.specs.Texts.{tally_in}
use Rattle.ppm_answers.proofs.RowsLemmas as rows_lemmas
use Rattle.ppm_cli.specs.declared.replay.ReplayOptions.{ReplayOptions}
use Rattle.ppm_cli.specs.Words.{AreReplayed}
use Rattle.ppm_loading.specs.Planned.{IsRefusedBy, HasByItems}
use Rattle.ppm_loading.proofs.PlannedLemmas as planned
use Rattle.ppm_outcomes.specs.CodeReplays.{ReplaysAreAsCode, turns_in}
use Rattle.ppm_replay_command.specs.CountedCases.{TextHas, CountedCaseMay, HaveOneCountedAnswer}
use Rattle.ppm_replay_command.specs.CountedCaseRows.{HasRead, Replays, WritesUnfinished, CountedCaseSays, CountedCaseRows}
use Rattle.ppm_outcomes.specs.Replays.{with_tally}
use Rattle.ppm_outcomes.proofs.MayRunLemmas.{may_run}
use Rattle.ppm_replay_command.proofs.CountedLemmas.{of_code}
use Rattle.ppm_outcomes.proofs.ReplayLemmas as plain

module _ (law : ReplaysAreAsCode) (options : ReplayOptions) (are : AreReplayed options) (schedule : List ℕ) (o : Ports) where
  abbrev ByItems : List ℕ → Answer → Type 0
  ByItems = HasByItems schedule_form schedule options.processors (TextHas options)

  abbrev Read : Port → Answer → Type 0
  Read source answer = ReadOrRefused (IsRefusedBy schedule_form schedule options.processors) ByItems case_limit source answer

  -- what is said of faults and of want of memory
  of_ports : rows_lemmas.SaysOfPorts o (CountedCaseSays options schedule o)
  of_ports = record { read_fault = λ f. f; write_fault = λ f. f; memory = tt }

  -- the replay of which an answer is; of a sound case it is as its code, and its answer says so
  abbrev replays : (c : Came) (n : RunCounts) → HasRead options schedule o (answers.ReplayedWith c n) → Replays options schedule o c n
  replays c n h = let k = h.2.has in record {
    read = h;
    code = k.code;
    is_code = refl;
    input = k.input;
    is_input = refl;
    start = k.has.has.start;
    is_start = refl;
    turns = turns_in options h.2.items k.has.has.start;
    are_turns = refl;
    counted = k.has.counted;
    sound = λ sound.
        law options are schedule h.2.items h.2.accepted k.code k.input (may_run h.0 k.code k.input k.is sound) (with_tally c (tally_in n)) k.has.has;
  }

  -- a replay that has not ended has made as many acts as it may
  unfinished : (acts : ℕ) (n : RunCounts) → acts ≡ options.turns → HasRead options schedule o (answers.ReplayedWith (came.Unfinished acts) n)
      → IsWritten o.out o.err (answers.ReplayedWith (came.Unfinished acts) n) (came_status (came.Unfinished acts)) → WritesUnfinished options schedule o
  unfinished acts n e h w =
      subst (λ m. HasRead options schedule o (answers.ReplayedWith (came.Unfinished m) n)
      → IsWritten o.out o.err (answers.ReplayedWith (came.Unfinished m) n) (came_status (came.Unfinished m)) → WritesUnfinished options schedule o) (sym e)
      (λ read written. record { counts = n; replays = replays (came.Unfinished options.turns) n read; gets = written.err_takes.0 }) h w

  -- what it came to says the sentence of its status
  by_came : (c : Came) (n : RunCounts) → HasRead options schedule o (answers.ReplayedWith c n)
      → IsWritten o.out o.err (answers.ReplayedWith c n) (came_status c) → CountedCaseSays options schedule o (came_status c)
  by_came (came.Ended arrays) n h w =
      record { arrays = arrays; counts = n; replays = replays (came.Ended arrays) n h; gets = w.out_takes.0 }
  by_came (came.Trapped trap line) n h w =
      record { trap = trap; line = line; counts = n; replays = replays (came.Trapped trap line) n h; gets = w.out_takes.0 }
  by_came (came.Unfinished acts) n h w =
      unfinished acts n (plain.of_code options h.2.items h.2.has.code h.2.has.input (answers.Unfinished acts) h.2.has.has.has) h w
  by_came (came.OutOfRoom place) n h w = record {
    place = place;
    counts = n;
    replays = replays (came.OutOfRoom place) n h;
    there = plain.of_code options h.2.items h.2.has.code h.2.has.input (answers.OutOfRoom place) h.2.has.has.has;
    full = plain.filled_has options h.2.items h.2.has.code h.2.has.input place h.2.has.has.has;
    gets = w.err_takes.0;
  }
  by_came (came.Broken place) n h w = record {
    place = place;
    counts = n;
    replays = replays (came.Broken place) n h;
    there = plain.of_code options h.2.items h.2.has.code h.2.has.input (answers.Broken place) h.2.has.has.has;
    unsound = λ sound. ((replays (came.Broken place) n h).sound sound).1;
    gets = w.err_takes.0;
  }

  -- an answer that is written says the sentence of its status
  by : (answer : Answer) → Read o.source answer → IsWritten o.out o.err answer (status_of answer)
      → CountedCaseSays options schedule o (status_of answer)
  by (answers.PlanRefused number) h w = (record { number = number; refused = h.0; gets = w.err_takes.0 }, h.1)
  by (answers.InputRefused r) h w = inl (r, h, w.err_takes.0)
  by (answers.ListingRefused r) h w = inr (r, h, w.err_takes.0)
  by (answers.ReplayedWith c n) h w = by_came c n h w
  by answer h w = absurd (of_code options h.2.items h.2.has.code h.2.has.input answer h.2.has.has)

  module _ (status : Status) (a : DeliversAnswer (CountedCaseMay options schedule o.source) o status) where
    planned_rows : PlansHaveOneAnswer → HaveOneCountedAnswer
        → PlannedRows (IsRefusedBy schedule_form schedule options.processors) ByItems case_limit (CountedCaseSays options schedule o) o status
    planned_rows plans one =
        planned.planned_rows schedule_form schedule options.processors (TextHas options) case_limit o status a plans.schedules
        (one.front options schedule) (CountedCaseSays options schedule o) of_ports by

    pub counted_case_rows : PlansHaveOneAnswer → HaveOneCountedAnswer → CountedCaseRows options schedule o status
    counted_case_rows plans one = record {
      rows = planned_rows plans one;
      shown = λ all e well answer h.
          let k = (planned_rows plans one).rows.known all e well in
          subst (λ (x : Answer). IsWritten o.out o.err x status) (one.one options schedule all k.0 answer k.1 h) k.2;
      meant = λ items accepted code input may answer h. law options are schedule items accepted code input may answer h;
    }
