-- The rows of `replay` where its counts are told.
use Rattle.std.proofs.Common.{◌≡◌, ◌<◌, ℕ, List, refl, sym, subst}
use Rattle.ppm_words.specs.declared.named_array.NamedArray.{NamedArray}
use Rattle.ppm_words.specs.declared.trap.Trap.{Trap}
use Rattle.ppm_ports.specs.Ports.{Port}
use Rattle.ppm_ports.specs.Outside.{Ports}
use Rattle.ppm_text.specs.Limits.{text_limit}
use Rattle.ppm_tree.specs.Program.{initial_arrays}
use Rattle.ppm_cut_code.specs.Routines.{code_of}
use Rattle.ppm_plan.specs.Correct.{HaveOneAnswer as PlansHaveOneAnswer}
use Rattle.ppm_plan.specs.Forms.{schedule_form}
use Rattle.ppm_answers.specs.declared.answer.Answer.{Answer}
use Rattle.ppm_answers.specs.declared.answer.Answer.TheVariants as answers
use Rattle.ppm_answers.specs.declared.run_counts.RunCounts.{RunCounts}
use Rattle.ppm_answers.specs.declared.status.Status.{Status}
use Rattle.ppm_answers.specs.declared.sweep.Came.{Came}
use Rattle.ppm_answers.specs.declared.sweep.Came.TheVariants as came
use Rattle.ppm_answers.specs.Delivery.{IsWritten}
use Rattle.ppm_answers.specs.Reading.{DeliversAnswer}
use Rattle.ppm_answers.specs.Rows.{PlannedRows, ReadOrRefused}
use Rattle.ppm_answers.specs.Statuses.{came_status, status_of}
use Rattle.ppm_answers.specs.Texts.{tally_in}
use Rattle.ppm_answers.proofs.RowsLemmas as rows_lemmas
use Rattle.ppm_cli.specs.declared.replay.ReplayOptions.{ReplayOptions}
use Rattle.ppm_cli.specs.Words.{AreReplayed}
use Rattle.ppm_loading.specs.Planned.{IsRefusedBy, HasByItems}
use Rattle.ppm_loading.proofs.PlannedLemmas as planned
use Rattle.ppm_outcomes.specs.CodeReplays.{turns_in}
use Rattle.ppm_replay_command.specs.CountedReplays.{TextHas, CountedMay, HaveOneAnswer}
use Rattle.ppm_replay_command.specs.CountedReplayRows.{HasRead, Replays, WritesUnfinished, CountedSays, CountedRows}
use Rattle.ppm_outcomes.specs.Replays.{with_tally}
use Rattle.ppm_outcomes.specs.Meant.{RunsAreAsPrograms}
use Rattle.ppm_replay_command.proofs.CountedLemmas.{of_program}
use Rattle.ppm_outcomes.proofs.MeantRows.{replay_is, replay_ends, replay_traps, replay_needs, replay_unbroken, replay_once}
use Rattle.ppm_outcomes.proofs.ReplayLemmas as plain

module _ (law : RunsAreAsPrograms) (options : ReplayOptions) (are : AreReplayed options) (schedule : List ℕ) (o : Ports) where
  abbrev Read : Port → Answer → Type 0
  Read source answer = ReadOrRefused (IsRefusedBy schedule_form schedule options.processors)
      (HasByItems schedule_form schedule options.processors (TextHas options)) text_limit source answer

  -- what is said of faults and of want of memory
  of_ports : rows_lemmas.SaysOfPorts o (CountedSays options schedule o)
  of_ports = record { read_fault = λ f. f; write_fault = λ f. f; memory = tt }

  -- the replay of which an answer is
  abbrev replays : (c : Came) (n : RunCounts) → HasRead options schedule o (answers.ReplayedWith c n) → Replays options schedule o c n
  replays c n h = record {
    read = h;
    tree = h.2.has.0;
    is_tree = refl;
    start = h.2.has.2.has.start;
    is_start = refl;
    turns = turns_in options h.2.items h.2.has.2.has.start;
    are_turns = refl;
    counted = h.2.has.2.counted;
  }

  -- a replay that has not ended has made as many acts as it may
  unfinished : (acts : ℕ) (n : RunCounts) → acts ≡ options.turns → HasRead options schedule o (answers.ReplayedWith (came.Unfinished acts) n)
      → IsWritten o.out o.err (answers.ReplayedWith (came.Unfinished acts) n) (came_status (came.Unfinished acts)) → WritesUnfinished options schedule o
  unfinished acts n e h w =
      subst (λ m. HasRead options schedule o (answers.ReplayedWith (came.Unfinished m) n)
      → IsWritten o.out o.err (answers.ReplayedWith (came.Unfinished m) n) (came_status (came.Unfinished m)) → WritesUnfinished options schedule o) (sym e)
      (λ read written. record {
        counts = n;
        replays = replays (came.Unfinished options.turns) n read;
        once =
            replay_once law read.0 read.2.has.0 read.2.has.1 options schedule read.2.items read.2.accepted (answers.Unfinished options.turns)
            read.2.has.2.has;
        gets = written.err_takes.0;
      }) h w

  -- what it came to says the sentence of its status
  by_came : (c : Came) (n : RunCounts) → HasRead options schedule o (answers.ReplayedWith c n)
      → IsWritten o.out o.err (answers.ReplayedWith c n) (came_status c) → CountedSays options schedule o (came_status c)
  by_came (came.Ended arrays) n h w =
      let e = replay_ends law h.0 h.2.has.0 h.2.has.1 options schedule h.2.items h.2.accepted arrays (tally_in n) h.2.has.2.has in
      record {
        arrays = arrays;
        counts = n;
        ends = record { replays = replays (came.Ended arrays) n h; ends = e.0; forks = e.1; takes = e.2 };
        gets = w.out_takes.0;
      }
  by_came (came.Trapped trap line) n h w =
      let e = replay_traps law h.0 h.2.has.0 h.2.has.1 options schedule h.2.items h.2.accepted trap line (tally_in n) h.2.has.2.has in
      record {
        trap = trap;
        line = line;
        counts = n;
        ends = record { replays = replays (came.Trapped trap line) n h; ends = e.0; forks = e.1; takes = e.2 };
        gets = w.out_takes.0;
      }
  by_came (came.Unfinished acts) n h w =
      unfinished acts n (plain.of_program options h.2.items h.2.has.0 (answers.Unfinished acts) h.2.has.2.has) h w
  by_came (came.OutOfRoom place) n h w = record {
    place = place;
    counts = n;
    replays = replays (came.OutOfRoom place) n h;
    there = plain.of_program options h.2.items h.2.has.0 (answers.OutOfRoom place) h.2.has.2.has;
    full = plain.filled_has options h.2.items (code_of h.2.has.0) (initial_arrays h.2.has.0) place h.2.has.2.has;
    needs = replay_needs law h.0 h.2.has.0 h.2.has.1 options schedule h.2.items h.2.accepted place h.2.has.2.has;
    once = replay_once law h.0 h.2.has.0 h.2.has.1 options schedule h.2.items h.2.accepted (answers.OutOfRoom place) h.2.has.2.has;
    gets = w.err_takes.0;
  }
  by_came (came.Broken place) n h w =
      absurd (replay_unbroken law h.0 h.2.has.0 h.2.has.1 options schedule h.2.items h.2.accepted are place h.2.has.2.has)

  -- an answer that is written says the sentence of its status
  by : (answer : Answer) → Read o.source answer → IsWritten o.out o.err answer (status_of answer) → CountedSays options schedule o (status_of answer)
  by (answers.PlanRefused number) h w = (record { number = number; refused = h.0; gets = w.err_takes.0 }, h.1)
  by (answers.SourceRefused r) h w = (r, h, w.err_takes.0)
  by (answers.ReplayedWith c n) h w = by_came c n h w
  by answer h w = absurd (of_program options h.2.items h.2.has.0 answer h.2.has.2)

  module _ (status : Status) (a : DeliversAnswer (CountedMay options schedule o.source) o status) where
    planned_rows : PlansHaveOneAnswer → HaveOneAnswer
        → PlannedRows (IsRefusedBy schedule_form schedule options.processors) (HasByItems schedule_form schedule options.processors (TextHas options))
        text_limit (CountedSays options schedule o) o status
    planned_rows plans one =
        planned.planned_rows schedule_form schedule options.processors (TextHas options) text_limit o status a plans.schedules
        (one.front options schedule) (CountedSays options schedule o) of_ports by

    pub counted_rows : PlansHaveOneAnswer → HaveOneAnswer → CountedRows options schedule o status
    counted_rows plans one = record {
      rows = planned_rows plans one;
      shown = λ all e well answer h.
          let k = (planned_rows plans one).rows.known all e well in
          subst (λ (x : Answer). IsWritten o.out o.err x status) (one.one options schedule all k.0 answer k.1 h) k.2;
      meant = λ items accepted text t has answer h. replay_is law text t has options schedule items accepted answer h;
    }
