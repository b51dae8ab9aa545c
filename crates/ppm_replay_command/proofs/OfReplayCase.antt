-- The rows of `replay` of a case.
use Rattle.std.proofs.Common.{◌≡◌, ◌⊎◌, ℕ, List, inl, inr, sym, subst}
use Rattle.ppm_ports.specs.Ports.{Port}
use Rattle.ppm_ports.specs.Outside.{Ports}
use Rattle.ppm_depth.specs.Sound.{IsSound}
use Rattle.ppm_case.specs.Rules.{case_limit}
use Rattle.ppm_plan.specs.Correct.{HaveOneAnswer as PlansHaveOneAnswer}
use Rattle.ppm_plan.specs.Forms.{schedule_form}
use Rattle.ppm_plan.specs.Refusals.{IsAccepted}
use Rattle.ppm_plan.specs.declared.schedule_item.ScheduleItem.{ScheduleItem}
use Rattle.ppm_answers.specs.declared.answer.Answer.{Answer}
use Rattle.ppm_answers.specs.declared.answer.Answer.TheVariants as answers
use Rattle.ppm_answers.specs.declared.status.Status.{Status}
use Rattle.ppm_answers.specs.Delivery.{IsWritten}
use Rattle.ppm_answers.specs.Reading.{DeliversAnswer}
use Rattle.ppm_answers.specs.Rows.{PlannedRows, ReadOrRefused}
use Rattle.ppm_answers.specs.Statuses.{status_of}
use Rattle.ppm_answers.proofs.RowsLemmas as rows_lemmas
use Rattle.ppm_cli.specs.declared.replay.ReplayOptions.{ReplayOptions}
use Rattle.ppm_cli.specs.Words.{AreReplayed}
use Rattle.ppm_loading.specs.Cases.{OfCase}
use Rattle.ppm_loading.specs.Planned.{IsRefusedBy, HasByItems}
use Rattle.ppm_loading.proofs.PlannedLemmas as planned
use Rattle.ppm_outcomes.specs.AsCode.{IsAsCode}
use Rattle.ppm_replay_command.specs.CaseReplayRows.{HasRead, WritesUnfinished, ReplayCaseSays, ReplayCaseRows}
use Rattle.ppm_replay_command.specs.CaseReplays.{TextHas, ReplayCaseMay, HaveOneCaseAnswer}
use Rattle.ppm_outcomes.specs.CodeReplays.{ReplaysAreAsCode, SaysAsReplay, turns_in}
use Rattle.ppm_outcomes.specs.Replays.{CodeHas}
use Rattle.ppm_outcomes.proofs.MayRunLemmas.{may_run}
use Rattle.ppm_outcomes.proofs.ReplayLemmas.{of_code, filled_has}

module _ (law : ReplaysAreAsCode) (options : ReplayOptions) (are : AreReplayed options) (schedule : List ℕ) (o : Ports) where
  abbrev ByItems : List ℕ → Answer → Type 0
  ByItems = HasByItems schedule_form schedule options.processors (TextHas options)

  abbrev Read : Port → Answer → Type 0
  Read source answer = ReadOrRefused (IsRefusedBy schedule_form schedule options.processors) ByItems case_limit source answer

  -- what is said of faults and of want of memory
  of_ports : rows_lemmas.SaysOfPorts o (ReplayCaseSays options schedule o)
  of_ports = record { read_fault = λ f. f; write_fault = λ f. f; memory = tt }

  -- the replay of a sound case is as its code, and its answer says so
  so : (a : Answer) (items : List ScheduleItem) → IsAccepted schedule_form schedule options.processors items → (text : List ℕ)
      (c : OfCase text (λ code input. CodeHas options items code input a)) → IsSound c.code c.input
      → IsAsCode c.has.start (turns_in options items c.has.start) c.code c.input
      × SaysAsReplay options c.code c.input c.has.start (turns_in options items c.has.start) a
  so a items accepted text c sound =
      law options are schedule items accepted c.code c.input (may_run text c.code c.input c.is sound) a c.has

  -- a replay that has not ended has made as many acts as it may
  unfinished : (n : ℕ) → n ≡ options.turns → HasRead options schedule o (answers.Unfinished n)
      → IsWritten o.out o.err (answers.Unfinished n) (status_of (answers.Unfinished n)) → WritesUnfinished options schedule o
  unfinished n e h w =
      subst (λ m. HasRead options schedule o (answers.Unfinished m)
      → IsWritten o.out o.err (answers.Unfinished m) (status_of (answers.Unfinished m)) → WritesUnfinished options schedule o) (sym e)
      (λ read written. record {
        read = read;
        once = λ sound. (so (answers.Unfinished options.turns) read.2.items read.2.accepted read.0 read.2.has sound).0.once;
        gets = written.err_takes.0;
      }) h w

  -- an answer that is written says the sentence of its status
  by : (answer : Answer) → Read o.source answer → IsWritten o.out o.err answer (status_of answer) → ReplayCaseSays options schedule o (status_of answer)
  by (answers.PlanRefused number) h w = (record { number = number; refused = h.0; gets = w.err_takes.0 }, h.1)
  by (answers.InputRefused r) h w = inl (r, h, w.err_takes.0)
  by (answers.ListingRefused r) h w = inr (r, h, w.err_takes.0)
  by (answers.EndedWith arrays tally) h w = record {
    arrays = arrays;
    tally = tally;
    read = h;
    meant = λ sound. (so (answers.EndedWith arrays tally) h.2.items h.2.accepted h.0 h.2.has sound).1;
    gets = w.out_takes.0;
  }
  by (answers.TrappedWith t line tally) h w = record {
    trap = t;
    line = line;
    tally = tally;
    read = h;
    meant = λ sound. (so (answers.TrappedWith t line tally) h.2.items h.2.accepted h.0 h.2.has sound).1;
    gets = w.out_takes.0;
  }
  by (answers.Unfinished n) h w =
      unfinished n (of_code options h.2.items h.2.has.code h.2.has.input (answers.Unfinished n) h.2.has.has) h w
  by (answers.OutOfRoom place) h w = record {
    place = place;
    read = h;
    there = of_code options h.2.items h.2.has.code h.2.has.input (answers.OutOfRoom place) h.2.has.has;
    full = filled_has options h.2.items h.2.has.code h.2.has.input place h.2.has.has;
    needs = λ sound. (so (answers.OutOfRoom place) h.2.items h.2.accepted h.0 h.2.has sound).1;
    once = λ sound. (so (answers.OutOfRoom place) h.2.items h.2.accepted h.0 h.2.has sound).0.once;
    gets = w.err_takes.0;
  }
  by (answers.Broken place) h w = record {
    place = place;
    read = h;
    there = of_code options h.2.items h.2.has.code h.2.has.input (answers.Broken place) h.2.has.has;
    unsound = λ sound. (so (answers.Broken place) h.2.items h.2.accepted h.0 h.2.has sound).1;
    gets = w.err_takes.0;
  }
  by answer h w = absurd (of_code options h.2.items h.2.has.code h.2.has.input answer h.2.has.has)

  module _ (status : Status) (a : DeliversAnswer (ReplayCaseMay options schedule o.source) o status) where
    planned_rows : PlansHaveOneAnswer → HaveOneCaseAnswer
        → PlannedRows (IsRefusedBy schedule_form schedule options.processors) ByItems case_limit (ReplayCaseSays options schedule o) o status
    planned_rows plans one =
        planned.planned_rows schedule_form schedule options.processors (TextHas options) case_limit o status a plans.schedules
        (one.front options schedule) (ReplayCaseSays options schedule o) of_ports by

    pub replay_case_rows : PlansHaveOneAnswer → HaveOneCaseAnswer → ReplayCaseRows options schedule o status
    replay_case_rows plans one = record {
      rows = planned_rows plans one;
      shown = λ all e well answer h.
          let k = (planned_rows plans one).rows.known all e well in
          subst (λ (x : Answer). IsWritten o.out o.err x status) (one.one options schedule all k.0 answer k.1 h) k.2;
      meant = λ items accepted code input may answer h. law options are schedule items accepted code input may answer h;
    }
