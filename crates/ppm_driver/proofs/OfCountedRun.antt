-- The rows of `run` where its counts are told.
use Rattle.std.proofs.Common.{◌≡◌, ◌∙◌, ℕ, List, [], refl, subst}
use Rattle.ppm_ports.specs.Ports.{Port}
use Rattle.ppm_ports.specs.Outside.{Ports}
use Rattle.ppm_text.specs.Limits.{text_limit}
use Rattle.ppm_plan.specs.Correct.{HaveOneAnswer as PlansHaveOneAnswer}
use Rattle.ppm_plan.specs.Forms.{plan_form}
use Rattle.ppm_answers.specs.declared.answer.Answer.{Answer}
use Rattle.ppm_answers.specs.declared.answer.Answer.TheVariants as answers
use Rattle.ppm_answers.specs.declared.ran.Ran.{Ran}
use Rattle.ppm_answers.specs.declared.ran.Ran.TheVariants as ran
use Rattle.ppm_answers.specs.declared.run_counts.RunCounts.{RunCounts}
use Rattle.ppm_answers.specs.declared.status.Status.{Status}
use Rattle.ppm_answers.specs.Delivery.{IsWritten}
use Rattle.ppm_answers.specs.Reading.{DeliversAnswer}
use Rattle.ppm_answers.specs.Rows.{PlannedRows, ReadOrRefused}
use Rattle.ppm_answers.specs.Statuses.{ran_status, status_of}
use Rattle.ppm_answers.proofs.RowsLemmas as rows_lemmas
use Rattle.ppm_cli.specs.declared.run.RunOptions.{RunOptions}
use Rattle.ppm_cli.specs.Words.{AreRun}
use Rattle.ppm_loading.specs.MachineRows as machine
use Rattle.ppm_loading.specs.Planned.{IsRefusedBy, HasByItems}
use Rattle.ppm_loading.proofs.PlannedLemmas as planned
use Rattle.ppm_outcomes.specs.Completeness.{RunsComplete}
use Rattle.ppm_outcomes.specs.CountedRuns.{answer_of, TextHas, CountedRunHas, CountedRunMay, CountedAnswersAreOne}
use Rattle.ppm_outcomes.specs.Meant.{RunsAreAsPrograms}
use Rattle.ppm_outcomes.specs.Runs.{plan_of, limits_of, RunHas, RunTells, FrontsDecideAnswers}
use Rattle.ppm_outcomes.specs.Runs as plain
use Rattle.ppm_outcomes.proofs.CountedLemmas.{of_program}
use Rattle.ppm_outcomes.proofs.MeantRows.{run_is, run_unbroken}
use Rattle.ppm_outcomes.proofs.StrikeLemmas.{undone_are_planned}
use Rattle.ppm_outcomes.proofs.WatchLemmas.{untold}
use Rattle.ppm_driver.specs.CountedRunRows.{unwatched, CountedRunSays, CountedRunRows}
use Rattle.ppm_driver.proofs.HeadlineLemmas.{holds}
use Rattle.ppm_driver.proofs.OfRun.{ended}

-- what a text has with counts, it has without them, at one status
abbrev IsPlain : RunOptions → (plan text : List ℕ) → Answer → Type 0
IsPlain options plan text a = (b : Answer) × RunHas options plan text b × (status_of a ≡ status_of b)

of_ran : (options : RunOptions) (plan text : List ℕ) (r : Ran) (n : RunCounts) → CountedRunHas options plan text (answers.RanWith r n)
    → IsPlain options plan text (answers.RanWith r n)
of_ran options plan text (ran.Ended arrays) n h =
    (answers.Ended arrays, record { items = h.items; accepted = h.accepted; has = (h.has.0, h.has.1, h.has.2.has) }, refl)
of_ran options plan text (ran.Trapped trap line) n h =
    (answers.Trapped trap line, record { items = h.items; accepted = h.accepted; has = (h.has.0, h.has.1, h.has.2.has) }, refl)
of_ran options plan text (ran.OutOfTurns processor) n h =
    (answers.OutOfTurns processor, record { items = h.items; accepted = h.accepted; has = (h.has.0, h.has.1, h.has.2.has) }, refl)
of_ran options plan text (ran.OutOfRoom place) n h =
    (answers.OutOfRoom place, record { items = h.items; accepted = h.accepted; has = (h.has.0, h.has.1, h.has.2.has) }, refl)
of_ran options plan text (ran.Broken place) n h =
    (answers.Broken place, record { items = h.items; accepted = h.accepted; has = (h.has.0, h.has.1, h.has.2.has) }, refl)

is_plain : (options : RunOptions) (plan text : List ℕ) (a : Answer) → CountedRunHas options plan text a → IsPlain options plan text a
is_plain options plan text (answers.PlanRefused number) h = (answers.PlanRefused number, h, refl)
is_plain options plan text (answers.SourceRefused r) h =
    (answers.SourceRefused r, record { items = h.items; accepted = h.accepted; has = h.has }, refl)
is_plain options plan text (answers.RanWith r n) h = of_ran options plan text r n h
is_plain options plan text a h = absurd (of_program options h.items h.has.0 a h.has.2)

module _ (law : RunsAreAsPrograms) (fronts : FrontsDecideAnswers) (options : RunOptions) (are : AreRun options) (plan : List ℕ) (o : Ports) where
  abbrev Read : Port → Answer → Type 0
  Read source answer = ReadOrRefused (IsRefusedBy plan_form plan options.processors)
      (HasByItems plan_form plan options.processors (TextHas options)) text_limit source answer

  abbrev HasRead : Answer → Type 0
  HasRead answer = machine.HasRead plan_form plan options.processors (TextHas options) o answer

  -- what is said of faults and of want of memory
  of_ports : rows_lemmas.SaysOfPorts o (CountedRunSays options plan o)
  of_ports = record { read_fault = λ f. f; write_fault = λ f. f; memory = tt }

  -- of no watcher nothing is told
  told : (a : Answer) → RunTells options 0 plan o.source a [] []
  told a = untold 0 _ _ a []

  -- what it came to says the sentence of its status
  by_ran : (r : Ran) (n : RunCounts) → HasRead (answers.RanWith r n) → IsWritten o.out o.err (answers.RanWith r n) (ran_status r)
      → CountedRunSays options plan o (ran_status r)
  by_ran (ran.Ended arrays) n h w = record {
    arrays = arrays;
    counts = n;
    ends = holds law fronts options are 0 plan (unwatched o) (answers.Ended arrays)
        (h.0, h.1, record { items = h.2.items; accepted = h.2.accepted; has = (h.2.has.0, h.2.has.1, h.2.has.2.has) }) (told (answers.Ended arrays));
    counted = h.2.has.2.counted;
    gets = w.out_takes.0;
  }
  by_ran (ran.Trapped trap line) n h w = record {
    trap = trap;
    line = line;
    counts = n;
    ends = holds law fronts options are 0 plan (unwatched o) (answers.Trapped trap line)
        (h.0, h.1, record { items = h.2.items; accepted = h.2.accepted; has = (h.2.has.0, h.2.has.1, h.2.has.2.has) }) (told (answers.Trapped trap line));
    counted = h.2.has.2.counted;
    gets = w.out_takes.0;
  }
  by_ran (ran.OutOfTurns processor) n h w = record {
    processor = processor;
    counts = n;
    spends = holds law fronts options are 0 plan (unwatched o) (answers.OutOfTurns processor)
        (h.0, h.1, record { items = h.2.items; accepted = h.2.accepted; has = (h.2.has.0, h.2.has.1, h.2.has.2.has) }) (told (answers.OutOfTurns processor));
    counted = h.2.has.2.counted;
    gets = w.err_takes.0;
  }
  by_ran (ran.OutOfRoom place) n h w = record {
    place = place;
    counts = n;
    fills = holds law fronts options are 0 plan (unwatched o) (answers.OutOfRoom place)
        (h.0, h.1, record { items = h.2.items; accepted = h.2.accepted; has = (h.2.has.0, h.2.has.1, h.2.has.2.has) }) (told (answers.OutOfRoom place));
    counted = h.2.has.2.counted;
    gets = w.err_takes.0;
  }
  by_ran (ran.Broken place) n h w =
      absurd (run_unbroken law h.0 h.2.has.0 h.2.has.1 options 0 [] [] h.2.items are place h.2.has.2.has)

  -- an answer that is written says the sentence of its status
  by : (answer : Answer) → Read o.source answer → IsWritten o.out o.err answer (status_of answer) → CountedRunSays options plan o (status_of answer)
  by (answers.PlanRefused number) h w = (record { number = number; refused = h.0; gets = w.err_takes.0 }, h.1)
  by (answers.SourceRefused r) h w = (r, h, w.err_takes.0)
  by (answers.RanWith r n) h w = by_ran r n h w
  by answer h w = absurd (of_program options h.2.items h.2.has.0 answer h.2.has.2)

  module _ (status : Status) (a : DeliversAnswer (CountedRunMay options plan o.source) o status) where
    planned_rows : PlansHaveOneAnswer → CountedAnswersAreOne
        → PlannedRows (IsRefusedBy plan_form plan options.processors) (HasByItems plan_form plan options.processors (TextHas options))
        text_limit (CountedRunSays options plan o) o status
    planned_rows plans one =
        planned.planned_rows plan_form plan options.processors (TextHas options) text_limit o status a plans.plans
        (one.front options plan) (CountedRunSays options plan o) of_ports by

    pub counted_run_rows : PlansHaveOneAnswer → CountedAnswersAreOne → RunsComplete → CountedRunRows options plan o status
    counted_run_rows plans one complete =
        let rows = planned_rows plans one in
        record {
          rows = rows;
          shown = λ alone all e well answer h.
              let k = rows.rows.known all e well in
              subst (λ (x : Answer). IsWritten o.out o.err x status) (one.one options plan alone all k.0 answer k.1 h) k.2;
          meant = λ items text t has answer h. record {
            as_program = run_is law text t has options 0 [] [] items answer h;
            undone = undone_are_planned (plan_of options items) (limits_of options) h.start h.run.turns h.run.obey;
            unbroken = λ place broken.
                run_unbroken law text t has options 0 [] [] items are place
                (subst (λ (x : Answer). plain.ProgramHas options 0 [] [] items t x) broken h);
          };
          completes = λ items accepted all e t has enough well.
              let k = rows.rows.known all e well in
              let p = is_plain options plan all k.0 k.1 in
              ended status p.0 (complete options are plan items accepted all t has enough 0 [] [] p.0 p.1) (k.2.own ∙ p.2);
        }
