-- The rows of `run` of a case where its counts are told.
use Rattle.std.proofs.Common.{◌≡◌, ◌∙◌, ℕ, List, [], inl, inr, refl, subst}
use Rattle.ppm_words.specs.declared.outcome.Outcome.TheVariants as outcome
use Rattle.ppm_ports.specs.Ports.{Port}
use Rattle.ppm_ports.specs.Outside.{Ports}
use Rattle.ppm_case.specs.Rules.{case_limit}
use Rattle.ppm_plan.specs.Forms.{plan_form}
use Rattle.ppm_answers.specs.declared.answer.Answer.{Answer}
use Rattle.ppm_answers.specs.declared.answer.Answer.TheVariants as answers
use Rattle.ppm_answers.specs.declared.ran.Ran.{Ran}
use Rattle.ppm_answers.specs.declared.ran.Ran.TheVariants as ran
use Rattle.ppm_answers.specs.declared.run_counts.RunCounts.{RunCounts}
use Rattle.ppm_answers.specs.declared.status.Status.{Status}
use Rattle.ppm_answers.specs.Delivery.{IsWritten}
use Rattle.ppm_answers.specs.Reading.{DeliversAnswer}
use Rattle.ppm_answers.specs.Rows.{PlannedRows, ReadOrRefused}
use Rattle.ppm_answers.specs.Statuses.{ran_status, status_of}
use Rattle.ppm_answers.proofs.RowsLemmas as rows_lemmas
use Rattle.ppm_cli.specs.declared.run.RunOptions.{RunOptions}
use Rattle.ppm_cli.specs.Words.{AreRun}
use Rattle.ppm_loading.specs.Planned.{IsRefusedBy, HasByItems}
use Rattle.ppm_loading.proofs.PlannedLemmas as planned
use Rattle.ppm_outcomes.specs.CountedRuns.{answer_of}
use Rattle.ppm_outcomes.specs.Runs.{plan_of, limits_of}
use Rattle.ppm_outcomes.proofs.CountedLemmas.{of_code}
use Rattle.ppm_outcomes.proofs.StrikeLemmas.{undone_are_planned}
use Rattle.ppm_driver.specs.CaseHeadline.{Made}
use Rattle.ppm_driver.specs.CaseRuns.{RunCaseHas}
use Rattle.ppm_driver.specs.CountedCaseRuns.{TextHas, CountedRunCaseHas, CountedRunCaseMay, CountedCaseAnswersAreOne}
use Rattle.ppm_driver.specs.CountedRunCaseRows.{HasRead, CountedRunCaseSays, CountedRunCaseRows}
use Rattle.ppm_driver.specs.CountedRunRows.{unwatched}
use Rattle.ppm_driver.proofs.CaseHeadlineLemmas.{as_code, breaks, ends_so, fills, made_of, spends}
use Rattle.ppm_driver.proofs.OfRun.{ended}
use Rattle.ppm_driver.proofs.OfRunCase.{Laws, ends}

-- what a text has with counts, it has without them, at one status
abbrev IsPlain : RunOptions → (plan text : List ℕ) → Answer → Type 0
IsPlain options plan text a = (b : Answer) × RunCaseHas options plan text b × (status_of a ≡ status_of b)

of_ran : (options : RunOptions) (plan text : List ℕ) (r : Ran) (n : RunCounts) → CountedRunCaseHas options plan text (answers.RanWith r n)
    → IsPlain options plan text (answers.RanWith r n)
of_ran options plan text (ran.Ended arrays) n h = (
  answers.Ended arrays,
  record {
    items = h.items;
    accepted = h.accepted;
    has = record { code = h.has.code; input = h.has.input; is = h.has.is; has = h.has.has.has };
  },
  refl,
)
of_ran options plan text (ran.Trapped trap line) n h = (
  answers.Trapped trap line,
  record {
    items = h.items;
    accepted = h.accepted;
    has = record { code = h.has.code; input = h.has.input; is = h.has.is; has = h.has.has.has };
  },
  refl,
)
of_ran options plan text (ran.OutOfTurns processor) n h = (
  answers.OutOfTurns processor,
  record {
    items = h.items;
    accepted = h.accepted;
    has = record { code = h.has.code; input = h.has.input; is = h.has.is; has = h.has.has.has };
  },
  refl,
)
of_ran options plan text (ran.OutOfRoom place) n h = (
  answers.OutOfRoom place,
  record {
    items = h.items;
    accepted = h.accepted;
    has = record { code = h.has.code; input = h.has.input; is = h.has.is; has = h.has.has.has };
  },
  refl,
)
of_ran options plan text (ran.Broken place) n h = (
  answers.Broken place,
  record {
    items = h.items;
    accepted = h.accepted;
    has = record { code = h.has.code; input = h.has.input; is = h.has.is; has = h.has.has.has };
  },
  refl,
)

is_plain : (options : RunOptions) (plan text : List ℕ) (a : Answer) → CountedRunCaseHas options plan text a → IsPlain options plan text a
is_plain options plan text (answers.PlanRefused number) h = (answers.PlanRefused number, h, refl)
is_plain options plan text (answers.InputRefused r) h =
    (answers.InputRefused r, record { items = h.items; accepted = h.accepted; has = h.has }, refl)
is_plain options plan text (answers.ListingRefused r) h =
    (answers.ListingRefused r, record { items = h.items; accepted = h.accepted; has = h.has }, refl)
is_plain options plan text (answers.RanWith r n) h = of_ran options plan text r n h
is_plain options plan text a h = absurd (of_code options h.items h.has.code h.has.input a h.has.has)

module _ (laws : Laws) (options : RunOptions) (are : AreRun options) (plan : List ℕ) (o : Ports) where
  abbrev ByItems : List ℕ → Answer → Type 0
  ByItems = HasByItems plan_form plan options.processors (TextHas options)

  abbrev Read : Port → Answer → Type 0
  Read source answer = ReadOrRefused (IsRefusedBy plan_form plan options.processors) ByItems case_limit source answer

  -- what is said of faults and of want of memory
  of_ports : rows_lemmas.SaysOfPorts o (CountedRunCaseSays options plan o)
  of_ports = record { read_fault = λ f. f; write_fault = λ f. f; memory = tt }

  -- the run of the case that was read
  abbrev made : (r : Ran) (n : RunCounts) → HasRead options plan o (answers.RanWith r n) → Made options 0 plan (unwatched o) (answer_of r)
  made r n h =
      made_of laws.runs laws.fronts options are 0 plan (unwatched o) (answer_of r) h.0 h.1 h.2.items h.2.accepted
      (record { code = h.2.has.code; input = h.2.has.input; is = h.2.has.is; has = h.2.has.has.has })

  -- what it came to says the sentence of its status
  by_ran : (r : Ran) (n : RunCounts) → HasRead options plan o (answers.RanWith r n) → IsWritten o.out o.err (answers.RanWith r n) (ran_status r)
      → CountedRunCaseSays options plan o (ran_status r)
  by_ran (ran.Ended arrays) n h w =
      let m = made (ran.Ended arrays) n h in
      record {
        arrays = arrays;
        counts = n;
        ends = ends_so laws.runs laws.fronts options are 0 plan (unwatched o) (answers.Ended arrays) (outcome.Ended arrays) m
            (λ sound. (as_code laws.runs laws.fronts options are 0 plan (unwatched o) (answers.Ended arrays) m sound).1);
        counted = h.2.has.has.counted;
        gets = w.out_takes.0;
      }
  by_ran (ran.Trapped trap line) n h w =
      let m = made (ran.Trapped trap line) n h in
      record {
        trap = trap;
        line = line;
        counts = n;
        ends = ends_so laws.runs laws.fronts options are 0 plan (unwatched o) (answers.Trapped trap line) (outcome.Trapped trap line) m
            (λ sound. (as_code laws.runs laws.fronts options are 0 plan (unwatched o) (answers.Trapped trap line) m sound).1);
        counted = h.2.has.has.counted;
        gets = w.out_takes.0;
      }
  by_ran (ran.OutOfTurns processor) n h w = record {
    processor = processor;
    counts = n;
    spends = spends laws.runs laws.fronts options are 0 plan (unwatched o) processor (made (ran.OutOfTurns processor) n h);
    counted = h.2.has.has.counted;
    gets = w.err_takes.0;
  }
  by_ran (ran.OutOfRoom place) n h w = record {
    place = place;
    counts = n;
    fills = fills laws.runs laws.fronts options are 0 plan (unwatched o) place (made (ran.OutOfRoom place) n h);
    counted = h.2.has.has.counted;
    gets = w.err_takes.0;
  }
  by_ran (ran.Broken place) n h w = record {
    place = place;
    counts = n;
    breaks = breaks laws.runs laws.fronts options are 0 plan (unwatched o) place (made (ran.Broken place) n h);
    counted = h.2.has.has.counted;
    gets = w.err_takes.0;
  }

  -- an answer that is written says the sentence of its status
  by : (answer : Answer) → Read o.source answer → IsWritten o.out o.err answer (status_of answer)
      → CountedRunCaseSays options plan o (status_of answer)
  by (answers.PlanRefused number) h w = (record { number = number; refused = h.0; gets = w.err_takes.0 }, h.1)
  by (answers.InputRefused r) h w = inl (r, h, w.err_takes.0)
  by (answers.ListingRefused r) h w = inr (r, h, w.err_takes.0)
  by (answers.RanWith r n) h w = by_ran r n h w
  by answer h w = absurd (of_code options h.2.items h.2.has.code h.2.has.input answer h.2.has.has)

  module _ (status : Status) (a : DeliversAnswer (CountedRunCaseMay options plan o.source) o status) where
    planned_rows : CountedCaseAnswersAreOne
        → PlannedRows (IsRefusedBy plan_form plan options.processors) ByItems case_limit (CountedRunCaseSays options plan o) o status
    planned_rows one =
        planned.planned_rows plan_form plan options.processors (TextHas options) case_limit o status a laws.plans.plans
        (one.front options plan) (CountedRunCaseSays options plan o) of_ports by

    pub counted_run_case_rows : CountedCaseAnswersAreOne → CountedRunCaseRows options plan o status
    counted_run_case_rows one =
        let rows = planned_rows one in
        record {
          rows = rows;
          shown = λ alone all e well answer h.
              let k = rows.rows.known all e well in
              subst (λ (x : Answer). IsWritten o.out o.err x status) (one.one options plan alone all k.0 answer k.1 h) k.2;
          meant = λ items code input may answer h.
              let said = laws.runs options are items code input may 0 [] [] answer h in
              record {
                as_code = said.0;
                undone = undone_are_planned (plan_of options items) (limits_of options) h.start h.run.turns h.run.obey;
                says = said.1;
              };
          completes = λ items accepted all e code input is sound enough well.
              let k = rows.rows.known all e well in
              let p = is_plain options plan all k.0 k.1 in
              ended status p.0 (ends laws options are plan items accepted all code input is sound enough 0 (unwatched o) p.0 p.1) (k.2.own ∙ p.2);
        }
