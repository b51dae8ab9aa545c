-- The rows of `sweep` of a case.
use Rattle.std.proofs.Common.{◌≡◌, ℕ, List, inl, inr, sym, subst}
use Rattle.ppm_ports.specs.Ports.{Port}
use Rattle.ppm_ports.specs.Outside.{Ports}
use Rattle.ppm_case.specs.Rules.{case_limit}
use Rattle.ppm_plan.specs.Correct.{HaveOneAnswer as PlansHaveOneAnswer}
use Rattle.ppm_plan.specs.Forms.{schedule_form}
use Rattle.ppm_answers.specs.declared.answer.Answer.{Answer}
use Rattle.ppm_answers.specs.declared.answer.Answer.TheVariants as answers
use Rattle.ppm_answers.specs.declared.status.Status.{Status}
use Rattle.ppm_answers.specs.Delivery.{IsWritten}
use Rattle.ppm_answers.specs.Reading.{DeliversAnswer}
use Rattle.ppm_answers.specs.Rows.{PlannedRows, ReadOrRefused}
use Rattle.ppm_answers.specs.Statuses.{status_of}
use Rattle.ppm_answers.proofs.RowsLemmas as rows_lemmas
use Rattle.ppm_cli.specs.declared.sweep.SweepOptions.{SweepOptions}
use Rattle.ppm_cli.specs.Words.{AreSwept}
use Rattle.ppm_loading.specs.Planned.{IsRefusedBy, HasByItems}
use Rattle.ppm_loading.proofs.PlannedLemmas as planned
use Rattle.ppm_sweep_command.specs.CaseSweepRows.{HasRead, SweepCaseSays, SweepCaseRows, WritesNotWithin}
use Rattle.ppm_sweep_command.specs.CaseSweeps.{HaveOneCaseAnswer, SweepCaseMay, TextHas}
use Rattle.ppm_sweep_command.specs.SweepRows.{SweepsAreAsCode}
use Rattle.ppm_outcomes.proofs.MayRunLemmas.{may_run}
use Rattle.ppm_sweep_command.proofs.OneSweep.{of_code}

module _ (law : SweepsAreAsCode) (options : SweepOptions) (are : AreSwept options) (schedule : List ℕ) (o : Ports) where
  abbrev ByItems : List ℕ → Answer → Type 0
  ByItems = HasByItems schedule_form schedule options.processors (TextHas options)

  abbrev Read : Port → Answer → Type 0
  Read source answer = ReadOrRefused (IsRefusedBy schedule_form schedule options.processors) ByItems case_limit source answer

  -- what is said of faults and of want of memory
  of_ports : rows_lemmas.SaysOfPorts o (SweepCaseSays options schedule o)
  of_ports = record { read_fault = λ f. f; write_fault = λ f. f; memory = tt }

  -- the capsules are those that were asked for
  not_within : (n : ℕ) → n ≡ options.capsules → HasRead options schedule o (answers.NotWithinCapsules n)
      → IsWritten o.out o.err (answers.NotWithinCapsules n) (status_of (answers.NotWithinCapsules n)) → WritesNotWithin options schedule o
  not_within n e h w =
      subst (λ m. HasRead options schedule o (answers.NotWithinCapsules m)
      → IsWritten o.out o.err (answers.NotWithinCapsules m) (status_of (answers.NotWithinCapsules m)) → WritesNotWithin options schedule o) (sym e)
      (λ read written. (read, written.err_takes.0)) h w

  -- an answer that is written says the sentence of its status
  by : (answer : Answer) → Read o.source answer → IsWritten o.out o.err answer (status_of answer) → SweepCaseSays options schedule o (status_of answer)
  by (answers.PlanRefused number) h w = (record { number = number; refused = h.0; gets = w.err_takes.0 }, h.1)
  by (answers.InputRefused r) h w = inl (inl (r, h, w.err_takes.0))
  by (answers.ListingRefused r) h w = inl (inr (r, h, w.err_takes.0))
  by (answers.Untidy u) h w = inr (u, h, w.err_takes.0)
  by (answers.NotWithinCapsules n) h w = not_within n h.2.has.has.0 h w
  by (answers.Swept counts) h w = record { counts = counts; read = h; gets = w.out_takes.0 }
  by (answers.Differs d) h w = record {
    difference = d;
    read = h;
    cut = λ sound. let c = h.2.has in
        law options are schedule h.2.items h.2.accepted c.code c.input (may_run h.0 c.code c.input c.is sound) d c.has;
    gets = w.err_takes.0;
  }
  by answer h w = absurd (of_code options h.2.items h.2.has.code h.2.has.input answer h.2.has.has)

  module _ (status : Status) (a : DeliversAnswer (SweepCaseMay options schedule o.source) o status) where
    planned_rows : PlansHaveOneAnswer → HaveOneCaseAnswer
        → PlannedRows (IsRefusedBy schedule_form schedule options.processors) ByItems case_limit (SweepCaseSays options schedule o) o status
    planned_rows plans one =
        planned.planned_rows schedule_form schedule options.processors (TextHas options) case_limit o status a plans.schedules
        (one.front options schedule) (SweepCaseSays options schedule o) of_ports by

    pub sweep_case_rows : PlansHaveOneAnswer → HaveOneCaseAnswer → SweepCaseRows options schedule o status
    sweep_case_rows plans one = record {
      rows = planned_rows plans one;
      shown = λ all e well answer h.
          let k = (planned_rows plans one).rows.known all e well in
          subst (λ (x : Answer). IsWritten o.out o.err x status) (one.one options schedule all k.0 answer k.1 h) k.2;
      meant = λ items accepted code input may d h. law options are schedule items accepted code input may d h;
    }
