-- The theorem on `run`, from an answer that was delivered.
use Rattle.std.proofs.Common.{◌≡◌, ◌⊎◌, ◌≤◌, ◌<◌, ℕ, ◌+◌, ◌*◌, List, Some, inl, inr, sym, subst, arith}
use Rattle.ppm_ports.specs.Outside.{Outside}
use Rattle.ppm_ports.specs.Whole.{ReadsTo}
use Rattle.ppm_text.specs.Limits.{text_limit}
use Rattle.ppm_tree.specs.Tree.{ProgramTree}
use Rattle.ppm_tree.specs.Program.{initial_arrays}
use Rattle.ppm_cut_code.specs.Routines.{code_of}
use Rattle.ppm_plan.specs.Forms.{plan_form}
use Rattle.ppm_answers.specs.declared.answer.Answer.{Answer}
use Rattle.ppm_answers.specs.declared.answer.Answer.TheVariants as answers
use Rattle.ppm_answers.specs.declared.status.Status.{Status}
use Rattle.ppm_answers.specs.declared.status.Status.TheVariants as statuses
use Rattle.ppm_answers.specs.Delivery.{IsWritten, Delivers}
use Rattle.ppm_answers.specs.Reading.{Answers}
use Rattle.ppm_answers.specs.Statuses.{status_of}
use Rattle.ppm_answers.proofs.Delivered.{own_or_fault}
use Rattle.ppm_answers.proofs.WholeText.{whole}
use Rattle.ppm_cli.specs.declared.run.RunOptions.{RunOptions}
use Rattle.ppm_cli.specs.Words.{AreRun}
use Rattle.ppm_loading.specs.Planned.{PlannedHas}
use Rattle.ppm_outcomes.specs.Meant.{RunsAreAsPrograms, NeedsMoreTurns}
use Rattle.ppm_outcomes.specs.Runs.{ProgramHas, RunMay, RunTells, TextHas, plan_of, limits_of, FrontsDecideAnswers}
use Rattle.ppm_driver.specs.Headline.{HoldsOf, Headline}
use Rattle.ppm_driver.proofs.MadeLemmas.{of_source}
use Rattle.ppm_outcomes.proofs.MeantRows.{run_ends, run_traps, run_needs, run_needs_turns, run_unbroken, run_once}
use Rattle.ppm_outcomes.proofs.RunLemmas.{of_program, spent_has, filled_has}
use Rattle.ppm_outcomes.proofs.StrikeLemmas.{undone_are_planned}

-- so many turns are too few also where fewer faults undo work than the plan has
pub fewer_turns : (t : ProgramTree) (turns undone faults : ℕ) → NeedsMoreTurns t undone turns → undone ≤ faults → NeedsMoreTurns t faults turns
fewer_turns t turns undone faults needs planned e comes = let few = needs e comes in omega (arith, few, planned)

module _ (law : RunsAreAsPrograms) (fronts : FrontsDecideAnswers) (options : RunOptions) (are : AreRun options) (watching : ℕ) (plan : List ℕ)
    (o : Outside) where
  abbrev May : Answer → Type 0
  May a = RunMay options watching plan o.told_before o.told_now o.source a

  abbrev Tells : Answer → Type 0
  Tells a = RunTells options watching plan o.source a o.told_before o.told_now

  abbrev Has : List ℕ → Answer → Type 0
  Has text a = PlannedHas plan_form plan options.processors (TextHas options watching o.told_before o.told_now) text a

  -- what holds of an answer
  abbrev pub holds : (a : Answer) → May a → Tells a → HoldsOf options watching plan o a
  holds answers.NoMemory h told = told.2
  holds answers.ReadFault h told = record { fails = h.0.0; front = h.0.1; accepted = h.1; untold = told.0 }
  holds (answers.PlanRefused number) h told = record { refused = h.0; unread = h.1; untold = told.0 }
  holds (answers.SourceRefused r) h told = record {
    text = h.0;
    read = h.1;
    refused = h.2.has;
    whole = λ all e. (whole text_limit Has (fronts options watching o.told_before o.told_now plan) all o.source.now h.0 (answers.SourceRefused r)
        (subst (λ l. ReadsTo text_limit l o.source.now h.0) e h.1.whole) h.2).has;
    accepted = record { items = h.2.items; accepted = h.2.accepted };
    untold = told.0;
  }
  holds (answers.Ended arrays) h told = record {
    made = of_source options plan o.source (λ items t. ProgramHas options watching o.told_before o.told_now items t (answers.Ended arrays)) h.0 h.1
        h.2.has.0 h.2.has.1 h.2.items h.2.accepted h.2.has.2;
    ends = run_ends law h.0 h.2.has.0 h.2.has.1 options watching o.told_before o.told_now h.2.items arrays h.2.has.2;
  }
  holds (answers.Trapped trap line) h told = record {
    made = of_source options plan o.source (λ items t. ProgramHas options watching o.told_before o.told_now items t (answers.Trapped trap line)) h.0 h.1
        h.2.has.0 h.2.has.1 h.2.items h.2.accepted h.2.has.2;
    ends = run_traps law h.0 h.2.has.0 h.2.has.1 options watching o.told_before o.told_now h.2.items trap line h.2.has.2;
  }
  holds (answers.OutOfTurns processor) h told =
      let spent = spent_has options watching o.told_before o.told_now h.2.items (code_of h.2.has.0) (initial_arrays h.2.has.0) processor h.2.has.2 in
      let needs = run_needs_turns law h.0 h.2.has.0 h.2.has.1 options watching o.told_before o.told_now h.2.items processor h.2.has.2 spent.1 in
      let undone = undone_are_planned (plan_of options h.2.items) (limits_of options) h.2.has.2.start h.2.has.2.run.turns h.2.has.2.run.obey in
      record {
        made = of_source options plan o.source (λ items t. ProgramHas options watching o.told_before o.told_now items t (answers.OutOfTurns processor))
            h.0 h.1 h.2.has.0 h.2.has.1 h.2.items h.2.accepted h.2.has.2;
        there = spent.0;
        spent = spent.1;
        exceeds = fewer_turns h.2.has.0 options.turns _ _ needs undone;
        needs = needs;
        undone = undone;
        once =
            run_once law h.0 h.2.has.0 h.2.has.1 options watching o.told_before o.told_now h.2.items (answers.OutOfTurns processor) h.2.has.2;
      }
  holds (answers.OutOfRoom place) h told = record {
    made = of_source options plan o.source (λ items t. ProgramHas options watching o.told_before o.told_now items t (answers.OutOfRoom place)) h.0 h.1
        h.2.has.0 h.2.has.1 h.2.items h.2.accepted h.2.has.2;
    there = of_program options watching o.told_before o.told_now h.2.items h.2.has.0 (answers.OutOfRoom place) h.2.has.2;
    full = filled_has options watching o.told_before o.told_now h.2.items (code_of h.2.has.0) (initial_arrays h.2.has.0) place h.2.has.2;
    needs = run_needs law h.0 h.2.has.0 h.2.has.1 options watching o.told_before o.told_now h.2.items place h.2.has.2;
    once = run_once law h.0 h.2.has.0 h.2.has.1 options watching o.told_before o.told_now h.2.items (answers.OutOfRoom place) h.2.has.2;
  }
  holds (answers.Broken place) h told =
      absurd (run_unbroken law h.0 h.2.has.0 h.2.has.1 options watching o.told_before o.told_now h.2.items are place h.2.has.2)
  holds a h told = absurd (of_program options watching o.told_before o.told_now h.2.items h.2.has.0 a h.2.has.2)

  -- an answer that is written says the sentence of its status
  written : (a : Answer) → HoldsOf options watching plan o a → IsWritten o.out o.err a (status_of a) → Headline options watching plan o (status_of a)
  written (answers.Ended arrays) h w = (arrays, h, record { on_out = w.out_takes; on_err = w.err_takes })
  written (answers.Trapped trap line) h w = (trap, line, h, record { on_out = w.out_takes; on_err = w.err_takes })
  written (answers.SourceRefused r) h w = (r, h, record { on_out = w.out_takes; on_err = w.err_takes })
  written (answers.PlanRefused number) h w = (number, h, record { on_out = w.out_takes; on_err = w.err_takes })
  written (answers.OutOfTurns processor) h w = (processor, h, record { on_out = w.out_takes; on_err = w.err_takes })
  written (answers.OutOfRoom place) h w = (place, h, record { on_out = w.out_takes; on_err = w.err_takes })
  written answers.ReadFault h w = (h, record { on_out = w.out_takes; on_err = w.err_takes })
  written answers.NoMemory h w = (h, record { on_out = w.out_takes; on_err = w.err_takes })
  written a h w = absurd h

  pub headline : (status : Status) → Answers May (RunTells options watching plan o.source) o status → Headline options watching plan o status
  headline status a = go (own_or_fault o.out o.err a.answer status a.delivered)
    where
      go : (status ≡ statuses.WriteFault) ⊎ IsWritten o.out o.err a.answer status → Headline options watching plan o status
      go (inl e) =
          subst (Headline options watching plan o) (sym e)
          (a.answer, holds a.answer a.cause a.told, subst (Delivers o.out o.err a.answer) e a.delivered)
      go (inr w) =
          subst (Headline options watching plan o) (sym w.own)
          (written a.answer (holds a.answer a.cause a.told) (subst (IsWritten o.out o.err a.answer) w.own w))
