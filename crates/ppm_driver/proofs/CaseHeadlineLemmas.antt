-- The theorem on `run` of a case, from an answer that was delivered.
use Rattle.std.proofs.Common.{◌≡◌, ◌⊎◌, ◌≤◌, ℕ, List, inl, inr, sym, subst, arith}
use Rattle.ppm_words.specs.declared.outcome.Outcome.{Outcome}
use Rattle.ppm_words.specs.declared.outcome.Outcome.TheVariants as outcome
use Rattle.ppm_ports.specs.Outside.{Outside}
use Rattle.ppm_ports.specs.Whole.{ReadsTo}
use Rattle.ppm_depth.specs.Sound.{IsSound}
use Rattle.ppm_case.specs.Rules.{case_limit}
use Rattle.ppm_plan.specs.declared.plan_item.PlanItem.{PlanItem}
use Rattle.ppm_plan.specs.Forms.{plan_form}
use Rattle.ppm_plan.specs.Refusals.{IsAccepted}
use Rattle.ppm_choice.specs.Deeds.{work_made}
use Rattle.ppm_answers.specs.declared.answer.Answer.{Answer}
use Rattle.ppm_answers.specs.declared.answer.Answer.TheVariants as answers
use Rattle.ppm_answers.specs.declared.status.Status.{Status}
use Rattle.ppm_answers.specs.declared.status.Status.TheVariants as statuses
use Rattle.ppm_answers.specs.Delivery.{IsWritten, Delivers}
use Rattle.ppm_answers.specs.Reading.{Answers, Reads}
use Rattle.ppm_answers.specs.Statuses.{status_of}
use Rattle.ppm_answers.proofs.Delivered.{own_or_fault}
use Rattle.ppm_answers.proofs.WholeText.{whole}
use Rattle.ppm_cli.specs.declared.run.RunOptions.{RunOptions}
use Rattle.ppm_cli.specs.Words.{AreRun}
use Rattle.ppm_loading.specs.Cases.{OfCase}
use Rattle.ppm_loading.specs.Planned.{PlannedHas}
use Rattle.ppm_outcomes.specs.AsCode.{CodeNeedsMoreTurns, EndsAsCode, IsAsCode}
use Rattle.ppm_driver.specs.CaseHeadline.{EndsSo, SpendsTurns, FillsPool, BreaksWords, HoldsOf, CaseHeadline}
use Rattle.ppm_driver.specs.CaseRuns.{TextHas, CaseFrontsDecide, RunCaseMade, RunCaseMay, RunCaseTells}
use Rattle.ppm_driver.specs.CodeRuns.{AnswersAreAsCode, SaysAsCode}
use Rattle.ppm_outcomes.specs.Meant.{undone_in}
use Rattle.ppm_outcomes.specs.Runs.{CodeHas, plan_of, limits_of}
use Rattle.ppm_outcomes.specs.Strikes.{fault_count}
use Rattle.ppm_outcomes.proofs.MayRunLemmas.{may_run}
use Rattle.ppm_driver.proofs.RunCaseLemmas.{of_case}
use Rattle.ppm_outcomes.proofs.RunLemmas.{of_code, spent_has, filled_has}
use Rattle.ppm_outcomes.proofs.StrikeLemmas.{undone_are_planned}
use Rattle.ppm_outcomes.proofs.WorkLemmas.{of_all}

module _ (law : AnswersAreAsCode) (fronts : CaseFrontsDecide) (options : RunOptions) (are : AreRun options) (watching : ℕ) (plan : List ℕ)
    (o : Outside) where
  abbrev May : Answer → Type 0
  May a = RunCaseMay options watching plan o.told_before o.told_now o.source a

  abbrev Tells : Answer → Type 0
  Tells a = RunCaseTells options watching plan o.source a o.told_before o.told_now

  abbrev Has : List ℕ → Answer → Type 0
  Has text a = PlannedHas plan_form plan options.processors (TextHas options watching o.told_before o.told_now) text a

  abbrev Made : Answer → Type 0
  Made a = RunCaseMade options watching plan o.told_before o.told_now o.source a

  -- the run that an answer is of
  abbrev pub made_of : (a : Answer) (text : List ℕ) → Reads case_limit o.source text → (items : List PlanItem) → IsAccepted plan_form plan options.processors items
      → OfCase text (λ code input. CodeHas options watching o.told_before o.told_now items code input a) → Made a
  made_of a text read items accepted c =
      of_case options plan o.source (λ items code input. CodeHas options watching o.told_before o.told_now items code input a) text read c.code c.input
      c.is items accepted c.has

  -- if its case is sound, it is as the code, and its answer says so
  pub as_code : (a : Answer) (m : Made a) → IsSound m.code m.input → IsAsCode m.ran.start m.ran.run.turns m.code m.input
      × SaysAsCode options m.items m.code m.input m.ran.start m.ran.run.turns a
  as_code a m sound =
      law options are m.items m.code m.input (may_run m.text m.code m.input m.is sound) watching o.told_before o.told_now a m.ran

  pub undone : (a : Answer) (m : Made a) → undone_in m.ran.start m.ran.run.turns ≤ fault_count m.items
  undone a m = undone_are_planned (plan_of options m.items) (limits_of options) m.ran.start m.ran.run.turns m.ran.run.obey

  -- what one processor made of its turns is within the work of all
  pub needs_turns : (c : ℕ) (m : Made (answers.OutOfTurns c))
      → work_made m.ran.start.shape m.ran.start.code c m.ran.start.state m.ran.run.turns ≡ options.turns → IsSound m.code m.input
      → CodeNeedsMoreTurns m.code m.input (undone_in m.ran.start m.ran.run.turns) options.turns
  needs_turns c m made sound e comes =
      let within = (as_code (answers.OutOfTurns c) m sound).0.work e comes in
      let mine = of_all m.ran.start.shape m.ran.start.code c m.ran.start.state m.ran.run.turns in
      omega (arith, within, mine, made)

  abbrev pub ends_so : (a : Answer) (outcome : Outcome) (m : Made a)
      → (IsSound m.code m.input → EndsAsCode m.ran.start m.ran.run.turns m.code m.input outcome) → EndsSo options watching plan o a outcome
  ends_so a outcome m ends = record { made = m; ends = ends }

  abbrev pub spends : (c : ℕ) (m : Made (answers.OutOfTurns c)) → SpendsTurns options watching plan o c
  spends c m =
      let spent = spent_has options watching o.told_before o.told_now m.items m.code m.input c m.ran in
      record {
        made = m;
        there = spent.0;
        spent = spent.1;
        exceeds = λ sound. (as_code (answers.OutOfTurns c) m sound).1;
        needs = needs_turns c m spent.1;
        undone = undone (answers.OutOfTurns c) m;
        once = λ sound. (as_code (answers.OutOfTurns c) m sound).0.once;
      }

  abbrev pub fills : (place : ℕ) (m : Made (answers.OutOfRoom place)) → FillsPool options watching plan o place
  fills place m = record {
    made = m;
    there = of_code options watching o.told_before o.told_now m.items m.code m.input (answers.OutOfRoom place) m.ran;
    full = filled_has options watching o.told_before o.told_now m.items m.code m.input place m.ran;
    needs = λ sound. (as_code (answers.OutOfRoom place) m sound).1;
    once = λ sound. (as_code (answers.OutOfRoom place) m sound).0.once;
  }

  abbrev pub breaks : (place : ℕ) (m : Made (answers.Broken place)) → BreaksWords options watching plan o place
  breaks place m = record {
    made = m;
    there = of_code options watching o.told_before o.told_now m.items m.code m.input (answers.Broken place) m.ran;
    unsound = λ sound. (as_code (answers.Broken place) m sound).1;
  }

  -- what holds of an answer
  holds : (a : Answer) → May a → Tells a → HoldsOf options watching plan o a
  holds answers.NoMemory h told = told.2
  holds answers.ReadFault h told = record { fails = h.0.0; front = h.0.1; accepted = h.1; untold = told.0 }
  holds (answers.PlanRefused number) h told = record { refused = h.0; unread = h.1; untold = told.0 }
  holds (answers.InputRefused r) h told = record {
    text = h.0;
    read = h.1;
    refused = h.2.has;
    whole = λ all e. (whole case_limit Has (fronts options watching o.told_before o.told_now plan) all o.source.now h.0 (answers.InputRefused r)
        (subst (λ l. ReadsTo case_limit l o.source.now h.0) e h.1.whole) h.2).has;
    accepted = record { items = h.2.items; accepted = h.2.accepted };
    untold = told.0;
  }
  holds (answers.ListingRefused r) h told = record {
    text = h.0;
    read = h.1;
    refused = h.2.has;
    whole = λ all e. (whole case_limit Has (fronts options watching o.told_before o.told_now plan) all o.source.now h.0 (answers.ListingRefused r)
        (subst (λ l. ReadsTo case_limit l o.source.now h.0) e h.1.whole) h.2).has;
    accepted = record { items = h.2.items; accepted = h.2.accepted };
    untold = told.0;
  }
  holds (answers.Ended arrays) h told =
      let m = made_of (answers.Ended arrays) h.0 h.1 h.2.items h.2.accepted h.2.has in
      ends_so (answers.Ended arrays) (outcome.Ended arrays) m (λ sound. (as_code (answers.Ended arrays) m sound).1)
  holds (answers.Trapped trap line) h told =
      let m = made_of (answers.Trapped trap line) h.0 h.1 h.2.items h.2.accepted h.2.has in
      ends_so (answers.Trapped trap line) (outcome.Trapped trap line) m (λ sound. (as_code (answers.Trapped trap line) m sound).1)
  holds (answers.OutOfTurns c) h told = spends c (made_of (answers.OutOfTurns c) h.0 h.1 h.2.items h.2.accepted h.2.has)
  holds (answers.OutOfRoom place) h told = fills place (made_of (answers.OutOfRoom place) h.0 h.1 h.2.items h.2.accepted h.2.has)
  holds (answers.Broken place) h told = breaks place (made_of (answers.Broken place) h.0 h.1 h.2.items h.2.accepted h.2.has)
  holds a h told = absurd (of_code options watching o.told_before o.told_now h.2.items h.2.has.code h.2.has.input a h.2.has.has)

  -- an answer that is written says the sentence of its status
  written : (a : Answer) → HoldsOf options watching plan o a → IsWritten o.out o.err a (status_of a) → CaseHeadline options watching plan o (status_of a)
  written (answers.Ended arrays) h w = (arrays, h, record { on_out = w.out_takes; on_err = w.err_takes })
  written (answers.Trapped trap line) h w = (trap, line, h, record { on_out = w.out_takes; on_err = w.err_takes })
  written (answers.InputRefused r) h w = inl (r, h, record { on_out = w.out_takes; on_err = w.err_takes })
  written (answers.ListingRefused r) h w = inr (r, h, record { on_out = w.out_takes; on_err = w.err_takes })
  written (answers.PlanRefused number) h w = (number, h, record { on_out = w.out_takes; on_err = w.err_takes })
  written (answers.OutOfTurns processor) h w = (processor, h, record { on_out = w.out_takes; on_err = w.err_takes })
  written (answers.OutOfRoom place) h w = (place, h, record { on_out = w.out_takes; on_err = w.err_takes })
  written (answers.Broken place) h w = (place, h, record { on_out = w.out_takes; on_err = w.err_takes })
  written answers.ReadFault h w = (h, record { on_out = w.out_takes; on_err = w.err_takes })
  written answers.NoMemory h w = (h, record { on_out = w.out_takes; on_err = w.err_takes })
  written a h w = absurd h

  pub case_headline : (status : Status) → Answers May (RunCaseTells options watching plan o.source) o status
      → CaseHeadline options watching plan o status
  case_headline status a = go (own_or_fault o.out o.err a.answer status a.delivered)
    where
      go : (status ≡ statuses.WriteFault) ⊎ IsWritten o.out o.err a.answer status → CaseHeadline options watching plan o status
      go (inl e) =
          subst (CaseHeadline options watching plan o) (sym e)
          (a.answer, holds a.answer a.cause a.told, subst (Delivers o.out o.err a.answer) e a.delivered)
      go (inr w) =
          subst (CaseHeadline options watching plan o) (sym w.own)
          (written a.answer (holds a.answer a.cause a.told) (subst (IsWritten o.out o.err a.answer) w.own w))
