-- The theorem on `ram`, from an answer that was delivered.
use Rattle.std.proofs.Common.{◌≡◌, ◌⊎◌, ◌≤◌, ◌<◌, ℕ, ◌+◌, ◌*◌, List, inl, inr, sym, subst, arith}
use Rattle.ppm_words.specs.declared.outcome.Outcome.{Outcome}
use Rattle.ppm_words.specs.declared.outcome.Outcome.TheVariants as outcome
use Rattle.ppm_ports.specs.Outside.{Outside}
use Rattle.ppm_ports.specs.Whole.{ReadsTo}
use Rattle.ppm_ram.specs.Limits.{text_limit}
use Rattle.ppm_plan.specs.declared.plan_item.PlanItem.{PlanItem}
use Rattle.ppm_plan.specs.Forms.{plan_form}
use Rattle.ppm_plan.specs.Refusals.{IsAccepted}
use Rattle.ppm_choice.specs.Deeds.{work_made}
use Rattle.ppm_answers.specs.declared.answer.Answer.{Answer}
use Rattle.ppm_answers.specs.declared.answer.Answer.TheVariants as answers
use Rattle.ppm_answers.specs.declared.status.Status.{Status}
use Rattle.ppm_answers.specs.declared.status.Status.TheVariants as statuses
use Rattle.ppm_answers.specs.Delivery.{IsWritten, Delivers}
use Rattle.ppm_answers.specs.Reading.{Answers, Reads}
use Rattle.ppm_answers.specs.Statuses.{status_of}
use Rattle.ppm_answers.proofs.Delivered.{own_or_fault}
use Rattle.ppm_answers.proofs.WholeText.{whole}
use Rattle.ppm_cli.specs.declared.run.RunOptions.{RunOptions}
use Rattle.ppm_cli.specs.Words.{AreRun}
use Rattle.ppm_loading.specs.Planned.{PlannedHas}
use Rattle.ppm_ram_code.specs.Code.{code_of}
use Rattle.ppm_ram_code.specs.Correct.{input_of}
use Rattle.ppm_ram.specs.Program.{memory_of}
use Rattle.ppm_outcomes.specs.Meant.{undone_in}
use Rattle.ppm_driver.specs.RamEnds.{AnswersAreAsRams, IsAsRam, RamHas, RamNeedsMoreTurns, RunEndsAsRam}
use Rattle.ppm_driver.specs.RamHeadline.{EndsSo, SpendsTurns, HoldsOf, RamHeadline}
use Rattle.ppm_driver.specs.RamRuns.{TextHas, RamFrontsDecide, RamMade, RamMay, RamTells}
use Rattle.ppm_orders.specs.Rams.{OfRam}
use Rattle.ppm_outcomes.specs.Runs.{plan_of, limits_of}
use Rattle.ppm_outcomes.specs.Strikes.{fault_count}
use Rattle.ppm_driver.proofs.RamLemmas.{of_read, of_ram}
use Rattle.ppm_outcomes.proofs.RunLemmas.{spent_has}
use Rattle.ppm_outcomes.proofs.StrikeLemmas.{undone_are_planned}
use Rattle.ppm_outcomes.proofs.WorkLemmas.{of_all}

module _ (law : AnswersAreAsRams) (fronts : RamFrontsDecide) (options : RunOptions) (are : AreRun options) (watching : ℕ) (plan : List ℕ)
    (o : Outside) where
  abbrev May : Answer → Type 0
  May a = RamMay options watching plan o.told_before o.told_now o.source a

  abbrev Tells : Answer → Type 0
  Tells a = RamTells options watching plan o.source a o.told_before o.told_now

  abbrev Has : List ℕ → Answer → Type 0
  Has text a = PlannedHas plan_form plan options.processors (TextHas options watching o.told_before o.told_now) text a

  abbrev Made : Answer → Type 0
  Made a = RamMade options watching plan o.told_before o.told_now o.source a

  -- the run that an answer is of
  made_of : (a : Answer) (text : List ℕ) → Reads text_limit o.source text → (items : List PlanItem) → IsAccepted plan_form plan options.processors items
      → OfRam text (λ ram. RamHas ram options watching o.told_before o.told_now items a) → Made a
  made_of a text read items accepted r =
      of_read options plan o.source (λ items ram. RamHas ram options watching o.told_before o.told_now items a) text read r.ram r.is items accepted r.has

  -- it is as the RAM is, and its answer says so
  as_ram : (a : Answer) (m : Made a) → IsAsRam options m.items m.ram m.ran.start m.ran.run.turns a
  as_ram a m = law options are m.items m.ram m.is.ram watching o.told_before o.told_now a m.ran

  undone : (a : Answer) (m : Made a) → undone_in m.ran.start m.ran.run.turns ≤ fault_count m.items
  undone a m = undone_are_planned (plan_of options m.items) (limits_of options) m.ran.start m.ran.run.turns m.ran.run.obey

  -- what one processor made of its turns is within the work of all
  needs_turns : (c : ℕ) (m : Made (answers.OutOfTurns c))
      → work_made m.ran.start.shape m.ran.start.code c m.ran.start.state m.ran.run.turns ≡ options.turns
      → RamNeedsMoreTurns m.ram (undone_in m.ran.start m.ran.run.turns) options.turns
  needs_turns c m made steps e ends =
      let within = (as_ram (answers.OutOfTurns c) m).work steps e ends in
      let mine = of_all m.ran.start.shape m.ran.start.code c m.ran.start.state m.ran.run.turns in
      omega (arith, within, mine, made)

  ends_so : (a : Answer) (outcome : Outcome) (m : Made a) → RunEndsAsRam m.ran.start m.ran.run.turns m.ram outcome
      → EndsSo options watching plan o a outcome
  ends_so a outcome m ends = record { made = m; ends = ends }

  spends : (c : ℕ) (m : Made (answers.OutOfTurns c)) → SpendsTurns options watching plan o c
  spends c m =
      let spent = spent_has options watching o.told_before o.told_now m.items (code_of m.ram) (input_of (memory_of m.ram)) c m.ran in
      record {
        made = m;
        there = spent.0;
        spent = spent.1;
        exceeds = (as_ram (answers.OutOfTurns c) m).says;
        needs = needs_turns c m spent.1;
        undone = undone (answers.OutOfTurns c) m;
      }

  -- what holds of an answer
  holds : (a : Answer) → May a → Tells a → HoldsOf options watching plan o a
  holds answers.NoMemory h told = told.2
  holds answers.ReadFault h told = record { fails = h.0.0; front = h.0.1; accepted = h.1; untold = told.0 }
  holds (answers.PlanRefused number) h told = record { refused = h.0; unread = h.1; untold = told.0 }
  holds (answers.SourceRefused r) h told = record {
    text = h.0;
    read = h.1;
    refused = h.2.has;
    whole = λ all e. (whole text_limit Has (fronts options watching o.told_before o.told_now plan) all o.source.now h.0 (answers.SourceRefused r)
        (subst (λ l. ReadsTo text_limit l o.source.now h.0) e h.1.whole) h.2).has;
    accepted = record { items = h.2.items; accepted = h.2.accepted };
    untold = told.0;
  }
  holds (answers.Ended arrays) h told =
      let m = made_of (answers.Ended arrays) h.0 h.1 h.2.items h.2.accepted h.2.has in
      ends_so (answers.Ended arrays) (outcome.Ended arrays) m (as_ram (answers.Ended arrays) m).says
  holds (answers.Trapped trap line) h told =
      let m = made_of (answers.Trapped trap line) h.0 h.1 h.2.items h.2.accepted h.2.has in
      ends_so (answers.Trapped trap line) (outcome.Trapped trap line) m (as_ram (answers.Trapped trap line) m).says
  holds (answers.OutOfTurns c) h told = spends c (made_of (answers.OutOfTurns c) h.0 h.1 h.2.items h.2.accepted h.2.has)
  holds (answers.OutOfRoom place) h told =
      absurd (as_ram (answers.OutOfRoom place) (made_of (answers.OutOfRoom place) h.0 h.1 h.2.items h.2.accepted h.2.has)).says
  holds (answers.Broken place) h told =
      absurd (as_ram (answers.Broken place) (made_of (answers.Broken place) h.0 h.1 h.2.items h.2.accepted h.2.has)).says
  holds a h told = absurd (of_ram options watching o.told_before o.told_now h.2.items h.2.has.ram a h.2.has.has)

  -- an answer that is written says the sentence of its status
  written : (a : Answer) → HoldsOf options watching plan o a → IsWritten o.out o.err a (status_of a) → RamHeadline options watching plan o (status_of a)
  written (answers.Ended arrays) h w = (arrays, h, record { on_out = w.out_takes; on_err = w.err_takes })
  written (answers.Trapped trap line) h w = (trap, line, h, record { on_out = w.out_takes; on_err = w.err_takes })
  written (answers.SourceRefused r) h w = (r, h, record { on_out = w.out_takes; on_err = w.err_takes })
  written (answers.PlanRefused number) h w = (number, h, record { on_out = w.out_takes; on_err = w.err_takes })
  written (answers.OutOfTurns processor) h w = (processor, h, record { on_out = w.out_takes; on_err = w.err_takes })
  written answers.ReadFault h w = (h, record { on_out = w.out_takes; on_err = w.err_takes })
  written answers.NoMemory h w = (h, record { on_out = w.out_takes; on_err = w.err_takes })
  written a h w = absurd h

  pub ram_headline : (status : Status) → Answers May (RamTells options watching plan o.source) o status
      → RamHeadline options watching plan o status
  ram_headline status a = go (own_or_fault o.out o.err a.answer status a.delivered)
    where
      go : (status ≡ statuses.WriteFault) ⊎ IsWritten o.out o.err a.answer status → RamHeadline options watching plan o status
      go (inl e) =
          subst (RamHeadline options watching plan o) (sym e)
          (a.answer, holds a.answer a.cause a.told, subst (Delivers o.out o.err a.answer) e a.delivered)
      go (inr w) =
          subst (RamHeadline options watching plan o) (sym w.own)
          (written a.answer (holds a.answer a.cause a.told) (subst (IsWritten o.out o.err a.answer) w.own w))
