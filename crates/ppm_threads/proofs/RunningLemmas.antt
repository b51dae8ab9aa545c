-- A processor from its first act on, until its acts stop or its watcher refuses.
use Rattle.std.proofs.Common.{◌≡◌, ◌∙◌, ℕ, true, false, Option, List, sym, subst}
use Rattle.ppm_words.specs.declared.event.Event.{Event}
use Rattle.ppm_plan.specs.Draws.{Drawing}
use Rattle.ppm_plan.specs.Schedules.{Planned}
use Rattle.ppm_choice.specs.declared.limits.Limits.{Limits}
use Rattle.ppm_choice.specs.declared.pace.Pace.{Pace}
use Rattle.ppm_table.specs.declared.processor.Processor.{Processor}
use Rattle.ppm_table.specs.declared.processor.Shared.{Shared}
use Rattle.ppm_table.specs.declared.view.Opening.{Opening}
use Rattle.ppm_table.specs.Shown.{IsOf, deeds_of_processor, opening_of}
use Rattle.ppm_ports.specs.Told.{KeepsFront}
use Rattle.ppm_table.proofs.TellingLemmas.{keeps_both}
use Rattle.ppm_threads.specs.declared.act_result.ActResult.{ActResult}
use Rattle.ppm_threads.specs.declared.act_result.ActResult.TheVariants.{More, Over, Refused}
use Rattle.ppm_threads.specs.Driven.{Ends}
use Rattle.ppm_threads.specs.Going.{TraceGrows, Obeying, RunsOn, told_of_deeds}
use Rattle.ppm_threads.proofs.GoingLemmas.{quit_behind}

module _ {W : Type 0} (told : W → Option (List Event)) (plan : Planned) (limits : Limits) (s : Shared) (p : Processor) (w : W) where
  abbrev k : Opening
  k = opening_of s

  abbrev own : ℕ
  own = p.local.own

  -- what it has done since it stood at p obeys so far, and its watcher was told of it
  pub record Runs (q : Processor) (v : W) (pace : Pace) (victims : Drawing) : Type 0 where
    pub of : IsOf s q
    pub own_is : q.local.own ≡ own
    pub keeps : KeepsFront (told w) (told v)
    pub obeying : Obeying plan limits k own (deeds_of_processor q) pace victims
    pub grows : TraceGrows (told w) (told v) (told_of_deeds plan limits k own (deeds_of_processor p)) (told_of_deeds plan limits k own (deeds_of_processor q))

  -- by its own number
  pub obeying_own : (q : Processor) (v : W) (pace : Pace) (victims : Drawing) → Runs q v pace victims
      → Obeying plan limits k q.local.own (deeds_of_processor q) pace victims
  obeying_own q v pace victims r = subst (λ (c : ℕ). Obeying plan limits k c (deeds_of_processor q) pace victims) (sym r.own_is) r.obeying

  module _ (q : Processor) (v : W) (pace : Pace) (victims : Drawing) (r : Runs q v pace victims)
      (q' : Processor) (v' : W) (pace' : Pace) (victims' : Drawing) (of : IsOf s q') (same : q'.local.own ≡ q.local.own)
      (keeps : KeepsFront (told v) (told v')) where
    abbrev Goes : ActResult → Type 0
    Goes came = RunsOn plan limits k own (told v) (told v') q.seat.me q'.seat.me pace' victims' came

    goes_own : (came : ActResult) → RunsOn plan limits k q.local.own (told v) (told v') q.seat.me q'.seat.me pace' victims' came → Goes came
    goes_own came g = subst (λ (c : ℕ). RunsOn plan limits k c (told v) (told v') q.seat.me q'.seat.me pace' victims' came) r.own_is g

    -- it goes on
    pub runs_on : RunsOn plan limits k q.local.own (told v) (told v') q.seat.me q'.seat.me pace' victims' More → Runs q' v' pace' victims'
    runs_on g = let mine = goes_own More g in record {
      of = of;
      own_is = same ∙ r.own_is;
      keeps = keeps_both (told w) (told v) (told v') r.keeps keeps;
      obeying = mine.0;
      grows = λ list e. mine.1 list (r.grows list e);
    }

    -- its acts stop
    pub runs_over : RunsOn plan limits k q.local.own (told v) (told v') q.seat.me q'.seat.me pace' victims' Over → Ends told plan limits s true p w q' v'
    runs_over g = let mine = goes_own Over g in record {
      of = of;
      own = same ∙ r.own_is;
      keeps = keeps_both (told w) (told v) (told v') r.keeps keeps;
      grows = λ _ list e. mine.1 list (r.grows list e);
      obeys = λ _. mine.0;
      quits = λ e. absurd (cc);
    }

    -- its watcher refuses
    pub runs_refused : RunsOn plan limits k q.local.own (told v) (told v') q.seat.me q'.seat.me pace' victims' Refused
        → Ends told plan limits s false p w q' v'
    runs_refused g = let mine = goes_own Refused g in record {
      of = of;
      own = same ∙ r.own_is;
      keeps = keeps_both (told w) (told v) (told v') r.keeps keeps;
      grows = λ e. absurd (cc);
      obeys = λ e. absurd (cc);
      quits = λ _. quit_behind plan limits k own (told w) (told v) (told v') (told_of_deeds plan limits k own (deeds_of_processor p))
          (told_of_deeds plan limits k own (deeds_of_processor q)) (deeds_of_processor q') r.grows mine;
    }
