-- The sweep of a code, step by step: its depth-first run, the machine of each takeover, and both takeovers together.
use Rattle.std.proofs.Common.{◌≡◌, ℕ, true, false, List, Result, Ok, Err, inl, inr, sym, ap, ◌∙◌, subst, length, map}
use Rattle.std.specs.Prelude.{IsErrAnd}
use Rattle.ppm_words.specs.declared.named_array.NamedArray.{NamedArray}
use Rattle.ppm_words.specs.declared.outcome.Outcome.{Outcome}
use Rattle.ppm_words.specs.declared.outcome.Outcome.TheVariants as outcome
use Rattle.ppm_cells.specs.declared.shape.Takeover.{Takeover}
use Rattle.ppm_cells.specs.declared.shape.Takeover.TheVariants.{ByPlaces, ByEntries}
use Rattle.ppm_code.specs.Tidy.{IsTidy}
use Rattle.ppm_code.specs.declared.code.CodeParts.{CodeParts}
use Rattle.ppm_depth.specs.Run.{IsDepthRun, IsWithin}
use Rattle.ppm_depth.specs.declared.depth.DepthRun.{DepthRun}
use Rattle.ppm_core.specs.Machine.{seen}
use Rattle.ppm_core.specs.Situation.{Situation}
use Rattle.ppm_plan.specs.declared.schedule_item.ScheduleItem.{ScheduleItem}
use Rattle.ppm_sweep.specs.declared.found.Stop.{Stop}
use Rattle.ppm_sweep.specs.declared.found.Stop.TheVariants as stops
use Rattle.ppm_sweep.specs.Found.{Stops}
use Rattle.ppm_sweep.specs.Sweep.{Swept}
use Rattle.ppm_answers.specs.declared.sweep.Difference.{Difference}
use Rattle.ppm_answers.specs.declared.sweep.Sweep.{Sweep}
use Rattle.ppm_cli.specs.Words.{AreSwept}
use Rattle.ppm_cli.specs.declared.sweep.SweepOptions.{SweepOptions}
use Rattle.ppm_cli.specs.declared.takeover.SweptTakeovers.TheVariants as asked
use Rattle.ppm_loading.specs.Loading.{AreSizes}
use Rattle.ppm_loading.specs.Telling.{GoesOn}
use Rattle.ppm_loading.specs.declared.loading.Sizes.{Sizes}
use Rattle.ppm_sweep_command.specs.declared.sweeping.Halt.{Halt}
use Rattle.ppm_sweep_command.specs.declared.sweeping.Halt.TheVariants as halts
use Rattle.ppm_sweep_command.specs.Halts.{Finds, HaltsAt, IfDiffers, is_not_within}
use Rattle.ppm_outcomes.specs.Replays.{sizes_of}
use Rattle.ppm_sweep_command.specs.Sweeps.{AllAgree, AllOf, FirstDiffers, FirstOf, replay_options, sum_of}
use Rattle.ppm_sweep_command.proofs.ComeLemmas.{IsOfInput, within_named}
use Rattle.ppm_outcomes.proofs.ReplayLemmas.{replayed_sizes}
use Rattle.ppm_sweep_command.proofs.SweepAsCode.{swept_replayed}

-- an outcome of a run from an input is open nowhere
never_open : (input : List NamedArray) (o : Outcome) → IsOfInput input o → is_not_within o ≡ true → ⊥
never_open input (outcome.Ended arrays) is e = cc
never_open input (outcome.Trapped trap line) is e = cc
never_open input outcome.NotWithin is e = is

module _ (code : CodeParts) (input : List NamedArray) (capsules : ℕ) (run : DepthRun) where
  -- a run that is not within so many capsules goes on
  pub goes_on : IsTidy code → IsDepthRun code input capsules run → is_not_within run.outcome ≡ true → GoesOn capsules code input
  goes_on tidy (inl w) e = absurd (never_open input run.outcome (within_named code input capsules run w) e)
  goes_on tidy (inr more) e = record { tidy = tidy; run = run; more = more }

  -- and any other is within them
  pub is_within : IsDepthRun code input capsules run → is_not_within run.outcome ≡ false → IsWithin code input capsules run
  is_within (inl w) e = w
  is_within (inr more) e = absurd (no (sym (ap is_not_within more.outcome) ∙ e))
    where
      no : true ≡ false → ⊥
      no k = cc

-- the options of a sweep say sizes of a machine
pub swept_sizes : (options : SweepOptions) (t : Takeover) → AreSwept options → (sizes : Sizes) → sizes ≡ sizes_of (replay_options options t) → AreSizes sizes
swept_sizes options t are sizes e = subst AreSizes (sym e) (replayed_sizes (replay_options options t) (swept_replayed options t are))

-- what a sweep that stops finds
pub exit_finds : (All : Sweep → Type 0) (First : Difference → Type 0) (halt : Halt) (r : Result Sweep Halt) → IsErrAnd r (λ h. h ≡ halt)
    → HaltsAt First halt → Finds All First r
exit_finds All First halt (Ok counts) is h = absurd is
exit_finds All First halt (Err other) is h = subst (HaltsAt First) (sym is) h

-- one that stops by the first of two stops by both
pub halts_too : (First All : Difference → Type 0) → ((d : Difference) → First d → All d) → (halt : Halt) → HaltsAt First halt → HaltsAt All halt
halts_too First All more (halts.Differs d) h = more d h
halts_too First All more halts.NoMemory h = tt

module _ (options : SweepOptions) (items : List ScheduleItem) (code : CodeParts) (input : List NamedArray) (wanted : Outcome) where
  abbrev All : Takeover → Sweep → Type 0
  All t = AllAgree options items code input wanted t

  abbrev First : Takeover → Difference → Type 0
  First t = FirstDiffers options items code input wanted t

  abbrev Both : Sweep → Type 0
  Both = AllOf options items code input wanted asked.Both

  abbrev FirstOfBoth : Difference → Type 0
  FirstOfBoth = FirstOf options items code input wanted asked.Both

  -- the first that differs by places is the first of both
  pub by_places : (halt : Halt) → HaltsAt (First ByPlaces) halt → HaltsAt FirstOfBoth halt
  by_places halt h = halts_too (First ByPlaces) FirstOfBoth (λ d f. inl f) halt h

  -- and so is that by entries, where all agree by places
  pub by_entries : (places : Sweep) → All ByPlaces places → (halt : Halt) → HaltsAt (First ByEntries) halt → HaltsAt FirstOfBoth halt
  by_entries places all halt h = halts_too (First ByEntries) FirstOfBoth (λ d f. inr (places, all, f)) halt h

  -- where all agree under both, the counts are those of both
  pub both_agree : (places entries : Sweep) → All ByPlaces places → All ByEntries entries → (r : Result Sweep Halt)
      → Finds (λ counts. counts ≡ sum_of places entries) (λ d. ⊥) r → Finds Both FirstOfBoth r
  both_agree places entries all also (Ok counts) e = (places, entries, all, also, e)
  both_agree places entries all also (Err (halts.Differs d)) e = absurd e
  both_agree places entries all also (Err halts.NoMemory) e = tt

-- the machine after a replay has arrays as long as those of the input
pub stopped_lengths : (m : Situation) (turns : ℕ) (wanted : Outcome) (swept : List Swept) (input : List NamedArray) (stop : Stop)
    → m.array_lengths ≡ map (λ (a : NamedArray). length a.values) input → Stops m turns wanted swept stop
    → IfDiffers stop (λ d. (seen d.machine).array_lengths ≡ map (λ (a : NamedArray). length a.values) input)
stopped_lengths m turns wanted swept input (stops.Differs d) lengths f = ap (λ (x : Situation). x.array_lengths) f.machine ∙ lengths
stopped_lengths m turns wanted swept input stops.NoMemory lengths f = tt
