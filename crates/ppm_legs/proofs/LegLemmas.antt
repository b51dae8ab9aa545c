-- The answers of a command that goes on from the state of a saved text by a schedule: from what was read, or in place of it.
use Rattle.std.proofs.Common.{◌≡◌, ◌≢◌, ◌⊎◌, ◌<◌, ◌++◌, ℕ, List, [], length, None, inl, inr, refl, sym, ap, ◌∙◌, subst, arith}
use Rattle.ppm_ports.specs.Ports.{Port}
use Rattle.ppm_cells.specs.Finish.{finish_of}
use Rattle.ppm_cells.specs.declared.shape.Shape.{Shape}
use Rattle.ppm_code.specs.declared.code.CodeParts.{CodeParts}
use Rattle.ppm_core.specs.Situation.{Situation, loaded}
use Rattle.ppm_plan.specs.declared.plan_error.PlanError.{PlanError}
use Rattle.ppm_plan.specs.declared.plan_error.PlanError.TheVariants as plan_errors
use Rattle.ppm_plan.specs.declared.schedule_item.ScheduleItem.{ScheduleItem}
use Rattle.ppm_plan.specs.Forms.{schedule_form}
use Rattle.ppm_plan.specs.Refusals.{IsAccepted, IsRefused}
use Rattle.ppm_step.specs.Standings.{unknown_place}
use Rattle.ppm_following.specs.Followed.{followed}
use Rattle.ppm_saved.specs.Names.{lengths_of}
use Rattle.ppm_saved.specs.Renewal.{IsRenewalOf}
use Rattle.ppm_saved.specs.declared.renewal.Renewed.{Renewed}
use Rattle.ppm_saved.specs.declared.saved.Saved.{Saved}
use Rattle.ppm_saved_reader.specs.Correct.{IsRefusal, TooLong}
use Rattle.ppm_saved_reader.specs.Rules.{saved_limit}
use Rattle.ppm_saved_reader.specs.declared.saved_error.SavedError.{SavedError}
use Rattle.ppm_saved_reader.specs.declared.saved_error.SavedError.TheVariants as errors
use Rattle.ppm_answers.specs.declared.answer.Answer.{Answer}
use Rattle.ppm_answers.specs.declared.answer.Answer.TheVariants as answers
use Rattle.ppm_answers.specs.declared.saved.SavedRefusal.{SavedRefusal}
use Rattle.ppm_answers.specs.Reading.{FrontsDecide, TextMay}
use Rattle.ppm_cli.specs.declared.resume.ResumeOptions.{ResumeOptions}
use Rattle.ppm_loading.specs.Planned.{refusal_of as plan_refusal}
use Rattle.ppm_loading.specs.Programs.{ProgramMay}
use Rattle.ppm_outcomes.specs.Resumes.{SavedState, saved_finish, GoesOnFrom, refusal_of, state_of}
use Rattle.ppm_outcomes.proofs.ResumeLemmas.{fronts_decide}
use Rattle.ppm_legs.specs.SavedTexts.{IsBroken, IsLegOf, LegMay, NoLegMay, NoStateMay, ReadsLeg, ReadsState, RefusedHas, StateHas, TextHas}

-- a text that is that of no state is refused
pub refused_text : (text : List ℕ) (error : SavedError) → IsRefusal text error → TextMay RefusedHas text (refusal_of error)
refused_text text errors.NoMemory h = tt
refused_text text (errors.NoSuchForm line) h = record { error = errors.NoSuchForm line; of_text = λ e. cc; refused = h; number_is = refl; line_is = refl }
refused_text text (errors.OutOfRange line) h = record { error = errors.OutOfRange line; of_text = λ e. cc; refused = h; number_is = refl; line_is = refl }
refused_text text (errors.BadListing line) h = record { error = errors.BadListing line; of_text = λ e. cc; refused = h; number_is = refl; line_is = refl }
refused_text text (errors.BadCode line) h = record { error = errors.BadCode line; of_text = λ e. cc; refused = h; number_is = refl; line_is = refl }
refused_text text (errors.WrongCount line) h = record { error = errors.WrongCount line; of_text = λ e. cc; refused = h; number_is = refl; line_is = refl }

-- and so is one that is too long
pub long_text : (text : List ℕ) → saved_limit < length text → TextMay RefusedHas text (answers.SavedRefused (record { number = 1; line = 1 }))
long_text text long = record { error = errors.NoSuchForm 1; of_text = λ e. cc; refused = TooLong long; number_is = refl; line_is = refl }

-- no text has a read fault
pub no_fault : (text : List ℕ) → ¬ RefusedHas text answers.ReadFault
no_fault text h = h

-- a schedule that is refused for the processors of a state
pub refused_schedule : (schedule : List ℕ) (z : SavedState) (error : PlanError) → IsRefused schedule_form schedule z.shape.processors error
    → ProgramMay (StateHas (λ items z a. ⊥) schedule z) (plan_refusal error)
refused_schedule schedule z (plan_errors.BadItem n) r = record { error = plan_errors.BadItem n; of_text = refl; refused = r; number_is = refl }
refused_schedule schedule z (plan_errors.NoSuchProcessor n) r = record { error = plan_errors.NoSuchProcessor n; of_text = refl; refused = r; number_is = refl }
refused_schedule schedule z plan_errors.TooManyFaults r = record { error = plan_errors.TooManyFaults; of_text = refl; refused = r; number_is = refl }
refused_schedule schedule z plan_errors.AllKilled r = record { error = plan_errors.AllKilled; of_text = refl; refused = r; number_is = refl }
refused_schedule schedule z plan_errors.NoMemory r = tt

-- one that may be followed, where the finish word of the state stands for nothing
pub broken_words : (schedule : List ℕ) (z : SavedState) (items : List ScheduleItem) → IsAccepted schedule_form schedule z.shape.processors items → IsBroken z
    → ProgramMay (StateHas (λ items z a. ⊥) schedule z) (answers.Broken unknown_place)
broken_words schedule z items accepted broken = record { items = items; accepted = accepted; has = inl (broken, refl) }

-- where there is no state, nothing is run
pub no_state : (schedule : List ℕ) (source : Port) (a : Answer) → NoStateMay source a → NoLegMay schedule source a
no_state schedule source answers.ReadFault h = h
no_state schedule source answers.NoMemory h = h
no_state schedule source (answers.SavedRefused r) h = h
no_state schedule source a h = absurd h.2

-- nor where the state that was read has no run by the schedule
pub of_state : (schedule : List ℕ) (source : Port) (z : SavedState) → ReadsState source z → (a : Answer)
    → ProgramMay (StateHas (λ items z a. ⊥) schedule z) a → NoLegMay schedule source a
of_state schedule source z s answers.NoMemory h = ((s.0, s.1.whole.most, s.1.whole.front), s.1.holds)
of_state schedule source z s answers.ReadFault h = absurd h.has
of_state schedule source z s (answers.SavedRefused r) h = absurd h.has
of_state schedule source z s a h = (s.0, s.1, record { state = z; is = s.2; has = h })

module _ (Has : List ScheduleItem → SavedState → Answer → Type 0) where
  -- no answer by items is one of these
  pub record AreKinds : Type 0 where
    pub no_refusal : (items : List ScheduleItem) (z : SavedState) (r : SavedRefusal) → ¬ Has items z (answers.SavedRefused r)
    pub no_plan : (items : List ScheduleItem) (z : SavedState) (number : ℕ) → ¬ Has items z (answers.PlanRefused number)
    pub no_fault : (items : List ScheduleItem) (z : SavedState) → ¬ Has items z answers.ReadFault
    pub no_memory : (items : List ScheduleItem) (z : SavedState) → ¬ Has items z answers.NoMemory

  module _ (schedule : List ℕ) where
    -- what is answered where nothing is run is an answer of each such command
    pub no_leg : (source : Port) (a : Answer) → NoLegMay schedule source a → LegMay Has schedule source a
    no_leg source answers.ReadFault h = h
    no_leg source answers.NoMemory h = h
    no_leg source (answers.SavedRefused r) h = h
    no_leg source (answers.PlanRefused number) h = h
    no_leg source (answers.Broken place) h = (
      h.0,
      h.1,
      record {
        state = h.2.state;
        is = h.2.is;
        has = record {
          items = h.2.has.items;
          accepted = h.2.has.accepted;
          has = elim h.2.has.has [ inl broken ↦ inl broken | inr none ↦ absurd none ];
        };
      },
    )
    no_leg source a h = absurd h.2.has.has

    module _ (source : Port) (z : SavedState) (items : List ScheduleItem) (read : ReadsLeg schedule source z items) where
      -- and so is an answer of the state that was read
      pub leg_has : AreKinds → (a : Answer) → Has items z a → LegMay Has schedule source a
      leg_has kinds answers.ReadFault h = absurd (kinds.no_fault items z h)
      leg_has kinds answers.NoMemory h = absurd (kinds.no_memory items z h)
      leg_has kinds (answers.SavedRefused r) h = absurd (kinds.no_refusal items z r h)
      leg_has kinds (answers.PlanRefused number) h = absurd (kinds.no_plan items z number h)
      leg_has kinds (answers.Broken place) h = (
        read.state.0,
        read.state.1,
        record { state = z; is = read.state.2; has = record { items = items; accepted = read.accepted; has = inr h } },
      )
      leg_has kinds a h = (
        read.state.0,
        read.state.1,
        record { state = z; is = read.state.2; has = record { items = items; accepted = read.accepted; has = h } },
      )

      -- or want of memory
      pub leg_wants : LegMay Has schedule source answers.NoMemory
      leg_wants = let s = read.state in ((s.0, s.1.whole.most, s.1.whole.front), s.1.holds)

    -- what stands after the limit of a saved text changes none
    pub fronts : FrontsDecide saved_limit (TextHas Has schedule)
    fronts text rest (answers.SavedRefused r) long h = fronts_decide any [] [] [] text rest (answers.SavedRefused r) long h
      where
        any : ResumeOptions
        any = record { turns = 1; looks = 1; seed = 0 }
    fronts text rest a long h = let short = h.is.short in absurd (omega (arith, long, short))

-- a machine with what fresh processors find of a state goes on from it
pub goes_on : (saved : Saved) (keeper : ℕ) (r : Renewed) (begun : Situation) → IsRenewalOf saved keeper r
    → begun ≡ loaded r.image.shape r.code r.image.lengths r.image.words → GoesOnFrom (state_of saved) begun
goes_on saved keeper r begun is loads =
    let lengths : r.image.lengths ≡ lengths_of saved.names = is.lengths_are ∙ saved.whole.lengths_are in
    record {
      words = r.image.words;
      renewed = is.words_are;
      loads = loads ∙ (λ i. loaded (is.shape_is i) (is.code_is i) (lengths i) r.image.words);
    }

-- what a machine has come to after the acts of a schedule is a leg of the state
pub leg_is : (saved : Saved) (keeper : ℕ) (r : Renewed) (begun m : Situation) (items : List ScheduleItem) (acts : ℕ) → IsRenewalOf saved keeper r
    → begun ≡ loaded r.image.shape r.code r.image.lengths r.image.words → m ≡ followed begun items acts → IsLegOf (state_of saved) items acts m
leg_is saved keeper r begun m items acts is loads ends = record { start = begun; goes_on = goes_on saved keeper r begun is loads; ends = ends }

-- it has the sizes and the code of the state
module _ (z : SavedState) (items : List ScheduleItem) (acts : ℕ) (m : Situation) (leg : IsLegOf z items acts m) where
  pub leg_shape : m.shape ≡ z.shape
  leg_shape = ap (λ (x : Situation). x.shape) leg.ends ∙ ap (λ (x : Situation). x.shape) leg.goes_on.loads

  pub leg_code : m.code ≡ z.code
  leg_code = ap (λ (x : Situation). x.code) leg.ends ∙ ap (λ (x : Situation). x.code) leg.goes_on.loads
