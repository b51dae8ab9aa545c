-- The answers that a state has where it is stopped again: the text of the machine after the leg, from which this is read back.
use Rattle.std.proofs.Common.{◌≡◌, ◌≢◌, ℕ, List, None, length, true, refl, sym, ap, ◌∙◌, subst}
use Rattle.ppm_cells.specs.Finish.{finish_of}
use Rattle.ppm_cells.specs.declared.shape.Shape.{Shape}
use Rattle.ppm_cells.specs.declared.shape.Takeover.TheVariants.{ByPlaces}
use Rattle.ppm_code.specs.declared.code.CodeParts.{CodeParts}
use Rattle.ppm_core.specs.Situation.{Situation, loaded}
use Rattle.ppm_plan.specs.Correct.{HaveOneAnswer as PlansHaveOneAnswer}
use Rattle.ppm_plan.specs.declared.schedule_item.ScheduleItem.{ScheduleItem}
use Rattle.ppm_choice.specs.Schedules.{schedule_turns}
use Rattle.ppm_following.specs.Followed.{followed}
use Rattle.ppm_saved.specs.Correct.{StateFits}
use Rattle.ppm_saved.specs.Names.{lengths_of}
use Rattle.ppm_saved.specs.Text.{saved_text}
use Rattle.ppm_saved.specs.declared.names.NamedLength.{NamedLength}
use Rattle.ppm_saved_reader.specs.Correct.{FaultsTellSavedTexts, IsSavedText}
use Rattle.ppm_answers.specs.declared.answer.Answer.{Answer}
use Rattle.ppm_answers.specs.declared.answer.Answer.TheVariants as answers
use Rattle.ppm_cli.specs.declared.stop.StopSavedOptions.{StopSavedOptions}
use Rattle.ppm_outcomes.specs.Resumes.{SavedState, saved_finish, GoesOnFrom, IsTextOf}
use Rattle.ppm_outcomes.proofs.LengthLemmas.{run_length}
use Rattle.ppm_legs.specs.SavedTexts.{IsLegOf}
use Rattle.ppm_legs.specs.SavedStops.{StateStops, StateReads, HaveOneAnswer, state_in, state_after, text_of}
use Rattle.ppm_legs.proofs.LegLemmas.{AreKinds, fronts, leg_shape}
use Rattle.ppm_legs.proofs.SavedAnswerLemmas.{one_start, text_one}

-- the machine after a leg takes over by places, as the state of a text does
pub by_places : (text : List ℕ) (z : SavedState) → IsTextOf text z → (items : List ScheduleItem) (acts : ℕ) (m : Situation) → IsLegOf z items acts m
    → (s : Shape) → s ≡ m.shape → s.takeover ≡ ByPlaces
by_places text z is items acts m leg s same = ap (λ (x : Shape). x.takeover) (same ∙ leg_shape z items acts m leg) ∙ is.saved.by_places

module _ (options : StopSavedOptions) (items : List ScheduleItem) (z : SavedState) where
  -- its state is read from its text, if its numbers fit
  module _ (tell : FaultsTellSavedTexts) (text : List ℕ) (is : IsTextOf text z) where
    abbrev IsRead : Situation → Type 0
    IsRead start = let end = state_after options items z start in StateFits end.arrays end.code end.words → IsTextOf (text_of end) end

    read_loaded : (start : Situation) (on : GoesOnFrom z start) → IsRead (loaded z.shape z.code (lengths_of z.arrays) on.words)
    read_loaded start on fits =
        let begun = loaded z.shape z.code (lengths_of z.arrays) on.words in
        let end = state_after options items z begun in
        let k = is.saved in
        let saved : IsSavedText (text_of end) end.shape end.arrays end.code end.words = record {
          sizes = k.sizes;
          by_places = k.by_places;
          code_is = k.code_is;
          whole = record {
            words_are = run_length z.shape z.code begun.state (schedule_turns z.shape z.code begun.state items options.after) ∙ on.renewed.fit;
            lengths_are = refl;
            arrays_are = k.whole.arrays_are;
            named = k.whole.named;
          };
          fits = fits;
          free = k.free;
          tidy = k.tidy;
          same = refl;
        } in
        record { short = tell.short (text_of end) end.shape end.arrays end.code end.words saved; saved = saved }

    read_back : (start : Situation) → GoesOnFrom z start → IsRead start
    read_back start on = subst IsRead (sym on.loads) (read_loaded start on)

    -- the text of the machine after a leg is the state's answer
    pub stop_reads : (m : Situation) → IsLegOf z items options.after m → finish_of (saved_finish z) ≢ None
        → (names : List NamedLength) (s : Shape) (parts : CodeParts) (words saved : List ℕ) → names ≡ z.arrays → s ≡ m.shape → parts ≡ m.code
        → words ≡ m.state.words → saved ≡ saved_text s names parts words → StateFits names parts words
        → StateReads options items z (answers.Saved saved)
    stop_reads m leg stands names s parts words saved is_names is_shape is_code is_words written fits =
        let written_state : SavedState = record { shape = s; arrays = names; code = parts; words = words } in
        let same : written_state ≡ state_in z m =
        λ i. record { shape = is_shape i; arrays = is_names i; code = is_code i; words = is_words i } in
        let all : written_state ≡ state_after options items z leg.start = same ∙ ap (state_in z) leg.ends in
        record {
          has = record { stands = stands; start = leg.start; goes_on = leg.goes_on; saves = ap (λ x. answers.Saved x) (written ∙ ap text_of all) };
          read_back = read_back leg.start leg.goes_on (subst (λ (y : SavedState). StateFits y.arrays y.code y.words) all fits);
        }

-- the answers that a state has
abbrev pub IsOfStop : Answer → Type 0
IsOfStop (answers.Saved text) = Unit {0}
IsOfStop _ = ⊥

pub stop_kind : (options : StopSavedOptions) (items : List ScheduleItem) (z : SavedState) (a : Answer) → StateStops options items z a → IsOfStop a
stop_kind options items z a h = subst IsOfStop (sym h.saves) tt

pub kinds_read : (options : StopSavedOptions) → AreKinds (StateReads options)
kinds_read options = record {
  no_refusal = λ items z r h. stop_kind options items z (answers.SavedRefused r) h.has;
  no_plan = λ items z number h. stop_kind options items z (answers.PlanRefused number) h.has;
  no_fault = λ items z h. stop_kind options items z answers.ReadFault h.has;
  no_memory = λ items z h. stop_kind options items z answers.NoMemory h.has;
}

-- it has one
state_one : (options : StopSavedOptions) (items : List ScheduleItem) (z : SavedState) (a b : Answer) → StateStops options items z a
    → StateStops options items z b → a ≡ b
state_one options items z a b h k =
    h.saves ∙ ap (λ (m : Situation). answers.Saved (text_of (state_after options items z m))) (one_start z h.start k.start h.goes_on k.goes_on)
    ∙ sym k.saves

pub have_one_answer : FaultsTellSavedTexts → PlansHaveOneAnswer → HaveOneAnswer
have_one_answer tell plans = record {
  one = λ options schedule. text_one tell plans.schedules (StateStops options) (λ items z a h. h.stands) (state_one options) schedule;
  front = λ options schedule. fronts (StateStops options) schedule;
  front_read = λ options schedule. fronts (StateReads options) schedule;
}

-- the text that is written is the saved one
pub same_text : (a b : List ℕ) → answers.Saved a ≡ answers.Saved b → a ≡ b
same_text a b e = cc
