-- The answers that a state has where it is replayed: what its words say after the leg; and what they say of each sound code that left it.
use Rattle.std.proofs.Common.{◌≡◌, ◌≢◌, ◌⊎◌, ◌<◌, ◌^◌, ℕ, zero, suc, List, [], Option, Some, None, Bool, true, false, ◌==◌, inl, inr, refl, sym, ap, ◌∙◌, subst, arith}
use Rattle.std.proofs.lemmas.Bool.Decides.{eqb_tells}
use Rattle.std.specs.List.{AllByRecursion}
use Rattle.ppm_words.specs.declared.named_array.NamedArray.{NamedArray}
use Rattle.ppm_words.specs.declared.outcome.Outcome.TheVariants as outcome
use Rattle.ppm_cells.specs.Ending.{ending_of}
use Rattle.ppm_cells.specs.Finish.{finish_of, finish_word, IsFinish}
use Rattle.ppm_cells.specs.Memory.{read}
use Rattle.ppm_cells.specs.declared.cell.Cell.TheVariants.{FinishWord}
use Rattle.ppm_cells.specs.declared.ending.Ending.{Ending}
use Rattle.ppm_cells.specs.declared.ending.Ending.TheVariants.{NotYet, With, Unknown}
use Rattle.ppm_cells.specs.declared.finish.Finish.{Finish}
use Rattle.ppm_cells.specs.declared.finish.Finish.TheVariants as finishes
use Rattle.ppm_cells.specs.declared.shape.Shape.{Shape}
use Rattle.ppm_cells.proofs.ExactLemmas.{pack-unpack}
use Rattle.ppm_cells.proofs.FinishLemmas.{finishes_exact}
use Rattle.ppm_code.specs.Code.{IsCode}
use Rattle.ppm_code.specs.declared.code.CodeParts.{CodeParts}
use Rattle.ppm_core.specs.Situation.{Situation, loaded, finish_in}
use Rattle.ppm_plan.specs.Correct.{HaveOneAnswer as PlansHaveOneAnswer}
use Rattle.ppm_plan.specs.Forms.{schedule_form}
use Rattle.ppm_plan.specs.Refusals.{IsAccepted, IsKeeper}
use Rattle.ppm_plan.specs.declared.schedule_item.ScheduleItem.{ScheduleItem}
use Rattle.ppm_step.specs.Among.{IsTurnAmong}
use Rattle.ppm_step.specs.declared.turn.Turn.{Turn}
use Rattle.ppm_step.proofs.FinishLemmas.{finish_stays}
use Rattle.ppm_choice.specs.Schedules.{schedule_turns}
use Rattle.ppm_choice.proofs.UnfinishedLemmas.{none_quits, unfinished_is_exact}
use Rattle.ppm_following.specs.Followed.{followed}
use Rattle.ppm_following.proofs.ScheduledLemmas.{scheduled_among}
use Rattle.ppm_saved.specs.Names.{lengths_of}
use Rattle.ppm_saved.specs.Renewal.{finish_behind as renewed_finish}
use Rattle.ppm_saved.specs.declared.names.NamedLength.{NamedLength}
use Rattle.ppm_saved_reader.specs.Correct.{FaultsTellSavedTexts}
use Rattle.ppm_answers.specs.declared.answer.Answer.{Answer}
use Rattle.ppm_answers.specs.declared.answer.Answer.TheVariants as answers
use Rattle.ppm_answers.specs.declared.sweep.Came.{Came}
use Rattle.ppm_answers.specs.declared.tally.Tally.{Tally}
use Rattle.ppm_cli.specs.declared.replay.ReplaySavedOptions.{ReplaySavedOptions}
use Rattle.ppm_loading.specs.Says.{arrays_from, IsOfFinish, IsOfEnding, IsTheOne}
use Rattle.ppm_loading.proofs.SayLemmas.{ending_is, said_of_word, some_of_proposed, unset_is}
use Rattle.ppm_outcomes.specs.AsCode.{MayRun, CodeNeedsMoreRoom}
use Rattle.ppm_outcomes.specs.CodeResumes.{CodeWordsComeBack, IsLeftByCode, legs_of}
use Rattle.ppm_outcomes.specs.Legs.{finish_at_last, worked_in_all}
use Rattle.ppm_outcomes.specs.LegsAsCode.{EndsAsCodeInAll, IsAsCodeInAll, RunsInLegsAreAsCode}
use Rattle.ppm_outcomes.specs.Replays.{IsSaid, tally_of, with_tally}
use Rattle.ppm_outcomes.specs.Resumes.{SavedState, saved_finish, GoesOnFrom, IsTextOf, named}
use Rattle.ppm_outcomes.proofs.MeantRows.{ended_replay, trapped_replay, full_replay, broken_replay}
use Rattle.ppm_outcomes.proofs.MeantRows.{no_other, no_other_trap, no_other_room, no_other_broken}
use Rattle.ppm_outcomes.proofs.ReplayLemmas.{one_said}
use Rattle.ppm_outcomes.proofs.ResumedOfCode.{arrays_are, finish_is, is_as_code}
use Rattle.ppm_legs.specs.SavedReplays.{HasCause, Unended, Proposed, Stood, IsLasting, StateReplays, HaveOneAnswer, IsAsReplayed, ReplaysAreAsCode, SaysAsReplayed, turns_by}
use Rattle.ppm_legs.specs.SavedTexts.{IsLegOf}
use Rattle.ppm_legs.proofs.LegLemmas.{AreKinds, fronts}
use Rattle.ppm_legs.proofs.SavedAnswerLemmas.{one_start, text_one}

-- ---- why a finish word stands

module _ (w : ℕ) where
  -- a finish word that fresh processors find is 0, or it lasts
  lasts : (o : Option Finish) → finish_of w ≡ o → o ≢ None → renewed_finish o w ≢ 0
      → (f : Finish) × (finish_of w ≡ Some f) × IsLasting f × (renewed_finish o w ≡ w)
  lasts None e some ne = absurd (some refl)
  lasts (Some finishes.Unset) e some ne =
      absurd (ne (sym (pack-unpack finish_word IsFinish finish_of finishes_exact w finishes.Unset e) ∙ unset_is))
  lasts (Some finishes.Ended) e some ne = (finishes.Ended, e, tt, refl)
  lasts (Some (finishes.Trapped trap line)) e some ne = (finishes.Trapped trap line, e, tt, refl)
  lasts (Some (finishes.OutOfTurns processor)) e some ne = absurd (ne refl)
  lasts (Some (finishes.OutOfRoom place)) e some ne = (finishes.OutOfRoom place, e, tt, refl)
  lasts (Some finishes.Stopped) e some ne = absurd (ne refl)
  lasts (Some (finishes.Broken place)) e some ne = (finishes.Broken place, e, tt, refl)

module _ (z : SavedState) (is : IsCode z.code) (stands : finish_of (saved_finish z) ≢ None) (items : List ScheduleItem) (acts keeper : ℕ)
    (kept : IsKeeper schedule_form items keeper) (there : keeper < z.shape.processors) (start : Situation) (on : GoesOnFrom z start) where
  abbrev begun : Situation
  begun = loaded z.shape z.code (lengths_of z.arrays) on.words

  abbrev before : ℕ
  before = read z.shape on.words FinishWord

  abbrev word : ℕ
  word = finish_in (followed begun items acts)

  begun_has_cause : HasCause z acts (followed begun items acts)
  begun_has_cause = by (eqb_tells word 0) (eqb_tells before 0)
    where
      stood : before ≢ 0 → HasCause z acts (followed begun items acts)
      stood set =
          let renewed : before ≡ renewed_finish (finish_of (saved_finish z)) (saved_finish z) = on.renewed.cells FinishWord tt in
          let l = lasts (saved_finish z) (finish_of (saved_finish z)) refl stands (λ e. set (renewed ∙ e)) in
          let stays : word ≡ before = finish_stays z.shape z.code is on.words [] (schedule_turns z.shape z.code begun.state items acts) set in
          Stood l.0 l.1 l.2 (stays ∙ renewed ∙ l.3)

      by : (((word == 0) ≡ true) × (word ≡ 0)) ⊎ (((word == 0) ≡ false) × (word ≢ 0))
          → (((before == 0) ≡ true) × (before ≡ 0)) ⊎ (((before == 0) ≡ false) × (before ≢ 0)) → HasCause z acts (followed begun items acts)
      by (inl none) b =
          Unended none.1 (let made = unfinished_is_exact z.shape z.code is on.words items keeper acts on.renewed.fit kept there none.1 in omega (arith, made))
      by (inr some) (inl unset) = Proposed (none_quits z.shape z.code is on.words items acts unset.1 some.1)
      by (inr some) (inr set) = stood set.1

  pub has_cause : HasCause z acts (followed start items acts)
  has_cause = subst (λ (m : Situation). HasCause z acts (followed m items acts)) (sym on.loads) begun_has_cause

-- ---- what is said

module _ (acts : ℕ) (m : Situation) (arrays : List NamedArray) where
  abbrev ended : List NamedArray → Answer
  ended values = answers.EndedWith values (tally_of m)

  abbrev By : Ending → Answer → Type 0
  By ending a = IsOfEnding m.shape m.array_lengths m.state.words ended (λ trap line. answers.TrappedWith trap line (tally_of m)) (λ processor x. ⊥)
      (λ x. x ≡ answers.Unfinished acts) arrays ending a

  -- with a cause there is something
  some_lasting : (f : Finish) → IsLasting f → (a : Answer) × By (With f) a
  some_lasting finishes.Ended l = (ended (arrays_from m.shape m.array_lengths m.state.words 0 arrays), refl)
  some_lasting (finishes.Trapped trap line) l = (answers.TrappedWith trap line (tally_of m), refl)
  some_lasting (finishes.OutOfRoom place) l = (answers.OutOfRoom place, refl)
  some_lasting (finishes.Broken place) l = (answers.Broken place, refl)
  some_lasting (finishes.OutOfTurns processor) l = absurd l
  some_lasting finishes.Stopped l = absurd l
  some_lasting finishes.Unset l = absurd l

  not_unset : (f : Finish) → IsLasting f → f ≢ finishes.Unset
  not_unset f l e = subst IsLasting {x = f} {y = finishes.Unset} e l

  pub some_said : (z : SavedState) → HasCause z acts m → (a : Answer) × IsSaid acts m arrays a
  some_said z (Unended none made) =
      (answers.Unfinished acts, subst (λ (w : ℕ). By (ending_of w) (answers.Unfinished acts)) (sym none) refl)
  some_said z (Proposed w) =
      some_of_proposed ended (λ trap line. answers.TrappedWith trap line (tally_of m)) (λ processor x. ⊥) (λ x. x ≡ answers.Unfinished acts) m.shape
      m.array_lengths m.state.words arrays z.shape.processors (finish_in m) w
  some_said z (Stood f e l same) =
      let a = some_lasting f l in
      (a.0, subst (λ (x : Ending). By x a.0) (sym (ending_is (finish_in m) f (ap finish_of same ∙ e) (not_unset f l))) a.1)

  -- the answers that are said
  abbrev pub IsOfReplay : Answer → Type 0
  IsOfReplay (answers.EndedWith values tally) = Unit {0}
  IsOfReplay (answers.TrappedWith trap line tally) = Unit {0}
  IsOfReplay (answers.Unfinished n) = n ≡ acts
  IsOfReplay (answers.OutOfRoom place) = Unit {0}
  IsOfReplay (answers.Broken place) = Unit {0}
  IsOfReplay _ = ⊥

  kind : (ending : Ending) (a : Answer) → By ending a → IsOfReplay a
  kind NotYet a h = subst IsOfReplay (sym h) refl
  kind (With finishes.Ended) a h = subst IsOfReplay (sym h) tt
  kind (With (finishes.Trapped trap line)) a h = subst IsOfReplay (sym h) tt
  kind (With (finishes.OutOfRoom place)) a h = subst IsOfReplay (sym h) tt
  kind (With (finishes.Broken place)) a h = subst IsOfReplay (sym h) tt
  kind (With (finishes.OutOfTurns processor)) a h = absurd h
  kind (With finishes.Stopped) a h = absurd h
  kind (With finishes.Unset) a h = absurd h
  kind Unknown a h = absurd h

  pub said_kind : (a : Answer) → IsSaid acts m arrays a → IsOfReplay a
  said_kind a h = kind (ending_of (finish_in m)) a h

-- what is said is the answer that the leg came to this, with the machine's forks and takes
pub leg_said : {P : Answer → Type 0} (m : Situation) (c : Came) (tally : Tally) (a : Answer) → tally ≡ tally_of m → a ≡ with_tally c tally
    → IsTheOne P (with_tally c (tally_of m)) → IsTheOne P a
leg_said {P} m c tally a counted is only = subst (IsTheOne P) (sym (is ∙ ap (with_tally c) counted)) only

-- the machine after a leg has the arrays of the state
pub leg_lengths : (z : SavedState) (items : List ScheduleItem) (acts : ℕ) (m : Situation) → IsLegOf z items acts m → (names : List NamedLength)
    → names ≡ z.arrays → m.array_lengths ≡ lengths_of names
leg_lengths z items acts m leg names same =
    ap (λ (x : Situation). x.array_lengths) leg.ends ∙ ap (λ (x : Situation). x.array_lengths) leg.goes_on.loads ∙ ap lengths_of (sym same)

module _ (options : ReplaySavedOptions) where
  pub replay_kind : (items : List ScheduleItem) (z : SavedState) (a : Answer) (h : StateReplays options items z a)
      → IsOfReplay options.turns (followed h.start items options.turns) (named z.arrays) a
  replay_kind items z a h = said_kind options.turns (followed h.start items options.turns) (named z.arrays) a h.says

  pub kinds : AreKinds (StateReplays options)
  kinds = record {
    no_refusal = λ items z r h. replay_kind items z (answers.SavedRefused r) h;
    no_plan = λ items z number h. replay_kind items z (answers.PlanRefused number) h;
    no_fault = λ items z h. replay_kind items z answers.ReadFault h;
    no_memory = λ items z h. replay_kind items z answers.NoMemory h;
  }

  -- a state has one
  pub state_one : (items : List ScheduleItem) (z : SavedState) (a b : Answer) → StateReplays options items z a → StateReplays options items z b → a ≡ b
  state_one items z a b h k =
      let same : k.start ≡ h.start = one_start z k.start h.start k.goes_on h.goes_on in
      one_said z.shape.processors options.turns (followed h.start items options.turns) (named z.arrays) a b h.says
      (subst (λ (m : Situation). IsSaid options.turns (followed m items options.turns) (named z.arrays) b) same k.says)

  -- the answer that is said after a leg is the state's
  pub leg_has : (items : List ScheduleItem) (z : SavedState) (text : List ℕ) → IsTextOf text z → finish_of (saved_finish z) ≢ None → (keeper : ℕ)
      → IsKeeper schedule_form items keeper → keeper < z.shape.processors → (m : Situation) → (leg : IsLegOf z items options.turns m)
      → (names : List NamedLength) → names ≡ z.arrays → (a : Answer) → IsTheOne (IsSaid options.turns m (named names)) a → StateReplays options items z a
  leg_has items z text is stands keeper kept there m leg names same a only =
      let cause = has_cause z is.saved.code_is stands items options.turns keeper kept there leg.start leg.goes_on in
      let some = some_said options.turns (followed leg.start items options.turns) (named z.arrays) z cause in
      let there_only = subst (λ (x : Situation). IsTheOne (IsSaid options.turns x (named z.arrays)) a) leg.ends
      (subst (λ (n : List NamedLength). IsTheOne (IsSaid options.turns m (named n)) a) same only) in
      record {
        stands = stands;
        start = leg.start;
        goes_on = leg.goes_on;
        cause = cause;
        says = subst (IsSaid options.turns (followed leg.start items options.turns) (named z.arrays)) (sym (there_only some.0 some.1)) some.1;
      }

pub have_one_answer : FaultsTellSavedTexts → PlansHaveOneAnswer → HaveOneAnswer
have_one_answer tell plans = record {
  one = λ options schedule. text_one tell plans.schedules (StateReplays options) (λ items z a h. h.stands) (state_one options) schedule;
  front = λ options schedule. fronts (StateReplays options) schedule;
}

-- ---- of each sound code that left the state

module _ (law : RunsInLegsAreAsCode) (comes : CodeWordsComeBack) (options : ReplaySavedOptions) (schedule : List ℕ) (items : List ScheduleItem)
    (z : SavedState) (accepted : IsAccepted schedule_form schedule z.shape.processors items) (code : CodeParts) (input : List NamedArray)
    (may : MayRun code input) (left : IsLeftByCode code input z) where
  abbrev HasIt : Answer → Type 0
  HasIt a = StateReplays options items z a

  among : (a : Answer) (h : HasIt a) → AllByRecursion (IsTurnAmong h.start.shape.processors) (turns_by options items h.start)
  among a h =
      let least = h.start.shape.within.processors_least in
      let count : h.start.shape.processors ≡ z.shape.processors = ap (λ (x : Situation). x.shape.processors) h.goes_on.loads in
      scheduled_among h.start.shape h.start.code (omega (arith, least)) schedule z.shape.processors items count accepted h.start.state options.turns

  as_code : (a : Answer) (h : HasIt a) → IsAsCodeInAll left.start (legs_of left h.start.state.words) (turns_by options items h.start) code input
  as_code a h = is_as_code law comes code input may z left h.start h.goes_on (turns_by options items h.start) (among a h)

  -- the finish that is said, where the run has ended
  said : (a : Answer) (h : HasIt a) → (a ≢ answers.Unfinished options.turns)
      → let m = followed h.start items options.turns in
      (finish : Finish) × (finish_of (finish_in m) ≡ Some finish)
      × IsOfFinish m.shape m.array_lengths m.state.words (λ values. answers.EndedWith values (tally_of m))
      (λ trap line. answers.TrappedWith trap line (tally_of m)) (λ processor x. ⊥) (λ x. x ≡ answers.Unfinished options.turns) (named z.arrays) finish a
  said a h other =
      let m = followed h.start items options.turns in
      said_of_word (λ values. answers.EndedWith values (tally_of m)) (λ trap line. answers.TrappedWith trap line (tally_of m)) (λ processor x. ⊥)
      (λ x. x ≡ answers.Unfinished options.turns) m.shape m.array_lengths m.state.words (named z.arrays) (finish_in m) a other h.says

  -- the finish word after all legs says it too
  at_last : (a : Answer) (h : HasIt a) (other : a ≢ answers.Unfinished options.turns) (finish : Finish) → (said a h other).0 ≡ finish
      → finish_of (finish_at_last left.start (legs_of left h.start.state.words) (turns_by options items h.start)) ≡ Some finish
  at_last a h other finish is =
      ap finish_of (sym (finish_is law comes code input may z left h.start h.goes_on (turns_by options items h.start) (among a h)))
      ∙ (said a h other).1 ∙ ap (λ (f : Finish). Some f) is

  says : (a : Answer) (h : HasIt a) → SaysAsReplayed left h.start.state.words (turns_by options items h.start) a
  says (answers.EndedWith arrays tally) h =
      let a = answers.EndedWith arrays tally in
      let m = followed h.start items options.turns in
      let k = said a h (no_other options.turns arrays tally) in
      let e = ended_replay m.shape m.array_lengths m.state.words (named z.arrays) options.turns (tally_of m) k.0 arrays tally k.2 in
      subst (λ (l : List NamedArray). EndsAsCodeInAll left.start (legs_of left h.start.state.words) (turns_by options items h.start) code input
      (outcome.Ended l))
      (sym (e.1 ∙ arrays_are law comes code input may z left h.start h.goes_on (turns_by options items h.start) (among a h)))
      ((as_code a h).ended (at_last a h (no_other options.turns arrays tally) _ e.0))
  says (answers.TrappedWith trap line tally) h =
      let a = answers.TrappedWith trap line tally in
      let m = followed h.start items options.turns in
      let k = said a h (no_other_trap options.turns trap line tally) in
      let e = trapped_replay m.shape m.array_lengths m.state.words (named z.arrays) options.turns (tally_of m) k.0 trap line tally k.2 in
      (as_code a h).trapped trap line (at_last a h (no_other_trap options.turns trap line tally) _ e.0)
  says (answers.Unfinished acts) h = tt
  says (answers.OutOfRoom place) h =
      let a = answers.OutOfRoom place in
      let m = followed h.start items options.turns in
      let k = said a h (no_other_room options.turns place) in
      let e = full_replay m.shape m.array_lengths m.state.words (named z.arrays) options.turns (tally_of m) k.0 place k.2 in
      subst (λ (s : Shape). (place < s.processors) × CodeNeedsMoreRoom code input s.room) (sym left.shape_is)
      ((as_code a h).full place (at_last a h (no_other_room options.turns place) _ e))
  says (answers.Broken place) h =
      let a = answers.Broken place in
      let m = followed h.start items options.turns in
      let k = said a h (no_other_broken options.turns place) in
      let e = broken_replay m.shape m.array_lengths m.state.words (named z.arrays) options.turns (tally_of m) k.0 place k.2 in
      let few = left.few in
      (as_code a h).unbroken (omega (arith, few)) place (at_last a h (no_other_broken options.turns place) _ e)
  says a h = absurd (replay_kind options items z a h)

  pub as_replayed : (a : Answer) (h : HasIt a) → IsAsReplayed h left
  as_replayed a h = record { as_code = as_code a h; says = says a h }

pub replays_are_as_code : RunsInLegsAreAsCode → CodeWordsComeBack → (options : ReplaySavedOptions) → ReplaysAreAsCode options
replays_are_as_code law comes options schedule items z accepted answer h code input may left =
    as_replayed law comes options schedule items z accepted code input may left answer h
