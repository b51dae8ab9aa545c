-- What was written by `stop` of a sound case is the text of a state that its code left; so what `resume` says of such a state holds of that code.
use Rattle.std.proofs.Common.{◌≡◌, ℕ, List, sym, ap, ◌∙◌, subst}
use Rattle.ppm_words.specs.declared.named_array.NamedArray.{NamedArray}
use Rattle.ppm_words.specs.declared.outcome.Outcome.TheVariants as outcome
use Rattle.ppm_ports.specs.Outside.{ToldLists, Outside, Ports}
use Rattle.ppm_code.specs.declared.code.CodeParts.{CodeParts}
use Rattle.ppm_depth.specs.Sound.{IsSound}
use Rattle.ppm_answers.specs.declared.answer.Answer.{Answer}
use Rattle.ppm_answers.specs.declared.answer.Answer.TheVariants as answers
use Rattle.ppm_cli.specs.declared.resume.ResumeOptions.{ResumeOptions}
use Rattle.ppm_cli.specs.declared.stop.StopOptions.{StopOptions}
use Rattle.ppm_cli.specs.Words.{AreStopped, AreResumed}
use Rattle.ppm_plan.specs.declared.plan_item.PlanItem.{PlanItem}
use Rattle.ppm_plan.specs.Forms.{plan_form}
use Rattle.ppm_plan.specs.Refusals.{IsAccepted}
use Rattle.ppm_outcomes.specs.AsCode.{MayRun, CodeEnds, CodeNeedsMoreRoom, CodeNeedsMoreTurns}
use Rattle.ppm_stop_command.specs.CaseStopped.{ResumesStoppedCase, StoppedCasesGoOn}
use Rattle.ppm_stop_command.specs.CaseStopRows.{HasRead, WritesSaved}
use Rattle.ppm_outcomes.specs.CodeResumes.{IsLeftByCode, IsTextLeftByCode, StopsOfCodeLeaveStates, legs_of}
use Rattle.ppm_outcomes.specs.CompleteAsCode.{CodeIsEnough}
use Rattle.ppm_outcomes.specs.Completeness.{IsEnd}
use Rattle.ppm_outcomes.specs.LegsAsCode.{EndsAsCodeInAll}
use Rattle.ppm_outcomes.specs.ResumeCompleteness.{lost_with}
use Rattle.ppm_outcomes.specs.ResumeLaws.{ResumeLaws}
use Rattle.ppm_stop_command.specs.ResumeRows.{WritesArrays, WritesTrap, WritesOutOfTurns, WritesOutOfRoom, WritesBroken}
use Rattle.ppm_outcomes.specs.Resumes.{SavedState, IsTextOf, IsNoText, TextHas}
use Rattle.ppm_loading.specs.Telling.{MayBeRun}
use Rattle.ppm_outcomes.specs.Strikes.{scheduled_faults}
use Rattle.ppm_outcomes.proofs.MayRunLemmas.{may_run}
use Rattle.ppm_stop_command.proofs.OfResume.{short_behind_stop}
use Rattle.ppm_outcomes.proofs.ResumedOfCode.{resumed_ends, resumed_full, resumed_traps}
use Rattle.ppm_stop_command.proofs.StopLemmas.{same_text}
use Rattle.ppm_stop_command.proofs.StoppedLemmas.{completes_there, count_is, is_state, left_of, never_broken, room_is, saved_state}

-- what is saved of the case that was read is left by its code, if that may be resumed
pub saved_by_code : StopsOfCodeLeaveStates → (stop : StopOptions) → AreStopped stop → (schedule : List ℕ) (p : Ports) (text : List ℕ)
    (read : HasRead stop schedule p (answers.Saved text)) → MayBeRun read.2.has.code
    → IsTextLeftByCode read.2.has.code read.2.has.input (scheduled_faults read.2.items) text
saved_by_code law stop are schedule p text read may =
    let h = read.2 in
    let k = law stop are schedule h.items h.accepted h.has.code h.has.input may (answers.Saved text) h.has.has in
    subst (IsTextLeftByCode h.has.code h.has.input (scheduled_faults h.items)) (sym (same_text text k.0 k.1)) k.2

module _ (laws : ResumeLaws) (law : StopsOfCodeLeaveStates) (stop : StopOptions) (are : AreStopped stop) (schedule : List ℕ) (p : Ports)
    (w : WritesSaved stop schedule p) (sound : IsSound w.read.2.has.code w.read.2.has.input) where
  abbrev code : CodeParts
  code = w.read.2.has.code

  abbrev input : List NamedArray
  input = w.read.2.has.input

  abbrev faults : ℕ
  faults = scheduled_faults w.read.2.items

  -- a sound case may run
  may : MayRun code input
  may = may_run w.read.0 code input w.read.2.has.is sound

  -- what was written is left by its code, which has no conflict and is tidy
  text_left : IsTextLeftByCode code input faults w.text
  text_left = saved_by_code law stop are schedule p w.text w.read (record { free = sound.free; tidy = sound.tidy })

  -- it is the state after the stopped run
  saved_is : saved_state stop w.read.2.items code input (answers.Saved w.text) w.read.2.has.has.has ≡ text_left.state
  saved_is =
      let has = w.read.2.has.has.has in
      text_left.one (saved_state stop w.read.2.items code input (answers.Saved w.text) has)
      (is_state stop w.read.2.items code input (answers.Saved w.text) has w.text w.saves text_left.is.short
      (w.read_back (record { free = sound.free; tidy = sound.tidy })))

  count : text_left.state.shape.processors ≡ stop.processors
  count = count_is stop w.read.2.items code input (answers.Saved w.text) w.read.2.has.has.has text_left.state saved_is

  room : text_left.state.shape.room ≡ stop.room
  room = room_is stop w.read.2.items code input (answers.Saved w.text) w.read.2.has.has.has text_left.state saved_is

  module _ (options : ResumeOptions) (plan : List ℕ) (o : Outside) where
    -- the state that was read is left by the code
    left : (text : List ℕ) (z : SavedState) → IsTextOf text z → text ≡ w.text → IsLeftByCode code input z
    left text z is same =
        left_of code input faults w.text text_left stop.processors stop.room count z (subst (λ (l : List ℕ). IsTextOf l z) same is)

    -- and it has the sizes of the options
    state_is : (text : List ℕ) (z : SavedState) → IsTextOf text z → text ≡ w.text → z ≡ text_left.state
    state_is text z is same = text_left.one z (subst (λ (l : List ℕ). IsTextOf l z) same is)

    unbroken : AreResumed options → (b : WritesBroken options plan o) → b.read.0 ≡ w.text → ⊥
    unbroken resumed b same =
        never_broken code input faults w.text text_left stop.processors stop.room count laws.legs laws.comes may options resumed o.told_before o.told_now
        b.read.2.state (subst (λ (t : List ℕ). IsTextOf t b.read.2.state) same b.read.2.is) b.read.2.has.items b.place b.read.2.has.has

    ended : (a : WritesArrays options plan o) → a.read.0 ≡ w.text
        → CodeEnds code input (outcome.Ended a.arrays)
        × ((l : IsLeftByCode code input a.read.2.state)
        → EndsAsCodeInAll l.start (legs_of l a.read.2.has.has.start.state.words) a.read.2.has.has.run.turns code input (outcome.Ended a.arrays))
    ended a same = ((so (left a.read.0 a.read.2.state a.read.2.is same)).depth_first, so)
      where
        so : (l : IsLeftByCode code input a.read.2.state)
            → EndsAsCodeInAll l.start (legs_of l a.read.2.has.has.start.state.words) a.read.2.has.has.run.turns code input (outcome.Ended a.arrays)
        so l =
            resumed_ends laws.legs laws.comes code input may a.read.2.state l options o.told_before o.told_now a.read.2.has.items a.arrays
            a.read.2.has.has

    trapped : (k : WritesTrap options plan o) → k.read.0 ≡ w.text
        → CodeEnds code input (outcome.Trapped k.trap k.line)
        × ((l : IsLeftByCode code input k.read.2.state)
        → EndsAsCodeInAll l.start (legs_of l k.read.2.has.has.start.state.words) k.read.2.has.has.run.turns code input (outcome.Trapped k.trap k.line))
    trapped k same = ((so (left k.read.0 k.read.2.state k.read.2.is same)).depth_first, so)
      where
        so : (l : IsLeftByCode code input k.read.2.state)
            → EndsAsCodeInAll l.start (legs_of l k.read.2.has.has.start.state.words) k.read.2.has.has.run.turns code input
            (outcome.Trapped k.trap k.line)
        so l =
            resumed_traps laws.legs laws.comes code input may k.read.2.state l options o.told_before o.told_now k.read.2.has.items k.trap k.line
            k.read.2.has.has

    -- turns that are spent are too few for all faults, and one of each processor
    spent : (k : WritesOutOfTurns options plan o) → k.read.0 ≡ w.text
        → CodeNeedsMoreTurns code input (lost_with faults stop.processors k.read.2.has.items) options.turns
    spent k same =
        let is = subst (λ (t : List ℕ). IsTextOf t k.read.2.state) same k.read.2.is in
        subst (λ (n : ℕ). CodeNeedsMoreTurns code input (lost_with faults n k.read.2.has.items) options.turns)
        (ap (λ (z : SavedState). z.shape.processors) (state_is k.read.0 k.read.2.state k.read.2.is same) ∙ count)
        (short_behind_stop laws.legs laws.comes options o.told_before o.told_now k.read.2.has.items code input may faults w.text text_left k.processor
        k.read.2.state is k.read.2.has.has k.spent.1)

    full : (k : WritesOutOfRoom options plan o) → k.read.0 ≡ w.text → CodeNeedsMoreRoom code input stop.room
    full k same =
        subst (CodeNeedsMoreRoom code input) (ap (λ (z : SavedState). z.shape.room) (state_is k.read.0 k.read.2.state k.read.2.is same) ∙ room)
        (resumed_full laws.legs laws.comes code input may k.read.2.state (left k.read.0 k.read.2.state k.read.2.is same) options o.told_before o.told_now
        k.read.2.has.items k.place k.read.2.has.has).1

    completes : AreResumed options → (items : List PlanItem) → IsAccepted plan_form plan stop.processors items
        → CodeIsEnough code input (lost_with faults stop.processors items) options.turns stop.room
        → (before now : ToldLists) (answer : Answer) → TextHas options plan before now w.text answer → IsEnd answer
    completes resumed items accepted enough before now answer h =
        completes_there code input faults w.text text_left stop.processors stop.room count laws.complete may room options resumed plan items accepted enough
        before now answer h

    pub goes_on : ResumesStoppedCase w options plan o
    goes_on = record {
      left = λ text same. subst (IsTextLeftByCode code input faults) (sym same) text_left;
      accepted = λ fault same. text_left.accepted fault.0 (subst (λ (l : List ℕ). IsNoText l fault.0) same fault.1.2);
      unbroken = unbroken;
      ended = ended;
      trapped = trapped;
      spent = spent;
      full = full;
      completes = completes;
    }

pub stopped_cases_go_on : ResumeLaws → StopsOfCodeLeaveStates → StoppedCasesGoOn
stopped_cases_go_on laws law stop are schedule p w sound options plan o = goes_on laws law stop are schedule p w sound options plan o
