-- Over legs too each cause of the finish word but an outcome says that turns or room are not enough; and where it stood there before, it is no limit.
use Rattle.std.proofs.Common.{◌≡◌, ◌≢◌, ◌≤◌, ◌<◌, ℕ, ◌+◌, ◌^◌, List, [], ◌∷◌, length, Option, Some, None, refl, sym, ◌∙◌, subst, arith}
use Rattle.std.proofs.lemmas.List.Elements.{recursion_from_All}
use Rattle.ppm_words.specs.declared.named_array.NamedArray.{NamedArray}
use Rattle.ppm_words.specs.declared.outcome.Outcome.{Outcome}
use Rattle.ppm_words.specs.declared.outcome.Outcome.TheVariants as outcome
use Rattle.ppm_cells.specs.Finish.{finish_of, finish_word, IsFinish}
use Rattle.ppm_cells.specs.Memory.{read, AreWordsOf}
use Rattle.ppm_cells.specs.declared.cell.Cell.TheVariants.{FinishWord}
use Rattle.ppm_cells.specs.declared.finish.Finish.{Finish}
use Rattle.ppm_cells.specs.declared.finish.Finish.TheVariants as finishes
use Rattle.ppm_cells.specs.declared.shape.Takeover.TheVariants.{ByPlaces}
use Rattle.ppm_cells.proofs.ExactLemmas.{pack-unpack, unpack-pack}
use Rattle.ppm_cells.proofs.FinishLemmas.{finishes_exact}
use Rattle.ppm_code.specs.Code.{IsCode}
use Rattle.ppm_code.specs.declared.code.CodeParts.{CodeParts}
use Rattle.ppm_plan.specs.Forms.{plan_form}
use Rattle.ppm_plan.specs.Refusals.{IsKeeper}
use Rattle.ppm_plan.specs.Schedules.{Planned}
use Rattle.ppm_step.specs.Among.{IsTurnAmong}
use Rattle.ppm_step.specs.Laws.{IsProposed}
use Rattle.ppm_step.specs.State.{State}
use Rattle.ppm_step.specs.declared.turn.Turn.{Turn}
use Rattle.ppm_runs.specs.Legs.{Leg, AreLegs, state_then}
use Rattle.ppm_saved.specs.Renewal.{finish_behind as renewed_finish}
use Rattle.ppm_core.specs.Situation.{Situation, loaded}
use Rattle.ppm_choice.specs.Finishes.{Finishes, Proposed, Spent, Stood}
use Rattle.ppm_choice.specs.Obeying.{ObeyAll}
use Rattle.ppm_choice.specs.declared.limits.Limits.{Limits}
use Rattle.ppm_choice.proofs.EndLemmas.{runs_finish}
use Rattle.ppm_loading.specs.declared.loading.Sizes.{Sizes}
use Rattle.ppm_loading.specs.Loading.{OpensRun}
use Rattle.ppm_loading.proofs.LoadingLemmas.{opens_room}
use Rattle.ppm_loading.proofs.SayLemmas.{unset_is}
use Rattle.ppm_outcomes.specs.AsCode.{MayRun}
use Rattle.ppm_outcomes.specs.CompleteAsCode.{CodeIsEnough}
use Rattle.ppm_stop_command.specs.CompleteLegsAsCode.{FreshFindNoLimit, IsLimit, words_back, lost_before, SaysOutcomeAtLast, RunsOfCodeCompleteInLegs}
use Rattle.ppm_outcomes.specs.Legs.{finish_at_last, worked_in_all, lost_in_all}
use Rattle.ppm_outcomes.specs.LegsAsCode.{EndsAsCodeInAll, IsAsCodeInAll, RunsInLegsAreAsCode}
use Rattle.ppm_outcomes.specs.Strikes.{fault_count}
use Rattle.ppm_outcomes.proofs.EndLemmas.{words_opened}
use Rattle.ppm_outcomes.proofs.StrikeLemmas.{strikes_are_planned}
use Rattle.ppm_outcomes.proofs.WorkLemmas.{of_all}

-- a finish that is neither none nor a limit
abbrev IsFirm : Finish → Type 0
IsFirm finishes.Unset = ⊥
IsFirm (finishes.OutOfTurns processor) = ⊥
IsFirm finishes.Stopped = ⊥
IsFirm v = Unit {0}

proposed_firm : (n : ℕ) (v : Finish) → IsProposed n v → IsFirm v
proposed_firm n finishes.Ended p = tt
proposed_firm n (finishes.Trapped trap line) p = tt
proposed_firm n (finishes.OutOfRoom place) p = tt
proposed_firm n (finishes.Broken place) p = tt
proposed_firm n (finishes.OutOfTurns processor) p = p
proposed_firm n finishes.Stopped p = p
proposed_firm n finishes.Unset p = p

-- a word that isn't 0 and no limit
stood_firm : (w : ℕ) → w ≢ 0 → (IsLimit (finish_of w) → ⊥) → (v : Finish) → finish_of w ≡ Some v → IsFirm v
stood_firm w some free finishes.Ended e = tt
stood_firm w some free (finishes.Trapped trap line) e = tt
stood_firm w some free (finishes.OutOfRoom place) e = tt
stood_firm w some free (finishes.Broken place) e = tt
stood_firm w some free (finishes.OutOfTurns processor) e = free (subst IsLimit (sym e) tt)
stood_firm w some free finishes.Stopped e = free (subst IsLimit (sym e) tt)
stood_firm w some free finishes.Unset e =
    some (sym (pack-unpack finish_word IsFinish finish_of finishes_exact w finishes.Unset e) ∙ unset_is)

-- no limit is left for fresh processors
no_limit : IsLimit (finish_of 0) → ⊥
no_limit l =
    subst IsLimit (subst (λ (w : ℕ). finish_of w ≡ Some finishes.Unset) unset_is (unpack-pack finish_word IsFinish finish_of finishes_exact finishes.Unset tt)) l

fresh_free : (f : Option Finish) (w : ℕ) → finish_of w ≡ f → IsLimit (finish_of (renewed_finish f w)) → ⊥
fresh_free None w e l = subst IsLimit e l
fresh_free (Some finishes.Unset) w e l = subst IsLimit e l
fresh_free (Some finishes.Ended) w e l = subst IsLimit e l
fresh_free (Some (finishes.Trapped trap line)) w e l = subst IsLimit e l
fresh_free (Some (finishes.OutOfRoom place)) w e l = subst IsLimit e l
fresh_free (Some (finishes.Broken place)) w e l = subst IsLimit e l
fresh_free (Some (finishes.OutOfTurns processor)) w e l = no_limit l
fresh_free (Some finishes.Stopped) w e l = no_limit l

pub fresh_find_no_limit : FreshFindNoLimit
fresh_find_no_limit s saved words renewed l =
    fresh_free (finish_of (read s saved FinishWord)) (read s saved FinishWord) refl
    (subst (λ (w : ℕ). IsLimit (finish_of w)) (renewed.cells FinishWord tt) l)

-- what isn't none is some finish
finish_there : (f : Option Finish) → f ≢ None → (v : Finish) × (f ≡ Some v)
finish_there None some = absurd (some refl)
finish_there (Some v) some = (v, refl)

module _ (law : RunsInLegsAreAsCode) (code : CodeParts) (input : List NamedArray) (may : MayRun code input) (sizes : Sizes)
    (places : sizes.takeover ≡ ByPlaces) (keeper : ℕ) (m : Situation) (b : OpensRun sizes code input keeper m) where
  code_is : IsCode m.code
  code_is = subst (λ (x : Situation). IsCode x.code) (sym b.loads) may.code_is

  fit : (legs : List Leg) → AreLegs m.shape m.code m.state.words legs → AreWordsOf m.shape (words_back m legs)
  fit [] are = subst (λ (x : Situation). AreWordsOf x.shape x.state.words) (sym b.loads) (words_opened sizes code input keeper m b)
  fit (leg ∷ legs) are = are.2.renewal.fit

  module _ (legs : List Leg) (are : AreLegs m.shape m.code m.state.words legs) (low : length legs ≤ 2 ^ 50)
      (free : IsLimit (finish_of (read m.shape (words_back m legs) FinishWord)) → ⊥)
      (plan : Planned) (spared : ℕ) (spares : IsKeeper plan_form plan.items spared) (there : spared < m.shape.processors)
      (limits : Limits) (most : limits.turns ≤ 2 ^ 34)
      (enough : CodeIsEnough code input (lost_before m legs + fault_count plan.items) limits.turns sizes.room)
      (turns : List Turn) (obey : ObeyAll plan limits m.shape m.code (state_then m.shape m.code m.state.words legs) turns) where
    abbrev Completes : Type 0
    Completes = (o : Outcome) × SaysOutcomeAtLast m legs turns input o × EndsAsCodeInAll m legs turns code input o

    abbrev begun : State
    begun = state_then m.shape m.code m.state.words legs

    abbrev word : ℕ
    word = finish_at_last m legs turns

    is : IsAsCodeInAll m legs turns code input
    is = law code input may sizes places keeper m b legs are turns (recursion_from_All (IsTurnAmong m.shape.processors) turns obey.among)

    -- all work turns are fewer than those that one processor may make
    few_works : worked_in_all m legs turns < limits.turns
    few_works =
        let less = is.work enough.end enough.comes in
        let some = enough.for_turns in
        let counted = strikes_are_planned plan limits (loaded m.shape m.code m.array_lengths (words_back m legs)) turns obey in
        let lost : lost_in_all m legs turns ≤ lost_before m legs + fault_count plan.items = omega (arith, counted) in
        omega (arith, less, some, lost)

    by_finish : (v : Finish) → IsFirm v → finish_of word ≡ Some v → Completes
    by_finish finishes.Ended p says = (outcome.Ended _, (says, refl), is.ended says)
    by_finish (finishes.Trapped trap line) p says = (outcome.Trapped trap line, says, is.trapped trap line says)
    by_finish (finishes.OutOfRoom place) p says =
        let more = (is.full place says).1 enough.end enough.comes in
        let some = enough.for_room in
        let room = opens_room sizes code input keeper m b in
        absurd (omega (arith, more, some, room))
    by_finish (finishes.Broken place) p says =
        let much = is.unbroken low place says in let few = few_works in absurd (omega (arith, much, few, most))
    by_finish (finishes.OutOfTurns processor) p says = absurd p
    by_finish finishes.Stopped p says = absurd p
    by_finish finishes.Unset p says = absurd p

    by_cause : Finishes m.shape m.code limits begun turns word → Completes
    by_cause (Proposed w filled) = by_finish w.finish (proposed_firm m.shape.processors w.finish w.is_proposed) w.stands
    by_cause (Spent c in_range says made) =
        let mine = of_all m.shape m.code c begun turns in let few = few_works in absurd (omega (arith, mine, made, few))
    by_cause (Stood same some) =
        let v = finish_there (finish_of word) is.stands in
        by_finish v.0 (stood_firm word some (subst (λ (w : ℕ). IsLimit (finish_of w) → ⊥) (sym same) free) v.0 v.1) v.1

    completes : Completes
    completes = by_cause (runs_finish m.shape m.code code_is plan limits spared (words_back m legs) turns (fit legs are) spares there obey).1

-- this holds with all sound codes, legs, plans and limits
pub runs_of_code_complete_in_legs : RunsInLegsAreAsCode → RunsOfCodeCompleteInLegs
runs_of_code_complete_in_legs law code input may sizes places keeper m b legs are low free plan spared spares there limits most enough turns obey =
    completes law code input may sizes places keeper m b legs are low free plan spared spares there limits most enough turns obey
