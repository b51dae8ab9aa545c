-- Where turns and room are enough each cause of the finish word but an outcome says that they are not.
use Rattle.std.proofs.Common.{◌≡◌, ◌≤◌, ◌<◌, ℕ, ◌^◌, List, Some, refl, ◌∙◌, arith}
use Rattle.std.proofs.lemmas.List.Elements.{recursion_from_All}
use Rattle.ppm_words.specs.declared.named_array.NamedArray.{NamedArray}
use Rattle.ppm_words.specs.declared.outcome.Outcome.{Outcome}
use Rattle.ppm_words.specs.declared.outcome.Outcome.TheVariants as outcome
use Rattle.ppm_cells.specs.Finish.{finish_of}
use Rattle.ppm_cells.specs.declared.finish.Finish.{Finish}
use Rattle.ppm_cells.specs.declared.finish.Finish.TheVariants as finishes
use Rattle.ppm_code.specs.declared.code.CodeParts.{CodeParts}
use Rattle.ppm_plan.specs.Forms.{plan_form}
use Rattle.ppm_plan.specs.Refusals.{IsKeeper}
use Rattle.ppm_plan.specs.Schedules.{Planned}
use Rattle.ppm_step.specs.Among.{IsTurnAmong}
use Rattle.ppm_step.specs.Laws.{IsProposed}
use Rattle.ppm_step.specs.declared.turn.Turn.{Turn}
use Rattle.ppm_core.specs.Situation.{Situation}
use Rattle.ppm_choice.specs.Finishes.{Finishes, Proposed, Spent, Stood}
use Rattle.ppm_choice.specs.Obeying.{ObeyAll}
use Rattle.ppm_choice.specs.declared.limits.Limits.{Limits}
use Rattle.ppm_loading.specs.declared.loading.Sizes.{Sizes}
use Rattle.ppm_loading.specs.Loading.{OpensRun}
use Rattle.ppm_loading.proofs.LoadingLemmas.{opens_room}
use Rattle.ppm_outcomes.specs.AsCode.{MayRun, EndsAsCode, IsAsCode, RunsAreAsCode}
use Rattle.ppm_outcomes.specs.CompleteAsCode.{CodeIsEnough, SaysOutcome, RunsOfCodeComplete}
use Rattle.ppm_outcomes.specs.Meant.{worked_in}
use Rattle.ppm_outcomes.specs.RunOf.{finish_behind}
use Rattle.ppm_outcomes.specs.Strikes.{fault_count}
use Rattle.ppm_outcomes.proofs.EndLemmas.{unset_opened, has_finished}
use Rattle.ppm_outcomes.proofs.StrikeLemmas.{undone_are_planned}
use Rattle.ppm_outcomes.proofs.WorkLemmas.{of_all}

module _ (law : RunsAreAsCode) (code : CodeParts) (input : List NamedArray) (may : MayRun code input) (sizes : Sizes) (keeper : ℕ) (m : Situation)
    (b : OpensRun sizes code input keeper m) (plan : Planned) (spared : IsKeeper plan_form plan.items keeper) (limits : Limits)
    (most : limits.turns ≤ 2 ^ 34) (enough : CodeIsEnough code input (fault_count plan.items) limits.turns sizes.room)
    (turns : List Turn) (obey : ObeyAll plan limits m.shape m.code m.state turns) where
  abbrev Completes : Type 0
  Completes = (o : Outcome) × SaysOutcome m turns input o × EndsAsCode m turns code input o

  is : IsAsCode m turns code input
  is = law code input may sizes keeper m b turns (recursion_from_All (IsTurnAmong m.shape.processors) turns obey.among)

  -- all work turns are fewer than those that one processor may make
  few_works : worked_in m turns < limits.turns
  few_works =
      let less = is.work enough.end enough.comes in
      let some = enough.for_turns in
      let counted = undone_are_planned plan limits m turns obey in
      omega (arith, less, some, counted)

  by_finish : (v : Finish) → IsProposed m.shape.processors v → finish_of (finish_behind m turns) ≡ Some v → Completes
  by_finish finishes.Ended p says = (outcome.Ended _, (says, refl), is.ended says)
  by_finish (finishes.Trapped trap line) p says = (outcome.Trapped trap line, says, is.trapped trap line says)
  by_finish (finishes.OutOfRoom place) p says =
      let more = (is.full place says).1 enough.end enough.comes in
      let some = enough.for_room in
      let room = opens_room sizes code input keeper m b in
      absurd (omega (arith, more, some, room))
  by_finish (finishes.Broken place) p says = let much = is.unbroken place says in let few = few_works in absurd (omega (arith, much, few, most))
  by_finish (finishes.OutOfTurns processor) p says = absurd p
  by_finish finishes.Stopped p says = absurd p
  by_finish finishes.Unset p says = absurd p

  by_cause : Finishes m.shape m.code limits m.state turns (finish_behind m turns) → Completes
  by_cause (Proposed w filled) = by_finish w.finish w.is_proposed w.stands
  by_cause (Spent c there says made) =
      let mine = of_all m.shape m.code c m.state turns in let few = few_works in absurd (omega (arith, mine, made, few))
  by_cause (Stood same some) = absurd (some (same ∙ unset_opened sizes code input keeper m b))

  completes : Completes
  completes = by_cause (has_finished sizes code input keeper plan limits m turns b may.code_is spared obey)

-- this holds with all sound codes, plans and limits
pub runs_of_code_complete : RunsAreAsCode → RunsOfCodeComplete
runs_of_code_complete law code input may sizes keeper m b plan spared limits most enough turns obey =
    completes law code input may sizes keeper m b plan spared limits most enough turns obey
