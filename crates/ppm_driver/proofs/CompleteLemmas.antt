-- Where turns and room are enough no other answer is left but that the run ended: each of the others says that they are not, or never comes.
use Rattle.std.proofs.Common.{◌≡◌, ◌≤◌, ◌<◌, ℕ, ◌+◌, ◌*◌, List, sym, subst, arith}
use Rattle.ppm_ports.specs.Outside.{ToldLists}
use Rattle.ppm_tree.specs.Tree.{ProgramTree}
use Rattle.ppm_tree.specs.Program.{initial_arrays}
use Rattle.ppm_cut_code.specs.Routines.{code_of}
use Rattle.ppm_program.specs.Programs.{HasProgram}
use Rattle.ppm_program.specs.Correct.{HaveOneAnswer as TextsHaveOneProgram}
use Rattle.ppm_plan.specs.declared.plan_item.PlanItem.{PlanItem}
use Rattle.ppm_plan.specs.Correct.{HaveOneAnswer as PlansHaveOneAnswer}
use Rattle.ppm_plan.specs.Forms.{plan_form}
use Rattle.ppm_plan.specs.Refusals.{IsAccepted}
use Rattle.ppm_answers.specs.declared.answer.Answer.{Answer}
use Rattle.ppm_answers.specs.declared.answer.Answer.TheVariants as answers
use Rattle.ppm_cli.specs.declared.run.RunOptions.{RunOptions}
use Rattle.ppm_cli.specs.Words.{AreRun}
use Rattle.ppm_loading.specs.Planned.{PlannedHas}
use Rattle.ppm_outcomes.specs.Meant.{NeedsMoreRoom, NeedsMoreTurns, undone_in, RunsAreAsPrograms}
use Rattle.ppm_outcomes.specs.Runs.{ProgramHas, TextHas, plan_of, limits_of}
use Rattle.ppm_outcomes.specs.Strikes.{fault_count}
use Rattle.ppm_outcomes.specs.Completeness.{IsEnough, IsEnd, RunsComplete}
use Rattle.ppm_outcomes.proofs.MeantRows.{run_needs, run_needs_turns, run_unbroken}
use Rattle.ppm_outcomes.proofs.RunLemmas.{of_program, spent_has}
use Rattle.ppm_outcomes.proofs.StrikeLemmas.{undone_are_planned}

-- what the crates below show of every text, every plan and every run
pub record Laws : Type 0 where
  pub runs : RunsAreAsPrograms
  pub plans : PlansHaveOneAnswer
  pub texts : TextsHaveOneProgram

-- enough turns are not too few, also where fewer faults undo work
pub not_few : (t : ProgramTree) (faults undone turns room : ℕ) → undone ≤ faults → IsEnough t faults turns room → NeedsMoreTurns t undone turns → ⊥
not_few t faults undone turns room less enough needs =
    let few = needs enough.end enough.comes in let some = enough.for_turns in omega (arith, few, some, less)

module _ (laws : Laws) (options : RunOptions) (are : AreRun options) (plan : List ℕ) (items : List PlanItem)
    (accepted : IsAccepted plan_form plan options.processors items) (text : List ℕ) (t : ProgramTree) (has : HasProgram text t)
    (enough : IsEnough t (fault_count items) options.turns options.room) (watching : ℕ) (before now : ToldLists) where
  -- enough room is not too little
  not_little : NeedsMoreRoom t options.room → ⊥
  not_little needs =
      let more = needs.depth_first enough.end enough.comes in let some = enough.for_room in omega (arith, more, some)

  -- the text has one program, and the plan has one list of items
  same_tree : (u : ProgramTree) → HasProgram text u → u ≡ t
  same_tree u other = (laws.texts text).program u t other has

  same_items : (others : List PlanItem) → IsAccepted plan_form plan options.processors others → others ≡ items
  same_items others also = laws.plans.plans.items plan others items also.has accepted.has

  ends : (a : Answer) → PlannedHas plan_form plan options.processors (TextHas options watching before now) text a → IsEnd a
  ends (answers.PlanRefused number) h = absurd (laws.plans.plans.apart plan options.processors items h.error h.of_text accepted h.refused)
  ends (answers.SourceRefused r) h = absurd ((laws.texts text).either r h.has t has)
  ends (answers.Ended arrays) h = tt
  ends (answers.Trapped trap line) h = tt
  ends (answers.OutOfTurns c) h =
      let p : ProgramHas options watching before now h.items h.has.0 (answers.OutOfTurns c) = h.has.2 in
      let spent = spent_has options watching before now h.items (code_of h.has.0) (initial_arrays h.has.0) c p in
      let needs = run_needs_turns laws.runs text h.has.0 h.has.1 options watching before now h.items c p spent.1 in
      let less = undone_are_planned (plan_of options h.items) (limits_of options) p.start p.run.turns p.run.obey in
      let counted : undone_in p.start p.run.turns ≤ fault_count items =
      subst (λ (l : List PlanItem). undone_in p.start p.run.turns ≤ fault_count l) (same_items h.items h.accepted) less in
      absurd (not_few t (fault_count items) (undone_in p.start p.run.turns) options.turns options.room counted enough
      (subst (λ (u : ProgramTree). NeedsMoreTurns u (undone_in p.start p.run.turns) options.turns) (same_tree h.has.0 h.has.1) needs))
  ends (answers.OutOfRoom place) h =
      absurd (not_little (subst (λ (u : ProgramTree). NeedsMoreRoom u options.room) (same_tree h.has.0 h.has.1)
      (run_needs laws.runs text h.has.0 h.has.1 options watching before now h.items place h.has.2)))
  ends (answers.Broken place) h =
      absurd (run_unbroken laws.runs text h.has.0 h.has.1 options watching before now h.items are place h.has.2)
  ends a h = absurd (of_program options watching before now h.items h.has.0 a h.has.2)

-- this holds with all options and plans
pub runs_complete : Laws → RunsComplete
runs_complete laws options are plan items accepted text t has enough watching before now a h =
    ends laws options are plan items accepted text t has enough watching before now a h
