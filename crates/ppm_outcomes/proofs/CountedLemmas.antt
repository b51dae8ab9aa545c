-- The answers that codes and programs have where what is counted in a run is told.
use Rattle.std.proofs.Common.{◌≡◌, ◌∙◌, ℕ, List, [], Option, sym, ap, subst}
use Rattle.ppm_words.specs.declared.event.Event.{Event}
use Rattle.ppm_words.specs.declared.named_array.NamedArray.{NamedArray}
use Rattle.ppm_cells.specs.declared.shape.Shape.{Shape}
use Rattle.ppm_code.specs.Code.{IsCode}
use Rattle.ppm_code.specs.declared.code.CodeParts.{CodeParts}
use Rattle.ppm_core.specs.Situation.{Situation}
use Rattle.ppm_plan.specs.declared.plan_item.PlanItem.{PlanItem}
use Rattle.ppm_plan.specs.Forms.{plan_form}
use Rattle.ppm_plan.specs.Refusals.{IsKeeper}
use Rattle.ppm_plan.specs.Schedules.{Planned}
use Rattle.ppm_step.specs.declared.turn.Turn.{Turn}
use Rattle.ppm_choice.specs.declared.limits.Limits.{Limits}
use Rattle.ppm_choice.specs.Obeying.{ObeyAll}
use Rattle.ppm_tree.specs.Tree.{ProgramTree}
use Rattle.ppm_tree.specs.Program.{initial_arrays}
use Rattle.ppm_cut_code.specs.Routines.{code_of}
use Rattle.ppm_answers.specs.declared.answer.Answer.{Answer}
use Rattle.ppm_answers.specs.declared.answer.Answer.TheVariants as answers
use Rattle.ppm_answers.specs.declared.ran.Ran.{Ran}
use Rattle.ppm_answers.specs.declared.run_counts.RunCounts.{RunCounts}
use Rattle.ppm_cli.specs.declared.run.RunOptions.{RunOptions}
use Rattle.ppm_loading.specs.declared.loading.Sizes.{Sizes}
use Rattle.ppm_loading.specs.Loading.{OpensRun, opened_by}
use Rattle.ppm_loading.specs.Says.{IsTheOne}
use Rattle.ppm_loading.proofs.CaseLemmas.{AreCaseKinds}
use Rattle.ppm_loading.proofs.ProgramLemmas.{AreKinds}
use Rattle.ppm_table.specs.declared.act_counts.ActCounts.{ActCounts}
use Rattle.ppm_table.specs.declared.processor.Shared.{Shared}
use Rattle.ppm_table.specs.Closed.{Closing}
use Rattle.ppm_table.specs.Counting.{TellsTurns}
use Rattle.ppm_table.specs.Shown.{opening_of}
use Rattle.ppm_threads.specs.Driven.{DrivenCounted}
use Rattle.ppm_outcomes.specs.CountedRuns.{answer_of, CodeHas, ProgramHas}
use Rattle.ppm_outcomes.specs.RunCounts.{counts_told, made_counts}
use Rattle.ppm_outcomes.specs.RunOf.{words_behind}
use Rattle.ppm_outcomes.specs.Runs.{plan_of, limits_of, sizes_of, IsSaid}
use Rattle.ppm_outcomes.specs.Runs as plain
use Rattle.ppm_outcomes.specs.Strikes.{fault_count}
use Rattle.ppm_outcomes.proofs.EndLemmas.{unset_opened, has_finished}
use Rattle.ppm_outcomes.proofs.RunLemmas.{same_plan, some_said, untold}

-- the answers that a code has where its counts are told
abbrev pub IsOfCode : Answer → Type 0
IsOfCode (answers.RanWith r counts) = Unit {0}
IsOfCode _ = ⊥

pub kinds : AreKinds IsOfCode
kinds = record { no_refusal = λ r k. k; no_fault = λ k. k; no_memory = λ k. k; no_plan = λ number k. k }

pub case_kinds : AreCaseKinds IsOfCode
case_kinds = record { no_input = λ r k. k; no_listing = λ r k. k; no_fault = λ k. k; no_memory = λ k. k; no_plan = λ number k. k }

module _ (options : RunOptions) (items : List PlanItem) where
  -- an answer of a code is of no other kind
  pub of_code : (code : CodeParts) (input : List NamedArray) (a : Answer) → CodeHas options items code input a → IsOfCode a
  of_code code input (answers.RanWith r counts) h = tt
  of_code code input a h = h

  -- nor is one of a program
  pub of_program : (t : ProgramTree) (a : Answer) → ProgramHas options items t a → IsOfCode a
  of_program t a h = of_code (code_of t) (initial_arrays t) a h

-- what is said after the run of a table, and what was counted in it
module _ {W : Type 0} (told : W → Option (List Event)) (options : RunOptions) (plan : Planned) (code : CodeParts) (input : List NamedArray)
    (sizes : Sizes) (limits : Limits) (keeper : ℕ) (shared : Shared) (old new : List W) (sizes_are : sizes ≡ sizes_of options)
    (limits_are : limits ≡ limits_of options) (same : plan.processors ≡ options.processors) (spared : IsKeeper plan_form plan.items keeper)
    (opens : OpensRun sizes code input keeper (opened_by shared)) (is : IsCode code) (words : List ℕ) (acts : ActCounts)
    (d : DrivenCounted told plan limits (opening_of shared) words acts old new) where
  abbrev m : Situation
  m = opened_by shared

  abbrev turns : List Turn
  turns = d.driven.turns

  begins : OpensRun (sizes_of options) code input keeper m
  begins = subst (λ (z : Sizes). OpensRun z code input keeper m) sizes_are opens

  obey : ObeyAll (plan_of options plan.items) (limits_of options) m.shape m.code m.state turns
  obey =
      subst (λ (p : Planned). ObeyAll p (limits_of options) m.shape m.code m.state turns) (same_plan options plan same)
      (subst (λ (l : Limits). ObeyAll plan l m.shape m.code m.state turns) limits_are d.driven.obey)

  -- such an answer is that of a code
  abbrev has_said : (a : Answer) → IsSaid m.shape m.array_lengths input (words_behind m turns) a
      → plain.CodeHas options 0 [] [] plan.items code input a
  has_said a says = record {
    keeper = keeper;
    spared = spared;
    start = m;
    opens = begins;
    run = record {
      turns = turns;
      obey = obey;
      finished = has_finished (sizes_of options) code input keeper (plan_of options plan.items) (limits_of options) m turns begins is spared obey;
      told = untold options 0 [] [] plan.items code input m turns;
      says = says;
    };
  }

  -- the one that is said of the words is said
  the_one : (a : Answer) → IsTheOne (IsSaid m.shape m.array_lengths input (words_behind m turns)) a
      → IsSaid m.shape m.array_lengths input (words_behind m turns) a
  the_one a only =
      let finished = has_finished (sizes_of options) code input keeper (plan_of options plan.items) (limits_of options) m turns begins is spared obey in
      let some = some_said (limits_of options) m (unset_opened (sizes_of options) code input keeper m begins) turns input finished in
      subst (IsSaid m.shape m.array_lengths input (words_behind m turns)) (sym (only some.0 some.1)) some.1

  -- its answer is the one that is said of the words, and its counts are those of its turns
  pub code_counted : (closed : Closing) (arrays : List NamedArray) (r : Ran) (counts : RunCounts) → closed.words ≡ words
      → closed.shape ≡ (opening_of shared).shape → closed.array_lengths ≡ shared.lengths → arrays ≡ input
      → IsTheOne (IsSaid closed.shape closed.array_lengths arrays closed.words) (answer_of r)
      → counts ≡ counts_told acts (fault_count plan.items) closed.shape closed.words → CodeHas options plan.items code input (answers.RanWith r counts)
  code_counted closed arrays r counts words_are shape lengths arrays_are only counted =
      let a = answer_of r in
      let said = subst (λ (l : List NamedArray). IsTheOne (IsSaid m.shape m.array_lengths l (words_behind m turns)) a) arrays_are
      (subst (λ (ws : List ℕ). IsTheOne (IsSaid m.shape m.array_lengths arrays ws) a) (words_are ∙ sym d.driven.words_are)
      (subst (λ (n : List ℕ). IsTheOne (IsSaid m.shape n arrays closed.words) a) lengths
      (subst (λ (s : Shape). IsTheOne (IsSaid s closed.array_lengths arrays closed.words) a) shape only))) in
      let faults = fault_count plan.items in
      let are : counts ≡ made_counts faults m turns =
      counted ∙ ap (λ (s : Shape). counts_told acts faults s closed.words) shape
      ∙ ap (λ (ws : List ℕ). counts_told acts faults m.shape ws) (words_are ∙ sym d.driven.words_are)
      ∙ ap (λ (n : ActCounts). counts_told n faults m.shape (words_behind m turns)) d.counted in
      let numbers = subst (λ (n : ActCounts). TellsTurns (opening_of shared) turns n) d.counted d.numbers in
      record { has = has_said a (the_one a said); counted = record { are = are; numbers = numbers } }
