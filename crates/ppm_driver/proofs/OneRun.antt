-- A text has no two answers where it is run by one processor: its code begins one machine, with the one keeper of the plan, and the
-- processor has one run in which it obeys.
use Rattle.std.proofs.Common.{◌≡◌, ℕ, List, [], sym, ◌∙◌, subst}
use Rattle.ppm_text.specs.Limits.{text_limit}
use Rattle.ppm_cells.specs.declared.shape.Shape.{Shape}
use Rattle.ppm_code.specs.declared.code.CodeParts.{CodeParts}
use Rattle.ppm_core.specs.Situation.{Situation}
use Rattle.ppm_layout.specs.Correct.{ImagesAreOne}
use Rattle.ppm_plan.specs.declared.plan_item.PlanItem.{PlanItem}
use Rattle.ppm_plan.specs.Correct.{HaveOneAnswer as PlansHaveOneAnswer}
use Rattle.ppm_plan.specs.Forms.{plan_form}
use Rattle.ppm_step.specs.declared.turn.Turn.{Turn}
use Rattle.ppm_choice.specs.Laws.{HasOneRun}
use Rattle.ppm_tree.specs.Tree.{ProgramTree}
use Rattle.ppm_tree.specs.Program.{initial_arrays}
use Rattle.ppm_cut_code.specs.Routines.{code_of}
use Rattle.ppm_program.specs.Correct.{HaveOneAnswer as TextsHaveOneProgram}
use Rattle.ppm_words.specs.declared.named_array.NamedArray.{NamedArray}
use Rattle.ppm_ports.specs.Outside.{ToldLists}
use Rattle.ppm_answers.specs.declared.answer.Answer.{Answer}
use Rattle.ppm_cli.specs.declared.run.RunOptions.{RunOptions}
use Rattle.ppm_loading.specs.Loading.{OpensRun}
use Rattle.ppm_choice.specs.Obeying.{ObeyAll}
use Rattle.ppm_outcomes.specs.RunOf.{words_behind}
use Rattle.ppm_outcomes.specs.Runs.{IsSaid, plan_of, limits_of, sizes_of, CodeHas, ProgramHas, TextHas, AnswersAreOne, FrontsDecideAnswers}
use Rattle.ppm_driver.proofs.AllLemmas.{of_all}
use Rattle.ppm_loading.proofs.LoadingLemmas.{one_opening, opens_processors}
use Rattle.ppm_choice.proofs.KeeperLemmas.{one_keeper}
use Rattle.ppm_loading.proofs.PlannedLemmas.{planned_one, planned_front}
use Rattle.ppm_loading.proofs.ProgramLemmas.{text_one, text_front, plain}
use Rattle.ppm_outcomes.proofs.RunLemmas.{one_said, kinds, of_program}

-- the run of one processor, whatever its code
abbrev pub RunsAreOne : Type 0
RunsAreOne = (s : Shape) (code : CodeParts) → HasOneRun s code

-- what the crates below show of every text, every image, every plan and every run of one processor
pub record Laws : Type 0 where
  pub texts : TextsHaveOneProgram
  pub images : ImagesAreOne
  pub plans : PlansHaveOneAnswer
  pub runs : RunsAreOne

module _ (images : ImagesAreOne) (runs : RunsAreOne) (options : RunOptions) (alone : options.processors ≡ 1) (items : List PlanItem)
    (code : CodeParts) (input : List NamedArray) where
  abbrev Begins : (keeper : ℕ) → Situation → Type 0
  Begins keeper m = OpensRun (sizes_of options) code input keeper m

  abbrev Obey : Situation → List Turn → Type 0
  Obey m turns = ObeyAll (plan_of options items) (limits_of options) m.shape m.code m.state turns

  abbrev Says : Situation → List Turn → Answer → Type 0
  Says m turns a = IsSaid m.shape m.array_lengths input (words_behind m turns) a

  -- two runs in which all obey are one
  one_run : (keeper : ℕ) (start : Situation) → Begins keeper start → (first second : List Turn) → Obey start first → Obey start second
      → first ≡ second
  one_run keeper start b first second one other =
      let there = opens_processors (sizes_of options) code input keeper start b ∙ alone in
      let h = of_all (plan_of options items) (limits_of options) start.shape start.code start.state first there one in
      let k = of_all (plan_of options items) (limits_of options) start.shape start.code start.state second there other in
      runs start.shape start.code (plan_of options items) (limits_of options) 0 start.state first second h.0 k.0 h.1 k.1

  -- two answers of a code on an input by items are of one run
  pub one_made : (a b : Answer) (h : CodeHas options 0 [] [] items code input a) (k : CodeHas options 0 [] [] items code input b)
      → (k.start ≡ h.start) × (k.run.turns ≡ h.run.turns)
  one_made a b h k =
      let keeper : k.keeper ≡ h.keeper = one_keeper plan_form items k.keeper h.keeper k.spared h.spared in
      let begins : Begins h.keeper k.start = subst (λ (n : ℕ). Begins n k.start) keeper k.opens in
      let start : k.start ≡ h.start =
      sym (one_opening (sizes_of options) code input h.keeper images h.start k.start h.opens begins) in
      (start, one_run h.keeper h.start h.opens k.run.turns h.run.turns (subst (λ (m : Situation). Obey m k.run.turns) start k.run.obey) h.run.obey)

  -- and so they are one
  pub code_one : (a b : Answer) → CodeHas options 0 [] [] items code input a → CodeHas options 0 [] [] items code input b → a ≡ b
  code_one a b h k =
      let made = one_made a b h k in
      let says : Says h.start h.run.turns b =
      subst (λ (l : List Turn). Says h.start l b) made.1 (subst (λ (m : Situation). Says m k.run.turns b) made.0 k.run.says) in
      one_said h.start.shape h.start.array_lengths (words_behind h.start h.run.turns) input a b h.run.says says

-- this holds with all plans
pub answers_are_one : Laws → AnswersAreOne
answers_are_one laws options plan alone =
    planned_one plan_form plan options.processors (TextHas options 0 [] []) text_limit laws.plans.plans
    (λ items. text_one (ProgramHas options 0 [] [] items) laws.texts
    (λ t. code_one laws.images laws.runs options alone items (code_of t) (initial_arrays t)))

-- and a text that is too long has a front with its answer
pub fronts_decide : TextsHaveOneProgram → FrontsDecideAnswers
fronts_decide texts options watching before now plan =
    planned_front plan_form plan options.processors (TextHas options watching before now) text_limit
    (λ items. plain (ProgramHas options watching before now items) (kinds options.processors) (of_program options watching before now items))
    (λ items. text_front (ProgramHas options watching before now items) texts)
