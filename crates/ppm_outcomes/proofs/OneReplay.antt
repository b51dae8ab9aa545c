-- A text has one answer where it is replayed: its program begins one run, with the one keeper of the schedule.
use Rattle.std.proofs.Common.{◌≡◌, ℕ, List, [], length, sym, subst}
use Rattle.ppm_text.specs.Limits.{text_limit}
use Rattle.ppm_code.specs.declared.code.CodeParts.{CodeParts}
use Rattle.ppm_words.specs.declared.named_array.NamedArray.{NamedArray}
use Rattle.ppm_core.specs.Situation.{Situation}
use Rattle.ppm_layout.specs.Correct.{ImagesAreOne}
use Rattle.ppm_plan.specs.declared.schedule_item.ScheduleItem.{ScheduleItem}
use Rattle.ppm_plan.specs.Correct.{HaveOneAnswer as PlansHaveOneAnswer}
use Rattle.ppm_choice.proofs.KeeperLemmas.{one_keeper}
use Rattle.ppm_plan.specs.Forms.{schedule_form}
use Rattle.ppm_plan.specs.Refusals.{IsAccepted}
use Rattle.ppm_tree.specs.Tree.{ProgramTree}
use Rattle.ppm_tree.specs.Program.{initial_arrays}
use Rattle.ppm_rows.specs.Correct.{TreesAreWithin}
use Rattle.ppm_code.specs.Code.{IsCode}
use Rattle.ppm_cut_code.specs.Correct.{KeepsTheRules}
use Rattle.ppm_cut_code.specs.Routines.{code_of}
use Rattle.ppm_words.specs.Inputs.{IsInput}
use Rattle.ppm_regions.proofs.Inputs.{input_fits}
use Rattle.ppm_program.specs.Programs.{HasProgram}
use Rattle.ppm_program.proofs.WithinLemmas.{tree_within}
use Rattle.ppm_program.specs.Refusals.{IsRefusal}
use Rattle.ppm_program.specs.Correct.{HaveOneAnswer as TextsHaveOneProgram}
use Rattle.ppm_answers.specs.declared.refusal.Refusal.{Refusal}
use Rattle.ppm_answers.specs.declared.answer.Answer.{Answer}
use Rattle.ppm_cli.specs.declared.replay.ReplayOptions.{ReplayOptions}
use Rattle.ppm_cli.specs.Words.{AreReplayed}
use Rattle.ppm_loading.specs.Loading.{OpensRun}
use Rattle.ppm_following.specs.Followed.{followed}
use Rattle.ppm_outcomes.specs.Replays.{sizes_of, IsSaid, CodeHas, ProgramHas, TextHas, HaveOneAnswer}
use Rattle.ppm_loading.proofs.LoadingLemmas.{one_opening, some_opening}
use Rattle.ppm_loading.proofs.PlannedLemmas.{IsSteady, planned_one, planned_front, some_answer}
use Rattle.ppm_loading.proofs.ProgramLemmas.{text_one, text_front, of_text, plain}
use Rattle.ppm_outcomes.proofs.ReplayLemmas.{replayed_sizes, kinds, of_program, one_said, some_has}

-- what the crates below show of every text, every code, every image and every schedule
pub record Laws : Type 0 where
  pub texts : TextsHaveOneProgram
  pub within : TreesAreWithin
  pub rules : KeepsTheRules
  pub images : ImagesAreOne
  pub plans : PlansHaveOneAnswer

-- no answer by items is that a schedule is refused
pub steady : (options : ReplayOptions) → IsSteady schedule_form [] options.processors (TextHas options) text_limit
steady options items text number =
    plain (ProgramHas options items) (kinds options.processors options.turns) (of_program options items) text number

-- a code has one answer on an input by items
pub code_one : ImagesAreOne → (options : ReplayOptions) (items : List ScheduleItem) (code : CodeParts) (input : List NamedArray) (a b : Answer)
    → CodeHas options items code input a → CodeHas options items code input b → a ≡ b
code_one images options items code input a b h k =
    let keeper : k.keeper ≡ h.keeper = one_keeper schedule_form items k.keeper h.keeper k.spared h.spared in
    let begins = subst (λ (n : ℕ). OpensRun (sizes_of options) code input n k.start) keeper k.opens in
    let start : h.start ≡ k.start = one_opening (sizes_of options) code input h.keeper images h.start k.start h.opens begins in
    one_said options.processors options.turns (followed h.start items options.turns) input a b h.says
    (subst (λ (m : Situation). IsSaid options.turns (followed m items options.turns) input b) (sym start) k.says)

module _ (laws : Laws) (options : ReplayOptions) where
  -- a text that is not refused has an answer by items that may be obeyed
  some : AreReplayed options → (schedule : List ℕ) (items : List ScheduleItem) (text : List ℕ)
      → IsAccepted schedule_form schedule options.processors items → ((r : Refusal) → ¬ IsRefusal text r)
      → (a : Answer) × TextHas options items text a
  some are schedule items text accepted free =
      let has : (t : ProgramTree) × HasProgram text t = (laws.texts text).none free in
      let within = tree_within laws.within text has.0 has.1.admitted.tree in
      let fits : IsInput (initial_arrays has.0) = input_fits has.0 within has.1.admitted.admitted in
      let m = some_opening (sizes_of options) (code_of has.0) (initial_arrays has.0) accepted.keeper (replayed_sizes options are)
      accepted.obeyed.below fits in
      let is : IsCode (code_of has.0) = laws.rules has.0 within has.1.admitted.admitted has.1.bounded in
      let a = some_has options items (code_of has.0) (initial_arrays has.0) accepted.keeper m.0 accepted.obeyed.kept m.1 is in
      (a.0, of_text (ProgramHas options items) (kinds options.processors options.turns) (of_program options items) text has.0 has.1 a.0 a.1)

-- this holds with all options and all schedules
pub have_one_answer : Laws → HaveOneAnswer
have_one_answer laws = record {
  one = λ options schedule.
      planned_one schedule_form schedule options.processors (TextHas options) text_limit laws.plans.schedules
      (λ items. text_one (ProgramHas options items) laws.texts (λ t. code_one laws.images options items (code_of t) (initial_arrays t)));
  front = λ options schedule.
      planned_front schedule_form schedule options.processors (TextHas options) text_limit (steady options)
      (λ items. text_front (ProgramHas options items) laws.texts);
  some = λ options schedule are.
      some_answer schedule_form schedule options.processors (TextHas options) text_limit laws.plans.schedules (steady options)
      (some laws options are schedule);
}
