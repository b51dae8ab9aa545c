-- A text has one answer where it is stopped: its program begins one run, with the one keeper of the schedule.
use Rattle.std.proofs.Common.{◌≡◌, ℕ, List, [], sym, ap, ◌∙◌, subst}
use Rattle.ppm_text.specs.Limits.{text_limit}
use Rattle.ppm_core.specs.Situation.{Situation}
use Rattle.ppm_layout.specs.Correct.{ImagesAreOne}
use Rattle.ppm_plan.specs.declared.schedule_item.ScheduleItem.{ScheduleItem}
use Rattle.ppm_plan.specs.Correct.{HaveOneAnswer as PlansHaveOneAnswer}
use Rattle.ppm_choice.proofs.KeeperLemmas.{one_keeper}
use Rattle.ppm_plan.specs.Forms.{schedule_form}
use Rattle.ppm_plan.specs.Refusals.{IsAccepted}
use Rattle.ppm_tree.specs.Tree.{ProgramTree}
use Rattle.ppm_tree.specs.Program.{initial_arrays}
use Rattle.ppm_rows.specs.Correct.{TreesAreWithin}
use Rattle.ppm_cut_code.specs.Routines.{code_of}
use Rattle.ppm_code.specs.declared.code.CodeParts.{CodeParts}
use Rattle.ppm_words.specs.Inputs.{IsInput}
use Rattle.ppm_words.specs.declared.named_array.NamedArray.{NamedArray}
use Rattle.ppm_regions.proofs.Inputs.{input_fits}
use Rattle.ppm_program.specs.Programs.{HasProgram}
use Rattle.ppm_program.proofs.WithinLemmas.{tree_within}
use Rattle.ppm_program.specs.Refusals.{IsRefusal}
use Rattle.ppm_program.specs.Correct.{HaveOneAnswer as TextsHaveOneProgram}
use Rattle.ppm_answers.specs.declared.refusal.Refusal.{Refusal}
use Rattle.ppm_answers.specs.declared.answer.Answer.{Answer}
use Rattle.ppm_answers.specs.declared.answer.Answer.TheVariants as answers
use Rattle.ppm_cli.specs.declared.stop.StopOptions.{StopOptions}
use Rattle.ppm_cli.specs.Words.{AreStopped}
use Rattle.ppm_following.specs.Followed.{followed}
use Rattle.ppm_loading.specs.Loading.{OpensRun}
use Rattle.ppm_loading.proofs.LoadingLemmas.{one_opening, some_opening}
use Rattle.ppm_loading.proofs.PlannedLemmas.{IsSteady, planned_one, planned_front, some_answer}
use Rattle.ppm_loading.proofs.ProgramLemmas.{text_one, text_front, of_text, plain}
use Rattle.ppm_outcomes.specs.Stops.{sizes_of, text_of, CodeHas, ProgramHas, ProgramReads, TextHas, TextReads, HaveOneAnswer}
use Rattle.ppm_stop_command.proofs.StopLemmas.{stopped_sizes, kinds, of_program, of_reading, some_has}

-- what the crates below show of every text, every image and every schedule
pub record Laws : Type 0 where
  pub texts : TextsHaveOneProgram
  pub within : TreesAreWithin
  pub images : ImagesAreOne
  pub plans : PlansHaveOneAnswer

-- no answer by items is that a schedule is refused
pub steady : (options : StopOptions) → IsSteady schedule_form [] options.processors (TextHas options) text_limit
steady options items text number = plain (ProgramHas options items) kinds (of_program options items) text number

pub steady_read : (options : StopOptions) → IsSteady schedule_form [] options.processors (TextReads options) text_limit
steady_read options items text number = plain (ProgramReads options items) kinds (of_reading options items) text number

-- a code has one answer by items
pub code_one : ImagesAreOne → (options : StopOptions) (items : List ScheduleItem) (code : CodeParts) (input : List NamedArray) (a b : Answer)
    → CodeHas options items code input a → CodeHas options items code input b → a ≡ b
code_one images options items code input a b h k =
    let keeper : k.keeper ≡ h.keeper = one_keeper schedule_form items k.keeper h.keeper k.spared h.spared in
    let begins = subst (λ (n : ℕ). OpensRun (sizes_of options) code input n k.start) keeper k.opens in
    let start : h.start ≡ k.start = one_opening (sizes_of options) code input h.keeper images h.start k.start h.opens begins in
    h.saves ∙ ap (λ (m : Situation). answers.Saved (text_of (followed m items options.after) input)) start ∙ sym k.saves

module _ (laws : Laws) (options : StopOptions) where
  -- and so has a program
  program_one : (items : List ScheduleItem) (t : ProgramTree) (a b : Answer) → ProgramHas options items t a → ProgramHas options items t b
      → a ≡ b
  program_one items t a b h k = code_one laws.images options items (code_of t) (initial_arrays t) a b h k

  -- a text that is not refused has an answer by items that may be obeyed
  some : AreStopped options → (schedule : List ℕ) (items : List ScheduleItem) (text : List ℕ)
      → IsAccepted schedule_form schedule options.processors items → ((r : Refusal) → ¬ IsRefusal text r)
      → (a : Answer) × TextHas options items text a
  some are schedule items text accepted free =
      let has : (t : ProgramTree) × HasProgram text t = (laws.texts text).none free in
      let within = tree_within laws.within text has.0 has.1.admitted.tree in
      let fits : IsInput (initial_arrays has.0) = input_fits has.0 within has.1.admitted.admitted in
      let m = some_opening (sizes_of options) (code_of has.0) (initial_arrays has.0) accepted.keeper (stopped_sizes options are)
      accepted.obeyed.below fits in
      let a = some_has options items (code_of has.0) (initial_arrays has.0) accepted.keeper m.0 accepted.obeyed.kept m.1 in
      (a.0, of_text (ProgramHas options items) kinds (of_program options items) text has.0 has.1 a.0 a.1)

-- this holds with all options and all schedules
pub have_one_answer : Laws → HaveOneAnswer
have_one_answer laws = record {
  one = λ options schedule.
      planned_one schedule_form schedule options.processors (TextHas options) text_limit laws.plans.schedules
      (λ items. text_one (ProgramHas options items) laws.texts (program_one laws options items));
  front = λ options schedule.
      planned_front schedule_form schedule options.processors (TextHas options) text_limit (steady options)
      (λ items. text_front (ProgramHas options items) laws.texts);
  front_read = λ options schedule.
      planned_front schedule_form schedule options.processors (TextReads options) text_limit (steady_read options)
      (λ items. text_front (ProgramReads options items) laws.texts);
  some = λ options schedule are.
      some_answer schedule_form schedule options.processors (TextHas options) text_limit laws.plans.schedules (steady options)
      (some laws options are schedule);
}
