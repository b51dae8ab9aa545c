-- The answers that the example of `self` has.
use Rattle.std.proofs.Common.{◌≡◌, ◌+◌, ◌*◌, ◌^◌, ◌≤◌, List, refl, sym, subst, arith, lit≤}
use Rattle.ppm_ports.specs.Outside.{ToldLists}
use Rattle.ppm_words.specs.declared.named_array.NamedArray.{NamedArray}
use Rattle.ppm_tree.specs.Tree.{ProgramTree}
use Rattle.ppm_tree.specs.Limits.{IsWithin}
use Rattle.ppm_tree.specs.Program.{initial_arrays}
use Rattle.ppm_regions.specs.Admission.{IsAdmitted}
use Rattle.ppm_cut_bounds.specs.Bounds.{IsWithinBounds}
use Rattle.ppm_code.specs.Tidy.{IsTidy}
use Rattle.ppm_code.specs.declared.code.CodeParts.{CodeParts}
use Rattle.ppm_cut_code.specs.Routines.{code_of}
use Rattle.ppm_cut_sound.specs.Correct.{CodeIsSound}
use Rattle.ppm_cut_correct.specs.Beginning.{StartWithInput}
use Rattle.ppm_depth.specs.Run.{IsDepthRun}
use Rattle.ppm_depth.specs.declared.depth.DepthRun.{DepthRun}
use Rattle.ppm_answers.specs.declared.answer.Answer.{Answer}
use Rattle.ppm_answers.specs.declared.answer.Answer.TheVariants as answers
use Rattle.ppm_answers.specs.Reading.{TextMay}
use Rattle.ppm_cli.specs.declared.example.SelfOptions.{SelfOptions}
use Rattle.ppm_cli.specs.Words.{AreRun, AreSelf}
use Rattle.ppm_program.specs.Programs.{HasProgram}
use Rattle.ppm_plan.specs.declared.plan_item.PlanItem.{PlanItem}
use Rattle.ppm_loading.specs.Programs.{ProgramMay, RefusedHas}
use Rattle.ppm_driver.specs.Examples.{AreForks, ExampleMay, ExampleTells, ExampleWants, HasRun, ProgramSums, ProgramWants, items_of, run_options_of, text_of}
use Rattle.ppm_outcomes.specs.Runs.{ProgramHas, ProgramGivenUp, RunTold}
use Rattle.ppm_outcomes.specs.Runs as runs
use Rattle.ppm_outcomes.specs.Watchers.{OthersKeep, ToldNothing, ToldWhole}
use Rattle.ppm_outcomes.proofs.WantLemmas.{map_want, map_wanting}
use Rattle.ppm_outcomes.proofs.RunLemmas.{IsOfProgram, of_program}

-- the options with which the example is run are in their ranges
pub example_are_run : (o : SelfOptions) → AreSelf o → AreRun (run_options_of o)
example_are_run o are = (
  (are.0.0, omega (arith, are.0.1)),
  (lit≤ tt, lit≤ tt),
  (lit≤ tt, lit≤ tt),
  (lit≤ tt, lit≤ tt),
  (lit≤ tt, lit≤ tt),
  are.2,
  omega (arith, are.0.1),
)

module _ (o : SelfOptions) (before now : ToldLists) (t : ProgramTree) where
  pub kind : (a : Answer) → HasRun o before now t a → IsOfProgram o.processors a
  kind a h = of_program (run_options_of o) o.processors before now (items_of o) t a h

  -- but for arrays the answer is that of the run
  pub other_has : (a : Answer) → ((arrays : List NamedArray) → a ≡ answers.Ended arrays → ⊥) → HasRun o before now t a → ProgramSums o before now t a
  other_has (answers.Ended arrays) other h = other arrays refl
  other_has (answers.Summed sums) other h = absurd (kind (answers.Summed sums) h)
  other_has a other h = h

  -- of the plan's items, however it is made
  pub by_plan : (items : List PlanItem) → items ≡ items_of o → (a : Answer)
      → ProgramHas (run_options_of o) o.processors before now items t a → HasRun o before now t a
  by_plan items same a h = subst (λ (l : List PlanItem). ProgramHas (run_options_of o) o.processors before now l t a) same h

  -- where it may be given, it is want of memory or that of the program
  pub sums_may : (a : Answer) → ProgramSums o before now t a → ProgramMay (ProgramSums o before now t) a
  sums_may answers.NoMemory h = tt
  sums_may a h = h

  -- watchers were told what its causes say
  pub sums_tell : (T : Type 0) (a : Answer) → ProgramSums o before now t a → OthersKeep o.processors before now → RunTold o.processors T a before now
  sums_tell T (answers.Summed sums) h others = (tt, others, tt)
  sums_tell T (answers.Trapped trap line) h others = (tt, others, tt)
  sums_tell T (answers.OutOfTurns processor) h others = (tt, others, tt)
  sums_tell T (answers.OutOfRoom place) h others = (tt, others, tt)
  sums_tell T (answers.Broken place) h others = (tt, others, tt)
  sums_tell T (answers.Ended arrays) h others = absurd h
  sums_tell T a h others = absurd (kind a h)

  -- of a run by a plan that is the example's
  pub wants_by_plan : (items : List PlanItem) → items ≡ items_of o → runs.ProgramWants (run_options_of o) o.processors before now items t
      → ProgramWants o before now t
  wants_by_plan items same w = subst (λ (l : List PlanItem). runs.ProgramWants (run_options_of o) o.processors before now l t) same w

  -- what was told of the program's run was told of the example's
  pub example_tells : HasProgram (text_of o) t → (a : Answer) → RunTold o.processors (ProgramWants o before now t) a before now
      → ExampleTells o a before now
  example_tells has a told =
      (told.0, told.1, map_wanting {T = ProgramWants o before now t} {S = ExampleWants o before now} lifted a told.2)
    where
      lifted : ProgramWants o before now t → ExampleWants o before now
      lifted w =
          map_want (λ (r : ProgramGivenUp (run_options_of o) before now (items_of o) t). (t, has, r))
          (λ (r : (a : Answer) × HasRun o before now t a). (r.0, (t, has, r.1))) w

  -- an answer of the program is one of the example
  pub program_may : HasProgram (text_of o) t → (a : Answer) → ProgramMay (ProgramSums o before now t) a → ExampleMay o before now a
  program_may has answers.NoMemory h = tt
  program_may has (answers.SourceRefused r) h = absurd (kind (answers.SourceRefused r) h)
  program_may has a h = (t, has, h)

-- and so is what is answered where there is no program
pub none_may : (o : SelfOptions) (before now : ToldLists) (a : Answer) → TextMay RefusedHas (text_of o) a → ExampleMay o before now a
none_may o before now answers.NoMemory h = tt
none_may o before now (answers.SourceRefused r) h = h
none_may o before now a h = absurd h.2

-- where an answer may come, want of memory may, with what was told of it
pub wants : (o : SelfOptions) (before now : ToldLists) (a : Answer) → ExampleMay o before now a → ExampleTells o a before now → ExampleWants o before now
wants o before now answers.NoMemory h told = told.2
wants o before now (answers.SourceRefused r) h told = ToldNothing told.0
wants o before now (answers.Summed sums) h told = ToldWhole (answers.Ended h.2.arrays, (h.0, h.1, h.2.has))
wants o before now (answers.Ended arrays) h told = absurd h.2
wants o before now a h told = ToldWhole (a, (h.0, h.1, h.2))

-- the code is tidy, and the forks that are counted are its
module _ (t : ProgramTree) (code : CodeParts) (is : code ≡ code_of t) where
  pub code_tidy : CodeIsSound → StartWithInput → IsWithin t → IsAdmitted t → IsWithinBounds t → IsTidy code
  code_tidy sound starts within admitted bounded =
      subst (λ (c : CodeParts). IsTidy c) (sym is) (sound t within admitted bounded (initial_arrays t) (starts t within admitted)).tidy

  pub forks_are : (input : List NamedArray) → input ≡ initial_arrays t → (run : DepthRun) → IsDepthRun code input (2 ^ 40) run → AreForks t run.forks
  forks_are input same run h = (
    run,
    subst (λ (c : CodeParts). IsDepthRun c (initial_arrays t) (2 ^ 40) run) is
        (subst (λ (l : List NamedArray). IsDepthRun code l (2 ^ 40) run) same h),
    refl,
  )
