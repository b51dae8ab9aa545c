-- What `self` answers: its program is that of the example, which ends in one way, with room and turns enough.
use Rattle.std.proofs.Common.{◌≡◌, ◌≤◌, ◌<◌, ℕ, zero, suc, ◌+◌, ◌*◌, ◌-◌, ◌^◌, ℤ, pos, Bool, true, false, if◌then◌else◌, List, [], ◌∷◌, length, Option, refl, ap, ◌∙◌, subst, arith}
use Rattle.std.specs.Prelude.{slice_get, unwrap_or}
use Rattle.std.specs.List.{list_any}
use Rattle.ppm_words.specs.TwosComplement.{value_of}
use Rattle.ppm_words.specs.declared.named_array.NamedArray.{NamedArray}
use Rattle.ppm_words.specs.declared.outcome.Outcome.TheVariants as outcome
use Rattle.ppm_words.specs.declared.trap.Trap.{Trap}
use Rattle.ppm_ports.specs.Outside.{ToldLists}
use Rattle.ppm_plan.specs.Draws.{items_drawn, after_word, seeded}
use Rattle.ppm_plan.specs.Faults.{is_at}
use Rattle.ppm_plan.specs.Sources.{value_at}
use Rattle.ppm_plan.specs.declared.plan_item.PlanItem.{PlanItem}
use Rattle.ppm_tree.specs.Tree.{ProgramTree}
use Rattle.ppm_tree.specs.Program.{initial_arrays}
use Rattle.ppm_cut_code.specs.Routines.{code_of}
use Rattle.ppm_program.specs.Programs.{HasProgram}
use Rattle.ppm_cut_correct.specs.Correct.{words_taken}
use Rattle.ppm_program.specs.Correct.{HaveOneAnswer as TextsHaveOneProgram}
use Rattle.ppm_answers.specs.declared.answer.Answer.{Answer}
use Rattle.ppm_answers.specs.declared.answer.Answer.TheVariants as answers
use Rattle.ppm_answers.specs.declared.sums.Sums.{Sums}
use Rattle.ppm_cli.specs.declared.example.SelfOptions.{SelfOptions}
use Rattle.ppm_cli.specs.Words.{AreSelf}
use Rattle.ppm_example.specs.Example.{example_tree, sum_drawn}
use Rattle.ppm_example.specs.Correct.{IsSize, ExamplesArePrograms, ExamplesSum}
use Rattle.ppm_example.specs.Correct as example
use Rattle.ppm_driver.specs.Examples.{HasRun, SumsUp, ExampleMay, ExamplesSumUp, IsExampleEnd, AreForks, first_value, last_value, items_of, run_options_of, sums_drawn, text_of}
use Rattle.ppm_outcomes.specs.Meant.{HasOutcome, RunsAreAsPrograms, undone_in}
use Rattle.ppm_outcomes.specs.Runs.{plan_of, limits_of}
use Rattle.ppm_outcomes.specs.Strikes.{fault_count}
use Rattle.ppm_driver.proofs.ExampleLemmas.{example_are_run, kind}
use Rattle.ppm_outcomes.proofs.MeantRows.{run_ends, run_traps, run_needs, run_needs_turns, run_unbroken}
use Rattle.ppm_outcomes.proofs.RunLemmas.{spent_has}
use Rattle.ppm_outcomes.proofs.StrikeLemmas.{undone_are_planned}

-- what the crates below show of every text, every run and every example
pub record Laws : Type 0 where
  pub runs : RunsAreAsPrograms
  pub texts : TextsHaveOneProgram
  pub programs : ExamplesArePrograms
  pub sums : ExamplesSum

-- a plan has no more faults than items
few_faults : (items : List PlanItem) → fault_count items ≤ length items
few_faults [] = omega arith
few_faults (item ∷ items) = by (list_any (is_at item.processor item.turn) items) (few_faults items)
  where
    by : (b : Bool) → fault_count items ≤ length items → (if b then 0 else 1) + fault_count items ≤ suc (length items)
    by true rest = omega (arith, rest)
    by false rest = omega (arith, rest)

-- as many are drawn as are asked for
drawn : (p count : ℕ) (s : List ℕ) → length (items_drawn p count s) ≡ count
drawn p zero s = refl
drawn p (suc count) s = let rest = drawn p count (after_word (after_word (after_word s))) in omega (arith, rest)

ended_other : (arrays : List NamedArray) → outcome.Ended arrays ≡ outcome.NotWithin → ⊥
ended_other arrays e = cc

trapped_other : (trap : Trap) (line : ℕ) → outcome.Trapped trap line ≡ outcome.NotWithin → ⊥
trapped_other trap line e = cc

not_trapped : (arrays : List NamedArray) (trap : Trap) (line : ℕ) → outcome.Trapped trap line ≡ outcome.Ended arrays → ⊥
not_trapped arrays trap line e = cc

same_ended : (a b : List NamedArray) → outcome.Ended a ≡ outcome.Ended b → a ≡ b
same_ended a b e = cc

module _ (laws : Laws) (o : SelfOptions) (are : AreSelf o) (before now : ToldLists) where
  abbrev tree : ProgramTree
  tree = example_tree o.size o.seed

  is_size : IsSize o.size
  is_size = record { first = are.1.0; last = are.1.1 }

  there : HasProgram (text_of o) tree
  there = laws.programs o.size o.seed is_size

  sums : example.Sums o.size o.seed
  sums = laws.sums o.size o.seed is_size

  -- the text has this program alone
  same : (t : ProgramTree) → HasProgram (text_of o) t → t ≡ tree
  same t has = (laws.texts (text_of o)).program t tree has there

  -- the arrays with which the run ends are those of the example
  arrays_are : (arrays : List NamedArray) → HasOutcome tree (outcome.Ended arrays) → arrays ≡ sums.arrays
  arrays_are arrays out = same_ended arrays sums.arrays (sums.outcome out.0 (outcome.Ended arrays) out.1 (ended_other arrays))

  first_is : first_value sums.arrays ≡ pos (sum_drawn o.seed 0 o.size)
  first_is = ap first_value sums.summed.only ∙ ap (λ (x : Option ℤ). unwrap_or x (value_of 0)) sums.summed.first

  last_is : last_value sums.arrays ≡ pos (value_at o.seed (o.size - 1))
  last_is =
      ap last_value sums.summed.only
      ∙ ap (λ (n : ℕ). unwrap_or (slice_get sums.summed.values (n - 1)) (value_of 0)) sums.summed.long
      ∙ ap (λ (x : Option ℤ). unwrap_or x (value_of 0)) sums.summed.last

  forks_are : (forks : ℕ) → AreForks tree forks → forks ≡ o.size - 1
  forks_are forks h =
      let few : 14 * o.size ≤ 2 ^ 40 = let most = is_size.last in omega (arith, most) in
      h.2 ∙ sums.forks (2 ^ 40) few h.0 h.1

  -- the sums that are told are those of the example
  sums_are : (s : Sums) (u : SumsUp o before now tree s) → s ≡ sums_drawn o
  sums_are s u = λ i. record { size = u.size i; forks = forks_are s.forks u.forks i; sum = sum_is i; last = last_one i }
    where
      same_arrays : u.arrays ≡ sums.arrays
      same_arrays = arrays_are u.arrays
          (run_ends laws.runs (text_of o) tree there (run_options_of o) o.processors before now (items_of o) u.arrays u.has).serially

      sum_is : s.sum ≡ pos (sum_drawn o.seed 0 o.size)
      sum_is = u.sum ∙ ap first_value same_arrays ∙ first_is

      last_one : s.last ≡ pos (value_at o.seed (o.size - 1))
      last_one = u.last ∙ ap last_value same_arrays ∙ last_is

  -- it is no trap
  untrapped : (trap : Trap) (line : ℕ) → HasRun o before now tree (answers.Trapped trap line) → ⊥
  untrapped trap line h =
      let out =
      (run_traps laws.runs (text_of o) tree there (run_options_of o) o.processors before now (items_of o) trap line h).serially in
      not_trapped sums.arrays trap line (sums.outcome out.0 (outcome.Trapped trap line) out.1 (trapped_other trap line))

  -- turns are enough
  in_time : (c : ℕ) → HasRun o before now tree (answers.OutOfTurns c) → ⊥
  in_time c h =
      let needs = run_needs_turns laws.runs (text_of o) tree there (run_options_of o) o.processors before now (items_of o) c h
      (spent_has (run_options_of o) o.processors before now (items_of o) (code_of tree) (initial_arrays tree) c h).1 in
      let less : 268435456 < 256 * (sums.time.0.counts.capsules + undone_in h.start h.run.turns) = needs sums.time.0 sums.time.1 in
      let planned : undone_in h.start h.run.turns ≤ fault_count (items_of o) =
      undone_are_planned (plan_of (run_options_of o) (items_of o)) (limits_of (run_options_of o)) h.start h.run.turns h.run.obey in
      let few = few_faults (items_of o) in
      let count : length (items_of o) ≡ o.count = drawn o.processors o.count (seeded o.seed) in
      let most : o.count ≤ 4096 = are.3.1 in
      let short = sums.time.2 in
      let size = is_size.last in
      omega (arith, less, planned, few, count, most, short, size)

  -- and so is room
  in_room : (place : ℕ) → HasRun o before now tree (answers.OutOfRoom place) → ⊥
  in_room place h =
      let needs = run_needs laws.runs (text_of o) tree there (run_options_of o) o.processors before now (items_of o) place h in
      let less : 262144 < words_taken tree sums.words.0 = needs.whole sums.words.0 sums.words.1 sums.words.2 in
      let short = sums.words.3 in
      let size = is_size.last in
      omega (arith, less, short, size)

  -- of the program's own run it is said of the example's tree
  of_tree : (t : ProgramTree) → HasProgram (text_of o) t → (a : Answer) → HasRun o before now t a → HasRun o before now tree a
  of_tree t has a h = subst (λ (u : ProgramTree). HasRun o before now u a) (same t has) h

  ends : (a : Answer) → ExampleMay o before now a → IsExampleEnd o a
  ends answers.NoMemory h = tt
  ends (answers.Summed s) h = sums_are s (subst (λ (u : ProgramTree). SumsUp o before now u s) (same h.0 h.1) h.2)
  ends (answers.SourceRefused r) h = absurd ((laws.texts (text_of o)).either r h tree there)
  ends (answers.Trapped trap line) h = absurd (untrapped trap line (of_tree h.0 h.1 (answers.Trapped trap line) h.2))
  ends (answers.OutOfTurns c) h = absurd (in_time c (of_tree h.0 h.1 (answers.OutOfTurns c) h.2))
  ends (answers.OutOfRoom place) h = absurd (in_room place (of_tree h.0 h.1 (answers.OutOfRoom place) h.2))
  ends (answers.Broken place) h =
      absurd (run_unbroken laws.runs (text_of o) h.0 h.1 (run_options_of o) o.processors before now (items_of o)
      (example_are_run o are) place h.2)
  ends (answers.Ended arrays) h = absurd h.2
  ends a h = absurd (kind o before now h.0 a h.2)

-- this holds with all options
pub examples_sum_up : Laws → ExamplesSumUp
examples_sum_up laws o are before now a h = ends laws o are before now a h
