-- What `self` answers: the answer of a run of its own example, with sums in place of arrays.
use Rattle.std.specs.Prelude.{◌≡◌, ℕ, ◌-◌, ◌^◌, ℤ, pos, List, [], ◌∷◌, length, slice_get, unwrap_or, ⊤}
use Rattle.ppm_words.specs.Limits.{turn_limit}
use Rattle.ppm_words.specs.TwosComplement.{value_of}
use Rattle.ppm_words.specs.declared.idle.Idle.TheVariants.{Leave}
use Rattle.ppm_words.specs.declared.named_array.NamedArray.{NamedArray}
use Rattle.ppm_cells.specs.declared.shape.Takeover.TheVariants.{ByPlaces}
use Rattle.ppm_ports.specs.Outside.{ToldLists}
use Rattle.ppm_plan.specs.Draws.{items_drawn, seeded}
use Rattle.ppm_plan.specs.Schedules.{Planned}
use Rattle.ppm_plan.specs.Sources.{source_of, value_at as value_drawn}
use Rattle.ppm_plan.specs.declared.plan_item.PlanItem.{PlanItem}
use Rattle.ppm_tree.specs.Tree.{ProgramTree}
use Rattle.ppm_tree.specs.Program.{initial_arrays}
use Rattle.ppm_cut_code.specs.Routines.{code_of}
use Rattle.ppm_depth.specs.Run.{IsDepthRun}
use Rattle.ppm_depth.specs.declared.depth.DepthRun.{DepthRun}
use Rattle.ppm_answers.specs.declared.answer.Answer.{Answer}
use Rattle.ppm_answers.specs.declared.answer.Answer.TheVariants as answers
use Rattle.ppm_answers.specs.declared.sums.Sums.{Sums}
use Rattle.ppm_cli.specs.declared.example.SelfOptions.{SelfOptions}
use Rattle.ppm_cli.specs.declared.run.RunOptions.{RunOptions}
use Rattle.ppm_cli.specs.Words.{AreSelf}
use Rattle.ppm_example.specs.Example.{sum_drawn}
use Rattle.ppm_loading.specs.Programs.{ProgramMay, TextHas}
use Rattle.ppm_program.specs.Programs.{HasProgram}
use Rattle.ppm_outcomes.specs.Runs.{ProgramHas, RunTold, WantsOf}

-- the options of `run` with which the example is run
abbrev pub run_options_of : SelfOptions → RunOptions
run_options_of o = record {
  processors = o.processors;
  turns = turn_limit;
  room = 262144;
  slots = 8192;
  looks = 1000;
  seed = o.seed;
  takeover = ByPlaces;
  idle = Leave;
}

-- the text of the example: it sums an array by halves
abbrev pub text_of : SelfOptions → List ℕ
text_of o = source_of o.size o.seed

-- its plan: faults that are drawn
abbrev pub items_of : SelfOptions → List PlanItem
items_of o = items_drawn o.processors o.count (seeded o.seed)

-- the plan is that of the example
abbrev pub IsPlanOf : SelfOptions → Planned → Type 0
IsPlanOf o plan = (plan.processors ≡ o.processors) × (plan.items ≡ items_of o)

-- what is told of the example: how many values it has, one fork less, the sum of the values drawn, and the last of them
abbrev pub sums_drawn : SelfOptions → Sums
sums_drawn o = record {
  size = o.size;
  forks = o.size - 1;
  sum = pos (sum_drawn o.seed 0 o.size);
  last = pos (value_drawn o.seed (o.size - 1));
}

-- the value of this number, and 0 where there is none
abbrev pub value_at : List ℤ → ℕ → ℤ
value_at values number = unwrap_or (slice_get values number) (value_of 0)

-- the first value of the first array, and 0 where there is none
abbrev pub first_value : List NamedArray → ℤ
first_value [] = value_of 0
first_value (a ∷ arrays) = value_at a.values 0

-- its last value
abbrev pub last_value : List NamedArray → ℤ
last_value [] = value_of 0
last_value (a ∷ arrays) = value_at a.values (length a.values - 1)

-- the program's code makes so many forks, run depth first, in its first 2^40 capsules
abbrev pub AreForks : ProgramTree → ℕ → Type 0
AreForks t forks = (run : DepthRun) × IsDepthRun (code_of t) (initial_arrays t) (2 ^ 40) run × (forks ≡ run.forks)

module _ (o : SelfOptions) (before now : ToldLists) where
  -- the answer of a run of the program by the plan of the example, where the watchers of its processors were told what these do
  abbrev pub HasRun : ProgramTree → Answer → Type 0
  HasRun t answer = ProgramHas (run_options_of o) o.processors before now (items_of o) t answer

  -- the run ends with arrays, and the sums are theirs: how many values the example has and how many forks its program makes, the first value
  -- then and the last
  pub record SumsUp (t : ProgramTree) (sums : Sums) : Type 0 where
    pub arrays : List NamedArray
    pub has : HasRun t (answers.Ended arrays)
    pub size : sums.size ≡ o.size
    pub forks : AreForks t sums.forks
    pub sum : sums.sum ≡ first_value arrays
    pub last : sums.last ≡ last_value arrays

  -- the answer of a program of the example: sums in place of arrays
  abbrev pub ProgramSums : ProgramTree → Answer → Type 0
  ProgramSums t (answers.Summed sums) = SumsUp t sums
  ProgramSums t (answers.Ended arrays) = ⊥
  ProgramSums t answer = HasRun t answer

  -- that of the example: its program's, or its refusal
  abbrev pub ExampleHas : Answer → Type 0
  ExampleHas answer = TextHas ProgramSums (text_of o) answer

  -- that, or want of memory
  abbrev pub ExampleMay : Answer → Type 0
  ExampleMay answer = ProgramMay ExampleHas answer

-- what watchers were told where memory is wanting: of a run of a program of the example, and of one of the example's program
abbrev pub ProgramWants : SelfOptions → (before now : ToldLists) → ProgramTree → Type 0
ProgramWants o before now t = WantsOf (run_options_of o) o.processors before now (λ Run. Run (items_of o) (code_of t) (initial_arrays t))

abbrev pub ExampleWants : SelfOptions → (before now : ToldLists) → Type 0
ExampleWants o before now = WantsOf (run_options_of o) o.processors before now
    (λ Run. (t : ProgramTree) × HasProgram (text_of o) t × Run (items_of o) (code_of t) (initial_arrays t))

-- what watchers were told where an answer of the example comes
abbrev pub ExampleTells : SelfOptions → Answer → ToldLists → ToldLists → Type 0
ExampleTells o answer before now = RunTold o.processors (ExampleWants o before now) answer before now

-- an answer of the example: what is told of it, or want of memory
abbrev pub IsExampleEnd : SelfOptions → Answer → Type 0
IsExampleEnd o (answers.Summed sums) = sums ≡ sums_drawn o
IsExampleEnd o answers.NoMemory = ⊤
IsExampleEnd o answer = ⊥

-- with options in their ranges no other answer comes
abbrev pub ExamplesSumUp : Type 0
ExamplesSumUp = (options : SelfOptions) → AreSelf options → (before now : ToldLists) (answer : Answer)
    → ExampleMay options before now answer → IsExampleEnd options answer
