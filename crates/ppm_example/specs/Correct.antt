-- What the example's program is and means.
use Rattle.std.specs.Prelude.{◌≡◌, ◌≢◌, ◌≤◌, ℕ, ◌*◌, ◌-◌, ℤ, pos, List, [], ◌∷◌, length, codes, Some, slice_get}
use Rattle.ppm_words.specs.declared.named_array.NamedArray.{NamedArray}
use Rattle.ppm_words.specs.declared.outcome.Outcome.{Outcome}
use Rattle.ppm_words.specs.declared.outcome.Outcome.TheVariants as outcome
use Rattle.ppm_strands.specs.Run.{End as CapsuleEnd}
use Rattle.ppm_code.specs.Strands.{Result}
use Rattle.ppm_depth.specs.Run.{ComesTo, IsDepthRun}
use Rattle.ppm_depth.specs.declared.depth.DepthRun.{DepthRun}
use Rattle.ppm_tree.specs.Meaning.{Whole, Counts, End}
use Rattle.ppm_tree.specs.Program.{initial_arrays, values_of, Means, Serial}
use Rattle.ppm_cut_code.specs.Routines.{code_of}
use Rattle.ppm_cut_correct.specs.Correct.{words_taken}
use Rattle.ppm_plan.specs.Sources.{source_of, value_at}
use Rattle.ppm_program.specs.Programs.{HasProgram}
use Rattle.ppm_example.specs.Example.{example_tree, sum_drawn}

-- how many values an example may have
pub record IsSize (size : ℕ) : Type 0 where
  pub first : 1 ≤ size
  pub last : size ≤ 4096

-- the text of each example has the example's tree for its program
abbrev pub ExamplesArePrograms : Type 0
ExamplesArePrograms = (size x : ℕ) → IsSize size → HasProgram (source_of size x) (example_tree size x)

-- the array has the sum of the values drawn in front, and the last one drawn in its last word
pub record IsSummed (size x : ℕ) (arrays : List NamedArray) : Type 0 where
  pub values : List ℤ
  pub only : arrays ≡ record { name = codes "a"; values = values } ∷ []
  pub long : length values ≡ size
  pub first : slice_get values 0 ≡ Some (pos (sum_drawn x 0 size))
  pub last : slice_get values (size - 1) ≡ Some (pos (value_at x (size - 1)))

-- The program ends so and in no other way; its code, run depth first, in 14 capsules a value at most, with one fork less than there are values;
-- and it takes 27 words a value at most.
pub record Sums (size x : ℕ) : Type 0 where
  pub arrays : List NamedArray
  pub summed : IsSummed size x arrays
  pub outcome : (within : ℕ) (o : Outcome) → Serial (example_tree size x) within o → o ≢ outcome.NotWithin → o ≡ outcome.Ended arrays
  pub time : (e : CapsuleEnd Result) × ComesTo (code_of (example_tree size x)) (initial_arrays (example_tree size x)) e
      × (e.counts.capsules ≤ 14 * size)
  pub forks : (most : ℕ) → 14 * size ≤ most → (run : DepthRun)
      → IsDepthRun (code_of (example_tree size x)) (initial_arrays (example_tree size x)) most run → run.forks ≡ size - 1
  pub words : (k : Counts) × (z : End ℤ) × Means Whole (example_tree size x) (values_of (initial_arrays (example_tree size x))) k z
      × (words_taken (example_tree size x) k ≤ 27 * size)

-- each example ends with its sums, within so many capsules, forks and words
abbrev pub ExamplesSum : Type 0
ExamplesSum = (size x : ℕ) → IsSize size → Sums size x
