-- The text of an example has the example's program.
use Rattle.std.proofs.Common.{ℕ}
use Rattle.ppm_plan.specs.Sources.{source_of}
use Rattle.ppm_program.specs.Programs.{HasProgram}
use Rattle.ppm_example.specs.Example.{example_tree}
use Rattle.ppm_example.specs.Correct.{IsSize}
use Rattle.ppm_example.proofs.SourceLemmas.{source_lexed, source_short, example_tokens}
use Rattle.ppm_example.proofs.TreeLemmas.{has_tree}
use Rattle.ppm_example.proofs.AdmittedLemmas.{admitted, bounded}

-- it is lexed and derives the tree, which is admitted and within the bounds
pub has_program : (size x : ℕ) → IsSize size → HasProgram (source_of size x) (example_tree size x)
has_program size x range = record {
  admitted = record {
    tree = record {
      tokens = example_tokens size x;
      lexed = record { short = source_short size x range.last; lexed = source_lexed size x range.last };
      tree = has_tree size x range.first range.last;
    };
    admitted = admitted size x;
  };
  bounded = bounded size x;
}
