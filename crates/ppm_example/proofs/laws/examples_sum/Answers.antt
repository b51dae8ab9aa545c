use Rattle.ppm_plan.specs.Sources.{source_of}
use Rattle.ppm_program.proofs.WithinLemmas.{tree_within}
use Rattle.ppm_tree.specs.Program.{initial_arrays}
use Rattle.ppm_example.specs.Example.{example_tree}
use Rattle.ppm_example.proofs.ProgramLemmas.{has_program}
use Rattle.ppm_example.proofs.MeaningLemmas.{sums}
use Rattle.ppm_example.proofs.laws.examples_sum.Goals as goal

-- from the laws of trees, of the meaning and of the compiler
pub returns : goal.returns
returns c = record {
  law = λ size x range.
      let t = example_tree size x in
      let program = has_program size x range in
      let within = tree_within c.trees_are_within.ensures.law (source_of size x) t program.admitted.tree in
      let admitted = program.admitted.admitted in
      let input = c.start_with_input.ensures.law t within admitted in
      sums size x range (c.end_as_meant.ensures.law t within admitted program.bounded (initial_arrays t) input) c.have_one_end.ensures.law
      c.spend_their_turns.ensures.law c.end_whole.ensures.law;
}
