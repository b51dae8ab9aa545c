use Rattle.std.proofs.Common.{List, sym, subst}
use Rattle.ppm_words.specs.declared.named_array.NamedArray.{NamedArray}
use Rattle.ppm_code.specs.declared.code.CodeParts.{CodeParts}
use Rattle.ppm_depth.specs.Start.{NamesArrays}
use Rattle.ppm_tree.specs.Tree.{tree_of}
use Rattle.ppm_tree.specs.Limits.{IsWithin}
use Rattle.ppm_tree.specs.Program.{initial_arrays}
use Rattle.ppm_answers.specs.declared.answer.Answer.TheVariants as answers
use Rattle.ppm_saved.specs.Names.{AreNames}
use Rattle.ppm_outcomes.specs.Stops.{CodeReads, names_of}
use Rattle.ppm_stop_command.proofs.NamesLemmas.{names_are}
use Rattle.ppm_stop_command.proofs.StopLemmas.{of_program_code}
use Rattle.ppm_stop_command.proofs.stop.stopped.Goals as goal

-- the root of the program's code names arrays of its input
pub stopped_code-requires-clause-arrays : goal.stopped_code-requires-clause-arrays
stopped_code-requires-clause-arrays c =
    subst (λ (l : List NamedArray). NamesArrays c.in_ok-code.code l) (sym c.input.ensures.value) c.in_ok-code.ensures.names

-- an admitted program within the limits names its arrays so
pub stopped_code-requires-clause-names : goal.stopped_code-requires-clause-names
stopped_code-requires-clause-names c =
    subst (λ arrays. AreNames (names_of arrays)) (sym c.input.ensures.value)
    (names_are (tree_of c.args.program.now) (subst (λ p. IsWithin (tree_of p)) c.program.ensures.value c.tree.ensures.limits) c.program.ensures.admitted)

-- the text is that of its code's run, which may be resumed
pub returns : goal.returns
returns c =
    let t = tree_of c.args.program.now in
    let saved = answers.Saved c.in_ok-text.text.items in
    of_program_code c.args.options c.args.schedule.now.items t saved
    (record {
      free = c.may_be_stopped.ensures.law t c.program.ensures.admitted;
      tidy = c.store_tidily.ensures.law t c.program.ensures.admitted;
    })
    (subst (λ (k : CodeParts). CodeReads c.args.options c.args.schedule.now.items k (initial_arrays t) saved) c.in_ok-code.ensures.code
    (subst (λ (l : List NamedArray). CodeReads c.args.options c.args.schedule.now.items c.in_ok-code.code l saved) c.input.ensures.value
    c.in_ok-text.ensures))
