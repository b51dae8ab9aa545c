use Rattle.std.proofs.Common.{List, sym, subst}
use Rattle.ppm_words.specs.declared.named_array.NamedArray.{NamedArray}
use Rattle.ppm_code.specs.declared.code.CodeParts.{CodeParts}
use Rattle.ppm_cut_code.specs.Routines.{code_of}
use Rattle.ppm_depth.specs.Start.{NamesArrays}
use Rattle.ppm_tree.specs.Tree.{tree_of}
use Rattle.ppm_tree.specs.Program.{initial_arrays}
use Rattle.ppm_answers.specs.declared.answer.Answer.TheVariants as answers
use Rattle.ppm_naming.specs.declared.names.Names.{Names}
use Rattle.ppm_trace_command.specs.Traces.{CodeHas}
use Rattle.ppm_trace_command.proofs.trace.traced.Goals as goal

-- the root of the program's code names arrays of its input
pub traced_code-requires-clause-arrays : goal.traced_code-requires-clause-arrays
traced_code-requires-clause-arrays c =
    subst (λ (l : List NamedArray). NamesArrays c.in_ok-code.code l) (sym c.input.ensures.value) c.in_ok-code.ensures.names

-- what is told of its code's run, by the program's names
pub returns : goal.returns
returns c =
    let options = c.args.options in
    let items = c.args.schedule.now.items in
    let t = tree_of c.args.program.now in
    let told = answers.Traced c.in_ok-text.text.items in
    subst (λ (n : Names). CodeHas options n items (code_of t) (initial_arrays t) told) c.in_ok-names.ensures
    (subst (λ (k : CodeParts). CodeHas options c.in_ok-names.names items k (initial_arrays t) told) c.in_ok-code.ensures.code
    (subst (λ (l : List NamedArray). CodeHas options c.in_ok-names.names items c.in_ok-code.code l told) c.input.ensures.value c.in_ok-text.ensures))
