use Rattle.std.proofs.Common.{List, sym, subst}
use Rattle.ppm_words.specs.declared.named_array.NamedArray.{NamedArray}
use Rattle.ppm_code.specs.declared.code.CodeParts.{CodeParts}
use Rattle.ppm_depth.specs.Start.{NamesArrays}
use Rattle.ppm_tree.specs.Tree.{tree_of}
use Rattle.ppm_tree.specs.Program.{initial_arrays}
use Rattle.ppm_cut_code.specs.Routines.{code_of}
use Rattle.ppm_core.specs.Machine.{seen}
use Rattle.ppm_loading.specs.Loading.{OpensRun}
use Rattle.ppm_loading.proofs.loading.load.Goals as goal

-- the root of the program's code names arrays of its input
pub load_code-requires-clause-names : goal.load_code-requires-clause-names
load_code-requires-clause-names c =
    subst (λ (l : List NamedArray). NamesArrays c.in_ok-code.code l) (sym c.input.ensures.value) c.in_ok-code.ensures.names

-- the machine is that of the program's code and input
pub returns : goal.returns
returns c =
    subst (λ (k : CodeParts). OpensRun c.args.sizes k (initial_arrays (tree_of c.args.program.now)) c.args.keeper (seen c.in_ok-machine.machine))
    c.in_ok-code.ensures.code
    (subst (λ (l : List NamedArray). OpensRun c.args.sizes c.in_ok-code.code l c.args.keeper (seen c.in_ok-machine.machine)) c.input.ensures.value
    c.in_ok-machine.ensures)
