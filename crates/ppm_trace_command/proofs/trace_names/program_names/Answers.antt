use Rattle.std.proofs.Common.{map, ap, ◌∙◌}
use Rattle.ppm_tree.specs.declared.tree.Tree.{Tree}
use Rattle.ppm_tree.specs.Tree.{procedure_of, tree_of}
use Rattle.ppm_trace_command.proofs.TraceNameLemmas.{program_named}
use Rattle.ppm_trace_command.proofs.trace_names.program_names.Goals as goal

-- the names of its procedures, and those of the arrays that it starts with
pub returns : goal.returns
returns c =
    let tree = c.tree.ensures.value ∙ c.program.ensures.value in
    let procedures = ap (map procedure_of) (c.as_slice-procedures.ensures ∙ ap (λ (t : Tree). t.procedures) tree) in
    c.in_ok-named.ensures
    ∙ program_named (tree_of c.args.program.now) _ _ _ _ _ c.new-names.ensures.items procedures c.in_ok-push_texts.ensures
    c.in_ok-push_all_hidden.ensures (c.arrays.ensures.value ∙ c.input.ensures.value)
