use Rattle.std.proofs.Common.{ap, ◌∙◌}
use Rattle.std.proofs.lemmas.Result.{IfOk-weaker}
use Rattle.ppm_tree.specs.Tree.{tree_of}
use Rattle.ppm_explain.specs.Sources.{bound_notes}
use Rattle.ppm_explain.proofs.source.cut_notes.Goals as goal

-- the notes are those of these tokens, and of their tree
pub returns : goal.returns
returns c =
    IfOk-weaker c.bound_notes.result _ _
    (λ text e. record {
      tokens = c.args.all.now.tokens;
      lexed = c.requires.lexed;
      tree = tree_of c.in_ok-program.program;
      derived = c.in_ok-program.ensures;
      is = e ∙ ap (λ ts. bound_notes c.args.refusal ts (tree_of c.tree.result.now)) c.as_slice.ensures.value
          ∙ ap (λ t. bound_notes c.args.refusal c.args.all.now.tokens (tree_of t)) c.tree.ensures.value;
    }) c.bound_notes.ensures
