-- The tree of a text passes no limit.
use Rattle.std.proofs.Common.{ℕ, List, length}
use Rattle.ppm_text.proofs.LexingLemmas.{lexed_stands}
use Rattle.ppm_tree.specs.Tree.{ProgramTree}
use Rattle.ppm_tree.specs.Limits.{IsWithin}
use Rattle.ppm_rows.specs.Correct.{TreesAreWithin}
use Rattle.ppm_program.specs.Programs.{IsTreeOf}

-- since no tree of tokens does that stand in a text
pub tree_within : TreesAreWithin → (text : List ℕ) (t : ProgramTree) → IsTreeOf text t → IsWithin t
tree_within within text t h = within (length text) h.tokens t h.lexed.short (lexed_stands h.lexed.lexed.1) h.tree
