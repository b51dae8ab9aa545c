use Rattle.std.proofs.Common.{◌≡◌, ◌++◌, drop}
use Rattle.ppm_tree.specs.Tree.{block_of}
use Rattle.ppm_cut_code.specs.Layout.{caught}
use Rattle.ppm_cut.proofs.layout.Layout.push_caught.Given as goal

-- the names so far, and those that follow
abbrev pub invariant-loop-mention : goal.invariant-loop-mention
invariant-loop-mention l = l.self ++ caught (drop l.mention-index l.mention-items) (block_of l.block) ≡ l.initial.self ++ caught l.mention-items (block_of l.block)
