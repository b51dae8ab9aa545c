use Rattle.std.proofs.Common.{◌≡◌, drop}
use Rattle.ppm_tree.specs.Tree.{block_of}
use Rattle.ppm_excess.specs.Excess.{bound_of, first_in}
use Rattle.ppm_excess.proofs.passing.+first.Given as goal

-- the rest decides
abbrev pub invariant-first_in-loop-statement : goal.invariant-first_in-loop-statement
invariant-first_in-loop-statement l =
    first_in (bound_of l.counted) (block_of (drop l.statement-index l.block)) ≡ first_in (bound_of l.counted) (block_of l.block)
