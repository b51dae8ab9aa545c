-- A block counts more than its statements, and these more than what is one level further in.
use Rattle.std.proofs.Common.{◌+◌, ◌*◌, drop, map}
use Rattle.ppm_tree.specs.Tree.{block_of, expression_of, procedure_of}
use Rattle.ppm_by_name.specs.Frames.{frame_of, region_of}
use Rattle.ppm_trapped.proofs.WalkLemmas.{Going, Turning, Sweeping}
use Rattle.ppm_trapped.proofs.walking.Scope.+walk.Given as goal

-- the statements so far
abbrev pub invariant-block-statements : goal.invariant-block-statements
invariant-block-statements l =
    Going (map procedure_of l.self.procedures.now) (procedure_of l.self.procedure.now) (block_of l.block) (block_of (drop l.statement-index l.block))
    l.fn.frame l.fn.store l.frame l.store

-- the tests and blocks so far
abbrev pub invariant-repeat-tests : goal.invariant-repeat-tests
invariant-repeat-tests l =
    Turning (map procedure_of l.self.procedures.now) (procedure_of l.self.procedure.now) (expression_of l.test) (block_of l.block)
    l.fn.frame l.fn.store l.frame l.store

-- the blocks so far
abbrev pub invariant-sweep-elements : goal.invariant-sweep-elements
invariant-sweep-elements l =
    Sweeping (map procedure_of l.self.procedures.now) (procedure_of l.self.procedure.now) l.each.index.now l.each.part.now (block_of l.each.block.now)
    (region_of l.frame.regions l.each.region.now.name) (frame_of l.frame) l.fn.store l.at l.store

abbrev pub decreases-decide : goal.decreases-decide
decreases-decide l = 6 * l.depth + 1

abbrev pub decreases-inner : goal.decreases-inner
decreases-inner l = 6 * l.depth

abbrev pub decreases-repeat : goal.decreases-repeat
decreases-repeat l = 6 * l.depth + 1

abbrev pub decreases-run : goal.decreases-run
decreases-run l = 6 * l.depth

abbrev pub decreases-body : goal.decreases-body
decreases-body l = 6 * l.depth + 5

abbrev pub decreases-call : goal.decreases-call
decreases-call l = 6 * l.depth + 1

abbrev pub decreases-fork : goal.decreases-fork
decreases-fork l = 6 * l.depth + 1

abbrev pub decreases-split : goal.decreases-split
decreases-split l = 6 * l.depth + 1

abbrev pub decreases-sweep : goal.decreases-sweep
decreases-sweep l = 6 * l.depth + 1

abbrev pub decreases-statement : goal.decreases-statement
decreases-statement l = 6 * l.depth + 3

abbrev pub decreases-block : goal.decreases-block
decreases-block l = 6 * l.depth + 4
