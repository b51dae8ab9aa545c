-- The statements so far are laid out.
use Rattle.std.proofs.Common.{map, drop}
use Rattle.ppm_tree.specs.Tree.{block_of, procedure_of}
use Rattle.ppm_serial.specs.Laying.{LaysSome}
use Rattle.ppm_serial.proofs.lay.Scope.+lay.Given as goal

abbrev pub invariant-block-loop-statement : goal.invariant-block-loop-statement
invariant-block-loop-statement l =
    LaysSome (map procedure_of l.self.procedures.now) l.self.names.now (block_of l.block) (block_of (drop l.statement-index l.block)) l.initial.blocks l.blocks l.steps.items
