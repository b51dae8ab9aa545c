-- What the statements from here on write is still to be noted.
use Rattle.std.proofs.Common.{◌≡◌, drop}
use Rattle.ppm_tree.specs.Tree.{block_of}
use Rattle.ppm_serial.specs.Names.{with_block}
use Rattle.ppm_serial.proofs.names.Names.+names.Given as goal

abbrev pub invariant-block-loop-statement : goal.invariant-block-loop-statement
invariant-block-loop-statement l = with_block l.self (block_of (drop l.statement-index l.block)) ≡ with_block l.initial.self (block_of l.block)
