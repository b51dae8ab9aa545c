use Rattle.std.proofs.Common.{◌≡◌, ◌++◌, drop}
use Rattle.ppm_tree.specs.Tree.{block_of}
use Rattle.ppm_printer.specs.Spelled.{text_of}
use Rattle.ppm_printer.specs.Canonical.{block_tokens}
use Rattle.ppm_printer.proofs.statement.+statements.Given as goal

-- what is written, and what is left
abbrev pub invariant-push_block-loop-statement : goal.invariant-push_block-loop-statement
invariant-push_block-loop-statement l =
    l.text.items ++ text_of (block_tokens (block_of (drop l.statement-index l.block))) ≡ l.fn.text.items ++ text_of (block_tokens (block_of l.block))
