use Rattle.std.proofs.Common.{◌≡◌, length, map}
use Rattle.ppm_expected.specs.Language.{terminal_of}
use Rattle.ppm_explain.specs.Hints.{comes}
use Rattle.ppm_explain.proofs.hints.comes.Given as goal

-- what is left decides
abbrev pub invariant-terminals : goal.invariant-terminals
invariant-terminals l = comes (terminal_of l.fn.wanted) (map terminal_of l.left) ≡ comes (terminal_of l.fn.wanted) (map terminal_of l.fn.terminals)

abbrev pub decreases-terminals : goal.decreases-terminals
decreases-terminals l = length l.left
