use Rattle.std.proofs.Common.{◌≡◌, ◌++◌, length}
use Rattle.ppm_explain.specs.Names.{names_from}
use Rattle.ppm_explain.proofs.names.push_names.Given as goal

-- what is written, and what is left
abbrev pub invariant-tokens : goal.invariant-tokens
invariant-tokens l =
    l.text.items ++ names_from l.tokens l.line l.left ≡ l.fn.text.items ++ names_from l.fn.tokens l.fn.line l.fn.tokens

abbrev pub decreases-tokens : goal.decreases-tokens
decreases-tokens l = length l.left
