use Rattle.std.proofs.Common.{◌≡◌, length}
use Rattle.ppm_explain.specs.Names.{stands_in}
use Rattle.ppm_explain.proofs.names.stands.Given as goal

-- what is left decides
abbrev pub invariant-tokens : goal.invariant-tokens
invariant-tokens l = stands_in l.fn.name l.fn.line l.left ≡ stands_in l.fn.name l.fn.line l.fn.tokens

abbrev pub decreases-tokens : goal.decreases-tokens
decreases-tokens l = length l.left
