use Rattle.std.proofs.Common.{◌≡◌, ◌++◌, length}
use Rattle.ppm_explain.specs.declared.declaring.Before.TheVariants as before
use Rattle.ppm_explain.specs.Names.{declared_from}
use Rattle.ppm_explain.proofs.names.push_declared.Given as goal

-- what is written, and what is left
abbrev pub invariant-tokens : goal.invariant-tokens
invariant-tokens l =
    l.text.items ++ declared_from l.before l.name l.left ≡ l.fn.text.items ++ declared_from before.Other l.fn.name l.fn.tokens

abbrev pub decreases-tokens : goal.decreases-tokens
decreases-tokens l = length l.left
