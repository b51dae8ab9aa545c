use Rattle.std.proofs.Common.{◌≡◌, ◌++◌, length, map}
use Rattle.ppm_expected.specs.Language.{terminal_of}
use Rattle.ppm_explain.specs.Words.{more_text}
use Rattle.ppm_explain.proofs.words.push_more.Given as goal

-- what is written, and what is left
abbrev pub invariant-terminals : goal.invariant-terminals
invariant-terminals l =
    l.text.items ++ more_text (map terminal_of l.left) ≡ l.fn.text.items ++ more_text (map terminal_of l.fn.terminals)

abbrev pub decreases-terminals : goal.decreases-terminals
decreases-terminals l = length l.left
