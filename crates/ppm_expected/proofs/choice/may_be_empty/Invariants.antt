use Rattle.std.proofs.Common.{◌≡◌, length}
use Rattle.ppm_grammar.specs.Predictive.{some, may_be_empty}
use Rattle.ppm_rows.specs.Language.{language}
use Rattle.ppm_expected.specs.Language.{phrase_of, rows_of}
use Rattle.ppm_expected.proofs.ChoiceLemmas.{is_nil}
use Rattle.ppm_expected.proofs.choice.may_be_empty.Given as goal

-- the empty row is one of those that are left
abbrev pub invariant-rows : goal.invariant-rows
invariant-rows l = some is_nil (rows_of l.left) ≡ may_be_empty language (phrase_of l.fn.phrase)

abbrev pub decreases-rows : goal.decreases-rows
decreases-rows l = length l.left
