use Rattle.std.proofs.Common.{length, ◌*◌}
use Rattle.ppm_expected.specs.Language.{terminal_of, phrase_of, item_of, items_of, rows_of}
use Rattle.ppm_expected.proofs.ChoiceLemmas.{height, rank, rank_row, RowsLeft}
use Rattle.ppm_expected.proofs.choice.+choice.Given as goal

abbrev pub decreases-begins : goal.decreases-begins
decreases-begins l = rank (item_of l.item)

abbrev pub decreases-begins_row : goal.decreases-begins_row
decreases-begins_row l = rank_row (items_of l.items.now)

abbrev pub decreases-row_for : goal.decreases-row_for
decreases-row_for l = 3 * height (phrase_of l.phrase)

-- the row that comes is one of those that are left
abbrev pub invariant-row_for-rows : goal.invariant-row_for-rows
invariant-row_for-rows l = RowsLeft (phrase_of l.fn.phrase) (terminal_of l.kind) (rows_of l.left)

abbrev pub decreases-row_for-rows : goal.decreases-row_for-rows
decreases-row_for-rows l = length l.left
