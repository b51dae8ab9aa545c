use Rattle.std.proofs.Common.{sym, subst, ◌∙◌, arith}
use Rattle.ppm_expected.specs.Language.{rows_of, terminal_of, phrase_of}
use Rattle.ppm_expected.proofs.ChoiceLemmas.{RowsLeft, one_less, the_row, part_begins, first_row, none_left, no_rows, next_below}
use Rattle.ppm_expected.proofs.choice.+choice.Goals as goal

-- at first all rows are left
pub row_for-rows-init : goal.row_for-rows-init
row_for-rows-init t c = first_row c.rows-left.ensures

-- the row begins so, and with it the part
pub row_for-returns-then-begins_row-clause-begins : goal.row_for-returns-then-begins_row-clause-begins
row_for-returns-then-begins_row-clause-begins t c =
    part_begins (subst (λ q. RowsLeft (phrase_of c.args.phrase) (terminal_of c.args.kind) (rows_of q)) c.in-Some.ensures.cases.0 c.rows.invariant)
    (sym c.begins_row.ensures ∙ c.if-begins_row.true)

-- it is the row
pub row_for-returns-then-begins_row-clause-row : goal.row_for-returns-then-begins_row-clause-row
row_for-returns-then-begins_row-clause-row t c =
    the_row (subst (λ q. RowsLeft (phrase_of c.args.phrase) (terminal_of c.args.kind) (rows_of q)) c.in-Some.ensures.cases.0 c.rows.invariant)
    (sym c.begins_row.ensures ∙ c.if-begins_row.true)

-- the row is left out
pub row_for-rows-preserved : goal.row_for-rows-preserved
row_for-rows-preserved t c =
    one_less (subst (λ q. RowsLeft (phrase_of c.args.phrase) (terminal_of c.args.kind) (rows_of q)) c.in-Some.ensures.cases.0 c.rows.invariant)
    (sym c.begins_row.ensures ∙ c.if-begins_row.false)

-- no row is left
pub row_for-returns-clause-begins : goal.row_for-returns-clause-begins
row_for-returns-clause-begins t c = none_left (no_rows c.rows.left.now c.in_default.ensures.cases) c.rows.invariant

-- the row begins with a part below this one, or with none
pub row_for-begins_row-requires : goal.row_for-begins_row-requires
row_for-begins_row-requires t c =
    let below = next_below (phrase_of c.args.phrase)
    (subst (λ q. RowsLeft (phrase_of c.args.phrase) (terminal_of c.args.kind) (rows_of q)) c.in-Some.ensures.cases.0 c.rows.invariant) in
    (omega (arith, below, c.decreases), tt)
