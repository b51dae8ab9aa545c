use Rattle.ppm_parser.proofs.Exits.{exit_by}
use Rattle.ppm_parser.proofs.Statements.{put_missing, put_index_fails, put_unassigned, put_value_fails, put_read}
use Rattle.ppm_parser.proofs.statement.put.Goals as goal

-- no bracket
pub returns-in_err-bracket : goal.returns-in_err-bracket
returns-in_err-bracket c =
    exit_by _ _ _ c.from_residual.result c.from_residual.ensures.1 (put_missing c.requires c.in_err-bracket.ensures)

-- the index stops
pub returns-in_err-index : goal.returns-in_err-index
returns-in_err-index c =
    exit_by _ _ _ c.from_residual-in_err-index.result c.from_residual-in_err-index.ensures.1
    (put_index_fails c.requires c.in_ok-bracket.ensures.0 c.in_ok-inner.ensures (rw c.in_ok-bracket.ensures.1 at c.in_err-index.ensures))

-- nothing is assigned
pub returns-in_err-at : goal.returns-in_err-at
returns-in_err-at c =
    exit_by _ _ _ c.from_residual-in_err-at.result c.from_residual-in_err-at.ensures.1
    (put_unassigned c.requires c.in_ok-bracket.ensures.0 c.in_ok-inner.ensures (rw c.in_ok-bracket.ensures.1 at c.in_ok-index.ensures) c.in_err-at.ensures)

-- the value stops
pub returns-in_err-value : goal.returns-in_err-value
returns-in_err-value c =
    exit_by _ _ _ c.from_residual-in_err-value.result c.from_residual-in_err-value.ensures.1
    (put_value_fails c.requires c.in_ok-bracket.ensures.0 c.in_ok-inner.ensures (rw c.in_ok-bracket.ensures.1 at c.in_ok-index.ensures)
    c.in_ok-at.ensures.0 (rw c.in_ok-at.ensures.1 at c.in_err-value.ensures))

-- an index and a value
pub returns : goal.returns
returns c =
    put_read c.requires c.in_ok-bracket.ensures.0 c.in_ok-inner.ensures (rw c.in_ok-bracket.ensures.1 at c.in_ok-index.ensures) c.in_ok-at.ensures.0
    (rw c.in_ok-at.ensures.1 at c.in_ok-value.ensures)
