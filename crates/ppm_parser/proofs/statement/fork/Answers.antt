use Rattle.ppm_parser.proofs.Exits.{exit_by}
use Rattle.ppm_parser.proofs.Statements.{fork_fails, fork_unjoined, fork_right_fails, fork_unended, fork_read}
use Rattle.ppm_parser.proofs.statement.fork.Goals as goal

-- the left side stops
pub returns-in_err-left : goal.returns-in_err-left
returns-in_err-left c =
    exit_by _ _ _ c.from_residual.result c.from_residual.ensures.1 (fork_fails c.in_err-left.ensures)

-- no other side
pub returns-in_err-at : goal.returns-in_err-at
returns-in_err-at c =
    exit_by _ _ _ c.from_residual-in_err-at.result c.from_residual-in_err-at.ensures.1
    (fork_unjoined c.in_ok-left.ensures c.in_err-at.ensures)

-- the right side stops
pub returns-in_err-right : goal.returns-in_err-right
returns-in_err-right c =
    exit_by _ _ _ c.from_residual-in_err-right.result c.from_residual-in_err-right.ensures.1
    (fork_right_fails c.in_ok-left.ensures c.in_ok-at.ensures.0 (rw c.in_ok-at.ensures.1 at c.in_err-right.ensures))

-- the semicolon is missing
pub returns-in_err-at-2 : goal.returns-in_err-at-2
returns-in_err-at-2 c =
    exit_by _ _ _ c.from_residual-in_err-at-2.result c.from_residual-in_err-at-2.ensures.1
    (fork_unended c.in_ok-left.ensures c.in_ok-at.ensures.0 (rw c.in_ok-at.ensures.1 at c.in_ok-right.ensures) c.in_err-at-2.ensures)

-- two sides
pub returns : goal.returns
returns c =
    rw c.in_ok-at-2.ensures.1 (fork_read c.in_ok-left.ensures c.in_ok-at.ensures.0 (rw c.in_ok-at.ensures.1 at c.in_ok-right.ensures)
    c.in_ok-at-2.ensures.0)
