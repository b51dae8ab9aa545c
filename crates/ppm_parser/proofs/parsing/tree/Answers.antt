use Rattle.std.proofs.Common.{◌∙◌, sym}
use Rattle.ppm_parser.proofs.Exits.{exit_by}
use Rattle.ppm_parser.proofs.Programs.{goes_first, goes_on, goes_shorter, stops_all, ends_all}
use Rattle.ppm_parser.proofs.parsing.tree.Goals as goal

-- nothing is declared yet
pub declarations-init : goal.declarations-init
declarations-init c = rw (c.none-declared.ensures, c.whole-room.ensures) (goes_first c.args.tokens.now)

-- a declaration stops
pub returns-in_err-next : goal.returns-in_err-next
returns-in_err-next c =
    exit_by _ _ _ c.from_residual.result c.from_residual.ensures.1
    (stops_all c.declarations.at.tokens.now (sym c.is_empty.ensures ∙ c.declarations-test.true) c.declarations.invariant c.in_err-next.ensures)

-- after it stand fewer tokens
pub declarations-smaller : goal.declarations-smaller
declarations-smaller c = goes_shorter c.declarations.invariant c.in_ok-next.ensures

-- one more was declared
pub declarations-preserved : goal.declarations-preserved
declarations-preserved c = rw c.in_ok-declared.ensures.tree (goes_on c.declarations.invariant c.in_ok-next.ensures)

-- the tokens end
pub returns : goal.returns
returns c =
    rw (c.from_vec.ensures, c.from_vec-2.ensures, c.from_vec-3.ensures)
    (ends_all c.declarations.at.tokens.now (sym c.is_empty.ensures ∙ c.declarations-test.false) c.declarations.invariant)
