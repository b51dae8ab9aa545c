use Rattle.std.proofs.Common.{arith, length-drop}
use Rattle.std.proofs.lemmas.Result.{err_from_is_err_and}
use Rattle.ppm_text.specs.Lexing.{here}
use Rattle.ppm_text.specs.Refusals.{too_long}
use Rattle.ppm_text.proofs.LexingLemmas.{joined}
use Rattle.ppm_text.proofs.ScanLemmas.{stop_refuses, long_exactly, tokens_of}
use Rattle.ppm_text.proofs.scan.tokens.Goals as goal

-- the text passes the limit
pub returns-then-text-gt-TEXT_LIMIT-clause-refused : goal.returns-then-text-gt-TEXT_LIMIT-clause-refused
returns-then-text-gt-TEXT_LIMIT-clause-refused c = too_long (omega arith)

-- and only such a text is too long
pub returns-then-text-gt-TEXT_LIMIT-clause-too_long : goal.returns-then-text-gt-TEXT_LIMIT-clause-too_long
returns-then-text-gt-TEXT_LIMIT-clause-too_long c = long_exactly c.args.text.now _ (too_long (omega arith))

-- nothing is lexed yet
pub loop-rest-init : goal.loop-rest-init
loop-rest-init c = record { lexed = rw c.new-all.ensures.items here; place = omega arith; line = omega arith; within = omega arith }

-- the text is lexed up to here, and here it stops
pub returns-in_err-len-clause-refused : goal.returns-in_err-len-clause-refused
returns-in_err-len-clause-refused c =
    let p = err_from_is_err_and c.from_residual.result c.from_residual.ensures.1 in
    let so_far = c.loop-rest.invariant in
    rw (p.1, p.2) (stop_refuses c.args.text.now _ _ _ _ _ so_far.within so_far.lexed c.in_err-len.ensures.err)

-- such a text is not too long
pub returns-in_err-len-clause-too_long : goal.returns-in_err-len-clause-too_long
returns-in_err-len-clause-too_long c =
    let p = err_from_is_err_and c.from_residual.result c.from_residual.ensures.1 in
    let so_far = c.loop-rest.invariant in
    rw (p.1, p.2) (long_exactly c.args.text.now _ (stop_refuses c.args.text.now _ _ _ _ _ so_far.within so_far.lexed c.in_err-len.ensures.err))

-- the piece joins what is lexed
pub loop-rest-preserved : goal.loop-rest-preserved
loop-rest-preserved c =
    let piece = c.in_ok-len.ensures.ok in
    record {
      lexed = rw (piece.added, c.behind-rest.ensures) (joined c.loop-rest.invariant.lexed piece.lexed);
      place = rw (c.behind-rest.ensures, length-drop) (omega (arith, piece.within));
      line = omega (arith, piece.lines);
      within = c.loop-rest.invariant.within;
    }

-- the whole text is lexed, so its tokens stand in it
pub from_parts-requires : goal.from_parts-requires
from_parts-requires c = tokens_of c.args.text.now _ _ _ _ c.loop-rest.invariant.within c.loop-rest.invariant.lexed
