use Rattle.std.proofs.Common.{arith, rules, refl}
use Rattle.ppm_text.proofs.LexingLemmas.{skips_bounds}
use Rattle.ppm_text.proofs.ScanLemmas.{skipped_off, token_off}
use Rattle.ppm_text.proofs.scan.take_piece.Goals as goal

-- one piece ends one line at most
pub overflow_add-result : goal.overflow_add-result
overflow_add-result c = let piece = rw c.in-Skipped.is at c.in_ok-len.ensures in omega (arith, (skips_bounds piece).2)

-- nothing is added
pub returns-in-Skipped-clause-ok : goal.returns-in-Skipped-clause-ok
returns-in-Skipped-clause-ok c =
    let piece = rw c.in-Skipped.is at c.in_ok-len.ensures in
    skipped_off c.args.place c.args.line c.in-Skipped.len c.in-Skipped.lines c.args.bytes.now _ _ piece refl

-- the token is added
pub returns-in_ok-push-in-Token-clause-ok : goal.returns-in_ok-push-in-Token-clause-ok
returns-in_ok-push-in-Token-clause-ok c =
    let piece = rw c.in-Token.is at c.in_ok-len.ensures in
    token_off c.args.place c.args.line c.in-Token.len c.in-Token.kind c.args.bytes.now _ _ piece.0 piece.1 (search rules)
