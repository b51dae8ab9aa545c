use Rattle.std.proofs.Common.{arith}
use Rattle.ppm_pieces.proofs.PieceLemmas.{split_whole, split_first, halves_none, halves_some}
use Rattle.ppm_pieces.proofs.split.split_once.Goals as goal

-- what stands in front of a separator and after it
pub returns-then-len-bytes-clause-halves : goal.returns-then-len-bytes-clause-halves
returns-then-len-bytes-clause-halves c =
    rw (c.behind.ensures, c.front_len-len.ensures.len) (halves_some c.args.separator c.args.bytes.now
    (omega (arith, c.if-len-bytes.true, c.front_len-len.ensures.len)))

pub returns-then-len-bytes-clause-pieces : goal.returns-then-len-bytes-clause-pieces
returns-then-len-bytes-clause-pieces c =
    rw (c.behind.ensures, c.front_len-len.ensures.len) (split_first c.args.separator c.args.bytes.now
    (omega (arith, c.if-len-bytes.true, c.front_len-len.ensures.len)))

-- one piece
pub returns-else-len-bytes-clause-halves : goal.returns-else-len-bytes-clause-halves
returns-else-len-bytes-clause-halves c =
    halves_none c.args.separator c.args.bytes.now (omega (arith, c.if-len-bytes.false, c.front_len-len.ensures.len))

pub returns-else-len-bytes-clause-pieces : goal.returns-else-len-bytes-clause-pieces
returns-else-len-bytes-clause-pieces c =
    split_whole c.args.separator c.args.bytes.now (omega (arith, c.if-len-bytes.false, c.front_len-len.ensures.len))
