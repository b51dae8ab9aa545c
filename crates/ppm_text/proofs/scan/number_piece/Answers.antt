use Rattle.std.proofs.Common.{inr}
use Rattle.ppm_text.proofs.ScanLemmas.{front_number, front_big_number}
use Rattle.ppm_text.proofs.scan.number_piece.Goals as goal

-- the digits in front are the longest token, and their value is within the limit
pub returns-in-Some : goal.returns-in-Some
returns-in-Some c =
    let value = c.in-Some.ensures.some in
    rw c.from_u64.ensures (front_number c.args.bytes.now c.number_len-len.result c.in-Some.n c.requires c.number_len-len.ensures.len value.0, value.1)

-- their value passes the limit
pub returns-in-None : goal.returns-in-None
returns-in-None c =
    let len = c.number_len-len.ensures.len in
    inr (front_big_number c.args.place c.args.bytes.now c.number_len-len.result c.requires len c.in-None.ensures.none)
