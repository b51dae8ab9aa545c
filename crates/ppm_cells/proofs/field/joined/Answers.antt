use Rattle.std.proofs.Common.{◌+◌, ◌-◌, ◌≤◌, arith}
use Rattle.std.proofs.lemmas.Nat.{or_shifted, shl_whole}
use Rattle.ppm_cells.proofs.field.joined.Goals as goal

-- nothing is shifted out, and the two share no bit
pub returns : goal.returns
returns c =
    let room : (64 - c.args.width) + c.args.width ≤ 64 = omega (arith, c.requires.width) in
    rw (shl_whole c.args.high (64 - c.args.width) c.args.width 64 c.requires.high room)
    (or_shifted c.args.high c.args.width c.args.low c.requires.low)
