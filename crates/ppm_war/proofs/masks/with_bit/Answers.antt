use Rattle.std.proofs.Common.{w32}
use Rattle.std.proofs.lemmas.Nat.Bits.{bit_at_set_same}
use Rattle.ppm_war.proofs.MaskLemmas.{or_left}
use Rattle.ppm_war.proofs.masks.with_bit.Goals as goal

-- the bit is set
pub returns-clause-same : goal.returns-clause-same
returns-clause-same c = bit_at_set_same w32 c.args.mask c.args.bit c.requires

-- and the others stay
pub returns-clause-kept : goal.returns-clause-kept
returns-clause-kept c = or_left c.args.mask _
