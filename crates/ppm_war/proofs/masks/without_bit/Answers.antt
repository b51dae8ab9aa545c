use Rattle.std.proofs.Common.{w32, ◌∙◌}
use Rattle.std.proofs.lemmas.Nat.Bits.{bit_at_clear_other}
use Rattle.ppm_war.proofs.masks.without_bit.Goals as goal

-- the others stay
pub returns : goal.returns
returns c = λ other small apart e. bit_at_clear_other w32 c.args.mask c.args.bit c.requires other small apart ∙ e
