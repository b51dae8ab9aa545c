use Rattle.std.proofs.Common.{w64}
use Rattle.std.proofs.lemmas.Nat.Bits.{bit_at_clear_same, bit_at_clear_other}
use Rattle.ppm_gaps.proofs.hanging.without_word.Goals as goal

-- it is cleared
pub returns-clause-same : goal.returns-clause-same
returns-clause-same c = bit_at_clear_same w64 c.args.words c.args.register.index c.args.register.in_range

-- the others stay
pub returns-clause-others : goal.returns-clause-others
returns-clause-others c = λ r small other. bit_at_clear_other w64 c.args.words c.args.register.index c.args.register.in_range r small other
