use Rattle.std.proofs.Common.{arith}
use Rattle.ppm_text.proofs.SpellingLemmas.{no_sign}
use Rattle.ppm_text.proofs.spelling.sign.Goals as goal

-- no sign has so few bytes
pub returns-in_default : goal.returns-in_default
returns-in_default c = no_sign c.args.bytes.now (λ few many. omega (arith, few, c.in_default.len_below))

-- or so many
pub returns-in_default-2 : goal.returns-in_default-2
returns-in_default-2 c = no_sign c.args.bytes.now (λ few many. omega (arith, many, c.in_default.len_at_least))
