use Rattle.ppm_pieces.proofs.NumberLemmas.{numeral-decimal, value-decimal, decimal-value}
use Rattle.ppm_pieces.proofs.laws.numerals_are_decimals.Goals as goal

pub returns : goal.returns
returns c = record { numeral = numeral-decimal; value_of = value-decimal; spelled = decimal-value }
