use Rattle.std.proofs.Common.{◌≡◌, ◌++◌, take}
use Rattle.std.specs.List.{flat_map}
use Rattle.ppm_listing.specs.Tokens.{operand_text}
use Rattle.ppm_listing.proofs.token.push_operands.Given as goal

abbrev pub invariant-loop-token : goal.invariant-loop-token
invariant-loop-token l = l.text.items ≡ l.fn.text.items ++ flat_map operand_text (take l.token-index l.operands)
