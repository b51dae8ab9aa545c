use Rattle.ppm_parser.proofs.Programs.{stop_is}
use Rattle.ppm_parser.proofs.parsing.parse.Goals as goal

-- the tokens have a fault
pub returns-in-Err-clause-fault : goal.returns-in-Err-clause-fault
returns-in-Err-clause-fault c =
    rw c.in_text.ensures (stop_is c.args.tokens.now _ _ c.text_len-text_len.ensures.value (rw c.as_slice.ensures.value at c.in-Err.ensures))
