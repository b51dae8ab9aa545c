-- The faults of a text's tokens, as the parser answers them.
use Rattle.std.specs.Prelude.{◌≡◌, ℕ, Option, Some, None}
use Rattle.ppm_grammar.specs.Faults.{Fault, Expected, Ended, TooDeep, TooMany}
use Rattle.ppm_text.specs.Tokens.{TextTokens}
use Rattle.ppm_rows.specs.Correct.{HasFault}
use Rattle.ppm_parser.specs.SyntaxErrorNumbers.{which_of}
use Rattle.ppm_parser.specs.declared.stop.Stop.{Stop}
use Rattle.ppm_parser.specs.declared.stop.Stop.TheVariants as stop
use Rattle.ppm_parser.specs.declared.syntax_error.SyntaxError.{SyntaxError}
use Rattle.ppm_parser.specs.declared.syntax_error.SyntaxError.TheVariants as error

-- the error is a fault of the text's tokens: no text begins with the tokens up to the place, the tokens end and so does the text at the
-- place, too many openings are open with the token at the place, or it passes a limit; nothing is said where memory was refused
abbrev pub IsFault : TextTokens → SyntaxError → Type 0
IsFault all (error.Expected place) = HasFault all.tokens (Expected place)
IsFault all (error.Ended place) = HasFault all.tokens Ended × (place ≡ all.text_len)
IsFault all (error.TooDeep place) = HasFault all.tokens (TooDeep place)
IsFault all (error.TooMany place which) = HasFault all.tokens (TooMany place (which_of which))
IsFault all error.NoMemory = Unit {0}

-- tokens that end do so where the text does
abbrev pub in_text : ℕ → Stop → SyntaxError
in_text text_len (stop.Expected place) = error.Expected place
in_text text_len stop.Ended = error.Ended text_len
in_text text_len (stop.TooDeep place) = error.TooDeep place
in_text text_len (stop.TooMany place which) = error.TooMany place which
in_text text_len stop.NoMemory = error.NoMemory

-- the fault that a stop is, if it is one
abbrev pub fault_of : Stop → Option Fault
fault_of (stop.Expected place) = Some (Expected place)
fault_of stop.Ended = Some Ended
fault_of (stop.TooDeep place) = Some (TooDeep place)
fault_of (stop.TooMany place which) = Some (TooMany place (which_of which))
fault_of stop.NoMemory = None
