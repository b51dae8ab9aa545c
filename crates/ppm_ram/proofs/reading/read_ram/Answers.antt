use Rattle.std.proofs.Common.{◌≡◌, ◌∙◌, ◌≤◌, List, length, sym, ap, subst, Err}
use Rattle.std.proofs.lemmas.Bool.{cond-true, ltb-false}
use Rattle.ppm_pieces.specs.Pieces.{split}
use Rattle.ppm_ram.specs.declared.ram_error.RamFault.TheVariants as fault
use Rattle.ppm_ram.specs.Limits.{text_limit}
use Rattle.ppm_ram.specs.Lines.{IsRefusal, ram_in}
use Rattle.ppm_ram.specs.Said.{headed}
use Rattle.ppm_ram.specs.Text.{IsTextOf}
use Rattle.ppm_ram.proofs.LoopLemmas.{lines_of_text, refused_text}
use Rattle.ppm_ram.proofs.TextLemmas.{texts}
use Rattle.ppm_ram.proofs.reading.read_ram.Goals as goal

-- the text is too long
pub returns-then-is_too_long-clause-err : goal.returns-then-is_too_long-clause-err
returns-then-is_too_long-clause-err c =
    subst (IsRefusal c.args.text.now) (sym c.refused.ensures)
    (cond-true _ (Err (fault.NoSuchForm, 1)) (headed (split 10 c.args.text.now)) (sym c.is_too_long.ensures ∙ c.if-is_too_long.true))

-- or it is not
pub read_lines-requires : goal.read_lines-requires
read_lines-requires c = ltb-false text_limit (length c.args.text.now) (sym c.is_too_long.ensures ∙ c.if-is_too_long.false)

-- its lines are those of a RAM
pub from_parts-requires : goal.from_parts-requires
from_parts-requires c =
    let all = lines_of_text c.args.text.now (sym c.is_too_long.ensures ∙ c.if-is_too_long.false) ∙ c.in-Ok.ensures.ok in
    ((texts c.args.text.now c.in-Ok.parts).0 all).ram

pub returns-in-Ok-clause-ok : goal.returns-in-Ok-clause-ok
returns-in-Ok-clause-ok c =
    let all = lines_of_text c.args.text.now (sym c.is_too_long.ensures ∙ c.if-is_too_long.false) ∙ c.in-Ok.ensures.ok in
    subst (IsTextOf c.args.text.now) (sym c.from_parts.ensures) ((texts c.args.text.now c.in-Ok.parts).0 all)

-- or of none
pub returns-in-Err-clause-err : goal.returns-in-Err-clause-err
returns-in-Err-clause-err c =
    refused_text c.args.text.now (headed (split 10 c.args.text.now)) c.in-Err.error
    (lines_of_text c.args.text.now (sym c.is_too_long.ensures ∙ c.if-is_too_long.false)) c.in-Err.ensures.err
