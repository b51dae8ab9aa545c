use Rattle.std.proofs.Common.{sym, subst}
use Rattle.ppm_saved_reader.specs.Correct.{IsRefusal, TooLong}
use Rattle.ppm_saved_reader.proofs.PlaceLemmas.{reads_all, reads_on, refused}
use Rattle.ppm_saved_reader.proofs.SpelledLemmas.{front_read}
use Rattle.ppm_saved_reader.proofs.reading.read_front.Goals as goal

-- the text is too long
pub returns-then-text-gt-SAVED_LIMIT-clause-err : goal.returns-then-text-gt-SAVED_LIMIT-clause-err
returns-then-text-gt-SAVED_LIMIT-clause-err c = TooLong c.if-text-gt-SAVED_LIMIT.true

-- its first line is wrong, or its second
pub returns-in-Err-clause-err : goal.returns-in-Err-clause-err
returns-in-Err-clause-err c =
    subst (IsRefusal c.args.text.now) (sym c.at.ensures)
    (refused c.args.text.now 1 c.in-Err.fault (reads_all c.args.text.now c.if-text-gt-SAVED_LIMIT.false) c.in-Err.ensures.err)

pub returns-in-Err-read_sizes-clause-err : goal.returns-in-Err-read_sizes-clause-err
returns-in-Err-read_sizes-clause-err c =
    subst (IsRefusal c.args.text.now) (sym c.at-in-Err-read_sizes.ensures)
    (refused c.args.text.now 2 c.in-Err-read_sizes.fault (reads_on (reads_all c.args.text.now c.if-text-gt-SAVED_LIMIT.false) c.in-Ok.ensures.ok)
    c.in-Err-read_sizes.ensures.err)

-- or neither
pub returns-in-Ok-read_sizes-clause-ok : goal.returns-in-Ok-read_sizes-clause-ok
returns-in-Ok-read_sizes-clause-ok c =
    front_read c.args.text.now c.if-text-gt-SAVED_LIMIT.false c.in-Ok.ensures.ok c.in-Ok-read_sizes.ensures.ok
