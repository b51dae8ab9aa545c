use Rattle.std.proofs.Common.{◌∙◌, sym, arith}
use Rattle.ppm_saved_reader.proofs.FrontLemmas.{no_front, front_more, front_ends}
use Rattle.ppm_saved_reader.proofs.first_run.plain_line.Goals as goal

-- nothing was read yet
pub loop-left-init : goal.loop-left-init
loop-left-init c = no_front c.args.text.now

-- a word and a line feed
pub returns-then-word-gt0 : goal.returns-then-word-gt0
returns-then-word-gt0 c =
    front_ends c.loop-left.invariant c.in-len1-up.len_at_least c.if-byte-eq10.true c.if-word-gt0.true (omega (arith, c.loop-left.auto.word-fits))

-- a digit more
pub loop-left-preserved : goal.loop-left-preserved
loop-left-preserved c =
    rw (c.from.ensures, c.saturating_sub.ensures)
    (front_more c.loop-left.invariant c.in-len1-up.len_at_least (sym c.is_digit.ensures ∙ c.if-not-is_digit.false)
    (rw (sym c.saturating_sub.ensures, sym c.from.ensures) c.if-word-eq0.false))
