use Rattle.std.proofs.Common.{inr}
use Rattle.ppm_text.proofs.ScanLemmas.{front_line_feed, front_blank, front_comment, front_high}
use Rattle.ppm_text.proofs.scan.front_piece.Goals as goal

-- a line feed
pub returns-in-LineFeed : goal.returns-in-LineFeed
returns-in-LineFeed c = front_line_feed c.args.bytes.now (rw c.in-LineFeed.is at c.front_class.ensures)

-- a blank
pub returns-in-Blank : goal.returns-in-Blank
returns-in-Blank c = front_blank c.args.bytes.now (rw c.in-Blank.is at c.front_class.ensures)

-- a comment, as long as it is
pub returns-in-Hash : goal.returns-in-Hash
returns-in-Hash c = front_comment c.args.bytes.now c.comment_len.result (rw c.in-Hash.is at c.front_class.ensures) c.comment_len.ensures.len

-- no byte of ASCII
pub returns-in-High : goal.returns-in-High
returns-in-High c = inr (front_high c.args.place c.args.bytes.now (rw c.in-High.is at c.front_class.ensures))
