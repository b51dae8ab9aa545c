use Rattle.ppm_listing_reader.proofs.FrontLemmas.{goes_more, goes_counted, goes_unended}
use Rattle.ppm_listing_reader.proofs.reading.read_lines.Goals as goal

-- a line more can be counted
pub take-requires : goal.take-requires
take-requires c = goes_counted c.args.text.now c.loop-bytes.reader c.loop-bytes.left.now c.requires c.loop-bytes.invariant

-- one line more
pub loop-bytes-preserved : goal.loop-bytes-preserved
loop-bytes-preserved c =
    goes_more c.args.text.now c.loop-bytes.reader c.take.new.self c.in_ok-read_line.field-0 c.loop-bytes.left.now c.in-Some.bytes.now c.in-Some.rest.now
    c.in-Some.ensures.pieces c.in-Some.ensures.shorter c.in_ok-read_line.ensures c.loop-bytes.invariant c.in_ok-take.ensures

-- what follows the last line feed is a line too
pub take-requires-2 : goal.take-requires-2
take-requires-2 c = goes_counted c.args.text.now c.loop-bytes.reader c.loop-bytes.left.now c.requires c.loop-bytes.invariant

pub returns-clause-lines : goal.returns-clause-lines
returns-clause-lines c =
    (goes_unended c.args.text.now c.loop-bytes.reader c.take-2.new.self c.loop-bytes.left.now c.in_default.ensures.pieces
    c.if-is_empty.ensures c.loop-bytes.invariant c.in_ok-take-2.ensures).lines
