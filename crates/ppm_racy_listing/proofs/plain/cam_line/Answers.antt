-- The words, one after another.
use Rattle.std.proofs.Common.{rules}
use Rattle.ppm_racy_listing.proofs.CamLemmas.{begins_with, other_line, long_line}
use Rattle.ppm_racy_listing.proofs.plain.cam_line.Goals as goal

pub returns-then-not-same_bytes : goal.returns-then-not-same_bytes
returns-then-not-same_bytes c =
    other_line c.args.line.now c.in_ok-keyword.keyword.now c.in_ok-region.region.now c.in_ok-index.index.now c.in_ok-old.old.now c.in_ok-new.new.now
    c.in_ok-new.line.now
    (begins_with c.args.line.now c.in_ok-keyword.keyword.now c.in_ok-keyword.rest.now c.in_ok-region.region.now c.in_ok-region.rest.now
    c.in_ok-index.index.now c.in_ok-index.rest.now c.in_ok-old.old.now c.in_ok-old.rest.now c.in_ok-new.new.now c.in_ok-new.line.now
    c.in_ok-keyword.ensures.pieces c.in_ok-region.ensures.pieces c.in_ok-index.ensures.pieces c.in_ok-old.ensures.pieces c.in_ok-new.ensures.pieces)
    (search rules)

pub returns-in-Some : goal.returns-in-Some
returns-in-Some c =
    long_line c.args.line.now c.in_ok-keyword.keyword.now c.in_ok-region.region.now c.in_ok-index.index.now c.in_ok-old.old.now c.in_ok-new.new.now
    c.in_ok-new.line.now c.in-Some.field-0.0.now c.in-Some.field-0.1.now
    (begins_with c.args.line.now c.in_ok-keyword.keyword.now c.in_ok-keyword.rest.now c.in_ok-region.region.now c.in_ok-region.rest.now
    c.in_ok-index.index.now c.in_ok-index.rest.now c.in_ok-old.old.now c.in_ok-old.rest.now c.in_ok-new.new.now c.in_ok-new.line.now
    c.in_ok-keyword.ensures.pieces c.in_ok-region.ensures.pieces c.in_ok-index.ensures.pieces c.in_ok-old.ensures.pieces c.in_ok-new.ensures.pieces)
    c.in-Some.ensures.pieces
