use Rattle.std.proofs.Common.{◌∙◌, sym, ap, subst, length, ltb-false}
use Rattle.ppm_listing.specs.Listing.{listing_of}
use Rattle.ppm_listing.specs.Correct.{NumbersFit}
use Rattle.ppm_listing_reader.specs.Limits.{listing_limit}
use Rattle.ppm_listing_reader.specs.Correct.{IsRefusal}
use Rattle.ppm_listing_reader.proofs.FrontLemmas.{found_listing, found_refusal}
use Rattle.ppm_listing_reader.proofs.reading.read_listing.Goals as goal

-- the first broken rule is the first fault
pub returns-in-Some-clause-err : goal.returns-in-Some-clause-err
returns-in-Some-clause-err c =
    subst (IsRefusal c.args.text.now) (sym c.at.ensures) (found_refusal c.args.text.now c.in_ok-read.read c.in_ok-read.ensures.lines
    (ltb-false listing_limit (length c.args.text.now) (sym c.is_too_long.ensures ∙ c.if-is_too_long.false))
    c.deref.result.now c.deref.ensures.value c.in-Some.fault c.in-Some.line c.in-Some.ensures)

-- no rule is broken, so the parts are a code
pub from_parts-requires : goal.from_parts-requires
from_parts-requires c =
    (found_listing c.args.text.now c.in_ok-read.read c.in_ok-read.ensures.lines c.in_ok-declared-in-None.field-0 c.deref.result.now c.deref-in-None.result.now
    c.deref.ensures.value c.deref-in-None.ensures.value c.in_ok-declared-in-None.ensures c.in-None.ensures).code

-- and the text is its listing
pub returns-clause-ok : goal.returns-clause-ok
returns-clause-ok c =
    (found_listing c.args.text.now c.in_ok-read.read c.in_ok-read.ensures.lines c.in_ok-declared-in-None.field-0 c.deref.result.now c.deref-in-None.result.now
    c.deref.ensures.value c.deref-in-None.ensures.value c.in_ok-declared-in-None.ensures c.in-None.ensures).same ∙ ap listing_of (sym c.from_parts.ensures)

pub returns-clause-fits : goal.returns-clause-fits
returns-clause-fits c =
    subst NumbersFit (sym c.from_parts.ensures) (found_listing c.args.text.now c.in_ok-read.read c.in_ok-read.ensures.lines c.in_ok-declared-in-None.field-0
    c.deref.result.now c.deref-in-None.result.now c.deref.ensures.value c.deref-in-None.ensures.value c.in_ok-declared-in-None.ensures c.in-None.ensures).fits
