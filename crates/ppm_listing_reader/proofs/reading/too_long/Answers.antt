use Rattle.std.proofs.Common.{◌∙◌, sym, ap, subst, cond, is_some}
use Rattle.ppm_listing_reader.specs.Places.{standing}
use Rattle.ppm_listing_reader.specs.Correct.{IsRefusal}
use Rattle.ppm_listing_reader.specs.declared.listing_error.ListingError.TheVariants.{NotThere, NoSuchForm}
use Rattle.ppm_listing_reader.specs.declared.place.Place.TheVariants.{AtVersion}
use Rattle.ppm_listing_reader.proofs.FaultLemmas.{long_refusal, long_unended}
use Rattle.ppm_listing_reader.proofs.reading.too_long.Goals as goal

-- the first line stands, or not
pub returns-in_ok-line-in-Some : goal.returns-in_ok-line-in-Some
returns-in_ok-line-in-Some c =
    let same = c.too_long_by.ensures ∙ ap (λ l. cond (is_some (standing AtVersion l)) (NotThere 1) (NoSuchForm 1)) c.in_ok-line-in-Some.ensures in
    subst (IsRefusal c.args.text.now) (sym same) (long_refusal c.args.text.now c.in-Some.bytes.now c.in-Some.field-0-1.now c.requires c.in-Some.ensures.pieces)

-- there is no whole line
pub returns-in-None : goal.returns-in-None
returns-in-None c = long_unended c.args.text.now c.requires c.in-None.ensures.pieces
