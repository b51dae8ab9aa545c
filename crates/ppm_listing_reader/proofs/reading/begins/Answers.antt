use Rattle.std.proofs.Common.{◌∙◌, sym, ap, is_some}
use Rattle.ppm_listing_reader.specs.Places.{standing}
use Rattle.ppm_listing_reader.specs.declared.place.Place.TheVariants.{AtVersion}
use Rattle.ppm_listing_reader.proofs.FaultLemmas.{not_begun}
use Rattle.ppm_listing_reader.proofs.reading.begins.Goals as goal

-- the first line does not stand
pub returns-in_ok-line-in-Some : goal.returns-in_ok-line-in-Some
returns-in_ok-line-in-Some c = λ none.
    not_begun c.args.text.now c.in-Some.bytes.now c.in-Some.field-0-1.now c.in-Some.ensures.pieces
    (sym (c.is_some.ensures ∙ ap is_some (c.standing.ensures ∙ ap (standing AtVersion) c.in_ok-line-in-Some.ensures)) ∙ none)
