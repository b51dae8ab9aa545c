use Rattle.std.proofs.Common.{◌∙◌, Some, None, sym, ap, map, length, slice_get}
use Rattle.std.proofs.lemmas.Option.{slice_get-get_or, slice_get_past}
use Rattle.ppm_code.specs.Strands.{instrs_in, instrs_of}
use Rattle.ppm_listing_reader.specs.Outlines.{blank}
use Rattle.ppm_listing_reader.proofs.AgreeLemmas.{head_count}
use Rattle.ppm_listing_reader.proofs.outline.Outline.instr_count.Goals as goal

-- the capsule's head has its number of lines
pub returns-in-Some : goal.returns-in-Some
returns-in-Some c =
    let heads = c.deref.result.now in
    let head = c.in-Some.head.now in
    let found = slice_get-get_or heads c.args.capsule head c.in-Some.ensures.lookup.3.0 ∙ ap Some (sym c.in-Some.ensures.lookup.1) in
    sym (head_count heads c.args.capsule (Some head) found) ∙ ap (λ hs. length (instrs_in (slice_get (map blank hs) c.args.capsule))) c.deref.ensures.value
    ∙ ap (λ o. length (instrs_of o c.args.capsule)) c.self.view_is

-- there is no head
pub returns-in-None : goal.returns-in-None
returns-in-None c =
    let heads = c.deref.result.now in
    sym (head_count heads c.args.capsule None (slice_get_past heads c.args.capsule c.in-None.ensures.lookup.3))
    ∙ ap (λ hs. length (instrs_in (slice_get (map blank hs) c.args.capsule))) c.deref.ensures.value
    ∙ ap (λ o. length (instrs_of o c.args.capsule)) c.self.view_is
