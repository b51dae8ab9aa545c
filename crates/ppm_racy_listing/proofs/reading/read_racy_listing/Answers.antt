-- By the text with puts, and the first old register that is none.
use Rattle.std.proofs.Common.{◌≡◌, ◌∙◌, None, sym, ap, subst}
use Rattle.ppm_code.specs.Code.{IsCode}
use Rattle.ppm_listing_reader.specs.Correct.{IsRefusal}
use Rattle.ppm_racy_listing.specs.Correct.{IsRacyRefusal}
use Rattle.ppm_racy_listing.specs.Exchanges.{exchanged_code}
use Rattle.ppm_racy_listing.specs.Listing.{racy_listing_of}
use Rattle.ppm_racy_listing.specs.Plain.{olds_of, first_wrong}
use Rattle.ppm_racy_listing.proofs.WholeLemmas.{text_is_racy}
use Rattle.ppm_racy_listing.proofs.WrongLemmas.{no_wrong, all_registers, refused, old_alone}
use Rattle.ppm_racy_listing.proofs.reading.read_racy_listing.Goals as goal

pub returns-in-Some-clause-err : goal.returns-in-Some-clause-err
returns-in-Some-clause-err c =
    old_alone c.args.text.now c.in-Ok.code c.in-Some.line (record {
      code = subst IsCode c.code.view_is c.code.invariant;
      fits = c.in-Ok.ensures.fits;
      same = sym c.in_ok-plain.ensures.text ∙ sym c.deref-2.ensures.value ∙ c.in-Ok.ensures.ok;
    }) (ap (first_wrong 1) (sym c.in_ok-plain.ensures.olds ∙ sym c.deref.ensures.value) ∙ sym c.first_wrong-wrong.ensures ∙ c.in-Some.is)

pub returns-in-Ok-clause-ok : goal.returns-in-Ok-clause-ok
returns-in-Ok-clause-ok c =
    let olds = sym c.in_ok-plain.ensures.olds ∙ sym c.deref.ensures.value in
    let none : first_wrong 1 (olds_of c.args.text.now) ≡ None = ap (first_wrong 1) olds ∙ sym c.first_wrong-wrong.ensures ∙ c.in-None.is in
    text_is_racy c.args.text.now c.in-Ok.code (sym c.in_ok-plain.ensures.text ∙ sym c.deref-2.ensures.value ∙ c.in-Ok.ensures.ok)
    c.in-Ok.ensures.fits (all_registers (olds_of c.args.text.now) (no_wrong 1 (olds_of c.args.text.now) none))
    ∙ ap racy_listing_of (sym (c.in_ok-with_exchanges-in-None.ensures.code
    ∙ ap (λ os. exchanged_code os c.in-Ok.code) (c.deref-in-None.ensures.value ∙ c.in_ok-plain.ensures.olds)))

pub returns-clause-err : goal.returns-clause-err
returns-clause-err c =
    subst (IsRacyRefusal c.args.text.now) (sym c.earlier.ensures)
    (refused c.args.text.now c.in-Err.error c.first_wrong-wrong.result
    (subst (λ t. IsRefusal t c.in-Err.error) (c.deref-2.ensures.value ∙ c.in_ok-plain.ensures.text) c.in-Err.ensures.err)
    (ap (first_wrong 1) (sym c.in_ok-plain.ensures.olds ∙ sym c.deref.ensures.value) ∙ sym c.first_wrong-wrong.ensures))
