use Rattle.std.proofs.Common.{◌∙◌, List, length, sym, subst}
use Rattle.std.proofs.lemmas.Bool.{both_ways, ltb-true, ltb-false}
use Rattle.ppm_words.specs.declared.named_array.NamedArray.{NamedArray}
use Rattle.ppm_depth.specs.Start.{NamesArrays}
use Rattle.ppm_case.specs.Rules.{case_limit}
use Rattle.ppm_case.proofs.ReadLemmas.{exit_err}
use Rattle.ppm_racy.specs.Code.{plain_code}
use Rattle.ppm_racy_listing.specs.Correct.{IsRacyListing}
use Rattle.ppm_racy_case.specs.Case.{IsRacyCaseOf}
use Rattle.ppm_racy_case.specs.Faults.{IsRacyCaseRefusal, TooLong}
use Rattle.ppm_racy_case.proofs.ReadLemmas.{array_refused, line_within, refused, unnamed, case_is}
use Rattle.ppm_racy_case.proofs.reading.read_racy_case.Goals as goal

-- the text is too long
pub returns-then-is_too_long-clause-err : goal.returns-then-is_too_long-clause-err
returns-then-is_too_long-clause-err c =
    subst (IsRacyCaseRefusal c.args.text.now) (sym c.of_input.ensures)
    (TooLong (ltb-true case_limit (length c.args.text.now) (sym c.is_too_long.ensures ∙ c.if-is_too_long.true)))

-- or it is not
pub read_arrays-requires : goal.read_arrays-requires
read_arrays-requires c = ltb-false case_limit (length c.args.text.now) (sym c.is_too_long.ensures ∙ c.if-is_too_long.false)

-- an array is refused
pub returns-in_err-read-clause-err : goal.returns-in_err-read-clause-err
returns-in_err-read-clause-err c =
    exit_err _ _ c.from_residual.result c.from_residual.ensures.1 (array_refused c.args.text.now _ c.in_err-read.ensures.err)

-- the listing is refused
pub of_listing-requires : goal.of_listing-requires
of_listing-requires c =
    let short = ltb-false case_limit (length c.args.text.now) (sym c.is_too_long.ensures ∙ c.if-is_too_long.false) in
    line_within c.in_ok-read.ensures.read short c.in_ok-read.ensures.input c.in-Err.error c.in-Err.ensures.err

pub returns-in-Err-clause-err : goal.returns-in-Err-clause-err
returns-in-Err-clause-err c =
    let short = ltb-false case_limit (length c.args.text.now) (sym c.is_too_long.ensures ∙ c.if-is_too_long.false) in
    subst (IsRacyCaseRefusal c.args.text.now) (sym c.of_listing.ensures)
    (refused c.in_ok-read.ensures.read short c.in_ok-read.ensures.none c.in-Err.error c.in-Err.ensures.err)

-- the root names an array that is not there
pub returns-then-not-names_arrays-clause-err : goal.returns-then-not-names_arrays-clause-err
returns-then-not-names_arrays-clause-err c =
    let short = ltb-false case_limit (length c.args.text.now) (sym c.is_too_long.ensures ∙ c.if-is_too_long.false) in
    let listed : IsRacyListing c.in_ok-read.read.rest.now c.in-Ok.code =
    record { code = c.names_arrays.ensures.code; fits = c.in-Ok.ensures.fits; same = c.in-Ok.ensures.ok } in
    subst (IsRacyCaseRefusal c.args.text.now) (sym c.of_input-then-not-names_arrays.ensures)
    (unnamed c.in_ok-read.ensures.read short c.in-Ok.code listed
    (λ named. both_ways c.names_arrays.result c.if-not-names_arrays.true
    (c.names_arrays.ensures.exactly.1 (subst (λ (l : List NamedArray). NamesArrays (plain_code c.in-Ok.code) l) (sym c.deref.ensures.value) named))))

-- or all is well
pub from_vec-requires : goal.from_vec-requires
from_vec-requires c = c.in_ok-read.ensures.input

pub invariant_of-result : goal.invariant_of-result
invariant_of-result c =
    let named = subst (λ (l : List NamedArray). NamesArrays (plain_code c.in-Ok.code) l) c.deref.ensures.value
    (c.names_arrays.ensures.exactly.0 c.if-not-names_arrays.false) in
    record { named = subst (λ (l : List NamedArray). NamesArrays (plain_code c.in-Ok.code) l) (sym c.from_vec.ensures) named }

pub returns-clause-ok : goal.returns-clause-ok
returns-clause-ok c =
    let short = ltb-false case_limit (length c.args.text.now) (sym c.is_too_long.ensures ∙ c.if-is_too_long.false) in
    let listed : IsRacyListing c.in_ok-read.read.rest.now c.in-Ok.code =
    record { code = c.names_arrays.ensures.code; fits = c.in-Ok.ensures.fits; same = c.in-Ok.ensures.ok } in
    let named = subst (λ (l : List NamedArray). NamesArrays (plain_code c.in-Ok.code) l) c.deref.ensures.value
    (c.names_arrays.ensures.exactly.0 c.if-not-names_arrays.false) in
    subst (λ (l : List NamedArray). IsRacyCaseOf c.args.text.now c.in-Ok.code l) (sym c.from_vec.ensures)
    (case_is c.in_ok-read.ensures.read short c.in-Ok.code listed named)
