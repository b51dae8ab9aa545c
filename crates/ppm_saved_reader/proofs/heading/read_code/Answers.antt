use Rattle.std.proofs.Common.{◌≡◌, ◌∙◌, ◌+◌, List, ℕ, take, drop, sym, ap, subst, arith}
use Rattle.std.proofs.lemmas.Bool.{both_ways}
use Rattle.ppm_listing_reader.specs.Correct.{IsListing}
use Rattle.ppm_listing_reader.specs.Correct.{IsRefusal as IsListingRefusal}
use Rattle.ppm_saved_reader.specs.Rules.{line_feeds}
use Rattle.ppm_saved_reader.specs.Places.{AtWords}
use Rattle.ppm_saved_reader.specs.Correct.{IsRead, IsRefusal}
use Rattle.ppm_saved_reader.proofs.HeadLemmas.{code_none, code_other, code_short, code_refused, code_unnamed, code_unfit, code_read}
use Rattle.ppm_saved_reader.proofs.heading.read_code.Goals as goal

-- there is no line of a code
pub returns-in_default-clause-err : goal.returns-in_default-clause-err
returns-in_default-clause-err c = λ whole z read. code_none c.args.text.now c.in_default.ensures.halves read

pub returns-in_default-count_in-clause-err : goal.returns-in_default-count_in-clause-err
returns-in_default-count_in-clause-err c = λ whole z read.
    code_other c.args.text.now c.in-Some.bytes.now c.in-Some.rest.now c.in-Some.ensures.halves c.requires.none read (sym c.in_default-count_in.ensures)

-- fewer bytes follow
pub returns-then-rest-count-clause-err : goal.returns-then-rest-count-clause-err
returns-then-rest-count-clause-err c = λ whole z read.
    code_short c.args.text.now c.in-Some.bytes.now c.in-Some.rest.now c.in-Some.ensures.halves c.requires.none read c.in-Some-count_in.count
    (sym c.in-Some-count_in.ensures) c.if-rest-count.true

-- they are no listing
pub returns-in-Err-clause-err : goal.returns-in-Err-clause-err
returns-in-Err-clause-err c = λ whole z read.
    subst (IsRefusal whole) (sym c.for_listing.ensures)
    (code_refused c.args.text.now c.in-Some.bytes.now c.in-Some.rest.now c.in-Some.ensures.halves c.requires.none read c.in-Some-count_in.count
    (sym c.in-Some-count_in.ensures) c.if-rest-count.false c.faults_tell_listings.ensures.law c.in-Err.error
    (subst (λ (l : List ℕ). IsListingRefusal l c.in-Err.error) c.front-listing.ensures c.in-Err.ensures.err))

-- they name an array that is not there
pub returns-then-not-names_arrays-clause-err : goal.returns-then-not-names_arrays-clause-err
returns-then-not-names_arrays-clause-err c = λ whole z read.
    let is : IsListing (take c.in-Some-count_in.count c.in-Some.rest.now) c.in-Ok.code = record {
      code = c.names_arrays.ensures.code;
      fits = c.in-Ok.ensures.fits;
      same = sym c.front-listing.ensures ∙ c.in-Ok.ensures.ok;
    } in
    code_unnamed c.args.text.now c.in-Some.bytes.now c.in-Some.rest.now c.in-Some.ensures.halves c.requires.none read c.in-Some-count_in.count
    (sym c.in-Some-count_in.ensures) c.if-rest-count.false c.in-Ok.code is
    (λ named. both_ways c.names_arrays.result c.if-not-names_arrays.true (c.names_arrays.ensures.exactly.1 named))

-- their code may not be run again
pub returns-then-not-is_free-clause-err : goal.returns-then-not-is_free-clause-err
returns-then-not-is_free-clause-err c = λ whole z read.
    let is : IsListing (take c.in-Some-count_in.count c.in-Some.rest.now) c.in-Ok.code = record {
      code = c.names_arrays.ensures.code;
      fits = c.in-Ok.ensures.fits;
      same = sym c.front-listing.ensures ∙ c.in-Ok.ensures.ok;
    } in
    code_unfit c.args.text.now c.in-Some.bytes.now c.in-Some.rest.now c.in-Some.ensures.halves c.requires.none read c.in-Some-count_in.count
    (sym c.in-Some-count_in.ensures) c.if-rest-count.false c.in-Ok.code is (c.names_arrays.ensures.exactly.0 c.if-not-names_arrays.false)
    (λ free tidy. both_ways c.is_free.result c.if-not-is_free.true (c.is_free.ensures.1 free))

pub returns-then-not-tidy-clause-err : goal.returns-then-not-tidy-clause-err
returns-then-not-tidy-clause-err c = λ whole z read.
    let is : IsListing (take c.in-Some-count_in.count c.in-Some.rest.now) c.in-Ok.code = record {
      code = c.names_arrays.ensures.code;
      fits = c.in-Ok.ensures.fits;
      same = sym c.front-listing.ensures ∙ c.in-Ok.ensures.ok;
    } in
    code_unfit c.args.text.now c.in-Some.bytes.now c.in-Some.rest.now c.in-Some.ensures.halves c.requires.none read c.in-Some-count_in.count
    (sym c.in-Some-count_in.ensures) c.if-rest-count.false c.in-Ok.code is (c.names_arrays.ensures.exactly.0 c.if-not-names_arrays.false)
    (λ free tidy. both_ways c.tidy.result c.if-not-tidy.true (c.tidy.ensures.1 tidy))

-- or all is well
pub returns-clause-ok : goal.returns-clause-ok
returns-clause-ok c = λ whole z read.
    let n = c.in-Some-count_in.count in
    let rest = c.in-Some.rest.now in
    let is : IsListing (take n rest) c.in-Ok.code = record {
      code = c.names_arrays.ensures.code;
      fits = c.in-Ok.ensures.fits;
      same = sym c.front-listing.ensures ∙ c.in-Ok.ensures.ok;
    } in
    let feeds : c.line_feeds.result ≡ line_feeds (take n rest) = c.line_feeds.ensures.value ∙ ap line_feeds c.front-listing.ensures in
    let lines : c.args.line + (1 + line_feeds (take n rest)) ≡ c.args.line + 1 + c.line_feeds.result = omega (arith, feeds) in
    subst (λ (r : List ℕ). IsRead whole (AtWords z c.args.arrays.now c.in-Ok.code) (c.args.line + 1 + c.line_feeds.result) r) (sym c.behind.ensures)
    (subst (λ (l : ℕ). IsRead whole (AtWords z c.args.arrays.now c.in-Ok.code) l (drop n rest)) lines
    (code_read c.args.text.now c.in-Some.bytes.now rest c.in-Some.ensures.halves c.requires.none read n (sym c.in-Some-count_in.ensures) c.if-rest-count.false
    c.in-Ok.code is (c.names_arrays.ensures.exactly.0 c.if-not-names_arrays.false) (c.is_free.ensures.0 c.if-not-is_free.false)
    (c.tidy.ensures.0 c.if-not-tidy.false)))
