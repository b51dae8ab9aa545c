use Rattle.std.proofs.Common.{◌∙◌, ℕ, false, List, length, refl, sym, ap, subst, arith}
use Rattle.std.proofs.lemmas.Bool.{both_ways}
use Rattle.ppm_saved.specs.Names.{lengths_of}
use Rattle.ppm_saved.specs.Saved.{IsWhole}
use Rattle.ppm_saved.specs.declared.names.NamedLength.{NamedLength}
use Rattle.ppm_saved_reader.specs.Places.{AtArrays}
use Rattle.ppm_saved_reader.specs.Correct.{IsRead, IsSavedText}
use Rattle.ppm_saved_reader.proofs.ExitLemmas.{exit_err}
use Rattle.ppm_saved_reader.proofs.SpelledLemmas.{read_sizes_fit, read_names, rest_within, coded_read, sizes_for, count_is, whole_state, state_read}
use Rattle.ppm_saved_reader.proofs.reading.read_saved.Goals as goal

-- the lines in front are wrong
pub returns-in_err-sizes-clause-err : goal.returns-in_err-sizes-clause-err
returns-in_err-sizes-clause-err c = exit_err _ _ c.from_residual.result c.from_residual.ensures.1 c.in_err-sizes.ensures.err

-- those of arrays
pub read_arrays-requires : goal.read_arrays-requires
read_arrays-requires c = omega (arith, rest_within c.args.text.now c.in_ok-sizes.ensures.ok)

pub returns-in_err-arrays-clause-err : goal.returns-in_err-arrays-clause-err
returns-in_err-arrays-clause-err c =
    exit_err _ _ c.from_residual-in_err-arrays.result c.from_residual-in_err-arrays.ensures.1
    (c.in_err-arrays.ensures.err c.args.text.now c.in_ok-sizes.sizes c.in_ok-sizes.ensures.ok)

-- the code
pub returns-in_err-coded-clause-err : goal.returns-in_err-coded-clause-err
returns-in_err-coded-clause-err c =
    let z = c.in_ok-sizes.sizes in
    let arrays = c.in_ok-arrays.arrays in
    let read = c.in_ok-arrays.ensures.ok c.args.text.now z c.in_ok-sizes.ensures.ok in
    exit_err _ _ c.from_residual-in_err-coded.result c.from_residual-in_err-coded.ensures.1
    (c.in_err-coded.ensures.err c.args.text.now z
    (subst (λ (l : List NamedLength). IsRead c.args.text.now (AtArrays z l) arrays.line arrays.rest.now) (sym c.deref.ensures.value) read))

-- the shape is one
pub shape_of-requires-clause-fit : goal.shape_of-requires-clause-fit
shape_of-requires-clause-fit c = read_sizes_fit c.args.text.now c.in_ok-sizes.ensures.ok

pub shape_of-requires-clause-few : goal.shape_of-requires-clause-few
shape_of-requires-clause-few c =
    let read = c.in_ok-arrays.ensures.ok c.args.text.now c.in_ok-sizes.sizes c.in_ok-sizes.ensures.ok in
    omega (arith, c.in_ok-arrays.ensures.words, (read_names c.args.text.now read).words_most)

pub returns-in_default-clause-err : goal.returns-in_default-clause-err
returns-in_default-clause-err c = absurd (both_ways false refl c.in_default.ensures.some)

-- the count of words
pub returns-in_err-behind-clause-err : goal.returns-in_err-behind-clause-err
returns-in_err-behind-clause-err c =
    let t = c.args.text.now in
    let z = c.in_ok-sizes.sizes in
    let arrays = c.in_ok-arrays.arrays in
    let items = arrays.arrays.items in
    let code = c.in_ok-coded.coded.code in
    let read = coded_read t z items c.deref.result.now code c.deref.ensures.value (c.in_ok-coded.ensures.ok t z) (c.in_ok-arrays.ensures.ok t z c.in_ok-sizes.ensures.ok) in
    let sizes = sizes_for c.in-Some.shape z items arrays.words c.in-Some.ensures.value c.in_ok-arrays.ensures.words in
    let count = c.from-count.ensures ∙ c.word_count.ensures.value ∙ count_is c.in-Some.shape z items sizes in
    exit_err _ _ c.from_residual-in_err-behind.result c.from_residual-in_err-behind.ensures.1 (c.in_err-behind.ensures.err t z items code count read)

-- the words
pub returns-in_err-words-clause-err : goal.returns-in_err-words-clause-err
returns-in_err-words-clause-err c =
    let t = c.args.text.now in
    let z = c.in_ok-sizes.sizes in
    let arrays = c.in_ok-arrays.arrays in
    let items = arrays.arrays.items in
    let code = c.in_ok-coded.coded.code in
    let read = coded_read t z items c.deref.result.now code c.deref.ensures.value (c.in_ok-coded.ensures.ok t z) (c.in_ok-arrays.ensures.ok t z c.in_ok-sizes.ensures.ok) in
    let sizes = sizes_for c.in-Some.shape z items arrays.words c.in-Some.ensures.value c.in_ok-arrays.ensures.words in
    let count = c.from-count.ensures ∙ c.word_count.ensures.value ∙ count_is c.in-Some.shape z items sizes in
    exit_err _ _ c.from_residual-in_err-words.result c.from_residual-in_err-words.ensures.1
    (c.in_err-words.ensures.err t z items code (c.in_ok-behind.ensures.ok t z items code count read))

-- the state is whole
pub from_vec-requires : goal.from_vec-requires
from_vec-requires c = read_names c.args.text.now (c.in_ok-arrays.ensures.ok c.args.text.now c.in_ok-sizes.sizes c.in_ok-sizes.ensures.ok)

pub invariant_of-result : goal.invariant_of-result
invariant_of-result c =
    let t = c.args.text.now in
    let z = c.in_ok-sizes.sizes in
    let arrays = c.in_ok-arrays.arrays in
    let items = arrays.arrays.items in
    let code = c.in_ok-coded.coded.code in
    let read = coded_read t z items c.deref.result.now code c.deref.ensures.value (c.in_ok-coded.ensures.ok t z) (c.in_ok-arrays.ensures.ok t z c.in_ok-sizes.ensures.ok) in
    let sizes = sizes_for c.in-Some.shape z items arrays.words c.in-Some.ensures.value c.in_ok-arrays.ensures.words in
    let count = c.from-count.ensures ∙ c.word_count.ensures.value ∙ count_is c.in-Some.shape z items sizes in
    let lengths = c.from_vec-2.ensures ∙ c.in_ok-lengths.ensures ∙ ap lengths_of c.deref-2.ensures.value in
    let many = ap (λ (l : List ℕ). length l) c.from_vec-3.ensures ∙ c.in_ok-words.ensures.ok.many ∙ count in
    record {
      whole = subst (λ (n : List NamedLength). IsWhole c.in-Some.shape n c.from_vec-2.result code c.from_vec-3.result) (sym c.from_vec.ensures)
          (whole_state t c.in-Some.shape z items c.from_vec-2.result code c.from_vec-3.result read sizes lengths many);
    }

-- and the text is its
pub returns-clause-ok : goal.returns-clause-ok
returns-clause-ok c =
    let t = c.args.text.now in
    let z = c.in_ok-sizes.sizes in
    let arrays = c.in_ok-arrays.arrays in
    let items = arrays.arrays.items in
    let code = c.in_ok-coded.coded.code in
    let read = coded_read t z items c.deref.result.now code c.deref.ensures.value (c.in_ok-coded.ensures.ok t z) (c.in_ok-arrays.ensures.ok t z c.in_ok-sizes.ensures.ok) in
    let sizes = sizes_for c.in-Some.shape z items arrays.words c.in-Some.ensures.value c.in_ok-arrays.ensures.words in
    let count = c.from-count.ensures ∙ c.word_count.ensures.value ∙ count_is c.in-Some.shape z items sizes in
    let same = state_read t c.in-Some.shape z items code c.in_ok-words.words.items read (c.in_ok-behind.ensures.ok t z items code count read) sizes
    c.in_ok-words.ensures.ok count in
    subst (λ (n : List NamedLength). IsSavedText t c.in-Some.shape n code c.from_vec-3.result) (sym c.from_vec.ensures)
    (subst (λ (l : List ℕ). IsSavedText t c.in-Some.shape items code l) (sym c.from_vec-3.ensures) same)
