use Rattle.std.proofs.Common.{◌<◌, ◌^◌, ℕ, ℤ, List, length, ap, ◌∙◌, arith, lit<}
use Rattle.ppm_words.specs.declared.named_array.NamedArray.{NamedArray}
use Rattle.ppm_layout.proofs.InputLemmas.{next_within, within_front, whole_is}
use Rattle.ppm_layout.proofs.root.region_of.Goals as goal

-- an array has no more values than all have
pub overflow_cast-start : goal.overflow_cast-start
overflow_cast-start c =
    let most : 4194304 < 2 ^ 32 = lit< tt in
    let so_far = within_front c.args.arrays.now c.args.number c.loop-array.array-index c.array-item.result c.loop-array-test.true in
    let long = ap (λ (vs : List ℤ). length vs) c.as_slice.ensures ∙ ap (λ (a : NamedArray). length a.values) c.array-item.is in
    omega (arith, so_far, most, c.requires.input.values_bound, long)

-- nor have those so far with it
pub overflow_add-start : goal.overflow_add-start
overflow_add-start c =
    let most : 4194304 < 2 ^ 32 = lit< tt in
    let so_far = within_front c.args.arrays.now c.args.number c.loop-array.array-index c.array-item.result c.loop-array-test.true in
    let long = ap (λ (vs : List ℤ). length vs) c.as_slice.ensures ∙ ap (λ (a : NamedArray). length a.values) c.array-item.is in
    omega (arith, so_far, most, c.requires.input.values_bound, long, c.loop-array.invariant)

pub overflow_cast-result : goal.overflow_cast-result
overflow_cast-result c =
    let most : 4194304 < 2 ^ 32 = lit< tt in
    let next = next_within c.args.arrays.now c.args.number c.index-arrays-number.result c.requires.there in
    let long = ap (λ (vs : List ℤ). length vs) c.as_slice-2.ensures in
    omega (arith, next, most, c.requires.input.values_bound, long)

-- the arrays in front of it were counted
pub returns : goal.returns
returns c =
    let arrays = c.args.arrays.now in
    let long = ap (λ (vs : List ℤ). length vs) c.as_slice-2.ensures in
    let start : ℕ = c.loop-array.start in
    ap (λ (n : ℕ). record { start = start; length = n }) long
    ∙ whole_is arrays c.args.number c.loop-array.array-index start c.index-arrays-number.result c.requires.there c.loop-array-test.false
    c.loop-array.invariant
