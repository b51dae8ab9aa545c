use Rattle.std.proofs.Common.{◌<◌, ◌^◌, ℤ, List, length, ap, ◌∙◌, arith, lit<}
use Rattle.ppm_words.specs.declared.named_array.NamedArray.{NamedArray}
use Rattle.ppm_layout.proofs.InputLemmas.{next_within}
use Rattle.ppm_layout.proofs.opening.lengths_of.Goals as goal

-- an array has no more values than all have
pub overflow_cast-as_slice : goal.overflow_cast-as_slice
overflow_cast-as_slice c =
    let most : 4194304 < 2 ^ 32 = lit< tt in
    let next = next_within c.args.arrays.now c.loop-array.array-index c.array-item.result c.loop-array-test.true in
    let long = ap (λ (vs : List ℤ). length vs) c.as_slice.ensures ∙ ap (λ (a : NamedArray). length a.values) c.array-item.is in
    omega (arith, next, most, c.requires.values_bound, long)
