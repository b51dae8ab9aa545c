use Rattle.std.proofs.Common.{◌≡◌, List, length, map, refl, subst, ◌∙◌}
use Rattle.ppm_words.specs.declared.named_array.NamedArray.{NamedArray}
use Rattle.ppm_layout.specs.Sequence.{opening_words}
use Rattle.ppm_layout.proofs.ImageLemmas.{sized, opened}
use Rattle.ppm_layout.proofs.opening.image.Goals as goal

-- as many words as the shape has
pub invariant_of-result : goal.invariant_of-result
invariant_of-result c =
    let code = c.args.code.now in
    let s = c.args.shape in
    let keeper = c.args.keeper in
    let AreWords : List NamedArray → Type 0 = λ xs. c.in_ok-words.words.items ≡ opening_words code xs s keeper in
    let AreLengths : List NamedArray → Type 0 = λ xs. c.in_ok-lengths.lengths.items ≡ map (λ (a : NamedArray). length a.values) xs in
    let words = c.from_vec-2.ensures ∙ subst AreWords c.arrays-arrays.ensures.value c.in_ok-words.ensures in
    let lengths = c.from_vec.ensures ∙ subst AreLengths c.arrays-arrays.ensures.value c.in_ok-lengths.ensures in
    record { sized = sized code c.args.input.now s keeper c.from_vec.result c.from_vec-2.result c.requires.keeper c.requires.arrays lengths words }

-- each in its cell
pub returns : goal.returns
returns c =
    let code = c.args.code.now in
    let s = c.args.shape in
    let keeper = c.args.keeper in
    let AreWords : List NamedArray → Type 0 = λ xs. c.in_ok-words.words.items ≡ opening_words code xs s keeper in
    let AreLengths : List NamedArray → Type 0 = λ xs. c.in_ok-lengths.lengths.items ≡ map (λ (a : NamedArray). length a.values) xs in
    let words = c.from_vec-2.ensures ∙ subst AreWords c.arrays-arrays.ensures.value c.in_ok-words.ensures in
    let lengths = c.from_vec.ensures ∙ subst AreLengths c.arrays-arrays.ensures.value c.in_ok-lengths.ensures in
    record {
      image = record {
        shape_is = refl;
        keeper_is = refl;
        lengths_are = lengths;
        opened = opened code c.args.input.now s keeper c.from_vec-2.result words;
      };
    }
