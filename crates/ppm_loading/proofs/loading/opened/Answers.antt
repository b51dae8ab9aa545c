use Rattle.std.proofs.Common.{refl, ap, ◌∙◌}
use Rattle.ppm_words.specs.Inputs.{value_count}
use Rattle.ppm_loading.proofs.LoadingLemmas.{opens}
use Rattle.ppm_loading.proofs.loading.opened.Goals as goal

-- the image is that of the code and the input
pub returns : goal.returns
returns c =
    opens c.args.sizes c.args.code.now c.args.input.now c.args.keeper _ _ _ _ _ _ refl refl
    (c.count_of.ensures.value ∙ ap (λ arrays. value_count arrays) c.arrays.ensures.value) c.shape_of-shape.ensures c.in_ok-words.ensures.image
    refl
