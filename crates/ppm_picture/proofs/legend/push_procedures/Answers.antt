use Rattle.std.proofs.Common.{◌∙◌, ◌++◌, ap, length, min, take}
use Rattle.std.proofs.lemmas.List.{take_min}
use Rattle.ppm_picture.specs.Legend.{labels_from}
use Rattle.ppm_picture.proofs.legend.push_procedures.Goals as goal

-- eight, if there are so many
pub returns : goal.returns
returns c =
    let text = c.args.text.now.items in
    c.in_ok-push_labels.ensures
    ∙ ap (λ count. text ++ labels_from 0 (take count c.as_slice-procedures.result.now)) c.min-count.ensures
    ∙ ap (λ all. text ++ labels_from 0 (take (min 8 (length all)) all)) c.as_slice-procedures.ensures
    ∙ ap (λ some. text ++ labels_from 0 some) (take_min 8 c.args.names.now.procedures)
