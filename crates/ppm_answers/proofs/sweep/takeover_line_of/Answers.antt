use Rattle.std.proofs.Common.{◌++◌, [], ◌∷◌, ◌∙◌, ap, codes}
use Rattle.ppm_answers.proofs.sweep.takeover_line_of.Goals as goal

-- the bytes of the string, and those of the word in it
pub returns : goal.returns
returns c = ap (λ v. v.items) c.into_bytes.ensures.value ∙ c.in_ok-text.ensures.ok ∙
    ap (λ t. codes "takeover " ++ t ++ 10 ∷ []) c.takeover_name-name.ensures
