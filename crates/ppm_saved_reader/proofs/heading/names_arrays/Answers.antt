use Rattle.std.proofs.Common.{◌∙◌, ℕ, nat_lt, List, sym, ap}
use Rattle.std.specs.List.{list_all}
use Rattle.ppm_code.specs.declared.code.CodeParts.{CodeParts}
use Rattle.ppm_saved_reader.proofs.HeadLemmas.{named_from, named_back}
use Rattle.ppm_saved_reader.proofs.heading.names_arrays.Goals as goal

-- the numbers are those of the code
pub returns-clause-exactly : goal.returns-clause-exactly
returns-clause-exactly c =
    let numbers = c.as_slice.ensures ∙ ap (λ (p : CodeParts). p.arrays) c.parts.ensures.value in
    let same = c.are_below.ensures ∙ ap (λ (l : List ℕ). list_all (λ number. nat_lt number c.args.arrays) l) numbers in
    ((λ t. named_from c.args.arrays c.args.code.now.arrays (sym same ∙ t)), (λ h. same ∙ named_back c.args.arrays c.args.code.now.arrays h))
