use Rattle.std.proofs.Common.{◌∙◌, ℕ, nat_lt, List, length, sym, ap}
use Rattle.std.specs.List.{list_all}
use Rattle.ppm_case.proofs.CaseLemmas.{named_from, named_back}
use Rattle.ppm_racy.specs.declared.code.RacyParts.{RacyParts}
use Rattle.ppm_racy_case.proofs.reading.names_arrays.Goals as goal

-- the numbers are those of the code
pub returns-clause-exactly : goal.returns-clause-exactly
returns-clause-exactly c =
    let numbers = c.as_slice.ensures ∙ ap (λ (p : RacyParts). p.arrays) c.parts.ensures.value in
    let same = c.are_below.ensures ∙ ap (λ (l : List ℕ). list_all (λ number. nat_lt number (length c.args.arrays.now)) l) numbers in
    ((λ t. named_from (length c.args.arrays.now) c.args.code.now.arrays (sym same ∙ t)), (λ h. same ∙ named_back (length c.args.arrays.now) c.args.code.now.arrays h))
