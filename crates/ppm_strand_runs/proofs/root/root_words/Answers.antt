use Rattle.std.proofs.Common.{◌≡◌, ◌<◌, length, List, ℕ, sym, ap, ◌∙◌, subst₂}
use Rattle.std.specs.List.{All}
use Rattle.ppm_racy.specs.declared.code.RacyParts.{RacyParts}
use Rattle.ppm_strand_runs.proofs.StartLemmas.{length_regions}
use Rattle.ppm_strand_runs.proofs.root.root_words.Goals as goal

-- each array that the root names has a region
pub push_regions-requires : goal.push_regions-requires
push_regions-requires c =
    let arrays = c.as_slice.ensures ∙ ap (λ (p : RacyParts). p.arrays) c.parts-parts.ensures.value in
    let size : length c.deref.result.now ≡ length c.args.input.now =
    ap (λ (xs : List ℕ). length xs) (c.deref.ensures.value ∙ c.in_ok-regions.ensures) ∙ length_regions 0 c.args.input.now in
    subst₂ (λ (xs : List ℕ) (n : ℕ). All (λ a. a < n) xs) (sym arrays) (sym size) c.requires.named
