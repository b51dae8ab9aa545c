-- Where the root has not come to its end, a step leaves it so.
use Rattle.std.proofs.Common.{◌≡◌, ℕ, Bool, true, false, inl, inr, refl, sym, ap, ◌∙◌, subst}
use Rattle.ppm_cells.specs.declared.cell.Cell.{Cell}
use Rattle.ppm_cells.specs.declared.cell.Cell.TheVariants.{FinishWord}
use Rattle.ppm_cells.specs.declared.link.LinkKind.{LinkKind}
use Rattle.ppm_cells.specs.declared.link.LinkKind.TheVariants.{Root, Call as Called, Branch}
use Rattle.ppm_cells.specs.declared.side.Side.{Side}
use Rattle.ppm_cells.specs.declared.side.Side.TheVariants.{Left, Right}
use Rattle.ppm_frames.specs.Skeletons.{Over, InPlace, Skeleton, Leaf, Around, Top, AtCall, AtLeft, AtRight, plug, hook_at}
use Rattle.ppm_kept.specs.Kept.{Ended, NoOutcome, IsFinished}

abbrev pub over_leaf : Skeleton → Bool
over_leaf (Leaf w Over f n) = true
over_leaf _ = false

pub root_top : (h : LinkKind) (c : Around) → hook_at h c ≡ Root → (c ≡ Top) × (h ≡ Root)
root_top h Top e = (refl, e)
root_top h (AtCall f n y c) e = absurd (let k = (root_top (Called f y) c e).1 in cc)
root_top h (AtLeft f n y r c b) e = absurd (let k = (root_top (Branch Left r) c e).1 in cc)
root_top h (AtRight f n y r a c) e = absurd (let k = (root_top (Branch Right r) c e).1 in cc)

module _ (m n : Cell → ℕ) (t : Skeleton) (c : Around) (u v : Skeleton) (is : t ≡ plug c u) (same : n FinishWord ≡ m FinishWord) where
  alive : over_leaf u ≡ false → Ended m t → ⊥
  alive over e = by c (sym e.is ∙ is)
    where
      by : (c : Around) → Leaf (InPlace e.place) Over e.frame e.slots ≡ plug c u → ⊥
      by Top k = let d : true ≡ false = ap over_leaf k ∙ over in cc
      by (AtCall f l y c) k = cc
      by (AtLeft f l y r c b) k = cc
      by (AtRight f l y r a c) k = cc

  hung : (r : ℕ) (d : Side) → hook_at Root c ≡ Branch d r → Ended m t → ⊥
  hung r d he e = by c he (sym e.is ∙ is)
    where
      by : (c : Around) → hook_at Root c ≡ Branch d r → Leaf (InPlace e.place) Over e.frame e.slots ≡ plug c u → ⊥
      by Top he k = cc
      by (AtCall f l y c) he k = cc
      by (AtLeft f l y q c b) he k = cc
      by (AtRight f l y q a c) he k = cc

  pub not_ended : over_leaf u ≡ false → IsFinished m t → IsFinished n (plug c v)
  not_ended over (inl e) = inl (subst NoOutcome (sym same) e)
  not_ended over (inr e) = absurd (alive over e)

  pub on_branch : (r : ℕ) (d : Side) → hook_at Root c ≡ Branch d r → IsFinished m t → IsFinished n (plug c v)
  on_branch r d he (inl e) = inl (subst NoOutcome (sym same) e)
  on_branch r d he (inr e) = absurd (hung r d he e)
