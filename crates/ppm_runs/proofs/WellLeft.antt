-- Words of the tree are as they are where followed places are left out; so a tree that is well in one is so in
-- the other.
use Rattle.std.proofs.Common.{◌≡◌, ◌≤◌, ℕ, ◌+◌, List, [], ◌∷◌, inl, sym, arith, le_refl}
use Rattle.ppm_strands.specs.Tree.{Words, Tree}
use Rattle.ppm_cells.specs.declared.cell.Cell.TheVariants.{BlockWord}
use Rattle.ppm_cells.specs.declared.link.LinkKind.TheVariants.{Root}
use Rattle.ppm_strands.specs.Strand.{Frame}
use Rattle.ppm_code.specs.Strands.{Point, Result}
use Rattle.ppm_code.specs.declared.location.FrameWord.{FrameWord}
use Rattle.ppm_frames.specs.Skeletons.{Skeleton, count}
use Rattle.ppm_kept.specs.Kept.{Setting, State, IsKept}
use Rattle.ppm_kept.specs.Left.{Followed, left, IsAway, AreApart}
use Rattle.ppm_kept.proofs.LeftLemmas.{IsIn, NotSettled, left_same, in_use}
use Rattle.ppm_runs.specs.Well.{IsWell}
use Rattle.ppm_runs.proofs.WellWords.{crit_low, well_same}

-- from some place on all are away
record Beyond (l : List Followed) : Type 0 where
  pub place : ℕ
  pub away : (p : ℕ) → place ≤ p → IsAway l p

beyond : (l : List Followed) → Beyond l
beyond [] = record { place = 0; away = λ p le. tt }
beyond (v ∷ l) = let more = beyond l in record {
  place = more.place + v.place + 1;
  away = λ p le. (λ e. omega (arith, le, e), more.away p (omega (arith, le)));
}

module _ (i : Setting) (root : Tree (Frame FrameWord Point) Result) (input : Words) (s : State) (l : List Followed) (apart : AreApart l) (t : Skeleton) (law : IsKept i root input (left i l s) t) where
  pub tree_out : (x : ℕ) → (count Root t x ≡ 0 → ⊥) → (v : Followed) → IsIn v l → NotSettled i v (BlockWord x)
  tree_out x some = let out = beyond l in in_use i root input s l apart t law out.place (out.away out.place (le_refl out.place)) (BlockWord x) (inl (law.below x some).1)

  pub tree_same : (x : ℕ) → (count Root t x ≡ 0 → ⊥) → (left i l s).words (BlockWord x) ≡ s.words (BlockWord x)
  tree_same x some = left_same i l s.words (BlockWord x) (tree_out x some)

  pub well_left : IsWell i.code s.words Root t → IsWell i.code (left i l s).words Root t
  well_left well = well_same i.code s.words (left i l s).words Root t (λ x one. tree_same x (λ none. let low = crit_low Root t x in omega (arith, low, one, none))) well

  pub well_shown : IsWell i.code (left i l s).words Root t → IsWell i.code s.words Root t
  well_shown well = well_same i.code (left i l s).words s.words Root t (λ x one. sym (tree_same x (λ none. let low = crit_low Root t x in omega (arith, low, one, none)))) well
