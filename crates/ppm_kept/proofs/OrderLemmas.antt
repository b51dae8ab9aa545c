-- The order word of a fork that is to be pushed says whether its right branch is held.
use Rattle.std.proofs.Common.{◌≡◌, ◌⊎◌, ◌<◌, ℕ, ◌+◌, inl, inr, refl, sym, ◌∙◌, subst, arith}
use Rattle.ppm_strands.specs.Tree.{Words, Tree}
use Rattle.ppm_cells.specs.declared.cell.Cell.TheVariants.{BlockWord}
use Rattle.ppm_cells.specs.declared.link.LinkKind.TheVariants.{Root}
use Rattle.ppm_cells.specs.declared.restart.RestartKind.TheVariants.{Push1}
use Rattle.ppm_strands.specs.Strand.{Frame}
use Rattle.ppm_code.specs.Strands.{Point, Result}
use Rattle.ppm_code.specs.declared.location.FrameWord.{FrameWord}
use Rattle.ppm_frames.specs.Skeletons.{InPlace, Fresh, Waiting, Held, Came, Inlined, Skeleton, Leaf, Calling, Forking, plug, hook_at}
use Rattle.ppm_frames.specs.Good.{IsPlain, mark, order_of, Good}
use Rattle.ppm_frames.proofs.SkeletonLemmas.{inside_at}
use Rattle.ppm_frames.proofs.SwapLemmas.{good_here}
use Rattle.ppm_kept.specs.Running.{IsFair}
use Rattle.ppm_kept.specs.Branches.{IsUntaken, Untaken, Unpushed}
use Rattle.ppm_kept.specs.Kept.{Setting, State, IsKept}
use Rattle.ppm_kept.specs.Loads.{IsLoadable}
use Rattle.ppm_kept.specs.Unruns.{HasUnrun, IsLeafOf}
use Rattle.ppm_kept.proofs.LoadLemmas.{in_part}
use Rattle.ppm_kept.proofs.PlaceLemmas.{is_at_own}
use Rattle.ppm_kept.proofs.UnrunLemmas.{PushShape, shape, here_has}
use Rattle.ppm_kept.proofs.UntakenLemmas as untaken

-- beside a strand that has not come first, one that is not pushed or is held
beside_strand : (b : Skeleton) → IsUntaken (mark b) → (IsLeafOf Fresh b × (order_of IsPlain (mark b) ≡ 0)) ⊎ (IsLeafOf Held b × (order_of IsPlain (mark b) ≡ 3))
beside_strand (Leaf Fresh st f n) way = inl (refl, refl)
beside_strand (Leaf Held st f n) way = inr (refl, refl)
beside_strand (Leaf (InPlace q) st f n) way = absurd way
beside_strand (Leaf Waiting st f n) way = absurd way
beside_strand (Leaf Came st f n) way = absurd way
beside_strand (Leaf Inlined st f n) way = absurd way
beside_strand (Calling f n y t) way = absurd way
beside_strand (Forking f n y q a b) way = absurd way

module _ (i : Setting) (fair : IsFair i.code) (root : Tree (Frame FrameWord Point) Result) (input : Words) (s : State) (t : Skeleton) (law : IsKept i root input s t) (p r : ℕ) (ke : s.kind p ≡ Push1 r) where
  sh : PushShape t p r
  sh = shape i fair root input s t law p r (inl ke)

  abbrev low : Skeleton
  low = Leaf (InPlace p) sh.stand sh.low sh.low_slots

  abbrev fork : Skeleton
  fork = Forking sh.frame sh.slots sh.copy r low sh.beside

  good : Good i.code s.words s.kind (hook_at Root sh.around) fork
  good = good_here i.code s.words s.kind Root sh.around fork (subst (Good i.code s.words s.kind Root) sh.is law.good)

  way : IsUntaken (mark sh.beside)
  way =
      let un : Untaken p r (plug sh.around fork) = subst (Untaken p r) sh.is (subst (Unpushed p t) ke (law.untaken p)) in
      let one = is_at_own p in
      (untaken.here p r sh.around fork un).0 refl (omega (arith, one))

  -- it is not pushed yet, and the order word is 0; or it is held, and that is 3
  pub order_says : (HasUnrun Fresh r t × (s.words (BlockWord (r + 1)) ≡ 0)) ⊎ (HasUnrun Held r t × (s.words (BlockWord (r + 1)) ≡ 3))
  order_says = elim (beside_strand sh.beside way) [
    | inl e ↦ inl (subst (HasUnrun Fresh r) (sym sh.is) (here_has Fresh r sh.frame sh.slots sh.copy low sh.beside sh.around e.0), good.0.order ∙ e.1)
    | inr e ↦ inr (subst (HasUnrun Held r) (sym sh.is) (here_has Held r sh.frame sh.slots sh.copy low sh.beside sh.around e.0), good.0.order ∙ e.1)
  ]

  -- a place may load it
  pub order_shown : (q : ℕ) → q < i.shape.processors → IsLoadable i s q (BlockWord (r + 1))
  order_shown q there = in_part i fair root input s t law q there sh.around fork sh.is (r + 1)
      (let one = inside_at (r + 1) 1 (r + 1) 0 (omega arith) (omega arith) in omega (arith, one))
