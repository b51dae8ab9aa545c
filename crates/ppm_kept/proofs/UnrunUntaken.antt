-- A right branch that is not pushed yet, or that is held, is untaken beside any place's strand; and no branch
-- that was not run changes where a strand is handed over.
use Rattle.std.proofs.Common.{◌≡◌, ◌⊎◌, ◌≤◌, ◌==◌, cond, ℕ, Bool, true, false, inl, inr, refl, sym, ◌∙◌, subst, arith}
use Rattle.ppm_cells.specs.declared.link.LinkKind.{LinkKind}
use Rattle.ppm_cells.specs.declared.link.LinkKind.TheVariants.{Root, Call as Called, Branch}
use Rattle.ppm_cells.specs.declared.side.Side.TheVariants.{Left, Right}
use Rattle.ppm_frames.specs.Skeletons.{Stand, Who, Fresh, Waiting, Held, Came, Inlined, InPlace, Skeleton, Leaf, Calling, Forking, count}
use Rattle.ppm_frames.specs.Good.{mark}
use Rattle.ppm_kept.specs.Branches.{IsUntaken, Untaken}
use Rattle.ppm_kept.specs.Heirs.{handed}
use Rattle.ppm_kept.specs.Unruns.{IsUnrun, IsLeafOf, HasUnrun, SameUnruns}
use Rattle.ppm_kept.proofs.UnrunLemmas.{has_count}
use Rattle.ppm_kept.proofs.UntakenLemmas.{block_one, none}

-- the leaf of such a branch
leaf_untaken : (w : Who) → (w ≡ Fresh) ⊎ (w ≡ Held) → (b : Skeleton) → IsLeafOf w b → IsUntaken (mark b)
leaf_untaken w is (Leaf v st f n) e = elim is [
  | inl z ↦ subst (λ (x : Who). IsUntaken (mark (Leaf x st f n))) (sym (e ∙ z)) tt
  | inr z ↦ subst (λ (x : Who). IsUntaken (mark (Leaf x st f n))) (sym (e ∙ z)) tt
]
leaf_untaken w is (Calling f n y t) e = absurd e
leaf_untaken w is (Forking f n y q a b) e = absurd e

unrun_untaken : (w : Who) → (w ≡ Fresh) ⊎ (w ≡ Held) → (p r : ℕ) (h : LinkKind) (t : Skeleton) → count h t r ≤ 1 → HasUnrun w r t → Untaken p r t
unrun_untaken w is p r h (Leaf v st f n) most has = absurd has
unrun_untaken w is p r h (Calling f n y t) most has = unrun_untaken w is p r (Called f y) t (omega (arith, most)) has
unrun_untaken w is p r h (Forking f n y q a b) most (inl here) =
    let k = block_one q r here.0 in (
      λ e one. leaf_untaken w is b here.1,
      none p r (Branch Left q) a (omega (arith, most, k)),
      none p r (Branch Right q) b (omega (arith, most, k)),
    )
unrun_untaken w is p r h (Forking f n y q a b) most (inr (inl has)) =
    let one = has_count w r (Branch Left q) a has in (
      λ e some. absurd (let k = block_one q r e in omega (arith, most, one, k)),
      unrun_untaken w is p r (Branch Left q) a (omega (arith, most)) has,
      none p r (Branch Right q) b (omega (arith, most, one)),
    )
unrun_untaken w is p r h (Forking f n y q a b) most (inr (inr has)) =
    let one = has_count w r (Branch Right q) b has in (
      λ e some. absurd (let k = block_one q r e in omega (arith, most, one, k)),
      none p r (Branch Left q) a (omega (arith, most, one)),
      unrun_untaken w is p r (Branch Right q) b (omega (arith, most)) has,
    )

pub unruns_are_untaken : (t : Skeleton) → ((x : ℕ) → count Root t x ≤ 1) → (r : ℕ) → HasUnrun Fresh r t ⊎ HasUnrun Held r t → (v : ℕ) → Untaken v r t
unruns_are_untaken t apart r (inl has) v = unrun_untaken Fresh (inl refl) v r Root t (apart r) has
unruns_are_untaken t apart r (inr has) v = unrun_untaken Held (inr refl) v r Root t (apart r) has

leaf_on : (w : Who) → IsUnrun w → (v p : ℕ) (b : Skeleton) → IsLeafOf w b → IsLeafOf w (handed v p b)
leaf_on w un v p (Leaf (InPlace q) st f n) e = absurd (subst IsUnrun (sym e) un)
leaf_on w un v p (Leaf Fresh st f n) e = e
leaf_on w un v p (Leaf Waiting st f n) e = e
leaf_on w un v p (Leaf Held st f n) e = e
leaf_on w un v p (Leaf Came st f n) e = e
leaf_on w un v p (Leaf Inlined st f n) e = e
leaf_on w un v p (Calling f n y t) e = absurd e
leaf_on w un v p (Forking f n y q a b) e = absurd e

leaf_back : (w : Who) → IsUnrun w → (v p : ℕ) (b : Skeleton) → IsLeafOf w (handed v p b) → IsLeafOf w b
leaf_back w un v p (Leaf (InPlace q) st f n) e = absurd (by (q == v) e)
  where
    by : (y : Bool) → IsLeafOf w (cond y (Leaf (InPlace p) st f n) (Leaf (InPlace q) st f n)) → ⊥
    by true e = subst IsUnrun (sym e) un
    by false e = subst IsUnrun (sym e) un
leaf_back w un v p (Leaf Fresh st f n) e = e
leaf_back w un v p (Leaf Waiting st f n) e = e
leaf_back w un v p (Leaf Held st f n) e = e
leaf_back w un v p (Leaf Came st f n) e = e
leaf_back w un v p (Leaf Inlined st f n) e = e
leaf_back w un v p (Calling f n y t) e = absurd e
leaf_back w un v p (Forking f n y q a b) e = absurd e

handed_on : (w : Who) → IsUnrun w → (v p r : ℕ) (t : Skeleton) → HasUnrun w r t → HasUnrun w r (handed v p t)
handed_on w un v p r (Leaf x st f n) has = absurd has
handed_on w un v p r (Calling f n y t) has = handed_on w un v p r t has
handed_on w un v p r (Forking f n y q a b) (inl here) = inl (here.0, leaf_on w un v p b here.1)
handed_on w un v p r (Forking f n y q a b) (inr (inl has)) = inr (inl (handed_on w un v p r a has))
handed_on w un v p r (Forking f n y q a b) (inr (inr has)) = inr (inr (handed_on w un v p r b has))

leaf_none : (w : Who) (v p r : ℕ) (x : Who) (st : Stand) (f n : ℕ) → HasUnrun w r (handed v p (Leaf x st f n)) → ⊥
leaf_none w v p r (InPlace q) st f n has = by (q == v) has
  where
    by : (y : Bool) → HasUnrun w r (cond y (Leaf (InPlace p) st f n) (Leaf (InPlace q) st f n)) → ⊥
    by true has = has
    by false has = has
leaf_none w v p r Fresh st f n has = has
leaf_none w v p r Waiting st f n has = has
leaf_none w v p r Held st f n has = has
leaf_none w v p r Came st f n has = has
leaf_none w v p r Inlined st f n has = has

handed_back : (w : Who) → IsUnrun w → (v p r : ℕ) (t : Skeleton) → HasUnrun w r (handed v p t) → HasUnrun w r t
handed_back w un v p r (Leaf x st f n) has = absurd (leaf_none w v p r x st f n has)
handed_back w un v p r (Calling f n y t) has = handed_back w un v p r t has
handed_back w un v p r (Forking f n y q a b) (inl here) = inl (here.0, leaf_back w un v p b here.1)
handed_back w un v p r (Forking f n y q a b) (inr (inl has)) = inr (inl (handed_back w un v p r a has))
handed_back w un v p r (Forking f n y q a b) (inr (inr has)) = inr (inr (handed_back w un v p r b has))

pub handed_same : (v p : ℕ) (t : Skeleton) → SameUnruns t (handed v p t)
handed_same v p t = record { on = λ w un r has. handed_on w un v p r t has; back = λ w un r has. handed_back w un v p r t has }
