-- Where a right branch that is not pushed is beside a place's strand, it stays so.
use Rattle.std.proofs.Common.{◌≡◌, ◌≤◌, ℕ, refl, sym, subst, arith}
use Rattle.ppm_cells.specs.declared.link.LinkKind.{LinkKind}
use Rattle.ppm_cells.specs.declared.link.LinkKind.TheVariants.{Call as Called, Branch}
use Rattle.ppm_cells.specs.declared.side.Side.TheVariants.{Left, Right}
use Rattle.ppm_frames.specs.Skeletons.{Skeleton, Leaf, Calling, Forking, inside, count, at, Around, Top, AtCall, AtLeft, AtRight, plug, hook_at}
use Rattle.ppm_frames.specs.Good.{mark}
use Rattle.ppm_frames.proofs.SkeletonLemmas.{at_plug, count_plug, inside_at}
use Rattle.ppm_kept.specs.Branches.{IsUntaken, Untaken}
use Rattle.ppm_kept.specs.Pushing.{AllUntakenStays}

pub here : (p r : ℕ) (c : Around) (u : Skeleton) → Untaken p r (plug c u) → Untaken p r u
here p r Top u a = a
here p r (AtCall f n y c) u a = here p r c u a
here p r (AtLeft f n y q c b) u a = here p r c u a.1
here p r (AtRight f n y q b c) u a = here p r c u a.2

marked : (c : Around) (u v : Skeleton) → mark v ≡ mark u → mark (plug c v) ≡ mark (plug c u)
marked Top u v e = e
marked (AtCall f n y c) u v e = refl
marked (AtLeft f n y q c b) u v e = refl
marked (AtRight f n y q b c) u v e = refl

pub swaps_less : (p r : ℕ) (c : Around) (u v : Skeleton) → at p v ≤ at p u → mark v ≡ mark u → Untaken p r v → Untaken p r (plug c u) → Untaken p r (plug c v)
swaps_less p r Top u v e k new old = new
swaps_less p r (AtCall f n y c) u v e k new old = swaps_less p r c u v e k new old
swaps_less p r (AtLeft f n y q c b) u v e k new old =
    (λ is one. old.0 is (let a = at_plug p c v in let d = at_plug p c u in omega (arith, one, a, d, e)), swaps_less p r c u v e k new old.1, old.2)
swaps_less p r (AtRight f n y q b c) u v e k new old =
    (λ is one. subst IsUntaken (sym (marked c u v k)) (old.0 is one), old.1, swaps_less p r c u v e k new old.2)

-- a fork of a block has its word
pub block_one : (q r : ℕ) → q ≡ r → 1 ≤ inside q 1 r
block_one q r e = inside_at q 1 r 0 (omega (arith, e)) (omega arith)

pub none : (p r : ℕ) (h : LinkKind) (t : Skeleton) → count h t r ≡ 0 → Untaken p r t
none p r h (Leaf w st f n) e = tt
none p r h (Calling f n y t) e = none p r (Called f y) t (omega (arith, e))
none p r h (Forking f n y q a b) e =
    (λ is one. absurd (let k = block_one q r is in omega (arith, e, k)), none p r (Branch Left q) a (omega (arith, e)), none p r (Branch Right q) b (omega (arith, e)))

pub opens : (p r : ℕ) (h : LinkKind) (c : Around) (v : Skeleton) → count h (plug c v) r ≤ 1 → 1 ≤ count (hook_at h c) v r → Untaken p r v → Untaken p r (plug c v)
opens p r h Top v most one new = new
opens p r h (AtCall f n y c) v most one new = opens p r (Called f y) c v (omega (arith, most)) one new
opens p r h (AtLeft f n y q c b) v most one new = let sum = count_plug (Branch Left q) c v r in (
  λ is some. absurd (let k = block_one q r is in omega (arith, most, one, sum, k)),
  opens p r (Branch Left q) c v (omega (arith, most)) one new,
  none p r (Branch Right q) b (omega (arith, most, one, sum)),
)
opens p r h (AtRight f n y q b c) v most one new = let sum = count_plug (Branch Right q) c v r in (
  λ is some. absurd (let k = block_one q r is in omega (arith, most, one, sum, k)),
  none p r (Branch Left q) b (omega (arith, most, one, sum)),
  opens p r (Branch Right q) c v (omega (arith, most)) one new,
)

pub all_untaken_stays : AllUntakenStays
all_untaken_stays p r = record {
  holds = λ t all c f n y a b is one. (here p r c (Forking f n y r a b) (subst (Untaken p r) is all)).0 refl one;
  swaps = λ c u v e k new old. swaps_less p r c u v (omega (arith, e)) k new old;
  opens = opens p r;
}
