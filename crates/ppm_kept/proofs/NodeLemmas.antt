-- Two nodes of a tree that share a word are one.
use Rattle.std.proofs.Common.{◌≡◌, ◌≤◌, ℕ, sym, ap, ap₂, subst, subst₂, arith}
use Rattle.ppm_cells.specs.declared.link.LinkKind.{LinkKind}
use Rattle.ppm_cells.specs.declared.link.LinkKind.TheVariants.{Call as Called, Branch}
use Rattle.ppm_cells.specs.declared.side.Side.TheVariants.{Left, Right}
use Rattle.ppm_frames.specs.Skeletons.{Skeleton, count, Around, Top, AtCall, AtLeft, AtRight, plug, hook_at}
use Rattle.ppm_frames.proofs.SkeletonLemmas.{count_plug}
use Rattle.ppm_kept.proofs.NearLemmas.{own, own_count, frame_of, copy_of, block_of, first_of, second_of}

-- a node below has its words in the count
below : (h : LinkKind) (d : Around) (w : Skeleton) (x : ℕ) → own (hook_at h d) w x ≤ count h (plug d w) x
below h d w x = let sum = count_plug h d w x in let o = own_count (hook_at h d) w x in omega (arith, sum, o)

-- a node and one that is below it share no word
under_top : (h : LinkKind) (u : Skeleton) (d : Around) (w : Skeleton) (x : ℕ) → u ≡ plug d w → count h u x ≤ 1 → 1 ≤ own h u x → 1 ≤ own (hook_at h d) w x → u ≡ w
under_top h u Top w x e apart a b = e
under_top h u (AtCall g l z d) w x e apart a b = absurd (
    let a' = subst (λ (s : Skeleton). 1 ≤ own h s x) e a in let c = subst (λ (s : Skeleton). count h s x ≤ 1) e apart in let k = below (Called g z) d w x in omega (arith, a', b, c, k))
under_top h u (AtLeft g l z r d t) w x e apart a b = absurd (
    let a' = subst (λ (s : Skeleton). 1 ≤ own h s x) e a in let c = subst (λ (s : Skeleton). count h s x ≤ 1) e apart in let k = below (Branch Left r) d w x in omega (arith, a', b, c, k))
under_top h u (AtRight g l z r t d) w x e apart a b = absurd (
    let a' = subst (λ (s : Skeleton). 1 ≤ own h s x) e a in let c = subst (λ (s : Skeleton). count h s x ≤ 1) e apart in let k = below (Branch Right r) d w x in omega (arith, a', b, c, k))

pub nodes_same : (h : LinkKind) (c : Around) (u : Skeleton) (d : Around) (w : Skeleton) (x : ℕ) → plug c u ≡ plug d w → count h (plug c u) x ≤ 1 → 1 ≤ own (hook_at h c) u x → 1 ≤ own (hook_at h d) w x → u ≡ w
nodes_same h Top u d w x e apart a b = under_top h u d w x e apart a b
nodes_same h (AtCall f n y c) u Top w x e apart a b = sym (under_top h w (AtCall f n y c) u x (sym e) (subst (λ (s : Skeleton). count h s x ≤ 1) e apart) b a)
nodes_same h (AtLeft f n y r c t) u Top w x e apart a b = sym (under_top h w (AtLeft f n y r c t) u x (sym e) (subst (λ (s : Skeleton). count h s x ≤ 1) e apart) b a)
nodes_same h (AtRight f n y r t c) u Top w x e apart a b = sym (under_top h w (AtRight f n y r t c) u x (sym e) (subst (λ (s : Skeleton). count h s x ≤ 1) e apart) b a)
nodes_same h (AtCall f n y c) u (AtCall g l z d) w x e apart a b =
    nodes_same (Called f y) c u d w x (ap first_of e) (omega (arith, apart)) a (subst₂ (λ (p q : ℕ). 1 ≤ own (hook_at (Called p q) d) w x) (sym (ap frame_of e)) (sym (ap copy_of e)) b)
nodes_same h (AtLeft f n y r c t) u (AtLeft g l z k d v) w x e apart a b =
    nodes_same (Branch Left r) c u d w x (ap first_of e) (omega (arith, apart)) a (subst (λ (p : ℕ). 1 ≤ own (hook_at (Branch Left p) d) w x) (sym (ap block_of e)) b)
nodes_same h (AtRight f n y r t c) u (AtRight g l z k v d) w x e apart a b =
    nodes_same (Branch Right r) c u d w x (ap second_of e) (omega (arith, apart)) a (subst (λ (p : ℕ). 1 ≤ own (hook_at (Branch Right p) d) w x) (sym (ap block_of e)) b)
nodes_same h (AtLeft f n y r c t) u (AtRight g l z k v d) w x e apart a b = absurd (
    let i = below (Branch Left r) c u x in let j = below (Branch Right k) d w x in
    let is : count (Branch Right r) t x ≡ count (Branch Right k) (plug d w) x = ap₂ (λ (p : ℕ) (s : Skeleton). count (Branch Right p) s x) (ap block_of e) (ap second_of e) in omega (arith, apart, a, b, i, j, is))
nodes_same h (AtRight f n y r t c) u (AtLeft g l z k d v) w x e apart a b = absurd (
    let i = below (Branch Right r) c u x in let j = below (Branch Left k) d w x in
    let is : count (Branch Left r) t x ≡ count (Branch Left k) (plug d w) x = ap₂ (λ (p : ℕ) (s : Skeleton). count (Branch Left p) s x) (ap block_of e) (ap first_of e) in omega (arith, apart, a, b, i, j, is))
nodes_same h (AtCall f n y c) u (AtLeft g l z k d v) w x e apart a b = absurd (cc)
nodes_same h (AtCall f n y c) u (AtRight g l z k v d) w x e apart a b = absurd (cc)
nodes_same h (AtLeft f n y r c t) u (AtCall g l z d) w x e apart a b = absurd (cc)
nodes_same h (AtRight f n y r t c) u (AtCall g l z d) w x e apart a b = absurd (cc)
