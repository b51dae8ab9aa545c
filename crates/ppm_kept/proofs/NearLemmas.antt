-- Nodes over the leaf of a place lie around the part of another, and leaves that begin are strands
-- beside one another.
use Rattle.std.proofs.Common.{◌≡◌, ◌≢◌, ◌≤◌, ℕ, ◌+◌, ◌==◌, inl, inr, refl, sym, ap, ap₂, subst, subst₂, arith, None}
use Rattle.std.proofs.lemmas.Bool.{cond-false, ne_eqb}
use Rattle.ppm_strands.specs.Beside.{HasStrand, AreBeside}
use Rattle.ppm_cells.specs.declared.cell.Cell.{Cell}
use Rattle.ppm_cells.specs.declared.link.LinkKind.{LinkKind}
use Rattle.ppm_cells.specs.declared.link.LinkKind.TheVariants.{Call as Called, Branch}
use Rattle.ppm_cells.specs.declared.side.Side.TheVariants.{Left, Right}
use Rattle.ppm_frames.specs.Skeletons.{Begins, InPlace, Skeleton, Leaf, Calling, Forking, frame_at, tree_at, inside, hung, count, plain, at, Around, Top, AtCall, AtLeft, AtRight, plug, hook_at, plain_rim}
use Rattle.ppm_frames.proofs.SkeletonLemmas.{plain_plug, plain_count, at_plug}
use Rattle.ppm_kept.proofs.PlaceLemmas.{is_at_own}

abbrev pub own : LinkKind → Skeleton → ℕ → ℕ
own h (Leaf w st f n) x = hung h x + inside f (6 + n) x
own h (Calling f n y t) x = hung h x + inside f (6 + n) x
own h (Forking f n y r a b) x = hung h x + (inside f (6 + n) x + (inside r 1 x + inside (r + 4) 1 x))

pub own_plain : (h : LinkKind) (t : Skeleton) (x : ℕ) → own h t x ≤ plain h t x
own_plain h (Leaf w st f n) x = omega arith
own_plain h (Calling f n y t) x = omega arith
own_plain h (Forking f n y r a b) x = omega arith

pub own_count : (h : LinkKind) (t : Skeleton) (x : ℕ) → own h t x ≤ count h t x
own_count h t x = let a = own_plain h t x in let b = plain_count h t x in omega (arith, a, b)

abbrev pub frame_of : Skeleton → ℕ
frame_of (Leaf w st f n) = f
frame_of (Calling f n y t) = f
frame_of (Forking f n y r a b) = f

abbrev pub copy_of : Skeleton → ℕ
copy_of (Leaf w st f n) = 0
copy_of (Calling f n y t) = y
copy_of (Forking f n y r a b) = y

abbrev pub block_of : Skeleton → ℕ
block_of (Forking f n y r a b) = r
block_of _ = 0

abbrev pub first_of : Skeleton → Skeleton
first_of (Leaf w st f n) = Leaf w st f n
first_of (Calling f n y t) = t
first_of (Forking f n y r a b) = a

abbrev pub second_of : Skeleton → Skeleton
second_of (Forking f n y r a b) = b
second_of t = t

-- a node over the leaf of q lies around a part where q has no leaf
pub near : (q : ℕ) (h : LinkKind) (c : Around) (u : Skeleton) (d : Around) (w : Skeleton) → plug c u ≡ plug d w → at q u ≡ 0 → 1 ≤ at q w → (x : ℕ) → own (hook_at h d) w x ≤ plain_rim h c x
near q h Top u d w e none one x = absurd (let a : at q u ≡ at q (plug d w) = ap (at q) e in let b = at_plug q d w in omega (arith, a, b, none, one))
near q h (AtCall f n y c) u Top w e none one x = subst (λ (z : Skeleton). own h z x ≤ plain_rim h (AtCall f n y c) x) e (omega arith)
near q h (AtLeft f n y r c b) u Top w e none one x = subst (λ (z : Skeleton). own h z x ≤ plain_rim h (AtLeft f n y r c b) x) e (omega arith)
near q h (AtRight f n y r a c) u Top w e none one x = subst (λ (z : Skeleton). own h z x ≤ plain_rim h (AtRight f n y r a c) x) e (omega arith)
near q h (AtCall f n y c) u (AtCall g l z d) w e none one x =
    let deep = near q (Called f y) c u d w (ap first_of e) none one x in
    let deep' = subst₂ (λ (a b : ℕ). own (hook_at (Called a b) d) w x ≤ plain_rim (Called f y) c x) (ap frame_of e) (ap copy_of e) deep in
    omega (arith, deep')
near q h (AtLeft f n y r c b) u (AtLeft g l z k d b') w e none one x =
    let deep = near q (Branch Left r) c u d w (ap first_of e) none one x in
    let deep' = subst (λ (a : ℕ). own (hook_at (Branch Left a) d) w x ≤ plain_rim (Branch Left r) c x) (ap block_of e) deep in
    omega (arith, deep')
near q h (AtRight f n y r a c) u (AtRight g l z k a' d) w e none one x =
    let deep = near q (Branch Right r) c u d w (ap second_of e) none one x in
    let deep' = subst (λ (a : ℕ). own (hook_at (Branch Right a) d) w x ≤ plain_rim (Branch Right r) c x) (ap block_of e) deep in
    omega (arith, deep')
near q h (AtLeft f n y r c b) u (AtRight g l z k a' d) w e none one x =
    let all = own_plain (hook_at (Branch Right k) d) w x in
    let sum = plain_plug (Branch Right k) d w x in
    let is : plain (Branch Right r) b x ≡ plain (Branch Right k) (plug d w) x = ap₂ (λ (a : ℕ) (t : Skeleton). plain (Branch Right a) t x) (ap block_of e) (ap second_of e) in
    omega (arith, all, sum, is)
near q h (AtRight f n y r a c) u (AtLeft g l z k d b') w e none one x =
    let all = own_plain (hook_at (Branch Left k) d) w x in
    let sum = plain_plug (Branch Left k) d w x in
    let is : plain (Branch Left r) a x ≡ plain (Branch Left k) (plug d w) x = ap₂ (λ (a : ℕ) (t : Skeleton). plain (Branch Left a) t x) (ap block_of e) (ap first_of e) in
    omega (arith, all, sum, is)
near q h (AtCall f n y c) u (AtLeft g l z k d b') w e none one x = absurd (cc)
near q h (AtCall f n y c) u (AtRight g l z k a' d) w e none one x = absurd (cc)
near q h (AtLeft f n y r c b) u (AtCall g l z d) w e none one x = absurd (cc)
near q h (AtRight f n y r a c) u (AtCall g l z d) w e none one x = absurd (cc)

-- a part with a leaf of q and none of p lies around a part with a leaf of p and none of q
pub far : (p q : ℕ) (h : LinkKind) (c : Around) (u : Skeleton) (d : Around) (w : Skeleton) → plug c u ≡ plug d w → at q u ≡ 0 → 1 ≤ at q w → 1 ≤ at p u → at p w ≡ 0 → (x : ℕ) → plain (hook_at h d) w x ≤ plain_rim h c x
far p q h Top u d w e none one here there x = absurd (let a : at q u ≡ at q (plug d w) = ap (at q) e in let b = at_plug q d w in omega (arith, a, b, none, one))
far p q h (AtCall f n y c) u Top w e none one here there x = absurd (let a : at p (plug c u) ≡ at p w = ap (at p) e in let b = at_plug p c u in omega (arith, a, b, here, there))
far p q h (AtLeft f n y r c b) u Top w e none one here there x = absurd (let a : at p (plug c u) + at p b ≡ at p w = ap (at p) e in let b = at_plug p c u in omega (arith, a, b, here, there))
far p q h (AtRight f n y r a c) u Top w e none one here there x = absurd (let a : at p a + at p (plug c u) ≡ at p w = ap (at p) e in let b = at_plug p c u in omega (arith, a, b, here, there))
far p q h (AtCall f n y c) u (AtCall g l z d) w e none one here there x =
    let deep = far p q (Called f y) c u d w (ap first_of e) none one here there x in
    let deep' = subst₂ (λ (a b : ℕ). plain (hook_at (Called a b) d) w x ≤ plain_rim (Called f y) c x) (ap frame_of e) (ap copy_of e) deep in
    omega (arith, deep')
far p q h (AtLeft f n y r c b) u (AtLeft g l z k d b') w e none one here there x =
    let deep = far p q (Branch Left r) c u d w (ap first_of e) none one here there x in
    let deep' = subst (λ (a : ℕ). plain (hook_at (Branch Left a) d) w x ≤ plain_rim (Branch Left r) c x) (ap block_of e) deep in
    omega (arith, deep')
far p q h (AtRight f n y r a c) u (AtRight g l z k a' d) w e none one here there x =
    let deep = far p q (Branch Right r) c u d w (ap second_of e) none one here there x in
    let deep' = subst (λ (a : ℕ). plain (hook_at (Branch Right a) d) w x ≤ plain_rim (Branch Right r) c x) (ap block_of e) deep in
    omega (arith, deep')
far p q h (AtLeft f n y r c b) u (AtRight g l z k a' d) w e none one here there x =
    let sum = plain_plug (Branch Right k) d w x in
    let is : plain (Branch Right r) b x ≡ plain (Branch Right k) (plug d w) x = ap₂ (λ (a : ℕ) (t : Skeleton). plain (Branch Right a) t x) (ap block_of e) (ap second_of e) in
    omega (arith, sum, is)
far p q h (AtRight f n y r a c) u (AtLeft g l z k d b') w e none one here there x =
    let sum = plain_plug (Branch Left k) d w x in
    let is : plain (Branch Left r) a x ≡ plain (Branch Left k) (plug d w) x = ap₂ (λ (a : ℕ) (t : Skeleton). plain (Branch Left a) t x) (ap block_of e) (ap first_of e) in
    omega (arith, sum, is)
far p q h (AtCall f n y c) u (AtLeft g l z k d b') w e none one here there x = absurd (cc)
far p q h (AtCall f n y c) u (AtRight g l z k a' d) w e none one here there x = absurd (cc)
far p q h (AtLeft f n y r c b) u (AtCall g l z d) w e none one here there x = absurd (cc)
far p q h (AtRight f n y r a c) u (AtCall g l z d) w e none one here there x = absurd (cc)

-- two leaves that begin are strands beside one another
has_strand : (m : Cell → ℕ) (h : LinkKind) (d : Around) (q y f n : ℕ) → HasStrand (tree_at m h (plug d (Leaf (InPlace q) (Begins y) f n))) (frame_at m f n y None None)
has_strand m h Top q y f n = refl
has_strand m h (AtCall g l z d) q y f n = has_strand m (Called g z) d q y f n
has_strand m h (AtLeft g l z r d b) q y f n = inl (has_strand m (Branch Left r) d q y f n)
has_strand m h (AtRight g l z r a d) q y f n = inr (has_strand m (Branch Right r) d q y f n)

module _ (m : Cell → ℕ) (p q : ℕ) (ne : q ≢ p) (yp fp np yq fq nq : ℕ) where
  abbrev u_ : Skeleton
  u_ = Leaf (InPlace p) (Begins yp) fp np

  abbrev w_ : Skeleton
  w_ = Leaf (InPlace q) (Begins yq) fq nq

  at_of : (d : Around) → u_ ≡ plug d w_ → ⊥
  at_of d e = let a : at q u_ ≡ at q (plug d w_) = ap (at q) e in let b = at_plug q d w_ in let one = is_at_own q in
      let none : at q u_ ≡ 0 = cond-false {A = ℕ} (p == q) 1 0 (ne_eqb p q (λ k. ne (sym k))) in omega (arith, a, b, one, none)

  at_of' : (c : Around) → plug c u_ ≡ w_ → ⊥
  at_of' c e = let a : at p (plug c u_) ≡ at p w_ = ap (at p) e in let b = at_plug p c u_ in let one = is_at_own p in
      let none : at p w_ ≡ 0 = cond-false {A = ℕ} (q == p) 1 0 (ne_eqb q p ne) in omega (arith, a, b, one, none)

  pub beside : (h : LinkKind) (c d : Around) → plug c u_ ≡ plug d w_ → AreBeside (tree_at m h (plug c u_)) (frame_at m fp np yp None None) (frame_at m fq nq yq None None)
  beside h Top d e = absurd (at_of d e)
  beside h (AtCall f n y c) Top e = absurd (at_of' (AtCall f n y c) e)
  beside h (AtLeft f n y r c b) Top e = absurd (at_of' (AtLeft f n y r c b) e)
  beside h (AtRight f n y r a c) Top e = absurd (at_of' (AtRight f n y r a c) e)
  beside h (AtCall f n y c) (AtCall g l z d) e = beside (Called f y) c d (ap first_of e)
  beside h (AtLeft f n y r c b) (AtLeft g l z k d b') e = inr (inr (inl (beside (Branch Left r) c d (ap first_of e))))
  beside h (AtRight f n y r a c) (AtRight g l z k a' d) e = inr (inr (inr (beside (Branch Right r) c d (ap second_of e))))
  beside h (AtLeft f n y r c b) (AtRight g l z k a' d) e = inl (
    has_strand m (Branch Left r) c p yp fp np,
    subst (λ (t : Skeleton). HasStrand (tree_at m (Branch Right r) t) (frame_at m fq nq yq None None)) (sym (ap second_of e)) (has_strand m (Branch Right r) d q yq fq nq),
  )
  beside h (AtRight f n y r a c) (AtLeft g l z k d b') e = inr (inl (
    has_strand m (Branch Right r) c p yp fp np,
    subst (λ (t : Skeleton). HasStrand (tree_at m (Branch Left r) t) (frame_at m fq nq yq None None)) (sym (ap first_of e)) (has_strand m (Branch Left r) d q yq fq nq),
  ))
  beside h (AtCall f n y c) (AtLeft g l z k d b') e = absurd (cc)
  beside h (AtCall f n y c) (AtRight g l z k a' d) e = absurd (cc)
  beside h (AtLeft f n y r c b) (AtCall g l z d) e = absurd (cc)
  beside h (AtRight f n y r a c) (AtCall g l z d) e = absurd (cc)
