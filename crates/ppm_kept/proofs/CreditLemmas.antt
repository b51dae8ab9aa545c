-- What trees owe, and what each change of a skeleton makes of it.
use Rattle.std.proofs.Common.{◌≡◌, ◌⊎◌, ◌≤◌, ℕ, ◌+◌, ◌==◌, Bool, true, false, cond, inl, inr, refl, sym, ap, ◌∙◌, arith}
use Rattle.std.proofs.lemmas.Bool.{cases_Bool, cond-true, cond-false}
use Rattle.ppm_cells.specs.declared.link.LinkKind.{LinkKind}
use Rattle.ppm_cells.specs.declared.link.LinkKind.TheVariants.{Root, Call as Called, Branch}
use Rattle.ppm_cells.specs.declared.side.Side.{Side}
use Rattle.ppm_cells.specs.declared.side.Side.TheVariants.{Left, Right}
use Rattle.ppm_frames.specs.Skeletons.{Stand, Begins, Over, Who, InPlace, Fresh, Waiting, Held, Came, Inlined, Skeleton, Leaf, Calling, Forking, holds, grow_leaf, grow, back, joined, over_left, readied, pushed, passed, roused, inlined, awake, take_in, Around, Top, AtCall, AtLeft, AtRight, plug, hook_at}
use Rattle.ppm_frames.proofs.SkeletonLemmas.{fork_with}
use Rattle.ppm_kept.specs.Credit.{branch_due, stand_due, owed, HandedOwes}
use Rattle.ppm_kept.specs.Heirs.{handed}

-- a part that owes less in a whole
pub owed_plug : (h : LinkKind) (c : Around) (u v : Skeleton) (x y : ℕ) → owed (hook_at h c) v + x ≤ owed (hook_at h c) u + y → owed h (plug c v) + x ≤ owed h (plug c u) + y
owed_plug h Top u v x y le = le
owed_plug h (AtCall f n z c) u v x y le = let a = owed_plug (Called f z) c u v x y le in omega (arith, a)
owed_plug h (AtLeft f n z r c b) u v x y le = let a = owed_plug (Branch Left r) c u v x y le in omega (arith, a)
owed_plug h (AtRight f n z r a c) u v x y le = let e = owed_plug (Branch Right r) c u v x y le in omega (arith, e)

-- either of two skeletons
either : (h : LinkKind) (n : ℕ) (b : Bool) (u v : Skeleton) → owed h u ≡ n → owed h v ≡ n → owed h (cond b u v) ≡ n
either h n true u v a c = a
either h n false u v a c = c

-- whose a leaf is makes no difference
came_leaf : (h : LinkKind) (p : ℕ) (w : Who) (st : Stand) (f n : ℕ) → owed h (grow_leaf p (λ st f n. Leaf Came st f n) w st f n) ≡ stand_due h st
came_leaf h p (InPlace q) st f n = either h (stand_due h st) (q == p) (Leaf Came st f n) (Leaf (InPlace q) st f n) refl refl
came_leaf h p Fresh st f n = refl
came_leaf h p Waiting st f n = refl
came_leaf h p Held st f n = refl
came_leaf h p Came st f n = refl
came_leaf h p Inlined st f n = refl

pub came_same : (h : LinkKind) (p : ℕ) (t : Skeleton) → owed h (grow p (λ st f n. Leaf Came st f n) t) ≡ owed h t
came_same h p (Leaf w st f n) = came_leaf h p w st f n
came_same h p (Calling f n y t) = let e = came_same (Called f y) p t in omega (arith, e)
came_same h p (Forking f n y r a b) = let e = came_same (Branch Left r) p a in let d = came_same (Branch Right r) p b in omega (arith, e, d)

handed_leaf : (h : LinkKind) (v p : ℕ) (w : Who) (st : Stand) (f n : ℕ) → owed h (grow_leaf v (λ st f n. Leaf (InPlace p) st f n) w st f n) ≡ stand_due h st
handed_leaf h v p (InPlace q) st f n = either h (stand_due h st) (q == v) (Leaf (InPlace p) st f n) (Leaf (InPlace q) st f n) refl refl
handed_leaf h v p Fresh st f n = refl
handed_leaf h v p Waiting st f n = refl
handed_leaf h v p Held st f n = refl
handed_leaf h v p Came st f n = refl
handed_leaf h v p Inlined st f n = refl

handed_same : (h : LinkKind) (v p : ℕ) (t : Skeleton) → owed h (handed v p t) ≡ owed h t
handed_same h v p (Leaf w st f n) = handed_leaf h v p w st f n
handed_same h v p (Calling f n y t) = let e = handed_same (Called f y) v p t in omega (arith, e)
handed_same h v p (Forking f n y r a b) = let e = handed_same (Branch Left r) v p a in let d = handed_same (Branch Right r) v p b in omega (arith, e, d)

pub handed_owes : HandedOwes
handed_owes v p t = handed_same Root v p t

-- a change at one fork that changes nothing of what it owes
pub over_same : (p : ℕ) (e : (f n y r : ℕ) → Skeleton → Skeleton → Skeleton) → ((h : LinkKind) (f n y r : ℕ) (a b : Skeleton) → owed h (e f n y r a b) ≡ owed h (Forking f n y r a b))
    → (h : LinkKind) (t : Skeleton) → owed h (over_left p e t) ≡ owed h t
over_same p e same h (Leaf w st f n) = refl
over_same p e same h (Calling f n y t) = let d = over_same p e same (Called f y) t in omega (arith, d)
over_same p e same h (Forking f n y r a b) =
    let d = over_same p e same (Branch Left r) a in let g = over_same p e same (Branch Right r) b in
    either h (owed h (Forking f n y r a b)) (holds p a) (e f n y r a b) (Forking f n y r (over_left p e a) (over_left p e b)) (same h f n y r a b) (omega (arith, d, g))

readied_same : (h : LinkKind) (w : Who) (t : Skeleton) → owed h (readied w t) ≡ owed h t
readied_same h w (Leaf Fresh st f n) = refl
readied_same h w (Leaf (InPlace q) st f n) = refl
readied_same h w (Leaf Waiting st f n) = refl
readied_same h w (Leaf Held st f n) = refl
readied_same h w (Leaf Came st f n) = refl
readied_same h w (Leaf Inlined st f n) = refl
readied_same h w (Calling f n y t) = refl
readied_same h w (Forking f n y r a b) = refl

pub pushed_same : (w : Who) (h : LinkKind) (f n y r : ℕ) (a b : Skeleton) → owed h (pushed w f n y r a b) ≡ owed h (Forking f n y r a b)
pushed_same w h f n y r a b = let e = readied_same (Branch Right r) w b in omega (arith, e)

passed_same : (h : LinkKind) (t : Skeleton) → owed h (passed t) ≡ owed h t
passed_same h (Leaf w st f n) = refl
passed_same h (Calling f n y t) = refl
passed_same h (Forking f n y r a b) = refl

roused_same : (h : LinkKind) (p : ℕ) (t : Skeleton) → owed h (roused p t) ≡ owed h t
roused_same h p (Leaf Held st f n) = refl
roused_same h p (Leaf (InPlace q) st f n) = refl
roused_same h p (Leaf Fresh st f n) = refl
roused_same h p (Leaf Waiting st f n) = refl
roused_same h p (Leaf Came st f n) = refl
roused_same h p (Leaf Inlined st f n) = refl
roused_same h p (Calling f n y t) = refl
roused_same h p (Forking f n y r a b) = refl

pub inlined_same : (p : ℕ) (h : LinkKind) (f n y r : ℕ) (a b : Skeleton) → owed h (inlined p f n y r a b) ≡ owed h (Forking f n y r a b)
inlined_same p h f n y r a b = let e = passed_same (Branch Left r) a in let d = roused_same (Branch Right r) p b in omega (arith, e, d)

awake_same : (h : LinkKind) (p : ℕ) (t : Skeleton) → owed h (awake p t) ≡ owed h t
awake_same h p (Leaf Waiting st f n) = refl
awake_same h p (Leaf (InPlace q) st f n) = refl
awake_same h p (Leaf Fresh st f n) = refl
awake_same h p (Leaf Held st f n) = refl
awake_same h p (Leaf Came st f n) = refl
awake_same h p (Leaf Inlined st f n) = refl
awake_same h p (Calling f n y t) = refl
awake_same h p (Forking f n y r a b) = refl

pub taken_same : (h : LinkKind) (r p : ℕ) (t : Skeleton) → owed h (take_in r p t) ≡ owed h t
taken_same h r p (Leaf w st f n) = refl
taken_same h r p (Calling f n y t) = let e = taken_same (Called f y) r p t in omega (arith, e)
taken_same h r p (Forking f n y q a b) =
    let e = awake_same (Branch Right q) p b in
    let d = taken_same (Branch Left q) r p a in let g = taken_same (Branch Right q) r p b in
    either h (owed h (Forking f n y q a b)) (q == r) (Forking f n y q a (awake p b)) (Forking f n y q (take_in r p a) (take_in r p b)) (omega (arith, e)) (omega (arith, d, g))

-- a frame that waits goes on, or is over
abbrev GoesOn : (ℕ → Stand) → Type 0
GoesOn k = (h : LinkKind) (y : ℕ) → stand_due h (k y) ≤ branch_due h + 6

fewer : (h : LinkKind) (n : ℕ) (b : Bool) (u v : Skeleton) → owed h u ≤ n → owed h v ≤ n → owed h (cond b u v) ≤ n
fewer h n true u v a c = a
fewer h n false u v a c = c

pub back_less : (h : LinkKind) (p : ℕ) (k : ℕ → Stand) → GoesOn k → (t : Skeleton) → owed h (back p k t) ≤ owed h t
back_less h p k on (Leaf w st f n) = omega arith
back_less h p k on (Calling f n y t) = let a = back_less (Called f y) p k on t in let b = on h y in
    fewer h (owed h (Calling f n y t)) (holds p t) (Leaf (InPlace p) (k y) f n) (Calling f n y (back p k t)) (omega (arith, b)) (omega (arith, a))
back_less h p k on (Forking f n y r a b) = let d = back_less (Branch Left r) p k on a in let e = back_less (Branch Right r) p k on b in omega (arith, d, e)

pub joined_less : (h : LinkKind) (p : ℕ) (k : ℕ → Stand) → GoesOn k → (t : Skeleton) → owed h (joined p k t) ≤ owed h t
joined_less h p k on (Leaf w st f n) = omega arith
joined_less h p k on (Calling f n y t) = let a = joined_less (Called f y) p k on t in omega (arith, a)
joined_less h p k on (Forking f n y r a b) =
    let d = joined_less (Branch Left r) p k on a in let e = joined_less (Branch Right r) p k on b in let g = on h y in
    fewer h (owed h (Forking f n y r a b)) (holds p a) (Leaf (InPlace p) (k y) f n) (cond (holds p b) (Leaf (InPlace p) (k y) f n) (Forking f n y r (joined p k a) (joined p k b)))
    (omega (arith, g)) (fewer h (owed h (Forking f n y r a b)) (holds p b) (Leaf (InPlace p) (k y) f n) (Forking f n y r (joined p k a) (joined p k b)) (omega (arith, g)) (omega (arith, d, e)))

pub goes_on : GoesOn (λ z. Begins z)
goes_on h y = omega arith

pub is_over : GoesOn (λ z. Over)
is_over h y = omega arith

-- a frame that waits for the leaf of a place, as its callee or as one of its branches
abbrev pub WaitsFor : ℕ → Skeleton → Type 0
WaitsFor p (Leaf w st f n) = ⊥
WaitsFor p (Calling f n y t) = (holds p t ≡ true) ⊎ WaitsFor p t
WaitsFor p (Forking f n y r a b) = WaitsFor p a ⊎ WaitsFor p b

abbrev pub JoinsAt : ℕ → Skeleton → Type 0
JoinsAt p (Leaf w st f n) = ⊥
JoinsAt p (Calling f n y t) = JoinsAt p t
JoinsAt p (Forking f n y r a b) = ((holds p a ≡ true) ⊎ (holds p b ≡ true)) ⊎ (JoinsAt p a ⊎ JoinsAt p b)

-- it is over then, and one frame fewer waits
pub back_pays : (h : LinkKind) (p : ℕ) (t : Skeleton) → WaitsFor p t → owed h (back p (λ z. Over) t) + 6 ≤ owed h t
back_pays h p (Leaf w st f n) waits = absurd waits
back_pays h p (Calling f n y t) waits = elim (cases_Bool (holds p t)) [
  | inl e ↦ let a : owed h (cond (holds p t) (Leaf (InPlace p) Over f n) (Calling f n y (back p (λ z. Over) t))) ≡ branch_due h = ap (owed h) (cond-true (holds p t) _ _ e) in omega (arith, a)
  | inr e ↦
      let a : owed h (cond (holds p t) (Leaf (InPlace p) Over f n) (Calling f n y (back p (λ z. Over) t))) ≡ owed h (Calling f n y (back p (λ z. Over) t)) = ap (owed h) (cond-false (holds p t) _ _ e) in
      elim waits [
        | inl here ↦ absurd (let z : true ≡ false = sym here ∙ e in cc)
        | inr below ↦ let le = back_pays (Called f y) p t below in omega (arith, a, le)
      ]
]
back_pays h p (Forking f n y r a b) (inl waits) = let le = back_pays (Branch Left r) p a waits in let d = back_less (Branch Right r) p (λ z. Over) is_over b in omega (arith, le, d)
back_pays h p (Forking f n y r a b) (inr waits) = let le = back_pays (Branch Right r) p b waits in let d = back_less (Branch Left r) p (λ z. Over) is_over a in omega (arith, le, d)

pub joined_pays : (h : LinkKind) (p : ℕ) (t : Skeleton) → JoinsAt p t → owed h (joined p (λ z. Over) t) + 6 ≤ owed h t
joined_pays h p (Leaf w st f n) at_ = absurd at_
joined_pays h p (Calling f n y t) at_ = let le = joined_pays (Called f y) p t at_ in omega (arith, le)
joined_pays h p (Forking f n y r a b) at_ = elim (cases_Bool (holds p a)) [
  | inl e ↦ let q : owed h (joined p (λ z. Over) (Forking f n y r a b)) ≡ branch_due h = ap (owed h) (cond-true (holds p a) _ _ e) in omega (arith, q)
  | inr e ↦ elim (cases_Bool (holds p b)) [
    | inl d ↦ let q : owed h (joined p (λ z. Over) (Forking f n y r a b)) ≡ branch_due h = ap (owed h) (cond-false (holds p a) _ _ e ∙ cond-true (holds p b) _ _ d) in omega (arith, q)
    | inr d ↦
        let q : owed h (joined p (λ z. Over) (Forking f n y r a b)) ≡ owed h (Forking f n y r (joined p (λ z. Over) a) (joined p (λ z. Over) b)) = ap (owed h) (cond-false (holds p a) _ _ e ∙ cond-false (holds p b) _ _ d) in
        elim at_ [
          | inl here ↦ absurd (elim here [ inl x ↦ (let z : true ≡ false = sym x ∙ e in cc) | inr x ↦ (let z : true ≡ false = sym x ∙ d in cc) ])
          | inr below ↦ elim below [
            | inl x ↦ let le = joined_pays (Branch Left r) p a x in let g = joined_less (Branch Right r) p (λ z. Over) is_over b in omega (arith, q, le, g)
            | inr x ↦ let le = joined_pays (Branch Right r) p b x in let g = joined_less (Branch Left r) p (λ z. Over) is_over a in omega (arith, q, le, g)
          ]
        ]
  ]
]

-- such a frame in the tree around
pub waits_plug : (p : ℕ) (c : Around) (u : Skeleton) → WaitsFor p u → WaitsFor p (plug c u)
waits_plug p Top u w = w
waits_plug p (AtCall f n y c) u w = inr (waits_plug p c u w)
waits_plug p (AtLeft f n y r c b) u w = inl (waits_plug p c u w)
waits_plug p (AtRight f n y r a c) u w = inr (waits_plug p c u w)

pub joins_plug : (p : ℕ) (c : Around) (u : Skeleton) → JoinsAt p u → JoinsAt p (plug c u)
joins_plug p Top u w = w
joins_plug p (AtCall f n y c) u w = joins_plug p c u w
joins_plug p (AtLeft f n y r c b) u w = inr (inl (joins_plug p c u w))
joins_plug p (AtRight f n y r a c) u w = inr (inr (joins_plug p c u w))

pub joins_here : (p f n y r : ℕ) (d : Side) (u b : Skeleton) → holds p u ≡ true → JoinsAt p (fork_with f n y r d u b)
joins_here p f n y r Left u b e = inl (inl e)
joins_here p f n y r Right u b e = inl (inr e)
