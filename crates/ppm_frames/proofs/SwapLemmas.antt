-- What stands good of a tree when one of its parts is swapped for another.
use Rattle.std.proofs.Common.{◌≡◌, ◌⊎◌, ◌≤◌, ℕ, ◌+◌, ◌==◌, cond, Bool, false, inl, inr, refl, sym, ap, ap₂, ◌∙◌, subst, arith}
use Rattle.std.proofs.lemmas.Bool.{cases_Bool, cond-false, cond-true, eq-eqb}
use Rattle.ppm_cells.specs.declared.cell.Cell.{Cell}
use Rattle.ppm_cells.specs.declared.cell.Cell.TheVariants.{BlockWord}
use Rattle.ppm_cells.specs.declared.link.LinkKind.{LinkKind}
use Rattle.ppm_cells.specs.declared.link.LinkKind.TheVariants.{Root, Call as Called, Branch, Fork as Forked}
use Rattle.ppm_cells.specs.declared.restart.RestartKind.{RestartKind}
use Rattle.ppm_cells.specs.declared.restart.RestartKind.TheVariants.{Run, Bump, Push1, Push2, Unwind, Arrive, Join}
use Rattle.ppm_cells.specs.declared.side.Side.TheVariants.{Left, Right}
use Rattle.ppm_code.specs.declared.code.CodeParts.{CodeParts}
use Rattle.ppm_code.specs.Sizes.{slots_at}
use Rattle.ppm_frames.specs.Skeletons.{Stand, Begins, Over, Arrives, Who, InPlace, Fresh, Waiting, Held, Came, Inlined, Skeleton, Leaf, Calling, Forking, inside, count, is_at, at, Around, Top, AtCall, AtLeft, AtRight, plug, hook_at, rim, at_rim}
use Rattle.ppm_frames.specs.Good.{ended, link_at, given, is_over, mark, given_both, order_of, Framed, IsGiven, Calls, Forks, BumpsAt, Match, Matches, IsSized, Good}
use Rattle.ppm_frames.specs.Laws.{Same}
use Rattle.ppm_frames.proofs.SkeletonLemmas.{SameFrame, same_frame, same_at, inside_at, hung_same, Aim, aim_same, aim_plug}

-- a part may be swapped for another
pub record Swap (m n : Cell → ℕ) (h : LinkKind) (u v : Skeleton) : Type 0 where
  pub aim : Aim m n u v
  pub order : mark v ≡ mark u
  pub gives : ((is_over u ≡ false) × (given m h u ≡ ended)) ⊎ ((is_over v ≡ is_over u) × (given n h v ≡ given m h u))

pub sub : (m n : Cell → ℕ) (c d : ℕ → ℕ) → ((x : ℕ) → d x ≤ c x) → Same c m n → Same d m n
sub m n c d le s x ne = s x (λ z. ne (omega (arith, le x, z)))

module _ (m n : Cell → ℕ) where
  pub given_same : (h : LinkKind) (t : Skeleton) → Same (count h t) m n → given n h t ≡ given m h t
  given_same h (Leaf w Over f l) s = (same_frame m n (count h (Leaf w Over f l)) f l (λ x. omega arith) s).outcome
  given_same h (Leaf w Arrives f l) s = hung_same m n (count h (Leaf w Arrives f l)) h (λ x. omega arith) s
  given_same h (Leaf w (Begins y) f l) s = refl
  given_same h (Calling f l y t) s = refl
  given_same h (Forking f l y r a b) s = refl

  pub swap_same : (h : LinkKind) (t : Skeleton) → Same (count h t) m n → Swap m n h t t
  swap_same h t s = record { aim = aim_same m n h t s; order = refl; gives = inr (refl, given_same h t s) }

  pub swap_plug : (h : LinkKind) (c : Around) (u v : Skeleton) → Same (rim h c) m n → Swap m n (hook_at h c) u v → Swap m n h (plug c u) (plug c v)
  swap_plug h Top u v s swap = swap
  swap_plug h (AtCall f l y c) u v s swap = record { aim = aim_plug m n h (AtCall f l y c) u v s swap.aim; order = refl; gives = inl (refl, refl) }
  swap_plug h (AtLeft f l y r c b) u v s swap = record { aim = aim_plug m n h (AtLeft f l y r c b) u v s swap.aim; order = refl; gives = inl (refl, refl) }
  swap_plug h (AtRight f l y r a c) u v s swap = record { aim = aim_plug m n h (AtRight f l y r a c) u v s swap.aim; order = refl; gives = inl (refl, refl) }

  module _ (i : CodeParts) where
    framed_same : (h : LinkKind) (f l : ℕ) → SameFrame m n f l → Framed i m h f l → Framed i n h f l
    framed_same h f l s e = ap link_at s.link ∙ e

    -- the outcome of a frame that waits
    waits : (f o o' : ℕ) → n (BlockWord (f + 1)) ≡ m (BlockWord (f + 1)) → ((o ≡ ended) ⊎ (o' ≡ o)) → IsGiven i m f o → IsGiven i n f o'
    waits f o o' s g (inl e) = inl (s ∙ e)
    waits f o o' s (inl one) (inr e) = inl (s ∙ e ∙ one)
    waits f o o' s (inr same) (inr e) = inr (s ∙ e ∙ sym same)

    pub calls_swap : (h : LinkKind) (f l y : ℕ) (t u : Skeleton) → SameFrame m n f l → Swap m n (Called f y) t u → Calls i m h f l y t → Calls i n h f l y u
    calls_swap h f l y t u s swap c = record {
      framed = framed_same h f l s c.framed;
      size = ap (slots_at i) (s.header y) ∙ c.size;
      outcome = waits f (given m (Called f y) t) (given n (Called f y) u) s.outcome (elim swap.gives [ inl g ↦ inl g.1 | inr g ↦ inr g.1 ]) c.outcome;
      target = subst (λ (z : ℕ). z ≤ l) (sym (ap (λ (z : ℕ). n (BlockWord (z + 5))) swap.aim.head ∙ swap.aim.aim)) c.target;
    }

    both_given : (r : ℕ) (a b a' b' : Skeleton) → Swap m n (Branch Left r) a a' → Swap m n (Branch Right r) b b' → (given_both m r a b ≡ ended) ⊎ (given_both n r a' b' ≡ given_both m r a b)
    both_given r a b a' b' sa sb = elim sa.gives [
      | inl g ↦ inl (cond-false (is_over a) _ _ g.0)
      | inr g ↦ elim sb.gives [
        | inl k ↦ inl (elim (cases_Bool (is_over a)) [ inl e ↦ cond-true (is_over a) _ _ e ∙ cond-false (is_over b) _ _ k.0 | inr e ↦ cond-false (is_over a) _ _ e ])
        | inr k ↦ inr (
            ap₂ (λ (x y : Bool). cond x (cond y (cond (given n (Branch Left r) a' == ended) (given n (Branch Right r) b') (given n (Branch Left r) a')) ended) ended) g.0 k.0
            ∙ ap₂ (λ (x y : ℕ). cond (is_over a) (cond (is_over b) (cond (x == ended) y x) ended) ended) g.1 k.1)
      ]
    ]

    pub record SameBlock (r : ℕ) : Type 0 where
      pub link : n (BlockWord r) ≡ m (BlockWord r)
      pub order : n (BlockWord (r + 1)) ≡ m (BlockWord (r + 1))
      pub offset : n (BlockWord (r + 4)) ≡ m (BlockWord (r + 4))

    pub same_block : (c : ℕ → ℕ) (r : ℕ) → ((x : ℕ) → inside r 1 x + (inside (r + 1) 1 x + inside (r + 4) 1 x) ≤ c x) → Same c m n → SameBlock r
    same_block c r le s = record {
      link = same_at c m n s r (let k = inside_at r 1 r 0 (omega arith) (omega arith) in omega (arith, k, le r));
      order = same_at c m n s (r + 1) (let k = inside_at (r + 1) 1 (r + 1) 0 (omega arith) (omega arith) in omega (arith, k, le (r + 1)));
      offset = same_at c m n s (r + 4) (let k = inside_at (r + 4) 1 (r + 4) 0 (omega arith) (omega arith) in omega (arith, k, le (r + 4)));
    }

    pub forks_swap : (h : LinkKind) (f l y r : ℕ) (a b a' b' : Skeleton) → SameFrame m n f l → SameBlock r → Swap m n (Branch Left r) a a' → Swap m n (Branch Right r) b b'
        → Forks i m h f l y r a b → Forks i n h f l y r a' b'
    forks_swap h f l y r a b a' b' s block sa sb c = record {
      framed = framed_same h f l s c.framed;
      size = ap (slots_at i) (s.header y) ∙ c.size;
      outcome = waits f _ _ s.outcome (both_given r a b a' b' sa sb) c.outcome;
      hook = ap (λ (z : ℕ). (link_at z).kind) block.link ∙ c.hook;
      order = block.order ∙ c.order ∙ ap₂ order_of (sym sa.order) (sym sb.order);
      left = sa.aim.head ∙ c.left;
      right = sb.aim.head ∙ c.right ∙ ap (λ (z : ℕ). r + z) (sym block.offset);
      left_target = subst (λ (z : ℕ). z ≤ l) (sym (ap (λ (z : ℕ). n (BlockWord (z + 5))) sa.aim.head ∙ sa.aim.aim)) c.left_target;
      right_target = subst (λ (z : ℕ). z ≤ l) (sym (ap (λ (z : ℕ). n (BlockWord (z + 5))) sb.aim.head ∙ sb.aim.aim)) c.right_target;
    }

    module _ (k l : ℕ → RestartKind) where
      bumps_same : (h : LinkKind) (r f : ℕ) → BumpsAt i m h r f → BumpsAt i n h r f
      bumps_same (Called g y) r f b = b
      bumps_same (Branch Left q) r f b = b
      bumps_same (Branch Right q) r f b = b
      bumps_same Root r f b = b
      bumps_same (Forked g y) r f b = b

      pub match_same : (x : RestartKind) (h : LinkKind) (st : Stand) (f : ℕ) → n (BlockWord (f + 1)) ≡ m (BlockWord (f + 1)) → Match i m x h st f → Match i n x h st f
      match_same (Bump r) h (Begins z) f e (a, b, c) = (a, bumps_same h r f b, e ∙ c)
      match_same (Push1 r) h (Begins z) f e (a, b, c, d) = (a, b, c, e ∙ d)
      match_same (Run g y) h (Begins z) f e a = a
      match_same (Push2 r) h (Begins z) f e (a, b, c, d) = (a, b, c, e ∙ d)
      match_same (Unwind g) h Over f e a = a
      match_same (Arrive r s) h Arrives f e a = a
      match_same (Join r s) h Arrives f e a = a
      match_same _ h _ f e a = absurd a

      matches_same : (h : LinkKind) (w : Who) (st : Stand) (f : ℕ) → n (BlockWord (f + 1)) ≡ m (BlockWord (f + 1)) → ((p : ℕ) → (is_at p w ≡ 0 → ⊥) → l p ≡ k p) → Matches i m k h w st f → Matches i n l h w st f
      matches_same h (InPlace p) st f e kinds a = subst (λ (x : RestartKind). Match i n x h st f) (sym (kinds p (λ z. let one = cond-true {A = ℕ} (p == p) 1 0 (eq-eqb p p refl) in omega (arith, one, z)))) (match_same (k p) h st f e a)
      matches_same h Waiting st f e kinds a = (a.0, e ∙ a.1)
      matches_same h Came st f e kinds a = a
      matches_same h Fresh st f e kinds a = (a.0, e ∙ a.1)
      matches_same h Held st f e kinds a = (a.0, e ∙ a.1)
      matches_same h Inlined st f e kinds a = a

      sized_same : (st : Stand) (f j : ℕ) → SameFrame m n f j → IsSized i m st f j → IsSized i n st f j
      sized_same (Begins y) f j s a = ap (slots_at i) (s.header y) ∙ a
      sized_same Over f j s a = a
      sized_same Arrives f j s a = a

      pub good_same : (h : LinkKind) (t : Skeleton) → Same (count h t) m n → ((p : ℕ) → (at p t ≡ 0 → ⊥) → l p ≡ k p) → Good i m k h t → Good i n l h t
      good_same h (Leaf w st f j) s kinds (a, b, c) =
          let frame = same_frame m n (count h (Leaf w st f j)) f j (λ x. omega arith) s in
          (framed_same h f j frame a, sized_same st f j frame b, matches_same h w st f frame.outcome kinds c)
      good_same h (Calling f j y t) s kinds (a, b) =
          let below = sub m n (count h (Calling f j y t)) (count (Called f y) t) (λ x. omega arith) s in
          (calls_swap h f j y t t (same_frame m n (count h (Calling f j y t)) f j (λ x. omega arith) s) (swap_same (Called f y) t below) a, good_same (Called f y) t below kinds b)
      good_same h (Forking f j y r t u) s kinds (a, b, c) =
          let left = sub m n (count h (Forking f j y r t u)) (count (Branch Left r) t) (λ x. omega arith) s in
          let right = sub m n (count h (Forking f j y r t u)) (count (Branch Right r) u) (λ x. omega arith) s in (
            forks_swap h f j y r t u t u (same_frame m n (count h (Forking f j y r t u)) f j (λ x. omega arith) s) (same_block (count h (Forking f j y r t u)) r (λ x. omega arith) s)
                (swap_same (Branch Left r) t left) (swap_same (Branch Right r) u right) a,
            good_same (Branch Left r) t left (λ p ne. kinds p (λ z. ne (omega (arith, z)))) b,
            good_same (Branch Right r) u right (λ p ne. kinds p (λ z. ne (omega (arith, z)))) c,
          )

      pub good_swap : (h : LinkKind) (c : Around) (u v : Skeleton) → Same (rim h c) m n → ((p : ℕ) → (at_rim p c ≡ 0 → ⊥) → l p ≡ k p) → Swap m n (hook_at h c) u v → Good i n l (hook_at h c) v
          → Good i m k h (plug c u) → Good i n l h (plug c v)
      good_swap h Top u v s kinds swap good all = good
      good_swap h (AtCall f j y c) u v s kinds swap good (a, b) =
          let in_ = sub m n (rim h (AtCall f j y c)) (rim (Called f y) c) (λ x. omega arith) s in (
            calls_swap h f j y (plug c u) (plug c v) (same_frame m n (rim h (AtCall f j y c)) f j (λ x. omega arith) s) (swap_plug (Called f y) c u v in_ swap) a,
            good_swap (Called f y) c u v in_ kinds swap good b,
          )
      good_swap h (AtLeft f j y r c t) u v s kinds swap good (a, b, d) =
          let in_ = sub m n (rim h (AtLeft f j y r c t)) (rim (Branch Left r) c) (λ x. omega arith) s in
          let beside = sub m n (rim h (AtLeft f j y r c t)) (count (Branch Right r) t) (λ x. omega arith) s in (
            forks_swap h f j y r (plug c u) t (plug c v) t (same_frame m n (rim h (AtLeft f j y r c t)) f j (λ x. omega arith) s) (same_block (rim h (AtLeft f j y r c t)) r (λ x. omega arith) s)
                (swap_plug (Branch Left r) c u v in_ swap) (swap_same (Branch Right r) t beside) a,
            good_swap (Branch Left r) c u v in_ (λ p ne. kinds p (λ z. ne (omega (arith, z)))) swap good b,
            good_same (Branch Right r) t beside (λ p ne. kinds p (λ z. ne (omega (arith, z)))) d,
          )
      good_swap h (AtRight f j y r t c) u v s kinds swap good (a, b, d) =
          let in_ = sub m n (rim h (AtRight f j y r t c)) (rim (Branch Right r) c) (λ x. omega arith) s in
          let beside = sub m n (rim h (AtRight f j y r t c)) (count (Branch Left r) t) (λ x. omega arith) s in (
            forks_swap h f j y r t (plug c u) t (plug c v) (same_frame m n (rim h (AtRight f j y r t c)) f j (λ x. omega arith) s) (same_block (rim h (AtRight f j y r t c)) r (λ x. omega arith) s)
                (swap_same (Branch Left r) t beside) (swap_plug (Branch Right r) c u v in_ swap) a,
            good_same (Branch Left r) t beside (λ p ne. kinds p (λ z. ne (omega (arith, z)))) b,
            good_swap (Branch Right r) c u v in_ (λ p ne. kinds p (λ z. ne (omega (arith, z)))) swap good d,
          )

pub good_here : (i : CodeParts) (m : Cell → ℕ) (k : ℕ → RestartKind) (h : LinkKind) (c : Around) (u : Skeleton) → Good i m k h (plug c u) → Good i m k (hook_at h c) u
good_here i m k h Top u good = good
good_here i m k h (AtCall f n y c) u good = good_here i m k (Called f y) c u good.1
good_here i m k h (AtLeft f n y r c b) u good = good_here i m k (Branch Left r) c u good.1
good_here i m k h (AtRight f n y r a c) u good = good_here i m k (Branch Right r) c u good.2
