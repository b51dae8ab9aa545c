-- What has come of each right branch, and what the skeleton shows of it, after each step.
use Rattle.std.proofs.Common.{◌≡◌, ◌≢◌, ◌⊎◌, ◌≤◌, ℕ, ◌+◌, true, inl, inr, refl, sym, ap, ◌∙◌, subst, subst₂, arith}
use Rattle.std.proofs.lemmas.Bool.{cases_eq}
use Rattle.ppm_strands.specs.Tree.{Words, Tree}
use Rattle.ppm_cells.specs.declared.cell.Cell.{Cell}
use Rattle.ppm_cells.specs.declared.cell.Cell.TheVariants.{BlockWord}
use Rattle.ppm_cells.specs.declared.link.Link.{Link}
use Rattle.ppm_cells.specs.declared.link.LinkKind.{LinkKind}
use Rattle.ppm_cells.specs.declared.link.LinkKind.TheVariants.{Root, Call as Called, Branch, Fork as Forked}
use Rattle.ppm_cells.specs.declared.restart.RestartKind.{RestartKind}
use Rattle.ppm_cells.specs.declared.restart.RestartKind.TheVariants.{Bump, Push1, Push2, Join}
use Rattle.ppm_cells.specs.declared.side.Side.{Side}
use Rattle.ppm_cells.specs.declared.side.Side.TheVariants.{Left, Right}
use Rattle.ppm_strands.specs.Strand.{Frame}
use Rattle.ppm_code.specs.Strands.{Point, Result}
use Rattle.ppm_code.specs.declared.location.FrameWord.{FrameWord}
use Rattle.ppm_step.specs.Rows.{is_inline}
use Rattle.ppm_step.specs.declared.row.Row.TheVariants.{Now}
use Rattle.ppm_step.specs.declared.row.Then.TheVariants.{Fork}
use Rattle.ppm_frames.specs.Skeletons.{Begins, Arrives, Who, InPlace, Fresh, Waiting, Held, Came, Inlined, Skeleton, Leaf, Calling, Forking, count, plug, hook_at}
use Rattle.ppm_frames.specs.Good.{mark, link_at, BumpsAt, Match}
use Rattle.ppm_frames.proofs.SkeletonLemmas.{inside_at, branch_from}
use Rattle.ppm_kept.specs.Running.{IsFair}
use Rattle.ppm_kept.specs.Branches.{IsUntaken, Untaken, Unpushed, IsWaitingAt, Waits}
use Rattle.ppm_kept.specs.Kept.{Setting, InRow, State, put, carried, IsKept}
use Rattle.ppm_kept.specs.Unruns.{IsUnrun, IsLeafOf, HasUnrun, SameUnruns, OneChanges, IsNone, Is}
use Rattle.ppm_kept.specs.Fates.{Fate, Unborn, ToPush, Offered, Inline, Begun, Agrees, AllFatesStay, NoneIsLeft, AllFatesShow}
use Rattle.ppm_kept.proofs.PutLemmas.{put_here, put_else}
use Rattle.ppm_kept.proofs.PlaceLemmas.{leaf, is_at_own}
use Rattle.ppm_kept.proofs.NearLemmas.{first_of}
use Rattle.ppm_kept.proofs.NodeLemmas.{nodes_same}
use Rattle.ppm_kept.proofs.UntakenLemmas as untaken
use Rattle.ppm_kept.proofs.BumpRow.{Bumps, bump_at}
use Rattle.ppm_kept.proofs.BumpEndLemmas.{bump_ended}
use Rattle.ppm_kept.proofs.JoiningLemmas.{Comes, joins as joins_leaf, inline_late}
use Rattle.ppm_kept.proofs.UnrunLemmas.{PushShape, shape, has_count, here_has, head_in, unruns_stay}

-- one block has one right branch
leaf_one : (b : Skeleton) (w v : Who) → IsLeafOf w b → IsLeafOf v b → w ≡ v
leaf_one (Leaf x st f n) w v e d = sym e ∙ d
leaf_one (Calling f n y t) w v e d = absurd e
leaf_one (Forking f n y q a b) w v e d = absurd e

one_unrun : (h : LinkKind) (t : Skeleton) (r : ℕ) → count h t r ≤ 1 → (w v : Who) → HasUnrun w r t → HasUnrun v r t → w ≡ v
one_unrun h (Leaf x st f n) r most w v a d = absurd a
one_unrun h (Calling f n y t) r most w v a d = one_unrun (Called f y) t r (omega (arith, most)) w v a d
one_unrun h (Forking f n y q x z) r most w v (inl a) (inl d) = leaf_one z w v a.1 d.1
one_unrun h (Forking f n y q x z) r most w v (inl a) (inr (inl d)) = absurd (let one = head_in q r a.0 in let two = has_count v r (Branch Left q) x d in omega (arith, most, one, two))
one_unrun h (Forking f n y q x z) r most w v (inl a) (inr (inr d)) = absurd (let one = head_in q r a.0 in let two = has_count v r (Branch Right q) z d in omega (arith, most, one, two))
one_unrun h (Forking f n y q x z) r most w v (inr (inl a)) (inl d) = absurd (let one = head_in q r d.0 in let two = has_count w r (Branch Left q) x a in omega (arith, most, one, two))
one_unrun h (Forking f n y q x z) r most w v (inr (inr a)) (inl d) = absurd (let one = head_in q r d.0 in let two = has_count w r (Branch Right q) z a in omega (arith, most, one, two))
one_unrun h (Forking f n y q x z) r most w v (inr (inl a)) (inr (inl d)) = one_unrun (Branch Left q) x r (omega (arith, most)) w v a d
one_unrun h (Forking f n y q x z) r most w v (inr (inr a)) (inr (inr d)) = one_unrun (Branch Right q) z r (omega (arith, most)) w v a d
one_unrun h (Forking f n y q x z) r most w v (inr (inl a)) (inr (inr d)) = absurd (let one = has_count w r (Branch Left q) x a in let two = has_count v r (Branch Right q) z d in omega (arith, most, one, two))
one_unrun h (Forking f n y q x z) r most w v (inr (inr a)) (inr (inl d)) = absurd (let one = has_count w r (Branch Right q) z a in let two = has_count v r (Branch Left q) x d in omega (arith, most, one, two))

-- what is said of one block
record AtBlock (u : Skeleton) (g : ℕ → Fate) (r : ℕ) : Type 0 where
  pub fresh : HasUnrun Fresh r u → (g r ≡ Unborn) ⊎ (g r ≡ ToPush)
  pub held : HasUnrun Held r u → (g r ≡ ToPush) ⊎ (g r ≡ Inline)
  pub waiting : HasUnrun Waiting r u → g r ≡ Offered
  pub to_push : g r ≡ ToPush → HasUnrun Fresh r u ⊎ HasUnrun Held r u
  pub offered : g r ≡ Offered → HasUnrun Waiting r u
  pub inline : g r ≡ Inline → HasUnrun Held r u

-- the others as they were
module _ (t u : Skeleton) (fate g : ℕ → Fate) (r : ℕ) (a : Agrees t fate) (others : (w : Who) → IsUnrun w → (x : ℕ) → x ≢ r → (HasUnrun w x t → HasUnrun w x u) × (HasUnrun w x u → HasUnrun w x t))
    (same : (x : ℕ) → x ≢ r → g x ≡ fate x) (block : AtBlock u g r) where
  agrees_then : Agrees u g
  agrees_then = record {
    fresh = λ x h. elim (cases_eq x r) [
      | inl e ↦ subst (λ (b : ℕ). (g b ≡ Unborn) ⊎ (g b ≡ ToPush)) (sym e) (block.fresh (subst (λ (b : ℕ). HasUnrun Fresh b u) e h))
      | inr ne ↦ subst (λ (b : Fate). (b ≡ Unborn) ⊎ (b ≡ ToPush)) (sym (same x ne)) (a.fresh x ((others Fresh tt x ne).1 h))
    ];
    held = λ x h. elim (cases_eq x r) [
      | inl e ↦ subst (λ (b : ℕ). (g b ≡ ToPush) ⊎ (g b ≡ Inline)) (sym e) (block.held (subst (λ (b : ℕ). HasUnrun Held b u) e h))
      | inr ne ↦ subst (λ (b : Fate). (b ≡ ToPush) ⊎ (b ≡ Inline)) (sym (same x ne)) (a.held x ((others Held tt x ne).1 h))
    ];
    waiting = λ x h. elim (cases_eq x r) [
      | inl e ↦ ap g e ∙ block.waiting (subst (λ (b : ℕ). HasUnrun Waiting b u) e h)
      | inr ne ↦ same x ne ∙ a.waiting x ((others Waiting tt x ne).1 h)
    ];
    to_push = λ x k. elim (cases_eq x r) [
      | inl e ↦ subst (λ (b : ℕ). HasUnrun Fresh b u ⊎ HasUnrun Held b u) (sym e) (block.to_push (ap g (sym e) ∙ k))
      | inr ne ↦ elim (a.to_push x (sym (same x ne) ∙ k)) [ inl h ↦ inl ((others Fresh tt x ne).0 h) | inr h ↦ inr ((others Held tt x ne).0 h) ]
    ];
    offered = λ x k. elim (cases_eq x r) [
      | inl e ↦ subst (λ (b : ℕ). HasUnrun Waiting b u) (sym e) (block.offered (ap g (sym e) ∙ k))
      | inr ne ↦ (others Waiting tt x ne).0 (a.offered x (sym (same x ne) ∙ k))
    ];
    inline = λ x k. elim (cases_eq x r) [
      | inl e ↦ subst (λ (b : ℕ). HasUnrun Held b u) (sym e) (block.inline (ap g (sym e) ∙ k))
      | inr ne ↦ (others Held tt x ne).0 (a.inline x (sym (same x ne) ∙ k))
    ];
  }

stay_on : (t : Skeleton) (w : Who) → (x : ℕ) → (HasUnrun w x t → HasUnrun w x t) × (HasUnrun w x t → HasUnrun w x t)
stay_on t w x = (λ h. h, λ h. h)

module _ (t u : Skeleton) (fate : ℕ → Fate) (r : ℕ) (once : (x : ℕ) → count Root t x ≤ 1) (a : Agrees t fate) where
  same_stays : SameUnruns t u → Agrees u fate
  same_stays same = record {
    fresh = λ x h. a.fresh x (same.back Fresh tt x h);
    held = λ x h. a.held x (same.back Held tt x h);
    waiting = λ x h. a.waiting x (same.back Waiting tt x h);
    to_push = λ x e. elim (a.to_push x e) [ inl h ↦ inl (same.on Fresh tt x h) | inr h ↦ inr (same.on Held tt x h) ];
    offered = λ x e. same.on Waiting tt x (a.offered x e);
    inline = λ x e. same.on Held tt x (a.inline x e);
  }

  set : (f : Fate) → put fate r f r ≡ f
  set f = put_here fate r f

  unset : (f : Fate) (x : ℕ) → x ≢ r → put fate r f x ≡ fate x
  unset f x ne = put_else fate r f x ne

  opens_stay : OneChanges r IsNone (Is Fresh) t u → fate r ≡ Unborn → Agrees u fate
  opens_stay c unborn = agrees_then t u fate fate r a c.others (λ x ne. refl) (record {
    fresh = λ h. inl unborn;
    held = λ h. absurd (let z : Fresh ≡ Held = (c.new Held tt).0 h in cc);
    waiting = λ h. absurd (let z : Fresh ≡ Waiting = (c.new Waiting tt).0 h in cc);
    to_push = λ e. absurd (let z : Unborn ≡ ToPush = sym unborn ∙ e in cc);
    offered = λ e. absurd (let z : Unborn ≡ Offered = sym unborn ∙ e in cc);
    inline = λ e. absurd (let z : Unborn ≡ Inline = sym unborn ∙ e in cc);
  })

  forks_stay : HasUnrun Fresh r t ⊎ HasUnrun Held r t → fate r ≡ Unborn → Agrees t (put fate r ToPush)
  forks_stay has unborn = agrees_then t t fate (put fate r ToPush) r a (λ w unrun x ne. stay_on t w x) (unset ToPush) (record {
    fresh = λ h. inr (set ToPush);
    held = λ h. inl (set ToPush);
    waiting = λ h. absurd (let z : Unborn ≡ Offered = sym unborn ∙ a.waiting r h in cc);
    to_push = λ e. has;
    offered = λ e. absurd (let z : ToPush ≡ Offered = sym (set ToPush) ∙ e in cc);
    inline = λ e. absurd (let z : ToPush ≡ Inline = sym (set ToPush) ∙ e in cc);
  })

  offers_stay : OneChanges r (Is Fresh) (Is Waiting) t u → Agrees u (put fate r Offered)
  offers_stay c = agrees_then t u fate (put fate r Offered) r a c.others (unset Offered) (record {
    fresh = λ h. absurd (let z : Waiting ≡ Fresh = (c.new Fresh tt).0 h in cc);
    held = λ h. absurd (let z : Waiting ≡ Held = (c.new Held tt).0 h in cc);
    waiting = λ h. set Offered;
    to_push = λ e. absurd (let z : Offered ≡ ToPush = sym (set Offered) ∙ e in cc);
    offered = λ e. (c.new Waiting tt).1 refl;
    inline = λ e. absurd (let z : Offered ≡ Inline = sym (set Offered) ∙ e in cc);
  })

  holds_stay : OneChanges r (Is Fresh) (Is Held) t u → fate r ≡ ToPush → Agrees u fate
  holds_stay c pushes = agrees_then t u fate fate r a c.others (λ x ne. refl) (record {
    fresh = λ h. absurd (let z : Held ≡ Fresh = (c.new Fresh tt).0 h in cc);
    held = λ h. inl pushes;
    waiting = λ h. absurd (let z : Held ≡ Waiting = (c.new Waiting tt).0 h in cc);
    to_push = λ e. inr ((c.new Held tt).1 refl);
    offered = λ e. absurd (let z : ToPush ≡ Offered = sym pushes ∙ e in cc);
    inline = λ e. absurd (let z : ToPush ≡ Inline = sym pushes ∙ e in cc);
  })

  leaves_stay : HasUnrun Held r t → Agrees t (put fate r Inline)
  leaves_stay has = agrees_then t t fate (put fate r Inline) r a (λ w unrun x ne. stay_on t w x) (unset Inline) (record {
    fresh = λ h. absurd (let z : Fresh ≡ Held = one_unrun Root t r (once r) Fresh Held h has in cc);
    held = λ h. inr (set Inline);
    waiting = λ h. absurd (let z : Waiting ≡ Held = one_unrun Root t r (once r) Waiting Held h has in cc);
    to_push = λ e. absurd (let z : Inline ≡ ToPush = sym (set Inline) ∙ e in cc);
    offered = λ e. absurd (let z : Inline ≡ Offered = sym (set Inline) ∙ e in cc);
    inline = λ e. has;
  })

  begun_stays : (was : Who → Type 0) → OneChanges r was IsNone t u → Agrees u (put fate r Begun)
  begun_stays was c = agrees_then t u fate (put fate r Begun) r a c.others (unset Begun) (record {
    fresh = λ h. absurd ((c.new Fresh tt).0 h);
    held = λ h. absurd ((c.new Held tt).0 h);
    waiting = λ h. absurd ((c.new Waiting tt).0 h);
    to_push = λ e. absurd (let z : Begun ≡ ToPush = sym (set Begun) ∙ e in cc);
    offered = λ e. absurd (let z : Begun ≡ Offered = sym (set Begun) ∙ e in cc);
    inline = λ e. absurd (let z : Begun ≡ Inline = sym (set Begun) ∙ e in cc);
  })

pub fates_stay : AllFatesStay
fates_stay t u fate r once a = record {
  same = same_stays t u fate r once a;
  opens = opens_stay t u fate r once a;
  forks = forks_stay t u fate r once a;
  offers = offers_stay t u fate r once a;
  holds = holds_stay t u fate r once a;
  leaves = leaves_stay t u fate r once a;
  takes = begun_stays t u fate r once a (Is Waiting);
  goes_on = begun_stays t u fate r once a (Is Held);
}

pub none_is_left : NoneIsLeft
none_is_left w st f n fate a r = by (fate r) refl
  where
    by : (x : Fate) → fate r ≡ x → (fate r ≡ Unborn) ⊎ (fate r ≡ Begun)
    by Unborn e = inl e
    by Begun e = inr e
    by ToPush e = absurd (elim (a.to_push r e) [ inl h ↦ h | inr h ↦ h ])
    by Offered e = absurd (a.offered r e)
    by Inline e = absurd (a.inline r e)

-- a branch that waits is one that may be taken
leaf_waits : (b : Skeleton) → IsLeafOf Waiting b → (f : ℕ) × IsWaitingAt f b
leaf_waits (Leaf Waiting st f n) e = (f, refl)
leaf_waits (Leaf (InPlace q) st f n) e = absurd (let z = e in cc)
leaf_waits (Leaf Fresh st f n) e = absurd (let z = e in cc)
leaf_waits (Leaf Held st f n) e = absurd (let z = e in cc)
leaf_waits (Leaf Came st f n) e = absurd (let z = e in cc)
leaf_waits (Leaf Inlined st f n) e = absurd (let z = e in cc)
leaf_waits (Calling f n y t) e = absurd e
leaf_waits (Forking f n y q a b) e = absurd e

has_waits : (r : ℕ) (t : Skeleton) → HasUnrun Waiting r t → (f : ℕ) × Waits r f t
has_waits r (Leaf w st f n) h = absurd h
has_waits r (Calling f n y t) h = has_waits r t h
has_waits r (Forking f n y q a b) (inl h) = let k = leaf_waits b h.1 in (k.0, inl (h.0, k.1))
has_waits r (Forking f n y q a b) (inr (inl h)) = let k = has_waits r a h in (k.0, inr (inl k.1))
has_waits r (Forking f n y q a b) (inr (inr h)) = let k = has_waits r b h in (k.0, inr (inr k.1))

untaken_leaf : (b : Skeleton) → IsUntaken (mark b) → IsLeafOf Fresh b ⊎ IsLeafOf Held b
untaken_leaf (Leaf Fresh st f n) way = inl refl
untaken_leaf (Leaf Held st f n) way = inr refl
untaken_leaf (Leaf (InPlace q) st f n) way = absurd way
untaken_leaf (Leaf Waiting st f n) way = absurd way
untaken_leaf (Leaf Came st f n) way = absurd way
untaken_leaf (Leaf Inlined st f n) way = absurd way
untaken_leaf (Calling f n y t) way = absurd way
untaken_leaf (Forking f n y q a b) way = absurd way

-- whose leaf it is
abbrev place_of_leaf : Skeleton → ℕ
place_of_leaf (Leaf (InPlace q) st f n) = q
place_of_leaf _ = 0

module _ (i : Setting) (fair : IsFair i.code) (root : Tree (Frame FrameWord Point) Result) (input : Words) (s : State) (t : Skeleton) (law : IsKept i root input s t) where
  abbrev m : Cell → ℕ
  m = s.words

  -- what the link of a block is for that is about to be forked
  link_told : (p q r : ℕ) → s.kind p ≡ Bump q → s.doing p ≡ InRow (Now (Fork r)) → (q ≡ r) × ((g : ℕ) × (y : ℕ) × ((link_at (m (BlockWord q))).kind ≡ Forked g y))
  link_told p q r ke de = let e = (bump_ended i root input s t law p q ke (Fork r) de tt).link r refl in (e.0, e.2)

  -- beside the strand that is about to make a fork its right branch is not pushed
  module _ (p q r : ℕ) (ke : s.kind p ≡ Bump q) (link : (q ≡ r) × ((g : ℕ) × (y : ℕ) × ((link_at (m (BlockWord q))).kind ≡ Forked g y))) where
    g : Bumps i s t p q
    g = let g = leaf i fair root input s t law p (ap (carried m) ke) in
        bump_at i s t p q g.around g.stand g.frame g.slots g.is g.alone g.framed g.sized (subst (λ (k : RestartKind). Match i.code m k (hook_at Root g.around) g.stand g.frame) ke g.match)

    abbrev low : Skeleton
    low = Leaf (InPlace p) (Begins 0) g.frame g.slots

    fork_by : (h : LinkKind) → hook_at Root g.around ≡ h → BumpsAt i.code m h q g.frame → HasUnrun Fresh r t ⊎ HasUnrun Held r t
    fork_by (Called x y) he at_ = absurd (
        let z : Forked link.1.0 link.1.1 ≡ Called x y = sym link.1.2 ∙ ap (λ (b : ℕ). (link_at (m (BlockWord b))).kind) at_ ∙ ap (λ (l : Link). l.kind) g.framed ∙ he in cc)
    fork_by (Branch Left x) he at_ = elim (branch_from Root g.around x Left he) [
      | inl z ↦ absurd (let b = z.0 in cc)
      | inr o ↦
          let is = g.is ∙ o.is low in
          let un : Untaken p q (plug o.around (Forking o.frame o.slots o.copy x low o.beside)) = subst₂ (Unpushed p) is ke (law.untaken p) in
          let one = is_at_own p in
          let way = (untaken.here p q o.around (Forking o.frame o.slots o.copy x low o.beside) un).0 (sym at_.0) (omega (arith, one)) in
          let same : x ≡ r = sym at_.0 ∙ link.0 in
          elim (untaken_leaf o.beside way) [
            | inl e ↦ inl (subst (λ (b : ℕ). HasUnrun Fresh b t) same (subst (HasUnrun Fresh x) (sym is) (here_has Fresh x o.frame o.slots o.copy low o.beside o.around e)))
            | inr e ↦ inr (subst (λ (b : ℕ). HasUnrun Held b t) same (subst (HasUnrun Held x) (sym is) (here_has Held x o.frame o.slots o.copy low o.beside o.around e)))
          ]
    ]
    fork_by Root he at_ = absurd at_
    fork_by (Branch Right x) he at_ = absurd at_
    fork_by (Forked x y) he at_ = absurd at_

    pub fork_has : HasUnrun Fresh r t ⊎ HasUnrun Held r t
    fork_has = fork_by (hook_at Root g.around) refl g.at_

  -- two places have not the left branch of one block
  module _ (p r : ℕ) (d : Side) (ke : s.kind p ≡ Join r d) (both : is_inline (m (BlockWord (r + 1))) d ≡ true) (o : ℕ) (pushing : (s.kind o ≡ Push1 r) ⊎ (s.kind o ≡ Push2 r)) where
    abbrev sh : PushShape t o r
    sh = shape i fair root input s t law o r pushing

    other_by : (e : Side) (g : Comes i s t p r d) → hook_at Root g.around ≡ Branch e r → is_inline (m (BlockWord (r + 1))) e ≡ true → o ≡ p
    other_by Right g he k = absurd (cc)
    other_by Left g he k = elim (branch_from Root g.around r Left he) [
      | inl z ↦ absurd (let b = z.0 in cc)
      | inr z ↦
          let low = Leaf (InPlace p) Arrives g.frame g.slots in
          let one = inside_at r 1 r 0 (omega arith) (omega arith) in
          let same = nodes_same Root sh.around (Forking sh.frame sh.slots sh.copy r (Leaf (InPlace o) sh.stand sh.low sh.low_slots) sh.beside) z.around (Forking z.frame z.slots z.copy r low z.beside) r
          (sym sh.is ∙ g.is ∙ z.is low) (subst (λ (a : Skeleton). count Root a r ≤ 1) sh.is (law.apart r)) (omega (arith, one)) (omega (arith, one)) in
          ap (λ (a : Skeleton). place_of_leaf (first_of a)) same
    ]

    not_both : ⊥
    not_both = let g = joins_leaf i fair root input s t law p r d ke (inline_late d (m (BlockWord (r + 1))) both) in let same = other_by d g g.hook both in elim pushing [
      | inl k ↦ (let z : Push1 r ≡ Join r d = sym k ∙ ap s.kind same ∙ ke in cc)
      | inr k ↦ (let z : Push2 r ≡ Join r d = sym k ∙ ap s.kind same ∙ ke in cc)
    ]

pub fates_show : AllFatesShow
fates_show i fair root input s t law fate a = record {
  waits = λ r e. has_waits r t (a.offered r e);
  forks = λ p q r ke de. fork_has i fair root input s t law p q r ke (link_told i fair root input s t law p q r ke de);
  joins = λ p r d q f b ke de pusher.
      let u = (unruns_stay i fair root input s t law p).begins r d q f b ke de in (
        u.0,
        elim (a.held r ((u.2.old Held tt).1 refl)) [
          | inl e ↦ absurd (let o = pusher e in not_both i fair root input s t law p r d ke u.1 o.0 o.1)
          | inr e ↦ e
        ],
      );
  once = λ r w v h k. one_unrun Root t r (law.apart r) w v h k;
}
