-- What the link of a block says that a place is about to open: a call, or a fork, whose right branch is in the
-- tree; and no other place stands at that block.
use Rattle.std.proofs.Common.{◌≡◌, ◌⊎◌, ◌≤◌, ◌<◌, ℕ, ◌+◌, inl, inr, refl, sym, ap, ◌∙◌, subst, arith}
use Rattle.ppm_strands.specs.Tree.{Words, Tree}
use Rattle.ppm_cells.specs.declared.cell.Cell.{Cell}
use Rattle.ppm_cells.specs.declared.cell.Cell.TheVariants.{BlockWord}
use Rattle.ppm_cells.specs.declared.link.Link.{Link}
use Rattle.ppm_cells.specs.declared.link.LinkKind.{LinkKind}
use Rattle.ppm_cells.specs.declared.link.LinkKind.TheVariants.{Root, Call as Called, Branch, Fork as Forked}
use Rattle.ppm_cells.specs.declared.restart.RestartKind.{RestartKind}
use Rattle.ppm_cells.specs.declared.restart.RestartKind.TheVariants.{Run, Bump, Push2}
use Rattle.ppm_cells.specs.declared.side.Side.TheVariants.{Left, Right}
use Rattle.ppm_strands.specs.Strand.{Frame}
use Rattle.ppm_code.specs.Strands.{Point, Result}
use Rattle.ppm_code.specs.declared.location.FrameWord.{FrameWord}
use Rattle.ppm_frames.specs.Skeletons.{Stand, Begins, Over, Arrives, Who, InPlace, Skeleton, Leaf, Calling, Forking, count, hook_at}
use Rattle.ppm_frames.specs.Good.{link_at, Good, BumpsAt, Match}
use Rattle.ppm_frames.proofs.SkeletonLemmas.{inside_at, branch_from}
use Rattle.ppm_frames.proofs.SwapLemmas.{good_here}
use Rattle.ppm_kept.specs.Running.{IsFair}
use Rattle.ppm_kept.specs.Kept.{Setting, State, carried, IsKept}
use Rattle.ppm_kept.specs.Loads.{IsLoadable}
use Rattle.ppm_kept.specs.Unruns.{HasUnrun}
use Rattle.ppm_kept.proofs.BumpRow.{Bumps, bump_at}
use Rattle.ppm_kept.proofs.LoadLemmas.{in_part}
use Rattle.ppm_kept.proofs.NodeLemmas.{nodes_same}
use Rattle.ppm_kept.proofs.PlaceLemmas.{Leafed, leaf}

-- whose leaf it is
abbrev leaf_place : Skeleton → ℕ
leaf_place (Leaf (InPlace q) st f n) = q
leaf_place _ = 0

abbrev is_leaf : Skeleton → ℕ
is_leaf (Leaf w st f n) = 1
is_leaf _ = 0

-- where a place begins a frame
start_run : (i : Setting) (m : Cell → ℕ) (r y : ℕ) (h : LinkKind) (st : Stand) (f : ℕ) → Match i.code m (Run r y) h st f → f ≡ r
start_run i m r y h (Begins z) f a = sym a.0
start_run i m r y h Over f a = absurd a
start_run i m r y h Arrives f a = absurd a

start_push2 : (i : Setting) (m : Cell → ℕ) (r : ℕ) (h : LinkKind) (st : Stand) (f : ℕ) → Match i.code m (Push2 r) h st f → f ≡ r + 5
start_push2 i m r h (Begins z) f a = a.2
start_push2 i m r h Over f a = absurd a
start_push2 i m r h Arrives f a = absurd a

module _ (i : Setting) (fair : IsFair i.code) (root : Tree (Frame FrameWord Point) Result) (input : Words) (s : State) (t : Skeleton) (law : IsKept i root input s t) where
  abbrev m : Cell → ℕ
  m = s.words

  -- a block says that it is forked, or called
  abbrev pub IsForked : ℕ → Type 0
  IsForked r = (g : ℕ) × (y : ℕ) × ((link_at (m (BlockWord r))).kind ≡ Forked g y)

  abbrev pub IsCalled : ℕ → Type 0
  IsCalled r = (g : ℕ) × (y : ℕ) × ((link_at (m (BlockWord r))).kind ≡ Called g y)

  linked : (h : LinkKind) (u : Skeleton) → Good i.code m s.kind h u → (w : Who) (r : ℕ) → HasUnrun w r u → IsForked r
  linked h (Leaf v st f n) good w r a = absurd a
  linked h (Calling f n y u) good w r a = linked (Called f y) u good.1 w r a
  linked h (Forking f n y q a b) good w r (inl e) = (f, y, subst (λ (x : ℕ). (link_at (m (BlockWord x))).kind ≡ Forked f y) e.0 good.0.hook)
  linked h (Forking f n y q a b) good w r (inr (inl e)) = linked (Branch Left q) a good.1 w r e
  linked h (Forking f n y q a b) good w r (inr (inr e)) = linked (Branch Right q) b good.2 w r e

  -- a block whose right branch no place has run says that it is forked
  pub unrun_linked : (w : Who) (r : ℕ) → HasUnrun w r t → IsForked r
  unrun_linked w r a = linked Root t law.good w r a

  -- of a place that is about to open the block
  module _ (p r : ℕ) (ke : s.kind p ≡ Bump r) where
    g : Bumps i s t p r
    g = let a = leaf i fair root input s t law p (ap (carried m) ke) in
        bump_at i s t p r a.around a.stand a.frame a.slots a.is a.alone a.framed a.sized (subst (λ (k : RestartKind). Match i.code m k (hook_at Root a.around) a.stand a.frame) ke a.match)

    abbrev low : Skeleton
    low = Leaf (InPlace p) (Begins 0) g.frame g.slots

    called_at : (h : LinkKind) → hook_at Root g.around ≡ h → BumpsAt i.code m h r g.frame → IsCalled r ⊎ IsForked r
    called_at (Called x y) he at_ = inl (x, y, ap (λ (b : ℕ). (link_at (m (BlockWord b))).kind) at_ ∙ ap (λ (l : Link). l.kind) g.framed ∙ he)
    called_at (Branch Left q) he at_ = elim (branch_from Root g.around q Left he) [
      | inl z ↦ absurd (let b = z.0 in cc)
      | inr o ↦
          let good = good_here i.code m s.kind Root o.around (Forking o.frame o.slots o.copy q low o.beside) (subst (Good i.code m s.kind Root) (g.is ∙ o.is low) law.good) in
          inr (o.frame, o.copy, ap (λ (b : ℕ). (link_at (m (BlockWord b))).kind) at_.0 ∙ good.0.hook)
    ]
    called_at Root he at_ = absurd at_
    called_at (Branch Right q) he at_ = absurd at_
    called_at (Forked x y) he at_ = absurd at_

    pub called_or : IsCalled r ⊎ IsForked r
    called_or = called_at (hook_at Root g.around) refl g.at_

    -- any place may load its link
    shown_at : (q : ℕ) → q < i.shape.processors → (h : LinkKind) → hook_at Root g.around ≡ h → BumpsAt i.code m h r g.frame → IsLoadable i s q (BlockWord r)
    shown_at q there (Called x y) he at_ = in_part i fair root input s t law q there g.around low g.is r
        (let one = inside_at g.frame (6 + g.slots) r 0 (omega (arith, at_)) (omega arith) in omega (arith, one))
    shown_at q there (Branch Left b) he at_ = elim (branch_from Root g.around b Left he) [
      | inl z ↦ absurd (let b = z.0 in cc)
      | inr o ↦ in_part i fair root input s t law q there o.around (Forking o.frame o.slots o.copy b low o.beside) (g.is ∙ o.is low) r
          (let one = inside_at b 1 r 0 (let same = at_.0 in omega (arith, same)) (omega arith) in omega (arith, one))
    ]
    shown_at q there Root he at_ = absurd at_
    shown_at q there (Branch Right b) he at_ = absurd at_
    shown_at q there (Forked x y) he at_ = absurd at_

    pub link_shown : (q : ℕ) → q < i.shape.processors → IsLoadable i s q (BlockWord r)
    link_shown q there = shown_at q there (hook_at Root g.around) refl g.at_

    -- no other place stands at the block
    same_at : (u : ℕ) (o : Leafed i s t u) → o.frame ≡ r → (h : LinkKind) → hook_at Root g.around ≡ h → BumpsAt i.code m h r g.frame → u ≡ p
    same_at u o at (Called x y) he at_ =
        let one = inside_at g.frame (6 + g.slots) r 0 (omega (arith, at_)) (omega arith) in
        let two = inside_at o.frame (6 + o.slots) r 0 (omega (arith, at)) (omega arith) in
        sym (ap leaf_place (nodes_same Root g.around low o.around (Leaf (InPlace u) o.stand o.frame o.slots) r (sym g.is ∙ o.is) (subst (λ (a : Skeleton). count Root a r ≤ 1) g.is (law.apart r)) (omega (arith, one)) (omega (arith, two))))
    same_at u o at (Branch Left b) he at_ = elim (branch_from Root g.around b Left he) [
      | inl z ↦ absurd (let b = z.0 in cc)
      | inr f ↦
          let one = inside_at b 1 r 0 (let same = at_.0 in omega (arith, same)) (omega arith) in
          let two = inside_at o.frame (6 + o.slots) r 0 (omega (arith, at)) (omega arith) in
          let node = nodes_same Root f.around (Forking f.frame f.slots f.copy b low f.beside) o.around (Leaf (InPlace u) o.stand o.frame o.slots) r (sym (g.is ∙ f.is low) ∙ o.is)
          (subst (λ (a : Skeleton). count Root a r ≤ 1) (g.is ∙ f.is low) (law.apart r)) (omega (arith, one)) (omega (arith, two)) in
          absurd (let e : 0 ≡ 1 = ap is_leaf node in omega (arith, e))
    ]
    same_at u o at Root he at_ = absurd at_
    same_at u o at (Branch Right b) he at_ = absurd at_
    same_at u o at (Forked x y) he at_ = absurd at_

    -- none that begins the frame there, and none after whose job that frame is
    pub runs_none : (u y : ℕ) → s.kind u ≡ Run r y → ⊥
    runs_none u y ku =
        let o = leaf i fair root input s t law u (ap (carried m) ku) in
        let at = start_run i m r y (hook_at Root o.around) o.stand o.frame (subst (λ (k : RestartKind). Match i.code m k (hook_at Root o.around) o.stand o.frame) ku o.match) in
        let same = same_at u o at (hook_at Root g.around) refl g.at_ in
        let two : Run r y ≡ Bump r = sym ku ∙ ap s.kind same ∙ ke in cc

    pub pushes_none : (u x : ℕ) → s.kind u ≡ Push2 x → x + 5 ≡ r → ⊥
    pushes_none u x ku e =
        let o = leaf i fair root input s t law u (ap (carried m) ku) in
        let at = start_push2 i m x (hook_at Root o.around) o.stand o.frame (subst (λ (k : RestartKind). Match i.code m k (hook_at Root o.around) o.stand o.frame) ku o.match) in
        let same = same_at u o (at ∙ e) (hook_at Root g.around) refl g.at_ in
        let two : Push2 x ≡ Bump r = sym ku ∙ ap s.kind same ∙ ke in cc
