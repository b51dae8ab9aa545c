-- No left branch comes first beside a right one that isn't pushed: a left branch that runs is at one place, and that is about to open the block,
-- or pushes.
use Rattle.std.proofs.Common.{◌≡◌, ◌⊎◌, ◌≤◌, ℕ, ◌+◌, ◌==◌, true, false, cond, List, inl, inr, refl, sym, ap, ◌∙◌, subst, arith}
use Rattle.std.proofs.lemmas.Bool.{eq-eqb, eqb-true}
use Rattle.ppm_strands.specs.Tree.{Words, Tree}
use Rattle.ppm_cells.specs.declared.cell.Cell.{Cell}
use Rattle.ppm_cells.specs.declared.cell.Cell.TheVariants.{BlockWord}
use Rattle.ppm_cells.specs.declared.link.Link.{Link}
use Rattle.ppm_cells.specs.declared.link.LinkKind.{LinkKind}
use Rattle.ppm_cells.specs.declared.link.LinkKind.TheVariants.{Root, Call as Called, Branch, Fork as Forked}
use Rattle.ppm_cells.specs.declared.restart.RestartKind.{RestartKind}
use Rattle.ppm_cells.specs.declared.restart.RestartKind.TheVariants.{Bump, Push1, Push2, Arrive}
use Rattle.ppm_cells.specs.declared.shape.Shape.{Shape}
use Rattle.ppm_cells.specs.declared.side.Side.TheVariants.{Left, Right}
use Rattle.ppm_strands.specs.Strand.{Frame}
use Rattle.ppm_code.specs.Strands.{Point, Result}
use Rattle.ppm_code.specs.declared.code.CodeParts.{CodeParts}
use Rattle.ppm_code.specs.declared.location.FrameWord.{FrameWord}
use Rattle.ppm_step.specs.State.{State as RunState}
use Rattle.ppm_tickets.specs.Homes.{Home, Unborn, Pushing, Listed, Popping, Stolen, Inline, Begun}
use Rattle.ppm_tickets.specs.Lawful.{Pushes, Carries, Stays}
use Rattle.ppm_tickets.specs.View as spots
use Rattle.ppm_tickets.specs.Words.{Word, Slot}
use Rattle.ppm_frames.specs.Skeletons.{Stand, Begins, Over, Arrives, InPlace, Fresh, Waiting, Held, Came, Inlined, Skeleton, Leaf, Calling, Forking}
use Rattle.ppm_frames.specs.Skeletons.{holds, count, Around, Top, AtCall, AtLeft, AtRight, plug, hook_at}
use Rattle.ppm_frames.specs.Good.{link_at, Good, Framed, Match}
use Rattle.ppm_frames.proofs.SkeletonLemmas.{branch_from}
use Rattle.ppm_kept.specs.Running.{IsFair}
use Rattle.ppm_kept.specs.Fates.{Agrees, ToPush}
use Rattle.ppm_kept.specs.Fates as fates
use Rattle.ppm_kept.specs.Kept.{Setting, State, owner, carried}
use Rattle.ppm_kept.specs.Left.{Followed, left}
use Rattle.ppm_kept.specs.Places.{places_of}
use Rattle.ppm_kept.specs.Unruns.{HasUnrun}
use Rattle.ppm_kept.proofs.LeftLemmas.{kind_away}
use Rattle.ppm_kept.proofs.PlaceLemmas.{Leafed, leaf}
use Rattle.ppm_kept.proofs.UnrunLemmas.{head_in}
use Rattle.ppm_runs.specs.Run.{setting, fate_of}
use Rattle.ppm_runs.specs.Follow.{IsHalves}
use Rattle.ppm_runs.proofs.ShownLemmas.{away}
use Rattle.ppm_runs.proofs.StandLemmas.{kinds_same}
use Rattle.ppm_progress.specs.Fresh.{FreshAtBump, LeftComesLater}

-- in the tree, the left branch of block r is the leaf of place p
abbrev LeftOf : (p r : ℕ) → Skeleton → Type 0
LeftOf p r (Leaf w st f n) = ⊥
LeftOf p r (Calling f n y t) = LeftOf p r t
LeftOf p r (Forking f n y q a b) = ((q ≡ r) × (holds p a ≡ true)) ⊎ (LeftOf p r a ⊎ LeftOf p r b)

left_count : (p r : ℕ) (h : LinkKind) (t : Skeleton) → LeftOf p r t → 1 ≤ count h t r
left_count p r h (Leaf w st f n) x = absurd x
left_count p r h (Calling f n y t) x = let one = left_count p r (Called f y) t x in omega (arith, one)
left_count p r h (Forking f n y q a b) (inl x) = let one = head_in q r x.0 in omega (arith, one)
left_count p r h (Forking f n y q a b) (inr (inl x)) = let one = left_count p r (Branch Left q) a x in omega (arith, one)
left_count p r h (Forking f n y q a b) (inr (inr x)) = let one = left_count p r (Branch Right q) b x in omega (arith, one)

holds_one : (p q : ℕ) (t : Skeleton) → holds p t ≡ true → holds q t ≡ true → p ≡ q
holds_one p q (Leaf (InPlace x) st f n) a b = sym (eqb-true x p a) ∙ eqb-true x q b
holds_one p q (Leaf Fresh st f n) a b = absurd (cc)
holds_one p q (Leaf Waiting st f n) a b = absurd (cc)
holds_one p q (Leaf Held st f n) a b = absurd (cc)
holds_one p q (Leaf Came st f n) a b = absurd (cc)
holds_one p q (Leaf Inlined st f n) a b = absurd (cc)
holds_one p q (Calling f n y t) a b = absurd (cc)
holds_one p q (Forking f n y r c d) a b = absurd (cc)

-- it is of one place, since a block is in the tree once
once : (p q r : ℕ) (h : LinkKind) (t : Skeleton) → count h t r ≤ 1 → LeftOf p r t → LeftOf q r t → p ≡ q
once p q r h (Leaf w st f n) most x y = absurd x
once p q r h (Calling f n z t) most x y = once p q r (Called f z) t (omega (arith, most)) x y
once p q r h (Forking f n z o a b) most (inl x) (inl y) = holds_one p q a x.1 y.1
once p q r h (Forking f n z o a b) most (inl x) (inr (inl y)) =
    absurd (let one = head_in o r x.0 in let two = left_count q r (Branch Left o) a y in omega (arith, most, one, two))
once p q r h (Forking f n z o a b) most (inl x) (inr (inr y)) =
    absurd (let one = head_in o r x.0 in let two = left_count q r (Branch Right o) b y in omega (arith, most, one, two))
once p q r h (Forking f n z o a b) most (inr (inl x)) (inl y) =
    absurd (let one = head_in o r y.0 in let two = left_count p r (Branch Left o) a x in omega (arith, most, one, two))
once p q r h (Forking f n z o a b) most (inr (inr x)) (inl y) =
    absurd (let one = head_in o r y.0 in let two = left_count p r (Branch Right o) b x in omega (arith, most, one, two))
once p q r h (Forking f n z o a b) most (inr (inl x)) (inr (inl y)) = once p q r (Branch Left o) a (omega (arith, most)) x y
once p q r h (Forking f n z o a b) most (inr (inr x)) (inr (inr y)) = once p q r (Branch Right o) b (omega (arith, most)) x y
once p q r h (Forking f n z o a b) most (inr (inl x)) (inr (inr y)) =
    absurd (let one = left_count p r (Branch Left o) a x in let two = left_count q r (Branch Right o) b y in omega (arith, most, one, two))
once p q r h (Forking f n z o a b) most (inr (inr x)) (inr (inl y)) =
    absurd (let one = left_count p r (Branch Right o) b x in let two = left_count q r (Branch Left o) a y in omega (arith, most, one, two))

left_here : (p r f n y : ℕ) (st : Stand) (g m : ℕ) (b : Skeleton) (c : Around) → LeftOf p r (plug c (Forking f n y r (Leaf (InPlace p) st g m) b))
left_here p r f n y st g m b Top = inl (refl, eq-eqb p p refl)
left_here p r f n y st g m b (AtCall x l z c) = left_here p r f n y st g m b c
left_here p r f n y st g m b (AtLeft x l z q c d) = inr (inl (left_here p r f n y st g m b c))
left_here p r f n y st g m b (AtRight x l z q d c) = inr (inr (left_here p r f n y st g m b c))

-- the block of a right branch that isn't pushed is a fork's
pub fresh_hook : (code : CodeParts) (m : Cell → ℕ) (k : ℕ → RestartKind) (h : LinkKind) (t : Skeleton) (r : ℕ) → Good code m k h t → HasUnrun Fresh r t
    → (f : ℕ) × (y : ℕ) × ((link_at (m (BlockWord r))).kind ≡ Forked f y)
fresh_hook code m k h (Leaf w st f n) r good x = absurd x
fresh_hook code m k h (Calling f n y t) r good x = fresh_hook code m k (Called f y) t r good.1 x
fresh_hook code m k h (Forking f n y q a b) r good (inl x) = (f, y, ap (λ (z : ℕ). (link_at (m (BlockWord z))).kind) (sym x.0) ∙ good.0.hook)
fresh_hook code m k h (Forking f n y q a b) r good (inr (inl x)) = fresh_hook code m k (Branch Left q) a r good.1 x
fresh_hook code m k h (Forking f n y q a b) r good (inr (inr x)) = fresh_hook code m k (Branch Right q) b r good.2 x

-- homes, by what has come of a branch
unborn_home : (x : Home) → fate_of x ≡ fates.Unborn → x ≡ Unborn
unborn_home Unborn e = refl
unborn_home (Pushing q) e = absurd (cc)
unborn_home (Listed v i t) e = absurd (cc)
unborn_home (Popping q) e = absurd (cc)
unborn_home (Stolen q) e = absurd (cc)
unborn_home Inline e = absurd (cc)
unborn_home Begun e = absurd (cc)

pushing_home : (x : Home) → fate_of x ≡ ToPush → (q : ℕ) × (x ≡ Pushing q)
pushing_home (Pushing q) e = (q, refl)
pushing_home Unborn e = absurd (cc)
pushing_home (Listed v i t) e = absurd (cc)
pushing_home (Popping q) e = absurd (cc)
pushing_home (Stolen q) e = absurd (cc)
pushing_home Inline e = absurd (cc)
pushing_home Begun e = absurd (cc)

pushes_kind : (k : RestartKind) (w : Word) (r : ℕ) → Pushes k w r → (k ≡ Push1 r) ⊎ (k ≡ Push2 r)
pushes_kind (Push1 x) w r e = inl (ap Push1 e)
pushes_kind (Push2 x) w r e = inr (ap Push2 e.0)
pushes_kind _ w r e = absurd e

module _ (s : Shape) (code : CodeParts) (fair : IsFair code) (root : Tree (Frame FrameWord Point) Result) (input : Words) (state : RunState)
    (h : ℕ → Home) (forked taken : List ℕ) (l : List Followed) (t : Skeleton) (run : IsHalves s code root input state h forked taken l t)
    (agrees : Agrees t (λ r. fate_of (h r))) (so : FreshAtBump s code state h l t) where
  abbrev i : Setting
  i = setting s code

  abbrev z : State
  z = left i l (places_of s state)

  abbrev m : Cell → ℕ
  m = z.words

  leaf_of : (p : ℕ) → carried m (z.kind p) ≡ 1 → Leafed i z t p
  leaf_of p one = leaf i fair root input z t run.kept p one

  left_by : (p r : ℕ) (g : Leafed i z t p) → hook_at Root g.around ≡ Branch Left r → LeftOf p r t
  left_by p r g hook = elim (branch_from Root g.around r Left hook) [
    | inl none ↦ absurd (let e = none.0 in cc)
    | inr from ↦ subst (LeftOf p r) (sym (g.is ∙ from.is (Leaf (InPlace p) g.stand g.frame g.slots)))
        (left_here p r from.frame from.slots from.copy g.stand g.frame g.slots from.beside from.around)
  ]

  arrive_hook : (r : ℕ) (st : Stand) (f : ℕ) (k : LinkKind) → Match i.code m (Arrive r Left) k st f → k ≡ Branch Left r
  arrive_hook r Arrives f k match = match
  arrive_hook r (Begins y) f k match = absurd match
  arrive_hook r Over f k match = absurd match

  push1_hook : (r : ℕ) (st : Stand) (f : ℕ) (k : LinkKind) → Match i.code m (Push1 r) k st f → k ≡ Branch Left r
  push1_hook r (Begins y) f k match = match.1
  push1_hook r Over f k match = absurd match
  push1_hook r Arrives f k match = absurd match

  push2_hook : (r : ℕ) (st : Stand) (f : ℕ) (k : LinkKind) → Match i.code m (Push2 r) k st f → k ≡ Branch Left r
  push2_hook r (Begins y) f k match = match.1
  push2_hook r Over f k match = absurd match
  push2_hook r Arrives f k match = absurd match

  -- a place about to open a fork's block runs the left branch of that
  bump_hook : (r f n : ℕ) (st : Stand) (k : LinkKind) → (x : ℕ) × (y : ℕ) × ((link_at (m (BlockWord r))).kind ≡ Forked x y)
      → Framed i.code m k f n → Match i.code m (Bump r) k st f → k ≡ Branch Left r
  bump_hook r f n (Begins y) (Branch Left q) fork framed match = ap (Branch Left) (sym match.1.0)
  bump_hook r f n (Begins y) (Called g c) fork framed match =
      let read = ap (λ (x : ℕ). (link_at (m (BlockWord x))).kind) match.1 ∙ ap (λ (v : Link). v.kind) framed in
      absurd (let e : Called g c ≡ Forked fork.0 fork.1 = sym read ∙ fork.2 in cc)
  bump_hook r f n (Begins y) (Branch Right q) fork framed match = absurd match.1
  bump_hook r f n (Begins y) Root fork framed match = absurd match.1
  bump_hook r f n (Begins y) (Forked g c) fork framed match = absurd match.1
  bump_hook r f n Over k fork framed match = absurd match
  bump_hook r f n Arrives k fork framed match = absurd match

  -- what a place's leaf matches, by its kind
  match_as : (p : ℕ) (k : RestartKind) (g : Leafed i z t p) → z.kind p ≡ k → Match i.code m k (hook_at Root g.around) g.stand g.frame
  match_as p k g ke = subst (λ (x : RestartKind). Match i.code m x (hook_at Root g.around) g.stand g.frame) ke g.match

  module _ (p r : ℕ) (ke : z.kind p ≡ Arrive r Left) (none : m (BlockWord (r + 1)) ≡ 0) (fresh : HasUnrun Fresh r t) where
    own : LeftOf p r t
    own =
        let g = leaf_of p (ap (carried m) ke ∙ ap (λ (x : ℕ). cond {A = ℕ} (x == 1) 0 1) none) in
        left_by p r g (arrive_hook r g.stand g.frame (hook_at Root g.around) (match_as p (Arrive r Left) g ke))

    -- a place that runs the left branch is p, so it is at no other kind
    at_arrive : (w : ℕ) (k : RestartKind) → z.kind w ≡ k → LeftOf w r t → k ≡ Arrive r Left
    at_arrive w k kw x = sym kw ∙ ap z.kind (once w p r Root t (run.kept.apart r) x own) ∙ ke

    bumps : (w : ℕ) → z.kind w ≡ Bump r → ⊥
    bumps w kw =
        let g = leaf_of w (ap (carried m) kw) in
        let fork = fresh_hook i.code m z.kind Root t r run.kept.good fresh in
        let hook = bump_hook r g.frame g.slots g.stand (hook_at Root g.around) fork g.framed (match_as w (Bump r) g kw) in
        let e : Bump r ≡ Arrive r Left = at_arrive w (Bump r) kw (left_by w r g hook) in cc

    push1s : (w : ℕ) → z.kind w ≡ Push1 r → ⊥
    push1s w kw =
        let g = leaf_of w (ap (carried m) kw) in
        let hook = push1_hook r g.stand g.frame (hook_at Root g.around) (match_as w (Push1 r) g kw) in
        let e : Push1 r ≡ Arrive r Left = at_arrive w (Push1 r) kw (left_by w r g hook) in cc

    push2s : (w : ℕ) → z.kind w ≡ Push2 r → ⊥
    push2s w kw =
        let g = leaf_of w (ap (carried m) kw) in
        let hook = push2_hook r g.stand g.frame (hook_at Root g.around) (match_as w (Push2 r) g kw) in
        let e : Push2 r ≡ Arrive r Left = at_arrive w (Push2 r) kw (left_by w r g hook) in cc

    kind_is : (q : ℕ) → run.lawful.1.board.gone q ≡ false → z.kind q ≡ spots.kinds s state.words q
    kind_is q stays = kind_away l (places_of s state).kind q (away l run.lawful.1.board.gone q run.gone stays) ∙ kinds_same s state.words q

    pushing : (q : ℕ) → h r ≡ Pushing q → ⊥
    pushing q e =
        let board = run.lawful.1.board.board in
        let carries = subst (λ (x : Home). Carries run.lawful.1.board.ghost (spots.kinds s state.words) (spots.bottoms s state.words) x r) e (board.real r) in
        let stays = subst (Stays run.lawful.1.board.gone) e (board.stays r) in
        elim (pushes_kind (spots.kinds s state.words q) (run.lawful.1.board.ghost (Slot q (spots.bottoms s state.words q))) r carries) [
          | inl k ↦ push1s q (kind_is q stays ∙ k)
          | inr k ↦ push2s q (kind_is q stays ∙ k)
        ]

    never : ⊥
    never = elim (agrees.fresh r fresh) [
      | inl e ↦ bumps (owner i r) (so r fresh (unborn_home (h r) e))
      | inr e ↦ let x = pushing_home (h r) e in pushing x.0 x.1
    ]

pub left_comes_later : LeftComesLater
left_comes_later s code fair root input state h forked taken l t run agrees so p r ke none fresh =
    never s code fair root input state h forked taken l t run agrees so p r ke none fresh
