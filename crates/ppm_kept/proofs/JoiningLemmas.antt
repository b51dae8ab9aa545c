-- A place in Join whose side came later: the fork whose two branches have come, with its leaf and
-- the one that came first.
use Rattle.std.proofs.Common.{◌≡◌, ℕ, ◌+◌, ◌==◌, true, false, inl, inr, refl, sym, ap, ap₂, ◌∙◌, subst, arith}
use Rattle.std.proofs.lemmas.Bool.{cond-false, eqb-true}
use Rattle.ppm_strands.specs.Tree.{Words, Tree}
use Rattle.ppm_cells.specs.declared.cell.Cell.{Cell}
use Rattle.ppm_cells.specs.declared.cell.Cell.TheVariants.{BlockWord}
use Rattle.ppm_cells.specs.declared.link.LinkKind.{LinkKind}
use Rattle.ppm_cells.specs.declared.link.LinkKind.TheVariants.{Root, Branch}
use Rattle.ppm_cells.specs.declared.restart.RestartKind.{RestartKind}
use Rattle.ppm_cells.specs.declared.restart.RestartKind.TheVariants.{Arrive, Join}
use Rattle.ppm_cells.specs.declared.side.Side.{Side}
use Rattle.ppm_cells.specs.declared.side.Side.TheVariants.{Left, Right}
use Rattle.ppm_strands.specs.Strand.{Frame}
use Rattle.ppm_code.specs.Strands.{Point, Result}
use Rattle.ppm_code.specs.declared.location.FrameWord.{FrameWord}
use Rattle.ppm_step.specs.Rows.{is_inline}
use Rattle.ppm_frames.specs.Skeletons.{Stand, Begins, Over, Arrives, Who, InPlace, Fresh, Waiting, Held, Came, Inlined, Skeleton, Leaf, Calling, Forking, top, is_at, at, Around, plug, hook_at, at_rim}
use Rattle.ppm_frames.specs.Good.{Mark, IsPlain, IsFirst, IsFresh, IsHeld, IsInlined, mark, order_of, Framed, Match, Good}
use Rattle.ppm_frames.proofs.SkeletonLemmas.{branch_from}
use Rattle.ppm_frames.proofs.SwapLemmas.{good_here}
use Rattle.ppm_kept.specs.Running.{IsFair}
use Rattle.ppm_kept.specs.Kept.{Setting, State, side_code, Ordered, carried, IsKept}
use Rattle.ppm_kept.proofs.PlaceLemmas.{leaf, is_at_own}

-- whose leaf is the left branch, and whose the right one, where a place is in Join on a side
abbrev pub first_who : ℕ → Who → Side → Who
first_who p o Left = InPlace p
first_who p o Right = o

abbrev pub second_who : ℕ → Who → Side → Who
second_who p o Left = o
second_who p o Right = InPlace p

abbrev pub joint : (m : Cell → ℕ) (p : ℕ) (o : Who) (r : ℕ) (d : Side) (g l y na nb : ℕ) → Skeleton
joint m p o r d g l y na nb = Forking g l y r (Leaf (first_who p o d) Arrives (r + 5) na) (Leaf (second_who p o d) Arrives (r + m (BlockWord (r + 4))) nb)

pub record Joining (s : State) (t : Skeleton) (p r : ℕ) (d : Side) : Type 0 where
  pub around : Around
  pub other : Who
  pub nobody : (q : ℕ) → is_at q other ≡ 0
  pub frame : ℕ
  pub slots : ℕ
  pub copy : ℕ
  pub left_slots : ℕ
  pub right_slots : ℕ
  pub is : t ≡ plug around (joint s.words p other r d frame slots copy left_slots right_slots)
  pub alone : at_rim p around ≡ 0

-- a branch at Arrive or Join that is not the first has a leaf
pub record Comes (i : Setting) (s : State) (t : Skeleton) (p r : ℕ) (d : Side) : Type 0 where
  pub around : Around
  pub frame : ℕ
  pub slots : ℕ
  pub is : t ≡ plug around (Leaf (InPlace p) Arrives frame slots)
  pub alone : at_rim p around ≡ 0
  pub hook : hook_at Root around ≡ Branch d r
  pub framed : Framed i.code s.words (hook_at Root around) frame slots

came_at : (i : Setting) (s : State) (t : Skeleton) (p r : ℕ) (d : Side) (k : RestartKind) (c : Around) (st : Stand) (g n : ℕ) → ((st : Stand) → Match i.code s.words k (hook_at Root c) st g → (st ≡ Arrives) × (hook_at Root c ≡ Branch d r))
    → t ≡ plug c (Leaf (InPlace p) st g n) → at_rim p c ≡ 0
    → Framed i.code s.words (hook_at Root c) g n → Match i.code s.words k (hook_at Root c) st g → Comes i s t p r d
came_at i s t p r d k c st g n view is alone framed match = record {
  around = c;
  frame = g;
  slots = n;
  is = is ∙ ap (λ (a : Stand). plug c (Leaf (InPlace p) a g n)) (view st match).0;
  alone = alone;
  hook = (view st match).1;
  framed = framed;
}

pub arrive_view : (i : Setting) (m : Cell → ℕ) (r : ℕ) (d : Side) (h : LinkKind) (f : ℕ) (st : Stand) → Match i.code m (Arrive r d) h st f → (st ≡ Arrives) × (h ≡ Branch d r)
arrive_view i m r d h f Arrives match = (refl, match)
arrive_view i m r d h f (Begins y) match = absurd match
arrive_view i m r d h f Over match = absurd match

pub join_view : (i : Setting) (m : Cell → ℕ) (r : ℕ) (d : Side) (h : LinkKind) (f : ℕ) (st : Stand) → Match i.code m (Join r d) h st f → (st ≡ Arrives) × (h ≡ Branch d r)
join_view i m r d h f Arrives match = (refl, match)
join_view i m r d h f (Begins y) match = absurd match
join_view i m r d h f Over match = absurd match

module _ (i : Setting) (fair : IsFair i.code) (root : Tree (Frame FrameWord Point) Result) (input : Words) (s : State) (t : Skeleton) (law : IsKept i root input s t) (p r : ℕ) (d : Side) where
  abbrev m : Cell → ℕ
  m = s.words

  pub arrives : s.kind p ≡ Arrive r d → (m (BlockWord (r + 1)) == side_code d) ≡ false → Comes i s t p r d
  arrives ke late =
      let g = leaf i fair root input s t law p (ap (carried m) ke ∙ cond-false {A = ℕ} (m (BlockWord (r + 1)) == side_code d) 0 1 late) in
      came_at i s t p r d (Arrive r d) g.around g.stand g.frame g.slots (λ st. arrive_view i m r d (hook_at Root g.around) g.frame st) g.is g.alone g.framed
      (subst (λ (k : RestartKind). Match i.code m k (hook_at Root g.around) g.stand g.frame) ke g.match)

  pub joins : s.kind p ≡ Join r d → (m (BlockWord (r + 1)) == side_code d) ≡ false → Comes i s t p r d
  joins ke late =
      let g = leaf i fair root input s t law p (ap (carried m) ke ∙ cond-false {A = ℕ} (m (BlockWord (r + 1)) == side_code d) 0 1 late) in
      came_at i s t p r d (Join r d) g.around g.stand g.frame g.slots (λ st. join_view i m r d (hook_at Root g.around) g.frame st) g.is g.alone g.framed
      (subst (λ (k : RestartKind). Match i.code m k (hook_at Root g.around) g.stand g.frame) ke g.match)

  -- the other branch came first
  abbrev HasCome : Mark → Type 0
  HasCome IsFirst = Unit {0}
  HasCome IsInlined = Unit {0}
  HasCome _ = ⊥

  record Other (b : Skeleton) : Type 0 where
    pub who : Who
    pub nobody : (q : ℕ) → is_at q who ≡ 0
    pub frame : ℕ
    pub slots : ℕ
    pub is : b ≡ Leaf who Arrives frame slots

  other_came : (h : LinkKind) (b : Skeleton) → Good i.code m s.kind h b → HasCome (mark b) → Other b
  other_came h (Leaf Came st f n) good e = record { who = Came; nobody = λ q. refl; frame = f; slots = n; is = ap (λ (a : Stand). Leaf Came a f n) good.2 }
  other_came h (Leaf Inlined st f n) good e = record { who = Inlined; nobody = λ q. refl; frame = f; slots = n; is = ap (λ (a : Stand). Leaf Inlined a f n) good.2 }
  other_came h (Leaf (InPlace q) st f n) good e = absurd e
  other_came h (Leaf Fresh st f n) good e = absurd e
  other_came h (Leaf Held st f n) good e = absurd e
  other_came h (Leaf Waiting st f n) good e = absurd e
  other_came h (Calling f n y u) good e = absurd e
  other_came h (Forking f n y q u v) good e = absurd e

  top_of : Skeleton → ℕ
  top_of (Leaf w st f n) = f
  top_of _ = 0

  left_came : (b : Mark) → (order_of IsPlain b ≡ 0 → ⊥) → (order_of IsPlain b == 3) ≡ false → HasCome b
  left_came IsFirst ne other = tt
  left_came IsPlain ne other = ne refl
  left_came IsFresh ne other = ne refl
  left_came IsHeld ne other = absurd (cc)
  left_came IsInlined ne other = tt

  right_came : (b : Mark) → (order_of b IsPlain ≡ 0 → ⊥) → HasCome b
  right_came IsFirst ne = tt
  right_came IsInlined ne = tt
  right_came IsPlain ne = ne refl
  right_came IsFresh ne = ne refl
  right_came IsHeld ne = ne refl

  pub joining : s.kind p ≡ Join r d → (m (BlockWord (r + 1)) == side_code d) ≡ false → is_inline (m (BlockWord (r + 1))) d ≡ false → Joining s t p r d
  joining ke late beyond =
      let g = joins ke late in
      let set = (subst (Ordered i s t m) ke (law.orders p)).1 in by d g g.hook set beyond
    where
      by : (e : Side) (g : Comes i s t p r d) → hook_at Root g.around ≡ Branch e r → (m (BlockWord (r + 1)) ≡ 0 → ⊥) → is_inline (m (BlockWord (r + 1))) e ≡ false → Joining s t p r e
      by Left g he set beyond = elim (branch_from Root g.around r Left he) [
        | inl k ↦ absurd (let b = k.0 in cc)
        | inr o ↦
            let is' = g.is ∙ o.is (Leaf (InPlace p) Arrives g.frame g.slots) in
            let good = good_here i.code m s.kind Root o.around _ (subst (Good i.code m s.kind Root) is' law.good) in
            let first = left_came (mark o.beside) (λ z. set (good.0.order ∙ z)) (sym (ap (λ (w : ℕ). w == 3) good.0.order) ∙ beyond) in
            let other = other_came (Branch Right r) o.beside good.2 first in
            record {
              around = o.around;
              other = other.who;
              nobody = other.nobody;
              frame = o.frame;
              slots = o.slots;
              copy = o.copy;
              left_slots = g.slots;
              right_slots = other.slots;
              is = is' ∙ ap (λ (b : Skeleton). plug o.around (Forking o.frame o.slots o.copy r (Leaf (InPlace p) Arrives g.frame g.slots) b)) other.is
                  ∙ ap₂ (λ (a b : ℕ). plug o.around (Forking o.frame o.slots o.copy r (Leaf (InPlace p) Arrives a g.slots) (Leaf other.who Arrives b other.slots)))
                  good.0.left (sym (ap top other.is) ∙ good.0.right);
              alone = let e = o.places p in let a = g.alone in omega (arith, e, a);
            }
      ]
      by Right g he set beyond = elim (branch_from Root g.around r Right he) [
        | inl k ↦ absurd (let b = k.0 in cc)
        | inr o ↦
            let is' = g.is ∙ o.is (Leaf (InPlace p) Arrives g.frame g.slots) in
            let good = good_here i.code m s.kind Root o.around _ (subst (Good i.code m s.kind Root) is' law.good) in
            let first = right_came (mark o.beside) (λ z. set (good.0.order ∙ z)) in
            let other = other_came (Branch Left r) o.beside good.1 first in
            record {
              around = o.around;
              other = other.who;
              nobody = other.nobody;
              frame = o.frame;
              slots = o.slots;
              copy = o.copy;
              left_slots = other.slots;
              right_slots = g.slots;
              is = is' ∙ ap (λ (b : Skeleton). plug o.around (Forking o.frame o.slots o.copy r b (Leaf (InPlace p) Arrives g.frame g.slots))) other.is
                  ∙ ap₂ (λ (a b : ℕ). plug o.around (Forking o.frame o.slots o.copy r (Leaf other.who Arrives b other.slots) (Leaf (InPlace p) Arrives a g.slots)))
                  good.0.right (sym (ap top other.is) ∙ good.0.left);
              alone = let e = o.places p in let a = g.alone in omega (arith, e, a);
            }
      ]

  pub at_joint : (w : Cell → ℕ) (o : Who) → ((q : ℕ) → is_at q o ≡ 0) → (g l y na nb : ℕ) → at p (joint w p o r d g l y na nb) ≡ 1
  at_joint w o nobody g l y na nb = by d
    where
      by : (e : Side) → at p (joint w p o r e g l y na nb) ≡ 1
      by Left = let a = is_at_own p in let b = nobody p in omega (arith, a, b)
      by Right = let a = is_at_own p in let b = nobody p in omega (arith, a, b)

-- a word that tells of a first branch, or of one that is last, is not that of one strand
pub first_beyond : (d : Side) (w : ℕ) → (w == side_code d) ≡ true → is_inline w d ≡ false
first_beyond Left w e = ap (λ (x : ℕ). x == 3) (eqb-true w 1 e)
first_beyond Right w e = refl

pub inline_late : (d : Side) (w : ℕ) → is_inline w d ≡ true → (w == side_code d) ≡ false
inline_late Left w e = ap (λ (x : ℕ). x == 1) (eqb-true w 3 e)
inline_late Right w e = absurd (cc)
