-- Which words say that a tree is well; where they stay, so does that, and so it is where leaves change hands.
use Rattle.std.proofs.Common.{◌≡◌, ◌≢◌, ◌≤◌, ◌<◌, ℕ, zero, suc, ◌+◌, ◌==◌, Bool, true, false, inl, inr, refl, sym, ap, ◌∙◌, subst, arith, length}
use Rattle.std.specs.Prelude.{cond}
use Rattle.std.proofs.lemmas.Bool.{cases_eq}
use Rattle.ppm_cells.specs.declared.cell.Cell.{Cell}
use Rattle.ppm_cells.specs.declared.cell.Cell.TheVariants.{BlockWord}
use Rattle.ppm_cells.specs.declared.finish.Finish.TheVariants.{Ended}
use Rattle.ppm_cells.specs.declared.link.LinkKind.{LinkKind}
use Rattle.ppm_cells.specs.declared.link.LinkKind.TheVariants.{Root, Call as Called, Branch, Fork as Forked}
use Rattle.ppm_cells.specs.declared.restart.RestartKind.{RestartKind}
use Rattle.ppm_cells.specs.declared.side.Side.TheVariants.{Left, Right}
use Rattle.ppm_code.specs.declared.code.CodeParts.{CodeParts}
use Rattle.ppm_frames.specs.Good.{given, given_both, is_over, ended, Good}
use Rattle.ppm_frames.specs.Skeletons.{Stand, Begins, Over, Arrives, Who, InPlace, Fresh, Waiting, Held, Came, Skeleton, Leaf, Calling, Forking, header, arrival, inside, hung, count, plain, holds, grow, back, joined, over_left, readied, pushed, passed, roused, inlined, take_in, awake, Around, Top, AtCall, AtLeft, AtRight, plug, hook_at, rim}
use Rattle.ppm_frames.specs.Views.{same_cell, written}
use Rattle.ppm_frames.proofs.SkeletonLemmas.{inside_from, inside_one, inside_at, count_plug, plain_count}
use Rattle.ppm_frames.proofs.WriteLemmas.{write_else}
use Rattle.ppm_kept.proofs.BlockLemmas.{finish_back}
use Rattle.ppm_runs.specs.Well.{SaysOutcome, IsWellLeaf, IsWell}

-- how often an address is a header in use, or the outcome word of what is over
abbrev pub crit_leaf : LinkKind → Stand → (f x : ℕ) → ℕ
crit_leaf h (Begins y) f x = inside (header f y) 1 x
crit_leaf h Over f x = inside (f + 1) 1 x
crit_leaf h Arrives f x = hung h x

abbrev pub crit : LinkKind → Skeleton → ℕ → ℕ
crit h (Leaf w st f n) x = crit_leaf h st f x
crit h (Calling f n y t) x = inside (header f y) 1 x + crit (Called f y) t x
crit h (Forking f n y r a b) x = inside (header f y) 1 x + (crit (Branch Left r) a x + crit (Branch Right r) b x)

-- a word of some words is one of more
pub small_in : (g f n x j : ℕ) → g ≡ f + j → j < n → inside g 1 x ≤ inside f n x
small_in g f n x j e lt = elim (cases_eq (inside g 1 x) 0) [
  | inl none ↦ omega (arith, none)
  | inr ne ↦
      let w = inside_from g 1 x ne in
      let one = inside_one g 1 x in
      let some : 1 ≤ inside f n x = inside_at f n x j (let a = w.0 in let b = w.1 in omega (arith, a, b, e)) lt in
      omega (arith, one, some)
]

pub none_at : (g x : ℕ) → g ≢ x → inside g 1 x ≡ 0
none_at g x ne = elim (cases_eq (inside g 1 x) 0) [
  | inl none ↦ none
  | inr some ↦ let w = inside_from g 1 x some in absurd (ne (let a = w.0 in let b = w.1 in omega (arith, a, b)))
]

pub header_in : (f n y x : ℕ) → inside (header f y) 1 x ≤ inside f (6 + n) x
header_in f n zero x = small_in (f + 2) f (6 + n) x 2 refl (omega arith)
header_in f n (suc y) x = small_in (f + 3) f (6 + n) x 3 refl (omega arith)

leaf_plain : (h : LinkKind) (st : Stand) (f n x : ℕ) → crit_leaf h st f x ≤ hung h x + inside f (6 + n) x
leaf_plain h (Begins y) f n x = let a = header_in f n y x in omega (arith, a)
leaf_plain h Over f n x = let a = small_in (f + 1) f (6 + n) x 1 refl (omega arith) in omega (arith, a)
leaf_plain h Arrives f n x = omega arith

pub crit_plain : (h : LinkKind) (t : Skeleton) (x : ℕ) → crit h t x ≤ plain h t x
crit_plain h (Leaf w st f n) x = leaf_plain h st f n x
crit_plain h (Calling f n y t) x = let a = header_in f n y x in let b = crit_plain (Called f y) t x in omega (arith, a, b)
crit_plain h (Forking f n y r a b) x =
    let d = header_in f n y x in
    let e = crit_plain (Branch Left r) a x in
    let g = crit_plain (Branch Right r) b x in
    omega (arith, d, e, g)

pub crit_low : (h : LinkKind) (t : Skeleton) (x : ℕ) → crit h t x ≤ count h t x
crit_low h t x = let a = crit_plain h t x in let b = plain_count h t x in omega (arith, a, b)

crit_rim : (h : LinkKind) (c : Around) (u : Skeleton) (x : ℕ) → crit h (plug c u) x ≤ rim h c x + crit (hook_at h c) u x
crit_rim h Top u x = omega arith
crit_rim h (AtCall f n y c) u x = let a = header_in f n y x in let b = crit_rim (Called f y) c u x in omega (arith, a, b)
crit_rim h (AtLeft f n y r c b) u x =
    let d = header_in f n y x in
    let e = crit_rim (Branch Left r) c u x in
    let g = crit_low (Branch Right r) b x in
    omega (arith, d, e, g)
crit_rim h (AtRight f n y r a c) u x =
    let d = header_in f n y x in
    let e = crit_rim (Branch Right r) c u x in
    let g = crit_low (Branch Left r) a x in
    omega (arith, d, e, g)

-- a word of a part is one that says so only in the part
pub crit_none : (t : Skeleton) (c : Around) (u : Skeleton) (x : ℕ) → t ≡ plug c u → count Root t x ≤ 1 → 1 ≤ count (hook_at Root c) u x → crit (hook_at Root c) u x ≡ 0 → crit Root t x ≡ 0
crit_none t c u x is most one none =
    let sum : count Root t x ≡ rim Root c x + count (hook_at Root c) u x = ap (λ (v : Skeleton). count Root v x) is ∙ count_plug Root c u x in
    let part = crit_rim Root c u x in
    let same : crit Root t x ≡ crit Root (plug c u) x = ap (λ (v : Skeleton). crit Root v x) is in
    omega (arith, sum, part, same, most, one, none)

-- a word that is the same before a store is so after it
pub written_as : (m n : Cell → ℕ) (c : Cell) (w : ℕ) (d : Cell) → m d ≡ n d → written m c w d ≡ written n c w d
unfolding written
written_as m n c w d e = ap (λ (y : ℕ). cond (same_cell d c) w y) e

-- those words stay, and so a tree stays well
module _ (code : CodeParts) (m n : Cell → ℕ) where
  arrival_same : (h : LinkKind) → ((x : ℕ) → 1 ≤ hung h x → n (BlockWord x) ≡ m (BlockWord x)) → SaysOutcome (arrival m h) → SaysOutcome (arrival n h)
  arrival_same (Branch Left r) same a = subst SaysOutcome (sym (same (r + 2) (inside_at (r + 2) 1 (r + 2) 0 (omega arith) (omega arith)))) a
  arrival_same (Branch Right r) same a = subst SaysOutcome (sym (same (r + 3) (inside_at (r + 3) 1 (r + 3) 0 (omega arith) (omega arith)))) a
  arrival_same Root same a = a
  arrival_same (Called g y) same a = a
  arrival_same (Forked g y) same a = a

  leaf_same : (h : LinkKind) (st : Stand) (f : ℕ) → ((x : ℕ) → 1 ≤ crit_leaf h st f x → n (BlockWord x) ≡ m (BlockWord x)) → IsWellLeaf code m h st f → IsWellLeaf code n h st f
  leaf_same h (Begins y) f same a = subst (λ (w : ℕ). w < length code.capsules) (sym (same (header f y) (inside_at (header f y) 1 (header f y) 0 (omega arith) (omega arith)))) a
  leaf_same h Over f same a = subst SaysOutcome (sym (same (f + 1) (inside_at (f + 1) 1 (f + 1) 0 (omega arith) (omega arith)))) a
  leaf_same h Arrives f same a = arrival_same h same a

  pub well_same : (h : LinkKind) (t : Skeleton) → ((x : ℕ) → 1 ≤ crit h t x → n (BlockWord x) ≡ m (BlockWord x)) → IsWell code m h t → IsWell code n h t
  well_same h (Leaf w st f k) same a = leaf_same h st f same a
  well_same h (Calling f k y t) same a = (
    subst (λ (w : ℕ). w < length code.capsules) (sym (same (header f y) (let one = inside_at (header f y) 1 (header f y) 0 (omega arith) (omega arith) in omega (arith, one)))) a.0,
    well_same (Called f y) t (λ x one. same x (omega (arith, one))) a.1,
  )
  well_same h (Forking f k y r b c) same a = (
    subst (λ (w : ℕ). w < length code.capsules) (sym (same (header f y) (let one = inside_at (header f y) 1 (header f y) 0 (omega arith) (omega arith) in omega (arith, one)))) a.0,
    well_same (Branch Left r) b (λ x one. same x (omega (arith, one))) a.1,
    well_same (Branch Right r) c (λ x one. same x (omega (arith, one))) a.2,
  )

-- a store of another word
pub well_written : (code : CodeParts) (m : Cell → ℕ) (cell : Cell) (w : ℕ) (h : LinkKind) (t : Skeleton) → ((x : ℕ) → cell ≡ BlockWord x → crit h t x ≡ 0) → IsWell code m h t → IsWell code (written m cell w) h t
well_written code m cell w h t none a = well_same code m (written m cell w) h t (λ x one. write_else m cell w (BlockWord x) (λ e. let z = none x (sym e) in omega (arith, z, one))) a

module _ (code : CodeParts) (m : Cell → ℕ) where
  abbrev Well : LinkKind → Skeleton → Type 0
  Well h t = IsWell code m h t

  -- another part
  pub well_swap : (h : LinkKind) (c : Around) (u v : Skeleton) → Well h (plug c u) → Well (hook_at h c) v → Well h (plug c v)
  well_swap h Top u v a b = b
  well_swap h (AtCall f n y c) u v a b = (a.0, well_swap (Called f y) c u v a.1 b)
  well_swap h (AtLeft f n y r c d) u v a b = (a.0, well_swap (Branch Left r) c u v a.1 b, a.2)
  well_swap h (AtRight f n y r d c) u v a b = (a.0, a.1, well_swap (Branch Right r) c u v a.2 b)

  -- leaves change hands
  pub well_over_left : (p : ℕ) (e : (f n y r : ℕ) → Skeleton → Skeleton → Skeleton) → ((h : LinkKind) (f n y r : ℕ) (a b : Skeleton) → Well h (Forking f n y r a b) → Well h (e f n y r a b))
      → (h : LinkKind) (t : Skeleton) → Well h t → Well h (over_left p e t)
  well_over_left p e each h (Leaf w st f n) a = a
  well_over_left p e each h (Calling f n y t) a = (a.0, well_over_left p e each (Called f y) t a.1)
  well_over_left p e each h (Forking f n y r b c) a = by (holds p b) (well_over_left p e each (Branch Left r) b a.1) (well_over_left p e each (Branch Right r) c a.2)
    where
      by : (x : Bool) → Well (Branch Left r) (over_left p e b) → Well (Branch Right r) (over_left p e c) → Well h (cond x (e f n y r b c) (Forking f n y r (over_left p e b) (over_left p e c)))
      by true left right = each h f n y r b c a
      by false left right = (a.0, left, right)

  well_readied : (w : Who) (h : LinkKind) (t : Skeleton) → Well h t → Well h (readied w t)
  well_readied w h (Leaf Fresh st f n) a = a
  well_readied w h _ a = a

  pub well_pushed : (w : Who) (h : LinkKind) (f n y r : ℕ) (a b : Skeleton) → Well h (Forking f n y r a b) → Well h (pushed w f n y r a b)
  well_pushed w h f n y r a b e = (e.0, e.1, well_readied w (Branch Right r) b e.2)

  well_passed : (h : LinkKind) (t : Skeleton) → Well h t → Well h (passed t)
  well_passed h (Leaf w st f n) a = a
  well_passed h _ a = a

  well_roused : (p : ℕ) (h : LinkKind) (t : Skeleton) → Well h t → Well h (roused p t)
  well_roused p h (Leaf Held st f n) a = a
  well_roused p h _ a = a

  pub well_inlined : (p : ℕ) (h : LinkKind) (f n y r : ℕ) (a b : Skeleton) → Well h (Forking f n y r a b) → Well h (inlined p f n y r a b)
  well_inlined p h f n y r a b e = (e.0, well_passed (Branch Left r) a e.1, well_roused p (Branch Right r) b e.2)

  well_awake : (p : ℕ) (h : LinkKind) (t : Skeleton) → Well h t → Well h (awake p t)
  well_awake p h (Leaf Waiting st f n) a = a
  well_awake p h _ a = a

  pub well_take_in : (r p : ℕ) (h : LinkKind) (t : Skeleton) → Well h t → Well h (take_in r p t)
  well_take_in r p h (Leaf w st f n) a = a
  well_take_in r p h (Calling f n y t) a = (a.0, well_take_in r p (Called f y) t a.1)
  well_take_in r p h (Forking f n y q b c) a = by (q == r) (well_take_in r p (Branch Left q) b a.1) (well_take_in r p (Branch Right q) c a.2)
    where
      by : (x : Bool) → Well (Branch Left q) (take_in r p b) → Well (Branch Right q) (take_in r p c) → Well h (cond x (Forking f n y q b (awake p c)) (Forking f n y q (take_in r p b) (take_in r p c)))
      by true left right = (a.0, a.1, well_awake p (Branch Right q) c a.2)
      by false left right = (a.0, left, right)

  -- a place's leaf becomes another's
  pub well_owned : (p : ℕ) (own : Who) (h : LinkKind) (t : Skeleton) → Well h t → Well h (grow p (λ st f n. Leaf own st f n) t)
  well_owned p own h (Leaf (InPlace q) st f n) a = by (q == p)
    where
      by : (x : Bool) → Well h (cond x (Leaf own st f n) (Leaf (InPlace q) st f n))
      by true = a
      by false = a
  well_owned p own h (Leaf w st f n) a = a
  well_owned p own h (Calling f n y t) a = (a.0, well_owned p own (Called f y) t a.1)
  well_owned p own h (Forking f n y r b c) a = (a.0, well_owned p own (Branch Left r) b a.1, well_owned p own (Branch Right r) c a.2)

  -- a branch came first
  pub well_came : (p : ℕ) (h : LinkKind) (t : Skeleton) → Well h t → Well h (grow p (λ st f n. Leaf Came st f n) t)
  well_came p h t a = well_owned p Came h t a

  -- the frame that waited goes on: its header is a capsule's
  pub well_back : (p : ℕ) (h : LinkKind) (t : Skeleton) → Well h t → Well h (back p (λ z. Begins z) t)
  well_back p h (Leaf w st f n) a = a
  well_back p h (Calling f n y t) a = by (holds p t) (well_back p (Called f y) t a.1)
    where
      by : (x : Bool) → Well (Called f y) (back p (λ z. Begins z) t) → Well h (cond x (Leaf (InPlace p) (Begins y) f n) (Calling f n y (back p (λ z. Begins z) t)))
      by true below = a.0
      by false below = (a.0, below)
  well_back p h (Forking f n y r b c) a = (a.0, well_back p (Branch Left r) b a.1, well_back p (Branch Right r) c a.2)

  pub well_joined : (p : ℕ) (h : LinkKind) (t : Skeleton) → Well h t → Well h (joined p (λ z. Begins z) t)
  well_joined p h (Leaf w st f n) a = a
  well_joined p h (Calling f n y t) a = (a.0, well_joined p (Called f y) t a.1)
  well_joined p h (Forking f n y r b c) a = by (holds p b) (holds p c) (well_joined p (Branch Left r) b a.1) (well_joined p (Branch Right r) c a.2)
    where
      by : (x y_ : Bool) → Well (Branch Left r) (joined p (λ z. Begins z) b) → Well (Branch Right r) (joined p (λ z. Begins z) c) → Well h (cond x (Leaf (InPlace p) (Begins y) f n) (cond y_ (Leaf (InPlace p) (Begins y) f n) (Forking f n y r (joined p (λ z. Begins z) b) (joined p (λ z. Begins z) c))))
      by true y_ left right = a.0
      by false true left right = a.0
      by false false left right = (a.0, left, right)

  -- what parts are about to give are outcomes
  pub ended_says : SaysOutcome ended
  ended_says = (Ended, finish_back Ended tt, tt)

  given_says : (h : LinkKind) (t : Skeleton) → Well h t → SaysOutcome (given m h t)
  given_says h (Leaf w (Begins y) f n) a = ended_says
  given_says h (Leaf w Over f n) a = a
  given_says h (Leaf w Arrives f n) a = a
  given_says h (Calling f n y t) a = ended_says
  given_says h (Forking f n y r b c) a = ended_says

  both_says : (r : ℕ) (a b : Skeleton) → Well (Branch Left r) a → Well (Branch Right r) b → SaysOutcome (given_both m r a b)
  both_says r a b wa wb = by (is_over a) (is_over b) (given m (Branch Left r) a == ended)
    where
      by : (x y z : Bool) → SaysOutcome (cond x (cond y (cond z (given m (Branch Right r) b) (given m (Branch Left r) a)) ended) ended)
      by true true true = given_says (Branch Right r) b wb
      by true true false = given_says (Branch Left r) a wa
      by true false z = ended_says
      by false y z = ended_says

  module _ (kinds : ℕ → RestartKind) where
    abbrev Stands_ : LinkKind → Skeleton → Type 0
    Stands_ h t = Good code m kinds h t

    -- the frame that waited is over too
    pub well_back_over : (p : ℕ) (h : LinkKind) (t : Skeleton) → Stands_ h t → Well h t → Well h (back p (λ z. Over) t)
    well_back_over p h (Leaf w st f n) g a = a
    well_back_over p h (Calling f n y t) g a = by (holds p t) (well_back_over p (Called f y) t g.1 a.1)
      where
        by : (x : Bool) → Well (Called f y) (back p (λ z. Over) t) → Well h (cond x (Leaf (InPlace p) Over f n) (Calling f n y (back p (λ z. Over) t)))
        by true below = elim g.0.outcome [ inl e ↦ subst SaysOutcome (sym e) ended_says | inr e ↦ subst SaysOutcome (sym e) (given_says (Called f y) t a.1) ]
        by false below = (a.0, below)
    well_back_over p h (Forking f n y r b c) g a = (a.0, well_back_over p (Branch Left r) b g.1 a.1, well_back_over p (Branch Right r) c g.2 a.2)

    pub well_joined_over : (p : ℕ) (h : LinkKind) (t : Skeleton) → Stands_ h t → Well h t → Well h (joined p (λ z. Over) t)
    well_joined_over p h (Leaf w st f n) g a = a
    well_joined_over p h (Calling f n y t) g a = (a.0, well_joined_over p (Called f y) t g.1 a.1)
    well_joined_over p h (Forking f n y r b c) g a = by (holds p b) (holds p c) (well_joined_over p (Branch Left r) b g.1 a.1) (well_joined_over p (Branch Right r) c g.2 a.2)
      where
        over_says : SaysOutcome (m (BlockWord (f + 1)))
        over_says = elim g.0.outcome [ inl e ↦ subst SaysOutcome (sym e) ended_says | inr e ↦ subst SaysOutcome (sym e) (both_says r b c a.1 a.2) ]

        by : (x y_ : Bool) → Well (Branch Left r) (joined p (λ z. Over) b) → Well (Branch Right r) (joined p (λ z. Over) c) → Well h (cond x (Leaf (InPlace p) Over f n) (cond y_ (Leaf (InPlace p) Over f n) (Forking f n y r (joined p (λ z. Over) b) (joined p (λ z. Over) c))))
        by true y_ left right = over_says
        by false true left right = over_says
        by false false left right = (a.0, left, right)
