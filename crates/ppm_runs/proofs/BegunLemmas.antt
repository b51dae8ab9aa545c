-- Places that run have strands at the beginning of a capsule, each its own.
use Rattle.std.proofs.Common.{◌≡◌, ◌≤◌, ℕ, zero, suc, ◌+◌, ◌==◌, inl, inr, refl, sym, ap, subst, arith}
use Rattle.std.proofs.lemmas.Bool.{cases_eq, cases_Bool, cond-true, cond-false, eq-eqb, ne_eqb}
use Rattle.ppm_strands.specs.Tree.{Words, Tree}
use Rattle.ppm_strands.specs.ToCome.{strands_in}
use Rattle.ppm_cells.specs.declared.cell.Cell.{Cell}
use Rattle.ppm_cells.specs.declared.cell.Cell.TheVariants.{BlockWord}
use Rattle.ppm_cells.specs.declared.link.LinkKind.{LinkKind}
use Rattle.ppm_cells.specs.declared.link.LinkKind.TheVariants.{Call as Called, Branch}
use Rattle.ppm_cells.specs.declared.restart.RestartKind.{RestartKind}
use Rattle.ppm_cells.specs.declared.restart.RestartKind.TheVariants.{Run, Bump, Push1, Push2, Unwind, Arrive, Join, Pop1, Pop2, Seek, Steal, Check, Take, Take2}
use Rattle.ppm_cells.specs.declared.side.Side.TheVariants.{Left, Right}
use Rattle.ppm_strands.specs.Strand.{Frame}
use Rattle.ppm_code.specs.Sizes.{slots_at}
use Rattle.ppm_code.specs.Strands.{Point, Result}
use Rattle.ppm_code.specs.declared.location.FrameWord.{FrameWord}
use Rattle.ppm_frames.specs.Skeletons.{Stand, Begins, Over, Arrives, Who, InPlace, Fresh, Waiting, Held, Came, Inlined, Skeleton, Leaf, Calling, Forking, header, tree_at, is_at, Around, Top, AtCall, AtLeft, AtRight, plug}
use Rattle.ppm_kept.specs.Running.{IsFair}
use Rattle.ppm_kept.specs.Kept.{Setting, State, carried, IsKept}
use Rattle.ppm_kept.proofs.PlaceLemmas.{leaf, run_leaf}
use Rattle.ppm_runs.proofs.SumLemmas.{sum, sum_zero, sum_plus}

-- whether a kind is that of a frame
abbrev pub runs : RestartKind → ℕ
runs (Run f y) = 1
runs _ = 0

-- how many strands of a place are at the beginning of a capsule
abbrev begins_at : ℕ → Who → Stand → ℕ
begins_at p w (Begins y) = is_at p w
begins_at p w Over = 0
begins_at p w Arrives = 0

abbrev pub begin_in : ℕ → Skeleton → ℕ
begin_in p (Leaf w st f n) = begins_at p w st
begin_in p (Calling f n y t) = begin_in p t
begin_in p (Forking f n y r a b) = begin_in p a + begin_in p b

begin_plug : (p : ℕ) (c : Around) (u : Skeleton) → begin_in p u ≤ begin_in p (plug c u)
begin_plug p Top u = omega arith
begin_plug p (AtCall f n y c) u = begin_plug p c u
begin_plug p (AtLeft f n y r c b) u = let e = begin_plug p c u in omega (arith, e)
begin_plug p (AtRight f n y r a c) u = let e = begin_plug p c u in omega (arith, e)

-- a place is one of the first so many at most once
place_sum : (places q : ℕ) → sum places (λ p. is_at p (InPlace q)) ≤ 1
place_sum zero q = omega arith
place_sum (suc n) q = elim (cases_eq q n) [
  | inl e ↦ let rest = none n (omega (arith, e)) in let one = at_most n in omega (arith, rest, one)
  | inr ne ↦ let rest = place_sum n q in let zero_ : is_at n (InPlace q) ≡ 0 = cond-false {A = ℕ} (q == n) 1 0 (ne_eqb q n ne) in omega (arith, rest, zero_)
]
  where
    none : (m : ℕ) → m ≤ q → sum m (λ p. is_at p (InPlace q)) ≡ 0
    none zero le = refl
    none (suc m) le = let rest = none m (omega (arith, le)) in let zero_ : is_at m (InPlace q) ≡ 0 = cond-false {A = ℕ} (q == m) 1 0 (ne_eqb q m (λ e. omega (arith, le, e))) in omega (arith, rest, zero_)

    at_most : (m : ℕ) → is_at m (InPlace q) ≤ 1
    at_most m = elim (cases_Bool (q == m)) [
      | inl e ↦ let a : is_at m (InPlace q) ≡ 1 = cond-true {A = ℕ} (q == m) 1 0 e in omega (arith, a)
      | inr e ↦ let a : is_at m (InPlace q) ≡ 0 = cond-false {A = ℕ} (q == m) 1 0 e in omega (arith, a)
    ]

who_sum : (places : ℕ) (w : Who) → sum places (λ p. is_at p w) ≤ 1
who_sum places (InPlace q) = place_sum places q
who_sum places Fresh = let a = sum_zero places (λ p. is_at p Fresh) (λ q. refl) in omega (arith, a)
who_sum places Waiting = let a = sum_zero places (λ p. is_at p Waiting) (λ q. refl) in omega (arith, a)
who_sum places Held = let a = sum_zero places (λ p. is_at p Held) (λ q. refl) in omega (arith, a)
who_sum places Came = let a = sum_zero places (λ p. is_at p Came) (λ q. refl) in omega (arith, a)
who_sum places Inlined = let a = sum_zero places (λ p. is_at p Inlined) (λ q. refl) in omega (arith, a)

pub begin_sum : (places : ℕ) (m : Cell → ℕ) (h : LinkKind) (t : Skeleton) → sum places (λ p. begin_in p t) ≤ strands_in (tree_at m h t)
begin_sum places m h (Leaf w (Begins y) f n) = who_sum places w
begin_sum places m h (Leaf w Over f n) = let a = sum_zero places (λ p. 0) (λ q. refl) in omega (arith, a)
begin_sum places m h (Leaf w Arrives f n) = let a = sum_zero places (λ p. 0) (λ q. refl) in omega (arith, a)
begin_sum places m h (Calling f n y t) = begin_sum places m (Called f y) t
begin_sum places m h (Forking f n y r a b) =
    let e = sum_plus places (λ p. begin_in p a) (λ p. begin_in p b) in
    let j = begin_sum places m (Branch Left r) a in let k = begin_sum places m (Branch Right r) b in omega (arith, e, j, k)

-- a place that runs has such a strand
pub runs_begin : (i : Setting) (fair : IsFair i.code) (root : Tree (Frame FrameWord Point) Result) (input : Words) (s : State) (t : Skeleton) (law : IsKept i root input s t) (p : ℕ)
    → (k : RestartKind) → s.kind p ≡ k → runs k ≤ begin_in p t
runs_begin i fair root input s t law p (Run f y) e =
    let g = run_leaf i s t p f y e (leaf i fair root input s t law p (ap (carried s.words) e)) in
    let here : is_at p (InPlace p) ≡ 1 = cond-true {A = ℕ} (p == p) 1 0 (eq-eqb p p refl) in
    let le = begin_plug p g.around (Leaf (InPlace p) (Begins y) f (slots_at i.code (s.words (BlockWord (header f y))))) in
    subst (λ (u : Skeleton). 1 ≤ begin_in p u) (sym g.is) (omega (arith, here, le))
runs_begin i fair root input s t law p (Bump r) e = omega arith
runs_begin i fair root input s t law p (Push1 r) e = omega arith
runs_begin i fair root input s t law p (Push2 r) e = omega arith
runs_begin i fair root input s t law p (Unwind f) e = omega arith
runs_begin i fair root input s t law p (Arrive r d) e = omega arith
runs_begin i fair root input s t law p (Join r d) e = omega arith
runs_begin i fair root input s t law p Pop1 e = omega arith
runs_begin i fair root input s t law p (Pop2 r) e = omega arith
runs_begin i fair root input s t law p Seek e = omega arith
runs_begin i fair root input s t law p (Steal v x) e = omega arith
runs_begin i fair root input s t law p (Check v x) e = omega arith
runs_begin i fair root input s t law p (Take v x) e = omega arith
runs_begin i fair root input s t law p (Take2 v) e = omega arith
