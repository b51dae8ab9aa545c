-- Blocks are forked upwards still where a place goes on with a closed one's strand.
use Rattle.std.proofs.Common.{◌≡◌, ◌≢◌, ◌≤◌, ◌<◌, ℕ, ◌+◌, ◌==◌, Bool, true, if◌then◌else◌, inl, inr, refl, sym, ap, ◌∙◌, subst, arith}
use Rattle.std.proofs.lemmas.Bool.{cases_eq, cases_Bool, cond-true, cond-false, eq-eqb, ne_eqb, eqb-true}
use Rattle.ppm_strands.specs.Tree.{Words, Tree}
use Rattle.ppm_cells.specs.declared.cell.Cell.{Cell}
use Rattle.ppm_cells.specs.declared.cell.Cell.TheVariants.{RoomCounter, BlockWord}
use Rattle.ppm_cells.specs.declared.link.LinkKind.{LinkKind}
use Rattle.ppm_cells.specs.declared.link.LinkKind.TheVariants.{Root, Call as Called, Branch, Fork as Forked}
use Rattle.ppm_cells.specs.declared.restart.RestartKind.{RestartKind}
use Rattle.ppm_cells.specs.declared.restart.RestartKind.TheVariants.{Run, Bump, Push1, Push2, Unwind, Arrive, Join, Pop1, Pop2, Seek, Steal, Check, Take, Take2}
use Rattle.ppm_strands.specs.Strand.{Frame}
use Rattle.ppm_code.specs.Strands.{Point, Result}
use Rattle.ppm_code.specs.declared.location.FrameWord.{FrameWord}
use Rattle.ppm_frames.specs.Skeletons.{Skeleton}
use Rattle.ppm_frames.specs.Good.{link_at}
use Rattle.ppm_kept.specs.Running.{IsFair}
use Rattle.ppm_kept.specs.Kept.{Setting, start, end_of, owner, State, put, ceiling, IsKept}
use Rattle.ppm_kept.specs.Others.{IsIdle}
use Rattle.ppm_kept.specs.Births.{floor, Births, IsSteady, with_block}
use Rattle.ppm_kept.specs.Bearing.{HeirsBear}
use Rattle.ppm_kept.specs.Heirs.{OpensAs, GoesOnAs, inherits}
use Rattle.ppm_kept.proofs.BirthLemmas.{same_floor, mine, long, new}
use Rattle.ppm_kept.proofs.HeirLemmas.{not_idle}
use Rattle.ppm_kept.proofs.PutLemmas.{put_here, put_else}

-- a floor is no higher than the ceiling
floor_roof : (i : Setting) (m : Cell → ℕ) (q : ℕ) (k : RestartKind) → floor m q k ≤ ceiling i m q k
floor_roof i m q (Bump r) = omega arith
floor_roof i m q (Run f y) = omega arith
floor_roof i m q (Push1 r) = omega arith
floor_roof i m q (Push2 r) = omega arith
floor_roof i m q (Unwind f) = omega arith
floor_roof i m q (Arrive r d) = omega arith
floor_roof i m q (Join r d) = omega arith
floor_roof i m q Pop1 = omega arith
floor_roof i m q (Pop2 r) = omega arith
floor_roof i m q Seek = omega arith
floor_roof i m q (Steal v x) = omega arith
floor_roof i m q (Check v x) = omega arith
floor_roof i m q (Take v x) = omega arith
floor_roof i m q (Take2 v) = omega arith

-- of a kind that opens no block it is the counter
steady_at : (m : Cell → ℕ) (q : ℕ) (k : RestartKind) → IsSteady k → floor m q k ≡ m (RoomCounter q)
steady_at m q (Bump r) steady = absurd steady
steady_at m q (Run f y) steady = refl
steady_at m q (Push1 r) steady = refl
steady_at m q (Push2 r) steady = refl
steady_at m q (Unwind f) steady = refl
steady_at m q (Arrive r d) steady = refl
steady_at m q (Join r d) steady = refl
steady_at m q Pop1 steady = refl
steady_at m q (Pop2 r) steady = refl
steady_at m q Seek steady = refl
steady_at m q (Steal v x) steady = refl
steady_at m q (Check v x) steady = refl
steady_at m q (Take v x) steady = refl
steady_at m q (Take2 v) steady = refl

opens_steady : (r : ℕ) (l : LinkKind) (k : RestartKind) → OpensAs r l k → IsSteady k
opens_steady r (Called g y) k e = subst IsSteady (sym e) tt
opens_steady r (Forked g y) k e = subst IsSteady (sym e) tt
opens_steady r Root k e = absurd e
opens_steady r (Branch d q) k e = absurd e

-- an heir opens no block
goes_steady : (s : State) (t : Skeleton) (v : ℕ) (closed k : RestartKind) → GoesOnAs s t v closed k → IsSteady k
goes_steady s t v (Run f y) k e = subst IsSteady (sym e) tt
goes_steady s t v (Bump r) k e = opens_steady r (link_at (s.words (BlockWord r))).kind k e
goes_steady s t v (Push1 r) k e = subst IsSteady (sym e) tt
goes_steady s t v (Push2 r) k (inl e) = subst IsSteady (sym e) tt
goes_steady s t v (Push2 r) k (inr e) = subst IsSteady (sym e.0) tt
goes_steady s t v (Unwind f) k e = subst IsSteady (sym e) tt
goes_steady s t v (Arrive r d) k e = subst IsSteady (sym e) tt
goes_steady s t v (Join r d) k e = subst IsSteady (sym e) tt
goes_steady s t v _ k e = absurd e

idle_steady : (k : RestartKind) → IsIdle k → IsSteady k
idle_steady Pop1 h = tt
idle_steady (Pop2 r) h = tt
idle_steady Seek h = tt
idle_steady (Steal v x) h = tt
idle_steady (Check v x) h = tt
idle_steady (Take v x) h = tt
idle_steady (Take2 v) h = tt
idle_steady _ h = absurd h

module _ (i : Setting) (fair : IsFair i.code) (root : Tree (Frame FrameWord Point) Result) (input : Words) (s : State) (t : Skeleton) (law : IsKept i root input s t) (born : ℕ → Bool) (births : Births i s born)
    (v p : ℕ) (idle : IsIdle (s.kind p)) (k : RestartKind) (goes : GoesOnAs s t v (s.kind v) k) where
  abbrev m : Cell → ℕ
  m = s.words

  abbrev z : State
  z = inherits i s v p k

  abbrev roof : ℕ
  roof = ceiling i m v (s.kind v)

  apart : p ≢ v
  apart e = not_idle s t v (s.kind v) k (subst (λ (q : ℕ). IsIdle (s.kind q)) e idle) goes

  counter_v : z.words (RoomCounter v) ≡ roof
  counter_v = cond-true (v == v) roof (m (RoomCounter v)) (eq-eqb v v refl)

  counter_q : (q : ℕ) → q ≢ v → z.words (RoomCounter q) ≡ m (RoomCounter q)
  counter_q q ne = cond-false (q == v) roof (m (RoomCounter q)) (ne_eqb q v ne)

  kind_p : z.kind p ≡ k
  kind_p = put_here (put s.kind v Seek) p k

  kind_v : z.kind v ≡ Seek
  kind_v = put_else (put s.kind v Seek) p k v (λ e. apart (sym e)) ∙ put_here s.kind v Seek

  kind_q : (q : ℕ) → q ≢ p → q ≢ v → z.kind q ≡ s.kind q
  kind_q q a b = put_else (put s.kind v Seek) p k q a ∙ put_else s.kind v Seek q b

  floor_v : floor z.words v (z.kind v) ≡ roof
  floor_v = ap (floor z.words v) kind_v ∙ counter_v

  higher : (q : ℕ) → floor m q (s.kind q) ≤ floor z.words q (z.kind q)
  higher q = elim (cases_eq q v) [
    | inl e ↦ subst (λ (q : ℕ). floor m q (s.kind q) ≤ floor z.words q (z.kind q)) (sym e) (let a = floor_roof i m v (s.kind v) in let b = floor_v in omega (arith, a, b))
    | inr ne ↦ elim (cases_eq q p) [
      | inl e ↦ subst (λ (q : ℕ). floor m q (s.kind q) ≤ floor z.words q (z.kind q)) (sym e)
          (let a = steady_at m p (s.kind p) (idle_steady (s.kind p) idle) in
          let b : floor z.words p (z.kind p) ≡ z.words (RoomCounter p) = ap (floor z.words p) kind_p ∙ steady_at z.words p k (goes_steady s t v (s.kind v) k goes) in
          let c = counter_q p apart in omega (arith, a, b, c))
      | inr other ↦
          let b : floor z.words q (z.kind q) ≡ floor m q (s.kind q) = ap (floor z.words q) (kind_q q other ne) ∙ same_floor m z.words q (counter_q q ne) (s.kind q) in
          omega (arith, b)
    ]
  ]

  homes : (q r : ℕ) → z.kind q ≡ Bump r → (start i q ≤ r) × (r < end_of i q)
  homes q r e = elim (cases_eq q p) [
    | inl is ↦ absurd (subst IsSteady (sym kind_p ∙ ap z.kind (sym is) ∙ e) (goes_steady s t v (s.kind v) k goes))
    | inr a ↦ elim (cases_eq q v) [
      | inl is ↦ absurd (subst IsSteady (sym kind_v ∙ ap z.kind (sym is) ∙ e) tt)
      | inr b ↦ births.homes q r (sym (kind_q q a b) ∙ e)
    ]
  ]

  heir_births : Births i z born
  heir_births = record { below = λ x b. let a = births.below x b in let c = higher (owner i x) in omega (arith, a, c); homes = homes }

  with_one : (r : ℕ) → s.kind v ≡ Bump r → Births i z (with_block r born)
  with_one r kv = record {
    below = λ x b. elim (cases_Bool (r == x)) [
      | inl e ↦ subst (λ (a : ℕ). a < floor z.words (owner i a) (z.kind (owner i a))) (eqb-true r x e)
          (subst (λ (q : ℕ). r < floor z.words q (z.kind q)) (sym (mine i fair root input s t law born births v r kv))
          (let a = floor_v in let b : roof ≡ r + (link_at (m (BlockWord r))).size = ap (ceiling i m v) kv in let c = long i fair root input s t law born births v r kv in omega (arith, a, b, c)))
      | inr e ↦ heir_births.below x (sym (ap (λ (y : Bool). if y then true else born x) e) ∙ b)
    ];
    homes = homes;
  }

pub heirs_bear : HeirsBear
heirs_bear i fair root input s t law born births v p idle k goes =
    (heir_births i fair root input s t law born births v p idle k goes, λ r kv. (new i fair root input s t law born births v r kv, with_one i fair root input s t law born births v p idle k goes r kv))
