-- What is kept with the followed places left out is so of the words as they are: the same tree stands in them, with one
-- leaf for each open place that has a strand.
use Rattle.std.proofs.Common.{◌≡◌, ◌≤◌, ℕ, ◌+◌, ◌==◌, cond, List, [], ◌∷◌, inl, inr, refl, sym, ap, ◌∙◌, subst₂, arith}
use Rattle.std.proofs.Math.Path.{fun_ext}
use Rattle.ppm_strands.specs.Tree.{Words, Tree}
use Rattle.ppm_strands.specs.Ahead.{Ahead}
use Rattle.ppm_cells.specs.declared.cell.Cell.TheVariants.{BlockWord, ArrayWord}
use Rattle.ppm_cells.specs.declared.link.LinkKind.TheVariants.{Root}
use Rattle.ppm_cells.specs.declared.restart.RestartKind.{RestartKind}
use Rattle.ppm_cells.specs.declared.restart.RestartKind.TheVariants.{Run, Bump, Push1, Push2, Unwind, Arrive, Join, Pop1, Pop2, Seek, Steal, Check, Take, Take2}
use Rattle.ppm_cells.specs.declared.shape.Shape.{Shape}
use Rattle.ppm_strands.specs.Strand.{Frame}
use Rattle.ppm_code.specs.Strands.{Point, Result}
use Rattle.ppm_code.specs.declared.code.CodeParts.{CodeParts}
use Rattle.ppm_code.specs.declared.location.FrameWord.{FrameWord}
use Rattle.ppm_step.specs.State.{State as RunState}
use Rattle.ppm_tickets.specs.Homes.{Home}
use Rattle.ppm_tickets.specs.Lawful.{Closed}
use Rattle.ppm_tickets.specs.View as spots
use Rattle.ppm_tickets.proofs.EstateLemmas.{here}
use Rattle.ppm_frames.specs.Views.{view}
use Rattle.ppm_frames.specs.Seen.{arrays_at}
use Rattle.ppm_frames.specs.Skeletons.{Skeleton, tree_of, count, at}
use Rattle.ppm_frames.specs.Laws.{Same}
use Rattle.ppm_frames.proofs.SkeletonLemmas.{tree_same}
use Rattle.ppm_frames.proofs.SwapLemmas.{good_same}
use Rattle.ppm_kept.specs.Running.{strands}
use Rattle.ppm_kept.specs.Kept.{Setting, State, Head, Ordered, side_code, carried}
use Rattle.ppm_kept.specs.Left.{Followed, left, IsAway}
use Rattle.ppm_kept.specs.Places.{places_of}
use Rattle.ppm_kept.proofs.LeftLemmas.{left_same, kind_away, kind_or, shown}
use Rattle.ppm_runs.specs.Run.{setting}
use Rattle.ppm_runs.specs.Follow.{IsHalves}
use Rattle.ppm_runs.specs.Shown.{Shows}
use Rattle.ppm_runs.proofs.ShownLemmas.{away}

-- a number beyond all followed places
abbrev beyond : List Followed → ℕ
beyond [] = 0
beyond (v ∷ l) = v.place + 1 + beyond l

beyond_away : (l : List Followed) (p : ℕ) → beyond l ≤ p → IsAway l p
beyond_away [] p le = tt
beyond_away (v ∷ l) p le = (λ e. omega (arith, le, e), beyond_away l p (omega (arith, le)))

module _ (s : Shape) (code : CodeParts) (root : Tree (Frame FrameWord Point) Result) (input : Words) (state : RunState) (h : ℕ → Home) (forked taken : List ℕ) (l : List Followed) (t : Skeleton)
    (run : IsHalves s code root input state h forked taken l t) where
  abbrev i : Setting
  i = setting s code

  abbrev S : State
  S = places_of s state

  abbrev z : State
  z = left i l S

  -- a word below its place's ceiling is as it is
  word : (x : ℕ) → Head i z t x → S.words (BlockWord x) ≡ z.words (BlockWord x)
  word x head = sym (shown i root input S l run.apart t run.kept (beyond l) (beyond_away l (beyond l) (omega arith)) (BlockWord x) (inl head.under))

  pub in_tree : Same (count Root t) z.words S.words
  in_tree x there = sym (shown i root input S l run.apart t run.kept (beyond l) (beyond_away l (beyond l) (omega arith)) (BlockWord x) (inl (run.kept.below x there).1))

  tree_is : tree_of S.words t ≡ tree_of z.words t
  tree_is = tree_same z.words S.words Root t in_tree

  arrays_are : arrays_at S.words ≡ arrays_at z.words
  arrays_are = fun_ext (λ x. sym (left_same i l S.words (ArrayWord x) (λ v is. tt)))

  kind_there : (p : ℕ) → (at p t ≡ 0 → ⊥) → S.kind p ≡ z.kind p
  kind_there p there = elim (kind_or l S.kind p) [ inl e ↦ sym e | inr e ↦ absurd (there (run.kept.places p ∙ ap (carried z.words) e)) ]

  carried_by : (k : RestartKind) → Ordered i z t z.words k → carried S.words k ≡ carried z.words k
  carried_by (Arrive r d) a = ap (λ (w : ℕ). cond {A = ℕ} (w == side_code d) 0 1) (word (r + 1) a)
  carried_by (Join r d) a = ap (λ (w : ℕ). cond {A = ℕ} (w == side_code d) 0 1) (word (r + 1) a.0)
  carried_by (Run f y) a = refl
  carried_by (Bump r) a = refl
  carried_by (Push1 r) a = refl
  carried_by (Push2 r) a = refl
  carried_by (Unwind f) a = refl
  carried_by Pop1 a = refl
  carried_by (Pop2 r) a = refl
  carried_by Seek a = refl
  carried_by (Steal v x) a = refl
  carried_by (Check v x) a = refl
  carried_by (Take v x) a = refl
  carried_by (Take2 v) a = refl

  as_kind : (p : ℕ) → z.kind p ≡ S.kind p → at p t ≡ carried S.words (S.kind p)
  as_kind p same = run.kept.places p ∙ sym (carried_by (z.kind p) (run.kept.orders p)) ∙ ap (carried S.words) same

  -- a place that is open was followed by none
  pub open_away : (p : ℕ) → (Closed s.takeover (spots.view s state.words) p → ⊥) → IsAway l p
  open_away p open_ = away l run.lawful.1.board.gone p run.gone (here run.lawful.1.board p open_)

  pub shows : Shows s code state.words t
  shows = record {
    good = good_same z.words S.words code z.kind S.kind Root t in_tree kind_there run.kept.good;
    apart = run.kept.apart;
    most = λ p. elim (kind_or l S.kind p) [
      | inl e ↦ let is = as_kind p e in omega (arith, is)
      | inr e ↦ let none : at p t ≡ 0 = run.kept.places p ∙ ap (carried z.words) e in omega (arith, none)
    ];
    each = λ p open_. as_kind p (kind_away l S.kind p (open_away p open_));
  }

  pub ahead : Ahead (strands s code) run.kept.ahead.0 root input (tree_of S.words t) (arrays_at S.words)
  ahead = subst₂ (λ (u : Tree (Frame FrameWord Point) Result) (a : Words). Ahead (strands s code) run.kept.ahead.0 root input u a) (sym tree_is) (sym arrays_are) run.kept.ahead.1
