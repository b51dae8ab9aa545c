-- A processor that would seek work stands at a place whose restart word says so, and that has no strand.
use Rattle.std.proofs.Common.{◌≡◌, ◌≤◌, ℕ, List, [], Some, None, refl, ◌∙◌, subst, arith}
use Rattle.ppm_strands.specs.Tree.{Words, Tree}
use Rattle.ppm_cells.specs.declared.restart.RestartKind.{RestartKind}
use Rattle.ppm_cells.specs.declared.restart.RestartKind.TheVariants.{Run, Bump, Push1, Push2, Unwind, Arrive, Join, Pop1, Pop2, Seek, Steal, Check, Take, Take2}
use Rattle.ppm_cells.specs.declared.shape.Shape.{Shape}
use Rattle.ppm_strands.specs.Strand.{Frame}
use Rattle.ppm_code.specs.Strands.{Point, Result}
use Rattle.ppm_code.specs.declared.code.CodeParts.{CodeParts}
use Rattle.ppm_code.specs.declared.location.FrameWord.{FrameWord}
use Rattle.ppm_layout.specs.Root.{root_strand}
use Rattle.ppm_step.specs.Standings.{Standing, IsLost, IsPlaced, IsAt, IsWithin, IsRunning, IsBroken, IsDone}
use Rattle.ppm_step.specs.State.{State as RunState, stand_of, after, opening, next_of, before_kind, step_of}
use Rattle.ppm_step.specs.declared.turn.Next.TheVariants.{Seek as Seeks}
use Rattle.ppm_tickets.specs.Along.{homes, forked as forked_in, taken as taken_in}
use Rattle.ppm_tickets.specs.Homes.{Home, Unborn}
use Rattle.ppm_tickets.specs.Saw.{Sees}
use Rattle.ppm_tickets.specs.View as spots
use Rattle.ppm_frames.specs.Views.{view}
use Rattle.ppm_frames.specs.Seen.{arrays_at}
use Rattle.ppm_frames.specs.Skeletons.{Skeleton, at}
use Rattle.ppm_kept.specs.Kept.{carried}
use Rattle.ppm_kept.specs.Left.{Followed}
use Rattle.ppm_kept.specs.Places.{kinds_of}
use Rattle.ppm_runs.specs.Follow.{IsHalves}
use Rattle.ppm_runs.specs.Legs.{last_state, all_homes, all_forked, all_taken}
use Rattle.ppm_runs.specs.Shown.{Shows}
use Rattle.ppm_runs.specs.Trees.{IsIdle, SeekersAreIdle, SeekersAreIdleOverLegs}
use Rattle.ppm_runs.proofs.StandLemmas.{kinds_same}
use Rattle.ppm_runs.proofs.HeiredLemmas.{halves_stay}
use Rattle.ppm_runs.proofs.LegForks.{stays}

-- work is sought after the load of a restart word that says so
kind_seeks : (kind : RestartKind) → before_kind kind ≡ Seeks → kind ≡ Seek
kind_seeks Seek e = refl
kind_seeks (Run frame copy) e = absurd (cc)
kind_seeks (Bump block) e = absurd (cc)
kind_seeks (Push1 block) e = absurd (cc)
kind_seeks (Push2 block) e = absurd (cc)
kind_seeks (Unwind frame) e = absurd (cc)
kind_seeks (Arrive block side) e = absurd (cc)
kind_seeks (Join block side) e = absurd (cc)
kind_seeks Pop1 e = absurd (cc)
kind_seeks (Pop2 block) e = absurd (cc)
kind_seeks (Steal place slot) e = absurd (cc)
kind_seeks (Check place slot) e = absurd (cc)
kind_seeks (Take place dead) e = absurd (cc)
kind_seeks (Take2 place) e = absurd (cc)

-- and no step of a row is that load
step_never : (kind : RestartKind) → step_of kind ≡ Seeks → ⊥
step_never Seek e = absurd (cc)
step_never (Run frame copy) e = absurd (cc)
step_never (Bump block) e = absurd (cc)
step_never (Push1 block) e = absurd (cc)
step_never (Push2 block) e = absurd (cc)
step_never (Unwind frame) e = absurd (cc)
step_never (Arrive block side) e = absurd (cc)
step_never (Join block side) e = absurd (cc)
step_never Pop1 e = absurd (cc)
step_never (Pop2 block) e = absurd (cc)
step_never (Steal place slot) e = absurd (cc)
step_never (Check place slot) e = absurd (cc)
step_never (Take place dead) e = absurd (cc)
step_never (Take2 place) e = absurd (cc)

module _ (s : Shape) (code : CodeParts) (root : Tree (Frame FrameWord Point) Result) (input : Words) (state : RunState) (h : ℕ → Home) (forked taken : List ℕ) (l : List Followed) (t : Skeleton)
    (run : IsHalves s code root input state h forked taken l t) where
  -- a leaf of a place is a strand that its restart kind has
  none_at : (p : ℕ) → kinds_of s state.words p ≡ Seek → (u : Skeleton) → Shows s code state.words u → at p u ≡ 0
  none_at p kind u shown =
      let most = subst (λ (k : RestartKind). at p u ≤ carried (view s state.words) k) kind (shown.most p) in
      omega (arith, most)

  by : (c : ℕ) (x : Standing) → Sees s (spots.view s state.words) (spots.kinds s state.words) (spots.bottoms s state.words) c x → next_of x ≡ Seeks
      → IsIdle s code state.words c
  by c (IsAt p (Some restart)) sees e =
      let kind : kinds_of s state.words p ≡ Seek = kinds_same s state.words p ∙ sees.1.kind ∙ kind_seeks restart.kind e in
      record { place = p; carried = sees.0.carry; seeks = kind; none = none_at p kind }
  by c (IsAt p None) sees e = absurd (cc)
  by c IsLost sees e = absurd (cc)
  by c (IsPlaced p) sees e = absurd (cc)
  by c (IsWithin seat row) sees e = absurd (step_never seat.restart.kind e)
  by c (IsRunning seat rest) sees e = absurd (cc)
  by c (IsBroken p) sees e = absurd (cc)
  by c IsDone sees e = absurd (cc)

  pub idle : (c : ℕ) → next_of (stand_of state c) ≡ Seeks → IsIdle s code state.words c
  idle c e = by c (stand_of state c) (run.lawful.1.sees c) e

pub seekers_are_idle : SeekersAreIdle
seekers_are_idle code input s keeper im fair opens calm turns all c e =
    let first : RunState = opening im.words s.processors in
    let a = halves_stay code input s keeper im fair opens calm turns all in
    idle s code (root_strand code input) (arrays_at (view s im.words)) (after s code first turns) (homes s code first (λ r. Unborn) turns) (forked_in s code first [] turns) (taken_in s code first [] turns) a.0 a.1 a.2 c e

pub seekers_are_idle_over_legs : SeekersAreIdleOverLegs
seekers_are_idle_over_legs code input s keeper im places fair opens calm legs are turns all c e =
    let a = stays code input s keeper im places fair opens calm legs are turns all in
    idle s code (root_strand code input) (arrays_at (view s im.words)) (last_state s code im.words legs turns) (all_homes s code im.words legs turns) (all_forked s code im.words legs turns) (all_taken s code im.words legs turns) [] a.0 a.1.run.halves c e
