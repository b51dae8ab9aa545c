-- Frames that run stand at one of their two headers: at an opening, and after each step of the rows
-- Run, Bump, Unwind, Arrive and Join.
use Rattle.std.specs.Prelude.{◌≡◌, ℕ}
use Rattle.ppm_cells.specs.declared.cell.Cell.{Cell}
use Rattle.ppm_cells.specs.declared.restart.RestartKind.{RestartKind}
use Rattle.ppm_cells.specs.declared.restart.RestartKind.TheVariants.{Run, Bump, Unwind, Arrive, Join}
use Rattle.ppm_strands.specs.Tree.{Words, Tree}
use Rattle.ppm_strands.specs.Strand.{Frame}
use Rattle.ppm_code.specs.Strands.{Point, Result}
use Rattle.ppm_code.specs.declared.location.FrameWord.{FrameWord}
use Rattle.ppm_step.specs.Frames.{Installs}
use Rattle.ppm_step.specs.Standings.{Standing}
use Rattle.ppm_step.specs.declared.row.Row.TheVariants.{Now}
use Rattle.ppm_step.specs.declared.row.Then.{Then}
use Rattle.ppm_frames.specs.Skeletons.{Skeleton}
use Rattle.ppm_kept.specs.Running.{IsFair}
use Rattle.ppm_kept.specs.Kept.{Setting, InRow, InRest, State, HasCopies, IsKept}
use Rattle.ppm_kept.specs.Moves.{goes, stores, installs, fills}
use Rattle.ppm_kept.specs.Laws.{Ends, kind_then}
use Rattle.ppm_kept.specs.Openings.{opening_of}

-- rows of which it is said how they were reached
abbrev pub IsKnown : RestartKind → Type 0
IsKnown (Bump r) = Unit {0}
IsKnown (Unwind f) = Unit {0}
IsKnown (Arrive r d) = Unit {0}
IsKnown (Join r d) = Unit {0}
IsKnown _ = ⊥

-- frames that run stand at one of their two headers after a step of place p: where it goes on, stores, fills its pool or installs
pub record CopiesStay (i : Setting) (s : State) (p : ℕ) : Type 0 where
  pub goes_on : (standing : Standing) → HasCopies (goes s p standing)
  pub stored : (cell : Cell) (w : ℕ) (standing : Standing) → HasCopies (stores s p cell w standing)
  pub full : HasCopies (fills s p)
  pub run_installs : (f y : ℕ) (kind : RestartKind) → s.kind p ≡ Run f y
      → s.doing p ≡ InRest (Installs kind) → HasCopies (installs s p kind)
  pub row_installs : (next : Then) → IsKnown (s.kind p) → s.doing p ≡ InRow (Now next) → Ends next
      → HasCopies (installs s p (kind_then next))

-- of each place, from words that are kept
abbrev pub AllCopiesStay : Type 0
AllCopiesStay = (i : Setting) → IsFair i.code
    → (root : Tree (Frame FrameWord Point) Result) (input : Words) (s : State) (t : Skeleton)
    → IsKept i root input s t
    → (p : ℕ) → CopiesStay i s p

-- an opening runs one frame, at its first header
abbrev pub OpeningsHaveCopies : Type 0
OpeningsHaveCopies = (m : Cell → ℕ) (p f : ℕ) → HasCopies (opening_of m p f)
