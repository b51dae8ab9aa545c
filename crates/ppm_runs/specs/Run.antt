-- What holds of a run's state: of its words and processors, of where its branches are, and of the
-- tree of its strands.
use Rattle.std.specs.Prelude.{◌≡◌, ◌≤◌, ℕ, ◌+◌, true, List}
use Rattle.ppm_strands.specs.Tree.{Words, Tree}
use Rattle.ppm_cells.specs.declared.restart.RestartKind.TheVariants.{Run as RunFrame, Push1}
use Rattle.ppm_cells.specs.declared.shape.Shape.{Shape}
use Rattle.ppm_strands.specs.Strand.{Frame}
use Rattle.ppm_code.specs.Strands.{Point, Result}
use Rattle.ppm_code.specs.declared.code.CodeParts.{CodeParts}
use Rattle.ppm_code.specs.declared.location.FrameWord.{FrameWord}
use Rattle.ppm_step.specs.Standings.{IsBroken}
use Rattle.ppm_step.specs.State.{State as RunState, stand_of}
use Rattle.ppm_step.specs.declared.row.Row.TheVariants.{Now}
use Rattle.ppm_step.specs.declared.row.Then.TheVariants.{Install}
use Rattle.ppm_tickets.specs.Homes.{Home, Unborn, Pushing, Listed, Popping, Stolen, Inline, Begun}
use Rattle.ppm_tickets.specs.Renewal.{IsLawful}
use Rattle.ppm_tickets.specs.View as spots
use Rattle.ppm_tickets.specs.Words.{has}
use Rattle.ppm_frames.specs.Skeletons.{Held, Skeleton}
use Rattle.ppm_kept.specs.Kept.{Setting, InRow, IsKept}
use Rattle.ppm_kept.specs.Births.{Births}
use Rattle.ppm_kept.specs.Places.{places_of}
use Rattle.ppm_kept.specs.Fates.{Fate, ToPush, Offered, Agrees}
use Rattle.ppm_kept.specs.Fates as fates
use Rattle.ppm_kept.specs.Unruns.{HasUnrun}

-- a shape with its code
abbrev pub setting : Shape → CodeParts → Setting
setting s code = record { shape = s; code = code; counted = λ k. true }

-- what has come of a right branch, by where it is
abbrev pub fate_of : Home → Fate
fate_of Unborn = fates.Unborn
fate_of (Pushing p) = ToPush
fate_of (Listed v i t) = Offered
fate_of (Popping p) = Offered
fate_of (Stolen p) = Offered
fate_of Inline = fates.Inline
fate_of Begun = fates.Begun

-- the place has no slot left to push to
abbrev pub IsAtLast : Shape → List ℕ → (place : ℕ) → Type 0
IsAtLast s words p = spots.bottoms s words p + 1 ≡ s.slots

-- What holds of a run's state, with takeover by places: what the tickets say of the deques and of
-- each branch, what the frames say of the tree, and what joins the two. In the tree each right branch
-- is what its home says; one is held by a place alone that has no slot left, and it is where that is
-- about to go on with the left one; blocks are forked upwards.
pub record IsRun (s : Shape) (code : CodeParts) (root : Tree (Frame FrameWord Point) Result) (input : Words) (state : RunState) (h : ℕ → Home) (forked taken : List ℕ) (t : Skeleton) : Type 0 where
  pub lawful : IsLawful s code state h forked taken
  pub kept : IsKept (setting s code) root input (places_of s state) t
  pub agrees : Agrees t (λ r. fate_of (h r))
  pub last : (r p : ℕ) → HasUnrun Held r t → h r ≡ Pushing p → IsAtLast s state.words p
  pub ready : (p r f y b : ℕ) → (places_of s state).kind p ≡ Push1 r
      → (places_of s state).doing p ≡ InRow (Now (Install (record { kind = RunFrame f y; bottom = b }))) → HasUnrun Held r t
  pub broken : (c p : ℕ) → stand_of state c ≡ IsBroken p → p ≤ 64
  pub born : Births (setting s code) (places_of s state) (has forked)
