-- Whole runs: what joins the halves of a run's state stays after each turn, and what all turns come to.
use Rattle.std.specs.Prelude.{◌≡◌, ℕ, List, [], Some}
use Rattle.std.specs.List.{AllByRecursion}
use Rattle.ppm_strands.specs.Tree.{Words, Tree}
use Rattle.ppm_strands.specs.Calm.{Calm}
use Rattle.ppm_words.specs.declared.named_array.NamedArray.{NamedArray}
use Rattle.ppm_cells.specs.Finish.{finish_of, IsOutcome}
use Rattle.ppm_cells.specs.Memory.{read}
use Rattle.ppm_cells.specs.declared.cell.Cell.TheVariants.{FinishWord}
use Rattle.ppm_cells.specs.declared.finish.Finish.{Finish}
use Rattle.ppm_cells.specs.declared.restart.RestartKind.TheVariants.{Run as RunFrame, Push1}
use Rattle.ppm_cells.specs.declared.shape.Shape.{Shape}
use Rattle.ppm_cells.specs.declared.shape.Takeover.TheVariants.{ByPlaces}
use Rattle.ppm_strands.specs.Strand.{Frame}
use Rattle.ppm_code.specs.Strands.{Point, Result}
use Rattle.ppm_code.specs.declared.code.CodeParts.{CodeParts}
use Rattle.ppm_code.specs.declared.location.FrameWord.{FrameWord}
use Rattle.ppm_layout.specs.Correct.{Opens}
use Rattle.ppm_layout.specs.Root.{root_strand}
use Rattle.ppm_layout.specs.declared.images.Image.{Image}
use Rattle.ppm_step.specs.Among.{IsTurnAmong}
use Rattle.ppm_step.specs.Laws.{reached}
use Rattle.ppm_step.specs.State.{State as RunState, stand_of, happens, opening}
use Rattle.ppm_step.specs.declared.row.Row.TheVariants.{Now}
use Rattle.ppm_step.specs.declared.row.Then.TheVariants.{Install}
use Rattle.ppm_step.specs.declared.turn.Turn.{Turn}
use Rattle.ppm_tickets.specs.Along.{by_act, forked as forked_in, taken as taken_in}
use Rattle.ppm_tickets.specs.Homes.{Home, Pushing}
use Rattle.ppm_frames.specs.Views.{view}
use Rattle.ppm_frames.specs.Seen.{arrays_at}
use Rattle.ppm_frames.specs.Skeletons.{Held, Skeleton}
use Rattle.ppm_kept.specs.Running.{IsFair, strands}
use Rattle.ppm_kept.specs.Kept.{InRow, IsKept}
use Rattle.ppm_kept.specs.Fates.{Agrees}
use Rattle.ppm_kept.specs.Places.{places_of}
use Rattle.ppm_kept.specs.Steps.{tree_after}
use Rattle.ppm_kept.specs.Unruns.{HasUnrun}
use Rattle.ppm_runs.specs.Run.{setting, fate_of, IsAtLast, IsRun}
use Rattle.ppm_runs.specs.Outcomes.{EndsWell}

-- what joins the two halves of `IsRun`, after a turn
pub record AreJoined (s : Shape) (state : RunState) (h : ℕ → Home) (t : Skeleton) : Type 0 where
  pub agrees : Agrees t (λ r. fate_of (h r))
  pub last : (r p : ℕ) → HasUnrun Held r t → h r ≡ Pushing p → IsAtLast s state.words p
  pub ready : (p r f y b : ℕ) → (places_of s state).kind p ≡ Push1 r
      → (places_of s state).doing p ≡ InRow (Now (Install (record { kind = RunFrame f y; bottom = b }))) → HasUnrun Held r t

-- what joins the two halves of a run's state does so after each turn that keeps the words
abbrev pub JoinsStay : Type 0
JoinsStay = (s : Shape) (code : CodeParts) → s.takeover ≡ ByPlaces → IsFair code
    → (root : Tree (Frame FrameWord Point) Result) (input : Words) (state : RunState) (h : ℕ → Home) (forked taken : List ℕ) (t : Skeleton)
    → IsRun s code root input state h forked taken t
    → (turn : Turn) → IsTurnAmong s.processors turn
    → IsKept (setting s code) root input (places_of s (happens s code state turn)) (tree_after (setting s code) state turn t)
    → AreJoined s (happens s code state turn) (by_act s state.words turn.act (stand_of state turn.processor) h) (tree_after (setting s code) state turn t)

-- From an image of a sound code, whatever the turns, faults among them: where the finish word says an
-- outcome the depth-first run of the root ends so, and each branch that was forked was taken once
abbrev pub RunsComeTo : Type 0
RunsComeTo = (code : CodeParts) (input : List NamedArray) (s : Shape) (keeper : ℕ) (image : Image)
    → s.takeover ≡ ByPlaces → IsFair code → Opens code input s keeper image
    → Calm (strands s code) (root_strand code input) (arrays_at (view s image.words))
    → (turns : List Turn) → AllByRecursion (IsTurnAmong s.processors) turns
    → (finish : Finish) → finish_of (read s (reached s code image.words turns).words FinishWord) ≡ Some finish
    → IsOutcome finish
    → (t : Skeleton)
    × EndsWell s code (root_strand code input) (arrays_at (view s image.words)) (reached s code image.words turns)
    (forked_in s code (opening image.words s.processors) [] turns) (taken_in s code (opening image.words s.processors) [] turns) t finish
