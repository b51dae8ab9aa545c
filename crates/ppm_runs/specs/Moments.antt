-- Each moment of a run, whatever the turns: no turn leads out of a run's states, also where it stops the
-- run, and after such a turn; so at each moment no branch was forked twice, and none was taken twice.
use Rattle.std.specs.Prelude.{◌≡◌, ℕ, true, List, [], ◌++◌}
use Rattle.std.specs.List.{AllByRecursion}
use Rattle.ppm_strands.specs.Tree.{Words, Tree}
use Rattle.ppm_strands.specs.Calm.{Calm}
use Rattle.ppm_words.specs.declared.named_array.NamedArray.{NamedArray}
use Rattle.ppm_cells.specs.declared.shape.Shape.{Shape}
use Rattle.ppm_cells.specs.declared.shape.Takeover.TheVariants.{ByPlaces}
use Rattle.ppm_strands.specs.Strand.{Frame}
use Rattle.ppm_code.specs.Strands.{Point, Result}
use Rattle.ppm_code.specs.declared.code.CodeParts.{CodeParts}
use Rattle.ppm_code.specs.declared.location.FrameWord.{FrameWord}
use Rattle.ppm_layout.specs.Correct.{Opens}
use Rattle.ppm_layout.specs.Root.{root_strand}
use Rattle.ppm_layout.specs.declared.images.Image.{Image}
use Rattle.ppm_step.specs.Among.{IsTurnAmong}
use Rattle.ppm_step.specs.Laws.{reached}
use Rattle.ppm_step.specs.State.{State as RunState, stand_of, happens, opening, forks_of, takes_of}
use Rattle.ppm_step.specs.declared.turn.Turn.{Turn}
use Rattle.ppm_tickets.specs.Along.{by_act, homes, forked as forked_in, taken as taken_in}
use Rattle.ppm_tickets.specs.Homes.{Home, Unborn, Once}
use Rattle.ppm_tickets.specs.Words.{has}
use Rattle.ppm_frames.specs.Views.{view}
use Rattle.ppm_frames.specs.Seen.{arrays_at}
use Rattle.ppm_frames.specs.Skeletons.{Skeleton}
use Rattle.ppm_kept.specs.Running.{IsFair, strands}
use Rattle.ppm_kept.specs.Steps.{tree_after}
use Rattle.ppm_runs.specs.Run.{setting, IsRun}

-- with takeover by places, each turn of a run's state leads to the next one, with the homes, the lists
-- and the tree that the turn makes, also where it stops the run
abbrev pub TurnsLeadOn : Type 0
TurnsLeadOn = (s : Shape) (code : CodeParts) → s.takeover ≡ ByPlaces → IsFair code
    → (root : Tree (Frame FrameWord Point) Result) (input : Words) (state : RunState) (h : ℕ → Home) (forked taken : List ℕ) (t : Skeleton)
    → IsRun s code root input state h forked taken t
    → (turn : Turn) → IsTurnAmong s.processors turn
    → IsRun s code root input (happens s code state turn) (by_act s state.words turn.act (stand_of state turn.processor) h) (forks_of state turn ++ forked) (takes_of state turn ++ taken) (tree_after (setting s code) state turn t)

-- from an image of a sound code, whatever the turns, a run's state is come to
abbrev pub RunsStay : Type 0
RunsStay = (code : CodeParts) (input : List NamedArray) (s : Shape) (keeper : ℕ) (image : Image)
    → s.takeover ≡ ByPlaces → IsFair code → Opens code input s keeper image
    → Calm (strands s code) (root_strand code input) (arrays_at (view s image.words))
    → (turns : List Turn) → AllByRecursion (IsTurnAmong s.processors) turns
    → (t : Skeleton)
    × IsRun s code (root_strand code input) (arrays_at (view s image.words)) (reached s code image.words turns)
    (homes s code (opening image.words s.processors) (λ r. Unborn) turns)
    (forked_in s code (opening image.words s.processors) [] turns) (taken_in s code (opening image.words s.processors) [] turns) t

-- no right branch was forked twice, none was taken twice, and each that was taken was forked
pub record AreOnce (forked taken : List ℕ) : Type 0 where
  pub forked_once : Once forked
  pub taken_once : Once taken
  pub forked_first : (r : ℕ) → has taken r ≡ true → has forked r ≡ true

-- no right branch was forked or taken twice, at each moment of a run from an image of a sound code, whatever the turns, also where the
-- run was stopped
abbrev pub OnceAtEachMoment : Type 0
OnceAtEachMoment = (code : CodeParts) (input : List NamedArray) (s : Shape) (keeper : ℕ) (image : Image)
    → s.takeover ≡ ByPlaces → IsFair code → Opens code input s keeper image
    → Calm (strands s code) (root_strand code input) (arrays_at (view s image.words))
    → (turns : List Turn) → AllByRecursion (IsTurnAmong s.processors) turns
    → AreOnce (forked_in s code (opening image.words s.processors) [] turns) (taken_in s code (opening image.words s.processors) [] turns)
