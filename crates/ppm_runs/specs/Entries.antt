-- Whole runs with takeover by entries: each turn leads from one state of a run to the next, with some places
-- left out that others have followed; and what all of them come to, whatever the takeover.
use Rattle.std.specs.Prelude.{◌≡◌, ◌≤◌, ℕ, List, [], ◌++◌, Some, length}
use Rattle.std.specs.List.{AllByRecursion}
use Rattle.ppm_strands.specs.Tree.{Words, Tree}
use Rattle.ppm_strands.specs.Run.{End, Ends}
use Rattle.ppm_strands.specs.Calm.{Calm}
use Rattle.ppm_words.specs.declared.named_array.NamedArray.{NamedArray}
use Rattle.ppm_cells.specs.Finish.{finish_of, IsOutcome}
use Rattle.ppm_cells.specs.Memory.{read}
use Rattle.ppm_cells.specs.declared.cell.Cell.TheVariants.{FinishWord}
use Rattle.ppm_cells.specs.declared.finish.Finish.{Finish}
use Rattle.ppm_cells.specs.declared.shape.Shape.{Shape}
use Rattle.ppm_cells.specs.declared.shape.Takeover.TheVariants.{ByEntries}
use Rattle.ppm_strands.specs.Strand.{Frame}
use Rattle.ppm_code.specs.Strands.{Point, Result}
use Rattle.ppm_code.specs.declared.code.CodeParts.{CodeParts}
use Rattle.ppm_code.specs.declared.location.FrameWord.{FrameWord}
use Rattle.ppm_layout.specs.Correct.{Opens}
use Rattle.ppm_layout.specs.Root.{root_strand}
use Rattle.ppm_layout.specs.declared.images.Image.{Image}
use Rattle.ppm_step.specs.Among.{IsTurnAmong}
use Rattle.ppm_step.specs.Laws.{reached}
use Rattle.ppm_step.specs.Standings.{IsBroken}
use Rattle.ppm_step.specs.State.{State as RunState, stand_of, happens, opening, forks_of, takes_of}
use Rattle.ppm_step.specs.declared.turn.Turn.{Turn}
use Rattle.ppm_tickets.specs.Along.{by_act, homes, forked as forked_in, taken as taken_in}
use Rattle.ppm_tickets.specs.Homes.{Home, Unborn, Once}
use Rattle.ppm_tickets.specs.Words.{has}
use Rattle.ppm_frames.specs.Views.{view}
use Rattle.ppm_frames.specs.Seen.{arrays_at}
use Rattle.ppm_frames.specs.Skeletons.{Skeleton}
use Rattle.ppm_kept.specs.Answers.{AnswersSo}
use Rattle.ppm_kept.specs.Running.{IsFair, strands}
use Rattle.ppm_kept.specs.Left.{Followed}
use Rattle.ppm_runs.specs.Run.{setting}
use Rattle.ppm_runs.specs.Follow.{IsHalves}
use Rattle.ppm_runs.specs.Joint.{AreJoint}
use Rattle.ppm_runs.specs.Moments.{AreOnce}
use Rattle.ppm_runs.specs.Shown.{Shows}

-- what holds of a run's state, with those places left out: what `IsRun` says of one by places
pub record IsHeired (s : Shape) (code : CodeParts) (root : Tree (Frame FrameWord Point) Result) (input : Words) (state : RunState) (h : ℕ → Home) (forked taken : List ℕ) (l : List Followed) (t : Skeleton) : Type 0 where
  pub halves : IsHalves s code root input state h forked taken l t
  pub joint : AreJoint s code state h l t
  pub broken : (c p : ℕ) → stand_of state c ≡ IsBroken p → p ≤ 64

-- each turn leads from one such state to the next, whosever it is
abbrev pub HeirsLeadOn : Type 0
HeirsLeadOn = (s : Shape) (code : CodeParts) → s.takeover ≡ ByEntries → IsFair code
    → (root : Tree (Frame FrameWord Point) Result) (input : Words) (state : RunState) (h : ℕ → Home) (forked taken : List ℕ) (l : List Followed) (t : Skeleton)
    → IsHeired s code root input state h forked taken l t
    → (turn : Turn) → IsTurnAmong s.processors turn
    → (m : List Followed) × (u : Skeleton)
    × IsHeired s code root input (happens s code state turn) (by_act s state.words turn.act (stand_of state turn.processor) h) (forks_of state turn ++ forked) (takes_of state turn ++ taken) m u

-- from an image of a sound code, whatever the turns, faults among them, such a state is come to
abbrev pub RunsStayHeired : Type 0
RunsStayHeired = (code : CodeParts) (input : List NamedArray) (s : Shape) (keeper : ℕ) (image : Image)
    → s.takeover ≡ ByEntries → IsFair code → Opens code input s keeper image
    → Calm (strands s code) (root_strand code input) (arrays_at (view s image.words))
    → (turns : List Turn) → AllByRecursion (IsTurnAmong s.processors) turns
    → (l : List Followed) × (t : Skeleton)
    × IsHeired s code (root_strand code input) (arrays_at (view s image.words)) (reached s code image.words turns)
    (homes s code (opening image.words s.processors) (λ r. Unborn) turns)
    (forked_in s code (opening image.words s.processors) [] turns) (taken_in s code (opening image.words s.processors) [] turns) l t

-- at each moment no right branch was forked twice, none was taken twice, and each taken was forked
abbrev pub OnceByEntries : Type 0
OnceByEntries = (code : CodeParts) (input : List NamedArray) (s : Shape) (keeper : ℕ) (image : Image)
    → s.takeover ≡ ByEntries → IsFair code → Opens code input s keeper image
    → Calm (strands s code) (root_strand code input) (arrays_at (view s image.words))
    → (turns : List Turn) → AllByRecursion (IsTurnAmong s.processors) turns
    → AreOnce (forked_in s code (opening image.words s.processors) [] turns) (taken_in s code (opening image.words s.processors) [] turns)

-- the depth-first run of the root ends so, with the words of the arrays as they are; the tree that the words show is one
-- leaf, the root's strand, which is over; each right branch that was forked was taken, and none was forked or taken twice
pub record EndsAsRun (s : Shape) (code : CodeParts) (root : Tree (Frame FrameWord Point) Result) (input : Words) (state : RunState) (forked taken : List ℕ) (t : Skeleton) (finish : Finish) : Type 0 where
  pub answer : AnswersSo (setting s code) root input state t finish
  pub shown : Shows s code state.words t
  pub all : (r : ℕ) → has forked r ≡ has taken r
  pub forked_once : Once forked
  pub taken_once : Once taken

-- with takeover by entries an outcome in the finish word is that of the root's depth-first run
abbrev pub RunsEndByEntries : Type 0
RunsEndByEntries = (code : CodeParts) (input : List NamedArray) (s : Shape) (keeper : ℕ) (image : Image)
    → s.takeover ≡ ByEntries → IsFair code → Opens code input s keeper image
    → Calm (strands s code) (root_strand code input) (arrays_at (view s image.words))
    → (turns : List Turn) → AllByRecursion (IsTurnAmong s.processors) turns
    → (finish : Finish) → finish_of (read s (reached s code image.words turns).words FinishWord) ≡ Some finish
    → IsOutcome finish
    → (t : Skeleton)
    × EndsAsRun s code (root_strand code input) (arrays_at (view s image.words)) (reached s code image.words turns)
    (forked_in s code (opening image.words s.processors) [] turns) (taken_in s code (opening image.words s.processors) [] turns) t finish

-- whatever the takeover, both halves hold at each moment of a run
abbrev pub HalvesStay : Type 0
HalvesStay = (code : CodeParts) (input : List NamedArray) (s : Shape) (keeper : ℕ) (image : Image)
    → IsFair code → Opens code input s keeper image
    → Calm (strands s code) (root_strand code input) (arrays_at (view s image.words))
    → (turns : List Turn) → AllByRecursion (IsTurnAmong s.processors) turns
    → (l : List Followed) × (t : Skeleton)
    × IsHalves s code (root_strand code input) (arrays_at (view s image.words)) (reached s code image.words turns)
    (homes s code (opening image.words s.processors) (λ r. Unborn) turns)
    (forked_in s code (opening image.words s.processors) [] turns) (taken_in s code (opening image.words s.processors) [] turns) l t

-- no right branch was forked or taken twice, at each moment of a run, whatever the takeover
abbrev pub OnceInEachRun : Type 0
OnceInEachRun = (code : CodeParts) (input : List NamedArray) (s : Shape) (keeper : ℕ) (image : Image)
    → IsFair code → Opens code input s keeper image
    → Calm (strands s code) (root_strand code input) (arrays_at (view s image.words))
    → (turns : List Turn) → AllByRecursion (IsTurnAmong s.processors) turns
    → AreOnce (forked_in s code (opening image.words s.processors) [] turns) (taken_in s code (opening image.words s.processors) [] turns)

-- and at its outcome
abbrev pub RunsEndSo : Type 0
RunsEndSo = (code : CodeParts) (input : List NamedArray) (s : Shape) (keeper : ℕ) (image : Image)
    → IsFair code → Opens code input s keeper image
    → Calm (strands s code) (root_strand code input) (arrays_at (view s image.words))
    → (turns : List Turn) → AllByRecursion (IsTurnAmong s.processors) turns
    → (finish : Finish) → finish_of (read s (reached s code image.words turns).words FinishWord) ≡ Some finish
    → IsOutcome finish
    → (t : Skeleton)
    × EndsAsRun s code (root_strand code input) (arrays_at (view s image.words)) (reached s code image.words turns)
    (forked_in s code (opening image.words s.processors) [] turns) (taken_in s code (opening image.words s.processors) [] turns) t finish

-- where the depth-first run of the root ends, as many branches were forked as that run forks
abbrev pub RunsForkSo : Type 0
RunsForkSo = (code : CodeParts) (input : List NamedArray) (s : Shape) (keeper : ℕ) (image : Image)
    → IsFair code → Opens code input s keeper image
    → Calm (strands s code) (root_strand code input) (arrays_at (view s image.words))
    → (turns : List Turn) → AllByRecursion (IsTurnAmong s.processors) turns
    → (finish : Finish) → finish_of (read s (reached s code image.words turns).words FinishWord) ≡ Some finish
    → IsOutcome finish
    → (end : End Result) → Ends (strands s code) (root_strand code input) (arrays_at (view s image.words)) end
    → length (forked_in s code (opening image.words s.processors) [] turns) ≡ end.counts.forks
