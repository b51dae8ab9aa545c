-- A place that looks for work, that is, whose kind isn't work, has no job in its deque.
use Rattle.std.specs.Prelude.{◌≡◌, ◌<◌, ℕ, false, List}
use Rattle.std.specs.List.{AllByRecursion}
use Rattle.ppm_strands.specs.Tree.{Words, Tree}
use Rattle.ppm_strands.specs.Calm.{Calm}
use Rattle.ppm_words.specs.declared.named_array.NamedArray.{NamedArray}
use Rattle.ppm_cells.specs.declared.shape.Shape.{Shape}
use Rattle.ppm_strands.specs.Strand.{Frame}
use Rattle.ppm_code.specs.Strands.{Point, Result}
use Rattle.ppm_code.specs.declared.code.CodeParts.{CodeParts}
use Rattle.ppm_code.specs.declared.location.FrameWord.{FrameWord}
use Rattle.ppm_layout.specs.Correct.{Opens}
use Rattle.ppm_layout.specs.Root.{root_strand}
use Rattle.ppm_layout.specs.declared.images.Image.{Image}
use Rattle.ppm_step.specs.Among.{IsTurnAmong}
use Rattle.ppm_step.specs.Laws.{reached}
use Rattle.ppm_step.specs.State.{State as RunState, happens, is_work}
use Rattle.ppm_step.specs.declared.turn.Turn.{Turn}
use Rattle.ppm_tickets.specs.Homes.{Home}
use Rattle.ppm_tickets.specs.Lawful.{IsJob, IsTaken}
use Rattle.ppm_tickets.specs.Renewal.{IsLawful}
use Rattle.ppm_tickets.specs.View.{view as spots, kinds, bottoms}
use Rattle.ppm_tickets.specs.Words.{Slot}
use Rattle.ppm_frames.specs.Views.{view}
use Rattle.ppm_frames.specs.Seen.{arrays_at}
use Rattle.ppm_frames.specs.Skeletons.{Skeleton}
use Rattle.ppm_kept.specs.Running.{IsFair, strands}
use Rattle.ppm_kept.specs.Fates.{Agrees}
use Rattle.ppm_kept.specs.Left.{Followed}
use Rattle.ppm_runs.specs.Run.{fate_of}
use Rattle.ppm_runs.specs.Follow.{IsHalves}

-- at a place whose kind isn't work each entry below the bottom is taken
abbrev pub IdleAreEmpty : Shape → List ℕ → Type 0
IdleAreEmpty s words = (p i : ℕ) → is_work (kinds s words p) ≡ false → i < bottoms s words p → IsTaken (spots s words (Slot p i))

-- a place whose kind isn't work has no job in its deque; one that has won a job is among these, since it hasn't begun it
abbrev pub IdleHaveNoJob : Shape → List ℕ → Type 0
IdleHaveNoJob s words = (p i : ℕ) → is_work (kinds s words p) ≡ false → IsJob (spots s words (Slot p i)) → ⊥

-- with either takeover, below the bottoms it is so after each turn of a run's state
abbrev pub IdleStayEmpty : Type 0
IdleStayEmpty = (s : Shape) (code : CodeParts) → IsFair code
    → (root : Tree (Frame FrameWord Point) Result) (input : Words) (state : RunState) (h : ℕ → Home) (forked taken : List ℕ)
    → (l : List Followed) (t : Skeleton)
    → IsHalves s code root input state h forked taken l t → Agrees t (λ r. fate_of (h r))
    → (turn : Turn) → IsTurnAmong s.processors turn
    → (g : ℕ → Home) (born begun : List ℕ) → IsLawful s code (happens s code state turn) g born begun
    → IdleAreEmpty s state.words → IdleAreEmpty s (happens s code state turn).words

-- both hold at each moment of a run from an image of a sound code, with either takeover, whatever the turns
abbrev pub IdleAreEmptyInRuns : Type 0
IdleAreEmptyInRuns = (code : CodeParts) (input : List NamedArray) (s : Shape) (keeper : ℕ) (image : Image)
    → IsFair code → Opens code input s keeper image
    → Calm (strands s code) (root_strand code input) (arrays_at (view s image.words))
    → (turns : List Turn) → AllByRecursion (IsTurnAmong s.processors) turns
    → IdleAreEmpty s (reached s code image.words turns).words × IdleHaveNoJob s (reached s code image.words turns).words
