-- At each moment of a run the words show a tree of strands, and what is left of it ends exactly as the depth-first run
-- of the root does; and who runs a right branch of it was counted.
use Rattle.std.specs.Prelude.{◌≡◌, ◌⊎◌, ℕ, true, false, List, [], length}
use Rattle.std.specs.List.{AllByRecursion}
use Rattle.ppm_strands.specs.Tree.{Words, Tree}
use Rattle.ppm_strands.specs.Run.{Counts}
use Rattle.ppm_strands.specs.Ahead.{Ahead}
use Rattle.ppm_strands.specs.Calm.{Calm}
use Rattle.ppm_words.specs.declared.named_array.NamedArray.{NamedArray}
use Rattle.ppm_cells.specs.declared.cell.Cell.TheVariants.{BlockWord}
use Rattle.ppm_cells.specs.declared.link.LinkKind.TheVariants.{Branch}
use Rattle.ppm_cells.specs.declared.restart.RestartKind.TheVariants.{Run, Seek}
use Rattle.ppm_cells.specs.declared.shape.Shape.{Shape}
use Rattle.ppm_cells.specs.declared.shape.Takeover.TheVariants.{ByPlaces}
use Rattle.ppm_cells.specs.declared.side.Side.TheVariants.{Right}
use Rattle.ppm_strands.specs.Strand.{Frame}
use Rattle.ppm_code.specs.Strands.{Point, Result}
use Rattle.ppm_code.specs.declared.code.CodeParts.{CodeParts}
use Rattle.ppm_code.specs.declared.location.FrameWord.{FrameWord}
use Rattle.ppm_layout.specs.Correct.{Opens}
use Rattle.ppm_layout.specs.Root.{root_strand}
use Rattle.ppm_layout.specs.declared.images.Image.{Image}
use Rattle.ppm_step.specs.Among.{IsTurnAmong}
use Rattle.ppm_step.specs.Laws.{reached}
use Rattle.ppm_step.specs.State.{stand_of, happens, opening, takes_of, next_of}
use Rattle.ppm_step.specs.declared.turn.Next.TheVariants.{Seek as Seeks}
use Rattle.ppm_step.specs.declared.turn.Turn.{Turn}
use Rattle.ppm_tickets.specs.Along.{homes_by, forked as forked_in, taken as taken_in}
use Rattle.ppm_tickets.specs.Homes.{Home, Once}
use Rattle.ppm_tickets.specs.Lawful.{Closed}
use Rattle.ppm_tickets.specs.View as spots
use Rattle.ppm_tickets.specs.Words.{has, Number, Carry}
use Rattle.ppm_frames.specs.Views.{view}
use Rattle.ppm_frames.specs.Seen.{arrays_at}
use Rattle.ppm_frames.specs.Skeletons.{Fresh, Skeleton, tree_of, at}
use Rattle.ppm_frames.specs.Good.{link_at}
use Rattle.ppm_kept.specs.Running.{IsFair, strands}
use Rattle.ppm_kept.specs.Fates.{Agrees}
use Rattle.ppm_kept.specs.Places.{kinds_of}
use Rattle.ppm_kept.specs.Unruns.{HasUnrun}
use Rattle.ppm_runs.specs.Run.{fate_of}
use Rattle.ppm_runs.specs.Legs.{Leg, AreLegs, last_state, all_homes, all_forked, all_taken}
use Rattle.ppm_runs.specs.Shown.{Shows}

-- as many forks are counted as there are blocks that were forked, or whose right branches nobody has pushed
pub record CountsForks (forked : List ℕ) (t : Skeleton) (counts : Counts) : Type 0 where
  pub blocks : List ℕ
  pub once : Once blocks
  pub many : length blocks ≡ counts.forks
  pub each : (r : ℕ) → has blocks r ≡ true → (has forked r ≡ true) ⊎ HasUnrun Fresh r t
  pub all : (r : ℕ) → (has forked r ≡ true) ⊎ HasUnrun Fresh r t → has blocks r ≡ true

-- What is left of the root's run: a tree that the words show, in which each right branch that no place has run is as
-- its home says. With the words of the arrays as they are it comes to an end exactly where the root does with those it
-- began with, with the same outcome and the same words of the arrays; and the root's end counts so many capsules, forks
-- and block words more.
pub record IsLeft (s : Shape) (code : CodeParts) (root : Tree (Frame FrameWord Point) Result) (input : Words) (words : List ℕ) (h : ℕ → Home) (forked : List ℕ) : Type 0 where
  pub tree : Skeleton
  pub shown : Shows s code words tree
  pub agrees : Agrees tree (λ r. fate_of (h r))
  pub counts : Counts
  pub ahead : Ahead (strands s code) counts root input (tree_of (view s words) tree) (arrays_at (view s words))
  pub forks : CountsForks forked tree counts

-- from an image of a sound code, whatever the takeover and the turns, also where the run was stopped
abbrev pub WhatIsLeftEndsSo : Type 0
WhatIsLeftEndsSo = (code : CodeParts) (input : List NamedArray) (s : Shape) (keeper : ℕ) (image : Image)
    → IsFair code → Opens code input s keeper image
    → Calm (strands s code) (root_strand code input) (arrays_at (view s image.words))
    → (turns : List Turn) → AllByRecursion (IsTurnAmong s.processors) turns
    → IsLeft s code (root_strand code input) (arrays_at (view s image.words)) (reached s code image.words turns).words
    (homes_by s code image.words turns) (forked_in s code (opening image.words s.processors) [] turns)

-- with takeover by places the words show what is left of the root's run, whatever the legs and the turns after them
abbrev pub WhatIsLeftOverLegs : Type 0
WhatIsLeftOverLegs = (code : CodeParts) (input : List NamedArray) (s : Shape) (keeper : ℕ) (image : Image)
    → s.takeover ≡ ByPlaces → IsFair code → Opens code input s keeper image
    → Calm (strands s code) (root_strand code input) (arrays_at (view s image.words))
    → (legs : List Leg) → AreLegs s code image.words legs → (turns : List Turn) → AllByRecursion (IsTurnAmong s.processors) turns
    → IsLeft s code (root_strand code input) (arrays_at (view s image.words)) (last_state s code image.words legs turns).words
    (all_homes s code image.words legs turns) (all_forked s code image.words legs turns)

-- the place is not closed, and is to run a frame that hangs on block r as its right branch
pub record IsInRight (s : Shape) (words : List ℕ) (r : ℕ) : Type 0 where
  pub place : ℕ
  pub frame : ℕ
  pub copy : ℕ
  pub is_open : Closed s.takeover (spots.view s words) place → ⊥
  pub runs : kinds_of s words place ≡ Run frame copy
  pub hangs : (link_at (view s words (BlockWord frame))).kind ≡ Branch Right r

-- the right branch of a block that was forked, if a place is to run it, was taken
abbrev pub RunnersAreCounted : Type 0
RunnersAreCounted = (code : CodeParts) (input : List NamedArray) (s : Shape) (keeper : ℕ) (image : Image)
    → IsFair code → Opens code input s keeper image
    → Calm (strands s code) (root_strand code input) (arrays_at (view s image.words))
    → (turns : List Turn) → AllByRecursion (IsTurnAmong s.processors) turns
    → (r : ℕ) → has (forked_in s code (opening image.words s.processors) [] turns) r ≡ true
    → IsInRight s (reached s code image.words turns).words r
    → has (taken_in s code (opening image.words s.processors) [] turns) r ≡ true

-- with takeover by places, over legs, a right branch that was forked was taken, if a place is to run it
abbrev pub RunnersAreCountedOverLegs : Type 0
RunnersAreCountedOverLegs = (code : CodeParts) (input : List NamedArray) (s : Shape) (keeper : ℕ) (image : Image)
    → s.takeover ≡ ByPlaces → IsFair code → Opens code input s keeper image
    → Calm (strands s code) (root_strand code input) (arrays_at (view s image.words))
    → (legs : List Leg) → AreLegs s code image.words legs → (turns : List Turn) → AllByRecursion (IsTurnAmong s.processors) turns
    → (r : ℕ) → has (all_forked s code image.words legs turns) r ≡ true
    → IsInRight s (last_state s code image.words legs turns).words r
    → has (all_taken s code image.words legs turns) r ≡ true

-- and the turn by which a place first comes to run it is its take
abbrev pub BeginnersAreCounted : Type 0
BeginnersAreCounted = (code : CodeParts) (input : List NamedArray) (s : Shape) (keeper : ℕ) (image : Image)
    → IsFair code → Opens code input s keeper image
    → Calm (strands s code) (root_strand code input) (arrays_at (view s image.words))
    → (turns : List Turn) → AllByRecursion (IsTurnAmong s.processors) turns
    → (turn : Turn) → IsTurnAmong s.processors turn
    → (r : ℕ) → has (forked_in s code (opening image.words s.processors) [] turns) r ≡ true
    → has (taken_in s code (opening image.words s.processors) [] turns) r ≡ false
    → IsInRight s (happens s code (reached s code image.words turns) turn).words r
    → has (takes_of (reached s code image.words turns) turn) r ≡ true

-- it carries a place without a strand: the restart word there is Seek, and no tree that the words show has a leaf of it
pub record IsIdle (s : Shape) (code : CodeParts) (words : List ℕ) (processor : ℕ) : Type 0 where
  pub place : ℕ
  pub carried : spots.view s words (Carry processor) ≡ Number place
  pub seeks : kinds_of s words place ≡ Seek
  pub none : (t : Skeleton) → Shows s code words t → at place t ≡ 0

-- at each moment, whatever the takeover, who would seek work next carries a place without a strand. Who parks or leaves does so there alone.
abbrev pub SeekersAreIdle : Type 0
SeekersAreIdle = (code : CodeParts) (input : List NamedArray) (s : Shape) (keeper : ℕ) (image : Image)
    → IsFair code → Opens code input s keeper image
    → Calm (strands s code) (root_strand code input) (arrays_at (view s image.words))
    → (turns : List Turn) → AllByRecursion (IsTurnAmong s.processors) turns
    → (processor : ℕ) → next_of (stand_of (reached s code image.words turns) processor) ≡ Seeks
    → IsIdle s code (reached s code image.words turns).words processor

-- with takeover by places, over legs, each processor that would seek work next carries a place without a strand
abbrev pub SeekersAreIdleOverLegs : Type 0
SeekersAreIdleOverLegs = (code : CodeParts) (input : List NamedArray) (s : Shape) (keeper : ℕ) (image : Image)
    → s.takeover ≡ ByPlaces → IsFair code → Opens code input s keeper image
    → Calm (strands s code) (root_strand code input) (arrays_at (view s image.words))
    → (legs : List Leg) → AreLegs s code image.words legs → (turns : List Turn) → AllByRecursion (IsTurnAmong s.processors) turns
    → (processor : ℕ) → next_of (stand_of (last_state s code image.words legs turns) processor) ≡ Seeks
    → IsIdle s code (last_state s code image.words legs turns).words processor
