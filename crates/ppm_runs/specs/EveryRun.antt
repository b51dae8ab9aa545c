-- Whole runs owe the tickets nothing: from an image of a sound code the turns of a run are orderly, whatever they are and
-- whatever the takeover. So what the tickets say of runs of orderly turns holds of each, with no premise on turns but
-- that their processors and victims are there.
use Rattle.std.specs.Prelude.{◌≡◌, ◌≢◌, ◌⊎◌, ◌<◌, ℕ, List, []}
use Rattle.std.specs.List.{AllByRecursion}
use Rattle.ppm_strands.specs.Calm.{Calm}
use Rattle.ppm_words.specs.declared.named_array.NamedArray.{NamedArray}
use Rattle.ppm_cells.specs.Memory.{read}
use Rattle.ppm_cells.specs.declared.cell.Cell.TheVariants.{CarryWord, RestartWord, MessageWord, HolderWord}
use Rattle.ppm_cells.specs.declared.shape.Shape.{Shape}
use Rattle.ppm_cells.specs.declared.shape.Takeover.TheVariants.{ByPlaces, ByEntries}
use Rattle.ppm_code.specs.declared.code.CodeParts.{CodeParts}
use Rattle.ppm_layout.specs.Correct.{Opens}
use Rattle.ppm_layout.specs.Root.{root_strand}
use Rattle.ppm_layout.specs.declared.images.Image.{Image}
use Rattle.ppm_step.specs.Among.{IsTurnAmong}
use Rattle.ppm_step.specs.Standings.{IsDone}
use Rattle.ppm_step.specs.State.{State as RunState, stand_of, happens, opening, along, forks_of, takes_of}
use Rattle.ppm_step.specs.declared.turn.Turn.{Turn}
use Rattle.ppm_tickets.specs.Along.{AreOrderly, reached, homes_by}
use Rattle.ppm_tickets.specs.Homes.{Unborn}
use Rattle.ppm_tickets.specs.Lawful.{Changes}
use Rattle.ppm_tickets.specs.Tickets.{AtMostOnce, AtMostOnceByEntries}
use Rattle.ppm_tickets.specs.View as spots
use Rattle.ppm_tickets.specs.Words.{Slot}
use Rattle.ppm_frames.specs.Views.{view}
use Rattle.ppm_frames.specs.Seen.{arrays_at}
use Rattle.ppm_kept.specs.Running.{IsFair, strands}
use Rattle.ppm_runs.specs.Legs.{Leg, AreLegs, GoOn, state_then, homes_then, forked_then, last_state, all_homes, all_forked, all_taken}

-- from an image of a sound code the turns of a run are orderly, with either takeover
abbrev pub RunsAreOrderly : Type 0
RunsAreOrderly = (code : CodeParts) (input : List NamedArray) (s : Shape) (keeper : ℕ) (image : Image)
    → IsFair code → Opens code input s keeper image
    → Calm (strands s code) (root_strand code input) (arrays_at (view s image.words))
    → (turns : List Turn) → AllByRecursion (IsTurnAmong s.processors) turns
    → AreOrderly s code (opening image.words s.processors) (λ r. Unborn) [] turns

-- with takeover by places the turns after legs are orderly, and those of each leg, which are turns after the earlier ones
abbrev pub LegsAreOrderly : Type 0
LegsAreOrderly = (code : CodeParts) (input : List NamedArray) (s : Shape) (keeper : ℕ) (image : Image)
    → s.takeover ≡ ByPlaces → IsFair code → Opens code input s keeper image
    → Calm (strands s code) (root_strand code input) (arrays_at (view s image.words))
    → (legs : List Leg) → AreLegs s code image.words legs → (turns : List Turn) → AllByRecursion (IsTurnAmong s.processors) turns
    → AreOrderly s code (state_then s code image.words legs) (homes_then s code image.words legs) (forked_then s code image.words legs) turns

-- the next turn, whosever it is, leaves each entry as it is, or changes it lawfully
abbrev pub EntriesGoOn : Shape → CodeParts → RunState → Type 0
EntriesGoOn s code state = (turn : Turn) → IsTurnAmong s.processors turn → (v i : ℕ)
    → (spots.view s (happens s code state turn).words (Slot v i) ≡ spots.view s state.words (Slot v i))
    ⊎ Changes s.takeover (spots.view s state.words (Slot v i)) (spots.view s (happens s code state turn).words (Slot v i))

-- with takeover by places each branch is at one place and is taken at most once, at each moment of each run
abbrev pub TicketsByPlaces : Type 0
TicketsByPlaces = (code : CodeParts) (input : List NamedArray) (s : Shape) (keeper : ℕ) (image : Image)
    → s.takeover ≡ ByPlaces → IsFair code → Opens code input s keeper image
    → Calm (strands s code) (root_strand code input) (arrays_at (view s image.words))
    → (turns : List Turn) → AllByRecursion (IsTurnAmong s.processors) turns
    → AtMostOnce s code (reached s code image.words turns) (homes_by s code image.words turns)
    (along s code forks_of (opening image.words s.processors) turns) (along s code takes_of (opening image.words s.processors) turns)
    × EntriesGoOn s code (reached s code image.words turns)

-- words that come back after these have each entry as it was
abbrev pub EntriesComeBack : Shape → (words : List ℕ) → Type 0
EntriesComeBack s words = (back : List ℕ) → GoOn s words back → (v i : ℕ)
    → spots.view s back (Slot v i) ≡ spots.view s words (Slot v i)

-- With takeover by places, at each moment of a run in legs, each branch is at one place and is taken at most once. What was forked and what was
-- taken is told of all legs together; the processors that may live are those of the leg under way. The next turn changes entries lawfully, if at all.
abbrev pub TicketsOverLegs : Type 0
TicketsOverLegs = (code : CodeParts) (input : List NamedArray) (s : Shape) (keeper : ℕ) (image : Image)
    → s.takeover ≡ ByPlaces → IsFair code → Opens code input s keeper image
    → Calm (strands s code) (root_strand code input) (arrays_at (view s image.words))
    → (legs : List Leg) → AreLegs s code image.words legs → (turns : List Turn) → AllByRecursion (IsTurnAmong s.processors) turns
    → AtMostOnce s code (last_state s code image.words legs turns) (all_homes s code image.words legs turns)
    (all_forked s code image.words legs turns) (all_taken s code image.words legs turns)
    × EntriesGoOn s code (last_state s code image.words legs turns)
    × EntriesComeBack s (last_state s code image.words legs turns).words

-- With takeover by entries each place is its own processor's. That one carries it, and holder words are as they were. The next
-- turn, whosever it is, changes the restart word and the message of its processor's place alone, and not once that is done.
pub record PlacesAreOwn (s : Shape) (code : CodeParts) (words : List ℕ) (state : RunState) : Type 0 where
  pub carries : (c : ℕ) → c < s.processors → read s state.words (CarryWord c) ≡ c
  pub holders : (p : ℕ) → p < s.processors → read s state.words (HolderWord p) ≡ read s words (HolderWord p)
  pub others : (turn : Turn) → IsTurnAmong s.processors turn → (q : ℕ) → q < s.processors → q ≢ turn.processor
      → (read s (happens s code state turn).words (RestartWord q) ≡ read s state.words (RestartWord q))
      × (read s (happens s code state turn).words (MessageWord q) ≡ read s state.words (MessageWord q))
  pub done : (turn : Turn) → IsTurnAmong s.processors turn → (q : ℕ) → q < s.processors → stand_of state q ≡ IsDone
      → (read s (happens s code state turn).words (RestartWord q) ≡ read s state.words (RestartWord q))
      × (read s (happens s code state turn).words (MessageWord q) ≡ read s state.words (MessageWord q))

-- and so by entries, where each place is its processor's own, and a closed place's strand comes to one heir, once
abbrev pub TicketsByEntries : Type 0
TicketsByEntries = (code : CodeParts) (input : List NamedArray) (s : Shape) (keeper : ℕ) (image : Image)
    → s.takeover ≡ ByEntries → IsFair code → Opens code input s keeper image
    → Calm (strands s code) (root_strand code input) (arrays_at (view s image.words))
    → (turns : List Turn) → AllByRecursion (IsTurnAmong s.processors) turns
    → AtMostOnceByEntries s code (reached s code image.words turns) (homes_by s code image.words turns)
    (along s code forks_of (opening image.words s.processors) turns) (along s code takes_of (opening image.words s.processors) turns)
    × EntriesGoOn s code (reached s code image.words turns)
    × PlacesAreOwn s code image.words (reached s code image.words turns)
