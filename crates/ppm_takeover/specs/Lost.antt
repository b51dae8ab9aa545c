-- By places nothing is lost: what is at work has a processor that works there, or one that has taken the place over and is on its way to it, or its
-- holder is dead.
use Rattle.std.specs.Prelude.{◌≡◌, ◌⊎◌, ◌<◌, ℕ, false, List}
use Rattle.std.specs.List.{AllByRecursion}
use Rattle.ppm_strands.specs.Calm.{Calm}
use Rattle.ppm_words.specs.declared.named_array.NamedArray.{NamedArray}
use Rattle.ppm_cells.specs.Memory.{read}
use Rattle.ppm_cells.specs.declared.cell.Cell.TheVariants.{FinishWord}
use Rattle.ppm_cells.specs.declared.restart.RestartKind.{RestartKind}
use Rattle.ppm_cells.specs.declared.restart.RestartKind.TheVariants.{Take, Take2}
use Rattle.ppm_cells.specs.declared.shape.Shape.{Shape}
use Rattle.ppm_cells.specs.declared.shape.Takeover.TheVariants.{ByPlaces}
use Rattle.ppm_code.specs.declared.code.CodeParts.{CodeParts}
use Rattle.ppm_layout.specs.Correct.{Opens}
use Rattle.ppm_layout.specs.Root.{root_strand}
use Rattle.ppm_layout.specs.declared.images.Image.{Image}
use Rattle.ppm_step.specs.Among.{IsTurnAmong}
use Rattle.ppm_step.specs.Laws.{reached}
use Rattle.ppm_step.specs.State.{State, stand_of, is_done_at}
use Rattle.ppm_step.specs.declared.turn.Turn.{Turn}
use Rattle.ppm_tickets.specs.Lawful.{IsAlive, IsDead, Names}
use Rattle.ppm_tickets.specs.View.{view as spots, kinds}
use Rattle.ppm_tickets.specs.Words.{Word, Number, Spot, Bid, Holder, Carry, Dead}
use Rattle.ppm_frames.specs.Views.{view}
use Rattle.ppm_frames.specs.Seen.{arrays_at}
use Rattle.ppm_kept.specs.Running.{IsFair, strands}
use Rattle.ppm_runs.specs.Legs.{Leg, AreLegs, last_state}
use Rattle.ppm_progress.specs.Works.{IsAtWork, Works}

-- a place of this kind bids for place v, or looks whether its bid stands
abbrev pub BidsFor : RestartKind → (v : ℕ) → Type 0
BidsFor (Take w dead) v = w ≡ v
BidsFor (Take2 w) v = w ≡ v
BidsFor _ v = ⊥

-- a place of this kind was left for another one, or will be as its processor sees that its bid stands
abbrev pub IsBidder : RestartKind → Type 0
IsBidder (Take2 w) = Unit {0}
IsBidder _ = ⊥

-- processor c has taken place v over and has still to go there: the place that it carries bids for v, and v's holder word is that bid
pub record TookOver (m : Spot → Word) (k : ℕ → RestartKind) (c v : ℕ) : Type 0 where
  pub from : ℕ
  pub carried : m (Carry c) ≡ Number from
  pub bids : BidsFor (k from) v
  pub stands : m (Bid from) ≡ m (Holder v)

-- a place whose holder lives is carried by it, or its holder has taken it over and has still to go there, or has left it for another one
abbrev pub AreCarried : (Spot → Word) → (ℕ → RestartKind) → Type 0
AreCarried m k = (p c : ℕ) → Names (m (Holder p)) c → IsAlive m c
    → (m (Carry c) ≡ Number p) ⊎ (TookOver m k c p ⊎ IsBidder (k p))

-- the processor lives, isn't done, and is on its way to a place at work that it has taken over
pub record ComesTo (s : Shape) (state : State) (c : ℕ) : Type 0 where
  pub there : c < s.processors
  pub alive : IsAlive (spots s state.words) c
  pub not_done : is_done_at (stand_of state c) ≡ false
  pub place : ℕ
  pub took : TookOver (spots s state.words) (kinds s state.words) c place
  pub holds : Names (spots s state.words (Holder place)) c
  pub at_work : IsAtWork (spots s state.words) place (kinds s state.words place)

-- the place is at work, and its holder is dead: others may take it over
pub record IsLeft (s : Shape) (words : List ℕ) (place : ℕ) : Type 0 where
  pub there : place < s.processors
  pub at_work : IsAtWork (spots s words) place (kinds s words place)
  pub holder : ℕ
  pub held : Names (spots s words (Holder place)) holder
  pub dead : IsDead (spots s words (Dead holder))

-- some processor works, or comes to work, or some place at work is left by a dead one
abbrev pub SomeWorkIsLeft : Shape → State → Type 0
SomeWorkIsLeft s state = ((c : ℕ) × Works s state c) ⊎ (((c : ℕ) × ComesTo s state c) ⊎ ((p : ℕ) × IsLeft s state.words p))

-- By places, from an image of a sound code, whatever the turns, hard faults among them: so it is while the finish word is 0.
abbrev pub NothingIsLost : Type 0
NothingIsLost = (code : CodeParts) (input : List NamedArray) (s : Shape) (keeper : ℕ) (image : Image)
    → s.takeover ≡ ByPlaces → IsFair code → Opens code input s keeper image
    → Calm (strands s code) (root_strand code input) (arrays_at (view s image.words))
    → (turns : List Turn) → AllByRecursion (IsTurnAmong s.processors) turns
    → read s (reached s code image.words turns).words FinishWord ≡ 0
    → SomeWorkIsLeft s (reached s code image.words turns)

-- over legs too
abbrev pub NothingIsLostOverLegs : Type 0
NothingIsLostOverLegs = (code : CodeParts) (input : List NamedArray) (s : Shape) (keeper : ℕ) (image : Image)
    → s.takeover ≡ ByPlaces → IsFair code → Opens code input s keeper image
    → Calm (strands s code) (root_strand code input) (arrays_at (view s image.words))
    → (legs : List Leg) → AreLegs s code image.words legs → (turns : List Turn) → AllByRecursion (IsTurnAmong s.processors) turns
    → read s (last_state s code image.words legs turns).words FinishWord ≡ 0
    → SomeWorkIsLeft s (last_state s code image.words legs turns)

-- what holders carry, at each moment of a run in legs
abbrev pub HeldAreCarried : Type 0
HeldAreCarried = (code : CodeParts) (input : List NamedArray) (s : Shape) (keeper : ℕ) (image : Image)
    → s.takeover ≡ ByPlaces → IsFair code → Opens code input s keeper image
    → Calm (strands s code) (root_strand code input) (arrays_at (view s image.words))
    → (legs : List Leg) → AreLegs s code image.words legs → (turns : List Turn) → AllByRecursion (IsTurnAmong s.processors) turns
    → AreCarried (spots s (last_state s code image.words legs turns).words) (kinds s (last_state s code image.words legs turns).words)
