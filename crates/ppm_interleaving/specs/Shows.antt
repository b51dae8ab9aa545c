-- What a machine shows of the run of its schedule.
use Rattle.std.specs.Prelude.{◌≡◌, ◌<◌, ℕ, List, [], ◌∷◌, ◌++◌, length, get_or, slice_get, reverse, Option, Some, None}
use Rattle.ppm_strands.specs.Tree.{Words}
use Rattle.ppm_strands.specs.Capsule.{Memory}
use Rattle.ppm_strands.specs.Strand.{Frame}
use Rattle.ppm_unseen.specs.Capsule.{Ends as Stops}
use Rattle.ppm_unseen.specs.Run.{System, Deed, State, NotYet, UnderWay, Waits, IsOver, HasFinished, Change, AllStill, Asked, nothing, asked, settled, count, now}
use Rattle.ppm_unseen.specs.Run.{Changed as HasChanged, Forked as HasForked, Finished as IsFinished}
use Rattle.ppm_code.specs.declared.location.FrameWord.{FrameWord}
use Rattle.ppm_code.specs.Strands.{Result}
use Rattle.ppm_depth.specs.declared.frame.Finish.{Finish}
use Rattle.ppm_filled.specs.Racing.{OwnWord, Place, HasTrapped, Exit, Tells as Telling}
use Rattle.ppm_racy.specs.declared.code.RacyParts.{RacyParts}
use Rattle.ppm_racy.specs.Racing.{racy_system}
use Rattle.ppm_interleaving.specs.declared.change.Change.{Change as Asking}
use Rattle.ppm_interleaving.specs.declared.deed.Deed.{Deed as Told}
use Rattle.ppm_interleaving.specs.declared.deed.Deed.TheVariants.{Changed, Forked, Finished}
use Rattle.ppm_interleaving.specs.declared.deed.Turn.{Turn}
use Rattle.ppm_interleaving.specs.declared.fallen.Fallen.{Fallen}
use Rattle.ppm_interleaving.specs.declared.machine.Machine.{Machine}
use Rattle.ppm_interleaving.specs.declared.strand.Strand.{Strand}
use Rattle.ppm_interleaving.specs.declared.strand.Strand.TheVariants.{Running, Waiting as IsWaiting, Tells, Over}
use Rattle.ppm_interleaving.specs.Changes.{change_of}
use Rattle.ppm_interleaving.specs.Falls.{AllStand}
use Rattle.ppm_interleaving.specs.Owns.{ShowsOwn}
use Rattle.ppm_interleaving.specs.Steps.{WaitsAs, asked_by, result_of, under_way}
use Rattle.ppm_interleaving.specs.Turns.{Moment, moment, deeds, ComesBy, came, strand_of}

-- how a strand is over, if it is, and that of the strand with a number
abbrev pub finish_of : Option Strand → Option Finish
finish_of (Some (Over f)) = Some f
finish_of found = None

abbrev pub finish_in : List Strand → ℕ → Option Finish
finish_in strands i = finish_of (slice_get strands i)

-- the changes that the capsule of a strand has settled
abbrev pub settled_in : Strand → List Asking
settled_in (Running r) = r.settled.items
settled_in strand = []

-- what the capsule of a strand has asked for
abbrev pub asked_in : Option Strand → Asked
asked_in (Some (Running r)) = asked_by r
asked_in found = nothing

-- strands are over so, and no others are
pub record FinishesAre (finishes : ℕ → Option Finish) (t : List (Deed OwnWord Place Result)) : Type 0 where
  pub told : (i : ℕ) (f : Finish) → finishes i ≡ Some f → HasFinished i (result_of f) t
  pub alone : (i : ℕ) (result : Result) → HasFinished i result t → (f : Finish) × (finishes i ≡ Some f) × (result ≡ result_of f)

module _ (code : RacyParts) (array_words : ℕ) where
  -- a strand of the machine shows a state, if it is there
  abbrev pub ShowsState : Option Strand → State OwnWord Place Exit → Type 0
  ShowsState None σ = σ ≡ NotYet
  ShowsState (Some (Running r)) σ = (o : Memory OwnWord) × ShowsOwn r.own o × (σ ≡ under_way code array_words r o)
  ShowsState (Some (IsWaiting w)) σ = (g : Frame OwnWord Place) × (fs : List (Frame OwnWord Place)) × WaitsAs w g fs × (σ ≡ Waits g w.first fs)
  ShowsState (Some (Tells f)) σ =
      (o : Memory OwnWord) × (σ ≡ UnderWay (HasTrapped (result_of f)) (Stops (Telling (result_of f))) o)
  ShowsState (Some (Over f)) σ = σ ≡ IsOver

module _ (code : RacyParts) (array_words : ℕ) (root : FrameWord → ℕ) (arrays : Words) where
  -- the strands of the code
  abbrev pub system : System OwnWord Place Exit Result
  system = racy_system code array_words root arrays

  -- a strand that comes along turns and deeds is what the machine has of it, and its capsule has asked for the same changes
  abbrev pub ShowsStrand : Option Strand → (i : ℕ) → List Moment → Type 0
  ShowsStrand found i h = (σ : State OwnWord Place Exit) × (c : ComesBy system i h σ) × ShowsState code array_words found σ
      × (asked (came system c) ≡ asked_in found)

  -- a machine shows the run of a schedule: its words, and all its strands
  pub record Shows (h : List Moment) (m : Machine) : Type 0 where
    pub words : (x : ℕ) → now system (deeds h) x ≡ get_or m.words.items x 0
    pub word_count : length m.words.items ≡ array_words
    pub strand_count : count system (deeds h) ≡ length m.strands.items
    pub strands : (i : ℕ) → ShowsStrand (slice_get m.strands.items i) i h
    pub finishes : FinishesAre (finish_in m.strands.items) (deeds h)

  -- what is told of a turn is the deed that it made, if it made one
  abbrev pub IsTold : (who : ℕ) → Option Told → List (Deed OwnWord Place Result) → Option (Deed OwnWord Place Result) → Type 0
  IsTold who None t d = d ≡ None
  IsTold who (Some (Changed word was is)) t d = (d ≡ Some (HasChanged who word is)) × (was ≡ now system t word)
  IsTold who (Some (Forked first branches)) t d = (fs : List (Frame OwnWord Place)) × (d ≡ Some (HasForked who fs))
      × (first ≡ count system t) × (branches ≡ length fs)
  IsTold who (Some (Finished f)) t d = d ≡ Some (IsFinished who (result_of f))

  -- a machine makes a turn: whatever run it showed, it then shows the run with this turn
  abbrev pub MakesTurn : Turn → Option Told → (old new : Machine) → Type 0
  MakesTurn turn told old new = (h : List Moment) → Shows h old
      → (d : Option (Deed OwnWord Place Result)) × Shows (moment turn d ∷ h) new × IsTold (strand_of turn) told (deeds h) d

  -- the first change that does not stand: the capsule of a strand has settled it, those that it settled before stand, and all of strands before it
  pub record IsFirstFallen (h : List Moment) (fallen : Fallen) : Type 0 where
    pub state : State OwnWord Place Exit
    pub comes : ComesBy system fallen.strand h state
    pub front : List Change
    pub later : List Change
    pub order : reverse (settled (came system comes)) ≡ front ++ change_of fallen.change ∷ later
    pub number : length front ≡ fallen.number
    pub stand : AllStill (now system (deeds h)) front
    pub falls : AllStill (now system (deeds h)) (change_of fallen.change ∷ []) → ⊥
    pub before : (i : ℕ) → i < fallen.strand → (σ : State OwnWord Place Exit) (c : ComesBy system i h σ) → AllStill (now system (deeds h)) (settled (came system c))

  -- what is said of a machine: all stands, or this is the first that does not
  abbrev pub TellsFallen : List Moment → Option Fallen → Type 0
  TellsFallen h None = AllStand system h
  TellsFallen h (Some fallen) = IsFirstFallen h fallen
