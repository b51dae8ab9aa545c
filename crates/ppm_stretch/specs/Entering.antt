-- The steps with which a capsule of a frame begins and goes round.
use Rattle.std.specs.Prelude.{false, ◌≡◌, ◌≤◌, ◌<◌, true, ℕ, ◌+◌, List, Option, Some, None, slice_get}
use Rattle.ppm_code.specs.declared.code.CodeParts.{CodeParts}
use Rattle.ppm_cells.specs.declared.restart.RestartKind.TheVariants.{Run}
use Rattle.ppm_cells.specs.declared.shape.Shape.{Shape}
use Rattle.ppm_step.specs.declared.row.Point.TheVariants.{Header}
use Rattle.ppm_step.specs.declared.row.Row.TheVariants.{Now}
use Rattle.ppm_step.specs.declared.row.Seat.{Seat}
use Rattle.ppm_step.specs.declared.row.Then.TheVariants.{Load}
use Rattle.ppm_step.specs.declared.ask.Want.TheVariants.{Stores as WantsStore}
use Rattle.ppm_step.specs.declared.frame.Home.{Home}
use Rattle.ppm_step.specs.Frames.{Rest, Full}
use Rattle.ppm_code.specs.Capsules.{reached}
use Rattle.ppm_code.specs.declared.code.Capsule.{Capsule}
use Rattle.ppm_stretch.specs.declared.way.Stretch.{Stretch}
use Rattle.ppm_stretch.specs.declared.way.Halt.{Halt}
use Rattle.ppm_stretch.specs.declared.way.Halt.TheVariants as halts
use Rattle.ppm_stretch.specs.declared.way.RoundEnd.{RoundEnd}
use Rattle.ppm_stretch.specs.declared.way.RoundEnd.TheVariants as ends
use Rattle.ppm_stretch.specs.declared.way.Turned.{Turned}
use Rattle.ppm_stretch.specs.declared.way.Way.{Way}
use Rattle.ppm_stretch.specs.declared.way.Way.TheVariants as ways
use Rattle.ppm_stretch.specs.declared.way.Turned.TheVariants as turned
use Rattle.ppm_stretch.specs.declared.way.Begun.{Begun}
use Rattle.ppm_stretch.specs.declared.way.Begun.TheVariants as begun
use Rattle.ppm_words.specs.declared.event.Event.{Event}
use Rattle.ppm_engine.specs.Waiting.{HasReached, goes_round, stands_before, stands_in}
use Rattle.ppm_stretch.specs.Steady.{Moves, Refuses, LedTo}
use Rattle.ppm_step.specs.Standings.{Standing, IsDone, IsBroken, enters, IsAt, IsWithin, IsRunning, running, wanted_rest}
use Rattle.ppm_table.specs.declared.view.Opening.{Opening}
use Rattle.ppm_table.specs.Run.{stands_by, deeds_in, Mine}

-- a place goes on with a restart, and the finish word is to be loaded
abbrev pub StandsBefore : Opening → Seat → Mine → Type 0
StandsBefore k seat me = stands_by k seat.own (deeds_in me.0) ≡ IsAt seat.place (Some seat.restart)

-- the header of its frame, at this address, is to be loaded
pub record StandsAtHeader (k : Opening) (seat : Seat) (at : ℕ) (me : Mine) : Type 0 where
  pub frame : ℕ
  pub copy : ℕ
  pub kind : seat.restart.kind ≡ Run frame copy
  pub is_at : at ≡ frame + 2 + copy
  pub stands : stands_by k seat.own (deeds_in me.0) ≡ IsWithin seat (Now (Load (Header frame copy)))

-- a step of a capsule under way is the store of this word at this address
pub record IsToStore (k : Opening) (s : Shape) (seat : Seat) (at word : ℕ) (me : Mine) : Type 0 where
  pub rest : Rest
  pub stands : stands_by k seat.own (deeds_in me.0) ≡ IsRunning seat rest
  pub wants : wanted_rest s seat rest ≡ WantsStore at word

-- where a round halts in the capsule with a number, by what came of its instructions
abbrev pub halt_behind : (number : ℕ) → Way → RoundEnd
halt_behind number (ways.Made at) = ends.Halts (halts.Midway number at)
halt_behind number (ways.Stops next what) = ends.Halts (halts.Stopped number next what)
halt_behind number ways.Breaks = ends.Halts halts.Broken
halt_behind number ways.Refused = ends.Refused true

-- the looks behind its last work where a processor halts: that at the finish word, by which it is done
abbrev pub looks_at : Halt → ℕ
looks_at halts.Done = 1
looks_at halts.Broken = 0
looks_at (halts.Midway number at) = 0
looks_at (halts.Stopped number next what) = 0
looks_at (halts.Full number) = 0

-- where it stands that halts there, with these registers
abbrev pub HaltsAt : Shape → CodeParts → Seat → Home → List ℕ → Halt → Standing → Type 0
HaltsAt s code seat home registers halts.Done standing = standing ≡ IsDone
HaltsAt s code seat home registers halts.Broken standing = standing ≡ IsBroken seat.place
HaltsAt s code seat home registers (halts.Midway number at) standing =
    (capsule : Capsule) × (slice_get code.capsules number ≡ Some capsule)
    × (standing ≡ stands_before s code seat home capsule.instrs at registers)
HaltsAt s code seat home registers (halts.Stopped number next what) standing =
    (capsule : Capsule) × (slice_get code.capsules number ≡ Some capsule)
    × (HasReached s capsule.instrs next what registers
    × (standing ≡ stands_in s code seat home (reached s.arrays capsule.instrs next what registers)))
HaltsAt s code seat home registers (halts.Full number) standing =
    (capsule : Capsule) × (slice_get code.capsules number ≡ Some capsule) × (standing ≡ running s seat Full)

module _ {W : Type 0} (told : W → Option (List Event)) where
  -- what came of the beginning of a capsule of a frame: the finish word was set, or the capsule with a number is entered with registers of 0, if it
  -- is there; or the watcher refused
  abbrev pub HasBegun : Opening → Shape → CodeParts → Seat → (frame copy : ℕ) → Mine → Mine → W → W → Begun → Type 0
  HasBegun k s code seat frame copy me me' w w' begun.Over = Moves told k seat.own me me' w w' 1 0 1 false × (stands_by k seat.own (deeds_in me'.0) ≡ IsDone)
  HasBegun k s code seat frame copy me me' w w' (begun.Entered number) =
      Moves told k seat.own me me' w w' 2 1 0 false
      × (stands_by k seat.own (deeds_in me'.0) ≡ enters s code seat (Run frame copy) (slice_get code.capsules number))
  HasBegun k s code seat frame copy me me' w w' (begun.Refused lives) = Refuses told k seat.own me me' w w' lives 2

  -- what came of the stores with which a frame goes round
  abbrev pub HasTurned : Opening → Shape → Seat → Home → Mine → Mine → W → W → Turned → Type 0
  HasTurned k s seat home me me' w w' (turned.Breaks made) =
      (made ≤ 1) × Moves told k seat.own me me' w w' made made 0 false × (stands_by k seat.own (deeds_in me'.0) ≡ IsBroken seat.place)
  HasTurned k s seat home me me' w w' turned.Round =
      Moves told k seat.own me me' w w' 2 2 0 false × (stands_by k seat.own (deeds_in me'.0) ≡ IsAt seat.place (Some (goes_round seat home)))
  HasTurned k s seat home me me' w w' turned.Refused = Refuses told k seat.own me me' w w' true 2

  -- what came of the capsule with a number: there is none, or it was gone through so far, by at most so many steps
  abbrev pub WentAlong : Opening → Shape → CodeParts → Seat → Home → (number : ℕ) → List ℕ → Mine → Mine → W → W → (most : ℕ) → Option Stretch → Type 0
  WentAlong k s code seat home number registers me me' w w' most None = (me' ≡ me) × (w' ≡ w) × (stands_by k seat.own (deeds_in me'.0) ≡ IsBroken seat.place)
  WentAlong k s code seat home number registers me me' w w' most (Some stretch) =
      (capsule : Capsule) × (slice_get code.capsules number ≡ Some capsule)
      × LedTo told k s code seat home capsule.instrs registers me me' w w' most stretch.made stretch.way

  -- what came of a round of at most so many steps
  abbrev pub Circled : Opening → Shape → CodeParts → Seat → Home → List ℕ → Mine → Mine → W → W → (most made work : ℕ) → RoundEnd → Type 0
  Circled k s code seat home registers me me' w w' most made work ends.Round =
      Moves told k seat.own me me' w w' made work 0 false × (stands_by k seat.own (deeds_in me'.0) ≡ IsAt seat.place (Some (goes_round seat home)))
  Circled k s code seat home registers me me' w w' most made work (ends.Halts halt) =
      (0 < made) × Moves told k seat.own me me' w w' made work (looks_at halt) false × HaltsAt s code seat home registers halt (stands_by k seat.own (deeds_in me'.0))
  Circled k s code seat home registers me me' w w' most made work (ends.Refused lives) = Refuses told k seat.own me me' w w' lives most
