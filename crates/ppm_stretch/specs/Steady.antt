-- Steps that a processor makes in a row in a capsule of a frame.
use Rattle.std.specs.Prelude.{◌≡◌, ℕ, true, false, List, Option}
use Rattle.ppm_cells.specs.declared.cell.Cell.{Cell}
use Rattle.ppm_cells.specs.declared.shape.Shape.{Shape}
use Rattle.ppm_step.specs.declared.content.Content.TheVariants.{ANumber}
use Rattle.ppm_strands.specs.Capsule.{Capsule}
use Rattle.ppm_code.specs.Capsules.{capsule_from, reached}
use Rattle.ppm_code.specs.declared.work.Reached.{Reached}
use Rattle.ppm_words.specs.declared.event.Event.{Event}
use Rattle.ppm_code.specs.Locations.{Where}
use Rattle.ppm_code.specs.declared.act.End.{End}
use Rattle.ppm_code.specs.declared.code.CodeParts.{CodeParts}
use Rattle.ppm_code.specs.declared.instr.Instr.{Instr}
use Rattle.ppm_step.specs.declared.frame.Home.{Home}
use Rattle.ppm_step.specs.declared.row.Seat.{Seat}
use Rattle.ppm_engine.specs.Waiting.{HasReached, stands_in}
use Rattle.ppm_step.specs.Frames.{Rest, Loads, Stores}
use Rattle.ppm_step.specs.Standings.{IsBroken, running}
use Rattle.ppm_table.specs.declared.view.Opening.{Opening}
use Rattle.ppm_stretch.specs.declared.way.Way.{Way}
use Rattle.ppm_stretch.specs.declared.way.Way.TheVariants.{Made, Stops, Breaks, Refused}
use Rattle.ppm_stretch.specs.declared.way.Load.{Load}
use Rattle.ppm_stretch.specs.declared.way.Load.TheVariants as loads
use Rattle.ppm_stretch.specs.declared.way.Store.{Store}
use Rattle.ppm_stretch.specs.declared.way.Store.TheVariants as stores
use Rattle.ppm_table.specs.Run.{stands_by, deeds_in, Mine}
pub use Rattle.ppm_table.specs.Moves.{IsSteady, AreSteady, work_in, looks_in, is_exchange, exchanged_in, looks_behind, Goes, Lives, Moves, Refuses, itself}

-- a processor stands within a capsule of a frame, with this left of it; where what comes next isn't there, at broken words
abbrev pub StandsIn : Opening → Shape → CodeParts → Seat → Home → Capsule Where End → Mine → Type 0
StandsIn k s code seat home left me = stands_by k seat.own (deeds_in me.0) ≡ stands_in s code seat home left

-- before an instruction
abbrev pub StandsAt : Opening → Shape → CodeParts → Seat → Home → List Instr → (at : ℕ) → List ℕ → Mine → Type 0
StandsAt k s code seat home instrs at registers me = StandsIn k s code seat home (capsule_from s.arrays 0 at instrs registers) me

-- before a step or an end that register work has come to
abbrev pub StandsReached : Opening → Shape → CodeParts → Seat → Home → List Instr → (next : ℕ) → Reached → List ℕ → Mine → Type 0
StandsReached k s code seat home instrs next what registers me =
    HasReached s instrs next what registers × StandsIn k s code seat home (reached s.arrays instrs next what registers) me

module _ {W : Type 0} (told : W → Option (List Event)) where
  -- what came of an instruction: a step was made, and another instruction follows; or none was, since the capsule ends here or asks for words, or
  -- has met broken words; or the watcher refused
  abbrev pub CameTo : Opening → Shape → CodeParts → Seat → Home → List Instr → List ℕ → Mine → Mine → W → W → Way → Type 0
  CameTo k s code seat home instrs registers me me' w w' (Made next) = Moves told k seat.own me me' w w' 1 1 0 false × StandsAt k s code seat home instrs next registers me'
  CameTo k s code seat home instrs registers me me' w w' (Stops next what) = (me' ≡ me) × (w' ≡ w) × StandsReached k s code seat home instrs next what registers me'
  CameTo k s code seat home instrs registers me me' w w' Breaks = (me' ≡ me) × (w' ≡ w) × (stands_by k seat.own (deeds_in me'.0) ≡ IsBroken seat.place)
  CameTo k s code seat home instrs registers me me' w w' Refused = Refuses told k seat.own me me' w w' true 1

  -- what came of so many of them, where at most so many were to be made
  abbrev pub LedTo : Opening → Shape → CodeParts → Seat → Home → List Instr → List ℕ → Mine → Mine → W → W → (most made : ℕ) → Way → Type 0
  LedTo k s code seat home instrs registers me me' w w' most made (Made next) = Moves told k seat.own me me' w w' made made 0 false × StandsAt k s code seat home instrs next registers me'
  LedTo k s code seat home instrs registers me me' w w' most made (Stops next what) =
      Moves told k seat.own me me' w w' made made 0 false × StandsReached k s code seat home instrs next what registers me'
  LedTo k s code seat home instrs registers me me' w w' most made Breaks = Moves told k seat.own me me' w w' made made 0 false × (stands_by k seat.own (deeds_in me'.0) ≡ IsBroken seat.place)
  LedTo k s code seat home instrs registers me me' w w' most made Refused = Refuses told k seat.own me me' w w' true most

  -- what came of the load of a location, by the word found, or of its store
  abbrev pub HasLoaded : Opening → Shape → Seat → (ℕ → Rest) → Mine → Mine → W → W → Load → Type 0
  HasLoaded k s seat go me me' w w' loads.Gone = (me' ≡ me) × (w' ≡ w) × (stands_by k seat.own (deeds_in me'.0) ≡ IsBroken seat.place)
  HasLoaded k s seat go me me' w w' loads.Refused = Refuses told k seat.own me me' w w' true 1
  HasLoaded k s seat go me me' w w' (loads.Found found) = Moves told k seat.own me me' w w' 1 1 0 false × (stands_by k seat.own (deeds_in me'.0) ≡ running s seat (go found))

  abbrev pub HasStored : Opening → Shape → Seat → Rest → Mine → Mine → W → W → Store → Type 0
  HasStored k s seat rest me me' w w' stores.Gone = (me' ≡ me) × (w' ≡ w) × (stands_by k seat.own (deeds_in me'.0) ≡ IsBroken seat.place)
  HasStored k s seat rest me me' w w' stores.Refused = Refuses told k seat.own me me' w w' true 1
  HasStored k s seat rest me me' w w' stores.Stored = Moves told k seat.own me me' w w' 1 1 0 false × (stands_by k seat.own (deeds_in me'.0) ≡ running s seat rest)

-- a processor is before the load of a cell, or before its store, if that is there
pub record IsLoading (k : Opening) (s : Shape) (seat : Seat) (cell : Cell) (me : Mine) : Type 0 where
  pub go : ℕ → Rest
  pub stands : stands_by k seat.own (deeds_in me.0) ≡ running s seat (Loads cell go)

pub record IsStoring (k : Opening) (s : Shape) (seat : Seat) (cell : Cell) (word : ℕ) (me : Mine) : Type 0 where
  pub rest : Rest
  pub stands : stands_by k seat.own (deeds_in me.0) ≡ running s seat (Stores cell (ANumber word) rest)
