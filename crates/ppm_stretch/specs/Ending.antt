-- The stores with which a capsule ends.
use Rattle.std.specs.Prelude.{false, ◌≡◌, ℕ, Bool, List, Option, Some, true}
use Rattle.ppm_cells.specs.Restart.{IsRestart}
use Rattle.ppm_cells.specs.declared.shape.Shape.{Shape}
use Rattle.ppm_words.specs.declared.event.Event.{Event}
use Rattle.ppm_step.specs.declared.frame.Put.{Put}
use Rattle.ppm_step.specs.declared.row.Seat.{Seat}
use Rattle.ppm_step.specs.Frames.{Rest, Stores}
use Rattle.ppm_step.specs.Standings.{IsAt, IsBroken, running}
use Rattle.ppm_table.specs.declared.view.Opening.{Opening}
use Rattle.ppm_table.specs.Run.{stands_by, deeds_in, Mine}
use Rattle.ppm_stretch.specs.declared.way.EndStep.{EndStep}
use Rattle.ppm_stretch.specs.declared.way.EndStep.TheVariants as steps
use Rattle.ppm_stretch.specs.Steady.{Moves, Refuses}

-- a processor is before a store, if its cell is there
pub record IsPutting (k : Opening) (s : Shape) (seat : Seat) (put : Put) (me : Mine) : Type 0 where
  pub rest : Rest
  pub stands : stands_by k seat.own (deeds_in me.0) ≡ running s seat (Stores put.cell put.content rest)

module _ {W : Type 0} (told : W → Option (List Event)) where
  -- what came of a store of an end behind which this is left, or of that of the restart word
  abbrev pub HasEnded : Opening → Shape → Seat → Rest → Mine → Mine → W → W → EndStep → Type 0
  HasEnded k s seat rest me me' w w' steps.Stored = Moves told k seat.own me me' w w' 1 1 0 false × (stands_by k seat.own (deeds_in me'.0) ≡ running s seat rest)
  HasEnded k s seat rest me me' w w' (steps.Installed restart) =
      Moves told k seat.own me me' w w' 1 1 0 false × (stands_by k seat.own (deeds_in me'.0) ≡ IsAt seat.place (Some restart)) × IsRestart restart
  HasEnded k s seat rest me me' w w' steps.Gone = (me' ≡ me) × (w' ≡ w) × (stands_by k seat.own (deeds_in me'.0) ≡ IsBroken seat.place)
  HasEnded k s seat rest me me' w w' steps.Refused = Refuses told k seat.own me me' w w' true 1

  -- what came of so many stores of an end, behind which this is left, where at most so many were to be made
  abbrev pub HasMadeEnds : Opening → Shape → Seat → Rest → Mine → Mine → W → W → (most made : ℕ) → EndStep → Type 0
  HasMadeEnds k s seat rest me me' w w' most made steps.Stored =
      Moves told k seat.own me me' w w' made made 0 false × (stands_by k seat.own (deeds_in me'.0) ≡ running s seat rest)
  HasMadeEnds k s seat rest me me' w w' most made (steps.Installed restart) =
      Moves told k seat.own me me' w w' made made 0 false × (stands_by k seat.own (deeds_in me'.0) ≡ IsAt seat.place (Some restart)) × IsRestart restart
  HasMadeEnds k s seat rest me me' w w' most made steps.Gone =
      Moves told k seat.own me me' w w' made made 0 false × (stands_by k seat.own (deeds_in me'.0) ≡ IsBroken seat.place)
  HasMadeEnds k s seat rest me me' w w' most made steps.Refused = Refuses told k seat.own me me' w w' true most

-- the steps of a store of an end, and whether the next one comes
abbrev pub made_by : EndStep → ℕ
made_by steps.Stored = 1
made_by (steps.Installed restart) = 1
made_by steps.Gone = 0
made_by steps.Refused = 0

abbrev pub is_stored : EndStep → Bool
is_stored steps.Stored = true
is_stored (steps.Installed restart) = false
is_stored steps.Gone = false
is_stored steps.Refused = false
