-- A capsule of a frame that asks for the words of a block, and how it goes on.
use Rattle.std.specs.Prelude.{false, ◌≡◌, true, ℕ, List, Option, Some, None}
use Rattle.ppm_cells.specs.Cells.{pool_at}
use Rattle.ppm_cells.specs.declared.cell.Cell.TheVariants.{RoomCounter}
use Rattle.ppm_cells.specs.declared.shape.Shape.{Shape}
use Rattle.ppm_code.specs.Capsules.{capsule_from}
use Rattle.ppm_code.specs.Strands.{instrs_of}
use Rattle.ppm_code.specs.declared.code.CodeParts.{CodeParts}
use Rattle.ppm_words.specs.declared.event.Event.{Event}
use Rattle.ppm_step.specs.declared.frame.Home.{Home}
use Rattle.ppm_step.specs.declared.row.Seat.{Seat}
use Rattle.ppm_step.specs.Facts.{IsAddress}
use Rattle.ppm_step.specs.Frames.{Rest, Loads, Full as FullRest, Breaks, asks, at_counter, rest_of}
use Rattle.ppm_step.specs.Standings.{running}
use Rattle.ppm_table.specs.declared.view.Opening.{Opening}
use Rattle.ppm_table.specs.Run.{stands_by, deeds_in, Mine}
use Rattle.ppm_stretch.specs.declared.way.Room.{Room}
use Rattle.ppm_stretch.specs.declared.way.Room.TheVariants.{Block, Full, Broken}
use Rattle.ppm_stretch.specs.declared.way.RoundEnd.{RoundEnd}
use Rattle.ppm_stretch.specs.declared.way.RoundEnd.TheVariants as ends
use Rattle.ppm_stretch.specs.Entering.{HaltsAt}
use Rattle.ppm_stretch.specs.Steady.{Moves, Refuses}

-- so many words are asked for, and the block is known behind that
abbrev pub asking : Shape → Seat → (words : ℕ) → (ℕ → Rest) → Rest
asking s seat words go = Loads (RoomCounter seat.place) (λ counter. asks (pool_at s seat.place) s.room counter words (go counter))

-- a processor is before the load of its room counter
pub record IsAsking (k : Opening) (s : Shape) (seat : Seat) (words : ℕ) (me : Mine) : Type 0 where
  pub go : ℕ → Rest
  pub stands : stands_by k seat.own (deeds_in me.0) ≡ running s seat (asking s seat words go)

-- what is left then, by what came of it
abbrev pub IsRoom : (left : Rest) → (ℕ → Rest) → Room → Type 0
IsRoom left go (Block block) = IsAddress block × (left ≡ go block)
IsRoom left go Full = left ≡ FullRest
IsRoom left go Broken = left ≡ Breaks

-- the capsule with a number asks for so many words, and goes on at an instruction
abbrev pub rest_asking : Shape → CodeParts → Seat → Home → (number next words : ℕ) → List ℕ → Rest
rest_asking s code seat home number next words registers =
    asking s seat words (λ counter. rest_of s code seat.place (at_counter home counter) (capsule_from s.arrays 0 next (instrs_of code number) registers))

module _ {W : Type 0} (told : W → Option (List Event)) where
  -- what came of the load of a room counter; or the watcher refused
  abbrev pub HasAsked : Opening → Shape → Seat → (ℕ → Rest) → Mine → Mine → W → W → Option Room → Type 0
  HasAsked k s seat go me me' w w' None = Refuses told k seat.own me me' w w' true 1
  HasAsked k s seat go me me' w w' (Some room) =
      Moves told k seat.own me me' w w' 1 1 0 false
      × ((left : Rest) × (stands_by k seat.own (deeds_in me'.0) ≡ running s seat left) × IsRoom left go room)

  -- what came of a capsule behind that, by at most so many steps in all
  abbrev pub HasFilled : Opening → Shape → CodeParts → Seat → Home → List ℕ → Mine → Mine → W → W → (most made : ℕ) → RoundEnd → Type 0
  HasFilled k s code seat home registers me me' w w' most made ends.Round = ⊥
  HasFilled k s code seat home registers me me' w w' most made (ends.Halts halt) =
      Moves told k seat.own me me' w w' made made 0 false × HaltsAt s code seat home registers halt (stands_by k seat.own (deeds_in me'.0))
  HasFilled k s code seat home registers me me' w w' most made (ends.Refused lives) = Refuses told k seat.own me me' w w' lives most
