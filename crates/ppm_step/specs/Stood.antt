-- Where a processor stands, by its record alone: each of its events tells its act and the word that it found.
use Rattle.std.specs.Prelude.{ℕ, zero, suc, ◌==◌, if◌then◌else◌, Bool, List, [], ◌∷◌}
use Rattle.ppm_cells.specs.Cells.{address}
use Rattle.ppm_cells.specs.Finish.{finish_word}
use Rattle.ppm_cells.specs.declared.cell.Cell.TheVariants.{HolderWord}
use Rattle.ppm_cells.specs.declared.finish.Finish.TheVariants.{Stopped}
use Rattle.ppm_cells.specs.declared.shape.Shape.{Shape}
use Rattle.ppm_code.specs.declared.code.CodeParts.{CodeParts}
use Rattle.ppm_words.specs.declared.event.Event.{Event}
use Rattle.ppm_step.specs.declared.turn.Act.{Act}
use Rattle.ppm_step.specs.declared.turn.Act.TheVariants.{Step, Soft, Hard, Quit}
use Rattle.ppm_step.specs.declared.turn.Why.{Why}
use Rattle.ppm_step.specs.declared.turn.Why.TheVariants.{Turns, Watch}
use Rattle.ppm_step.specs.Standings.{Standing}
use Rattle.ppm_step.specs.State.{stand_after, seeks_holder}

-- of so many places the one whose holder word has this address, 0 if none has
abbrev pub holder_below : Shape → ℕ → (at : ℕ) → ℕ
holder_below s zero at = 0
holder_below s (suc n) at = if address s (HolderWord n) == at then n else holder_below s n at

-- the place whose holder word has this address; it is below it
abbrev pub holder_at : Shape → (at : ℕ) → ℕ
holder_at s at = holder_below s at at

-- why a processor quit, by the word that it proposed
abbrev pub why_told : (word : ℕ) → Why
why_told word = if word == finish_word Stopped then Watch else Turns

-- the victim of a step: where one is due, the place whose holder word was loaded; else 0
abbrev pub victim_told : Shape → Standing → Event → ℕ
victim_told s standing e = if seeks_holder standing then holder_at s e.word else 0

-- the act that an event tells of a processor that stood there
abbrev pub act_by : Shape → Standing → Event → (is_soft is_hard is_quit : Bool) → Act
act_by s standing e is_soft is_hard is_quit =
    if is_soft then Soft else (if is_hard then Hard else (if is_quit then Quit (why_told e.value) else Step (victim_told s standing e)))

abbrev pub act_told : Shape → Standing → Event → Act
act_told s standing e = act_by s standing e (e.step == 4) (e.step == 5) (e.step == 6)

-- the word that it found; only a load finds one
abbrev pub found_told : Event → ℕ
found_told e = if e.step == 1 then e.value else 0

module _ (s : Shape) (code : CodeParts) (own : ℕ) where
  -- where it stands after an event, and after a list of them
  abbrev pub stood_behind : Standing → Event → Standing
  stood_behind standing e = stand_after s code own (act_told s standing e) (found_told e) standing

  abbrev pub stood_by : Standing → List Event → Standing
  stood_by standing [] = standing
  stood_by standing (e ∷ es) = stood_by (stood_behind standing e) es
