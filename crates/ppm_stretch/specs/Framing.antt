-- Capsules of a frame, with the block that one asks for and the stores of its end.
use Rattle.std.specs.Prelude.{true, false, ◌≡◌, ℕ, Bool, List, Option, Some, None}
use Rattle.ppm_cells.specs.Restart.{IsRestart}
use Rattle.ppm_cells.specs.declared.shape.Shape.{Shape}
use Rattle.ppm_code.specs.declared.code.CodeParts.{CodeParts}
use Rattle.ppm_code.specs.declared.act.End.{End}
use Rattle.ppm_code.specs.declared.act.End.TheVariants as ends
use Rattle.ppm_code.specs.declared.work.Reached.{Reached}
use Rattle.ppm_code.specs.declared.work.Reached.TheVariants.{AtEnd, Before}
use Rattle.ppm_words.specs.declared.event.Event.{Event}
use Rattle.ppm_step.specs.declared.local.Local.{Local}
use Rattle.ppm_step.specs.Locals.{IsLocal, standing_of}
use Rattle.ppm_step.specs.Standings.{IsAt}
use Rattle.ppm_table.specs.declared.view.Opening.{Opening}
use Rattle.ppm_table.specs.Run.{stands_by, deeds_in, Mine}
use Rattle.ppm_stretch.specs.declared.way.FrameEnd.{FrameEnd}
use Rattle.ppm_stretch.specs.declared.way.FrameEnd.TheVariants.{Installed, Stands, Refused}
use Rattle.ppm_stretch.specs.declared.way.Halt.{Halt}
use Rattle.ppm_stretch.specs.declared.way.Halt.TheVariants as halts
use Rattle.ppm_stretch.specs.Steady.{Moves, Refuses}

module _ {W : Type 0} (told : W → Option (List Event)) where
  -- what came of them, where at most so many steps were to be made
  abbrev pub HasFramed : Opening → Shape → CodeParts → (own place : ℕ) → Mine → Mine → W → W → Local → (most made work looks : ℕ) → FrameEnd → Type 0
  HasFramed k s code own place me me' w w' local most made work looks (Installed restart) =
      Moves told k own me me' w w' made work looks false × (stands_by k own (deeds_in me'.0) ≡ IsAt place (Some restart)) × IsRestart restart
  HasFramed k s code own place me me' w w' local most made work looks Stands =
      Moves told k own me me' w w' made work looks false × (standing_of s code local ≡ stands_by k own (deeds_in me'.0)) × IsLocal s code local
  HasFramed k s code own place me me' w w' local most made work looks (Refused lives) = Refuses told k own me me' w w' lives most

-- register work has come to where its frame is over
abbrev pub is_over : Reached → Bool
is_over (Before step) = false
is_over (AtEnd (ends.Next capsule)) = false
is_over (AtEnd ends.Finish) = true
is_over (AtEnd (ends.Trap trap line)) = false
is_over (AtEnd (ends.Call procedure capsule to)) = false
is_over (AtEnd (ends.Fork left right capsule left_to right_to)) = false

-- and a capsule has halted there
abbrev pub is_finish : Halt → Bool
is_finish halts.Done = false
is_finish halts.Broken = false
is_finish (halts.Midway number at) = false
is_finish (halts.Stopped number next what) = is_over what
is_finish (halts.Full number) = false

-- the end that register work has come to, and at which a capsule has halted
abbrev pub end_of : Reached → Option End
end_of (Before step) = None
end_of (AtEnd end) = Some end

abbrev pub end_in : Halt → Option End
end_in halts.Done = None
end_in halts.Broken = None
end_in (halts.Midway number at) = None
end_in (halts.Stopped number next what) = end_of what
end_in (halts.Full number) = None
