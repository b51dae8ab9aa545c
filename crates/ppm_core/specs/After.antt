-- Capsules of a frame, with the block that one asks for and the stores of its end.
use Rattle.std.specs.Prelude.{◌≡◌, ℕ, List, Option, Some, None}
use Rattle.ppm_cells.specs.Cells.{pool_at}
use Rattle.ppm_cells.specs.Memory.{read}
use Rattle.ppm_cells.specs.Restart.{IsRestart}
use Rattle.ppm_cells.specs.declared.cell.Cell.TheVariants.{FinishWord, RoomCounter}
use Rattle.ppm_cells.specs.declared.shape.Shape.{Shape}
use Rattle.ppm_code.specs.declared.act.End.{End}
use Rattle.ppm_code.specs.declared.act.Step.TheVariants.{Loads, Stores, Asks}
use Rattle.ppm_code.specs.declared.code.CodeParts.{CodeParts}
use Rattle.ppm_code.specs.declared.work.Reached.TheVariants.{Before, AtEnd}
use Rattle.ppm_step.specs.declared.local.Local.{Local}
use Rattle.ppm_step.specs.Facts.{IsAddress}
use Rattle.ppm_step.specs.Frames.{Rest, asks}
use Rattle.ppm_step.specs.Locals.{IsLocal, standing_of}
use Rattle.ppm_step.specs.Standings.{Standing, IsAt}
use Rattle.ppm_core.specs.declared.after.Asked.{Asked}
use Rattle.ppm_core.specs.declared.capsule.Way.{Way}
use Rattle.ppm_core.specs.declared.capsule.Way.TheVariants.{Made, Stops, Breaks}
use Rattle.ppm_core.specs.declared.frames.FrameEnd.{FrameEnd}
use Rattle.ppm_core.specs.declared.frames.FrameEnd.TheVariants.{Installed, Stands}
use Rattle.ppm_core.specs.declared.frames.Framed.{Framed}
use Rattle.ppm_core.specs.Moments.{Moment, moment, StepsTo}

-- the end at which a capsule has halted
abbrev pub end_in : Way → Option End
end_in (Made at) = None
end_in (Stops next (Before step)) = None
end_in (Stops next (AtEnd end)) = Some end
end_in Breaks = None

-- the words for which a capsule asks that has halted there
abbrev pub ask_in : Way → Option Asked
ask_in (Made at) = None
ask_in (Stops next (Before (Loads location to))) = None
ask_in (Stops next (Before (Stores location word))) = None
ask_in (Stops next (Before (Asks words))) = Some (record { next = next; words = words })
ask_in (Stops next (AtEnd end)) = None
ask_in Breaks = None

-- the run goes on, and by its room counter the pool of a place has so many words, which lie there
pub record HasRoom (s : Shape) (place : ℕ) (words : List ℕ) (asked block : ℕ) : Type 0 where
  pub finish : read s words FinishWord ≡ 0
  pub address : IsAddress block
  pub goes : (go : ℕ → Rest)
      → asks (pool_at s place) s.room (read s words (RoomCounter place)) asked (go (read s words (RoomCounter place))) ≡ go block

module _ (s : Shape) (code : CodeParts) where
  -- where a processor stands after capsules of a frame
  abbrev pub stands_framed : (place : ℕ) → Local → FrameEnd → Standing
  stands_framed place local (Installed restart) = IsAt place (Some restart)
  stands_framed place local Stands = standing_of s code local

  -- what holds of it there
  abbrev pub HoldsFramed : Local → FrameEnd → Type 0
  HoldsFramed local (Installed restart) = IsRestart restart
  HoldsFramed local Stands = IsLocal s code local

  -- what came of capsules of a frame from a moment on
  pub record HasFramed (own place : ℕ) (first : Moment) (words' : List ℕ) (local : Local) (framed : Framed) : Type 0 where
    pub steps : StepsTo s code own framed.made framed.work first (moment words' (stands_framed place local framed.end))
    pub holds : HoldsFramed local framed.end
