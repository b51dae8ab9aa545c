-- The loads by which a place looks for a job.
use Rattle.std.specs.Prelude.{◌≡◌, ℕ, true, false}
use Rattle.ppm_cells.specs.declared.shape.Shape.{Shape}
use Rattle.ppm_step.specs.Contents.{content_of}
use Rattle.ppm_step.specs.Facts.{IsPoint}
use Rattle.ppm_step.specs.Points.{reading_at}
use Rattle.ppm_step.specs.Rows.{found_at}
use Rattle.ppm_step.specs.Standings.{IsWithin, point_is_there}
use Rattle.ppm_step.specs.State.{seeks_holder}
use Rattle.ppm_step.specs.declared.row.Point.{Point}
use Rattle.ppm_step.specs.declared.row.Point.TheVariants.{SeekDead, SeekTop, SeekEntry}
use Rattle.ppm_step.specs.declared.row.Row.{Row}
use Rattle.ppm_step.specs.declared.row.Row.TheVariants.{Now}
use Rattle.ppm_step.specs.declared.row.Seat.{Seat}
use Rattle.ppm_step.specs.declared.row.Then.TheVariants.{Load}

-- a load of the row Seek after that of the holder: of a dead word, a top or an entry
abbrev pub IsLook : Point → Type 0
IsLook (SeekDead victim holder) = Unit {0}
IsLook (SeekTop victim) = Unit {0}
IsLook (SeekEntry victim slot) = Unit {0}
IsLook _ = ⊥

-- it is one whose numbers fit and whose word is there, and for which no victim is due
pub record IsLooking (s : Shape) (seat : Seat) (point : Point) : Type 0 where
  pub is : IsLook point
  pub due : seeks_holder (IsWithin seat (Now (Load point))) ≡ false
  pub fits : IsPoint point
  pub there : point_is_there s seat point ≡ true

-- how a row goes on whose load has found this word
abbrev pub row_after : Shape → Seat → Point → (word : ℕ) → Row
row_after s seat point word = found_at s seat 0 point (content_of (reading_at point) word)

-- it goes on with another such load
abbrev pub LooksOn : Shape → Seat → (before : Row) → Point → Type 0
LooksOn s seat before next = IsLooking s seat next × (before ≡ Now (Load next))
