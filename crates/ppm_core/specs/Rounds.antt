-- Rounds of a frame: one processor goes through a capsule, and on to the next one.
use Rattle.std.specs.Prelude.{◌≡◌, ◌≤◌, ℕ, Bool, true, false, List, Option, Some, None, slice_get}
use Rattle.ppm_cells.specs.Memory.{read, write}
use Rattle.ppm_cells.specs.declared.cell.Cell.{Cell}
use Rattle.ppm_cells.specs.declared.restart.RestartKind.TheVariants.{Run}
use Rattle.ppm_cells.specs.declared.shape.Shape.{Shape}
use Rattle.ppm_code.specs.Capsules.{reached}
use Rattle.ppm_code.specs.declared.act.End.TheVariants.{Next}
use Rattle.ppm_code.specs.declared.code.Capsule.{Capsule as Coded}
use Rattle.ppm_code.specs.declared.code.CodeParts.{CodeParts}
use Rattle.ppm_code.specs.declared.instr.Instr.{Instr}
use Rattle.ppm_step.specs.declared.frame.Home.{Home}
use Rattle.ppm_step.specs.declared.row.Seat.{Seat}
use Rattle.ppm_step.specs.Facts.{IsHome, IsSeat}
use Rattle.ppm_step.specs.Frames.{ending}
use Rattle.ppm_step.specs.Standings.{Standing, IsAt, IsBroken, enters, running}
use Rattle.ppm_step.specs.There.{is_there}
use Rattle.ppm_engine.specs.Waiting.{HasReached, goes_round, stands_before, stands_in}
use Rattle.ppm_core.specs.declared.capsule.Turned.{Turned}
use Rattle.ppm_core.specs.declared.capsule.Turned.TheVariants as turned
use Rattle.ppm_core.specs.declared.capsule.Stretch.{Stretch}
use Rattle.ppm_core.specs.declared.capsule.Way.{Way}
use Rattle.ppm_core.specs.declared.capsule.Way.TheVariants.{Made, Stops, Breaks}
use Rattle.ppm_core.specs.declared.frames.NextCapsule.{NextCapsule}
use Rattle.ppm_core.specs.declared.frames.RoundEnd.{RoundEnd}
use Rattle.ppm_core.specs.declared.frames.RoundEnd.TheVariants.{Round, Halts}
use Rattle.ppm_core.specs.Moments.{moment, NoFurther, StepsTo}

-- the word of a cell was found, or the cell isn't there
abbrev pub HasFound : Shape → (words : List ℕ) → Cell → Option ℕ → Type 0
HasFound s words cell None = is_there s cell ≡ false
HasFound s words cell (Some found) = (is_there s cell ≡ true) × (found ≡ read s words cell)

-- a word was stored in a cell, or the cell isn't there
abbrev pub HasPut : Shape → (words words' : List ℕ) → Cell → (word : ℕ) → Bool → Type 0
HasPut s words words' cell word true = (is_there s cell ≡ true) × (words' ≡ write s words cell word)
HasPut s words words' cell word false = (is_there s cell ≡ false) × (words' ≡ words)

-- 1 if the way is a step, else 0
abbrev pub steps_by : Way → ℕ
steps_by (Made next) = 1
steps_by (Stops next what) = 0
steps_by Breaks = 0

module _ (s : Shape) (code : CodeParts) (seat : Seat) (home : Home) where
  -- where a capsule goes on this way
  abbrev pub stands_behind : List Instr → List ℕ → Way → Standing
  stands_behind instrs registers (Made next) = stands_before s code seat home instrs next registers
  stands_behind instrs registers (Stops next what) = stands_in s code seat home (reached s.arrays instrs next what registers)
  stands_behind instrs registers Breaks = IsBroken seat.place

  -- where it stops, register work has come there
  abbrev pub HasStopped : List Instr → List ℕ → Way → Type 0
  HasStopped instrs registers (Made next) = Unit {0}
  HasStopped instrs registers (Stops next what) = HasReached s instrs next what registers
  HasStopped instrs registers Breaks = Unit {0}

  -- so many steps led this way from an instruction
  pub record LedTo (instrs : List Instr) (from : ℕ) (registers registers' words words' : List ℕ) (made : ℕ) (way : Way) : Type 0 where
    pub steps : StepsTo s code seat.own made made (moment words (stands_before s code seat home instrs from registers)) (moment words' (stands_behind instrs registers' way))
    pub stopped : HasStopped instrs registers' way

  -- what came of the stores with which a frame goes round
  abbrev pub TurnedTo : (capsule : ℕ) (words words' : List ℕ) → Turned → Type 0
  TurnedTo capsule words words' (turned.Breaks made) =
      (made ≤ 1) × StepsTo s code seat.own made made (moment words (running s seat (ending code home (Next capsule) 0))) (moment words' (IsBroken seat.place))
  TurnedTo capsule words words' turned.Round =
      StepsTo s code seat.own 2 2 (moment words (running s seat (ending code home (Next capsule) 0))) (moment words' (IsAt seat.place (Some (goes_round seat home))))

module _ (s : Shape) (code : CodeParts) (seat : Seat) where
  -- a seat's frame enters the capsule with a number
  abbrev pub stands_at : NextCapsule → Standing
  stands_at coming = enters s code seat (Run coming.home.frame coming.home.copy) (slice_get code.capsules coming.number)

  -- the seat's frame, and two steps that lead to its capsule while the finish word is 0
  pub record IsComing (words : List ℕ) (coming : NextCapsule) : Type 0 where
    pub seat_is : IsSeat s seat
    pub home : IsHome coming.home
    pub block : coming.home.block ≡ 0
    pub kind : seat.restart.kind ≡ Run coming.home.frame coming.home.copy
    pub steps : StepsTo s code seat.own 2 1 (moment words (IsAt seat.place (Some seat.restart))) (moment words (stands_at coming))

  -- or no capsule is entered, however many steps are left
  abbrev pub HasBegun : List ℕ → Option NextCapsule → Type 0
  HasBegun words None = (left : ℕ) → NoFurther s code seat.own left (moment words (IsAt seat.place (Some seat.restart)))
  HasBegun words (Some coming) = IsComing words coming

  -- there is no capsule with this number, and the place has met broken words; or it was gone through so far
  abbrev pub WentAlong : NextCapsule → (registers' words words' : List ℕ) → Option Stretch → Type 0
  WentAlong coming registers' words words' None = (words' ≡ words) × (stands_at coming ≡ IsBroken seat.place)
  WentAlong coming registers' words words' (Some stretch) =
      (capsule : Coded) × (slice_get code.capsules coming.number ≡ Some capsule) × (registers : List ℕ)
      × (stands_at coming ≡ stands_before s code seat coming.home capsule.instrs 0 registers)
      × LedTo s code seat coming.home capsule.instrs 0 registers registers' words words' stretch.made stretch.way

  -- where a processor stands whose round ended in its capsule
  abbrev pub HaltsAt : NextCapsule → List ℕ → Way → Standing → Type 0
  HaltsAt coming registers (Made at) standing =
      (capsule : Coded) × (slice_get code.capsules coming.number ≡ Some capsule) × (standing ≡ stands_before s code seat coming.home capsule.instrs at registers)
  HaltsAt coming registers (Stops next what) standing =
      (capsule : Coded) × (slice_get code.capsules coming.number ≡ Some capsule)
      × (HasReached s capsule.instrs next what registers × (standing ≡ stands_in s code seat coming.home (reached s.arrays capsule.instrs next what registers)))
  HaltsAt coming registers Breaks standing = standing ≡ IsBroken seat.place

  -- what came of a round of so many steps
  abbrev pub Circled : NextCapsule → (registers' words words' : List ℕ) → (made : ℕ) → RoundEnd → Type 0
  Circled coming registers' words words' made Round =
      StepsTo s code seat.own made made (moment words (stands_at coming)) (moment words' (IsAt seat.place (Some (goes_round seat coming.home))))
  Circled coming registers' words words' made (Halts way) =
      (standing : Standing) × HaltsAt coming registers' way standing × StepsTo s code seat.own made made (moment words (stands_at coming)) (moment words' standing)
