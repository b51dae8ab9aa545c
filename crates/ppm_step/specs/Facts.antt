-- What always holds of where a processor stands: its numbers fit the words, and what it asks next is there.
use Rattle.std.specs.Prelude.{◌≡◌, ℕ, ◌+◌, ◌^◌, ◌<◌, true, IfSome}
use Rattle.ppm_cells.specs.Entry.{IsEntry}
use Rattle.ppm_cells.specs.Fields.{Fit}
use Rattle.ppm_cells.specs.Finish.{IsFinish}
use Rattle.ppm_cells.specs.Holder.{IsHolder}
use Rattle.ppm_cells.specs.Link.{link_address}
use Rattle.ppm_cells.specs.Restart.{IsRestart}
use Rattle.ppm_cells.specs.declared.shape.Shape.{Shape}
use Rattle.ppm_code.specs.Code.{IsLine}
use Rattle.ppm_code.specs.declared.act.End.{End}
use Rattle.ppm_code.specs.declared.act.End.TheVariants.{Trap}
use Rattle.ppm_step.specs.declared.frame.Home.{Home}
use Rattle.ppm_step.specs.declared.row.Seat.{Seat}
use Rattle.ppm_step.specs.declared.row.Point.{Point}
use Rattle.ppm_step.specs.declared.row.Point.TheVariants.{Header, BumpLink, PushOrder, PushAbove, PushBottom, UnwindLink, UnwindOutcome, Target, GivenValue}
use Rattle.ppm_step.specs.declared.row.Point.TheVariants.{JoinOrder, JoinLink, JoinLeft, JoinRight, RightFrame, Offset, PopBelow, PopAgain, PopAbove}
use Rattle.ppm_step.specs.declared.row.Point.TheVariants.{SeekHolder, SeekDead, SeekTop, SeekEntry, SeekClosed, StealMessage, TakenMessage, TakenEntry}
use Rattle.ppm_step.specs.declared.row.Point.TheVariants.{ClosedRestart, ClosedLink, ClosedBottom, BidMessage, BidAgain, BidHolder}
use Rattle.ppm_step.specs.declared.row.Then.{Then}
use Rattle.ppm_step.specs.declared.row.Then.TheVariants.{Load}
use Rattle.ppm_step.specs.declared.row.Row.{Row}
use Rattle.ppm_step.specs.declared.row.Row.TheVariants.{Now, Store, Exchange}
use Rattle.ppm_step.specs.Contents.{IsContent}
use Rattle.ppm_step.specs.There.{restart_is_there}

-- an address that fits a link or a restart word
abbrev pub IsAddress : ℕ → Type 0
IsAddress address = address < 2 ^ 28

-- a frame of a block
abbrev pub IsFrame : ℕ → Type 0
IsFrame frame = frame < 2 ^ 28 + 8

-- what a load keeps fits
abbrev pub IsPoint : Point → Type 0
IsPoint (Header frame copy) = IsAddress frame × (copy < 2)
IsPoint (BumpLink block) = IsAddress block
IsPoint (PushOrder block) = IsAddress block
IsPoint (PushAbove block) = IsAddress block
IsPoint (PushBottom block) = IsAddress block
IsPoint (UnwindLink frame) = IsAddress frame
IsPoint (UnwindOutcome frame link) = IsAddress frame × Fit (link_address link)
IsPoint (Target frame to copy right_of) = IsFrame frame × IsAddress to × IfSome right_of IsAddress
IsPoint (GivenValue frame to copy target right_of) = IsFrame frame × IsAddress to × IfSome right_of IsAddress
IsPoint (JoinOrder block side) = IsAddress block
IsPoint (JoinLink block) = IsAddress block
IsPoint (JoinLeft block to copy) = IsAddress block × IsAddress to
IsPoint (JoinRight block to copy left) = IsAddress block × IsAddress to × IsFinish left
IsPoint (RightFrame block to copy) = IsAddress block × IsAddress to
IsPoint (Offset block bottom) = IsAddress block
IsPoint PopBelow = Unit {0}
IsPoint (PopAgain block) = IsAddress block
IsPoint (PopAbove block) = IsAddress block
IsPoint SeekHolder = Unit {0}
IsPoint (SeekDead victim holder) = IsHolder holder
IsPoint (SeekTop victim) = Unit {0}
IsPoint (SeekEntry victim slot) = Unit {0}
IsPoint (SeekClosed victim slot entry) = IsEntry entry
IsPoint (StealMessage victim slot) = Unit {0}
IsPoint (TakenMessage by victim slot) = (by < 64) × (victim < 64) × (slot < 65536)
IsPoint (TakenEntry by victim slot message) = (by < 64) × (victim < 64) × (slot < 65536) × IsEntry message
IsPoint (ClosedRestart victim slot block) = (victim < 64) × (slot < 65536) × IsAddress block
IsPoint (ClosedLink block) = IsAddress block
IsPoint (ClosedBottom victim slot block) = IsAddress block
IsPoint (BidMessage victim dead) = dead < 64
IsPoint (BidAgain victim) = Unit {0}
IsPoint (BidHolder victim message) = Unit {0}

-- and what follows
abbrev pub IsThen : Then → Type 0
IsThen (Load point) = IsPoint point
IsThen _ = Unit {0}

-- what a row stores fits its word
abbrev pub IsRow : Row → Type 0
IsRow (Now next) = IsThen next
IsRow (Store cell content next) = IsContent content × IsThen next
IsRow (Exchange cell old new next) = IsContent old × IsContent new × IsThen next

-- a frame, a copy and a block
pub record IsHome (home : Home) : Type 0 where
  pub frame : IsAddress home.frame
  pub copy : home.copy < 2
  pub block : IsAddress home.block

-- a trap at the end of a capsule has its line in the source
abbrev pub IsEnd : End → Type 0
IsEnd (Trap trap line) = IsLine line
IsEnd _ = Unit {0}

-- a processor, its place, and a restart word that names what is there
pub record IsSeat (s : Shape) (seat : Seat) : Type 0 where
  pub own : seat.own < s.processors
  pub place : seat.place < s.processors
  pub restart : IsRestart seat.restart
  pub is_there : restart_is_there s seat.restart ≡ true
