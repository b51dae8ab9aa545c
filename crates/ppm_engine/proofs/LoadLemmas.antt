-- The loads of the rows.
use Rattle.std.proofs.Common.{◌≡◌, ◌∙◌, ◌<◌, ◌≤◌, ◌⊎◌, inl, ℕ, Bool, true, false, Option, sym, refl, ap}
use Rattle.std.specs.Prelude.{nat_lt, nat_le, ◌&&◌}
use Rattle.std.proofs.lemmas.Bool.{ltb-true, leb-true}
use Rattle.ppm_cells.specs.Cells.{address}
use Rattle.ppm_cells.specs.Entry.{entry_of}
use Rattle.ppm_cells.specs.Finish.{finish_of, IsOutcome}
use Rattle.ppm_cells.specs.Link.{link_of}
use Rattle.ppm_cells.specs.declared.entry.Entry.{Entry}
use Rattle.ppm_cells.specs.declared.finish.Finish.{Finish}
use Rattle.ppm_cells.specs.declared.finish.Finish.TheVariants.{Unset, Ended, Trapped, OutOfTurns, OutOfRoom, Stopped, Broken as BrokenAt}
use Rattle.ppm_cells.specs.declared.link.Link.{Link}
use Rattle.ppm_cells.specs.declared.shape.Shape.{Shape}
use Rattle.ppm_code.specs.declared.code.CodeParts.{CodeParts}
use Rattle.ppm_step.specs.declared.content.Content.{Content}
use Rattle.ppm_step.specs.declared.content.Content.TheVariants.{AnEntry, ALink, AFinish, Unreadable}
use Rattle.ppm_step.specs.declared.content.Reading.{Reading}
use Rattle.ppm_step.specs.declared.content.Reading.TheVariants.{AsEntry, AsLink, AsFinish}
use Rattle.ppm_step.specs.declared.row.Seat.{Seat}
use Rattle.ppm_step.specs.declared.row.Point.{Point}
use Rattle.ppm_step.specs.declared.row.Point.TheVariants.{Header, BumpLink, PushOrder, PushAbove, PushBottom, UnwindLink, UnwindOutcome, Target, GivenValue, JoinOrder, JoinLink, JoinLeft, JoinRight, RightFrame, Offset, PopBelow, PopAgain, PopAbove, SeekHolder, SeekDead, SeekTop, SeekEntry, SeekClosed, StealMessage, TakenMessage, TakenEntry, ClosedRestart, ClosedLink, ClosedBottom, BidMessage, BidAgain, BidHolder}
use Rattle.ppm_step.specs.declared.row.Then.TheVariants.{Load, Broken}
use Rattle.ppm_step.specs.declared.row.Row.{Row}
use Rattle.ppm_step.specs.declared.row.Row.TheVariants.{Now}
use Rattle.ppm_step.specs.Contents.{content_of, read_so}
use Rattle.ppm_step.specs.Facts.{IsSeat}
use Rattle.ppm_step.specs.Points.{cell_at, reading_at}
use Rattle.ppm_step.specs.Rows.{found_at}
use Rattle.ppm_step.specs.Standings.{IsWithin, IsBroken, point_is_there, stands, stands_then, within_if}
use Rattle.ppm_step.specs.State.{seeks_holder}
use Rattle.ppm_step.specs.There.{is_there, kind_is_there}
use Rattle.ppm_step.specs.declared.ask.Want.TheVariants.{Loads}
use Rattle.ppm_engine.specs.declared.tally.Mark.TheVariants.{Plain}
use Rattle.ppm_engine.specs.Steps.{IsNext, IsOfWork}

-- no victim is due for a load of work, and its word is there if the cell is
pub not_due : (seat : Seat) (p : Point) → IsOfWork p → seeks_holder (IsWithin seat (Now (Load p))) ≡ false
not_due seat (Header a b) w = refl
not_due seat (BumpLink a) w = refl
not_due seat (PushOrder a) w = refl
not_due seat (PushAbove a) w = refl
not_due seat (PushBottom a) w = refl
not_due seat (UnwindLink a) w = refl
not_due seat (UnwindOutcome a b) w = refl
not_due seat (Target a b c d) w = refl
not_due seat (GivenValue a b c d e) w = refl
not_due seat (JoinOrder a b) w = refl
not_due seat (JoinLink a) w = refl
not_due seat (JoinLeft a b c) w = refl
not_due seat (JoinRight a b c d) w = refl
not_due seat (RightFrame a b c) w = refl
not_due seat (Offset a b) w = refl
not_due seat PopBelow w = refl
not_due seat (PopAgain a) w = refl
not_due seat (PopAbove a) w = refl
not_due seat SeekHolder w = absurd w
not_due seat (SeekDead a b) w = refl
not_due seat (SeekTop a) w = refl
not_due seat (SeekEntry a b) w = refl
not_due seat (SeekClosed a b c) w = refl
not_due seat (StealMessage a b) w = refl
not_due seat (TakenMessage a b c) w = refl
not_due seat (TakenEntry a b c d) w = refl
not_due seat (ClosedRestart a b c) w = refl
not_due seat (ClosedLink a) w = refl
not_due seat (ClosedBottom a b c) w = refl
not_due seat (BidMessage a b) w = refl
not_due seat (BidAgain a) w = refl
not_due seat (BidHolder a b) w = refl

pub point_there : (s : Shape) (seat : Seat) (p : Point) → IsOfWork p → point_is_there s seat p ≡ is_there s (cell_at seat 0 p)
point_there s seat (Header a b) w = refl
point_there s seat (BumpLink a) w = refl
point_there s seat (PushOrder a) w = refl
point_there s seat (PushAbove a) w = refl
point_there s seat (PushBottom a) w = refl
point_there s seat (UnwindLink a) w = refl
point_there s seat (UnwindOutcome a b) w = refl
point_there s seat (Target a b c d) w = refl
point_there s seat (GivenValue a b c d e) w = refl
point_there s seat (JoinOrder a b) w = refl
point_there s seat (JoinLink a) w = refl
point_there s seat (JoinLeft a b c) w = refl
point_there s seat (JoinRight a b c d) w = refl
point_there s seat (RightFrame a b c) w = refl
point_there s seat (Offset a b) w = refl
point_there s seat PopBelow w = refl
point_there s seat (PopAgain a) w = refl
point_there s seat (PopAbove a) w = refl
point_there s seat SeekHolder w = absurd w
point_there s seat (SeekDead a b) w = refl
point_there s seat (SeekTop a) w = refl
point_there s seat (SeekEntry a b) w = refl
point_there s seat (SeekClosed a b c) w = refl
point_there s seat (StealMessage a b) w = refl
point_there s seat (TakenMessage a b c) w = refl
point_there s seat (TakenEntry a b c d) w = refl
point_there s seat (ClosedRestart a b c) w = refl
point_there s seat (ClosedLink a) w = refl
point_there s seat (ClosedBottom a b c) w = refl
point_there s seat (BidMessage a b) w = refl
point_there s seat (BidAgain a) w = refl
point_there s seat (BidHolder a b) w = refl

-- it comes next
pub load_next : (s : Shape) (seat : Seat) (p : Point) (at : ℕ) → IsOfWork p → at ≡ address s (cell_at seat 0 p) → IsNext s seat (Now (Load p)) (Loads at) Plain
load_next s seat p at w e = (ap (λ (x : ℕ). Loads x) (sym e), not_due seat p w, inl tt, refl, refl)

-- what can't be read is broken
pub unreadable : (s : Shape) (seat : Seat) (p : Point) → found_at s seat 0 p Unreadable ≡ Now Broken
unreadable s seat (Header a b) = refl
unreadable s seat (BumpLink a) = refl
unreadable s seat (PushOrder a) = refl
unreadable s seat (PushAbove a) = refl
unreadable s seat (PushBottom a) = refl
unreadable s seat (UnwindLink a) = refl
unreadable s seat (UnwindOutcome a b) = refl
unreadable s seat (Target a b c d) = refl
unreadable s seat (GivenValue a b c d e) = refl
unreadable s seat (JoinOrder a b) = refl
unreadable s seat (JoinLink a) = refl
unreadable s seat (JoinLeft a b c) = refl
unreadable s seat (JoinRight a b c d) = refl
unreadable s seat (RightFrame a b c) = refl
unreadable s seat (Offset a b) = refl
unreadable s seat PopBelow = refl
unreadable s seat (PopAgain a) = refl
unreadable s seat (PopAbove a) = refl
unreadable s seat SeekHolder = refl
unreadable s seat (SeekDead a b) = refl
unreadable s seat (SeekTop a) = refl
unreadable s seat (SeekEntry a b) = refl
unreadable s seat (SeekClosed a b c) = refl
unreadable s seat (StealMessage a b) = refl
unreadable s seat (TakenMessage a b c) = refl
unreadable s seat (TakenEntry a b c d) = refl
unreadable s seat (ClosedRestart a b c) = refl
unreadable s seat (ClosedLink a) = refl
unreadable s seat (ClosedBottom a b c) = refl
unreadable s seat (BidMessage a b) = refl
unreadable s seat (BidAgain a) = refl
unreadable s seat (BidHolder a b) = refl

-- a finish that is no outcome is broken where an outcome is looked for

pub no_outcome : (s : Shape) (seat : Seat) (p : Point) (f : Finish) → IsOfWork p → reading_at p ≡ AsFinish → (IsOutcome f → ⊥)
    → found_at s seat 0 p (AFinish f) ≡ Now Broken
no_outcome s seat (UnwindOutcome a b) Unset w e h = refl
no_outcome s seat (UnwindOutcome a b) Ended w e h = absurd (h tt)
no_outcome s seat (UnwindOutcome a b) (Trapped t l) w e h = absurd (h tt)
no_outcome s seat (UnwindOutcome a b) (OutOfTurns n) w e h = refl
no_outcome s seat (UnwindOutcome a b) (OutOfRoom n) w e h = refl
no_outcome s seat (UnwindOutcome a b) Stopped w e h = refl
no_outcome s seat (UnwindOutcome a b) (BrokenAt n) w e h = refl
no_outcome s seat (JoinLeft a b c) Unset w e h = refl
no_outcome s seat (JoinLeft a b c) Ended w e h = absurd (h tt)
no_outcome s seat (JoinLeft a b c) (Trapped t l) w e h = absurd (h tt)
no_outcome s seat (JoinLeft a b c) (OutOfTurns n) w e h = refl
no_outcome s seat (JoinLeft a b c) (OutOfRoom n) w e h = refl
no_outcome s seat (JoinLeft a b c) Stopped w e h = refl
no_outcome s seat (JoinLeft a b c) (BrokenAt n) w e h = refl
no_outcome s seat (JoinRight a b c d) Unset w e h = refl
no_outcome s seat (JoinRight a b c d) Ended w e h = absurd (h tt)
no_outcome s seat (JoinRight a b c d) (Trapped t l) w e h = absurd (h tt)
no_outcome s seat (JoinRight a b c d) (OutOfTurns n) w e h = refl
no_outcome s seat (JoinRight a b c d) (OutOfRoom n) w e h = refl
no_outcome s seat (JoinRight a b c d) Stopped w e h = refl
no_outcome s seat (JoinRight a b c d) (BrokenAt n) w e h = refl
no_outcome s seat (Header a b) f w e h = absurd w
no_outcome s seat (BumpLink a) f w e h = cc
no_outcome s seat (PushOrder a) f w e h = cc
no_outcome s seat (PushAbove a) f w e h = cc
no_outcome s seat (PushBottom a) f w e h = cc
no_outcome s seat (UnwindLink a) f w e h = cc
no_outcome s seat (Target a b c d) f w e h = cc
no_outcome s seat (GivenValue a b c d g) f w e h = cc
no_outcome s seat (JoinOrder a b) f w e h = cc
no_outcome s seat (JoinLink a) f w e h = cc
no_outcome s seat (RightFrame a b c) f w e h = cc
no_outcome s seat (Offset a b) f w e h = cc
no_outcome s seat PopBelow f w e h = cc
no_outcome s seat (PopAgain a) f w e h = cc
no_outcome s seat (PopAbove a) f w e h = cc
no_outcome s seat SeekHolder f w e h = absurd w
no_outcome s seat (SeekDead a b) f w e h = absurd w
no_outcome s seat (SeekTop a) f w e h = absurd w
no_outcome s seat (SeekEntry a b) f w e h = absurd w
no_outcome s seat (SeekClosed a b c) f w e h = absurd w
no_outcome s seat (StealMessage a b) f w e h = absurd w
no_outcome s seat (TakenMessage a b c) f w e h = absurd w
no_outcome s seat (TakenEntry a b c d) f w e h = absurd w
no_outcome s seat (ClosedRestart a b c) f w e h = absurd w
no_outcome s seat (ClosedLink a) f w e h = absurd w
no_outcome s seat (ClosedBottom a b c) f w e h = absurd w
no_outcome s seat (BidMessage a b) f w e h = absurd w
no_outcome s seat (BidAgain a) f w e h = absurd w
no_outcome s seat (BidHolder a b) f w e h = absurd w

module _ (s : Shape) (code : CodeParts) (seat : Seat) (p : Point) where
  -- where the load stands, by whether its cell is there
  pub stands_if : (b : Bool) → IsOfWork p → b ≡ is_there s (cell_at seat 0 p) → stands_then s code seat (Load p) ≡ within_if seat (Now (Load p)) b
  stands_if b w e = ap (λ (x : Bool). within_if seat (Now (Load p)) x) (point_there s seat p w ∙ sym e)

  -- with what was read
  pub with_content : (word : ℕ) (reading : Reading) (content : Content) → reading_at p ≡ reading → content_of reading word ≡ content
      → stands s code seat (found_at s seat 0 p (content_of (reading_at p) word)) ≡ stands s code seat (found_at s seat 0 p content)
  with_content word reading content r e = ap (λ (x : Reading). stands s code seat (found_at s seat 0 p (content_of x word))) r
      ∙ ap (λ (x : Content). stands s code seat (found_at s seat 0 p x)) e

  pub unread : (word : ℕ) (reading : Reading) → reading_at p ≡ reading → content_of reading word ≡ Unreadable
      → stands s code seat (found_at s seat 0 p (content_of (reading_at p) word)) ≡ IsBroken seat.place
  unread word reading r e = with_content word reading Unreadable r e ∙ ap (λ (x : Row). stands s code seat x) (unreadable s seat p)

-- by what was unpacked
pub an_entry : (word : ℕ) (o : Option Entry) → o ≡ entry_of word → content_of AsEntry word ≡ read_so AnEntry o
an_entry word o e = ap (λ (x : Option Entry). read_so AnEntry x) (sym e)

pub a_link : (word : ℕ) (o : Option Link) → o ≡ link_of word → content_of AsLink word ≡ read_so ALink o
a_link word o e = ap (λ (x : Option Link). read_so ALink x) (sym e)

pub a_finish : (word : ℕ) (o : Option Finish) → o ≡ finish_of word → content_of AsFinish word ≡ read_so AFinish o
a_finish word o e = ap (λ (x : Option Finish). read_so AFinish x) (sym e)

both : (a b : Bool) → (a && b) ≡ true → (a ≡ true) × (b ≡ true)
both true b h = (refl, h)
both false b h = cc

-- a bottom is a slot, and not the first
pub bottom_above : (s : Shape) (seat : Seat) → IsSeat s seat → 1 ≤ seat.restart.bottom
bottom_above s seat is =
    let b = both (nat_le 1 seat.restart.bottom && nat_lt seat.restart.bottom s.slots) (kind_is_there s seat.restart.kind) is.is_there in
    leb-true 1 seat.restart.bottom (both (nat_le 1 seat.restart.bottom) (nat_lt seat.restart.bottom s.slots) b.0).0

pub bottom_below : (s : Shape) (seat : Seat) → IsSeat s seat → seat.restart.bottom < s.slots
bottom_below s seat is =
    let b = both (nat_le 1 seat.restart.bottom && nat_lt seat.restart.bottom s.slots) (kind_is_there s seat.restart.kind) is.is_there in
    ltb-true seat.restart.bottom s.slots (both (nat_le 1 seat.restart.bottom) (nat_lt seat.restart.bottom s.slots) b.0).1
