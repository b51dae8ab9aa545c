-- Of the marks of a turn, which are forks and takes: those of its row.
use Rattle.std.proofs.Common.{◌≡◌, ℕ, zero, suc, ◌+◌, nat_lt, Bool, true, false, if◌then◌else◌, List, [], ◌∷◌, length, refl}
use Rattle.ppm_cells.specs.Entry.{entry_of}
use Rattle.ppm_cells.specs.Memory.{read}
use Rattle.ppm_cells.specs.declared.cell.Cell.{Cell}
use Rattle.ppm_cells.specs.declared.cell.Cell.TheVariants.{FinishWord, CarryWord, DeadWord, RestartWord, MessageWord}
use Rattle.ppm_cells.specs.declared.cell.Cell.TheVariants.{HolderWord, Top, RoomCounter, EntryWord, BlockWord, ArrayWord}
use Rattle.ppm_cells.specs.declared.entry.Entry.TheVariants as entry
use Rattle.ppm_cells.specs.declared.restart.RestartKind.{RestartKind}
use Rattle.ppm_cells.specs.declared.restart.RestartKind.TheVariants as kind
use Rattle.ppm_cells.specs.declared.shape.Shape.{Shape}
use Rattle.ppm_code.specs.declared.code.CodeParts.{CodeParts}
use Rattle.ppm_lines.specs.Marks.{act_marks, bid_marks, cell_marks, check_marks, checked, exchange_marks, going_on, has, is_local, join_marks, joined}
use Rattle.ppm_lines.specs.Marks.{learns, marked_if, marks_at, plain_marks, rest_marks, row_marks, step_marks, then_marks, tries}
use Rattle.ppm_lines.specs.declared.mark.Mark.{Mark}
use Rattle.ppm_lines.specs.declared.mark.Mark.TheVariants as mark
use Rattle.ppm_step.specs.Contents.{word_of}
use Rattle.ppm_step.specs.Frames.{Rest, Loads, Stores, Full, Installs, Breaks}
use Rattle.ppm_step.specs.Standings.{Standing, IsLost, IsPlaced, IsAt, IsWithin, IsRunning, IsBroken, IsDone}
use Rattle.ppm_step.specs.State.{step_by, row_by, fork_row, take_row}
use Rattle.ppm_step.specs.declared.content.Content.{Content}
use Rattle.ppm_step.specs.declared.content.Content.TheVariants.{ANumber, ARestart, AnEntry, AHolder, ALink, AFinish, Unreadable}
use Rattle.ppm_step.specs.declared.row.Row.{Row}
use Rattle.ppm_step.specs.declared.row.Row.TheVariants.{Now, Store, Exchange}
use Rattle.ppm_step.specs.declared.row.Seat.{Seat}
use Rattle.ppm_step.specs.declared.row.Then.{Then}
use Rattle.ppm_step.specs.declared.row.Then.TheVariants.{Load, Install, Fork, Begin, Move, Enter, Again, Broken}
use Rattle.ppm_step.specs.declared.turn.Act.{Act}
use Rattle.ppm_step.specs.declared.turn.Act.TheVariants.{Step, Soft, Hard, Quit}

-- so many forks and takes
pub record Both : Type 0 where
  pub forks : ℕ
  pub takes : ℕ

abbrev pub none : Both
none = record { forks = 0; takes = 0 }

abbrev pub of_mark : Mark → Both
of_mark mark.Fork = record { forks = 1; takes = 0 }
of_mark mark.Take = record { forks = 0; takes = 1 }
of_mark _ = none

abbrev pub of_marks : List Mark → Both
of_marks [] = none
of_marks (m ∷ ms) = record { forks = (of_mark m).forks + (of_marks ms).forks; takes = (of_mark m).takes + (of_marks ms).takes }

-- those of a row, and of an act
abbrev of_row : Row → Both
of_row row = record { forks = length (fork_row row); takes = length (take_row row) }

abbrev pub of_act : Act → Standing → Both
of_act act standing = record { forks = length (step_by (row_by fork_row) act standing); takes = length (step_by (row_by take_row) act standing) }

plain : (next : Then) → of_marks (plain_marks next) ≡ of_row (Now next)
plain (Load point) = refl
plain (Install restart) = refl
plain (Fork block) = refl
plain (Begin block frame bottom) = refl
plain (Move place) = refl
plain (Enter capsule) = refl
plain Again = refl
plain Broken = refl

going : (heir : Bool) → of_marks (going_on heir ∷ []) ≡ none
going true = refl
going false = refl

check_none : (heir : Bool) (k : RestartKind) → of_marks (checked (going_on heir) k ∷ []) ≡ none
check_none heir (kind.Run frame copy) = going heir
check_none heir (kind.Bump block) = going heir
check_none heir (kind.Push1 block) = going heir
check_none heir (kind.Push2 block) = going heir
check_none heir (kind.Unwind frame) = going heir
check_none heir (kind.Arrive block side) = going heir
check_none heir (kind.Join block side) = going heir
check_none heir kind.Pop1 = going heir
check_none heir (kind.Pop2 block) = going heir
check_none heir kind.Seek = refl
check_none heir (kind.Steal victim slot) = going heir
check_none heir (kind.Check victim slot) = going heir
check_none heir (kind.Take victim dead) = going heir
check_none heir (kind.Take2 victim) = going heir

check : (heir : Bool) (next : Then) → of_marks (check_marks (going_on heir) next) ≡ of_row (Now next)
check heir (Load point) = refl
check heir (Install restart) = check_none heir restart.kind
check true (Fork block) = refl
check false (Fork block) = refl
check true (Begin block frame bottom) = refl
check false (Begin block frame bottom) = refl
check heir (Move place) = refl
check heir (Enter capsule) = refl
check heir Again = refl
check heir Broken = refl

join_none : (k : RestartKind) → of_marks (joined k ∷ []) ≡ none
join_none (kind.Run frame copy) = refl
join_none (kind.Bump block) = refl
join_none (kind.Push1 block) = refl
join_none (kind.Push2 block) = refl
join_none (kind.Unwind frame) = refl
join_none (kind.Arrive block side) = refl
join_none (kind.Join block side) = refl
join_none kind.Pop1 = refl
join_none (kind.Pop2 block) = refl
join_none kind.Seek = refl
join_none (kind.Steal victim slot) = refl
join_none (kind.Check victim slot) = refl
join_none (kind.Take victim dead) = refl
join_none (kind.Take2 victim) = refl

join : (next : Then) → of_marks (join_marks next) ≡ of_row (Now next)
join (Load point) = refl
join (Install restart) = join_none restart.kind
join (Fork block) = refl
join (Begin block frame bottom) = refl
join (Move place) = refl
join (Enter capsule) = refl
join Again = refl
join Broken = refl

bid : (next : Then) → of_marks (bid_marks next) ≡ of_row (Now next)
bid (Load point) = refl
bid (Install restart) = refl
bid (Fork block) = refl
bid (Begin block frame bottom) = refl
bid (Move place) = refl
bid (Enter capsule) = refl
bid Again = refl
bid Broken = refl

by_kind : (heir : Bool) (k : RestartKind) (next : Then) → of_marks (then_marks (going_on heir) k next) ≡ of_row (Now next)
by_kind heir (kind.Run frame copy) next = plain next
by_kind heir (kind.Bump block) next = plain next
by_kind heir (kind.Push1 block) next = plain next
by_kind heir (kind.Push2 block) next = plain next
by_kind heir (kind.Unwind frame) next = plain next
by_kind heir (kind.Arrive block side) next = plain next
by_kind heir (kind.Join block side) next = join next
by_kind heir kind.Pop1 next = plain next
by_kind heir (kind.Pop2 block) next = plain next
by_kind heir kind.Seek next = plain next
by_kind heir (kind.Steal victim slot) next = plain next
by_kind heir (kind.Check victim slot) next = check heir next
by_kind heir (kind.Take victim dead) next = plain next
by_kind heir (kind.Take2 victim) next = bid next

-- exchanges are none
tried : (low : Bool) → of_marks ((if low then mark.Try else mark.Inherit) ∷ []) ≡ none
tried true = refl
tried false = refl

try_none : (proposed : Content) → of_marks (tries proposed ∷ []) ≡ none
try_none (ANumber number) = refl
try_none (ARestart restart) = refl
try_none (AnEntry (entry.Empty tag)) = refl
try_none (AnEntry (entry.Local tag block)) = refl
try_none (AnEntry (entry.Job tag block)) = refl
try_none (AnEntry (entry.Taken tag taker)) = tried (nat_lt taker 64)
try_none (AHolder holder) = refl
try_none (ALink link) = refl
try_none (AFinish finish) = refl
try_none Unreadable = refl

push_none : (made : Bool) → of_marks (marked_if mark.Push made) ≡ none
push_none true = refl
push_none false = refl

pop_none : (made : Bool) → of_marks (marked_if mark.Pop made) ≡ none
pop_none true = refl
pop_none false = refl

end_none : (made : Bool) → of_marks (marked_if mark.End made) ≡ none
end_none true = refl
end_none false = refl

exchange_none : (k : RestartKind) (proposed : Content) (made : Bool) → of_marks (exchange_marks k proposed made) ≡ none
exchange_none (kind.Run frame copy) proposed made = refl
exchange_none (kind.Bump block) proposed made = refl
exchange_none (kind.Push1 block) proposed made = refl
exchange_none (kind.Push2 block) proposed made = push_none made
exchange_none (kind.Unwind frame) proposed made = refl
exchange_none (kind.Arrive block side) proposed made = refl
exchange_none (kind.Join block side) proposed made = refl
exchange_none kind.Pop1 proposed made = pop_none made
exchange_none (kind.Pop2 block) proposed made = refl
exchange_none kind.Seek proposed made = refl
exchange_none (kind.Steal victim slot) proposed made = try_none proposed
exchange_none (kind.Check victim slot) proposed made = refl
exchange_none (kind.Take victim dead) proposed made = refl
exchange_none (kind.Take2 victim) proposed made = refl

cell_none : (k : RestartKind) (cell : Cell) (proposed : Content) (made : Bool) → of_marks (cell_marks k cell proposed made) ≡ none
cell_none k FinishWord proposed made = end_none made
cell_none k (CarryWord processor) proposed made = exchange_none k proposed made
cell_none k (DeadWord processor) proposed made = exchange_none k proposed made
cell_none k (RestartWord place) proposed made = exchange_none k proposed made
cell_none k (MessageWord place) proposed made = exchange_none k proposed made
cell_none k (HolderWord place) proposed made = exchange_none k proposed made
cell_none k (Top place) proposed made = exchange_none k proposed made
cell_none k (RoomCounter place) proposed made = exchange_none k proposed made
cell_none k (EntryWord place slot) proposed made = exchange_none k proposed made
cell_none k (BlockWord at) proposed made = exchange_none k proposed made
cell_none k (ArrayWord index) proposed made = exchange_none k proposed made

learn_none : (finish : ℕ) → of_marks (learns finish) ≡ none
learn_none zero = refl
learn_none (suc finish) = refl

module _ (s : Shape) (code : CodeParts) (words : List ℕ) where
  row_both : (seat : Seat) (row : Row) → of_marks (row_marks s code words seat row) ≡ of_row row
  row_both seat (Now next) = by_kind (is_local (entry_of (read s words (MessageWord seat.place)))) seat.restart.kind next
  row_both seat (Store cell content next) = refl
  row_both seat (Exchange cell old new next) = cell_none seat.restart.kind cell new (has s code words cell (word_of old))

  rest_none : (rest : Rest) → of_marks (rest_marks s code words rest) ≡ none
  rest_none (Loads cell go) = refl
  rest_none (Stores cell content rest) = refl
  rest_none Full = end_none (has s code words FinishWord 0)
  rest_none (Installs into) = refl
  rest_none Breaks = refl

  step_both : (victim : ℕ) (standing : Standing) → of_marks (step_marks s code words standing) ≡ of_act (Step victim) standing
  step_both victim IsLost = refl
  step_both victim (IsPlaced place) = refl
  step_both victim (IsAt place restart) = learn_none (read s words FinishWord)
  step_both victim (IsWithin seat row) = row_both seat row
  step_both victim (IsRunning seat rest) = rest_none rest
  step_both victim (IsBroken place) = end_none (has s code words FinishWord 0)
  step_both victim IsDone = refl

  act_both : (act : Act) (standing : Standing) → of_marks (act_marks s code words act standing) ≡ of_act act standing
  act_both (Step victim) standing = step_both victim standing
  act_both Soft standing = refl
  act_both Hard standing = refl
  act_both (Quit why) standing = end_none (has s code words FinishWord 0)

  done_both : (act : Act) → none ≡ of_act act IsDone
  done_both (Step victim) = refl
  done_both Soft = refl
  done_both Hard = refl
  done_both (Quit why) = refl

  pub marks_both : (act : Act) (standing : Standing) → of_marks (marks_at s code words act standing) ≡ of_act act standing
  marks_both act IsLost = act_both act IsLost
  marks_both act (IsPlaced place) = act_both act (IsPlaced place)
  marks_both act (IsAt place restart) = act_both act (IsAt place restart)
  marks_both act (IsWithin seat row) = act_both act (IsWithin seat row)
  marks_both act (IsRunning seat rest) = act_both act (IsRunning seat rest)
  marks_both act (IsBroken place) = act_both act (IsBroken place)
  marks_both act IsDone = done_both act
