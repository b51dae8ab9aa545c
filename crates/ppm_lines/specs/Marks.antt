-- The marks of a turn, by where its processor stands before it: a table by the kind of the row and what the row does next.
use Rattle.std.specs.Prelude.{ℕ, zero, suc, ◌==◌, nat_lt, if◌then◌else◌, Bool, true, false, List, [], ◌∷◌, ◌++◌, Option, Some, None}
use Rattle.ppm_cells.specs.Entry.{entry_of}
use Rattle.ppm_cells.specs.Memory.{read}
use Rattle.ppm_cells.specs.declared.cell.Cell.{Cell}
use Rattle.ppm_cells.specs.declared.cell.Cell.TheVariants.{FinishWord, MessageWord}
use Rattle.ppm_cells.specs.declared.entry.Entry.{Entry}
use Rattle.ppm_cells.specs.declared.entry.Entry.TheVariants.{Local, Taken}
use Rattle.ppm_cells.specs.declared.restart.RestartKind.{RestartKind}
use Rattle.ppm_cells.specs.declared.restart.RestartKind.TheVariants as kind
use Rattle.ppm_cells.specs.declared.shape.Shape.{Shape}
use Rattle.ppm_code.specs.declared.code.CodeParts.{CodeParts}
use Rattle.ppm_lines.specs.declared.mark.Mark.{Mark}
use Rattle.ppm_lines.specs.declared.mark.Mark.TheVariants as mark
use Rattle.ppm_lines.specs.declared.mark.Marks.{Marks}
use Rattle.ppm_step.specs.Contents.{word_of}
use Rattle.ppm_step.specs.Frames.{Rest, Full}
use Rattle.ppm_step.specs.Standings.{Standing, IsAt, IsWithin, IsRunning, IsBroken, IsDone}
use Rattle.ppm_step.specs.State.{State, stand_of}
use Rattle.ppm_step.specs.declared.content.Content.{Content}
use Rattle.ppm_step.specs.declared.content.Content.TheVariants.{AnEntry}
use Rattle.ppm_step.specs.declared.row.Row.{Row}
use Rattle.ppm_step.specs.declared.row.Row.TheVariants.{Now, Store, Exchange}
use Rattle.ppm_step.specs.declared.row.Seat.{Seat}
use Rattle.ppm_step.specs.declared.row.Then.{Then}
use Rattle.ppm_step.specs.declared.row.Then.TheVariants.{Install, Fork, Begin, Move}
use Rattle.ppm_step.specs.declared.turn.Act.{Act}
use Rattle.ppm_step.specs.declared.turn.Act.TheVariants.{Step, Soft, Hard, Quit}
use Rattle.ppm_step.specs.declared.turn.Turn.{Turn}

-- the list of what a call answers
abbrev pub listed_one : Option Mark → List Mark
listed_one None = []
listed_one (Some m) = m ∷ []

abbrev pub listed : Marks → List Mark
listed marks = listed_one marks.first ++ listed_one marks.second

-- a mark where something holds
abbrev pub marked_if : Mark → Bool → List Mark
marked_if m true = m ∷ []
marked_if m false = []

-- what a thief proposes: itself for a job, or for the strand of a closed place
abbrev pub tries : Content → Mark
tries (AnEntry (Taken tag taker)) = if nat_lt taker 64 then mark.Try else mark.Inherit
tries _ = mark.Try

-- an exchange of a row of this kind, which proposes this, and is made or not
abbrev pub exchange_marks : RestartKind → (proposed : Content) → (made : Bool) → List Mark
exchange_marks (kind.Push2 block) proposed made = marked_if mark.Push made
exchange_marks kind.Pop1 proposed made = marked_if mark.Pop made
exchange_marks (kind.Steal victim slot) proposed made = tries proposed ∷ []
exchange_marks (kind.Take victim dead) proposed made = mark.Bid ∷ []
exchange_marks _ proposed made = []

-- that of the finish word ends the run
abbrev pub cell_marks : RestartKind → Cell → (proposed : Content) → (made : Bool) → List Mark
cell_marks row FinishWord proposed made = marked_if mark.End made
cell_marks row cell proposed made = exchange_marks row proposed made

-- whether a message is a local entry: the strand of a closed place
abbrev pub is_local : Option Entry → Bool
is_local (Some (Local tag block)) = true
is_local _ = false

-- what a thief goes on with
abbrev pub going_on : (heir : Bool) → Mark
going_on true = mark.Heir
going_on false = mark.Won

-- Check installs a restart: it seeks again, or goes on with what it was after
abbrev pub checked : (going : Mark) → RestartKind → Mark
checked going kind.Seek = mark.Lost
checked going _ = going

abbrev pub check_marks : (going : Mark) → Then → List Mark
check_marks going (Install restart) = checked going restart.kind ∷ []
check_marks going (Fork block) = mark.Fork ∷ going ∷ []
check_marks going (Begin block frame bottom) = going ∷ mark.Take ∷ []
check_marks going _ = []

-- Join: the first branch pops, the last one goes on, or one strand runs both
abbrev pub joined : RestartKind → Mark
joined kind.Pop1 = mark.First
joined _ = mark.Last

abbrev pub join_marks : Then → List Mark
join_marks (Install restart) = joined restart.kind ∷ []
join_marks (Fork block) = mark.Fork ∷ []
join_marks (Begin block frame bottom) = mark.Take ∷ mark.Inline ∷ []
join_marks _ = []

-- Take2: the bid stands, or is given up
abbrev pub bid_marks : Then → List Mark
bid_marks (Move place) = mark.Carries ∷ []
bid_marks (Install restart) = mark.Outbid ∷ []
bid_marks (Fork block) = mark.Fork ∷ []
bid_marks (Begin block frame bottom) = mark.Take ∷ []
bid_marks _ = []

-- each other row forks, or begins a right branch
abbrev pub plain_marks : Then → List Mark
plain_marks (Fork block) = mark.Fork ∷ []
plain_marks (Begin block frame bottom) = mark.Take ∷ []
plain_marks _ = []

-- what follows in a row of this kind
abbrev pub then_marks : (going : Mark) → RestartKind → Then → List Mark
then_marks going (kind.Check victim slot) next = check_marks going next
then_marks going (kind.Join block side) next = join_marks next
then_marks going (kind.Take2 victim) next = bid_marks next
then_marks going _ next = plain_marks next

-- a processor that finds a finish word is done
abbrev pub learns : (finish : ℕ) → List Mark
learns zero = []
learns (suc finish) = mark.Done ∷ []

module _ (s : Shape) (code : CodeParts) (words : List ℕ) where
  -- whether a cell has this word
  abbrev pub has : Cell → (word : ℕ) → Bool
  has cell word = read s words cell == word

  -- with what a thief at this place would go on, by the message of the place
  abbrev pub going_at : (place : ℕ) → Mark
  going_at place = going_on (is_local (entry_of (read s words (MessageWord place))))

  -- a step within a row
  abbrev pub row_marks : Seat → Row → List Mark
  row_marks seat (Now next) = then_marks (going_at seat.place) seat.restart.kind next
  row_marks seat (Store cell content next) = []
  row_marks seat (Exchange cell old new next) = cell_marks seat.restart.kind cell new (has cell (word_of old))

  -- an exchange of the finish word from 0: of a full pool, of broken words, of a processor that quits
  abbrev pub ending : List Mark
  ending = marked_if mark.End (has FinishWord 0)

  -- a step within a capsule
  abbrev pub rest_marks : Rest → List Mark
  rest_marks Full = ending
  rest_marks _ = []

  abbrev pub step_marks : Standing → List Mark
  step_marks (IsAt place restart) = learns (read s words FinishWord)
  step_marks (IsWithin seat row) = row_marks seat row
  step_marks (IsRunning seat rest) = rest_marks rest
  step_marks (IsBroken place) = ending
  step_marks _ = []

  -- an act of a processor that isn't done
  abbrev pub act_marks : Act → Standing → List Mark
  act_marks (Step victim) standing = step_marks standing
  act_marks Soft standing = mark.Soft ∷ []
  act_marks Hard standing = mark.Hard ∷ []
  act_marks (Quit why) standing = ending

  -- one that is done does nothing
  abbrev pub marks_at : Act → Standing → List Mark
  marks_at act IsDone = []
  marks_at act standing = act_marks act standing

-- the marks of a turn
abbrev pub marks_of : Shape → CodeParts → State → Turn → List Mark
marks_of s code state turn = marks_at s code state.words turn.act (stand_of state turn.processor)
