-- How the word of a turn is called, and how its values are written.
use Rattle.std.specs.Prelude.{ℕ, ◌==◌, if◌then◌else◌, Bool, true, false, List, ◌∷◌, ◌++◌, codes, decimal}
use Rattle.ppm_cells.specs.declared.cell.Cell.TheVariants.{BlockWord}
use Rattle.ppm_naming.specs.Cells.{cell_text, kind_of}
use Rattle.ppm_naming.specs.Values.{value_text}
use Rattle.ppm_naming.specs.declared.kind.WordKind.{WordKind}
use Rattle.ppm_naming.specs.declared.kind.WordKind.TheVariants as kind
use Rattle.ppm_step.specs.Frames.{Rest, Loads as RestLoads, Stores as RestStores, Full, Installs, Breaks}
use Rattle.ppm_step.specs.Standings.{Standing, IsLost, IsPlaced, IsAt, IsWithin, IsRunning, IsBroken, IsDone}
use Rattle.ppm_step.specs.declared.ask.Want.{Want}
use Rattle.ppm_step.specs.declared.ask.Want.TheVariants.{Loads, Stores, Exchanges, Nothing}
use Rattle.ppm_step.specs.declared.content.Content.{Content}
use Rattle.ppm_step.specs.declared.content.Content.TheVariants.{ANumber, ARestart, AnEntry, AHolder, ALink, AFinish, Unreadable}
use Rattle.ppm_step.specs.declared.turn.Act.{Act}
use Rattle.ppm_step.specs.declared.turn.Act.TheVariants.{Step, Soft, Hard, Quit}
use Rattle.ppm_lines.specs.declared.part.FramePart.{FramePart}
use Rattle.ppm_lines.specs.declared.part.FramePart.TheVariants.{FrameLink, Outcome, FirstHeader, SecondHeader, GivenValue, Target, Slot}
use Rattle.ppm_lines.specs.declared.part.ForkPart.{ForkPart}
use Rattle.ppm_lines.specs.declared.part.ForkPart.TheVariants.{ForkLink, Order, LeftOutcome, RightOutcome, RightOffset}
use Rattle.ppm_lines.specs.declared.part.Part.{Part}
use Rattle.ppm_lines.specs.declared.part.Part.TheVariants.{NoWord, SomeHolder, OfMachine, InFrame, InFork, InCall, New, LinkAt, Elsewhere}
use Rattle.ppm_lines.specs.Doing.{frame_text, fork_text, call_text}
use Rattle.ppm_lines.specs.Scene.{Scene, word_at}

-- the words of a frame
abbrev pub frame_part_text : FramePart → List ℕ
frame_part_text FrameLink = codes "link"
frame_part_text Outcome = codes "outcome"
frame_part_text FirstHeader = codes "header0"
frame_part_text SecondHeader = codes "header1"
frame_part_text GivenValue = codes "value"
frame_part_text Target = codes "target"
frame_part_text (Slot slot) = codes "slot" ++ decimal slot

-- those of a fork block
abbrev pub fork_part_text : ForkPart → List ℕ
fork_part_text ForkLink = codes "link"
fork_part_text Order = codes "order"
fork_part_text LeftOutcome = codes "left"
fork_part_text RightOutcome = codes "right"
fork_part_text RightOffset = codes "offset"

-- the name of the word of a turn
abbrev pub part_text : Scene → Part → List ℕ
part_text scene NoWord = codes "-"
part_text scene SomeHolder = codes "holder"
part_text scene (OfMachine cell) = cell_text scene.names scene.lengths cell
part_text scene (InFrame frame part) = frame_text scene frame ++ 46 ∷ frame_part_text part
part_text scene (InFork block part) = fork_text block ++ 46 ∷ fork_part_text part
part_text scene (InCall block) = call_text block ++ codes ".link"
part_text scene (New block offset) = codes "new@" ++ decimal block ++ 43 ∷ decimal offset
part_text scene (LinkAt at) = cell_text scene.names scene.lengths (BlockWord at)
part_text scene (Elsewhere at) = cell_text scene.names scene.lengths (BlockWord at)

-- how it is written
abbrev pub frame_part_kind : FramePart → WordKind
frame_part_kind FrameLink = kind.Link
frame_part_kind Outcome = kind.Finish
frame_part_kind FirstHeader = kind.Number
frame_part_kind SecondHeader = kind.Number
frame_part_kind GivenValue = kind.Signed
frame_part_kind Target = kind.Number
frame_part_kind (Slot slot) = kind.Signed

abbrev pub fork_part_kind : ForkPart → WordKind
fork_part_kind ForkLink = kind.Link
fork_part_kind Order = kind.Order
fork_part_kind LeftOutcome = kind.Finish
fork_part_kind RightOutcome = kind.Finish
fork_part_kind RightOffset = kind.Number

-- a word of a new block is a link where one is stored there
abbrev pub new_kind : (stores_link : Bool) → WordKind
new_kind stores_link = if stores_link then kind.Link else kind.Signed

abbrev pub part_kind : (stores_link : Bool) → Part → WordKind
part_kind stores_link NoWord = kind.Number
part_kind stores_link SomeHolder = kind.Holder
part_kind stores_link (OfMachine cell) = kind_of cell
part_kind stores_link (InFrame frame part) = frame_part_kind part
part_kind stores_link (InFork block part) = fork_part_kind part
part_kind stores_link (InCall block) = kind.Link
part_kind stores_link (New block offset) = new_kind stores_link
part_kind stores_link (LinkAt at) = kind.Link
part_kind stores_link (Elsewhere at) = kind.Signed

-- whether a capsule stores the link of a block that it builds
abbrev pub is_link : Content → Bool
is_link (ANumber number) = false
is_link (ARestart restart) = false
is_link (AnEntry entry) = false
is_link (AHolder holder) = false
is_link (ALink link) = true
is_link (AFinish finish) = false
is_link Unreadable = false

abbrev pub rest_stores_link : Rest → Bool
rest_stores_link (RestLoads cell go) = false
rest_stores_link (RestStores cell content rest) = is_link content
rest_stores_link Full = false
rest_stores_link (Installs into) = false
rest_stores_link Breaks = false

abbrev pub stores_link : Standing → Bool
stores_link (IsRunning seat rest) = rest_stores_link rest
stores_link IsLost = false
stores_link (IsPlaced place) = false
stores_link (IsAt place restart) = false
stores_link (IsWithin seat row) = false
stores_link (IsBroken place) = false
stores_link IsDone = false

-- the word that a word step finds, of whatever kind the step is
abbrev pub before : Scene → Want → ℕ
before scene (Loads at) = word_at scene at
before scene (Stores at word) = word_at scene at
before scene (Exchanges at old new) = word_at scene at
before scene Nothing = 0

-- what a word step does
abbrev pub made_text : (found : ℕ) → Want → List ℕ
made_text found (Loads at) = codes "load"
made_text found (Stores at word) = codes "store"
made_text found (Exchanges at old new) = if found == old then codes "swap" else codes "miss"
made_text found Nothing = codes "-"

-- what a turn does
abbrev pub step_text : (found : ℕ) → Act → Want → List ℕ
step_text found (Step victim) want = made_text found want
step_text found Soft want = codes "soft"
step_text found Hard want = codes "hard"
step_text found (Quit why) want = codes "quit"

-- two values, with a sign between them
abbrev pub pair_text : WordKind → (sign first second : ℕ) → List ℕ
pair_text shown sign first second = value_text shown first ++ sign ∷ value_text shown second

-- of a message the new one is shown alone
abbrev pub is_message : WordKind → Bool
is_message kind.Message = true
is_message kind.Number = false
is_message kind.Signed = false
is_message kind.Order = false
is_message kind.Restart = false
is_message kind.Entry = false
is_message kind.Holder = false
is_message kind.Link = false
is_message kind.Finish = false

-- a change: what was there and what comes, or the value alone where it was there
abbrev pub change_text : WordKind → (old new : ℕ) → List ℕ
change_text shown old new =
    if is_message shown then value_text shown new
    else (if old == new then value_text shown new
    else pair_text shown 62 old new)

-- an exchange: the change, or what was found in place of what was awaited and what was proposed
abbrev pub exchange_text : WordKind → (found old new : ℕ) → List ℕ
exchange_text shown found old new = if found == old then change_text shown found new else pair_text shown 47 found new

-- the values of a word step
abbrev pub done_text : WordKind → (found : ℕ) → Want → List ℕ
done_text shown found (Loads at) = value_text shown found
done_text shown found (Stores at word) = change_text shown found word
done_text shown found (Exchanges at old new) = exchange_text shown found old new
done_text shown found Nothing = codes "-"

-- those of a step that did not come
abbrev pub missed_text : WordKind → Want → List ℕ
missed_text shown (Loads at) = codes "load"
missed_text shown (Stores at word) = codes "store:" ++ value_text shown word
missed_text shown (Exchanges at old new) = codes "swap:" ++ value_text shown new
missed_text shown Nothing = codes "-"

-- those of a turn
abbrev pub worth_text : WordKind → (found : ℕ) → Act → Want → List ℕ
worth_text shown found (Step victim) want = done_text shown found want
worth_text shown found Soft want = missed_text shown want
worth_text shown found Hard want = missed_text shown want
worth_text shown found (Quit why) want = missed_text shown want
