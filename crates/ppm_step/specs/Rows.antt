-- The rows of the restart kinds, but for what the capsule of a frame does: a line of the rules each.
use Rattle.std.specs.Prelude.{ℕ, zero, suc, ◌+◌, ◌-◌, ◌^◌, ◌==◌, nat_lt, if◌then◌else◌, Bool, true, false, ◌&&◌, ◌||◌, Option, Some, None}
use Rattle.ppm_cells.specs.Cells.{word_count}
use Rattle.ppm_cells.specs.declared.cell.Cell.{Cell}
use Rattle.ppm_cells.specs.declared.cell.Cell.TheVariants.{FinishWord, MessageWord, HolderWord, Top, RoomCounter, EntryWord, BlockWord}
use Rattle.ppm_cells.specs.declared.entry.Entry.{Entry}
use Rattle.ppm_cells.specs.declared.entry.Entry.TheVariants.{Empty, Local, Job, Taken}
use Rattle.ppm_cells.specs.declared.finish.Finish.{Finish}
use Rattle.ppm_cells.specs.declared.finish.Finish.TheVariants.{Ended, Trapped}
use Rattle.ppm_cells.specs.declared.holder.Holder.{Holder}
use Rattle.ppm_cells.specs.declared.link.Link.{Link}
use Rattle.ppm_cells.specs.declared.link.LinkKind.{LinkKind}
use Rattle.ppm_cells.specs.declared.link.LinkKind.TheVariants.{Root, Call, Branch, Fork as ForkLink}
use Rattle.ppm_cells.specs.declared.restart.Restart.{Restart}
use Rattle.ppm_cells.specs.declared.restart.RestartKind.{RestartKind}
use Rattle.ppm_cells.specs.declared.restart.RestartKind.TheVariants.{Run, Bump, Push1, Push2, Unwind, Arrive, Join, Pop1, Pop2, Seek, Steal, Check, Take, Take2}
use Rattle.ppm_cells.specs.declared.shape.Shape.{Shape}
use Rattle.ppm_cells.specs.declared.shape.Takeover.{Takeover}
use Rattle.ppm_cells.specs.declared.shape.Takeover.TheVariants.{ByPlaces, ByEntries}
use Rattle.ppm_cells.specs.declared.side.Side.{Side}
use Rattle.ppm_cells.specs.declared.side.Side.TheVariants.{Left, Right}
use Rattle.ppm_cells.specs.DequeChange.{tag_of}
use Rattle.ppm_cells.specs.Transitions.{pushed_above, pushed_job, popped_above, stolen, inherited}
use Rattle.ppm_cells.specs.HoldChange.{bid_of}
use Rattle.ppm_cells.specs.JoinOrder.{first, both}
use Rattle.ppm_cells.specs.JoinOutcome.{outcome_of_both}
use Rattle.ppm_step.specs.declared.content.Content.{Content}
use Rattle.ppm_step.specs.declared.content.Content.TheVariants.{ANumber, ARestart, AnEntry, AHolder, ALink, AFinish}
use Rattle.ppm_step.specs.declared.row.Seat.{Seat}
use Rattle.ppm_step.specs.declared.row.Point.{Point}
use Rattle.ppm_step.specs.declared.row.Point.TheVariants.{Header, BumpLink, PushOrder, PushAbove, PushBottom, UnwindLink, UnwindOutcome, Target, GivenValue}
use Rattle.ppm_step.specs.declared.row.Point.TheVariants.{JoinOrder, JoinLink, JoinLeft, JoinRight, RightFrame, Offset, PopBelow, PopAgain, PopAbove}
use Rattle.ppm_step.specs.declared.row.Point.TheVariants.{SeekHolder, SeekDead, SeekTop, SeekEntry, SeekClosed, StealMessage, TakenMessage, TakenEntry}
use Rattle.ppm_step.specs.declared.row.Point.TheVariants.{ClosedRestart, ClosedLink, ClosedBottom, BidMessage, BidAgain, BidHolder}
use Rattle.ppm_step.specs.declared.row.Then.{Then}
use Rattle.ppm_step.specs.declared.row.Then.TheVariants.{Load, Install, Fork, Begin, Move, Enter, Again, Broken}
use Rattle.ppm_step.specs.declared.row.Row.{Row}
use Rattle.ppm_step.specs.declared.row.Row.TheVariants.{Now, Store, Exchange}
use Rattle.ppm_step.specs.Points.{outcome_word, order_word, left_outcome_word, right_outcome_word}
use Rattle.ppm_step.specs.There.{restart_is_there}

-- by what was read; what is read otherwise is broken
abbrev pub on_number : Content → (ℕ → Row) → Row
on_number (ANumber n) go = go n
on_number _ go = Now Broken

abbrev pub on_restart : Content → (Restart → Row) → Row
on_restart (ARestart restart) go = go restart
on_restart _ go = Now Broken

abbrev pub on_entry : Content → (Entry → Row) → Row
on_entry (AnEntry entry) go = go entry
on_entry _ go = Now Broken

abbrev pub on_holder : Content → (Holder → Row) → Row
on_holder (AHolder holder) go = go holder
on_holder _ go = Now Broken

abbrev pub on_link : Content → (Link → Row) → Row
on_link (ALink link) go = go link
on_link _ go = Now Broken

-- the outcome of a strand; other finish words are broken
abbrev pub on_finish : Finish → (Finish → Row) → Row
on_finish Ended go = go Ended
on_finish (Trapped trap line) go = go (Trapped trap line)
on_finish _ go = Now Broken

abbrev pub on_outcome : Content → (Finish → Row) → Row
on_outcome (AFinish finish) go = on_finish finish go
on_outcome _ go = Now Broken

-- the place goes on with a kind, its bottom as it is
abbrev pub with_kind : Seat → RestartKind → Then
with_kind seat kind = Install (record { kind = kind; bottom = seat.restart.bottom })

-- this row, where the address is one of the words; else words are broken
abbrev pub if_there : Shape → (address : ℕ) → Row → Row
if_there s address row = if nat_lt address (word_count s) then row else Now Broken

-- a change of an entry, if one is made there; its tag is not the last
abbrev pub raised : Cell → (old new : Entry) → Then → Bool → Row
raised cell old new next true = Exchange cell (AnEntry old) (AnEntry new) next
raised cell old new next false = Now Broken

abbrev pub tried : Cell → Entry → Option Entry → Then → Row
tried cell old None next = Now next
tried cell old (Some new) next = raised cell old new next (nat_lt (tag_of old + 1) (2 ^ 34))

-- a change of an entry, which has to be there, and whose tag is not the last; else words are broken
abbrev pub changed : Cell → Entry → Option Entry → Then → Row
changed cell old None next = Now Broken
changed cell old (Some new) next = tried cell old (Some new) next

-- Bump: the room counter rises past the block
abbrev pub bumped : Seat → (block size : ℕ) → LinkKind → Row
bumped seat block size (Call frame copy) = Store (RoomCounter seat.place) (ANumber (block + size)) (with_kind seat (Run block 0))
bumped seat block size (ForkLink frame copy) = Store (RoomCounter seat.place) (ANumber (block + size)) (Fork block)
bumped seat block size _ = Now Broken

-- the left branch of a block begins, with this bottom
abbrev pub left_begins : (block bottom : ℕ) → Then
left_begins block bottom = Install (record { kind = Run (block + 5) 0; bottom = bottom })

-- Push1: at the last slot one strand runs both branches; else the entry above becomes local
abbrev pub pushes : Seat → (block : ℕ) → Takeover → Row
pushes seat block ByPlaces = Now (Load (PushAbove block))
pushes seat block ByEntries = Now (Load (PushOrder block))

abbrev pub push_at : Seat → Takeover → (block : ℕ) → (is_last : Bool) → Row
push_at seat takeover block true = Store (order_word block) (ANumber both) (left_begins block seat.restart.bottom)
push_at seat takeover block false = pushes seat block takeover

abbrev pub push_by_order : Seat → (block order : ℕ) → Row
push_by_order seat block order = if order == both then Now (left_begins block seat.restart.bottom) else Now (Load (PushAbove block))

abbrev pub push_above : Seat → (block : ℕ) → Entry → Row
push_above seat block entry = tried (EntryWord seat.place (seat.restart.bottom + 1)) entry (pushed_above entry) (with_kind seat (Push2 block))

-- Push2: the bottom becomes the job
abbrev pub push_bottom : Seat → (block : ℕ) → Entry → Row
push_bottom seat block entry =
    tried (EntryWord seat.place seat.restart.bottom) entry (pushed_job entry block) (left_begins block (seat.restart.bottom + 1))

-- Unwind: by the link, then the outcome
abbrev pub unwind_by : (frame : ℕ) → LinkKind → Row
unwind_by frame (ForkLink to copy) = Now Broken
unwind_by frame link = Now (Load (UnwindOutcome frame link))

-- a frame that waits takes a trap over
abbrev pub trapped : Seat → (to : ℕ) → Finish → Row
trapped seat to outcome = Store (outcome_word to) (AFinish outcome) (with_kind seat (Unwind to))

abbrev pub back_to : Seat → (frame to copy : ℕ) → Finish → Row
back_to seat frame to copy Ended = Now (Load (Target frame to copy None))
back_to seat frame to copy outcome = trapped seat to outcome

-- the outcome word of a branch
abbrev pub branch_outcome : Side → (block : ℕ) → Cell
branch_outcome Left block = left_outcome_word block
branch_outcome Right block = right_outcome_word block

abbrev pub unwound : Seat → (frame : ℕ) → LinkKind → Finish → Row
unwound seat frame Root outcome = Exchange FinishWord (ANumber 0) (AFinish outcome) Again
unwound seat frame (Call to copy) outcome = back_to seat frame to copy outcome
unwound seat frame (Branch side block) outcome = Store (branch_outcome side block) (AFinish outcome) (with_kind seat (Arrive block side))
unwound seat frame (ForkLink to copy) outcome = Now Broken

-- after a value: the right branch's, or the frame goes on
abbrev pub after_value : Seat → (to copy : ℕ) → (right_of : Option ℕ) → Then
after_value seat to copy None = with_kind seat (Run to copy)
after_value seat to copy (Some block) = Load (RightFrame block to copy)

abbrev pub target_found : Seat → (frame to copy : ℕ) → (right_of : Option ℕ) → (target : ℕ) → Row
target_found seat frame to copy right_of zero = Now (after_value seat to copy right_of)
target_found seat frame to copy right_of (suc slot) = Now (Load (GivenValue frame to copy (suc slot) right_of))

-- slot `target - 1` of the frame takes the value
abbrev pub value_found : Shape → Seat → (to copy target : ℕ) → (right_of : Option ℕ) → (value : ℕ) → Row
value_found s seat to copy target right_of value =
    if_there s (to + 5 + target) (Store (BlockWord (to + 5 + target)) (ANumber value) (after_value seat to copy right_of))

-- Arrive: by one exchange
abbrev pub arrives : Seat → (block : ℕ) → Side → Row
arrives seat block side = Exchange (order_word block) (ANumber 0) (ANumber (first side)) (with_kind seat (Join block side))

-- Join: first, the one of two in one strand that runs the other next, or last
abbrev pub is_inline : (order : ℕ) → Side → Bool
is_inline order Left = order == both
is_inline order Right = false

abbrev pub is_last : (order : ℕ) → Side → Bool
is_last order Left = order == first Right
is_last order Right = (order == first Left) || (order == both)

abbrev pub joins : Seat → (block : ℕ) → (is_first is_inline is_last : Bool) → Row
joins seat block true inline last = Now (with_kind seat Pop1)
joins seat block false true last = Now (Load (Offset block seat.restart.bottom))
joins seat block false false true = Now (Load (JoinLink block))
joins seat block false false false = Now Broken

abbrev pub join_by_order : Seat → (block : ℕ) → Side → (order : ℕ) → Row
join_by_order seat block side order = joins seat block (order == first side) (is_inline order side) (is_last order side)

abbrev pub join_by : (block : ℕ) → LinkKind → Row
join_by block (ForkLink to copy) = Now (Load (JoinLeft block to copy))
join_by block _ = Now Broken

-- both outcomes are there
abbrev pub join_outcome : Seat → (block to copy : ℕ) → Finish → Row
join_outcome seat block to copy Ended = Now (Load (Target (block + 5) to copy (Some block)))
join_outcome seat block to copy outcome = trapped seat to outcome

-- the right branch of a block begins, where its frame is there
abbrev pub right_begins : Shape → (block bottom offset : ℕ) → Row
right_begins s block bottom offset = if_there s (block + offset) (Now (Begin block (block + offset) bottom))

abbrev pub right_value : Shape → (block to copy offset : ℕ) → Row
right_value s block to copy offset = if_there s (block + offset) (Now (Load (Target (block + offset) to copy None)))

-- Pop1: the job below the bottom is got back
abbrev pub get_back : Seat → Entry → Row
get_back seat (Empty tag) = Now Broken
get_back seat (Local tag block) = Now (with_kind seat (Pop2 block))
get_back seat (Job tag block) =
    tried (EntryWord seat.place (seat.restart.bottom - 1)) (Job tag block) (Some (Local (tag + 1) block)) (with_kind seat (Pop2 block))
get_back seat (Taken tag taker) = Now (with_kind seat Seek)

-- Pop2: if it still is, the entry above is emptied
abbrev pub got_back : Seat → (block : ℕ) → Entry → Row
got_back seat block (Local tag old) = Now (Load (PopAbove block))
got_back seat block (Taken tag taker) = Now (with_kind seat Seek)
got_back seat block _ = Now Broken

abbrev pub empty_above : Seat → (block : ℕ) → Entry → Row
empty_above seat block entry =
    tried (EntryWord seat.place seat.restart.bottom) entry (popped_above entry) (Load (Offset block (seat.restart.bottom - 1)))

-- Seek: the own place is no victim; by places a dead holder's place is bid for, and else its jobs are looked at
abbrev pub seek_held : Shape → Seat → (victim : ℕ) → Holder → (is_own : Bool) → Row
seek_held s seat victim holder true = Now (Load (SeekTop victim))
seek_held s seat victim holder false = Now (Load (SeekDead victim holder))

abbrev pub seek_by : Shape → Seat → (victim : ℕ) → Holder → Takeover → Row
seek_by s seat victim holder ByPlaces = seek_held s seat victim holder (holder.processor == seat.own)
seek_by s seat victim holder ByEntries = Now (Load (SeekTop victim))

abbrev pub seek_holder : Shape → Seat → (victim : ℕ) → Holder → Row
seek_holder s seat victim holder = if victim == seat.place then Now Again else seek_by s seat victim holder s.takeover

abbrev pub bids : Seat → (victim : ℕ) → Holder → (can_rise : Bool) → Row
bids seat victim holder true = Store (MessageWord seat.place) (AHolder (bid_of holder seat.own)) (with_kind seat (Take victim holder.processor))
bids seat victim holder false = Now Broken

abbrev pub seek_dead : Seat → (victim : ℕ) → Holder → (dead : ℕ) → Row
seek_dead seat victim holder dead =
    if dead == 1 then bids seat victim holder (nat_lt (holder.tag + 1) (2 ^ 58)) else Now (Load (SeekTop victim))

abbrev pub seek_top : Shape → (victim top : ℕ) → Row
seek_top s victim top = if nat_lt top s.slots then Now (Load (SeekEntry victim top)) else Now Broken

-- the entry is noted in the message
abbrev pub notes : Seat → (victim slot : ℕ) → Entry → Row
notes seat victim slot entry = Store (MessageWord seat.place) (AnEntry entry) (with_kind seat (Steal victim slot))

abbrev pub passes : (victim slot : ℕ) → Row
passes victim slot = Exchange (Top victim) (ANumber slot) (ANumber (slot + 1)) Again

abbrev pub passes_by : Shape → (victim slot : ℕ) → Takeover → Row
passes_by s victim slot ByPlaces = passes victim slot
passes_by s victim slot ByEntries = if nat_lt (slot + 1) s.slots then passes victim slot else Now Again

abbrev pub local_by : (victim slot : ℕ) → Entry → Takeover → Row
local_by victim slot entry ByPlaces = Now Again
local_by victim slot entry ByEntries = Now (Load (SeekClosed victim slot entry))

abbrev pub seek_entry : Shape → Seat → (victim slot : ℕ) → Entry → Row
seek_entry s seat victim slot (Empty tag) = Now Again
seek_entry s seat victim slot (Local tag block) = local_by victim slot (Local tag block) s.takeover
seek_entry s seat victim slot (Job tag block) = notes seat victim slot (Job tag block)
seek_entry s seat victim slot (Taken tag taker) = passes_by s victim slot s.takeover

abbrev pub seek_closed : Seat → (victim slot : ℕ) → Entry → (dead : ℕ) → Row
seek_closed seat victim slot entry dead = if dead == 1 then notes seat victim slot entry else Now Again

-- Steal: what a place makes of the entry that it is after; with takeover by entries a local one is inherited
abbrev pub taken_so : Takeover → (place : ℕ) → Entry → Option Entry
taken_so ByPlaces place entry = stolen entry place
taken_so ByEntries place (Local tag block) = inherited (Local tag block) place
taken_so ByEntries place entry = stolen entry place

abbrev pub steals : Shape → Seat → (victim slot : ℕ) → Entry → Row
steals s seat victim slot message =
    changed (EntryWord victim slot) message (taken_so s.takeover seat.place message) (with_kind seat (Check victim slot))

-- Check: whether the entry is what the place makes of its message; then the job begins, or the closed place's strand goes on
abbrev pub can_be_taken : Takeover → Entry → Bool
can_be_taken takeover (Job tag block) = true
can_be_taken ByEntries (Local tag block) = true
can_be_taken takeover entry = false

abbrev pub taken_message : Shape → (by victim slot : ℕ) → Entry → Row
taken_message s by victim slot message =
    if can_be_taken s.takeover message then Now (Load (TakenEntry by victim slot message)) else Now Broken

abbrev pub is_taken_next : (tag taker : ℕ) → Entry → Bool
is_taken_next tag taker (Taken next by) = (next == tag + 1) && (by == taker)
is_taken_next tag taker entry = false

abbrev pub took : (place : ℕ) → (message now : Entry) → Bool
took place (Job tag block) now = is_taken_next tag place now
took place (Local tag block) now = is_taken_next tag (place + 64) now
took place message now = false

abbrev pub goes_on_with : Seat → (victim slot : ℕ) → Entry → Row
goes_on_with seat victim slot (Job tag block) = Now (Load (Offset block seat.restart.bottom))
goes_on_with seat victim slot (Local tag block) = Now (Load (ClosedRestart victim slot block))
goes_on_with seat victim slot message = Now Broken

abbrev pub taken_entry : Seat → (by victim slot : ℕ) → (message now : Entry) → Row
taken_entry seat by victim slot message now =
    if took by message now then goes_on_with seat victim slot message else Now (with_kind seat Seek)

-- where a closed place goes on whose entry at its bottom was taken
abbrev pub at_bottom : Seat → (victim : ℕ) → RestartKind → Row
at_bottom seat victim (Run frame copy) = Now (with_kind seat (Run frame copy))
at_bottom seat victim (Bump block) = Now (Load (ClosedLink block))
at_bottom seat victim (Push1 block) = Now (with_kind seat (Push1 block))
at_bottom seat victim (Push2 block) = Now (with_kind seat (Push1 block))
at_bottom seat victim (Unwind frame) = Now (with_kind seat (Unwind frame))
at_bottom seat victim (Arrive block side) = Now (with_kind seat (Arrive block side))
at_bottom seat victim (Join block side) = Now (with_kind seat (Join block side))
at_bottom seat victim (Steal other slot) = Now (Load (TakenMessage victim other slot))
at_bottom seat victim (Check other slot) = Now (Load (TakenMessage victim other slot))
at_bottom seat victim _ = Now (with_kind seat Seek)

-- the one above its bottom
abbrev pub above_bottom : Seat → (victim bottom : ℕ) → RestartKind → Row
above_bottom seat victim bottom (Push2 block) = Now (Load (ClosedBottom victim bottom block))
above_bottom seat victim bottom _ = Now (with_kind seat Seek)

-- the one below it
abbrev pub below_bottom : Seat → (block : ℕ) → RestartKind → Row
below_bottom seat block Pop1 = Now (Load (Offset block seat.restart.bottom))
below_bottom seat block (Pop2 other) = Now (Load (Offset block seat.restart.bottom))
below_bottom seat block _ = Now (with_kind seat Seek)

abbrev pub by_slot : Seat → (victim slot block : ℕ) → Restart → Row
by_slot seat victim slot block closed =
    if slot == closed.bottom then at_bottom seat victim closed.kind
    else (if slot == closed.bottom + 1 then above_bottom seat victim closed.bottom closed.kind
    else (if slot + 1 == closed.bottom then below_bottom seat block closed.kind
    else Now (with_kind seat Seek)))

abbrev pub follows : Shape → Seat → (victim slot block : ℕ) → Restart → Row
follows s seat victim slot block closed = if restart_is_there s closed then by_slot seat victim slot block closed else Now Broken

-- the block that it had built
abbrev pub closed_link : Seat → (block : ℕ) → LinkKind → Row
closed_link seat block (Call frame copy) = Now (with_kind seat (Run block 0))
closed_link seat block (ForkLink frame copy) = Now (Fork block)
closed_link seat block _ = Now Broken

-- whether its bottom was taken as a job
abbrev pub closed_bottom : Seat → (block : ℕ) → Entry → Row
closed_bottom seat block (Taken tag taker) = if nat_lt taker 64 then Now (left_begins block seat.restart.bottom) else Now (with_kind seat Seek)
closed_bottom seat block entry = Now (with_kind seat Seek)

-- Take: the bid is made, if the message is one of the own processor
abbrev pub lowered : (tag : ℕ) → Seat → (victim dead : ℕ) → Holder → Row
lowered zero seat victim dead message = Now Broken
lowered (suc tag) seat victim dead message =
    Exchange (HolderWord victim) (AHolder (record { tag = tag; processor = dead })) (AHolder message) (with_kind seat (Take2 victim))

abbrev pub makes_bid : Seat → (victim dead : ℕ) → Holder → Row
makes_bid seat victim dead message =
    if message.processor == seat.own then lowered message.tag seat victim dead message else Now (with_kind seat Seek)

-- Take2: if it stands, the processor carries the place
abbrev pub bid_again : Seat → (victim : ℕ) → Holder → Row
bid_again seat victim message =
    if message.processor == seat.own then Now (Load (BidHolder victim message)) else Now (with_kind seat Seek)

abbrev pub bid_holder : Seat → (victim : ℕ) → (message now : Holder) → Row
bid_holder seat victim message now =
    if (message.tag == now.tag) && (message.processor == now.processor) then Now (Move victim) else Now (with_kind seat Seek)

-- how a row goes on with what it has loaded, where the turn names this victim
abbrev pub found_at : Shape → Seat → (victim : ℕ) → Point → Content → Row
found_at s seat victim (Header frame copy) w = on_number w (λ capsule. Now (Enter capsule))
found_at s seat victim (BumpLink block) w = on_link w (λ link. bumped seat block link.size link.kind)
found_at s seat victim (PushOrder block) w = on_number w (push_by_order seat block)
found_at s seat victim (PushAbove block) w = on_entry w (push_above seat block)
found_at s seat victim (PushBottom block) w = on_entry w (push_bottom seat block)
found_at s seat victim (UnwindLink frame) w = on_link w (λ link. unwind_by frame link.kind)
found_at s seat victim (UnwindOutcome frame link) w = on_outcome w (unwound seat frame link)
found_at s seat victim (Target frame to copy right_of) w = on_number w (target_found seat frame to copy right_of)
found_at s seat victim (GivenValue frame to copy target right_of) w = on_number w (value_found s seat to copy target right_of)
found_at s seat victim (JoinOrder block side) w = on_number w (join_by_order seat block side)
found_at s seat victim (JoinLink block) w = on_link w (λ link. join_by block link.kind)
found_at s seat victim (JoinLeft block to copy) w = on_outcome w (λ left. Now (Load (JoinRight block to copy left)))
found_at s seat victim (JoinRight block to copy left) w = on_outcome w (λ right. join_outcome seat block to copy (outcome_of_both left right))
found_at s seat victim (RightFrame block to copy) w = on_number w (right_value s block to copy)
found_at s seat victim (Offset block bottom) w = on_number w (right_begins s block bottom)
found_at s seat victim PopBelow w = on_entry w (get_back seat)
found_at s seat victim (PopAgain block) w = on_entry w (got_back seat block)
found_at s seat victim (PopAbove block) w = on_entry w (empty_above seat block)
found_at s seat victim SeekHolder w = on_holder w (seek_holder s seat victim)
found_at s seat victim (SeekDead v holder) w = on_number w (seek_dead seat v holder)
found_at s seat victim (SeekTop v) w = on_number w (seek_top s v)
found_at s seat victim (SeekEntry v slot) w = on_entry w (seek_entry s seat v slot)
found_at s seat victim (SeekClosed v slot entry) w = on_number w (seek_closed seat v slot entry)
found_at s seat victim (StealMessage v slot) w = on_entry w (steals s seat v slot)
found_at s seat victim (TakenMessage by v slot) w = on_entry w (taken_message s by v slot)
found_at s seat victim (TakenEntry by v slot message) w = on_entry w (taken_entry seat by v slot message)
found_at s seat victim (ClosedRestart v slot block) w = on_restart w (follows s seat v slot block)
found_at s seat victim (ClosedLink block) w = on_link w (λ link. closed_link seat block link.kind)
found_at s seat victim (ClosedBottom v slot block) w = on_entry w (closed_bottom seat block)
found_at s seat victim (BidMessage v dead) w = on_holder w (makes_bid seat v dead)
found_at s seat victim (BidAgain v) w = on_holder w (bid_again seat v)
found_at s seat victim (BidHolder v message) w = on_holder w (bid_holder seat v message)

-- places are taken over, where the takeover is by places
abbrev pub by_places : Takeover → Row → Row
by_places ByPlaces row = row
by_places ByEntries row = Now Broken

-- how the row of a kind begins
abbrev pub row_of : Shape → Seat → RestartKind → Row
row_of s seat (Run frame copy) = Now (Load (Header frame copy))
row_of s seat (Bump block) = Now (Load (BumpLink block))
row_of s seat (Push1 block) = push_at seat s.takeover block (seat.restart.bottom + 1 == s.slots)
row_of s seat (Push2 block) = Now (Load (PushBottom block))
row_of s seat (Unwind frame) = Now (Load (UnwindLink frame))
row_of s seat (Arrive block side) = arrives seat block side
row_of s seat (Join block side) = Now (Load (JoinOrder block side))
row_of s seat Pop1 = Now (Load PopBelow)
row_of s seat (Pop2 block) = Now (Load (PopAgain block))
row_of s seat Seek = Now (Load SeekHolder)
row_of s seat (Steal victim slot) = Now (Load (StealMessage victim slot))
row_of s seat (Check victim slot) = Now (Load (TakenMessage seat.place victim slot))
row_of s seat (Take victim dead) = by_places s.takeover (Now (Load (BidMessage victim dead)))
row_of s seat (Take2 victim) = by_places s.takeover (Now (Load (BidAgain victim)))
