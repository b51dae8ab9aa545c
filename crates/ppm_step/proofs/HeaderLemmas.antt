-- A capsule of a frame is entered after the load of its header alone, which is a Run's first.
use Rattle.std.proofs.Common.{◌≡◌, ◌<◌, ◌+◌, ◌*◌, ◌⊎◌, inl, inr, refl, sym, subst, arith, ℕ, zero, suc, Bool, true, false, Option, Some, None, ◌==◌}
use Rattle.std.specs.Prelude.{◌-◌, ◌^◌, ◌&&◌, if◌then◌else◌, nat_lt}
use Rattle.ppm_words.specs.declared.trap.Trap.{Trap}
use Rattle.ppm_cells.specs.Cells.{address, place_at, place_size, word_count}
use Rattle.ppm_cells.specs.Finish.{finish_word, finish_of, IsFinish, IsOutcome}
use Rattle.ppm_cells.specs.declared.cell.Cell.{Cell}
use Rattle.ppm_cells.specs.declared.cell.Cell.TheVariants.{EntryWord, BlockWord}
use Rattle.ppm_cells.specs.declared.entry.Entry.{Entry}
use Rattle.ppm_cells.specs.declared.entry.Entry.TheVariants.{Empty, Local, Job, Taken}
use Rattle.ppm_cells.specs.declared.finish.Finish.{Finish}
use Rattle.ppm_cells.specs.declared.finish.Finish.TheVariants.{Unset, Ended, Trapped, OutOfTurns, OutOfRoom, Stopped, Broken as BrokenAt}
use Rattle.ppm_cells.specs.declared.holder.Holder.{Holder}
use Rattle.ppm_cells.specs.declared.link.Link.{Link}
use Rattle.ppm_cells.specs.declared.link.LinkKind.{LinkKind}
use Rattle.ppm_cells.specs.declared.link.LinkKind.TheVariants.{Root, Call as CallLink, Branch, Fork as ForkLink}
use Rattle.ppm_cells.specs.declared.restart.Restart.{Restart}
use Rattle.ppm_cells.specs.declared.restart.RestartKind.{RestartKind}
use Rattle.ppm_cells.specs.declared.restart.RestartKind.TheVariants.{Run, Bump, Push1, Push2, Unwind, Arrive, Join, Pop1, Pop2, Seek, Steal, Check}
use Rattle.ppm_cells.specs.declared.restart.RestartKind.TheVariants.{Take, Take2}
use Rattle.ppm_cells.specs.declared.shape.Shape.{Shape}
use Rattle.ppm_cells.specs.declared.shape.Takeover.{Takeover}
use Rattle.ppm_cells.specs.declared.shape.Takeover.TheVariants.{ByPlaces, ByEntries}
use Rattle.ppm_cells.specs.declared.side.Side.{Side}
use Rattle.ppm_cells.specs.declared.side.Side.TheVariants.{Left, Right}
use Rattle.ppm_cells.proofs.ExactLemmas.{unpack-pack}
use Rattle.ppm_cells.proofs.FinishLemmas.{finishes_exact}
use Rattle.ppm_cells.specs.DequeChange.{tag_of}
use Rattle.ppm_cells.specs.Transitions.{pushed_above, pushed_job, popped_above}
use Rattle.ppm_cells.specs.JoinOrder.{first, both}
use Rattle.ppm_cells.specs.JoinOutcome.{outcome_of_both}
use Rattle.ppm_step.specs.declared.content.Content.{Content}
use Rattle.ppm_step.specs.declared.content.Content.TheVariants.{ANumber, ARestart, AnEntry, AHolder, ALink, AFinish}
use Rattle.ppm_step.specs.declared.row.Seat.{Seat}
use Rattle.ppm_step.specs.declared.row.Point.{Point}
use Rattle.ppm_step.specs.declared.row.Point.TheVariants.{Header, BumpLink, PushOrder, PushAbove, PushBottom, UnwindLink, UnwindOutcome, Target}
use Rattle.ppm_step.specs.declared.row.Point.TheVariants.{GivenValue}
use Rattle.ppm_step.specs.declared.row.Point.TheVariants.{JoinOrder, JoinLink, JoinLeft, JoinRight, RightFrame, Offset, PopBelow, PopAgain, PopAbove}
use Rattle.ppm_step.specs.declared.row.Point.TheVariants.{SeekHolder, SeekDead, SeekTop, SeekEntry, SeekClosed, StealMessage, TakenMessage}
use Rattle.ppm_step.specs.declared.row.Point.TheVariants.{TakenEntry}
use Rattle.ppm_step.specs.declared.row.Point.TheVariants.{ClosedRestart, ClosedLink, ClosedBottom, BidMessage, BidAgain, BidHolder}
use Rattle.ppm_step.specs.declared.row.Then.{Then}
use Rattle.ppm_step.specs.declared.row.Then.TheVariants.{Load, Begin, Move, Enter, Again, Broken}
use Rattle.ppm_step.specs.declared.row.Row.{Row}
use Rattle.ppm_step.specs.declared.row.Row.TheVariants.{Now, Store, Exchange}
use Rattle.ppm_step.specs.Contents.{word_of, IsContent}
use Rattle.ppm_step.specs.There.{restart_is_there}
use Rattle.ppm_step.specs.Rows.{on_number, on_restart, on_entry, on_holder, on_link, on_outcome, with_kind, if_there, raised, tried, changed, bumped}
use Rattle.ppm_step.specs.Rows.{pushes, push_at, push_by_order, push_above, push_bottom, left_begins}
use Rattle.ppm_step.specs.Rows.{unwind_by, branch_outcome, unwound, after_value, target_found, value_found, is_inline, is_last, joins, join_by_order}
use Rattle.ppm_step.specs.Rows.{join_by, join_outcome, right_begins, right_value}
use Rattle.ppm_step.specs.Rows.{get_back, got_back, empty_above, seek_held, seek_by, seek_holder, bids, seek_dead, seek_top, notes, passes, passes_by}
use Rattle.ppm_step.specs.Rows.{local_by, seek_entry, seek_closed, taken_so, steals, can_be_taken, taken_message, took, goes_on_with, taken_entry}
use Rattle.ppm_step.specs.Rows.{at_bottom, above_bottom, below_bottom, by_slot, follows, closed_link, closed_bottom, lowered, makes_bid, bid_again}
use Rattle.ppm_step.specs.Rows.{bid_holder, found_at, by_places, row_of}

-- what follows in a row enters no capsule, and loads no header
abbrev pub IsNoHeader : Point → Type 0
IsNoHeader (Header frame copy) = ⊥
IsNoHeader point = Unit {0}

abbrev pub IsNoRun : RestartKind → Type 0
IsNoRun (Run frame copy) = ⊥
IsNoRun kind = Unit {0}

abbrev pub IsPlain : Then → Type 0
IsPlain (Enter capsule) = ⊥
IsPlain (Load point) = IsNoHeader point
IsPlain next = Unit {0}

abbrev pub PlainRow : Row → Type 0
PlainRow (Now next) = IsPlain next
PlainRow (Store cell content next) = IsPlain next
PlainRow (Exchange cell old new next) = IsPlain next

module _ (s : Shape) where
  either : (b : Bool) (x y : Row) → PlainRow x → PlainRow y → PlainRow (if b then x else y)
  either true x y p q = p
  either false x y p q = q

  -- what is read otherwise is broken
  number : (w : Content) (go : ℕ → Row) → ((n : ℕ) → PlainRow (go n)) → PlainRow (on_number w go)
  number (ANumber n) go h = h n
  number w go h = tt

  restart : (w : Content) (go : Restart → Row) → ((r : Restart) → PlainRow (go r)) → PlainRow (on_restart w go)
  restart (ARestart r) go h = h r
  restart w go h = tt

  entry : (w : Content) (go : Entry → Row) → ((e : Entry) → PlainRow (go e)) → PlainRow (on_entry w go)
  entry (AnEntry e) go h = h e
  entry w go h = tt

  holder : (w : Content) (go : Holder → Row) → ((k : Holder) → PlainRow (go k)) → PlainRow (on_holder w go)
  holder (AHolder k) go h = h k
  holder w go h = tt

  link : (w : Content) (go : Link → Row) → ((l : Link) → PlainRow (go l)) → PlainRow (on_link w go)
  link (ALink l) go h = h l
  link w go h = tt

  -- an outcome is an end, or a trap in a line
  outcome : (w : Content) (go : Finish → Row) → IsContent w → PlainRow (go Ended)
      → ((trap : Trap) (line : ℕ) → IsFinish (Trapped trap line) → PlainRow (go (Trapped trap line))) → PlainRow (on_outcome w go)
  outcome (AFinish Ended) go fits h k = h
  outcome (AFinish (Trapped trap line)) go fits h k = k trap line fits
  outcome (AFinish finish) go fits h k = tt
  outcome w go fits h k = tt

  -- a change of an entry
  tries : (cell : Cell) (old : Entry) (new : Option Entry) (next : Then) → IsPlain next → PlainRow (tried cell old new next)
  tries cell old None next far = far
  tries cell old (Some new) next far = by (nat_lt (tag_of old + 1) (2 ^ 34))
    where
      by : (b : Bool) → PlainRow (raised cell old new next b)
      by true = far
      by false = tt

  changes : (cell : Cell) (old : Entry) (new : Option Entry) (next : Then) → IsPlain next → PlainRow (changed cell old new next)
  changes cell old None next far = tt
  changes cell old (Some new) next far = tries cell old (Some new) next far

  there : (at : ℕ) (row : Row) → PlainRow row → PlainRow (if_there s at row)
  there at row h = either (nat_lt at (word_count s)) row (Now Broken) h tt

  bumps : (seat : Seat) (block size : ℕ) (kind : LinkKind) → PlainRow (bumped seat block size kind)
  bumps seat block size (CallLink frame copy) = tt
  bumps seat block size (ForkLink frame copy) = tt
  bumps seat block size Root = tt
  bumps seat block size (Branch side up) = tt

  pushes_on : (seat : Seat) (block : ℕ) (takeover : Takeover) → PlainRow (pushes seat block takeover)
  pushes_on seat block ByPlaces = tt
  pushes_on seat block ByEntries = tt

  pushes_at : (seat : Seat) (takeover : Takeover) (block : ℕ) (last : Bool) → PlainRow (push_at seat takeover block last)
  pushes_at seat takeover block true = tt
  pushes_at seat takeover block false = pushes_on seat block takeover

  unwinds : (frame : ℕ) (kind : LinkKind) → PlainRow (unwind_by frame kind)
  unwinds frame Root = tt
  unwinds frame (CallLink to copy) = tt
  unwinds frame (Branch side block) = tt
  unwinds frame (ForkLink to copy) = tt

  unwound_ended : (seat : Seat) (frame : ℕ) (kind : LinkKind) → PlainRow (unwound seat frame kind Ended)
  unwound_ended seat frame Root = tt
  unwound_ended seat frame (CallLink to copy) = tt
  unwound_ended seat frame (Branch side block) = tt
  unwound_ended seat frame (ForkLink to copy) = tt

  unwound_trapped : (seat : Seat) (frame : ℕ) (kind : LinkKind) (trap : Trap) (line : ℕ) → IsFinish (Trapped trap line)
      → PlainRow (unwound seat frame kind (Trapped trap line))
  unwound_trapped seat frame Root trap line fits = tt
  unwound_trapped seat frame (CallLink to copy) trap line fits = tt
  unwound_trapped seat frame (Branch side block) trap line fits = tt
  unwound_trapped seat frame (ForkLink to copy) trap line fits = tt

  after_plain : (seat : Seat) (to copy : ℕ) (right_of : Option ℕ) → IsPlain (after_value seat to copy right_of)
  after_plain seat to copy None = tt
  after_plain seat to copy (Some block) = tt

  targets : (seat : Seat) (frame to copy : ℕ) (right_of : Option ℕ) (target : ℕ) → PlainRow (target_found seat frame to copy right_of target)
  targets seat frame to copy right_of zero = after_plain seat to copy right_of
  targets seat frame to copy right_of (suc slot) = tt

  valued : (seat : Seat) (to copy target : ℕ) (right_of : Option ℕ) (value : ℕ) → PlainRow (value_found s seat to copy target right_of value)
  valued seat to copy target right_of value =
      there (to + 5 + target) (Store (BlockWord (to + 5 + target)) (ANumber value) (after_value seat to copy right_of)) (after_plain seat to copy right_of)

  joins_by : (seat : Seat) (block : ℕ) (a b c : Bool) → PlainRow (joins seat block a b c)
  joins_by seat block true b c = tt
  joins_by seat block false true c = tt
  joins_by seat block false false true = tt
  joins_by seat block false false false = tt

  joins_link : (block : ℕ) (kind : LinkKind) → PlainRow (join_by block kind)
  joins_link block Root = tt
  joins_link block (CallLink to copy) = tt
  joins_link block (Branch side up) = tt
  joins_link block (ForkLink to copy) = tt

  -- both outcomes: what they come to is an end or a trap
  joined_by : (seat : Seat) (block to copy : ℕ) (outcome : Finish) → PlainRow (join_outcome seat block to copy outcome)
  joined_by seat block to copy Ended = tt
  joined_by seat block to copy Unset = tt
  joined_by seat block to copy (Trapped trap line) = tt
  joined_by seat block to copy (OutOfTurns processor) = tt
  joined_by seat block to copy (OutOfRoom place) = tt
  joined_by seat block to copy Stopped = tt
  joined_by seat block to copy (BrokenAt place) = tt

  pops_below : (seat : Seat) (e : Entry) → PlainRow (get_back seat e)
  pops_below seat (Empty tag) = tt
  pops_below seat (Local tag block) = tt
  pops_below seat (Job tag block) =
      tries (EntryWord seat.place (seat.restart.bottom - 1)) (Job tag block) (Some (Local (tag + 1) block)) (with_kind seat (Pop2 block))
      tt
  pops_below seat (Taken tag taker) = tt

  pops_again : (seat : Seat) (block : ℕ) (e : Entry) → PlainRow (got_back seat block e)
  pops_again seat block (Empty tag) = tt
  pops_again seat block (Local tag old) = tt
  pops_again seat block (Job tag old) = tt
  pops_again seat block (Taken tag taker) = tt

  seeks_held : (seat : Seat) (victim : ℕ) (k : Holder) (own : Bool) → PlainRow (seek_held s seat victim k own)
  seeks_held seat victim k true = tt
  seeks_held seat victim k false = tt

  seeks_by : (seat : Seat) (victim : ℕ) (k : Holder) (takeover : Takeover) → PlainRow (seek_by s seat victim k takeover)
  seeks_by seat victim k ByPlaces = seeks_held seat victim k (k.processor == seat.own)
  seeks_by seat victim k ByEntries = tt

  bids_for : (seat : Seat) (victim : ℕ) (k : Holder) (can : Bool) → PlainRow (bids seat victim k can)
  bids_for seat victim k true = tt
  bids_for seat victim k false = tt

  passes_on : (victim slot : ℕ) (takeover : Takeover) → PlainRow (passes_by s victim slot takeover)
  passes_on victim slot ByPlaces = tt
  passes_on victim slot ByEntries = either (nat_lt (slot + 1) s.slots) (passes victim slot) (Now Again) tt tt

  local_on : (victim slot : ℕ) (e : Entry) (takeover : Takeover) → PlainRow (local_by victim slot e takeover)
  local_on victim slot e ByPlaces = tt
  local_on victim slot e ByEntries = tt

  seeks_entry : (seat : Seat) (victim slot : ℕ) (e : Entry) → PlainRow (seek_entry s seat victim slot e)
  seeks_entry seat victim slot (Empty tag) = tt
  seeks_entry seat victim slot (Local tag block) = local_on victim slot (Local tag block) s.takeover
  seeks_entry seat victim slot (Job tag block) = tt
  seeks_entry seat victim slot (Taken tag taker) = passes_on victim slot s.takeover

  goes_with : (seat : Seat) (victim slot : ℕ) (e : Entry) → PlainRow (goes_on_with seat victim slot e)
  goes_with seat victim slot (Empty tag) = tt
  goes_with seat victim slot (Local tag block) = tt
  goes_with seat victim slot (Job tag block) = tt
  goes_with seat victim slot (Taken tag taker) = tt

  bottom_kind : (seat : Seat) (victim : ℕ) (kind : RestartKind) → PlainRow (at_bottom seat victim kind)
  bottom_kind seat victim (Run frame copy) = tt
  bottom_kind seat victim (Bump block) = tt
  bottom_kind seat victim (Push1 block) = tt
  bottom_kind seat victim (Push2 block) = tt
  bottom_kind seat victim (Unwind frame) = tt
  bottom_kind seat victim (Arrive block side) = tt
  bottom_kind seat victim (Join block side) = tt
  bottom_kind seat victim (Steal other slot) = tt
  bottom_kind seat victim (Check other slot) = tt
  bottom_kind seat victim kind = tt

  above_kind : (seat : Seat) (victim bottom : ℕ) (kind : RestartKind) → PlainRow (above_bottom seat victim bottom kind)
  above_kind seat victim bottom (Push2 block) = tt
  above_kind seat victim bottom kind = tt

  below_kind : (seat : Seat) (block : ℕ) (kind : RestartKind) → PlainRow (below_bottom seat block kind)
  below_kind seat block Pop1 = tt
  below_kind seat block (Pop2 other) = tt
  below_kind seat block kind = tt

  slots_by : (seat : Seat) (victim slot block : ℕ) (closed : Restart) → PlainRow (by_slot seat victim slot block closed)
  slots_by seat victim slot block closed =
      let last : Row = if slot + 1 == closed.bottom then below_bottom seat block closed.kind else Now (with_kind seat Seek) in
      let second : Row = if slot == closed.bottom + 1 then above_bottom seat victim closed.bottom closed.kind else last in
      either (slot == closed.bottom) (at_bottom seat victim closed.kind) second (bottom_kind seat victim closed.kind)
      (either (slot == closed.bottom + 1) (above_bottom seat victim closed.bottom closed.kind) last (above_kind seat victim closed.bottom closed.kind)
      (either (slot + 1 == closed.bottom) (below_bottom seat block closed.kind) (Now (with_kind seat Seek)) (below_kind seat block closed.kind) tt))

  closed_by : (seat : Seat) (block : ℕ) (kind : LinkKind) → PlainRow (closed_link seat block kind)
  closed_by seat block Root = tt
  closed_by seat block (CallLink frame copy) = tt
  closed_by seat block (Branch side up) = tt
  closed_by seat block (ForkLink frame copy) = tt

  bottom_by : (seat : Seat) (block : ℕ) (e : Entry) → PlainRow (closed_bottom seat block e)
  bottom_by seat block (Taken tag taker) =
      either (nat_lt taker 64) (Now (left_begins block seat.restart.bottom)) (Now (with_kind seat Seek)) tt tt
  bottom_by seat block (Empty tag) = tt
  bottom_by seat block (Local tag other) = tt
  bottom_by seat block (Job tag other) = tt

  lowers : (tag : ℕ) (seat : Seat) (victim dead : ℕ) (k : Holder) → PlainRow (lowered tag seat victim dead k)
  lowers zero seat victim dead k = tt
  lowers (suc tag) seat victim dead k = tt

  -- how a row goes on with what it has loaded
  pub found_plain : (seat : Seat) (victim : ℕ) (point : Point) (w : Content) → IsContent w → IsNoHeader point
      → PlainRow (found_at s seat victim point w)
  found_plain seat victim (Header frame copy) w fits other = absurd other
  found_plain seat victim (BumpLink block) w fits other =
      link w (λ l. bumped seat block l.size l.kind) (λ l. bumps seat block l.size l.kind)
  found_plain seat victim (PushOrder block) w fits other =
      number w (push_by_order seat block)
      (λ order. either (order == both) (Now (left_begins block seat.restart.bottom)) (Now (Load (PushAbove block))) tt tt)
  found_plain seat victim (PushAbove block) w fits other =
      entry w (push_above seat block)
      (λ e. tries (EntryWord seat.place (seat.restart.bottom + 1)) e (pushed_above e) (with_kind seat (Push2 block))
      tt)
  found_plain seat victim (PushBottom block) w fits other =
      entry w (push_bottom seat block)
      (λ e. tries (EntryWord seat.place seat.restart.bottom) e (pushed_job e block) (left_begins block (seat.restart.bottom + 1))
      tt)
  found_plain seat victim (UnwindLink frame) w fits other = link w (λ l. unwind_by frame l.kind) (λ l. unwinds frame l.kind)
  found_plain seat victim (UnwindOutcome frame kind) w fits other =
      outcome w (unwound seat frame kind) fits (unwound_ended seat frame kind) (unwound_trapped seat frame kind)
  found_plain seat victim (Target frame to copy right_of) w fits other =
      number w (target_found seat frame to copy right_of) (targets seat frame to copy right_of)
  found_plain seat victim (GivenValue frame to copy target right_of) w fits other =
      number w (value_found s seat to copy target right_of) (valued seat to copy target right_of)
  found_plain seat victim (JoinOrder block side) w fits other =
      number w (join_by_order seat block side)
      (λ order. joins_by seat block (order == first side) (is_inline order side) (is_last order side))
  found_plain seat victim (JoinLink block) w fits other = link w (λ l. join_by block l.kind) (λ l. joins_link block l.kind)
  found_plain seat victim (JoinLeft block to copy) w fits other =
      outcome w (λ left. Now (Load (JoinRight block to copy left))) fits tt (λ trap line is_line. tt)
  found_plain seat victim (JoinRight block to copy left) w fits other =
      outcome w (λ right. join_outcome seat block to copy (outcome_of_both left right)) fits (joined_by seat block to copy (outcome_of_both left Ended))
      (λ trap line is_line. joined_by seat block to copy (outcome_of_both left (Trapped trap line)))
  found_plain seat victim (RightFrame block to copy) w fits other =
      number w (right_value s block to copy)
      (λ offset. there (block + offset) (Now (Load (Target (block + offset) to copy None))) tt)
  found_plain seat victim (Offset block bottom) w fits other =
      number w (right_begins s block bottom) (λ offset. there (block + offset) (Now (Begin block (block + offset) bottom)) tt)
  found_plain seat victim PopBelow w fits other = entry w (get_back seat) (pops_below seat)
  found_plain seat victim (PopAgain block) w fits other = entry w (got_back seat block) (pops_again seat block)
  found_plain seat victim (PopAbove block) w fits other =
      entry w (empty_above seat block)
      (λ e. tries (EntryWord seat.place seat.restart.bottom) e (popped_above e) (Load (Offset block (seat.restart.bottom - 1)))
      tt)
  found_plain seat victim SeekHolder w fits other =
      holder w (seek_holder s seat victim)
      (λ k. either (victim == seat.place) (Now Again) (seek_by s seat victim k s.takeover) tt (seeks_by seat victim k s.takeover))
  found_plain seat victim (SeekDead v k) w fits other =
      number w (seek_dead seat v k)
      (λ dead. either (dead == 1) (bids seat v k (nat_lt (k.tag + 1) (2 ^ 58))) (Now (Load (SeekTop v)))
      (bids_for seat v k (nat_lt (k.tag + 1) (2 ^ 58))) tt)
  found_plain seat victim (SeekTop v) w fits other =
      number w (seek_top s v) (λ top. either (nat_lt top s.slots) (Now (Load (SeekEntry v top))) (Now Broken) tt tt)
  found_plain seat victim (SeekEntry v slot) w fits other = entry w (seek_entry s seat v slot) (seeks_entry seat v slot)
  found_plain seat victim (SeekClosed v slot e) w fits other =
      number w (seek_closed seat v slot e) (λ dead. either (dead == 1) (notes seat v slot e) (Now Again) tt tt)
  found_plain seat victim (StealMessage v slot) w fits other =
      entry w (steals s seat v slot)
      (λ e. changes (EntryWord v slot) e (taken_so s.takeover seat.place e) (with_kind seat (Check v slot)) tt)
  found_plain seat victim (TakenMessage by v slot) w fits other =
      entry w (taken_message s by v slot)
      (λ e. either (can_be_taken s.takeover e) (Now (Load (TakenEntry by v slot e))) (Now Broken) tt tt)
  found_plain seat victim (TakenEntry by v slot message) w fits other =
      entry w (taken_entry seat by v slot message)
      (λ e. either (took by message e) (goes_on_with seat v slot message) (Now (with_kind seat Seek)) (goes_with seat v slot message) tt)
  found_plain seat victim (ClosedRestart v slot block) w fits other =
      restart w (follows s seat v slot block)
      (λ r. either (restart_is_there s r) (by_slot seat v slot block r) (Now Broken) (slots_by seat v slot block r) tt)
  found_plain seat victim (ClosedLink block) w fits other = link w (λ l. closed_link seat block l.kind) (λ l. closed_by seat block l.kind)
  found_plain seat victim (ClosedBottom v slot block) w fits other = entry w (closed_bottom seat block) (bottom_by seat block)
  found_plain seat victim (BidMessage v dead) w fits other =
      holder w (makes_bid seat v dead)
      (λ k. either (k.processor == seat.own) (lowered k.tag seat v dead k) (Now (with_kind seat Seek)) (lowers k.tag seat v dead k) tt)
  found_plain seat victim (BidAgain v) w fits other =
      holder w (bid_again seat v)
      (λ k. either (k.processor == seat.own) (Now (Load (BidHolder v k))) (Now (with_kind seat Seek)) tt tt)
  found_plain seat victim (BidHolder v message) w fits other =
      holder w (bid_holder seat v message)
      (λ k. either ((message.tag == k.tag) && (message.processor == k.processor)) (Now (Move v)) (Now (with_kind seat Seek)) tt tt)

  places_spare : (takeover : Takeover) (row : Row) → PlainRow row → PlainRow (by_places takeover row)
  places_spare ByPlaces row h = h
  places_spare ByEntries row h = tt

  -- how the row of a kind begins
  pub begun_plain : (seat : Seat) (kind : RestartKind) → IsNoRun kind → PlainRow (row_of s seat kind)
  begun_plain seat (Run frame copy) other = absurd other
  begun_plain seat (Bump block) other = tt
  begun_plain seat (Push1 block) other = pushes_at seat s.takeover block (seat.restart.bottom + 1 == s.slots)
  begun_plain seat (Push2 block) other = tt
  begun_plain seat (Unwind frame) other = tt
  begun_plain seat (Arrive block side) other = tt
  begun_plain seat (Join block side) other = tt
  begun_plain seat Pop1 other = tt
  begun_plain seat (Pop2 block) other = tt
  begun_plain seat Seek other = tt
  begun_plain seat (Steal victim slot) other = tt
  begun_plain seat (Check victim slot) other = tt
  begun_plain seat (Take victim dead) other = places_spare s.takeover (Now (Load (BidMessage victim dead))) tt
  begun_plain seat (Take2 victim) other = places_spare s.takeover (Now (Load (BidAgain victim))) tt
