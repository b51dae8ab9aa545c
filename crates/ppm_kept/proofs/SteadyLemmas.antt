-- Rows of kinds that open no block store into no counter, and install no kind that opens one.
use Rattle.std.proofs.Common.{ℕ, zero, suc, ◌+◌, ◌-◌, ◌^◌, ◌==◌, ◌&&◌, Bool, true, false, subst, Option, Some, None}
use Rattle.std.specs.Prelude.{nat_lt, if◌then◌else◌}
use Rattle.ppm_cells.specs.Cells.{word_count}
use Rattle.ppm_cells.specs.declared.cell.Cell.{Cell}
use Rattle.ppm_cells.specs.declared.cell.Cell.TheVariants.{EntryWord}
use Rattle.ppm_cells.specs.declared.entry.Entry.{Entry}
use Rattle.ppm_cells.specs.declared.entry.Entry.TheVariants.{Empty, Local, Job, Taken}
use Rattle.ppm_cells.specs.declared.finish.Finish.{Finish}
use Rattle.ppm_cells.specs.declared.finish.Finish.TheVariants.{Unset, Ended, Trapped, OutOfTurns, OutOfRoom, Stopped, Broken as BrokenAt}
use Rattle.ppm_cells.specs.declared.holder.Holder.{Holder}
use Rattle.ppm_cells.specs.declared.link.Link.{Link}
use Rattle.ppm_cells.specs.declared.link.LinkKind.{LinkKind}
use Rattle.ppm_cells.specs.declared.link.LinkKind.TheVariants.{Root, Call as Called, Branch, Fork as Forked}
use Rattle.ppm_cells.specs.declared.restart.Restart.{Restart}
use Rattle.ppm_cells.specs.declared.restart.RestartKind.{RestartKind}
use Rattle.ppm_cells.specs.declared.restart.RestartKind.TheVariants.{Run, Bump, Push1, Push2, Unwind, Arrive, Join, Pop1, Pop2, Seek, Steal, Check, Take, Take2}
use Rattle.ppm_cells.specs.declared.shape.Shape.{Shape}
use Rattle.ppm_cells.specs.declared.shape.Takeover.{Takeover}
use Rattle.ppm_cells.specs.declared.shape.Takeover.TheVariants.{ByPlaces, ByEntries}
use Rattle.ppm_cells.specs.declared.side.Side.TheVariants.{Left, Right}
use Rattle.ppm_cells.specs.DequeChange.{tag_of}
use Rattle.ppm_cells.specs.Transitions.{pushed_above, pushed_job, popped_above}
use Rattle.ppm_cells.specs.JoinOrder.{first, both}
use Rattle.ppm_cells.specs.JoinOutcome.{outcome_of_both}
use Rattle.ppm_step.specs.There.{restart_is_there}
use Rattle.ppm_step.specs.Rows.{on_number, on_restart, on_entry, on_holder, on_link, on_finish, on_outcome, with_kind, if_there, raised, tried, changed, left_begins, pushes, push_at, push_by_order, push_above, push_bottom, unwind_by, back_to, unwound, after_value, target_found, value_found, joins, is_inline, is_last, join_by_order, join_by, join_outcome, right_begins, right_value, get_back, got_back, empty_above, seek_held, seek_by, seek_holder, bids, seek_dead, seek_top, passes, passes_by, local_by, seek_entry, seek_closed, taken_so, steals, can_be_taken, taken_message, took, goes_on_with, taken_entry, at_bottom, above_bottom, below_bottom, by_slot, follows, closed_link, closed_bottom, lowered, makes_bid, bid_again, bid_holder, found_at, by_places, row_of}
use Rattle.ppm_step.specs.declared.content.Content.{Content}
use Rattle.ppm_step.specs.declared.content.Content.TheVariants.{ANumber, ARestart, AnEntry, AHolder, ALink, AFinish, Unreadable}
use Rattle.ppm_step.specs.declared.row.Point.{Point}
use Rattle.ppm_step.specs.declared.row.Point.TheVariants.{Header, BumpLink, PushOrder, PushAbove, PushBottom, UnwindLink, UnwindOutcome, Target, GivenValue}
use Rattle.ppm_step.specs.declared.row.Point.TheVariants.{JoinOrder, JoinLink, JoinLeft, JoinRight, RightFrame, Offset, PopBelow, PopAgain, PopAbove}
use Rattle.ppm_step.specs.declared.row.Point.TheVariants.{SeekHolder, SeekDead, SeekTop, SeekEntry, SeekClosed, StealMessage, TakenMessage, TakenEntry}
use Rattle.ppm_step.specs.declared.row.Point.TheVariants.{ClosedRestart, ClosedLink, ClosedBottom, BidMessage, BidAgain, BidHolder}
use Rattle.ppm_step.specs.declared.row.Row.{Row}
use Rattle.ppm_step.specs.declared.row.Row.TheVariants.{Now, Store, Exchange}
use Rattle.ppm_step.specs.declared.row.Seat.{Seat}
use Rattle.ppm_step.specs.declared.row.Then.{Then}
use Rattle.ppm_step.specs.declared.row.Then.TheVariants.{Load, Install, Fork, Begin, Move, Enter, Again, Broken}
use Rattle.ppm_kept.specs.Pushing.{Comes}
use Rattle.ppm_kept.specs.Takes.{IsCheck}
use Rattle.ppm_kept.specs.Births.{IsNoCounter, IsSteady, IsSteadyPoint, SteadyThen, SteadyRow, RowsAreSteady}

module _ (s : Shape) (seat : Seat) (F : Type 0) where
  abbrev R : Row → Type 0
  R row = SteadyRow F row

  entry_steady : (go : Entry → Row) → ((e : Entry) → R (go e)) → (w : Content) → R (on_entry w go)
  entry_steady go by (AnEntry e) = by e
  entry_steady go by (ANumber e) = tt
  entry_steady go by (ARestart e) = tt
  entry_steady go by (AHolder e) = tt
  entry_steady go by (ALink e) = tt
  entry_steady go by (AFinish e) = tt
  entry_steady go by Unreadable = tt

  number_steady : (go : ℕ → Row) → ((e : ℕ) → R (go e)) → (w : Content) → R (on_number w go)
  number_steady go by (ANumber e) = by e
  number_steady go by (ARestart e) = tt
  number_steady go by (AnEntry e) = tt
  number_steady go by (AHolder e) = tt
  number_steady go by (ALink e) = tt
  number_steady go by (AFinish e) = tt
  number_steady go by Unreadable = tt

  restart_steady : (go : Restart → Row) → ((e : Restart) → R (go e)) → (w : Content) → R (on_restart w go)
  restart_steady go by (ARestart e) = by e
  restart_steady go by (ANumber e) = tt
  restart_steady go by (AnEntry e) = tt
  restart_steady go by (AHolder e) = tt
  restart_steady go by (ALink e) = tt
  restart_steady go by (AFinish e) = tt
  restart_steady go by Unreadable = tt

  holder_steady : (go : Holder → Row) → ((e : Holder) → R (go e)) → (w : Content) → R (on_holder w go)
  holder_steady go by (AHolder e) = by e
  holder_steady go by (ANumber e) = tt
  holder_steady go by (ARestart e) = tt
  holder_steady go by (AnEntry e) = tt
  holder_steady go by (ALink e) = tt
  holder_steady go by (AFinish e) = tt
  holder_steady go by Unreadable = tt

  link_steady : (go : Link → Row) → ((e : Link) → R (go e)) → (w : Content) → R (on_link w go)
  link_steady go by (ALink e) = by e
  link_steady go by (ANumber e) = tt
  link_steady go by (ARestart e) = tt
  link_steady go by (AnEntry e) = tt
  link_steady go by (AHolder e) = tt
  link_steady go by (AFinish e) = tt
  link_steady go by Unreadable = tt

  finish_steady : (go : Finish → Row) → ((e : Finish) → R (go e)) → (f : Finish) → R (on_finish f go)
  finish_steady go by Ended = by Ended
  finish_steady go by (Trapped trap line) = by (Trapped trap line)
  finish_steady go by Unset = tt
  finish_steady go by (OutOfTurns x) = tt
  finish_steady go by (OutOfRoom x) = tt
  finish_steady go by Stopped = tt
  finish_steady go by (BrokenAt x) = tt

  outcome_steady : (go : Finish → Row) → ((e : Finish) → R (go e)) → (w : Content) → R (on_outcome w go)
  outcome_steady go by (AFinish e) = finish_steady go by e
  outcome_steady go by (ANumber e) = tt
  outcome_steady go by (ARestart e) = tt
  outcome_steady go by (AnEntry e) = tt
  outcome_steady go by (AHolder e) = tt
  outcome_steady go by (ALink e) = tt
  outcome_steady go by Unreadable = tt

  raised_steady : (cell : Cell) (old new : Entry) (next : Then) → IsNoCounter cell → SteadyThen F next → (b : Bool) → R (raised cell old new next b)
  raised_steady cell old new next c l true = (c, l)
  raised_steady cell old new next c l false = tt

  tried_steady : (cell : Cell) (old : Entry) (a : Option Entry) (next : Then) → IsNoCounter cell → SteadyThen F next → R (tried cell old a next)
  tried_steady cell old None next c l = l
  tried_steady cell old (Some new) next c l = raised_steady cell old new next c l (nat_lt (tag_of old + 1) (2 ^ 34))

  changed_steady : (cell : Cell) (old : Entry) (a : Option Entry) (next : Then) → IsNoCounter cell → SteadyThen F next → R (changed cell old a next)
  changed_steady cell old None next c l = tt
  changed_steady cell old (Some new) next c l = tried_steady cell old (Some new) next c l

  -- either of two rows
  either : (b : Bool) (x y : Row) → R x → R y → R (if b then x else y)
  either true x y a c = a
  either false x y a c = c

  there_steady : (x : ℕ) (row : Row) → R row → R (if_there s x row)
  there_steady x row a = either (nat_lt x (word_count s)) row (Now Broken) a tt

  -- the rows of strands
  pushes_steady : (r : ℕ) (by : Takeover) → R (pushes seat r by)
  pushes_steady r ByPlaces = tt
  pushes_steady r ByEntries = tt

  push_steady : (r : ℕ) (by : Takeover) (last : Bool) → R (push_at seat by r last)
  push_steady r by true = (tt, tt)
  push_steady r by false = pushes_steady r by

  unwind_steady : (f : ℕ) (k : LinkKind) → R (unwind_by f k)
  unwind_steady f Root = tt
  unwind_steady f (Called g y) = tt
  unwind_steady f (Branch d r) = tt
  unwind_steady f (Forked g y) = tt

  back_steady : (f g y : ℕ) (x : Finish) → R (back_to seat f g y x)
  back_steady f g y Ended = tt
  back_steady f g y (Trapped trap line) = (tt, tt)
  back_steady f g y Unset = (tt, tt)
  back_steady f g y (OutOfTurns x) = (tt, tt)
  back_steady f g y (OutOfRoom x) = (tt, tt)
  back_steady f g y Stopped = (tt, tt)
  back_steady f g y (BrokenAt x) = (tt, tt)

  unwound_steady : (f : ℕ) (k : LinkKind) (x : Finish) → R (unwound seat f k x)
  unwound_steady f Root x = (tt, tt)
  unwound_steady f (Called g y) x = back_steady f g y x
  unwound_steady f (Branch Left r) x = (tt, tt)
  unwound_steady f (Branch Right r) x = (tt, tt)
  unwound_steady f (Forked g y) x = tt

  after_steady : (g y : ℕ) (right_of : Option ℕ) → SteadyThen F (after_value seat g y right_of)
  after_steady g y None = tt
  after_steady g y (Some r) = tt

  target_steady : (f g y : ℕ) (right_of : Option ℕ) (x : ℕ) → R (target_found seat f g y right_of x)
  target_steady f g y right_of zero = after_steady g y right_of
  target_steady f g y right_of (suc x) = tt

  value_steady : (g y x : ℕ) (right_of : Option ℕ) (v : ℕ) → R (value_found s seat g y x right_of v)
  value_steady g y x right_of v = there_steady (g + 5 + x) _ (tt, after_steady g y right_of)

  joins_steady : (r : ℕ) (a b c : Bool) → R (joins seat r a b c)
  joins_steady r true b c = tt
  joins_steady r false true c = tt
  joins_steady r false false true = tt
  joins_steady r false false false = tt

  join_by_steady : (r : ℕ) (k : LinkKind) → R (join_by r k)
  join_by_steady r (Forked g y) = tt
  join_by_steady r (Called g y) = tt
  join_by_steady r Root = tt
  join_by_steady r (Branch d x) = tt

  joined_steady : (r g y : ℕ) (x : Finish) → R (join_outcome seat r g y x)
  joined_steady r g y Ended = tt
  joined_steady r g y (Trapped trap line) = (tt, tt)
  joined_steady r g y Unset = (tt, tt)
  joined_steady r g y (OutOfTurns x) = (tt, tt)
  joined_steady r g y (OutOfRoom x) = (tt, tt)
  joined_steady r g y Stopped = (tt, tt)
  joined_steady r g y (BrokenAt x) = (tt, tt)

  -- the rows of places without one
  get_back_steady : (e : Entry) → R (get_back seat e)
  get_back_steady (Empty t) = tt
  get_back_steady (Local t r) = tt
  get_back_steady (Job t r) = tried_steady (EntryWord seat.place (seat.restart.bottom - 1)) (Job t r) (Some (Local (t + 1) r)) (with_kind seat (Pop2 r)) tt tt
  get_back_steady (Taken t q) = tt

  got_back_steady : (r : ℕ) (e : Entry) → R (got_back seat r e)
  got_back_steady r (Local t x) = tt
  got_back_steady r (Taken t q) = tt
  got_back_steady r (Empty t) = tt
  got_back_steady r (Job t x) = tt

  held_steady : (v : ℕ) (h : Holder) (b : Bool) → R (seek_held s seat v h b)
  held_steady v h true = tt
  held_steady v h false = tt

  by_steady : (v : ℕ) (h : Holder) (by : Takeover) → R (seek_by s seat v h by)
  by_steady v h ByPlaces = held_steady v h (h.processor == seat.own)
  by_steady v h ByEntries = tt

  bids_steady : (v : ℕ) (h : Holder) (b : Bool) → R (bids seat v h b)
  bids_steady v h true = (tt, tt)
  bids_steady v h false = tt

  passes_steady : (v x : ℕ) (by : Takeover) → R (passes_by s v x by)
  passes_steady v x ByPlaces = (tt, tt)
  passes_steady v x ByEntries = either (nat_lt (x + 1) s.slots) (passes v x) (Now Again) (tt, tt) tt

  local_steady : (v x : ℕ) (e : Entry) (by : Takeover) → R (local_by v x e by)
  local_steady v x e ByPlaces = tt
  local_steady v x e ByEntries = tt

  entry_is_steady : (v x : ℕ) (e : Entry) → R (seek_entry s seat v x e)
  entry_is_steady v x (Empty t) = tt
  entry_is_steady v x (Local t r) = local_steady v x (Local t r) s.takeover
  entry_is_steady v x (Job t r) = (tt, tt)
  entry_is_steady v x (Taken t q) = passes_steady v x s.takeover

  goes_on_steady : F → (v x : ℕ) (e : Entry) → R (goes_on_with seat v x e)
  goes_on_steady l v x (Job t r) = tt
  goes_on_steady l v x (Local t r) = l
  goes_on_steady l v x (Empty t) = tt
  goes_on_steady l v x (Taken t q) = tt

  at_bottom_steady : F → (v : ℕ) (kind : RestartKind) → R (at_bottom seat v kind)
  at_bottom_steady l v (Run g y) = tt
  at_bottom_steady l v (Bump r) = l
  at_bottom_steady l v (Push1 r) = tt
  at_bottom_steady l v (Push2 r) = tt
  at_bottom_steady l v (Unwind g) = tt
  at_bottom_steady l v (Arrive r d) = tt
  at_bottom_steady l v (Join r d) = tt
  at_bottom_steady l v Pop1 = tt
  at_bottom_steady l v (Pop2 r) = tt
  at_bottom_steady l v Seek = tt
  at_bottom_steady l v (Steal w x) = l
  at_bottom_steady l v (Check w x) = l
  at_bottom_steady l v (Take w x) = tt
  at_bottom_steady l v (Take2 w) = tt

  above_steady : (v b : ℕ) (kind : RestartKind) → R (above_bottom seat v b kind)
  above_steady v b (Run g y) = tt
  above_steady v b (Bump r) = tt
  above_steady v b (Push1 r) = tt
  above_steady v b (Push2 r) = tt
  above_steady v b (Unwind g) = tt
  above_steady v b (Arrive r d) = tt
  above_steady v b (Join r d) = tt
  above_steady v b Pop1 = tt
  above_steady v b (Pop2 r) = tt
  above_steady v b Seek = tt
  above_steady v b (Steal w x) = tt
  above_steady v b (Check w x) = tt
  above_steady v b (Take w x) = tt
  above_steady v b (Take2 w) = tt

  below_steady : (block : ℕ) (kind : RestartKind) → R (below_bottom seat block kind)
  below_steady block (Run g y) = tt
  below_steady block (Bump r) = tt
  below_steady block (Push1 r) = tt
  below_steady block (Push2 r) = tt
  below_steady block (Unwind g) = tt
  below_steady block (Arrive r d) = tt
  below_steady block (Join r d) = tt
  below_steady block Pop1 = tt
  below_steady block (Pop2 r) = tt
  below_steady block Seek = tt
  below_steady block (Steal w x) = tt
  below_steady block (Check w x) = tt
  below_steady block (Take w x) = tt
  below_steady block (Take2 w) = tt

  slot_steady : F → (v x block : ℕ) (closed : Restart) → R (by_slot seat v x block closed)
  slot_steady l v x block closed =
      either (x == closed.bottom) (at_bottom seat v closed.kind) (if x == closed.bottom + 1 then above_bottom seat v closed.bottom closed.kind else (if x + 1 == closed.bottom then below_bottom seat block closed.kind else Now (with_kind seat Seek)))
      (at_bottom_steady l v closed.kind)
      (either (x == closed.bottom + 1) (above_bottom seat v closed.bottom closed.kind) (if x + 1 == closed.bottom then below_bottom seat block closed.kind else Now (with_kind seat Seek))
      (above_steady v closed.bottom closed.kind)
      (either (x + 1 == closed.bottom) (below_bottom seat block closed.kind) (Now (with_kind seat Seek)) (below_steady block closed.kind) tt))

  link_is_steady : F → (block : ℕ) (kind : LinkKind) → R (closed_link seat block kind)
  link_is_steady l block (Called g y) = tt
  link_is_steady l block (Forked g y) = l
  link_is_steady l block Root = tt
  link_is_steady l block (Branch d r) = tt

  bottom_steady : (block : ℕ) (e : Entry) → R (closed_bottom seat block e)
  bottom_steady block (Taken t q) = either (nat_lt q 64) (Now (left_begins block seat.restart.bottom)) (Now (with_kind seat Seek)) tt tt
  bottom_steady block (Empty t) = tt
  bottom_steady block (Local t r) = tt
  bottom_steady block (Job t r) = tt

  lowered_steady : (v d : ℕ) (h : Holder) (tag : ℕ) → R (lowered tag seat v d h)
  lowered_steady v d h zero = tt
  lowered_steady v d h (suc tag) = (tt, tt)

  found_steady : (point : Point) → IsSteadyPoint F point → (v : ℕ) (w : Content) → R (found_at s seat v point w)
  found_steady (Header f y) l v w = number_steady (λ capsule. Now (Enter capsule)) (λ capsule. tt) w
  found_steady (BumpLink r) l v w = absurd l
  found_steady (PushOrder r) l v w = number_steady (push_by_order seat r) (λ x. either (x == both) (Now (left_begins r seat.restart.bottom)) (Now (Load (PushAbove r))) tt tt) w
  found_steady (PushAbove r) l v w = entry_steady (push_above seat r) (λ e. tried_steady (EntryWord seat.place (seat.restart.bottom + 1)) e (pushed_above e) (with_kind seat (Push2 r)) tt tt) w
  found_steady (PushBottom r) l v w = entry_steady (push_bottom seat r) (λ e. tried_steady (EntryWord seat.place seat.restart.bottom) e (pushed_job e r) (left_begins r (seat.restart.bottom + 1)) tt tt) w
  found_steady (UnwindLink f) l v w = link_steady (λ link. unwind_by f link.kind) (λ link. unwind_steady f link.kind) w
  found_steady (UnwindOutcome f link) l v w = outcome_steady (unwound seat f link) (unwound_steady f link) w
  found_steady (Target f g y right_of) l v w = number_steady (target_found seat f g y right_of) (target_steady f g y right_of) w
  found_steady (GivenValue f g y x right_of) l v w = number_steady (value_found s seat g y x right_of) (value_steady g y x right_of) w
  found_steady (JoinOrder r d) l v w = number_steady (join_by_order seat r d) (λ x. joins_steady r (x == first d) (is_inline x d) (is_last x d)) w
  found_steady (JoinLink r) l v w = link_steady (λ link. join_by r link.kind) (λ link. join_by_steady r link.kind) w
  found_steady (JoinLeft r g y) l v w = outcome_steady (λ left. Now (Load (JoinRight r g y left))) (λ left. tt) w
  found_steady (JoinRight r g y left) l v w = outcome_steady (λ right. join_outcome seat r g y (outcome_of_both left right)) (λ right. joined_steady r g y (outcome_of_both left right)) w
  found_steady (RightFrame r g y) l v w = number_steady (right_value s r g y) (λ x. there_steady (r + x) (Now (Load (Target (r + x) g y None))) tt) w
  found_steady (Offset r b) l v w = number_steady (right_begins s r b) (λ x. there_steady (r + x) (Now (Begin r (r + x) b)) tt) w
  found_steady PopBelow l v w = entry_steady (get_back seat) get_back_steady w
  found_steady (PopAgain r) l v w = entry_steady (got_back seat r) (got_back_steady r) w
  found_steady (PopAbove r) l v w = entry_steady (empty_above seat r) (λ e. tried_steady (EntryWord seat.place seat.restart.bottom) e (popped_above e) (Load (Offset r (seat.restart.bottom - 1))) tt tt) w
  found_steady SeekHolder l v w = holder_steady (seek_holder s seat v) (λ h. either (v == seat.place) (Now Again) (seek_by s seat v h s.takeover) tt (by_steady v h s.takeover)) w
  found_steady (SeekDead u h) l v w = number_steady (seek_dead seat u h) (λ d. either (d == 1) (bids seat u h (nat_lt (h.tag + 1) (2 ^ 58))) (Now (Load (SeekTop u))) (bids_steady u h (nat_lt (h.tag + 1) (2 ^ 58))) tt) w
  found_steady (SeekTop u) l v w = number_steady (seek_top s u) (λ x. either (nat_lt x s.slots) (Now (Load (SeekEntry u x))) (Now Broken) tt tt) w
  found_steady (SeekEntry u x) l v w = entry_steady (seek_entry s seat u x) (entry_is_steady u x) w
  found_steady (SeekClosed u x e) l v w = number_steady (seek_closed seat u x e) (λ d. either (d == 1) _ (Now Again) (tt, tt) tt) w
  found_steady (StealMessage u x) l v w = entry_steady (steals s seat u x) (λ e. changed_steady (EntryWord u x) e (taken_so s.takeover seat.place e) (with_kind seat (Check u x)) tt tt) w
  found_steady (TakenMessage by u x) l v w = entry_steady (taken_message s by u x) (λ e. either (can_be_taken s.takeover e) (Now (Load (TakenEntry by u x e))) (Now Broken) l tt) w
  found_steady (TakenEntry by u x message) l v w = entry_steady (taken_entry seat by u x message)
      (λ e. either (took by message e) (goes_on_with seat u x message) (Now (with_kind seat Seek)) (goes_on_steady l u x message) tt) w
  found_steady (ClosedRestart u x block) l v w = restart_steady (follows s seat u x block)
      (λ closed. either (restart_is_there s closed) (by_slot seat u x block closed) (Now Broken) (slot_steady l u x block closed) tt) w
  found_steady (ClosedLink block) l v w = link_steady (λ link. closed_link seat block link.kind) (λ link. link_is_steady l block link.kind) w
  found_steady (ClosedBottom u x block) l v w = entry_steady (closed_bottom seat block) (bottom_steady block) w
  found_steady (BidMessage u d) l v w = holder_steady (makes_bid seat u d)
      (λ h. either (h.processor == seat.own) (lowered h.tag seat u d h) (Now (with_kind seat Seek)) (lowered_steady u d h h.tag) tt) w
  found_steady (BidAgain u) l v w = holder_steady (bid_again seat u) (λ h. either (h.processor == seat.own) (Now (Load (BidHolder u h))) (Now (with_kind seat Seek)) tt tt) w
  found_steady (BidHolder u message) l v w = holder_steady (bid_holder seat u message)
      (λ h. either ((message.tag == h.tag) && (message.processor == h.processor)) (Now (Move u)) (Now (with_kind seat Seek)) tt tt) w

  -- whatever a row comes to is such a row
  comes_steady : (n : ℕ) (row rest : Row) → SteadyRow F row → Comes s seat n row rest → SteadyRow F rest
  comes_steady zero row rest l q = subst (SteadyRow F) q l
  comes_steady (suc n) (Now (Load point)) rest l q = comes_steady n (found_at s seat q.0 point q.1) rest (found_steady point l q.0 q.1) q.2
  comes_steady (suc n) (Store c w next) rest l q = comes_steady n (Now next) rest l.1 q
  comes_steady (suc n) (Exchange c old new next) rest l q = comes_steady n (Now next) rest l.1 q
  comes_steady (suc n) (Now (Install x)) rest l q = absurd q
  comes_steady (suc n) (Now (Fork x)) rest l q = absurd q
  comes_steady (suc n) (Now (Begin x y z)) rest l q = absurd q
  comes_steady (suc n) (Now (Move x)) rest l q = absurd q
  comes_steady (suc n) (Now (Enter x)) rest l q = absurd q
  comes_steady (suc n) (Now Again) rest l q = absurd q
  comes_steady (suc n) (Now Broken) rest l q = absurd q

  -- with takeover by entries the rows of takes are none
  bid_steady : (by : Takeover) (row : Row) → R row → R (by_places by row)
  bid_steady ByPlaces row a = a
  bid_steady ByEntries row a = tt

  row_steady : (k : RestartKind) → IsSteady k → (IsCheck k → F) → R (row_of s seat k)
  row_steady (Run f y) l may = tt
  row_steady (Bump r) l may = absurd l
  row_steady (Push1 r) l may = push_steady r s.takeover (seat.restart.bottom + 1 == s.slots)
  row_steady (Push2 r) l may = tt
  row_steady (Unwind f) l may = tt
  row_steady (Arrive r d) l may = (tt, tt)
  row_steady (Join r d) l may = tt
  row_steady Pop1 l may = tt
  row_steady (Pop2 r) l may = tt
  row_steady Seek l may = tt
  row_steady (Steal v x) l may = tt
  row_steady (Check v x) l may = may tt
  row_steady (Take v x) l may = bid_steady s.takeover (Now (Load (BidMessage v x))) tt
  row_steady (Take2 v) l may = bid_steady s.takeover (Now (Load (BidAgain v))) tt

pub rows_are_steady : RowsAreSteady
rows_are_steady s seat n k rest steady q = comes_steady s seat (IsCheck k) n (row_of s seat k) rest (row_steady s seat (IsCheck k) k steady (λ l. l)) q
