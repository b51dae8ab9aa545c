-- What a row stores and exchanges, with either takeover: one walk over all loads and kinds, for any
-- predicates of the cells.
use Rattle.std.proofs.Common.{◌≡◌, ◌<◌, ◌+◌, ◌-◌, ◌==◌, ℕ, zero, suc, Bool, true, false, if◌then◌else◌, Option, Some, None, inl, inr, refl, arith}
use Rattle.std.specs.Prelude.{nat_lt, ◌^◌, ◌&&◌}
use Rattle.std.proofs.lemmas.Bool.{ltb-true}
use Rattle.ppm_cells.specs.Cells.{word_count}
use Rattle.ppm_cells.specs.Entry.{IsEntry}
use Rattle.ppm_cells.specs.declared.cell.Cell.{Cell}
use Rattle.ppm_cells.specs.declared.cell.Cell.TheVariants.{FinishWord, MessageWord, HolderWord, Top, RoomCounter, EntryWord, BlockWord}
use Rattle.ppm_cells.specs.declared.entry.Entry.{Entry}
use Rattle.ppm_cells.specs.declared.entry.Entry.TheVariants.{Empty, Local, Job, Taken}
use Rattle.ppm_cells.specs.declared.finish.Finish.{Finish}
use Rattle.ppm_cells.specs.declared.finish.Finish.TheVariants.{Ended, Trapped}
use Rattle.ppm_cells.specs.declared.holder.Holder.{Holder}
use Rattle.ppm_cells.specs.declared.link.Link.{Link}
use Rattle.ppm_cells.specs.declared.link.LinkKind.{LinkKind}
use Rattle.ppm_cells.specs.declared.link.LinkKind.TheVariants.{Root, Call as CallLink, Branch, Fork as ForkLink}
use Rattle.ppm_cells.specs.declared.restart.Restart.{Restart}
use Rattle.ppm_cells.specs.declared.restart.RestartKind.{RestartKind}
use Rattle.ppm_cells.specs.declared.restart.RestartKind.TheVariants.{Run, Bump, Push1, Push2, Unwind, Arrive, Join, Pop1, Pop2, Seek, Steal, Check, Take, Take2}
use Rattle.ppm_cells.specs.declared.shape.Shape.{Shape}
use Rattle.ppm_cells.specs.declared.shape.Takeover.{Takeover}
use Rattle.ppm_cells.specs.declared.shape.Takeover.TheVariants.{ByPlaces, ByEntries}
use Rattle.ppm_cells.specs.declared.side.Side.TheVariants.{Left, Right}
use Rattle.ppm_cells.specs.DequeChange.{tag_of, Changes}
use Rattle.ppm_cells.specs.JoinOrder.{first, both}
use Rattle.ppm_cells.specs.JoinOutcome.{outcome_of_both}
use Rattle.ppm_step.specs.Contents.{IsContent}
use Rattle.ppm_step.specs.Rows.{on_number, on_restart, on_entry, on_holder, on_link, on_finish, on_outcome, with_kind, raised, bumped, left_begins, pushes, push_at, push_above, push_bottom, unwind_by, back_to, unwound, after_value, target_found, joins, is_inline, is_last, join_by, join_outcome, get_back, got_back, empty_above, seek_held, seek_by, bids, passes_by, local_by, seek_entry, taken_so, changed, can_be_taken, took, goes_on_with, at_bottom, above_bottom, below_bottom, follows, closed_link, closed_bottom, lowered, found_at, by_places, row_of}
use Rattle.ppm_step.specs.There.{restart_is_there}
use Rattle.ppm_step.specs.declared.content.Content.{Content}
use Rattle.ppm_step.specs.declared.content.Content.TheVariants.{ANumber, ARestart, AnEntry, AHolder, ALink, AFinish}
use Rattle.ppm_step.specs.declared.row.Point.{Point}
use Rattle.ppm_step.specs.declared.row.Point.TheVariants.{Header, BumpLink, PushOrder, PushAbove, PushBottom, UnwindLink, UnwindOutcome, Target, GivenValue}
use Rattle.ppm_step.specs.declared.row.Point.TheVariants.{JoinOrder, JoinLink, JoinLeft, JoinRight, RightFrame, Offset, PopBelow, PopAgain, PopAbove}
use Rattle.ppm_step.specs.declared.row.Point.TheVariants.{SeekHolder, SeekDead, SeekTop, SeekEntry, SeekClosed, StealMessage, TakenMessage, TakenEntry}
use Rattle.ppm_step.specs.declared.row.Point.TheVariants.{ClosedRestart, ClosedLink, ClosedBottom, BidMessage, BidAgain, BidHolder}
use Rattle.ppm_step.specs.declared.row.Row.{Row}
use Rattle.ppm_step.specs.declared.row.Row.TheVariants.{Now, Store, Exchange}
use Rattle.ppm_step.specs.declared.row.Seat.{Seat}
use Rattle.ppm_step.specs.declared.row.Then.{Then}
use Rattle.ppm_step.specs.declared.row.Then.TheVariants.{Load, Move}

-- what is known of a load that comes next: a block that is to be pushed fits an entry, and bids are
-- made by places alone
abbrev pub FairPoint : Takeover → Point → Type 0
FairPoint how (PushBottom block) = block < 2 ^ 28
FairPoint how (BidMessage v d) = how ≡ ByPlaces
FairPoint how (BidAgain v) = how ≡ ByPlaces
FairPoint how (BidHolder v message) = how ≡ ByPlaces
FairPoint how _ = Unit {0}

abbrev pub FairThen : Takeover → Then → Type 0
FairThen how (Load point) = FairPoint how point
FairThen how (Move place) = how ≡ ByPlaces
FairThen how _ = Unit {0}

-- a row whose stores and exchanges are of these
abbrev pub FairRow : Takeover → (Puts : Cell → Content → Type 0) → (Trys : Cell → (old new : Content) → Type 0) → Row → Type 0
FairRow how Puts Trys (Now next) = FairThen how next
FairRow how Puts Trys (Store c x next) = Puts c x × FairThen how next
FairRow how Puts Trys (Exchange c old new next) = Trys c old new × FairThen how next

-- what rows of a seat store and exchange
pub record Walk (how : Takeover) (Puts : Cell → Content → Type 0) (Trys : Cell → (old new : Content) → Type 0) (seat : Seat) : Type 0 where
  pub counter : (x : Content) → Puts (RoomCounter seat.place) x
  pub block : (a : ℕ) (x : Content) → Puts (BlockWord a) x
  pub message : (x : Content) → Puts (MessageWord seat.place) x
  pub finish : (old new : Content) → Trys FinishWord old new
  pub order : (a : ℕ) (old new : Content) → Trys (BlockWord a) old new
  pub top : (v : ℕ) (old new : Content) → Trys (Top v) old new
  pub entry : (v i : ℕ) (old new : Entry) → Changes how old new → IsEntry old → IsEntry new → Trys (EntryWord v i) (AnEntry old) (AnEntry new)
  pub holder : how ≡ ByPlaces → (v : ℕ) (old new : Content) → Trys (HolderWord v) old new

module _ (how : Takeover) (Puts : Cell → Content → Type 0) (Trys : Cell → (old new : Content) → Type 0) (seat : Seat) (walk : Walk how Puts Trys seat) where
  number_fair : (w : Content) (go : ℕ → Row) → ((n : ℕ) → FairRow how Puts Trys (go n)) → FairRow how Puts Trys (on_number w go)
  number_fair (ANumber n) go f = f n
  number_fair _ go f = tt

  restart_fair : (w : Content) (go : Restart → Row) → ((n : Restart) → FairRow how Puts Trys (go n)) → FairRow how Puts Trys (on_restart w go)
  restart_fair (ARestart n) go f = f n
  restart_fair _ go f = tt

  entry_fair : (w : Content) (go : Entry → Row) → IsContent w → ((n : Entry) → IsEntry n → FairRow how Puts Trys (go n)) → FairRow how Puts Trys (on_entry w go)
  entry_fair (AnEntry n) go fit f = f n fit
  entry_fair _ go fit f = tt

  holder_fair : (w : Content) (go : Holder → Row) → ((n : Holder) → FairRow how Puts Trys (go n)) → FairRow how Puts Trys (on_holder w go)
  holder_fair (AHolder n) go f = f n
  holder_fair _ go f = tt

  link_fair : (w : Content) (go : Link → Row) → ((n : Link) → FairRow how Puts Trys (go n)) → FairRow how Puts Trys (on_link w go)
  link_fair (ALink n) go f = f n
  link_fair _ go f = tt

  finish_fair : (o : Finish) (go : Finish → Row) → ((n : Finish) → FairRow how Puts Trys (go n)) → FairRow how Puts Trys (on_finish o go)
  finish_fair Ended go f = f Ended
  finish_fair (Trapped trap line) go f = f (Trapped trap line)
  finish_fair _ go f = tt

  outcome_fair : (w : Content) (go : Finish → Row) → ((n : Finish) → FairRow how Puts Trys (go n)) → FairRow how Puts Trys (on_outcome w go)
  outcome_fair (AFinish o) go f = finish_fair o go f
  outcome_fair _ go f = tt

  if_fair : (y : Bool) (a c : Row) → FairRow how Puts Trys a → FairRow how Puts Trys c → FairRow how Puts Trys (if y then a else c)
  if_fair true a c f g = f
  if_fair false a c f g = g

  raised_fair : (v i : ℕ) (old new : Entry) (next : Then) → FairThen how next → Changes how old new → IsEntry old → (tag_of old + 1 < 2 ^ 34 → IsEntry new)
      → FairRow how Puts Trys (raised (EntryWord v i) old new next (nat_lt (tag_of old + 1) (2 ^ 34)))
  raised_fair v i old new next f law fit fits = by (nat_lt (tag_of old + 1) (2 ^ 34)) refl
    where
      by : (y : Bool) → nat_lt (tag_of old + 1) (2 ^ 34) ≡ y → FairRow how Puts Trys (raised (EntryWord v i) old new next y)
      by true e = (walk.entry v i old new law fit (fits (ltb-true (tag_of old + 1) (2 ^ 34) e)), f)
      by false e = tt

  after_fair : (to copy : ℕ) (right_of : Option ℕ) → FairThen how (after_value seat to copy right_of)
  after_fair to copy None = tt
  after_fair to copy (Some block) = tt

  above_fair : (block : ℕ) (entry : Entry) → IsEntry entry → FairRow how Puts Trys (push_above seat block entry)
  above_fair block (Empty t) fit =
      raised_fair seat.place (seat.restart.bottom + 1) (Empty t) (Local (t + 1) 0) (with_kind seat (Push2 block)) tt (inl (refl, refl)) fit (λ lt. (omega arith, (lt, (omega arith, tt))))
  above_fair block (Local t x) fit = tt
  above_fair block (Job t x) fit = tt
  above_fair block (Taken t x) fit = tt

  bottom_fair : (block : ℕ) → block < 2 ^ 28 → (entry : Entry) → IsEntry entry → FairRow how Puts Trys (push_bottom seat block entry)
  bottom_fair block small (Local t x) fit =
      raised_fair seat.place seat.restart.bottom (Local t x) (Job (t + 1) block) (left_begins block (seat.restart.bottom + 1)) tt (inl refl) fit (λ lt. (small, (lt, (omega arith, tt))))
  bottom_fair block small (Empty t) fit = tt
  bottom_fair block small (Job t x) fit = tt
  bottom_fair block small (Taken t x) fit = tt

  back_fair : (frame to copy : ℕ) (o : Finish) → FairRow how Puts Trys (back_to seat frame to copy o)
  back_fair frame to copy Ended = tt
  back_fair frame to copy _ = (walk.block _ _, tt)

  unwound_fair : (frame : ℕ) (kind : LinkKind) (o : Finish) → FairRow how Puts Trys (unwound seat frame kind o)
  unwound_fair frame Root o = (walk.finish _ _, tt)
  unwound_fair frame (CallLink to copy) o = back_fair frame to copy o
  unwound_fair frame (Branch Left block) o = (walk.block _ _, tt)
  unwound_fair frame (Branch Right block) o = (walk.block _ _, tt)
  unwound_fair frame (ForkLink to copy) o = tt

  unwind_fair : (frame : ℕ) (kind : LinkKind) → FairRow how Puts Trys (unwind_by frame kind)
  unwind_fair frame (ForkLink to copy) = tt
  unwind_fair frame Root = tt
  unwind_fair frame (CallLink to copy) = tt
  unwind_fair frame (Branch side block) = tt

  bumped_fair : (block size : ℕ) (kind : LinkKind) → FairRow how Puts Trys (bumped seat block size kind)
  bumped_fair block size (CallLink frame copy) = (walk.counter _, tt)
  bumped_fair block size (ForkLink frame copy) = (walk.counter _, tt)
  bumped_fair block size _ = tt

  target_fair : (frame to copy : ℕ) (right_of : Option ℕ) (target : ℕ) → FairRow how Puts Trys (target_found seat frame to copy right_of target)
  target_fair frame to copy right_of zero = after_fair to copy right_of
  target_fair frame to copy right_of (suc slot) = tt

  joins_fair : (block : ℕ) (x y z : Bool) → FairRow how Puts Trys (joins seat block x y z)
  joins_fair block true y z = tt
  joins_fair block false true z = tt
  joins_fair block false false true = tt
  joins_fair block false false false = tt

  join_by_fair : (block : ℕ) (kind : LinkKind) → FairRow how Puts Trys (join_by block kind)
  join_by_fair block (ForkLink to copy) = tt
  join_by_fair block _ = tt

  join_fair : (block to copy : ℕ) (o : Finish) → FairRow how Puts Trys (join_outcome seat block to copy o)
  join_fair block to copy Ended = tt
  join_fair block to copy _ = (walk.block _ _, tt)

  get_back_fair : (entry : Entry) → IsEntry entry → FairRow how Puts Trys (get_back seat entry)
  get_back_fair (Empty t) fit = tt
  get_back_fair (Local t x) fit = tt
  get_back_fair (Job t x) fit =
      raised_fair seat.place (seat.restart.bottom - 1) (Job t x) (Local (t + 1) x) (with_kind seat (Pop2 x)) tt (inl (refl, refl)) fit (λ lt. (fit.0, (lt, (omega arith, tt))))
  get_back_fair (Taken t x) fit = tt

  got_back_fair : (block : ℕ) (entry : Entry) → FairRow how Puts Trys (got_back seat block entry)
  got_back_fair block (Empty t) = tt
  got_back_fair block (Local t x) = tt
  got_back_fair block (Job t x) = tt
  got_back_fair block (Taken t x) = tt

  empty_fair : (block : ℕ) (entry : Entry) → IsEntry entry → FairRow how Puts Trys (empty_above seat block entry)
  empty_fair block (Local t x) fit =
      raised_fair seat.place seat.restart.bottom (Local t x) (Empty (t + 1)) (Load (Offset block (seat.restart.bottom - 1))) tt (inl refl) fit (λ lt. (omega arith, (lt, (omega arith, tt))))
  empty_fair block (Empty t) fit = tt
  empty_fair block (Job t x) fit = tt
  empty_fair block (Taken t x) fit = tt

  held_fair : (s : Shape) (v : ℕ) (holder : Holder) (y : Bool) → FairRow how Puts Trys (seek_held s seat v holder y)
  held_fair s v holder true = tt
  held_fair s v holder false = tt

  by_fair : (s : Shape) (v : ℕ) (holder : Holder) (t : Takeover) → FairRow how Puts Trys (seek_by s seat v holder t)
  by_fair s v holder ByPlaces = held_fair s v holder (holder.processor == seat.own)
  by_fair s v holder ByEntries = tt

  bids_fair : (v : ℕ) (holder : Holder) (y : Bool) → FairRow how Puts Trys (bids seat v holder y)
  bids_fair v holder true = (walk.message _, tt)
  bids_fair v holder false = tt

  passes_fair : (s : Shape) (v i : ℕ) (t : Takeover) → FairRow how Puts Trys (passes_by s v i t)
  passes_fair s v i ByPlaces = (walk.top _ _ _, tt)
  passes_fair s v i ByEntries = if_fair (nat_lt (i + 1) s.slots) _ _ (walk.top _ _ _, tt) tt

  local_fair : (v i : ℕ) (entry : Entry) (t : Takeover) → FairRow how Puts Trys (local_by v i entry t)
  local_fair v i entry ByPlaces = tt
  local_fair v i entry ByEntries = tt

  seek_entry_fair : (s : Shape) (v i : ℕ) (entry : Entry) → FairRow how Puts Trys (seek_entry s seat v i entry)
  seek_entry_fair s v i (Empty t) = tt
  seek_entry_fair s v i (Local t x) = local_fair v i (Local t x) s.takeover
  seek_entry_fair s v i (Job t x) = (walk.message _, tt)
  seek_entry_fair s v i (Taken t x) = passes_fair s v i s.takeover

  goes_on_fair : (v i : ℕ) (entry : Entry) → FairRow how Puts Trys (goes_on_with seat v i entry)
  goes_on_fair v i (Job t x) = tt
  goes_on_fair v i (Local t x) = tt
  goes_on_fair v i (Empty t) = tt
  goes_on_fair v i (Taken t x) = tt

  at_fair : (v : ℕ) (kind : RestartKind) → FairRow how Puts Trys (at_bottom seat v kind)
  at_fair v (Run frame copy) = tt
  at_fair v (Bump block) = tt
  at_fair v (Push1 block) = tt
  at_fair v (Push2 block) = tt
  at_fair v (Unwind frame) = tt
  at_fair v (Arrive block side) = tt
  at_fair v (Join block side) = tt
  at_fair v (Steal other slot) = tt
  at_fair v (Check other slot) = tt
  at_fair v _ = tt

  above_bottom_fair : (v low : ℕ) (kind : RestartKind) → FairRow how Puts Trys (above_bottom seat v low kind)
  above_bottom_fair v low (Push2 block) = tt
  above_bottom_fair v low _ = tt

  below_bottom_fair : (block : ℕ) (kind : RestartKind) → FairRow how Puts Trys (below_bottom seat block kind)
  below_bottom_fair block Pop1 = tt
  below_bottom_fair block (Pop2 other) = tt
  below_bottom_fair block _ = tt

  follows_fair : (s : Shape) (v i block : ℕ) (closed : Restart) → FairRow how Puts Trys (follows s seat v i block closed)
  follows_fair s v i block closed =
      if_fair (restart_is_there s closed) _ _
      (if_fair (i == closed.bottom) _ _ (at_fair v closed.kind)
      (if_fair (i == closed.bottom + 1) _ _ (above_bottom_fair v closed.bottom closed.kind)
      (if_fair (i + 1 == closed.bottom) _ _ (below_bottom_fair block closed.kind) tt))) tt

  closed_link_fair : (block : ℕ) (kind : LinkKind) → FairRow how Puts Trys (closed_link seat block kind)
  closed_link_fair block (CallLink frame copy) = tt
  closed_link_fair block (ForkLink frame copy) = tt
  closed_link_fair block _ = tt

  closed_bottom_fair : (block : ℕ) (entry : Entry) → FairRow how Puts Trys (closed_bottom seat block entry)
  closed_bottom_fair block (Taken t x) = if_fair (nat_lt x 64) _ _ tt tt
  closed_bottom_fair block (Empty t) = tt
  closed_bottom_fair block (Local t x) = tt
  closed_bottom_fair block (Job t x) = tt

  lowered_fair : how ≡ ByPlaces → (tag : ℕ) (v d : ℕ) (message : Holder) → FairRow how Puts Trys (lowered tag seat v d message)
  lowered_fair e zero v d message = tt
  lowered_fair e (suc tag) v d message = (walk.holder e _ _ _, tt)

  pushes_fair : (block : ℕ) (t : Takeover) → FairRow how Puts Trys (pushes seat block t)
  pushes_fair block ByPlaces = tt
  pushes_fair block ByEntries = tt

  push_fair : (t : Takeover) (block : ℕ) (y : Bool) → FairRow how Puts Trys (push_at seat t block y)
  push_fair t block true = (walk.block _ _, tt)
  push_fair t block false = pushes_fair block t

  places_fair : (t : Takeover) (row : Row) → (t ≡ ByPlaces → FairRow how Puts Trys row) → FairRow how Puts Trys (by_places t row)
  places_fair ByPlaces row f = f refl
  places_fair ByEntries row f = tt

-- what a thief makes of an entry
steals_fair : (how : Takeover) (Puts : Cell → Content → Type 0) (Trys : Cell → (old new : Content) → Type 0) (seat : Seat) (walk : Walk how Puts Trys seat) (v i : ℕ) → seat.place < 64 → (entry : Entry) → IsEntry entry
    → FairRow how Puts Trys (changed (EntryWord v i) entry (taken_so how seat.place entry) (with_kind seat (Check v i)))
steals_fair ByPlaces Puts Trys seat walk v i small (Job t x) fit =
    raised_fair ByPlaces Puts Trys seat walk v i (Job t x) (Taken (t + 1) seat.place) (with_kind seat (Check v i)) tt (inr (seat.place, small, (refl, refl))) fit
    (λ lt. (omega (arith, small), (omega arith, (lt, (omega arith, tt)))))
steals_fair ByPlaces Puts Trys seat walk v i small (Empty t) fit = tt
steals_fair ByPlaces Puts Trys seat walk v i small (Local t x) fit = tt
steals_fair ByPlaces Puts Trys seat walk v i small (Taken t x) fit = tt
steals_fair ByEntries Puts Trys seat walk v i small (Job t x) fit =
    raised_fair ByEntries Puts Trys seat walk v i (Job t x) (Taken (t + 1) seat.place) (with_kind seat (Check v i)) tt (inr (seat.place, small, (refl, refl))) fit
    (λ lt. (omega (arith, small), (omega arith, (lt, (omega arith, tt)))))
steals_fair ByEntries Puts Trys seat walk v i small (Local t x) fit =
    raised_fair ByEntries Puts Trys seat walk v i (Local t x) (Taken (t + 1) (seat.place + 64)) (with_kind seat (Check v i)) tt (inr (seat.place, small, (refl, refl))) fit
    (λ lt. (omega (arith, small), (omega arith, (lt, (omega arith, tt)))))
steals_fair ByEntries Puts Trys seat walk v i small (Empty t) fit = tt
steals_fair ByEntries Puts Trys seat walk v i small (Taken t x) fit = tt

module _ (s : Shape) (Puts : Cell → Content → Type 0) (Trys : Cell → (old new : Content) → Type 0) (seat : Seat) (walk : Walk s.takeover Puts Trys seat) (small : seat.place < 64) where
  pub found_fair : (u : ℕ) (point : Point) (w : Content) → FairPoint s.takeover point → IsContent w → FairRow s.takeover Puts Trys (found_at s seat u point w)
  found_fair u (Header frame copy) w q fit = number_fair s.takeover Puts Trys seat walk w _ (λ n. tt)
  found_fair u (BumpLink block) w q fit = link_fair s.takeover Puts Trys seat walk w _ (λ l. bumped_fair s.takeover Puts Trys seat walk block l.size l.kind)
  found_fair u (PushOrder block) w q fit = number_fair s.takeover Puts Trys seat walk w _ (λ n. if_fair s.takeover Puts Trys seat walk (n == both) _ _ tt tt)
  found_fair u (PushAbove block) w q fit = entry_fair s.takeover Puts Trys seat walk w _ fit (above_fair s.takeover Puts Trys seat walk block)
  found_fair u (PushBottom block) w q fit = entry_fair s.takeover Puts Trys seat walk w _ fit (bottom_fair s.takeover Puts Trys seat walk block q)
  found_fair u (UnwindLink frame) w q fit = link_fair s.takeover Puts Trys seat walk w _ (λ l. unwind_fair s.takeover Puts Trys seat walk frame l.kind)
  found_fair u (UnwindOutcome frame link) w q fit = outcome_fair s.takeover Puts Trys seat walk w _ (unwound_fair s.takeover Puts Trys seat walk frame link)
  found_fair u (Target frame to copy right_of) w q fit = number_fair s.takeover Puts Trys seat walk w _ (target_fair s.takeover Puts Trys seat walk frame to copy right_of)
  found_fair u (GivenValue frame to copy target right_of) w q fit =
      number_fair s.takeover Puts Trys seat walk w _ (λ n. if_fair s.takeover Puts Trys seat walk (nat_lt (to + 5 + target) (word_count s)) _ _ (walk.block _ _, after_fair s.takeover Puts Trys seat walk to copy right_of) tt)
  found_fair u (JoinOrder block side) w q fit = number_fair s.takeover Puts Trys seat walk w _ (λ n. joins_fair s.takeover Puts Trys seat walk block (n == first side) (is_inline n side) (is_last n side))
  found_fair u (JoinLink block) w q fit = link_fair s.takeover Puts Trys seat walk w _ (λ l. join_by_fair s.takeover Puts Trys seat walk block l.kind)
  found_fair u (JoinLeft block to copy) w q fit = outcome_fair s.takeover Puts Trys seat walk w _ (λ o. tt)
  found_fair u (JoinRight block to copy left) w q fit = outcome_fair s.takeover Puts Trys seat walk w _ (λ o. join_fair s.takeover Puts Trys seat walk block to copy (outcome_of_both left o))
  found_fair u (RightFrame block to copy) w q fit = number_fair s.takeover Puts Trys seat walk w _ (λ n. if_fair s.takeover Puts Trys seat walk (nat_lt (block + n) (word_count s)) _ _ tt tt)
  found_fair u (Offset block low) w q fit = number_fair s.takeover Puts Trys seat walk w _ (λ n. if_fair s.takeover Puts Trys seat walk (nat_lt (block + n) (word_count s)) _ _ tt tt)
  found_fair u PopBelow w q fit = entry_fair s.takeover Puts Trys seat walk w _ fit (get_back_fair s.takeover Puts Trys seat walk)
  found_fair u (PopAgain block) w q fit = entry_fair s.takeover Puts Trys seat walk w _ fit (λ e f. got_back_fair s.takeover Puts Trys seat walk block e)
  found_fair u (PopAbove block) w q fit = entry_fair s.takeover Puts Trys seat walk w _ fit (empty_fair s.takeover Puts Trys seat walk block)
  found_fair u SeekHolder w q fit = holder_fair s.takeover Puts Trys seat walk w _ (λ o. if_fair s.takeover Puts Trys seat walk (u == seat.place) _ _ tt (by_fair s.takeover Puts Trys seat walk s u o s.takeover))
  found_fair u (SeekDead v holder) w q fit = number_fair s.takeover Puts Trys seat walk w _ (λ n. if_fair s.takeover Puts Trys seat walk (n == 1) _ _ (bids_fair s.takeover Puts Trys seat walk v holder (nat_lt (holder.tag + 1) (2 ^ 58))) tt)
  found_fair u (SeekTop v) w q fit = number_fair s.takeover Puts Trys seat walk w _ (λ n. if_fair s.takeover Puts Trys seat walk (nat_lt n s.slots) _ _ tt tt)
  found_fair u (SeekEntry v i) w q fit = entry_fair s.takeover Puts Trys seat walk w _ fit (λ e f. seek_entry_fair s.takeover Puts Trys seat walk s v i e)
  found_fair u (SeekClosed v i entry) w q fit = number_fair s.takeover Puts Trys seat walk w _ (λ n. if_fair s.takeover Puts Trys seat walk (n == 1) _ _ (walk.message _, tt) tt)
  found_fair u (StealMessage v i) w q fit = entry_fair s.takeover Puts Trys seat walk w _ fit (steals_fair s.takeover Puts Trys seat walk v i small)
  found_fair u (TakenMessage by v i) w q fit = entry_fair s.takeover Puts Trys seat walk w _ fit (λ e f. if_fair s.takeover Puts Trys seat walk (can_be_taken s.takeover e) _ _ tt tt)
  found_fair u (TakenEntry by v i message) w q fit = entry_fair s.takeover Puts Trys seat walk w _ fit (λ e f. if_fair s.takeover Puts Trys seat walk (took by message e) _ _ (goes_on_fair s.takeover Puts Trys seat walk v i message) tt)
  found_fair u (ClosedRestart v i block) w q fit = restart_fair s.takeover Puts Trys seat walk w _ (follows_fair s.takeover Puts Trys seat walk s v i block)
  found_fair u (ClosedLink block) w q fit = link_fair s.takeover Puts Trys seat walk w _ (λ l. closed_link_fair s.takeover Puts Trys seat walk block l.kind)
  found_fair u (ClosedBottom v i block) w q fit = entry_fair s.takeover Puts Trys seat walk w _ fit (λ e f. closed_bottom_fair s.takeover Puts Trys seat walk block e)
  found_fair u (BidMessage v d) w q fit = holder_fair s.takeover Puts Trys seat walk w _ (λ o. if_fair s.takeover Puts Trys seat walk (o.processor == seat.own) _ _ (lowered_fair s.takeover Puts Trys seat walk q o.tag v d o) tt)
  found_fair u (BidAgain v) w q fit = holder_fair s.takeover Puts Trys seat walk w _ (λ o. if_fair s.takeover Puts Trys seat walk (o.processor == seat.own) _ _ q tt)
  found_fair u (BidHolder v message) w q fit = holder_fair s.takeover Puts Trys seat walk w _ (λ o. if_fair s.takeover Puts Trys seat walk ((message.tag == o.tag) && (message.processor == o.processor)) _ _ q tt)

  pub begun_fair : (kind : RestartKind) → ((block : ℕ) → kind ≡ Push2 block → block < 2 ^ 28) → FairRow s.takeover Puts Trys (row_of s seat kind)
  begun_fair (Push1 block) f = push_fair s.takeover Puts Trys seat walk s.takeover block (seat.restart.bottom + 1 == s.slots)
  begun_fair (Push2 block) f = f block refl
  begun_fair (Run frame copy) f = tt
  begun_fair (Bump block) f = tt
  begun_fair (Unwind frame) f = tt
  begun_fair (Arrive block side) f = (walk.order _ _ _, tt)
  begun_fair (Join block side) f = tt
  begun_fair Pop1 f = tt
  begun_fair (Pop2 block) f = tt
  begun_fair Seek f = tt
  begun_fair (Steal v i) f = tt
  begun_fair (Check v i) f = tt
  begun_fair (Take v d) f = places_fair s.takeover Puts Trys seat walk s.takeover _ (λ e. e)
  begun_fair (Take2 v) f = places_fair s.takeover Puts Trys seat walk s.takeover _ (λ e. e)
