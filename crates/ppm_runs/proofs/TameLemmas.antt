-- Which rows fork, begin a branch, or change block words: one walk over all loads, for any predicates of the
-- blocks and addresses. With takeover by entries a Check goes on through closed places.
use Rattle.std.proofs.Common.{◌≡◌, ◌⊎◌, ◌+◌, ◌-◌, ◌==◌, ℕ, zero, suc, Bool, true, false, if◌then◌else◌, List, [], ◌∷◌, Option, Some, None, inl, inr, refl, ◌∙◌, subst}
use Rattle.std.specs.Prelude.{nat_lt, ◌^◌, ◌&&◌}
use Rattle.ppm_cells.specs.Cells.{word_count}
use Rattle.ppm_cells.specs.declared.cell.Cell.{Cell}
use Rattle.ppm_cells.specs.declared.cell.Cell.TheVariants.{DeadWord, HolderWord, BlockWord, EntryWord}
use Rattle.ppm_cells.specs.declared.entry.Entry.{Entry}
use Rattle.ppm_cells.specs.declared.entry.Entry.TheVariants.{Empty, Local, Job, Taken}
use Rattle.ppm_cells.specs.declared.finish.Finish.{Finish}
use Rattle.ppm_cells.specs.declared.finish.Finish.TheVariants.{Ended, Trapped}
use Rattle.ppm_cells.specs.declared.holder.Holder.{Holder}
use Rattle.ppm_cells.specs.declared.link.Link.{Link}
use Rattle.ppm_cells.specs.declared.link.LinkKind.{LinkKind}
use Rattle.ppm_cells.specs.declared.link.LinkKind.TheVariants.{Root, Call as CallLink, Branch, Fork as ForkLink}
use Rattle.ppm_cells.specs.declared.restart.Restart.{Restart}
use Rattle.ppm_cells.specs.declared.restart.RestartKind.{RestartKind}
use Rattle.ppm_cells.specs.declared.restart.RestartKind.TheVariants.{Run, Bump, Push1, Push2, Unwind, Arrive, Join, Pop1, Pop2, Steal, Check}
use Rattle.ppm_cells.specs.declared.shape.Shape.{Shape}
use Rattle.ppm_cells.specs.declared.shape.Takeover.{Takeover}
use Rattle.ppm_cells.specs.declared.shape.Takeover.TheVariants.{ByPlaces, ByEntries}
use Rattle.ppm_cells.specs.declared.side.Side.TheVariants.{Left, Right}
use Rattle.ppm_cells.specs.DequeChange.{tag_of}
use Rattle.ppm_cells.specs.Transitions.{pushed_above, pushed_job, popped_above}
use Rattle.ppm_cells.specs.JoinOrder.{first, both}
use Rattle.ppm_cells.specs.JoinOutcome.{outcome_of_both}
use Rattle.ppm_step.specs.Contents.{content_of}
use Rattle.ppm_step.specs.Points.{cell_at, reading_at}
use Rattle.ppm_step.specs.Rows.{on_number, on_entry, on_holder, on_link, on_finish, on_outcome, raised, tried, changed, bumped, unwind_by, back_to, unwound, after_value, target_found, joins, is_inline, is_last, join_by, join_outcome, get_back, got_back, seek_by, seek_held, bids, passes_by, local_by, seek_entry, taken_so, can_be_taken, took, goes_on_with, lowered, found_at, on_restart, at_bottom, above_bottom, below_bottom, follows, closed_link, closed_bottom}
use Rattle.ppm_step.specs.There.{restart_is_there}
use Rattle.ppm_step.specs.declared.content.Content.{Content}
use Rattle.ppm_step.specs.declared.content.Content.TheVariants.{ANumber, ARestart, AnEntry, AHolder, ALink, AFinish}
use Rattle.ppm_step.specs.declared.row.Point.{Point}
use Rattle.ppm_step.specs.declared.row.Point.TheVariants.{Header, BumpLink, PushOrder, PushAbove, PushBottom, UnwindLink, UnwindOutcome, Target, GivenValue}
use Rattle.ppm_step.specs.declared.row.Point.TheVariants.{JoinOrder, JoinLink, JoinLeft, JoinRight, RightFrame, Offset, PopBelow, PopAgain, PopAbove}
use Rattle.ppm_step.specs.declared.row.Point.TheVariants.{SeekHolder, SeekDead, SeekTop, SeekEntry, SeekClosed, StealMessage, TakenMessage, TakenEntry}
use Rattle.ppm_step.specs.declared.row.Point.TheVariants.{ClosedRestart, ClosedLink, ClosedBottom, BidMessage, BidAgain, BidHolder}
use Rattle.ppm_step.specs.declared.row.Row.{Row}
use Rattle.ppm_step.specs.declared.row.Row.TheVariants.{Now, Store, Exchange}
use Rattle.ppm_step.specs.declared.row.Seat.{Seat}
use Rattle.ppm_step.specs.declared.row.Then.{Then}
use Rattle.ppm_step.specs.declared.row.Then.TheVariants.{Load, Install, Fork, Begin, Move, Enter, Again, Broken}
use Rattle.ppm_tickets.specs.Saw.{rest_of}
use Rattle.ppm_tickets.specs.View.{content_by}
use Rattle.ppm_tickets.specs.Words.{Word}
use Rattle.ppm_kept.specs.Kept.{Setting, Reach}

-- a job
abbrev pub IsJobEntry : Entry → Type 0
IsJobEntry (Job tag block) = Unit {0}
IsJobEntry _ = ⊥

-- what a row may fork, begin, store and exchange of blocks, of which it may make a job, and whether it may
-- fill an empty entry, and bid for a place; no row writes a dead word
pub record May : Type 1 where
  pub forks : ℕ → Type 0
  pub begins : ℕ → Type 0
  pub stores : ℕ → Type 0
  pub trades : ℕ → Type 0
  pub jobs : ℕ → Type 0
  pub fills : Type 0
  pub bids : Type 0

module _ (how : Takeover) (may : May) where
  abbrev pub TameStore : Cell → Type 0
  TameStore (BlockWord at) = may.stores at
  TameStore (HolderWord place) = ⊥
  TameStore (DeadWord processor) = ⊥
  TameStore _ = Unit {0}

  abbrev pub TameTrade : Cell → (new : Content) → Type 0
  TameTrade (BlockWord at) x = may.trades at
  TameTrade (EntryWord v i) (AnEntry (Job tag block)) = may.jobs block
  TameTrade (HolderWord place) x = may.bids
  TameTrade (DeadWord processor) x = ⊥
  TameTrade _ x = Unit {0}

  abbrev pub TameOld : (old : Content) → Type 0
  TameOld (AnEntry (Empty tag)) = may.fills
  TameOld x = Unit {0}

  -- what a load that comes next may come to
  abbrev pub TamePoint : Point → Type 0
  TamePoint (BumpLink block) = may.forks block
  TamePoint (PushOrder block) = may.fills
  TamePoint (PushAbove block) = may.fills
  TamePoint (PushBottom block) = may.jobs block
  TamePoint (UnwindLink frame) = (at : ℕ) → may.stores at
  TamePoint (UnwindOutcome frame link) = (at : ℕ) → may.stores at
  TamePoint (Target frame to copy right_of) = (at : ℕ) → may.stores at
  TamePoint (GivenValue frame to copy target right_of) = (at : ℕ) → may.stores at
  TamePoint (JoinOrder block side) = may.begins block × ((at : ℕ) → may.stores at)
  TamePoint (JoinLink block) = (at : ℕ) → may.stores at
  TamePoint (JoinLeft block to copy) = (at : ℕ) → may.stores at
  TamePoint (JoinRight block to copy left) = (at : ℕ) → may.stores at
  TamePoint (RightFrame block to copy) = (at : ℕ) → may.stores at
  TamePoint (Offset block bottom) = may.begins block
  TamePoint (PopAgain block) = may.begins block
  TamePoint (PopAbove block) = may.begins block
  TamePoint (TakenMessage by v slot) = ((block : ℕ) → may.begins block) × ((how ≡ ByPlaces) ⊎ ((block : ℕ) → may.forks block))
  TamePoint (TakenEntry by v slot message) = ((block : ℕ) → may.begins block) × (IsJobEntry message ⊎ ((block : ℕ) → may.forks block))
  TamePoint (ClosedRestart v slot block) = ((block : ℕ) → may.begins block) × ((block : ℕ) → may.forks block)
  TamePoint (ClosedLink block) = may.forks block
  TamePoint (BidMessage v dead) = may.bids
  TamePoint _ = Unit {0}

  abbrev pub TameThen : Then → Type 0
  TameThen (Load point) = TamePoint point
  TameThen (Fork block) = may.forks block
  TameThen (Begin block frame bottom) = may.begins block
  TameThen _ = Unit {0}

  abbrev pub TameRow : Row → Type 0
  TameRow (Now next) = TameThen next
  TameRow (Store c x next) = TameStore c × TameThen next
  TameRow (Exchange c old new next) = TameTrade c new × TameThen next × TameOld old

module _ (s : Shape) (seat : Seat) (may : May) where
  abbrev T : Row → Type 0
  T row = TameRow s.takeover may row

  on_restarts : (w : Content) (go : Restart → Row) → ((n : Restart) → T (go n)) → T (on_restart w go)
  on_restarts (ARestart n) go f = f n
  on_restarts _ go f = tt

  on_numbers : (w : Content) (go : ℕ → Row) → ((n : ℕ) → T (go n)) → T (on_number w go)
  on_numbers (ANumber n) go f = f n
  on_numbers _ go f = tt

  on_entries : (w : Content) (go : Entry → Row) → ((n : Entry) → T (go n)) → T (on_entry w go)
  on_entries (AnEntry n) go f = f n
  on_entries _ go f = tt

  on_holders : (w : Content) (go : Holder → Row) → ((n : Holder) → T (go n)) → T (on_holder w go)
  on_holders (AHolder n) go f = f n
  on_holders _ go f = tt

  on_links : (w : Content) (go : Link → Row) → ((n : Link) → T (go n)) → T (on_link w go)
  on_links (ALink n) go f = f n
  on_links _ go f = tt

  on_ends : (o : Finish) (go : Finish → Row) → ((n : Finish) → T (go n)) → T (on_finish o go)
  on_ends Ended go f = f Ended
  on_ends (Trapped trap line) go f = f (Trapped trap line)
  on_ends _ go f = tt

  on_outcomes : (w : Content) (go : Finish → Row) → ((n : Finish) → T (go n)) → T (on_outcome w go)
  on_outcomes (AFinish o) go f = on_ends o go f
  on_outcomes _ go f = tt

  if_tame : (y : Bool) (a c : Row) → T a → T c → T (if y then a else c)
  if_tame true a c f g = f
  if_tame false a c f g = g

  -- an entry that is made is no job, or one that may be
  abbrev Makes : Option Entry → Type 0
  Makes (Some (Job t x)) = may.jobs x
  Makes _ = Unit {0}

  made : (v i : ℕ) (new : Entry) → Makes (Some new) → TameTrade s.takeover may (EntryWord v i) (AnEntry new)
  made v i (Job t x) k = k
  made v i (Empty t) k = tt
  made v i (Local t x) k = tt
  made v i (Taken t x) k = tt

  -- an empty entry is changed by who may
  abbrev Fills : Entry → Option Entry → Type 0
  Fills (Empty t) (Some new) = may.fills
  Fills e new = Unit {0}

  filled : (e new : Entry) → Fills e (Some new) → TameOld s.takeover may (AnEntry e)
  filled (Empty t) new f = f
  filled (Local t x) new f = tt
  filled (Job t x) new f = tt
  filled (Taken t x) new f = tt

  above_fills : may.fills → (e : Entry) → Fills e (pushed_above e)
  above_fills f (Empty t) = f
  above_fills f (Local t x) = tt
  above_fills f (Job t x) = tt
  above_fills f (Taken t x) = tt

  bottom_fills : (block : ℕ) (e : Entry) → Fills e (pushed_job e block)
  bottom_fills block (Empty t) = tt
  bottom_fills block (Local t x) = tt
  bottom_fills block (Job t x) = tt
  bottom_fills block (Taken t x) = tt

  pop_fills : (e : Entry) → Fills e (popped_above e)
  pop_fills (Empty t) = tt
  pop_fills (Local t x) = tt
  pop_fills (Job t x) = tt
  pop_fills (Taken t x) = tt

  steal_fills : (how : Takeover) (p : ℕ) (e : Entry) → Fills e (taken_so how p e)
  steal_fills ByPlaces p (Empty t) = tt
  steal_fills ByPlaces p (Local t x) = tt
  steal_fills ByPlaces p (Job t x) = tt
  steal_fills ByPlaces p (Taken t x) = tt
  steal_fills ByEntries p (Empty t) = tt
  steal_fills ByEntries p (Local t x) = tt
  steal_fills ByEntries p (Job t x) = tt
  steal_fills ByEntries p (Taken t x) = tt

  above_makes : (e : Entry) → Makes (pushed_above e)
  above_makes (Empty t) = tt
  above_makes (Local t x) = tt
  above_makes (Job t x) = tt
  above_makes (Taken t x) = tt

  bottom_makes : (block : ℕ) → may.jobs block → (e : Entry) → Makes (pushed_job e block)
  bottom_makes block q (Empty t) = tt
  bottom_makes block q (Local t x) = q
  bottom_makes block q (Job t x) = tt
  bottom_makes block q (Taken t x) = tt

  pop_makes : (e : Entry) → Makes (popped_above e)
  pop_makes (Empty t) = tt
  pop_makes (Local t x) = tt
  pop_makes (Job t x) = tt
  pop_makes (Taken t x) = tt

  steal_makes : (how : Takeover) (p : ℕ) (e : Entry) → Makes (taken_so how p e)
  steal_makes ByPlaces p (Empty t) = tt
  steal_makes ByPlaces p (Local t x) = tt
  steal_makes ByPlaces p (Job t x) = tt
  steal_makes ByPlaces p (Taken t x) = tt
  steal_makes ByEntries p (Empty t) = tt
  steal_makes ByEntries p (Local t x) = tt
  steal_makes ByEntries p (Job t x) = tt
  steal_makes ByEntries p (Taken t x) = tt

  tried_tame : (v i : ℕ) (old : Entry) (a : Option Entry) (next : Then) → Makes a → Fills old a → TameThen s.takeover may next → T (tried (EntryWord v i) old a next)
  tried_tame v i old None next k f q = q
  tried_tame v i old (Some new) next k f q = by (nat_lt (tag_of old + 1) (2 ^ 34))
    where
      by : (y : Bool) → T (raised (EntryWord v i) old new next y)
      by true = (made v i new k, q, filled old new f)
      by false = tt

  changed_tame : (v i : ℕ) (old : Entry) (a : Option Entry) (next : Then) → Makes a → Fills old a → TameThen s.takeover may next → T (changed (EntryWord v i) old a next)
  changed_tame v i old None next k f q = tt
  changed_tame v i old (Some new) next k f q = tried_tame v i old (Some new) next k f q

  after_tame : (to copy : ℕ) (right_of : Option ℕ) → ((at : ℕ) → may.stores at) → TameThen s.takeover may (after_value seat to copy right_of)
  after_tame to copy None q = tt
  after_tame to copy (Some block) q = q

  bumped_tame : (block size : ℕ) (kind : LinkKind) → may.forks block → T (bumped seat block size kind)
  bumped_tame block size (CallLink frame copy) q = (tt, tt)
  bumped_tame block size (ForkLink frame copy) q = (tt, q)
  bumped_tame block size _ q = tt

  unwind_tame : (frame : ℕ) (kind : LinkKind) → ((at : ℕ) → may.stores at) → T (unwind_by frame kind)
  unwind_tame frame (ForkLink to copy) q = tt
  unwind_tame frame Root q = q
  unwind_tame frame (CallLink to copy) q = q
  unwind_tame frame (Branch side block) q = q

  back_tame : (frame to copy : ℕ) (o : Finish) → ((at : ℕ) → may.stores at) → T (back_to seat frame to copy o)
  back_tame frame to copy Ended q = q
  back_tame frame to copy _ q = (q _, tt)

  unwound_tame : (frame : ℕ) (kind : LinkKind) (o : Finish) → ((at : ℕ) → may.stores at) → T (unwound seat frame kind o)
  unwound_tame frame Root o q = (tt, tt, tt)
  unwound_tame frame (CallLink to copy) o q = back_tame frame to copy o q
  unwound_tame frame (Branch Left block) o q = (q _, tt)
  unwound_tame frame (Branch Right block) o q = (q _, tt)
  unwound_tame frame (ForkLink to copy) o q = tt

  target_tame : (frame to copy : ℕ) (right_of : Option ℕ) (target : ℕ) → ((at : ℕ) → may.stores at) → T (target_found seat frame to copy right_of target)
  target_tame frame to copy right_of zero q = after_tame to copy right_of q
  target_tame frame to copy right_of (suc slot) q = q

  joins_tame : (block : ℕ) (x y z : Bool) → may.begins block → ((at : ℕ) → may.stores at) → T (joins seat block x y z)
  joins_tame block true y z b q = tt
  joins_tame block false true z b q = b
  joins_tame block false false true b q = q
  joins_tame block false false false b q = tt

  join_by_tame : (block : ℕ) (kind : LinkKind) → ((at : ℕ) → may.stores at) → T (join_by block kind)
  join_by_tame block (ForkLink to copy) q = q
  join_by_tame block _ q = tt

  join_tame : (block to copy : ℕ) (o : Finish) → ((at : ℕ) → may.stores at) → T (join_outcome seat block to copy o)
  join_tame block to copy Ended q = q
  join_tame block to copy _ q = (q _, tt)

  get_back_tame : (entry : Entry) → T (get_back seat entry)
  get_back_tame (Empty t) = tt
  get_back_tame (Local t x) = tt
  get_back_tame (Job t x) = tried_tame seat.place (seat.restart.bottom - 1) (Job t x) (Some (Local (t + 1) x)) _ tt tt tt
  get_back_tame (Taken t x) = tt

  got_back_tame : (block : ℕ) (entry : Entry) → may.begins block → T (got_back seat block entry)
  got_back_tame block (Empty t) q = tt
  got_back_tame block (Local t x) q = q
  got_back_tame block (Job t x) q = tt
  got_back_tame block (Taken t x) q = tt

  held_tame : (v : ℕ) (holder : Holder) (y : Bool) → T (seek_held s seat v holder y)
  held_tame v holder true = tt
  held_tame v holder false = tt

  by_tame : (v : ℕ) (holder : Holder) (t : Takeover) → T (seek_by s seat v holder t)
  by_tame v holder ByPlaces = held_tame v holder (holder.processor == seat.own)
  by_tame v holder ByEntries = tt

  bids_tame : (v : ℕ) (holder : Holder) (y : Bool) → T (bids seat v holder y)
  bids_tame v holder true = (tt, tt)
  bids_tame v holder false = tt

  passes_tame : (v i : ℕ) (t : Takeover) → T (passes_by s v i t)
  passes_tame v i ByPlaces = (tt, tt, tt)
  passes_tame v i ByEntries = if_tame (nat_lt (i + 1) s.slots) _ _ (tt, tt, tt) tt

  local_tame : (v i : ℕ) (entry : Entry) (t : Takeover) → T (local_by v i entry t)
  local_tame v i entry ByPlaces = tt
  local_tame v i entry ByEntries = tt

  seek_entry_tame : (v i : ℕ) (entry : Entry) → T (seek_entry s seat v i entry)
  seek_entry_tame v i (Empty t) = tt
  seek_entry_tame v i (Local t x) = local_tame v i (Local t x) s.takeover
  seek_entry_tame v i (Job t x) = (tt, tt)
  seek_entry_tame v i (Taken t x) = passes_tame v i s.takeover

  -- by places only a job is taken
  message_tame : (how : Takeover) → how ≡ s.takeover → (by v i : ℕ) (entry : Entry) → ((block : ℕ) → may.begins block) → (s.takeover ≡ ByPlaces) ⊎ ((block : ℕ) → may.forks block)
      → T (if can_be_taken how entry then Now (Load (TakenEntry by v i entry)) else Now Broken)
  message_tame ByPlaces e by v i (Job t x) q f = (q, inl tt)
  message_tame ByEntries e by v i (Job t x) q f = (q, inl tt)
  message_tame ByPlaces e by v i (Local t x) q f = tt
  message_tame ByEntries e by v i (Local t x) q f = elim f [
    | inl places ↦ absurd (let z : ByEntries ≡ ByPlaces = e ∙ places in cc)
    | inr forks ↦ (q, inr forks)
  ]
  message_tame ByPlaces e by v i (Empty t) q f = tt
  message_tame ByEntries e by v i (Empty t) q f = tt
  message_tame ByPlaces e by v i (Taken t x) q f = tt
  message_tame ByEntries e by v i (Taken t x) q f = tt

  goes_on_tame : (v i : ℕ) (entry : Entry) → ((block : ℕ) → may.begins block) → IsJobEntry entry ⊎ ((block : ℕ) → may.forks block) → T (goes_on_with seat v i entry)
  goes_on_tame v i (Job t x) q f = q x
  goes_on_tame v i (Local t x) q (inl is) = absurd is
  goes_on_tame v i (Local t x) q (inr f) = (q, f)
  goes_on_tame v i (Empty t) q f = tt
  goes_on_tame v i (Taken t x) q f = tt

  -- through closed places
  bottom_tame : (v : ℕ) (k : RestartKind) → ((block : ℕ) → may.begins block) → ((block : ℕ) → may.forks block) → T (at_bottom seat v k)
  bottom_tame v (Bump r) q f = f r
  bottom_tame v (Steal x j) q f = (q, inr f)
  bottom_tame v (Check x j) q f = (q, inr f)
  bottom_tame v (Run x y) q f = tt
  bottom_tame v (Push1 r) q f = tt
  bottom_tame v (Push2 r) q f = tt
  bottom_tame v (Unwind x) q f = tt
  bottom_tame v (Arrive r d) q f = tt
  bottom_tame v (Join r d) q f = tt
  bottom_tame v _ q f = tt

  above_tame : (v low : ℕ) (k : RestartKind) → T (above_bottom seat v low k)
  above_tame v low (Push2 r) = tt
  above_tame v low _ = tt

  below_tame : (block : ℕ) (k : RestartKind) → ((block : ℕ) → may.begins block) → T (below_bottom seat block k)
  below_tame block Pop1 q = q block
  below_tame block (Pop2 r) q = q block
  below_tame block _ q = tt

  follows_tame : (v i block : ℕ) (closed : Restart) → ((block : ℕ) → may.begins block) → ((block : ℕ) → may.forks block) → T (follows s seat v i block closed)
  follows_tame v i block closed q f = if_tame (restart_is_there s closed) _ _
      (if_tame (i == closed.bottom) _ _ (bottom_tame v closed.kind q f)
      (if_tame (i == closed.bottom + 1) _ _ (above_tame v closed.bottom closed.kind)
      (if_tame (i + 1 == closed.bottom) _ _ (below_tame block closed.kind q) tt))) tt

  closed_link_tame : (block : ℕ) (kind : LinkKind) → may.forks block → T (closed_link seat block kind)
  closed_link_tame block (CallLink frame copy) f = tt
  closed_link_tame block (ForkLink frame copy) f = f
  closed_link_tame block _ f = tt

  closed_bottom_tame : (block : ℕ) (entry : Entry) → T (closed_bottom seat block entry)
  closed_bottom_tame block (Taken t x) = if_tame (nat_lt x 64) _ _ tt tt
  closed_bottom_tame block (Empty t) = tt
  closed_bottom_tame block (Local t x) = tt
  closed_bottom_tame block (Job t x) = tt

  lowered_tame : may.bids → (tag : ℕ) (v d : ℕ) (message : Holder) → T (lowered tag seat v d message)
  lowered_tame q zero v d message = tt
  lowered_tame q (suc tag) v d message = (q, tt, tt)

  pub found_tame : (u : ℕ) (point : Point) (w : Content) → TamePoint s.takeover may point → T (found_at s seat u point w)
  found_tame u (Header frame copy) w q = on_numbers w _ (λ n. tt)
  found_tame u (BumpLink block) w q = on_links w _ (λ l. bumped_tame block l.size l.kind q)
  found_tame u (PushOrder block) w q = on_numbers w _ (λ n. if_tame (n == both) _ _ tt q)
  found_tame u (PushAbove block) w q = on_entries w _ (λ e. tried_tame seat.place (seat.restart.bottom + 1) e (pushed_above e) _ (above_makes e) (above_fills q e) tt)
  found_tame u (PushBottom block) w q = on_entries w _ (λ e. tried_tame seat.place seat.restart.bottom e (pushed_job e block) _ (bottom_makes block q e) (bottom_fills block e) tt)
  found_tame u (UnwindLink frame) w q = on_links w _ (λ l. unwind_tame frame l.kind q)
  found_tame u (UnwindOutcome frame link) w q = on_outcomes w _ (λ o. unwound_tame frame link o q)
  found_tame u (Target frame to copy right_of) w q = on_numbers w _ (λ n. target_tame frame to copy right_of n q)
  found_tame u (GivenValue frame to copy target right_of) w q = on_numbers w _ (λ n. if_tame (nat_lt (to + 5 + target) (word_count s)) _ _ (q _, after_tame to copy right_of q) tt)
  found_tame u (JoinOrder block side) w q = on_numbers w _ (λ n. joins_tame block (n == first side) (is_inline n side) (is_last n side) q.0 q.1)
  found_tame u (JoinLink block) w q = on_links w _ (λ l. join_by_tame block l.kind q)
  found_tame u (JoinLeft block to copy) w q = on_outcomes w _ (λ o. q)
  found_tame u (JoinRight block to copy left) w q = on_outcomes w _ (λ o. join_tame block to copy (outcome_of_both left o) q)
  found_tame u (RightFrame block to copy) w q = on_numbers w _ (λ n. if_tame (nat_lt (block + n) (word_count s)) _ _ q tt)
  found_tame u (Offset block low) w q = on_numbers w _ (λ n. if_tame (nat_lt (block + n) (word_count s)) _ _ q tt)
  found_tame u PopBelow w q = on_entries w _ get_back_tame
  found_tame u (PopAgain block) w q = on_entries w _ (λ e. got_back_tame block e q)
  found_tame u (PopAbove block) w q = on_entries w _ (λ e. tried_tame seat.place seat.restart.bottom e (popped_above e) _ (pop_makes e) (pop_fills e) q)
  found_tame u SeekHolder w q = on_holders w _ (λ o. if_tame (u == seat.place) _ _ tt (by_tame u o s.takeover))
  found_tame u (SeekDead v holder) w q = on_numbers w _ (λ n. if_tame (n == 1) _ _ (bids_tame v holder (nat_lt (holder.tag + 1) (2 ^ 58))) tt)
  found_tame u (SeekTop v) w q = on_numbers w _ (λ n. if_tame (nat_lt n s.slots) _ _ tt tt)
  found_tame u (SeekEntry v i) w q = on_entries w _ (seek_entry_tame v i)
  found_tame u (SeekClosed v i entry) w q = on_numbers w _ (λ n. if_tame (n == 1) _ _ (tt, tt) tt)
  found_tame u (StealMessage v i) w q = on_entries w _ (λ e. changed_tame v i e (taken_so s.takeover seat.place e) _ (steal_makes s.takeover seat.place e) (steal_fills s.takeover seat.place e) tt)
  found_tame u (TakenMessage by v i) w q = on_entries w _ (λ e. message_tame s.takeover refl by v i e q.0 q.1)
  found_tame u (TakenEntry by v i message) w q = on_entries w _ (λ e. if_tame (took by message e) _ _ (goes_on_tame v i message q.0 q.1) tt)
  found_tame u (ClosedRestart v i block) w q = on_restarts w _ (λ r. follows_tame v i block r q.0 q.1)
  found_tame u (ClosedLink block) w q = on_links w _ (λ l. closed_link_tame block l.kind q)
  found_tame u (ClosedBottom v i block) w q = on_entries w _ (λ e. closed_bottom_tame block e)
  found_tame u (BidMessage v d) w q = on_holders w _ (λ o. if_tame (o.processor == seat.own) _ _ (lowered_tame q o.tag v d o) tt)
  found_tame u (BidAgain v) w q = on_holders w _ (λ o. if_tame (o.processor == seat.own) _ _ tt tt)
  found_tame u (BidHolder v message) w q = on_holders w _ (λ o. if_tame ((message.tag == o.tag) && (message.processor == o.processor)) _ _ tt tt)

  -- what is left of a row by the words that were found
  pub rest_tame : (v : ℕ) (row : Row) (ws : List Word) → T row → T (rest_of s seat v row ws)
  rest_tame v row [] q = q
  rest_tame v (Now (Load point)) (w ∷ ws) q = rest_tame v (found_at s seat v point (content_by w)) ws (found_tame v point (content_by w) q)
  rest_tame v (Now (Install restart)) (w ∷ ws) q = tt
  rest_tame v (Now (Fork block)) (w ∷ ws) q = tt
  rest_tame v (Now (Begin block frame bottom)) (w ∷ ws) q = tt
  rest_tame v (Now (Move place)) (w ∷ ws) q = tt
  rest_tame v (Now (Enter capsule)) (w ∷ ws) q = tt
  rest_tame v (Now Again) (w ∷ ws) q = tt
  rest_tame v (Now Broken) (w ∷ ws) q = tt
  rest_tame v (Store c x next) (w ∷ ws) q = rest_tame v (Now next) ws q.1
  rest_tame v (Exchange c old new next) (w ∷ ws) q = rest_tame v (Now next) ws q.1

-- and by the words as they are
pub reach_tame : (i : Setting) (seat : Seat) (may : May) (m : Cell → ℕ) (n : ℕ) (row rest : Row) → TameRow i.shape.takeover may row → Reach i m seat n row rest → TameRow i.shape.takeover may rest
reach_tame i seat may m zero row rest q e = subst (TameRow i.shape.takeover may) e q
reach_tame i seat may m (suc n) (Now (Load point)) rest q e =
    reach_tame i seat may m n (found_at i.shape seat 0 point (content_of (reading_at point) (m (cell_at seat 0 point)))) rest
    (found_tame i.shape seat may 0 point (content_of (reading_at point) (m (cell_at seat 0 point))) q) e
reach_tame i seat may m (suc n) (Now next) rest q e = absurd e
reach_tame i seat may m (suc n) (Store c x next) rest q e = reach_tame i seat may m n (Now next) rest q.1 e.1
reach_tame i seat may m (suc n) (Exchange c old new next) rest q e = reach_tame i seat may m n (Now next) rest q.1 e.1
