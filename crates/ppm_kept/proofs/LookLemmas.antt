-- What the rows of kinds without a strand come to, whatever their loads find.
use Rattle.std.proofs.Common.{◌≡◌, ◌⊎◌, ℕ, zero, suc, ◌+◌, ◌-◌, ◌^◌, ◌==◌, ◌&&◌, Bool, true, false, inl, inr, refl, subst, Option, Some, None}
use Rattle.std.specs.Prelude.{nat_lt, if◌then◌else◌}
use Rattle.ppm_cells.specs.Cells.{word_count}
use Rattle.ppm_cells.specs.declared.cell.Cell.{Cell}
use Rattle.ppm_cells.specs.declared.cell.Cell.TheVariants.{MessageWord, HolderWord, Top, EntryWord}
use Rattle.ppm_cells.specs.declared.entry.Entry.{Entry}
use Rattle.ppm_cells.specs.declared.entry.Entry.TheVariants.{Empty, Local, Job, Taken}
use Rattle.ppm_cells.specs.declared.holder.Holder.{Holder}
use Rattle.ppm_cells.specs.declared.link.Link.{Link}
use Rattle.ppm_cells.specs.declared.link.LinkKind.{LinkKind}
use Rattle.ppm_cells.specs.declared.link.LinkKind.TheVariants.{Root, Call as Called, Branch, Fork as Forked}
use Rattle.ppm_cells.specs.declared.restart.Restart.{Restart}
use Rattle.ppm_cells.specs.declared.restart.RestartKind.{RestartKind}
use Rattle.ppm_cells.specs.declared.restart.RestartKind.TheVariants.{Run, Bump, Push1, Push2, Unwind, Arrive, Join, Pop1, Pop2, Seek, Steal, Check, Take, Take2}
use Rattle.ppm_cells.specs.declared.shape.Shape.{Shape}
use Rattle.ppm_cells.specs.declared.shape.Takeover.{Takeover}
use Rattle.ppm_cells.specs.declared.shape.Takeover.TheVariants.{ByPlaces, ByEntries}
use Rattle.ppm_cells.specs.DequeChange.{tag_of}
use Rattle.ppm_cells.specs.Transitions.{popped_above}
use Rattle.ppm_step.specs.There.{restart_is_there}
use Rattle.ppm_step.specs.Rows.{on_number, on_restart, on_entry, on_holder, on_link, with_kind, raised, tried, changed, left_begins, right_begins, get_back, got_back, empty_above, seek_held, seek_by, seek_holder, bids, seek_dead, seek_top, notes, passes, passes_by, local_by, seek_entry, seek_closed, taken_so, steals, can_be_taken, taken_message, took, goes_on_with, taken_entry, at_bottom, above_bottom, below_bottom, by_slot, follows, closed_link, closed_bottom, lowered, makes_bid, bid_again, bid_holder, found_at, by_places, row_of}
use Rattle.ppm_step.specs.declared.content.Content.{Content}
use Rattle.ppm_step.specs.declared.content.Content.TheVariants.{ANumber, ARestart, AnEntry, AHolder, ALink, AFinish, Unreadable}
use Rattle.ppm_step.specs.declared.row.Point.{Point}
use Rattle.ppm_step.specs.declared.row.Point.TheVariants.{Offset, PopBelow, PopAgain, PopAbove, SeekHolder, SeekDead, SeekTop, SeekEntry, SeekClosed, StealMessage, TakenMessage, TakenEntry, ClosedRestart, ClosedLink, ClosedBottom, BidMessage, BidAgain, BidHolder}
use Rattle.ppm_step.specs.declared.row.Row.{Row}
use Rattle.ppm_step.specs.declared.row.Row.TheVariants.{Now, Store, Exchange}
use Rattle.ppm_step.specs.declared.row.Seat.{Seat}
use Rattle.ppm_step.specs.declared.row.Then.{Then}
use Rattle.ppm_step.specs.declared.row.Then.TheVariants.{Load, Install, Fork, Begin, Move, Again, Broken}
use Rattle.ppm_frames.specs.Views.{is_cell}
use Rattle.ppm_kept.specs.Branches.{is_taker}
use Rattle.ppm_kept.specs.Others.{IsIdle}
use Rattle.ppm_kept.specs.Pushing.{Comes}
use Rattle.ppm_kept.specs.Takes.{IsCheck, Follows, EndsSo}

-- a message that is local was found with takeover by entries
abbrev MayFollow : Takeover → Entry → Type 0
MayFollow how (Local tag block) = how ≡ ByEntries
MayFollow how _ = Unit {0}

-- the loads of such rows
abbrev LookPoint : Takeover → RestartKind → Point → Type 0
LookPoint how k PopBelow = Unit {0}
LookPoint how k (PopAgain block) = is_taker k ≡ true
LookPoint how k (PopAbove block) = is_taker k ≡ true
LookPoint how k (Offset block bottom) = is_taker k ≡ true
LookPoint how k SeekHolder = Unit {0}
LookPoint how k (SeekDead v holder) = Unit {0}
LookPoint how k (SeekTop v) = Unit {0}
LookPoint how k (SeekEntry v slot) = Unit {0}
LookPoint how k (SeekClosed v slot entry) = Unit {0}
LookPoint how k (StealMessage v slot) = Unit {0}
LookPoint how k (TakenMessage by v slot) = IsCheck k
LookPoint how k (TakenEntry by v slot message) = IsCheck k × MayFollow how message
LookPoint how k (ClosedRestart v slot block) = Follows how k
LookPoint how k (ClosedLink block) = Follows how k
LookPoint how k (ClosedBottom v slot block) = Follows how k
LookPoint how k (BidMessage v dead) = Unit {0}
LookPoint how k (BidAgain v) = Unit {0}
LookPoint how k (BidHolder v message) = Unit {0}
LookPoint how k _ = ⊥

-- where B says when a branch begins
abbrev LookThen : (B : Type 0) → Takeover → RestartKind → Then → Type 0
LookThen B how k (Load point) = LookPoint how k point
LookThen B how k (Install restart) = IsIdle restart.kind ⊎ Follows how k
LookThen B how k (Fork block) = Follows how k
LookThen B how k (Begin block frame bottom) = B
LookThen B how k _ = Unit {0}

-- no branch begins after a store or an exchange
abbrev pub NoBegin : Then → Type 0
NoBegin (Begin block frame bottom) = ⊥
NoBegin _ = Unit {0}

-- the cells that such a row stores or exchanges
abbrev pub IsLookCell : Cell → Type 0
IsLookCell (MessageWord p) = Unit {0}
IsLookCell (HolderWord v) = Unit {0}
IsLookCell (Top v) = Unit {0}
IsLookCell (EntryWord v x) = Unit {0}
IsLookCell _ = ⊥

abbrev RowBy : (B : Type 0) → Shape → RestartKind → Row → Type 0
RowBy B s k (Now next) = LookThen B s.takeover k next
RowBy B s k (Store cell content next) = IsLookCell cell × NoBegin next × LookThen B s.takeover k next
RowBy B s k (Exchange cell old new next) = IsLookCell cell × NoBegin next × LookThen B s.takeover k next

-- a branch begins at a place that may take one
abbrev pub LookRow : Shape → RestartKind → Row → Type 0
LookRow s k row = RowBy (is_taker k ≡ true) s k row

-- no frame has such a cell
pub look_unseen : (s : Shape) (cell : Cell) → IsLookCell cell → is_cell s cell ≡ false
look_unseen s (MessageWord p) h = refl
look_unseen s (HolderWord v) h = refl
look_unseen s (Top v) h = refl
look_unseen s (EntryWord v x) h = refl
look_unseen s _ h = absurd h

-- the load of an offset
abbrev pub IsOffset : Point → Type 0
IsOffset (Offset block bottom) = Unit {0}
IsOffset _ = ⊥

offset_taker : (how : Takeover) (k : RestartKind) (point : Point) → LookPoint how k point → IsOffset point → is_taker k ≡ true
offset_taker how k (Offset block bottom) l o = l
offset_taker how k _ l o = absurd o

check_taker : (k : RestartKind) → IsCheck k → is_taker k ≡ true
check_taker (Check v x) h = refl
check_taker _ h = absurd h

module _ (s : Shape) (seat : Seat) (k : RestartKind) (B : Type 0) where
  abbrev how : Takeover
  how = s.takeover

  abbrev R : Row → Type 0
  R row = RowBy B s k row

  entry_look : (go : Entry → Row) → ((e : Entry) → R (go e)) → (w : Content) → R (on_entry w go)
  entry_look go by (AnEntry e) = by e
  entry_look go by (ANumber e) = tt
  entry_look go by (ARestart e) = tt
  entry_look go by (AHolder e) = tt
  entry_look go by (ALink e) = tt
  entry_look go by (AFinish e) = tt
  entry_look go by Unreadable = tt

  number_look : (go : ℕ → Row) → ((e : ℕ) → R (go e)) → (w : Content) → R (on_number w go)
  number_look go by (ANumber e) = by e
  number_look go by (AnEntry e) = tt
  number_look go by (ARestart e) = tt
  number_look go by (AHolder e) = tt
  number_look go by (ALink e) = tt
  number_look go by (AFinish e) = tt
  number_look go by Unreadable = tt

  restart_look : (go : Restart → Row) → ((e : Restart) → R (go e)) → (w : Content) → R (on_restart w go)
  restart_look go by (ARestart e) = by e
  restart_look go by (AnEntry e) = tt
  restart_look go by (ANumber e) = tt
  restart_look go by (AHolder e) = tt
  restart_look go by (ALink e) = tt
  restart_look go by (AFinish e) = tt
  restart_look go by Unreadable = tt

  holder_look : (go : Holder → Row) → ((e : Holder) → R (go e)) → (w : Content) → R (on_holder w go)
  holder_look go by (AHolder e) = by e
  holder_look go by (AnEntry e) = tt
  holder_look go by (ANumber e) = tt
  holder_look go by (ARestart e) = tt
  holder_look go by (ALink e) = tt
  holder_look go by (AFinish e) = tt
  holder_look go by Unreadable = tt

  link_look : (go : Link → Row) → ((e : Link) → R (go e)) → (w : Content) → R (on_link w go)
  link_look go by (ALink e) = by e
  link_look go by (AnEntry e) = tt
  link_look go by (ANumber e) = tt
  link_look go by (ARestart e) = tt
  link_look go by (AHolder e) = tt
  link_look go by (AFinish e) = tt
  link_look go by Unreadable = tt

  raised_look : (cell : Cell) (old new : Entry) (next : Then) → IsLookCell cell → NoBegin next → LookThen B how k next → (b : Bool) → R (raised cell old new next b)
  raised_look cell old new next c n l true = (c, n, l)
  raised_look cell old new next c n l false = tt

  tried_look : (cell : Cell) (old : Entry) (a : Option Entry) (next : Then) → IsLookCell cell → NoBegin next → LookThen B how k next → R (tried cell old a next)
  tried_look cell old None next c n l = l
  tried_look cell old (Some new) next c n l = raised_look cell old new next c n l (nat_lt (tag_of old + 1) (2 ^ 34))

  changed_look : (cell : Cell) (old : Entry) (a : Option Entry) (next : Then) → IsLookCell cell → NoBegin next → LookThen B how k next → R (changed cell old a next)
  changed_look cell old None next c n l = tt
  changed_look cell old (Some new) next c n l = tried_look cell old (Some new) next c n l

  -- either of two rows
  either : (b : Bool) (x y : Row) → R x → R y → R (if b then x else y)
  either true x y a c = a
  either false x y a c = c

  get_back_look : (e : Entry) → R (get_back seat e)
  get_back_look (Empty t) = tt
  get_back_look (Local t r) = inl tt
  get_back_look (Job t r) = tried_look (EntryWord seat.place (seat.restart.bottom - 1)) (Job t r) (Some (Local (t + 1) r)) (with_kind seat (Pop2 r)) tt tt (inl tt)
  get_back_look (Taken t q) = inl tt

  got_back_look : (r : ℕ) → is_taker k ≡ true → (e : Entry) → R (got_back seat r e)
  got_back_look r taker (Local t x) = taker
  got_back_look r taker (Taken t q) = inl tt
  got_back_look r taker (Empty t) = tt
  got_back_look r taker (Job t x) = tt

  begins_look : (r b : ℕ) → B → (d : ℕ) → R (right_begins s r b d)
  begins_look r b taker d = either (nat_lt (r + d) (word_count s)) (Now (Begin r (r + d) b)) (Now Broken) taker tt

  held_look : (v : ℕ) (h : Holder) (b : Bool) → R (seek_held s seat v h b)
  held_look v h true = tt
  held_look v h false = tt

  by_look : (v : ℕ) (h : Holder) (by : Takeover) → R (seek_by s seat v h by)
  by_look v h ByPlaces = held_look v h (h.processor == seat.own)
  by_look v h ByEntries = tt

  holder_is_look : (v : ℕ) (h : Holder) → R (seek_holder s seat v h)
  holder_is_look v h = either (v == seat.place) (Now Again) (seek_by s seat v h how) tt (by_look v h how)

  bids_look : (v : ℕ) (h : Holder) (b : Bool) → R (bids seat v h b)
  bids_look v h true = (tt, tt, inl tt)
  bids_look v h false = tt

  dead_look : (v : ℕ) (h : Holder) (d : ℕ) → R (seek_dead seat v h d)
  dead_look v h d = either (d == 1) (bids seat v h (nat_lt (h.tag + 1) (2 ^ 58))) (Now (Load (SeekTop v))) (bids_look v h (nat_lt (h.tag + 1) (2 ^ 58))) tt

  top_look : (v top : ℕ) → R (seek_top s v top)
  top_look v top = either (nat_lt top s.slots) (Now (Load (SeekEntry v top))) (Now Broken) tt tt

  notes_look : (v x : ℕ) (e : Entry) → R (notes seat v x e)
  notes_look v x e = (tt, tt, inl tt)

  passes_look : (v x : ℕ) → R (passes v x)
  passes_look v x = (tt, tt, tt)

  passes_by_look : (v x : ℕ) (by : Takeover) → R (passes_by s v x by)
  passes_by_look v x ByPlaces = passes_look v x
  passes_by_look v x ByEntries = either (nat_lt (x + 1) s.slots) (passes v x) (Now Again) (passes_look v x) tt

  local_look : (v x : ℕ) (e : Entry) (by : Takeover) → R (local_by v x e by)
  local_look v x e ByPlaces = tt
  local_look v x e ByEntries = tt

  entry_is_look : (v x : ℕ) (e : Entry) → R (seek_entry s seat v x e)
  entry_is_look v x (Empty t) = tt
  entry_is_look v x (Local t r) = local_look v x (Local t r) how
  entry_is_look v x (Job t r) = notes_look v x (Job t r)
  entry_is_look v x (Taken t q) = passes_by_look v x how

  closed_look : (v x : ℕ) (e : Entry) (d : ℕ) → R (seek_closed seat v x e d)
  closed_look v x e d = either (d == 1) (notes seat v x e) (Now Again) (notes_look v x e) tt

  message_look : (by v x : ℕ) → IsCheck k → (e : Entry) → R (taken_message s by v x e)
  message_look by v x check e = told how refl e
    where
      told : (w : Takeover) → how ≡ w → (e : Entry) → R (if can_be_taken w e then Now (Load (TakenEntry by v x e)) else Now Broken)
      told ByPlaces is (Job t r) = (check, tt)
      told ByPlaces is (Local t r) = tt
      told ByPlaces is (Empty t) = tt
      told ByPlaces is (Taken t q) = tt
      told ByEntries is (Job t r) = (check, tt)
      told ByEntries is (Local t r) = (check, is)
      told ByEntries is (Empty t) = tt
      told ByEntries is (Taken t q) = tt

  goes_on_look : (v x : ℕ) (e : Entry) → IsCheck k → MayFollow how e → R (goes_on_with seat v x e)
  goes_on_look v x (Job t r) check may = check_taker k check
  goes_on_look v x (Local t r) check may = (may, check)
  goes_on_look v x (Empty t) check may = tt
  goes_on_look v x (Taken t q) check may = tt

  at_bottom_look : (v : ℕ) → Follows how k → (kind : RestartKind) → R (at_bottom seat v kind)
  at_bottom_look v f (Run g y) = inr f
  at_bottom_look v f (Bump r) = f
  at_bottom_look v f (Push1 r) = inr f
  at_bottom_look v f (Push2 r) = inr f
  at_bottom_look v f (Unwind g) = inr f
  at_bottom_look v f (Arrive r d) = inr f
  at_bottom_look v f (Join r d) = inr f
  at_bottom_look v f (Steal w x) = f.1
  at_bottom_look v f (Check w x) = f.1
  at_bottom_look v f Pop1 = inl tt
  at_bottom_look v f (Pop2 r) = inl tt
  at_bottom_look v f Seek = inl tt
  at_bottom_look v f (Take w x) = inl tt
  at_bottom_look v f (Take2 w) = inl tt

  above_look : (v b : ℕ) → Follows how k → (kind : RestartKind) → R (above_bottom seat v b kind)
  above_look v b f (Push2 r) = f
  above_look v b f (Run g y) = inl tt
  above_look v b f (Bump r) = inl tt
  above_look v b f (Push1 r) = inl tt
  above_look v b f (Unwind g) = inl tt
  above_look v b f (Arrive r d) = inl tt
  above_look v b f (Join r d) = inl tt
  above_look v b f (Steal w x) = inl tt
  above_look v b f (Check w x) = inl tt
  above_look v b f Pop1 = inl tt
  above_look v b f (Pop2 r) = inl tt
  above_look v b f Seek = inl tt
  above_look v b f (Take w x) = inl tt
  above_look v b f (Take2 w) = inl tt

  below_look : (block : ℕ) → Follows how k → (kind : RestartKind) → R (below_bottom seat block kind)
  below_look block f Pop1 = check_taker k f.1
  below_look block f (Pop2 r) = check_taker k f.1
  below_look block f (Push2 r) = inl tt
  below_look block f (Run g y) = inl tt
  below_look block f (Bump r) = inl tt
  below_look block f (Push1 r) = inl tt
  below_look block f (Unwind g) = inl tt
  below_look block f (Arrive r d) = inl tt
  below_look block f (Join r d) = inl tt
  below_look block f (Steal w x) = inl tt
  below_look block f (Check w x) = inl tt
  below_look block f Seek = inl tt
  below_look block f (Take w x) = inl tt
  below_look block f (Take2 w) = inl tt

  slot_look : (v x block : ℕ) → Follows how k → (closed : Restart) → R (by_slot seat v x block closed)
  slot_look v x block f closed =
      either (x == closed.bottom) (at_bottom seat v closed.kind) (if x == closed.bottom + 1 then above_bottom seat v closed.bottom closed.kind else (if x + 1 == closed.bottom then below_bottom seat block closed.kind else Now (with_kind seat Seek)))
      (at_bottom_look v f closed.kind)
      (either (x == closed.bottom + 1) (above_bottom seat v closed.bottom closed.kind) (if x + 1 == closed.bottom then below_bottom seat block closed.kind else Now (with_kind seat Seek))
      (above_look v closed.bottom f closed.kind)
      (either (x + 1 == closed.bottom) (below_bottom seat block closed.kind) (Now (with_kind seat Seek)) (below_look block f closed.kind) (inl tt)))

  link_is_look : (block : ℕ) → Follows how k → (kind : LinkKind) → R (closed_link seat block kind)
  link_is_look block f (Called g y) = inr f
  link_is_look block f (Forked g y) = f
  link_is_look block f Root = tt
  link_is_look block f (Branch d r) = tt

  bottom_look : (block : ℕ) → Follows how k → (e : Entry) → R (closed_bottom seat block e)
  bottom_look block f (Taken t q) = either (nat_lt q 64) (Now (left_begins block seat.restart.bottom)) (Now (with_kind seat Seek)) (inr f) (inl tt)
  bottom_look block f (Empty t) = inl tt
  bottom_look block f (Local t r) = inl tt
  bottom_look block f (Job t r) = inl tt

  lowered_look : (v d : ℕ) (h : Holder) (tag : ℕ) → R (lowered tag seat v d h)
  lowered_look v d h zero = tt
  lowered_look v d h (suc tag) = (tt, tt, inl tt)

  pub found_look : (point : Point) → LookPoint how k point → (IsOffset point → B) → (v : ℕ) (w : Content) → R (found_at s seat v point w)
  found_look PopBelow l on v w = entry_look (get_back seat) get_back_look w
  found_look (PopAgain r) l on v w = entry_look (got_back seat r) (got_back_look r l) w
  found_look (PopAbove r) l on v w = entry_look (empty_above seat r) (λ e. tried_look (EntryWord seat.place seat.restart.bottom) e (popped_above e) (Load (Offset r (seat.restart.bottom - 1))) tt tt l) w
  found_look (Offset r b) l on v w = number_look (right_begins s r b) (begins_look r b (on tt)) w
  found_look SeekHolder l on v w = holder_look (seek_holder s seat v) (holder_is_look v) w
  found_look (SeekDead u h) l on v w = number_look (seek_dead seat u h) (dead_look u h) w
  found_look (SeekTop u) l on v w = number_look (seek_top s u) (top_look u) w
  found_look (SeekEntry u x) l on v w = entry_look (seek_entry s seat u x) (entry_is_look u x) w
  found_look (SeekClosed u x e) l on v w = number_look (seek_closed seat u x e) (closed_look u x e) w
  found_look (StealMessage u x) l on v w = entry_look (steals s seat u x) (λ e. changed_look (EntryWord u x) e (taken_so s.takeover seat.place e) (with_kind seat (Check u x)) tt tt (inl tt)) w
  found_look (TakenMessage by u x) l on v w = entry_look (taken_message s by u x) (message_look by u x l) w
  found_look (TakenEntry by u x message) l on v w = entry_look (taken_entry seat by u x message)
      (λ e. either (took by message e) (goes_on_with seat u x message) (Now (with_kind seat Seek)) (goes_on_look u x message l.0 l.1) (inl tt)) w
  found_look (ClosedRestart u x block) l on v w = restart_look (follows s seat u x block)
      (λ closed. either (restart_is_there s closed) (by_slot seat u x block closed) (Now Broken) (slot_look u x block l closed) tt) w
  found_look (ClosedLink block) l on v w = link_look (λ link. closed_link seat block link.kind) (λ link. link_is_look block l link.kind) w
  found_look (ClosedBottom u x block) l on v w = entry_look (closed_bottom seat block) (bottom_look block l) w
  found_look (BidMessage u d) l on v w = holder_look (makes_bid seat u d)
      (λ h. either (h.processor == seat.own) (lowered h.tag seat u d h) (Now (with_kind seat Seek)) (lowered_look u d h h.tag) (inl tt)) w
  found_look (BidAgain u) l on v w = holder_look (bid_again seat u) (λ h. either (h.processor == seat.own) (Now (Load (BidHolder u h))) (Now (with_kind seat Seek)) tt (inl tt)) w
  found_look (BidHolder u message) l on v w = holder_look (bid_holder seat u message)
      (λ h. either ((message.tag == h.tag) && (message.processor == h.processor)) (Now (Move u)) (Now (with_kind seat Seek)) tt (inl tt)) w
  found_look _ l on v w = absurd l

  places_look : (row : Row) → R row → (by : Takeover) → R (by_places by row)
  places_look row l ByPlaces = l
  places_look row l ByEntries = tt

module _ (s : Shape) (seat : Seat) (k : RestartKind) where
  -- whatever a row comes to is such a row
  pub comes_look : (n : ℕ) (row rest : Row) → LookRow s k row → Comes s seat n row rest → LookRow s k rest
  comes_look zero row rest l q = subst (LookRow s k) q l
  comes_look (suc n) (Now (Load point)) rest l q = comes_look n (found_at s seat q.0 point q.1) rest (found_look s seat k (is_taker k ≡ true) point l (offset_taker s.takeover k point l) q.0 q.1) q.2
  comes_look (suc n) (Store cell content next) rest l q = comes_look n (Now next) rest l.2 q
  comes_look (suc n) (Exchange cell old new next) rest l q = comes_look n (Now next) rest l.2 q
  comes_look (suc n) (Now next) rest l q = absurd q

  -- but for an offset, no load leads to a beginning
  pub no_begin : (point : Point) → LookRow s k (Now (Load point)) → (IsOffset point → ⊥) → (v : ℕ) (w : Content) (r f b : ℕ) → found_at s seat v point w ≡ Now (Begin r f b) → ⊥
  no_begin point l out v w r f b e = subst (RowBy ⊥ s k) e (found_look s seat k ⊥ point l out v w)

-- it begins as one
look_start : (B : Type 0) (s : Shape) (seat : Seat) (k : RestartKind) → IsIdle k → RowBy B s k (row_of s seat k)
look_start B s seat Pop1 idle = tt
look_start B s seat (Pop2 r) idle = refl
look_start B s seat Seek idle = tt
look_start B s seat (Steal v x) idle = tt
look_start B s seat (Check v x) idle = tt
look_start B s seat (Take v d) idle = places_look s seat (Take v d) B (Now (Load (BidMessage v d))) tt s.takeover
look_start B s seat (Take2 v) idle = places_look s seat (Take2 v) B (Now (Load (BidAgain v))) tt s.takeover
look_start B s seat _ idle = absurd idle

pub look_begins : (s : Shape) (seat : Seat) (k : RestartKind) → IsIdle k → LookRow s k (row_of s seat k)
look_begins s seat k idle = look_start (is_taker k ≡ true) s seat k idle

-- and by no beginning of a branch
pub starts_none : (s : Shape) (seat : Seat) (k : RestartKind) → IsIdle k → (r f b : ℕ) → row_of s seat k ≡ Now (Begin r f b) → ⊥
starts_none s seat k idle r f b e = subst (RowBy ⊥ s k) e (look_start ⊥ s seat k idle)

-- how it ends
pub look_ends : (s : Shape) (k : RestartKind) (next : Then) → LookRow s k (Now next) → EndsSo s.takeover k next
look_ends s k (Install restart) l = l
look_ends s k (Fork block) l = l
look_ends s k (Begin block frame bottom) l = l
look_ends s k _ l = tt
