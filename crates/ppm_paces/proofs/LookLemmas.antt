-- The rows that are no work: what they install.
use Rattle.std.proofs.Common.{◌≡◌, ℕ, zero, suc, ◌+◌, ◌==◌, ◌^◌, nat_lt, if◌then◌else◌, Bool, true, false, Option, Some, None, refl, sym, subst}
use Rattle.ppm_cells.specs.Cells.{word_count}
use Rattle.ppm_cells.specs.declared.cell.Cell.{Cell}
use Rattle.ppm_cells.specs.declared.cell.Cell.TheVariants.{EntryWord}
use Rattle.ppm_cells.specs.declared.entry.Entry.{Entry}
use Rattle.ppm_cells.specs.declared.entry.Entry.TheVariants.{Empty, Local, Job, Taken}
use Rattle.ppm_cells.specs.declared.holder.Holder.{Holder}
use Rattle.ppm_cells.specs.declared.restart.RestartKind.{RestartKind}
use Rattle.ppm_cells.specs.declared.restart.RestartKind.TheVariants.{Run, Bump, Push1, Push2, Unwind, Arrive, Join, Pop1, Pop2, Seek, Steal, Check, Take, Take2}
use Rattle.ppm_cells.specs.declared.shape.Shape.{Shape}
use Rattle.ppm_cells.specs.declared.shape.Takeover.{Takeover}
use Rattle.ppm_cells.specs.declared.shape.Takeover.TheVariants.{ByPlaces, ByEntries}
use Rattle.ppm_cells.specs.DequeChange.{tag_of}
use Rattle.ppm_step.specs.Rows.{on_number, on_entry, on_holder, by_places, with_kind, raised, tried, changed, right_begins, seek_held, seek_by, seek_holder, bids, seek_dead, seek_top, notes, passes, passes_by, local_by, seek_entry, seek_closed, taken_so, steals, can_be_taken, taken_message, took, taken_entry, lowered, makes_bid, bid_again, bid_holder, row_of}
use Rattle.ppm_step.specs.declared.content.Content.{Content}
use Rattle.ppm_step.specs.declared.content.Content.TheVariants.{ANumber, ARestart, AnEntry, AHolder, ALink, AFinish, Unreadable}
use Rattle.ppm_step.specs.declared.row.Point.TheVariants.{SeekTop, SeekEntry, SeekClosed, SeekDead, TakenEntry, Offset, BidMessage, BidAgain, BidHolder}
use Rattle.ppm_step.specs.declared.row.Row.{Row}
use Rattle.ppm_step.specs.declared.row.Row.TheVariants.{Now, Store, Exchange}
use Rattle.ppm_step.specs.declared.row.Seat.{Seat}
use Rattle.ppm_step.specs.declared.row.Then.{Then}
use Rattle.ppm_step.specs.declared.row.Then.TheVariants.{Load, Install, Fork, Begin, Move, Enter, Again, Broken}
use Rattle.ppm_paces.specs.Costs.{due, AreFree, IsLook, LooksAreFree, SearchesAreFree}

module _ (s : Shape) (seat : Seat) where
  abbrev F : ℕ → Row → Type 0
  F n row = AreFree s seat n row

  broken : (n : ℕ) → F n (Now Broken)
  broken zero = tt
  broken (suc n) = tt

  again : (n : ℕ) → F n (Now Again)
  again zero = tt
  again (suc n) = tt

  seeks : (n : ℕ) → F n (Now (with_kind seat Seek))
  seeks zero = refl
  seeks (suc n) = tt

  number : (n : ℕ) (go : ℕ → Row) → ((x : ℕ) → F n (go x)) → (w : Content) → F n (on_number w go)
  number n go l (ANumber x) = l x
  number n go l (ARestart x) = broken n
  number n go l (AnEntry x) = broken n
  number n go l (AHolder x) = broken n
  number n go l (ALink x) = broken n
  number n go l (AFinish x) = broken n
  number n go l Unreadable = broken n

  entry : (n : ℕ) (go : Entry → Row) → ((x : Entry) → F n (go x)) → (w : Content) → F n (on_entry w go)
  entry n go l (AnEntry x) = l x
  entry n go l (ANumber x) = broken n
  entry n go l (ARestart x) = broken n
  entry n go l (AHolder x) = broken n
  entry n go l (ALink x) = broken n
  entry n go l (AFinish x) = broken n
  entry n go l Unreadable = broken n

  holder : (n : ℕ) (go : Holder → Row) → ((x : Holder) → F n (go x)) → (w : Content) → F n (on_holder w go)
  holder n go l (AHolder x) = l x
  holder n go l (ANumber x) = broken n
  holder n go l (ARestart x) = broken n
  holder n go l (AnEntry x) = broken n
  holder n go l (ALink x) = broken n
  holder n go l (AFinish x) = broken n
  holder n go l Unreadable = broken n

  by_if : (n : ℕ) (b : Bool) (x y : Row) → F n x → F n y → F n (if b then x else y)
  by_if n true x y fx fy = fx
  by_if n false x y fx fy = fy

  -- what stands after a store or an exchange
  behind : (n : ℕ) (k : RestartKind) → due k ≡ 0 → F n (Now (with_kind seat k))
  behind zero k e = e
  behind (suc n) k e = tt

  trade : (n : ℕ) (cell : Cell) (old : Entry) (new : Option Entry) (k : RestartKind) → due k ≡ 0 → F n (changed cell old new (with_kind seat k))
  trade n cell old None k e = broken n
  trade n cell old (Some new) k e = by n (nat_lt (tag_of old + 1) (2 ^ 34))
    where
      by : (n : ℕ) (b : Bool) → F n (raised cell old new (with_kind seat k) b)
      by n false = broken n
      by zero true = tt
      by (suc n) true = behind n k e

  -- a right branch begins
  offset : (n block bottom : ℕ) → F n (Now (Load (Offset block bottom)))
  offset zero block bottom = tt
  offset (suc n) block bottom = λ victim w. number n (right_begins s block bottom) (λ o. by_if n (nat_lt (block + o) (word_count s)) _ _ (begin n (block + o)) (broken n)) w
    where
      begin : (n f : ℕ) → F n (Now (Begin block f bottom))
      begin zero f = tt
      begin (suc n) f = tt

  -- Seek: an entry, a top, a dead word and a holder
  entries : (n v i : ℕ) → F n (Now (Load (SeekEntry v i)))
  entries zero v i = tt
  entries (suc n) v i = λ victim w. entry n (seek_entry s seat v i) by w
    where
      pass : (n : ℕ) → F n (passes v i)
      pass zero = tt
      pass (suc n) = again n

      note : (n : ℕ) (e : Entry) → F n (notes seat v i e)
      note zero e = tt
      note (suc n) e = behind n (Steal v i) refl

      closed : (n : ℕ) (e : Entry) → F n (Now (Load (SeekClosed v i e)))
      closed zero e = tt
      closed (suc n) e = λ victim w. number n (seek_closed seat v i e) (λ d. by_if n (d == 1) _ _ (note n e) (again n)) w

      local_ : (how : Takeover) (e : Entry) → F n (local_by v i e how)
      local_ ByPlaces e = again n
      local_ ByEntries e = closed n e

      past : (how : Takeover) → F n (passes_by s v i how)
      past ByPlaces = pass n
      past ByEntries = by_if n (nat_lt (i + 1) s.slots) _ _ (pass n) (again n)

      by : (e : Entry) → F n (seek_entry s seat v i e)
      by (Empty t) = again n
      by (Local t r) = local_ s.takeover (Local t r)
      by (Job t r) = note n (Job t r)
      by (Taken t p) = past s.takeover

  tops : (n v : ℕ) → F n (Now (Load (SeekTop v)))
  tops zero v = tt
  tops (suc n) v = λ victim w. number n (seek_top s v) (λ i. by_if n (nat_lt i s.slots) _ _ (entries n v i) (broken n)) w

  deads : (n v : ℕ) (h : Holder) → F n (Now (Load (SeekDead v h)))
  deads zero v h = tt
  deads (suc n) v h = λ victim w. number n (seek_dead seat v h) (λ d. by_if n (d == 1) _ _ (bid n (nat_lt (h.tag + 1) (2 ^ 58))) (tops n v)) w
    where
      bid : (n : ℕ) (b : Bool) → F n (bids seat v h b)
      bid n false = broken n
      bid zero true = tt
      bid (suc n) true = behind n (Take v h.processor) refl

  seek : (n : ℕ) → F n (row_of s seat Seek)
  seek zero = tt
  seek (suc n) = λ victim w. holder n (seek_holder s seat victim) (by victim) w
    where
      held : (v : ℕ) (h : Holder) (own : Bool) → F n (seek_held s seat v h own)
      held v h true = tops n v
      held v h false = deads n v h

      looked : (v : ℕ) (h : Holder) (how : Takeover) → F n (seek_by s seat v h how)
      looked v h ByPlaces = held v h (h.processor == seat.own)
      looked v h ByEntries = tops n v

      by : (v : ℕ) (h : Holder) → F n (seek_holder s seat v h)
      by v h = by_if n (v == seat.place) _ _ (again n) (looked v h s.takeover)

  steal : (n v i : ℕ) → F n (row_of s seat (Steal v i))
  steal zero v i = tt
  steal (suc n) v i = λ victim w. entry n (steals s seat v i) (λ e. trade n (EntryWord v i) e (taken_so s.takeover seat.place e) (Check v i) refl) w

  take : (n v d : ℕ) → F n (row_of s seat (Take v d))
  take n v d = by s.takeover
    where
      exchange : (n tag : ℕ) (h : Holder) → F n (lowered tag seat v d h)
      exchange n zero h = broken n
      exchange zero (suc tag) h = tt
      exchange (suc n) (suc tag) h = behind n (Take2 v) refl

      bid : (n : ℕ) → F n (Now (Load (BidMessage v d)))
      bid zero = tt
      bid (suc n) = λ victim w. holder n (makes_bid seat v d) (λ h. by_if n (h.processor == seat.own) _ _ (exchange n h.tag h) (seeks n)) w

      by : (how : Takeover) → F n (by_places how (Now (Load (BidMessage v d))))
      by ByPlaces = bid n
      by ByEntries = broken n

  take2 : (n v : ℕ) → F n (row_of s seat (Take2 v))
  take2 n v = by s.takeover
    where
      moves : (n : ℕ) → F n (Now (Move v))
      moves zero = tt
      moves (suc n) = tt

      held : (n : ℕ) (h : Holder) → F n (Now (Load (BidHolder v h)))
      held zero h = tt
      held (suc n) h = λ victim w. holder n (bid_holder seat v h) (λ now. by_if n _ _ _ (moves n) (seeks n)) w

      bid : (n : ℕ) → F n (Now (Load (BidAgain v)))
      bid zero = tt
      bid (suc n) = λ victim w. holder n (bid_again seat v) (λ h. by_if n (h.processor == seat.own) _ _ (held n h) (seeks n)) w

      by : (how : Takeover) → F n (by_places how (Now (Load (BidAgain v))))
      by ByPlaces = bid n
      by ByEntries = broken n

  -- by places no entry is inherited
  check : s.takeover ≡ ByPlaces → (n v i : ℕ) → F n (row_of s seat (Check v i))
  check plain zero v i = tt
  check plain (suc n) v i = λ victim w. entry n (taken_message s seat.place v i) (by n) w
    where
      taken : (n : ℕ) (t r : ℕ) → F n (Now (Load (TakenEntry seat.place v i (Job t r))))
      taken zero t r = tt
      taken (suc n) t r = λ victim w. entry n (taken_entry seat seat.place v i (Job t r))
          (λ now. by_if n (took seat.place (Job t r) now) _ _ (offset n r seat.restart.bottom) (seeks n)) w

      by : (n : ℕ) (e : Entry) → F n (taken_message s seat.place v i e)
      by n (Job t r) = taken n t r
      by n (Local t r) = subst (λ (how : Takeover). F n (if can_be_taken how (Local t r) then Now (Load (TakenEntry seat.place v i (Local t r))) else Now Broken)) (sym plain) (broken n)
      by n (Empty t) = subst (λ (how : Takeover). F n (if can_be_taken how (Empty t) then Now (Load (TakenEntry seat.place v i (Empty t))) else Now Broken)) (sym plain) (broken n)
      by n (Taken t p) = subst (λ (how : Takeover). F n (if can_be_taken how (Taken t p) then Now (Load (TakenEntry seat.place v i (Taken t p))) else Now Broken)) (sym plain) (broken n)

pub searches_are_free : SearchesAreFree
searches_are_free s seat Seek is none n = seek s seat n
searches_are_free s seat (Steal v i) is none n = steal s seat n v i
searches_are_free s seat (Check v i) is none n = absurd none
searches_are_free s seat (Take v d) is none n = take s seat n v d
searches_are_free s seat (Take2 v) is none n = take2 s seat n v
searches_are_free s seat _ is none n = absurd is

pub looks_are_free : LooksAreFree
looks_are_free s plain seat Seek is n = seek s seat n
looks_are_free s plain seat (Steal v i) is n = steal s seat n v i
looks_are_free s plain seat (Check v i) is n = check s seat plain n v i
looks_are_free s plain seat (Take v d) is n = take s seat n v d
looks_are_free s plain seat (Take2 v) is n = take2 s seat n v
looks_are_free s plain seat _ is n = absurd is
