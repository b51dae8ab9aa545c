-- The rows that look for work, word by word.
use Rattle.std.proofs.Common.{◌≡◌, ◌≤◌, ◌+◌, ◌==◌, ℕ, zero, suc, Bool, true, false, if◌then◌else◌, Option, Some, None, List, [], ◌∷◌, inl, inr, refl}
use Rattle.std.proofs.Common.{subst, arith}
use Rattle.std.specs.Prelude.{nat_lt, ◌&&◌, ◌^◌}
use Rattle.ppm_cells.specs.Cells.{word_count}
use Rattle.ppm_cells.specs.DequeChange.{tag_of}
use Rattle.ppm_cells.specs.declared.cell.Cell.TheVariants.{EntryWord}
use Rattle.ppm_cells.specs.declared.entry.Entry.{Entry}
use Rattle.ppm_cells.specs.declared.entry.Entry.TheVariants.{Empty, Local, Job, Taken}
use Rattle.ppm_cells.specs.declared.holder.Holder.{Holder}
use Rattle.ppm_cells.specs.declared.restart.RestartKind.{RestartKind}
use Rattle.ppm_cells.specs.declared.restart.RestartKind.TheVariants.{Seek, Steal, Check, Take, Take2}
use Rattle.ppm_cells.specs.declared.shape.Shape.{Shape}
use Rattle.ppm_cells.specs.declared.shape.Takeover.{Takeover}
use Rattle.ppm_cells.specs.declared.shape.Takeover.TheVariants.{ByPlaces, ByEntries}
use Rattle.ppm_step.specs.Rows.{with_kind, raised, changed, on_number, on_entry, on_holder, right_begins, seek_held, seek_by, seek_holder, bids, seek_dead}
use Rattle.ppm_step.specs.Rows.{seek_top, local_by, passes_by, seek_entry, taken_so, steals, can_be_taken, taken_message, took, taken_entry, lowered, makes_bid}
use Rattle.ppm_step.specs.Rows.{bid_again, bid_holder, by_places, found_at, row_of}
use Rattle.ppm_step.specs.declared.content.Content.{Content}
use Rattle.ppm_step.specs.declared.content.Content.TheVariants.{ANumber, ARestart, AnEntry, AHolder, ALink, AFinish, Unreadable}
use Rattle.ppm_step.specs.declared.row.Point.TheVariants.{Offset, SeekDead, SeekTop, SeekEntry, TakenEntry}
use Rattle.ppm_step.specs.declared.row.Point.TheVariants.{BidMessage, BidAgain, BidHolder}
use Rattle.ppm_step.specs.declared.row.Row.{Row}
use Rattle.ppm_step.specs.declared.row.Row.TheVariants.{Now, Store, Exchange}
use Rattle.ppm_step.specs.declared.row.Seat.{Seat}
use Rattle.ppm_step.specs.declared.row.Then.TheVariants.{Load, Install, Fork, Begin, Move, Enter, Again, Broken}
use Rattle.ppm_tickets.specs.Saw.{rest_of, IsStrand, HasSeen, Strand, Looks}
use Rattle.ppm_tickets.specs.View.{content_by}
use Rattle.ppm_tickets.specs.Words.{Word, Spot}
use Rattle.ppm_paces.specs.Costs.{IsLook}
use Rattle.ppm_takeover.specs.Short.{look_cost, LooksAtMost, LooksAreShort}

module _ (s : Shape) (seat : Seat) (k : RestartKind) where
  abbrev F : ℕ → Row → Type 0
  F n row = LooksAtMost s seat k n row

  broken : (n : ℕ) → F n (Now Broken)
  broken zero = tt
  broken (suc n) = tt

  -- what is read in another way is broken
  number : (n : ℕ) (go : ℕ → Row) → ((x : ℕ) → F n (go x)) → (w : Content) → F n (on_number w go)
  number n go l (ANumber x) = l x
  number n go l (ARestart x) = broken n
  number n go l (AnEntry x) = broken n
  number n go l (AHolder x) = broken n
  number n go l (ALink x) = broken n
  number n go l (AFinish x) = broken n
  number n go l Unreadable = broken n

  entry : (n : ℕ) (go : Entry → Row) → ((x : Entry) → F n (go x)) → (w : Content) → F n (on_entry w go)
  entry n go l (AnEntry x) = l x
  entry n go l (ANumber x) = broken n
  entry n go l (ARestart x) = broken n
  entry n go l (AHolder x) = broken n
  entry n go l (ALink x) = broken n
  entry n go l (AFinish x) = broken n
  entry n go l Unreadable = broken n

  holder : (n : ℕ) (go : Holder → Row) → ((x : Holder) → F n (go x)) → (w : Content) → F n (on_holder w go)
  holder n go l (AHolder x) = l x
  holder n go l (ANumber x) = broken n
  holder n go l (ARestart x) = broken n
  holder n go l (AnEntry x) = broken n
  holder n go l (ALink x) = broken n
  holder n go l (AFinish x) = broken n
  holder n go l Unreadable = broken n

  by_if : (n : ℕ) (b : Bool) (x y : Row) → F n x → F n y → F n (if b then x else y)
  by_if n true x y fx fy = fx
  by_if n false x y fx fy = fy

-- Seek: an entry, a top, a dead word and a holder
module _ (s : Shape) (plain : s.takeover ≡ ByPlaces) (seat : Seat) where
  abbrev E : ℕ → Row → Type 0
  E n row = LooksAtMost s seat Seek n row

  entries : (n v i : ℕ) → E (suc (suc (suc n))) (Now (Load (SeekEntry v i)))
  entries n v i = λ victim w. entry s seat Seek (suc (suc n)) (seek_entry s seat v i) by w
    where
      local_ : (how : Takeover) → how ≡ ByPlaces → (e : Entry) → E (suc (suc n)) (local_by v i e how)
      local_ ByPlaces is e = tt
      local_ ByEntries is e = absurd (cc)

      past : (how : Takeover) → how ≡ ByPlaces → E (suc (suc n)) (passes_by s v i how)
      past ByPlaces is = tt
      past ByEntries is = absurd (cc)

      by : (e : Entry) → E (suc (suc n)) (seek_entry s seat v i e)
      by (Empty t) = tt
      by (Local t r) = local_ s.takeover plain (Local t r)
      by (Job t r) = tt
      by (Taken t p) = past s.takeover plain

  tops : (n v : ℕ) → E (suc (suc (suc (suc n)))) (Now (Load (SeekTop v)))
  tops n v = λ victim w.
      number s seat Seek (suc (suc (suc n))) (seek_top s v)
      (λ i. by_if s seat Seek (suc (suc (suc n))) (nat_lt i s.slots) _ _ (entries n v i) (broken s seat Seek (suc (suc (suc n))))) w

  deads : (n v : ℕ) (h : Holder) → E (suc (suc (suc (suc (suc n))))) (Now (Load (SeekDead v h)))
  deads n v h = λ victim w.
      number s seat Seek (suc (suc (suc (suc n)))) (seek_dead seat v h)
      (λ d. by_if s seat Seek (suc (suc (suc (suc n)))) (d == 1) _ _ (bid (nat_lt (h.tag + 1) (2 ^ 58))) (tops n v)) w
    where
      bid : (b : Bool) → E (suc (suc (suc (suc n)))) (bids seat v h b)
      bid false = tt
      bid true = tt

  seek : E (suc (suc (suc (suc (suc (suc zero)))))) (row_of s seat Seek)
  seek = λ victim w. holder s seat Seek (suc (suc (suc (suc (suc zero))))) (seek_holder s seat victim) (by victim) w
    where
      held : (v : ℕ) (h : Holder) (own : Bool) → E (suc (suc (suc (suc (suc zero))))) (seek_held s seat v h own)
      held v h true = tops (suc zero) v
      held v h false = deads zero v h

      looked : (v : ℕ) (h : Holder) (how : Takeover) → how ≡ ByPlaces → E (suc (suc (suc (suc (suc zero))))) (seek_by s seat v h how)
      looked v h ByPlaces is = held v h (h.processor == seat.own)
      looked v h ByEntries is = absurd (cc)

      by : (v : ℕ) (h : Holder) → E (suc (suc (suc (suc (suc zero))))) (seek_holder s seat v h)
      by v h = by_if s seat Seek (suc (suc (suc (suc (suc zero))))) (v == seat.place) _ _ tt (looked v h s.takeover plain)

  -- Steal: its message, and the exchange of the entry
  steal : (v i : ℕ) → LooksAtMost s seat (Steal v i) (suc (suc (suc zero))) (row_of s seat (Steal v i))
  steal v i = λ victim w. entry s seat (Steal v i) (suc (suc zero)) (steals s seat v i) (λ e. trade e (taken_so s.takeover seat.place e)) w
    where
      trade : (old : Entry) (new : Option Entry)
          → LooksAtMost s seat (Steal v i) (suc (suc zero)) (changed (EntryWord v i) old new (with_kind seat (Check v i)))
      trade old None = tt
      trade old (Some new) = by (nat_lt (tag_of old + 1) (2 ^ 34))
        where
          by : (b : Bool) → LooksAtMost s seat (Steal v i) (suc (suc zero)) (raised (EntryWord v i) old new (with_kind seat (Check v i)) b)
          by false = tt
          by true = refl

  -- Check: its message, the entry, and the offset of the job; by places no entry is inherited
  check : (v i : ℕ) → LooksAtMost s seat (Check v i) (suc (suc (suc (suc zero)))) (row_of s seat (Check v i))
  check v i = λ victim w. entry s seat (Check v i) (suc (suc (suc zero))) (taken_message s seat.place v i) (message s.takeover plain) w
    where
      offset : (r b : ℕ) → LooksAtMost s seat (Check v i) (suc (suc zero)) (Now (Load (Offset r b)))
      offset r b = λ victim w.
          number s seat (Check v i) (suc zero) (right_begins s r b)
          (λ o. by_if s seat (Check v i) (suc zero) (nat_lt (r + o) (word_count s)) _ _ tt tt) w

      taken : (t r : ℕ) → LooksAtMost s seat (Check v i) (suc (suc (suc zero))) (Now (Load (TakenEntry seat.place v i (Job t r))))
      taken t r = λ victim w.
          entry s seat (Check v i) (suc (suc zero)) (taken_entry seat seat.place v i (Job t r))
          (λ now. by_if s seat (Check v i) (suc (suc zero)) (took seat.place (Job t r) now) _ _ (offset r seat.restart.bottom) refl) w

      message : (how : Takeover) → how ≡ ByPlaces → (e : Entry)
          → LooksAtMost s seat (Check v i) (suc (suc (suc zero)))
          (if can_be_taken how e then Now (Load (TakenEntry seat.place v i e)) else Now Broken)
      message ByPlaces is (Job t r) = taken t r
      message ByPlaces is (Local t r) = tt
      message ByPlaces is (Empty t) = tt
      message ByPlaces is (Taken t p) = tt
      message ByEntries is e = absurd (cc)

  -- Take: its message, and the exchange of the holder
  take : (v d : ℕ) → LooksAtMost s seat (Take v d) (suc (suc (suc zero))) (row_of s seat (Take v d))
  take v d = by s.takeover
    where
      exchange : (tag : ℕ) (h : Holder) → LooksAtMost s seat (Take v d) (suc (suc zero)) (lowered tag seat v d h)
      exchange zero h = tt
      exchange (suc tag) h = inl refl

      bid : LooksAtMost s seat (Take v d) (suc (suc (suc zero))) (Now (Load (BidMessage v d)))
      bid = λ victim w.
          holder s seat (Take v d) (suc (suc zero)) (makes_bid seat v d)
          (λ h. by_if s seat (Take v d) (suc (suc zero)) (h.processor == seat.own) _ _ (exchange h.tag h) (inr refl)) w

      by : (how : Takeover) → LooksAtMost s seat (Take v d) (suc (suc (suc zero))) (by_places how (Now (Load (BidMessage v d))))
      by ByPlaces = bid
      by ByEntries = tt

  -- Take2: its message, and the holder
  take2 : (v : ℕ) → LooksAtMost s seat (Take2 v) (suc (suc (suc zero))) (row_of s seat (Take2 v))
  take2 v = by s.takeover
    where
      held : (h : Holder) → LooksAtMost s seat (Take2 v) (suc (suc zero)) (Now (Load (BidHolder v h)))
      held h = λ victim w.
          holder s seat (Take2 v) (suc zero) (bid_holder seat v h)
          (λ now. by_if s seat (Take2 v) (suc zero) ((h.tag == now.tag) && (h.processor == now.processor)) _ _ refl refl) w

      bid : LooksAtMost s seat (Take2 v) (suc (suc (suc zero))) (Now (Load (BidAgain v)))
      bid = λ victim w.
          holder s seat (Take2 v) (suc (suc zero)) (bid_again seat v)
          (λ h. by_if s seat (Take2 v) (suc (suc zero)) (h.processor == seat.own) _ _ (held h) refl) w

      by : (how : Takeover) → LooksAtMost s seat (Take2 v) (suc (suc (suc zero))) (by_places how (Now (Load (BidAgain v))))
      by ByPlaces = bid
      by ByEntries = tt

pub looks_are_short : LooksAreShort
looks_are_short s plain seat Seek is = seek s plain seat
looks_are_short s plain seat (Steal v i) is = steal s plain seat v i
looks_are_short s plain seat (Check v i) is = check s plain seat v i
looks_are_short s plain seat (Take v d) is = take s plain seat v d
looks_are_short s plain seat (Take2 v) is = take2 s plain seat v
looks_are_short s plain seat _ is = absurd is

-- what is left of a row after the words that it has found is no longer
module _ (s : Shape) (seat : Seat) (k : RestartKind) (u : ℕ) where
  abbrev Rest : ℕ → Row → Type 0
  Rest n row = (m : ℕ) × (m ≤ n) × LooksAtMost s seat k m row

  over : (n : ℕ) → Rest n (Now Broken)
  over n = (0, omega arith, tt)

  one_more : (n : ℕ) (row : Row) → Rest n row → Rest (suc n) row
  one_more n row r = (r.0, let le = r.1 in omega (arith, le), r.2)

  short_rest : (n : ℕ) (row : Row) (ws : List Word) → LooksAtMost s seat k n row → Rest n (rest_of s seat u row ws)
  short_rest n row [] f = (n, omega arith, f)
  short_rest zero (Now Again) (w ∷ ws) f = over zero
  short_rest zero (Now Broken) (w ∷ ws) f = over zero
  short_rest zero (Now (Load point)) (w ∷ ws) f = absurd f
  short_rest zero (Now (Install x)) (w ∷ ws) f = absurd f
  short_rest zero (Now (Fork x)) (w ∷ ws) f = absurd f
  short_rest zero (Now (Begin x y z)) (w ∷ ws) f = absurd f
  short_rest zero (Now (Move x)) (w ∷ ws) f = absurd f
  short_rest zero (Now (Enter x)) (w ∷ ws) f = absurd f
  short_rest zero (Store c x next) (w ∷ ws) f = absurd f
  short_rest zero (Exchange c old new next) (w ∷ ws) f = absurd f
  short_rest (suc n) (Now (Load point)) (w ∷ ws) f =
      one_more n _ (short_rest n (found_at s seat u point (content_by w)) ws (f u (content_by w)))
  short_rest (suc n) (Now (Install x)) (w ∷ ws) f = over (suc n)
  short_rest (suc n) (Now (Fork x)) (w ∷ ws) f = over (suc n)
  short_rest (suc n) (Now (Begin x y z)) (w ∷ ws) f = over (suc n)
  short_rest (suc n) (Now (Move x)) (w ∷ ws) f = over (suc n)
  short_rest (suc n) (Now (Enter x)) (w ∷ ws) f = over (suc n)
  short_rest (suc n) (Now Again) (w ∷ ws) f = over (suc n)
  short_rest (suc n) (Now Broken) (w ∷ ws) f = over (suc n)
  short_rest (suc n) (Store c x next) (w ∷ ws) f = one_more n _ (short_rest n (Now next) ws f)
  short_rest (suc n) (Exchange c old new next) (w ∷ ws) f = one_more n _ (short_rest n (Now next) ws f)

strand_or_look : (k : RestartKind) → IsLook k → IsStrand k → ⊥
strand_or_look Seek look is = is
strand_or_look (Steal v i) look is = is
strand_or_look (Check v i) look is = is
strand_or_look (Take v d) look is = is
strand_or_look (Take2 v) look is = is
strand_or_look _ look is = look

-- a row of a kind that looks, under way
pub look_row : (s : Shape) → s.takeover ≡ ByPlaces → (m : Spot → Word) (seat : Seat) (row : Row) → IsLook seat.restart.kind → HasSeen s m seat row
    → (n : ℕ) × (n ≤ look_cost seat.restart.kind) × LooksAtMost s seat seat.restart.kind n row
look_row s plain m seat row look (Strand is quiet) = absurd (strand_or_look seat.restart.kind look is)
look_row s plain m seat row look (Looks u ws fit is saw) =
    let k = seat.restart.kind in
    subst (λ (row : Row). (n : ℕ) × (n ≤ look_cost k) × LooksAtMost s seat k n row) is
    (short_rest s seat k u (look_cost k) (row_of s seat k) ws (looks_are_short s plain seat k look))
