-- What rows do to the words that say who holds a place and who is dead: a bid of Take changes a holder word, and no row does anything else.
use Rattle.std.proofs.Common.{◌≡◌, ◌<◌, ◌+◌, ℕ, zero, suc, ◌==◌, Bool, true, false, if◌then◌else◌, List, [], ◌∷◌, ◌⊎◌, inl, inr, refl, sym, ap, subst, arith}
use Rattle.std.specs.Prelude.{nat_lt}
use Rattle.std.proofs.lemmas.Bool.{eqb-true, ltb-true}
use Rattle.ppm_cells.specs.Holder.{IsHolder}
use Rattle.ppm_cells.specs.declared.cell.Cell.{Cell}
use Rattle.ppm_cells.specs.declared.cell.Cell.TheVariants.{HolderWord, DeadWord}
use Rattle.ppm_cells.specs.declared.restart.RestartKind.{RestartKind}
use Rattle.ppm_cells.specs.declared.restart.Restart.{Restart}
use Rattle.ppm_cells.specs.declared.restart.RestartKind.TheVariants.{Run, Bump, Push1, Push2, Unwind, Arrive, Join, Pop1, Pop2, Seek, Steal, Check, Take, Take2}
use Rattle.ppm_cells.specs.declared.shape.Shape.{Shape}
use Rattle.ppm_cells.specs.declared.shape.Takeover.{Takeover}
use Rattle.ppm_cells.specs.declared.shape.Takeover.TheVariants.{ByPlaces, ByEntries}
use Rattle.ppm_code.specs.declared.code.CodeParts.{CodeParts}
use Rattle.ppm_step.specs.Rows.{push_at, by_places, row_of, with_kind, lowered}
use Rattle.ppm_step.specs.There.{bottom_is_there, kind_is_there, restart_is_there}
use Rattle.ppm_step.specs.declared.content.Content.{Content}
use Rattle.ppm_step.specs.declared.row.Point.TheVariants.{BidMessage, BidAgain}
use Rattle.ppm_step.specs.declared.row.Row.{Row}
use Rattle.ppm_step.specs.declared.row.Row.TheVariants.{Now, Store, Exchange}
use Rattle.ppm_step.specs.declared.row.Seat.{Seat}
use Rattle.ppm_step.specs.declared.row.Then.TheVariants.{Load, Install, Broken}
use Rattle.ppm_tickets.specs.Saw.{rest_of, Saw, AreFit, HasSeen, Strand, Looks, IsQuiet, IsQuietCell}
use Rattle.ppm_tickets.specs.View.{with_restarts}
use Rattle.ppm_tickets.specs.Words.{Word, Empty, Local, Job, Taken, Held, Number, Linked, Restarts, Unread, Spot, Bid}
use Rattle.ppm_runs.specs.Sound.{RaisesHolder}
use Rattle.ppm_runs.proofs.SoundRows.{and_right}
use Rattle.ppm_runs.proofs.TameLemmas.{May, TameRow, rest_tame}

-- all is allowed but bids
abbrev no_bids : May
no_bids = record { forks = λ r. Unit {0}; begins = λ r. Unit {0}; stores = λ a. Unit {0}; trades = λ a. Unit {0}; jobs = λ r. Unit {0}; fills = Unit {0}; bids = ⊥ }

places_bid : (t how : Takeover) (row : Row) → TameRow t no_bids row → TameRow t no_bids (by_places how row)
places_bid t ByPlaces row q = q
places_bid t ByEntries row q = tt

module _ (s : Shape) (code : CodeParts) (m : Spot → Word) (seat : Seat) where
  -- an exchange of a holder word raises its tag by one, for the own processor, as was noted
  abbrev pub Bids : Cell → (old new : Content) → Type 0
  Bids (HolderWord place) old new = RaisesHolder s code m seat place old new
  Bids (DeadWord processor) old new = ⊥
  Bids cell old new = Unit {0}

  -- no such word is stored
  abbrev pub Leaves : Cell → Type 0
  Leaves (HolderWord place) = ⊥
  Leaves (DeadWord processor) = ⊥
  Leaves cell = Unit {0}

  abbrev pub BidsRow : Row → Type 0
  BidsRow (Now next) = Unit {0}
  BidsRow (Store cell content next) = Leaves cell
  BidsRow (Exchange cell old new next) = Bids cell old new

  store_tame : (cell : Cell) (content : Content) (next : _) → TameRow s.takeover no_bids (Store cell content next) → Leaves cell
  store_tame (HolderWord place) content next q = absurd q.0
  store_tame (DeadWord processor) content next q = absurd q.0
  store_tame _ content next q = tt

  trade_tame : (cell : Cell) (old new : Content) (next : _) → TameRow s.takeover no_bids (Exchange cell old new next) → Bids cell old new
  trade_tame (HolderWord place) old new next q = absurd q.0
  trade_tame (DeadWord processor) old new next q = absurd q.0
  trade_tame _ old new next q = tt

  row_tame : (row : Row) → TameRow s.takeover no_bids row → BidsRow row
  row_tame (Now next) q = tt
  row_tame (Store cell content next) q = store_tame cell content next q
  row_tame (Exchange cell old new next) q = trade_tame cell old new next q

  store_quiet : (cell : Cell) → IsQuietCell cell → Leaves cell
  store_quiet (HolderWord place) q = absurd q
  store_quiet (DeadWord processor) q = absurd q
  store_quiet _ q = tt

  trade_quiet : (cell : Cell) (old new : Content) → IsQuietCell cell → Bids cell old new
  trade_quiet (HolderWord place) old new q = absurd q
  trade_quiet (DeadWord processor) old new q = absurd q
  trade_quiet _ old new q = tt

  row_quiet : (row : Row) → IsQuiet seat row → BidsRow row
  row_quiet (Now next) q = tt
  row_quiet (Store cell content next) q = store_quiet cell q.0
  row_quiet (Exchange cell old new next) q = trade_quiet cell old new q.0

  -- a row of another kind begins
  push_begins : (how : Takeover) (r : ℕ) (last : Bool) → TameRow s.takeover no_bids (push_at seat how r last)
  push_begins how r true = (tt, tt)
  push_begins ByPlaces r false = tt
  push_begins ByEntries r false = tt

  abbrev IsNoTake : RestartKind → Type 0
  IsNoTake (Take v d) = ⊥
  IsNoTake kind = Unit {0}

  begins_tame : (k : RestartKind) → IsNoTake k → TameRow s.takeover no_bids (row_of s seat k)
  begins_tame (Run f y) is = tt
  begins_tame (Bump r) is = tt
  begins_tame (Push1 r) is = push_begins s.takeover r (seat.restart.bottom + 1 == s.slots)
  begins_tame (Push2 r) is = tt
  begins_tame (Unwind f) is = λ at. tt
  begins_tame (Arrive r d) is = (tt, tt, tt)
  begins_tame (Join r d) is = (tt, λ at. tt)
  begins_tame Pop1 is = tt
  begins_tame (Pop2 r) is = tt
  begins_tame Seek is = tt
  begins_tame (Steal v i) is = tt
  begins_tame (Check v i) is = (λ block. tt, inr (λ block. tt))
  begins_tame (Take v d) is = absurd is
  begins_tame (Take2 v) is = places_bid s.takeover s.takeover (Now (Load (BidAgain v))) tt

  -- a row that has ended writes nothing
  installs_end : (u : ℕ) (r : Restart) (ws : List Word) → BidsRow (rest_of s seat u (Now (Install r)) ws)
  installs_end u r [] = tt
  installs_end u r (w ∷ ws) = tt

  broken_end : (u : ℕ) (ws : List Word) → BidsRow (rest_of s seat u (Now Broken) ws)
  broken_end u [] = tt
  broken_end u (w ∷ ws) = tt

-- a Take bids by the message that it has found
module _ (s : Shape) (code : CodeParts) (m : Spot → Word) (k : ℕ → RestartKind) (b : ℕ → ℕ) (seat : Seat) (there : restart_is_there s seat.restart ≡ true) where
  abbrev M : Spot → Word
  M = with_restarts m k b

  abbrev Goal : Row → Type 0
  Goal row = BidsRow s code m seat row

  module _ (v d u : ℕ) (kind : seat.restart.kind ≡ Take v d) where
    d_low : d < 64
    d_low =
        let shown : kind_is_there s (Take v d) ≡ true = subst (λ (x : RestartKind). kind_is_there s x ≡ true) kind (and_right (bottom_is_there s seat.restart.bottom) (kind_is_there s seat.restart.kind) there) in
        let lt = ltb-true d s.processors (and_right (nat_lt v s.processors) (nat_lt d s.processors) shown) in
        let few = s.within.processors_most in
        omega (arith, lt, few)

    -- the bid, and what is left after it
    bids_so : (t c : ℕ) → IsHolder (record { tag = t; processor = c }) → c ≡ seat.own → Held t c ≡ m (Bid seat.place) → Goal (lowered t seat v d (record { tag = t; processor = c }))
    bids_so zero c fit own noted = tt
    bids_so (suc t) c fit own noted = (omega arith, own, (d_low, (let f = fit.1.0 in omega (arith, f), tt)), fit, kind, sym noted)

    by_own : (t c : ℕ) → IsHolder (record { tag = t; processor = c }) → Held t c ≡ m (Bid seat.place) → (y : Bool) → (c == seat.own) ≡ y
        → Goal (if y then lowered t seat v d (record { tag = t; processor = c }) else Now (with_kind seat Seek))
    by_own t c fit noted true e = bids_so t c fit (eqb-true c seat.own e) noted
    by_own t c fit noted false e = tt

    behind : (t c : ℕ) (y : Bool) (w : Word) (ws : List Word) → Goal (rest_of s seat u (if y then lowered t seat v d (record { tag = t; processor = c }) else Now (with_kind seat Seek)) (w ∷ ws))
    behind zero c true w ws = tt
    behind (suc t) c true w ws = installs_end s code m seat u (record { kind = Take2 v; bottom = seat.restart.bottom }) ws
    behind t c false w ws = tt

    take_row : (ws : List Word) → AreFit ws → Saw s seat u M (Unit {0}) (Now (Load (BidMessage v d))) ws → Goal (rest_of s seat u (Now (Load (BidMessage v d))) ws)
    take_row [] fit saw = tt
    take_row (Held t c ∷ []) fit saw = by_own t c fit.0 (saw.1 refl) (c == seat.own) refl
    take_row (Held t c ∷ w ∷ ws) fit saw = behind t c (c == seat.own) w ws
    take_row (Empty t ∷ ws) fit saw = broken_end s code m seat u ws
    take_row (Local t x ∷ ws) fit saw = broken_end s code m seat u ws
    take_row (Job t x ∷ ws) fit saw = broken_end s code m seat u ws
    take_row (Taken t x ∷ ws) fit saw = broken_end s code m seat u ws
    take_row (Number x ∷ ws) fit saw = broken_end s code m seat u ws
    take_row (Linked x ∷ ws) fit saw = broken_end s code m seat u ws
    take_row (Restarts x y ∷ ws) fit saw = broken_end s code m seat u ws
    take_row (Unread ∷ ws) fit saw = broken_end s code m seat u ws

    places_take : (how : Takeover) (ws : List Word) → AreFit ws → Saw s seat u M (Unit {0}) (by_places how (Now (Load (BidMessage v d)))) ws
        → Goal (rest_of s seat u (by_places how (Now (Load (BidMessage v d)))) ws)
    places_take ByPlaces ws fit saw = take_row ws fit saw
    places_take ByEntries ws fit saw = broken_end s code m seat u ws

  take_or : (k : RestartKind) → ((v : ℕ) × (d : ℕ) × (k ≡ Take v d)) ⊎ IsNoTake s code m seat k
  take_or (Take v d) = inl (v, d, refl)
  take_or _ = inr tt

  -- a row that has seen words makes lawful bids, and stores no holder word
  pub row_bids : (row : Row) → HasSeen s M seat row → Goal row
  row_bids row (Strand is quiet) = row_quiet s code m seat row quiet
  row_bids row (Looks u ws fit is saw) = subst Goal is (elim (take_or seat.restart.kind) [
    | inl take ↦
        let e : row_of s seat seat.restart.kind ≡ row_of s seat (Take take.0 take.1) = ap (row_of s seat) take.2 in
        subst (λ (x : Row). Goal (rest_of s seat u x ws)) (sym e) (places_take take.0 take.1 u take.2 s.takeover ws fit (subst (λ (x : Row). Saw s seat u M (Unit {0}) x ws) e saw))
    | inr other ↦ row_tame s code m seat (rest_of s seat u (row_of s seat seat.restart.kind) ws) (rest_tame s seat no_bids u (row_of s seat seat.restart.kind) ws (begins_tame s code m seat seat.restart.kind other))
  ])
