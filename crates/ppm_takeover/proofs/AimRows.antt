-- What rows that bid have seen. A row that seeks work stores a message of its own processor before it goes on to bid; a row that moves has seen that its
-- bid stands; and no other row goes on to bid.
use Rattle.std.proofs.Common.{◌≡◌, ◌⊎◌, ◌==◌, ◌+◌, ◌-◌, ℕ, zero, suc, Bool, true, false, if◌then◌else◌, List, [], ◌∷◌, inl, inr, refl, sym, ap, ◌∙◌, subst}
use Rattle.std.specs.Prelude.{◌&&◌, ◌^◌, nat_lt}
use Rattle.std.proofs.lemmas.Bool.{eqb-true}
use Rattle.ppm_cells.specs.Cells.{word_count}
use Rattle.ppm_cells.specs.declared.cell.Cell.TheVariants.{EntryWord}
use Rattle.ppm_cells.specs.declared.entry.Entry.TheVariants as entries
use Rattle.ppm_cells.specs.declared.holder.Holder.{Holder as AHold}
use Rattle.ppm_cells.specs.declared.restart.Restart.{Restart}
use Rattle.ppm_cells.specs.declared.restart.RestartKind.{RestartKind}
use Rattle.ppm_cells.specs.declared.restart.RestartKind.TheVariants.{Run, Bump, Push1, Push2, Unwind, Arrive, Join, Pop1, Pop2, Seek, Steal, Check, Take, Take2}
use Rattle.ppm_cells.specs.declared.shape.Shape.{Shape}
use Rattle.ppm_cells.specs.declared.shape.Takeover.{Takeover}
use Rattle.ppm_cells.specs.declared.shape.Takeover.TheVariants.{ByPlaces, ByEntries}
use Rattle.ppm_step.specs.Rows.{with_kind, raised, left_begins, by_places, seek_by, seek_held, bids, passes_by, local_by, bid_again, bid_holder, row_of}
use Rattle.ppm_step.specs.declared.row.Point.TheVariants.{PushBottom, PopBelow, PopAgain, PopAbove, Offset, SeekHolder, SeekDead, SeekTop, SeekEntry, BidAgain, BidHolder}
use Rattle.ppm_step.specs.declared.row.Row.{Row}
use Rattle.ppm_step.specs.declared.row.Row.TheVariants.{Now}
use Rattle.ppm_step.specs.declared.row.Seat.{Seat}
use Rattle.ppm_step.specs.declared.row.Then.TheVariants.{Load, Install, Begin, Move, Again, Broken}
use Rattle.ppm_tickets.specs.Lawful.{Names}
use Rattle.ppm_tickets.specs.Saw.{rest_of, Saw, IsStrand, IsStrandOrPop, IsQuiet, HasSeen, Strand, Looks}
use Rattle.ppm_tickets.specs.Words.{Word, Empty, Local, Job, Taken, Held, Number, Linked, Restarts, Unread, Spot, Bid, Holder}
use Rattle.ppm_tickets.proofs.QuietLemmas.{begun_quiet, rest_quiet}
use Rattle.ppm_kept.specs.Pushing.{kind_seat}
use Rattle.ppm_runs.proofs.AgreeLemmas.{IsRunKind, push1_shape}
use Rattle.ppm_paces.specs.Costs.{IsLook}
use Rattle.ppm_takeover.specs.Lost.{BidsFor}
use Rattle.ppm_takeover.specs.Short.{LooksAtMost}
use Rattle.ppm_takeover.proofs.LookRows.{look_row}

-- a row that seeks work and is about to bid has a message of its own processor
abbrev pub SeekSo : Seat → (Spot → Word) → Row → Type 0
SeekSo seat m (Now (Install re)) = (p : ℕ) → BidsFor re.kind p → Names (m (Bid seat.place)) seat.own
SeekSo seat m row = Unit {0}

module _ (s : Shape) (m : Spot → Word) (seat : Seat) (u : ℕ) where
  abbrev So : Row → List Word → Type 0
  So row ws = SeekSo seat m (rest_of s seat u row ws)

  broken_so : (ws : List Word) → So (Now Broken) ws
  broken_so [] = tt
  broken_so (w ∷ ws) = tt

  again_so : (ws : List Word) → So (Now Again) ws
  again_so [] = tt
  again_so (w ∷ ws) = tt

  -- a job that is noted
  steals_so : (v i : ℕ) (ws : List Word) → So (Now (with_kind seat (Steal v i))) ws
  steals_so v i [] = λ p a. absurd a
  steals_so v i (w ∷ ws) = tt

  passes_so : (how : Takeover) → how ≡ ByPlaces → (v i : ℕ) (ws : List Word) → So (passes_by s v i how) ws
  passes_so ByPlaces e v i [] = tt
  passes_so ByPlaces e v i (w ∷ ws) = again_so ws
  passes_so ByEntries e v i ws = absurd (cc)

  local_so : (how : Takeover) → how ≡ ByPlaces → (v i t x : ℕ) (ws : List Word) → So (local_by v i (entries.Local t x) how) ws
  local_so ByPlaces e v i t x ws = again_so ws
  local_so ByEntries e v i t x ws = absurd (cc)

  entry_so : s.takeover ≡ ByPlaces → (v i : ℕ) (ws : List Word) → So (Now (Load (SeekEntry v i))) ws
  entry_so plain v i [] = tt
  entry_so plain v i (Empty t ∷ ws) = again_so ws
  entry_so plain v i (Local t x ∷ ws) = local_so s.takeover plain v i t x ws
  entry_so plain v i (Job t x ∷ []) = tt
  entry_so plain v i (Job t x ∷ w ∷ ws) = steals_so v i ws
  entry_so plain v i (Taken t x ∷ ws) = passes_so s.takeover plain v i ws
  entry_so plain v i (Held t c ∷ ws) = broken_so ws
  entry_so plain v i (Number n ∷ ws) = broken_so ws
  entry_so plain v i (Linked n ∷ ws) = broken_so ws
  entry_so plain v i (Restarts n y ∷ ws) = broken_so ws
  entry_so plain v i (Unread ∷ ws) = broken_so ws

  top_so : s.takeover ≡ ByPlaces → (v : ℕ) (ws : List Word) → So (Now (Load (SeekTop v))) ws
  top_so plain v [] = tt
  top_so plain v (Number n ∷ ws) = by (nat_lt n s.slots)
    where
      by : (y : Bool) → So (if y then Now (Load (SeekEntry v n)) else Now Broken) ws
      by true = entry_so plain v n ws
      by false = broken_so ws
  top_so plain v (Empty t ∷ ws) = broken_so ws
  top_so plain v (Local t x ∷ ws) = broken_so ws
  top_so plain v (Job t x ∷ ws) = broken_so ws
  top_so plain v (Taken t x ∷ ws) = broken_so ws
  top_so plain v (Held t c ∷ ws) = broken_so ws
  top_so plain v (Linked n ∷ ws) = broken_so ws
  top_so plain v (Restarts n y ∷ ws) = broken_so ws
  top_so plain v (Unread ∷ ws) = broken_so ws

  -- a message that is stored names its own processor
  message_so : (v : ℕ) (h : AHold) (y : Bool) (before : Type 0) (ws : List Word) → Saw s seat u m before (bids seat v h y) ws → So (bids seat v h y) ws
  message_so v h true before [] saw = tt
  message_so v h true before (w ∷ []) saw = λ p a. subst (λ (x : Word). Names x seat.own) (saw.1 refl) refl
  message_so v h true before (w ∷ x ∷ ws) saw = tt
  message_so v h false before ws saw = broken_so ws

  dead_so : s.takeover ≡ ByPlaces → (v : ℕ) (h : AHold) (before : Type 0) (ws : List Word) → Saw s seat u m before (Now (Load (SeekDead v h))) ws
      → So (Now (Load (SeekDead v h))) ws
  dead_so plain v h before [] saw = tt
  dead_so plain v h before (Number n ∷ ws) saw = by _ (n == 1) saw
    where
      by : (X : Type 0) (y : Bool) → Saw s seat u m X (if y then bids seat v h (nat_lt (h.tag + 1) (2 ^ 58)) else Now (Load (SeekTop v))) ws
          → So (if y then bids seat v h (nat_lt (h.tag + 1) (2 ^ 58)) else Now (Load (SeekTop v))) ws
      by X true saw = message_so v h (nat_lt (h.tag + 1) (2 ^ 58)) _ ws saw
      by X false saw = top_so plain v ws
  dead_so plain v h before (Empty t ∷ ws) saw = broken_so ws
  dead_so plain v h before (Local t x ∷ ws) saw = broken_so ws
  dead_so plain v h before (Job t x ∷ ws) saw = broken_so ws
  dead_so plain v h before (Taken t x ∷ ws) saw = broken_so ws
  dead_so plain v h before (Held t c ∷ ws) saw = broken_so ws
  dead_so plain v h before (Linked n ∷ ws) saw = broken_so ws
  dead_so plain v h before (Restarts n y ∷ ws) saw = broken_so ws
  dead_so plain v h before (Unread ∷ ws) saw = broken_so ws

  held_so : s.takeover ≡ ByPlaces → (v : ℕ) (h : AHold) (own : Bool) (before : Type 0) (ws : List Word) → Saw s seat u m before (seek_held s seat v h own) ws
      → So (seek_held s seat v h own) ws
  held_so plain v h true before ws saw = top_so plain v ws
  held_so plain v h false before ws saw = dead_so plain v h before ws saw

  by_so : (how : Takeover) → how ≡ ByPlaces → s.takeover ≡ ByPlaces → (v : ℕ) (h : AHold) (before : Type 0) (ws : List Word)
      → Saw s seat u m before (seek_by s seat v h how) ws → So (seek_by s seat v h how) ws
  by_so ByPlaces e plain v h before ws saw = held_so plain v h (h.processor == seat.own) before ws saw
  by_so ByEntries e plain v h before ws saw = absurd (cc)

  seek_so : s.takeover ≡ ByPlaces → (before : Type 0) (ws : List Word) → Saw s seat u m before (Now (Load SeekHolder)) ws → So (Now (Load SeekHolder)) ws
  seek_so plain before [] saw = tt
  seek_so plain before (Held t c ∷ ws) saw = by _ (u == seat.place) saw
    where
      by : (X : Type 0) (y : Bool)
          → Saw s seat u m X (if y then Now Again else seek_by s seat u (record { tag = t; processor = c }) s.takeover) ws
          → So (if y then Now Again else seek_by s seat u (record { tag = t; processor = c }) s.takeover) ws
      by X true saw = again_so ws
      by X false saw = by_so s.takeover plain plain u (record { tag = t; processor = c }) _ ws saw
  seek_so plain before (Empty t ∷ ws) saw = broken_so ws
  seek_so plain before (Local t x ∷ ws) saw = broken_so ws
  seek_so plain before (Job t x ∷ ws) saw = broken_so ws
  seek_so plain before (Taken t x ∷ ws) saw = broken_so ws
  seek_so plain before (Number n ∷ ws) saw = broken_so ws
  seek_so plain before (Linked n ∷ ws) saw = broken_so ws
  seek_so plain before (Restarts n y ∷ ws) saw = broken_so ws
  seek_so plain before (Unread ∷ ws) saw = broken_so ws

pub seek_row : (s : Shape) → s.takeover ≡ ByPlaces → (m : Spot → Word) (seat : Seat) (row : Row) → seat.restart.kind ≡ Seek → HasSeen s m seat row
    → SeekSo seat m row
seek_row s plain m seat row kind (Strand is quiet) = absurd (subst IsStrand kind is)
seek_row s plain m seat row kind (Looks u ws fit is saw) =
    subst (SeekSo seat m) (ap (λ (k : RestartKind). rest_of s seat u (row_of s seat k) ws) (sym kind) ∙ is)
    (seek_so s m seat u plain (Unit {0}) ws (subst (λ (k : RestartKind). Saw s seat u m (Unit {0}) (row_of s seat k) ws) kind saw))

-- a row that moves has seen that its bid stands, and the holder word names its processor
abbrev pub MoveSo : Seat → (Spot → Word) → (v : ℕ) → Row → Type 0
MoveSo seat m v (Now (Move p)) = (m (Bid seat.place) ≡ m (Holder v)) × Names (m (Holder v)) seat.own
MoveSo seat m v row = Unit {0}

both_hold : (a b : Bool) → (a && b) ≡ true → (a ≡ true) × (b ≡ true)
both_hold true true e = (refl, refl)
both_hold true false e = absurd (cc)
both_hold false b e = absurd (cc)

module _ (s : Shape) (m : Spot → Word) (seat : Seat) (v u : ℕ) where
  abbrev Moves : Row → List Word → Type 0
  Moves row ws = MoveSo seat m v (rest_of s seat u row ws)

  broken_moves : (ws : List Word) → Moves (Now Broken) ws
  broken_moves [] = tt
  broken_moves (w ∷ ws) = tt

  seeks_moves : (ws : List Word) → Moves (Now (with_kind seat Seek)) ws
  seeks_moves [] = tt
  seeks_moves (w ∷ ws) = tt

  -- the holder is the one of the message
  same_moves : (message now : AHold) → message.processor ≡ seat.own → Held message.tag message.processor ≡ m (Bid seat.place)
      → (Names (Held now.tag now.processor) seat.own → Held now.tag now.processor ≡ m (Holder v)) → (ws : List Word)
      → Moves (bid_holder seat v message now) ws
  same_moves message now own told kept ws = by ((message.tag == now.tag) && (message.processor == now.processor)) refl ws
    where
      by : (y : Bool) → ((message.tag == now.tag) && (message.processor == now.processor)) ≡ y → (ws : List Word)
          → Moves (if y then Now (Move v) else Now (with_kind seat Seek)) ws
      by true e [] =
          let two = both_hold (message.tag == now.tag) (message.processor == now.processor) e in
          let tags = eqb-true message.tag now.tag two.0 in
          let one = eqb-true message.processor now.processor two.1 in
          let names : Names (Held now.tag now.processor) seat.own = sym one ∙ own in
          let is = kept names in
          let same : Held message.tag message.processor ≡ Held now.tag now.processor =
          ap (λ (x : ℕ). Held x message.processor) tags ∙ ap (λ (x : ℕ). Held now.tag x) one in
          (sym told ∙ same ∙ is, subst (λ (x : Word). Names x seat.own) is names)
      by true e (w ∷ ws) = tt
      by false e ws = seeks_moves ws

  holder_moves : (message : AHold) → message.processor ≡ seat.own → (before : Type 0) → (before → Held message.tag message.processor ≡ m (Bid seat.place))
      → (ws : List Word) → Saw s seat u m before (Now (Load (BidHolder v message))) ws → Moves (Now (Load (BidHolder v message))) ws
  holder_moves message own before told [] saw = tt
  holder_moves message own before told (Held t c ∷ []) saw =
      same_moves message (record { tag = t; processor = c }) own (told saw.0) (λ names. saw.1.0 names) []
  holder_moves message own before told (Held t c ∷ w ∷ ws) saw = by ((message.tag == t) && (message.processor == c))
    where
      by : (y : Bool) → Moves (if y then Now (Move v) else Now (with_kind seat Seek)) (w ∷ ws)
      by true = tt
      by false = tt
  holder_moves message own before told (Empty t ∷ ws) saw = broken_moves ws
  holder_moves message own before told (Local t x ∷ ws) saw = broken_moves ws
  holder_moves message own before told (Job t x ∷ ws) saw = broken_moves ws
  holder_moves message own before told (Taken t x ∷ ws) saw = broken_moves ws
  holder_moves message own before told (Number n ∷ ws) saw = broken_moves ws
  holder_moves message own before told (Linked n ∷ ws) saw = broken_moves ws
  holder_moves message own before told (Restarts n y ∷ ws) saw = broken_moves ws
  holder_moves message own before told (Unread ∷ ws) saw = broken_moves ws

  own_moves : (message : AHold) → (before : Type 0) → (before → Held message.tag message.processor ≡ m (Bid seat.place)) → (ws : List Word)
      → Saw s seat u m before (bid_again seat v message) ws → Moves (bid_again seat v message) ws
  own_moves message before told ws saw = by (message.processor == seat.own) refl saw
    where
      by : (y : Bool) → (message.processor == seat.own) ≡ y
          → Saw s seat u m before (if y then Now (Load (BidHolder v message)) else Now (with_kind seat Seek)) ws
          → Moves (if y then Now (Load (BidHolder v message)) else Now (with_kind seat Seek)) ws
      by true e saw = holder_moves message (eqb-true message.processor seat.own e) before told ws saw
      by false e saw = seeks_moves ws

  again_moves : (ws : List Word) → Saw s seat u m (Unit {0}) (Now (Load (BidAgain v))) ws → Moves (Now (Load (BidAgain v))) ws
  again_moves [] saw = tt
  again_moves (Held t c ∷ ws) saw = own_moves (record { tag = t; processor = c }) _ (λ before. before.1 refl) ws saw
  again_moves (Empty t ∷ ws) saw = broken_moves ws
  again_moves (Local t x ∷ ws) saw = broken_moves ws
  again_moves (Job t x ∷ ws) saw = broken_moves ws
  again_moves (Taken t x ∷ ws) saw = broken_moves ws
  again_moves (Number n ∷ ws) saw = broken_moves ws
  again_moves (Linked n ∷ ws) saw = broken_moves ws
  again_moves (Restarts n y ∷ ws) saw = broken_moves ws
  again_moves (Unread ∷ ws) saw = broken_moves ws

  move_by : (how : Takeover) (ws : List Word) → Saw s seat u m (Unit {0}) (by_places how (Now (Load (BidAgain v)))) ws
      → Moves (by_places how (Now (Load (BidAgain v)))) ws
  move_by ByPlaces ws saw = again_moves ws saw
  move_by ByEntries ws saw = broken_moves ws

pub move_row : (s : Shape) (m : Spot → Word) (seat : Seat) (row : Row) (v : ℕ) → seat.restart.kind ≡ Take2 v → HasSeen s m seat row → MoveSo seat m v row
move_row s m seat row v kind (Strand is quiet) = absurd (subst IsStrand kind is)
move_row s m seat row v kind (Looks u ws fit is saw) =
    subst (MoveSo seat m v) (ap (λ (k : RestartKind). rest_of s seat u (row_of s seat k) ws) (sym kind) ∙ is)
    (move_by s m seat v u s.takeover ws (subst (λ (k : RestartKind). Saw s seat u m (Unit {0}) (row_of s seat k) ws) kind saw))

-- other rows install nothing that bids
abbrev pub BidsNot : Row → Type 0
BidsNot (Now (Install re)) = (p : ℕ) → BidsFor re.kind p → ⊥
BidsNot row = Unit {0}

quiet_not : (k : RestartKind) → IsStrandOrPop k → (p : ℕ) → BidsFor k p → ⊥
quiet_not (Run f y) is p a = a
quiet_not (Bump r) is p a = a
quiet_not (Unwind f) is p a = a
quiet_not (Arrive r d) is p a = a
quiet_not (Join r d) is p a = a
quiet_not Pop1 is p a = a
quiet_not _ is p a = is

run_not : (k : RestartKind) → IsRunKind k → (p : ℕ) → BidsFor k p → ⊥
run_not (Run f y) is p a = a
run_not _ is p a = is

-- of places that push or pop
module _ (s : Shape) (seat : Seat) (u : ℕ) where
  abbrev Not : Row → List Word → Type 0
  Not row ws = BidsNot (rest_of s seat u row ws)

  broken_not : (ws : List Word) → Not (Now Broken) ws
  broken_not [] = tt
  broken_not (w ∷ ws) = tt

  seeks_not : (ws : List Word) → Not (Now (with_kind seat Seek)) ws
  seeks_not [] = λ p a. a
  seeks_not (w ∷ ws) = tt

  runs_not : (re : Restart) → ((p : ℕ) → BidsFor re.kind p → ⊥) → (ws : List Word) → Not (Now (Install re)) ws
  runs_not re none [] = none
  runs_not re none (w ∷ ws) = tt

  push2_not : (r : ℕ) (ws : List Word) → Not (Now (Load (PushBottom r))) ws
  push2_not r [] = tt
  push2_not r (Local t x ∷ ws) = by (nat_lt (t + 1) (2 ^ 34)) ws
    where
      by : (y : Bool) (ws : List Word)
          → Not (raised (EntryWord seat.place seat.restart.bottom) (entries.Local t x) (entries.Job (t + 1) r) (left_begins r (seat.restart.bottom + 1)) y) ws
      by true [] = tt
      by true (w ∷ ws) = runs_not (record { kind = Run (r + 5) 0; bottom = seat.restart.bottom + 1 }) (λ p a. a) ws
      by false ws = broken_not ws
  push2_not r (Empty t ∷ ws) = runs_not (record { kind = Run (r + 5) 0; bottom = seat.restart.bottom + 1 }) (λ p a. a) ws
  push2_not r (Job t x ∷ ws) = runs_not (record { kind = Run (r + 5) 0; bottom = seat.restart.bottom + 1 }) (λ p a. a) ws
  push2_not r (Taken t x ∷ ws) = runs_not (record { kind = Run (r + 5) 0; bottom = seat.restart.bottom + 1 }) (λ p a. a) ws
  push2_not r (Held t x ∷ ws) = broken_not ws
  push2_not r (Number n ∷ ws) = broken_not ws
  push2_not r (Linked n ∷ ws) = broken_not ws
  push2_not r (Restarts n y ∷ ws) = broken_not ws
  push2_not r (Unread ∷ ws) = broken_not ws

  pop1_not : (ws : List Word) → Not (Now (Load PopBelow)) ws
  pop1_not [] = tt
  pop1_not (Taken t x ∷ ws) = seeks_not ws
  pop1_not (Local t r ∷ ws) = runs_not (record { kind = Pop2 r; bottom = seat.restart.bottom }) (λ p a. a) ws
  pop1_not (Job t r ∷ ws) = by (nat_lt (t + 1) (2 ^ 34)) ws
    where
      by : (y : Bool) (ws : List Word)
          → Not (raised (EntryWord seat.place (seat.restart.bottom - 1)) (entries.Job t r) (entries.Local (t + 1) r) (with_kind seat (Pop2 r)) y) ws
      by true [] = tt
      by true (w ∷ ws) = runs_not (record { kind = Pop2 r; bottom = seat.restart.bottom }) (λ p a. a) ws
      by false ws = broken_not ws
  pop1_not (Empty t ∷ ws) = broken_not ws
  pop1_not (Held t x ∷ ws) = broken_not ws
  pop1_not (Number n ∷ ws) = broken_not ws
  pop1_not (Linked n ∷ ws) = broken_not ws
  pop1_not (Restarts n y ∷ ws) = broken_not ws
  pop1_not (Unread ∷ ws) = broken_not ws

  offset_not : (r next : ℕ) (ws : List Word) → Not (Now (Load (Offset r next))) ws
  offset_not r next [] = tt
  offset_not r next (Number n ∷ ws) = by (nat_lt (r + n) (word_count s)) ws
    where
      by : (y : Bool) (ws : List Word) → Not (if y then Now (Begin r (r + n) next) else Now Broken) ws
      by true [] = tt
      by true (w ∷ ws) = tt
      by false ws = broken_not ws
  offset_not r next (Empty t ∷ ws) = broken_not ws
  offset_not r next (Local t x ∷ ws) = broken_not ws
  offset_not r next (Job t x ∷ ws) = broken_not ws
  offset_not r next (Taken t x ∷ ws) = broken_not ws
  offset_not r next (Held t x ∷ ws) = broken_not ws
  offset_not r next (Linked n ∷ ws) = broken_not ws
  offset_not r next (Restarts n y ∷ ws) = broken_not ws
  offset_not r next (Unread ∷ ws) = broken_not ws

  above_not : (r : ℕ) (ws : List Word) → Not (Now (Load (PopAbove r))) ws
  above_not r [] = tt
  above_not r (Local t x ∷ ws) = by (nat_lt (t + 1) (2 ^ 34)) ws
    where
      by : (y : Bool) (ws : List Word)
          → Not (raised (EntryWord seat.place seat.restart.bottom) (entries.Local t x) (entries.Empty (t + 1))
          (Load (Offset r (seat.restart.bottom - 1))) y) ws
      by true [] = tt
      by true (w ∷ ws) = offset_not r (seat.restart.bottom - 1) ws
      by false ws = broken_not ws
  above_not r (Empty t ∷ ws) = offset_not r (seat.restart.bottom - 1) ws
  above_not r (Job t x ∷ ws) = offset_not r (seat.restart.bottom - 1) ws
  above_not r (Taken t x ∷ ws) = offset_not r (seat.restart.bottom - 1) ws
  above_not r (Held t x ∷ ws) = broken_not ws
  above_not r (Number n ∷ ws) = broken_not ws
  above_not r (Linked n ∷ ws) = broken_not ws
  above_not r (Restarts n y ∷ ws) = broken_not ws
  above_not r (Unread ∷ ws) = broken_not ws

  pop2_not : (r : ℕ) (ws : List Word) → Not (Now (Load (PopAgain r))) ws
  pop2_not r [] = tt
  pop2_not r (Taken t x ∷ ws) = seeks_not ws
  pop2_not r (Local t x ∷ ws) = above_not r ws
  pop2_not r (Empty t ∷ ws) = broken_not ws
  pop2_not r (Job t x ∷ ws) = broken_not ws
  pop2_not r (Held t x ∷ ws) = broken_not ws
  pop2_not r (Number n ∷ ws) = broken_not ws
  pop2_not r (Linked n ∷ ws) = broken_not ws
  pop2_not r (Restarts n y ∷ ws) = broken_not ws
  pop2_not r (Unread ∷ ws) = broken_not ws

-- a place of this kind seeks work, or bids for v
abbrev pub BidsSo : RestartKind → (v : ℕ) → Type 0
BidsSo k v = (k ≡ Seek) ⊎ ((d : ℕ) × (k ≡ Take v d))

-- an install of a row of a place that is at this kind: where it bids for v, the place seeks work, or bids for v
module _ (s : Shape) (plain : s.takeover ≡ ByPlaces) (m : Spot → Word) (own p b : ℕ) (re : Restart) where
  abbrev Seen : RestartKind → Type 0
  Seen k = HasSeen s m (kind_seat own p k b) (Now (Install re))

  abbrev So_of : RestartKind → Type 0
  So_of k = (v : ℕ) → BidsFor re.kind v → BidsSo k v

  none_of : (k : RestartKind) → ((v : ℕ) → BidsFor re.kind v → ⊥) → So_of k
  none_of k none v bids = absurd (none v bids)

  quiet_of : (k : RestartKind) → IsStrand k → Seen k → So_of k
  quiet_of k strand (Strand is q) = none_of k (quiet_not re.kind q.0)
  quiet_of k strand (Looks u ws fit is saw) =
      let seat = kind_seat own p k b in
      let all = subst (IsQuiet seat) is (rest_quiet seat s u (row_of s seat k) ws (begun_quiet seat s k refl strand)) in
      none_of k (quiet_not re.kind all.0)

  look_of : (k : RestartKind) → IsLook k → ((n : ℕ) → LooksAtMost s (kind_seat own p k b) k n (Now (Install re)) → So_of k) → Seen k → So_of k
  look_of k look so seen = let a = look_row s plain m (kind_seat own p k b) (Now (Install re)) look seen in so a.0 a.2

  pub bids_so : (k : RestartKind) → Seen k → So_of k
  bids_so (Run f y) seen = quiet_of (Run f y) tt seen
  bids_so (Bump r) seen = quiet_of (Bump r) tt seen
  bids_so (Unwind f) seen = quiet_of (Unwind f) tt seen
  bids_so (Arrive r d) seen = quiet_of (Arrive r d) tt seen
  bids_so (Join r d) seen = quiet_of (Join r d) tt seen
  bids_so (Push1 r) seen = elim (push1_shape s own p b r (Now (Install re)) m seen) [
    | inl last ↦ none_of (Push1 r) (run_not re.kind last.1)
    | inr above ↦ elim above.1 [
      | inl push ↦ none_of (Push1 r) (λ v a. subst (λ (k : RestartKind). BidsFor k v) push.0 a)
      | inr runs ↦ none_of (Push1 r) (run_not re.kind runs.1)
    ]
  ]
  bids_so (Push2 r) (Strand is q) = absurd is
  bids_so (Push2 r) (Looks u ws fit is saw) = none_of (Push2 r) (subst BidsNot is (push2_not s (kind_seat own p (Push2 r) b) u r ws))
  bids_so Pop1 (Strand is q) = absurd is
  bids_so Pop1 (Looks u ws fit is saw) = none_of Pop1 (subst BidsNot is (pop1_not s (kind_seat own p Pop1 b) u ws))
  bids_so (Pop2 r) (Strand is q) = absurd is
  bids_so (Pop2 r) (Looks u ws fit is saw) = none_of (Pop2 r) (subst BidsNot is (pop2_not s (kind_seat own p (Pop2 r) b) u r ws))
  bids_so Seek seen = λ v bids. inl refl
  bids_so (Steal w i) seen = look_of (Steal w i) tt by seen
    where
      by : (n : ℕ) → LooksAtMost s (kind_seat own p (Steal w i) b) (Steal w i) n (Now (Install re)) → So_of (Steal w i)
      by zero a = absurd a
      by (suc n) a = none_of (Steal w i) (λ v bids. subst (λ (k : RestartKind). BidsFor k v) a bids)
  bids_so (Check w i) seen = look_of (Check w i) tt by seen
    where
      by : (n : ℕ) → LooksAtMost s (kind_seat own p (Check w i) b) (Check w i) n (Now (Install re)) → So_of (Check w i)
      by zero a = absurd a
      by (suc n) a = none_of (Check w i) (λ v bids. subst (λ (k : RestartKind). BidsFor k v) a bids)
  bids_so (Take w d) seen = look_of (Take w d) tt by seen
    where
      by : (n : ℕ) → LooksAtMost s (kind_seat own p (Take w d) b) (Take w d) n (Now (Install re)) → So_of (Take w d)
      by zero a = absurd a
      by (suc n) (inl a) = λ v bids. inr (d, ap (λ (x : ℕ). Take x d) (subst (λ (k : RestartKind). BidsFor k v) a bids))
      by (suc n) (inr a) = none_of (Take w d) (λ v bids. subst (λ (k : RestartKind). BidsFor k v) a bids)
  bids_so (Take2 w) seen = look_of (Take2 w) tt by seen
    where
      by : (n : ℕ) → LooksAtMost s (kind_seat own p (Take2 w) b) (Take2 w) n (Now (Install re)) → So_of (Take2 w)
      by zero a = absurd a
      by (suc n) a = none_of (Take2 w) (λ v bids. subst (λ (k : RestartKind). BidsFor k v) a bids)
