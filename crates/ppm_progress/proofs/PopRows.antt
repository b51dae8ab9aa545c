-- What the rows that push and pop install, by the words that their loads have found.
use Rattle.std.proofs.Common.{◌≡◌, ◌⊎◌, ◌+◌, ◌-◌, ℕ, Bool, true, false, if◌then◌else◌, List, [], ◌∷◌, inl, inr, refl, subst}
use Rattle.std.specs.Prelude.{nat_lt, ◌^◌}
use Rattle.ppm_cells.specs.Cells.{word_count}
use Rattle.ppm_cells.specs.declared.cell.Cell.TheVariants.{EntryWord}
use Rattle.ppm_cells.specs.declared.entry.Entry.TheVariants as entries
use Rattle.ppm_cells.specs.declared.restart.Restart.{Restart}
use Rattle.ppm_cells.specs.declared.restart.RestartKind.TheVariants.{Run, Pop2}
use Rattle.ppm_cells.specs.declared.shape.Shape.{Shape}
use Rattle.ppm_step.specs.Rows.{raised, with_kind}
use Rattle.ppm_step.specs.State.{is_work}
use Rattle.ppm_step.specs.declared.row.Point.TheVariants.{PushBottom, PopBelow, PopAgain, PopAbove, Offset}
use Rattle.ppm_step.specs.declared.row.Row.{Row}
use Rattle.ppm_step.specs.declared.row.Row.TheVariants.{Now}
use Rattle.ppm_step.specs.declared.row.Seat.{Seat}
use Rattle.ppm_step.specs.declared.row.Then.TheVariants.{Load, Install, Begin, Broken}
use Rattle.ppm_tickets.specs.Lawful.{May, IsTaken}
use Rattle.ppm_tickets.specs.Saw.{rest_of, Saw}
use Rattle.ppm_tickets.specs.Words.{Word, Empty, Local, Job, Taken, Held as HeldBy, Number, Linked, Restarts, Unread, Spot, Slot}

-- what a row is about to install is work; or it looks for work, with the bottom as it was, and the entry below that is taken
abbrev pub GoesIdleSo : (low : Word) → (bottom : ℕ) → Restart → Type 0
GoesIdleSo low b re = (is_work re.kind ≡ true) ⊎ ((re.bottom ≡ b) × IsTaken low)

abbrev pub InstallsSo : (low : Word) → (bottom : ℕ) → Row → Type 0
InstallsSo low b (Now (Install re)) = GoesIdleSo low b re
InstallsSo low b row = Unit {0}

-- an entry that was found taken is taken
still_taken : (o p v i t x : ℕ) (w : Word) → May o p (Slot v i) (Taken t x) w → IsTaken w
still_taken o p v i t x w (inl same) = subst IsTaken same tt
still_taken o p v i t x w (inr moved) = absurd (moved.free tt)

module _ (s : Shape) (seat : Seat) (v : ℕ) (M : Spot → Word) where
  abbrev b : ℕ
  b = seat.restart.bottom

  abbrev low : Word
  low = M (Slot seat.place (b - 1))

  abbrev So : Row → List Word → Type 0
  So row ws = InstallsSo low b (rest_of s seat v row ws)

  broken_so : (ws : List Word) → So (Now Broken) ws
  broken_so [] = tt
  broken_so (w ∷ ws) = tt

  work_so : (re : Restart) → is_work re.kind ≡ true → (ws : List Word) → So (Now (Install re)) ws
  work_so re is [] = inl is
  work_so re is (w ∷ ws) = tt

  -- Push2 goes on with the left branch
  pub push2_so : (r : ℕ) (ws : List Word) → So (Now (Load (PushBottom r))) ws
  push2_so r [] = tt
  push2_so r (Local t x ∷ ws) = by (nat_lt (t + 1) (2 ^ 34)) ws
    where
      by : (y : Bool) (ws : List Word)
          → So (raised (EntryWord seat.place b) (entries.Local t x) (entries.Job (t + 1) r) (Install (record { kind = Run (r + 5) 0; bottom = b + 1 })) y) ws
      by true [] = tt
      by true (w ∷ ws) = work_so (record { kind = Run (r + 5) 0; bottom = b + 1 }) refl ws
      by false ws = broken_so ws
  push2_so r (Empty t ∷ ws) = work_so (record { kind = Run (r + 5) 0; bottom = b + 1 }) refl ws
  push2_so r (Job t x ∷ ws) = work_so (record { kind = Run (r + 5) 0; bottom = b + 1 }) refl ws
  push2_so r (Taken t x ∷ ws) = work_so (record { kind = Run (r + 5) 0; bottom = b + 1 }) refl ws
  push2_so r (Number n ∷ ws) = broken_so ws
  push2_so r (HeldBy n y ∷ ws) = broken_so ws
  push2_so r (Linked n ∷ ws) = broken_so ws
  push2_so r (Restarts n y ∷ ws) = broken_so ws
  push2_so r (Unread ∷ ws) = broken_so ws

  -- Pop1 looks for work where it has found the entry below the bottom taken
  pub pop1_so : (ws : List Word) → Saw s seat v M (Unit {0}) (Now (Load PopBelow)) ws → So (Now (Load PopBelow)) ws
  pop1_so [] saw = tt
  pop1_so (Taken t x ∷ []) saw = inr (refl, still_taken seat.own seat.place seat.place (b - 1) t x low saw.1)
  pop1_so (Taken t x ∷ w ∷ ws) saw = tt
  pop1_so (Local t r ∷ ws) saw = work_so (record { kind = Pop2 r; bottom = b }) refl ws
  pop1_so (Job t r ∷ ws) saw = by (nat_lt (t + 1) (2 ^ 34)) ws
    where
      by : (y : Bool) (ws : List Word) → So (raised (EntryWord seat.place (b - 1)) (entries.Job t r) (entries.Local (t + 1) r) (with_kind seat (Pop2 r)) y) ws
      by true [] = tt
      by true (w ∷ ws) = work_so (record { kind = Pop2 r; bottom = b }) refl ws
      by false ws = broken_so ws
  pop1_so (Empty t ∷ ws) saw = broken_so ws
  pop1_so (Number n ∷ ws) saw = broken_so ws
  pop1_so (HeldBy n y ∷ ws) saw = broken_so ws
  pop1_so (Linked n ∷ ws) saw = broken_so ws
  pop1_so (Restarts n y ∷ ws) saw = broken_so ws
  pop1_so (Unread ∷ ws) saw = broken_so ws

  -- Pop2 looks for work where it has found the entry below its bottom taken; else it begins the branch
  offset_so : (r next : ℕ) (ws : List Word) → So (Now (Load (Offset r next))) ws
  offset_so r next [] = tt
  offset_so r next (Number n ∷ ws) = by (nat_lt (r + n) (word_count s)) ws
    where
      by : (y : Bool) (ws : List Word) → So (if y then Now (Begin r (r + n) next) else Now Broken) ws
      by true [] = tt
      by true (w ∷ ws) = tt
      by false ws = broken_so ws
  offset_so r next (Empty t ∷ ws) = broken_so ws
  offset_so r next (Local t x ∷ ws) = broken_so ws
  offset_so r next (Job t x ∷ ws) = broken_so ws
  offset_so r next (Taken t x ∷ ws) = broken_so ws
  offset_so r next (HeldBy n y ∷ ws) = broken_so ws
  offset_so r next (Linked n ∷ ws) = broken_so ws
  offset_so r next (Restarts n y ∷ ws) = broken_so ws
  offset_so r next (Unread ∷ ws) = broken_so ws

  above_so : (r : ℕ) (ws : List Word) → So (Now (Load (PopAbove r))) ws
  above_so r [] = tt
  above_so r (Local t x ∷ ws) = by (nat_lt (t + 1) (2 ^ 34)) ws
    where
      by : (y : Bool) (ws : List Word) → So (raised (EntryWord seat.place b) (entries.Local t x) (entries.Empty (t + 1)) (Load (Offset r (b - 1))) y) ws
      by true [] = tt
      by true (w ∷ ws) = offset_so r (b - 1) ws
      by false ws = broken_so ws
  above_so r (Empty t ∷ ws) = offset_so r (b - 1) ws
  above_so r (Job t x ∷ ws) = offset_so r (b - 1) ws
  above_so r (Taken t x ∷ ws) = offset_so r (b - 1) ws
  above_so r (Number n ∷ ws) = broken_so ws
  above_so r (HeldBy n y ∷ ws) = broken_so ws
  above_so r (Linked n ∷ ws) = broken_so ws
  above_so r (Restarts n y ∷ ws) = broken_so ws
  above_so r (Unread ∷ ws) = broken_so ws

  pub pop2_so : (r : ℕ) (ws : List Word) → Saw s seat v M (Unit {0}) (Now (Load (PopAgain r))) ws → So (Now (Load (PopAgain r))) ws
  pop2_so r [] saw = tt
  pop2_so r (Taken t x ∷ []) saw = inr (refl, still_taken seat.own seat.place seat.place (b - 1) t x low saw.1)
  pop2_so r (Taken t x ∷ w ∷ ws) saw = tt
  pop2_so r (Local t x ∷ ws) saw = above_so r ws
  pop2_so r (Job t x ∷ ws) saw = broken_so ws
  pop2_so r (Empty t ∷ ws) saw = broken_so ws
  pop2_so r (Number n ∷ ws) saw = broken_so ws
  pop2_so r (HeldBy n y ∷ ws) saw = broken_so ws
  pop2_so r (Linked n ∷ ws) saw = broken_so ws
  pop2_so r (Restarts n y ∷ ws) saw = broken_so ws
  pop2_so r (Unread ∷ ws) saw = broken_so ws
