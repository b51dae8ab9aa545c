-- How many steps come before the work turn of a place that has won a job, at most: each step of its own lessens that.
use Rattle.std.proofs.Common.{◌≡◌, ◌⊎◌, ◌≤◌, ◌+◌, if◌then◌else◌, ℕ, zero, suc, Bool, true, false, Option, Some, None, inl, inr, sym, ap, ◌∙◌, subst, arith}
use Rattle.std.specs.Prelude.{nat_lt}
use Rattle.ppm_cells.specs.declared.entry.Entry.TheVariants as entries
use Rattle.ppm_cells.specs.declared.restart.Restart.{Restart}
use Rattle.ppm_cells.specs.declared.restart.RestartKind.{RestartKind}
use Rattle.ppm_cells.specs.declared.restart.RestartKind.TheVariants.{Seek, Steal, Check}
use Rattle.ppm_cells.specs.declared.shape.Shape.{Shape}
use Rattle.ppm_code.specs.declared.code.CodeParts.{CodeParts}
use Rattle.ppm_step.specs.Standings.{IsRunning, IsDone}
use Rattle.ppm_step.specs.Standings.{Standing, IsLost, IsPlaced, IsAt, IsWithin, IsBroken, placed, at_finish, begins_if, within_if, stands, stands_then}
use Rattle.ppm_step.specs.Standings.{row_is_there, then_is_there}
use Rattle.ppm_step.specs.Rows.{with_kind, right_begins, goes_on_with, took, taken_message, taken_entry, can_be_taken, on_number, row_of}
use Rattle.ppm_step.specs.There.{restart_is_there}
use Rattle.ppm_step.specs.declared.content.Content.{Content}
use Rattle.ppm_step.specs.declared.content.Content.TheVariants.{ANumber}
use Rattle.ppm_step.specs.declared.row.Point.TheVariants.{Offset, StealMessage, TakenMessage, TakenEntry}
use Rattle.ppm_step.specs.declared.row.Row.{Row}
use Rattle.ppm_step.specs.declared.row.Row.TheVariants.{Now, Exchange}
use Rattle.ppm_step.specs.declared.row.Seat.{Seat}
use Rattle.ppm_step.specs.declared.row.Then.{Then}
use Rattle.ppm_step.specs.declared.row.Then.TheVariants.{Load, Install, Begin, Broken}
use Rattle.ppm_progress.proofs.ThiefRows.{Stole, took_own}
use Rattle.ppm_cells.specs.Cells.{word_count}

-- how many steps come before the work turn, by what the place is at and by where its processor stands
abbrev pub base : RestartKind → ℕ
base (Steal v i) = 9
base _ = 5

abbrev row_rank : Row → ℕ
row_rank (Now (Load (StealMessage v i))) = 9
row_rank (Exchange c old new next) = 8
row_rank (Now (Install re)) = 7
row_rank (Now (Load (TakenMessage by v i))) = 5
row_rank (Now (Load (TakenEntry by v i e))) = 4
row_rank (Now (Load (Offset r b))) = 3
row_rank (Now (Begin r f b)) = 2
row_rank _ = 0

abbrev pub height : RestartKind → Standing → ℕ
height k IsLost = 3 + base k
height k (IsPlaced p) = 2 + base k
height k (IsAt p re) = 1 + base k
height k (IsWithin seat row) = row_rank row
height k _ = 0

within_low : (k : RestartKind) (seat : Seat) (row : Row) (y : Bool) (n : ℕ) → row_rank row ≤ n → height k (within_if seat row y) ≤ n
within_low k seat row true n low = low
within_low k seat row false n low = omega arith

module _ (s : Shape) (code : CodeParts) (k : RestartKind) (seat : Seat) where
  -- after the load of the message to steal by
  pub stole_low : (v i : ℕ) (row : Row) → Stole seat v i row → height k (stands s code seat row) ≤ 8
  stole_low v i (Exchange c old new next) e = within_low k seat (Exchange c old new next) (row_is_there s seat (Exchange c old new next)) 8 (omega arith)
  stole_low v i (Now Broken) e = omega arith
  stole_low v i _ e = absurd e

  -- after its exchange
  pub traded_low : (v i : ℕ) (next : Then) → next ≡ with_kind seat (Check v i) → height k (stands_then s code seat next) ≤ 7
  traded_low v i next e =
      subst (λ (x : Then). height k (stands_then s code seat x) ≤ 7) (sym e)
      (within_low k seat (Now (with_kind seat (Check v i))) (then_is_there s seat (with_kind seat (Check v i))) 7 (omega arith))

  -- after each load of Check
  pub message_low : (v i t r : ℕ) → height k (stands s code seat (taken_message s seat.place v i (entries.Job t r))) ≤ 4
  message_low v i t r = by (can_be_taken s.takeover (entries.Job t r))
    where
      by : (y : Bool) → height k (stands s code seat (if y then Now (Load (TakenEntry seat.place v i (entries.Job t r))) else Now Broken)) ≤ 4
      by true = within_low k seat (Now (Load (TakenEntry seat.place v i (entries.Job t r)))) _ 4 (omega arith)
      by false = omega arith

  pub entry_low : (v i t r : ℕ) → height k (stands s code seat (taken_entry seat seat.place v i (entries.Job t r) (entries.Taken (t + 1) seat.place))) ≤ 3
  entry_low v i t r = by (took seat.place (entries.Job t r) (entries.Taken (t + 1) seat.place)) (took_own seat.place t r)
    where
      by : (y : Bool) → y ≡ true → height k (stands s code seat (if y then goes_on_with seat v i (entries.Job t r) else Now (with_kind seat Seek))) ≤ 3
      by true e = within_low k seat (Now (Load (Offset r seat.restart.bottom))) _ 3 (omega arith)
      by false e = absurd (cc)

  pub offset_low : (x b : ℕ) (w : Content) → height k (stands s code seat (on_number w (right_begins s x b))) ≤ 2
  offset_low x b (ANumber n) = by (nat_lt (x + n) (word_count s))
    where
      by : (y : Bool) → height k (stands s code seat (if y then Now (Begin x (x + n) b) else Now Broken)) ≤ 2
      by true = within_low k seat (Now (Begin x (x + n) b)) _ 2 (omega arith)
      by false = omega arith
  offset_low x b _ = omega arith

-- after the load of the carry word
pub placed_low : (s : Shape) (k : RestartKind) (found : ℕ) → height k (placed s found) ≤ 2 + base k
placed_low s k found = by (nat_lt found s.processors)
  where
    by : (y : Bool) → height k (if y then IsPlaced found else IsBroken 64) ≤ 2 + base k
    by true = omega arith
    by false = omega arith

-- a restart that was read is of this kind
abbrev pub KindIf : Option Restart → RestartKind → Type 0
KindIf None k = Unit {0}
KindIf (Some re) k = re.kind ≡ k

-- a seat, and after the load of the finish word
abbrev sitting : (own p : ℕ) → Restart → Seat
sitting own p re = record { own = own; place = p; restart = re }

pub finish_low : (s : Shape) (code : CodeParts) (k : RestartKind) (v i own p : ℕ) (re : Option Restart) (found : ℕ) → KindIf re k
    → (k ≡ Steal v i) ⊎ (k ≡ Check v i) → height k (at_finish s code own p re found) ≤ base k
finish_low s code k v i own p re (suc found) is which = omega arith
finish_low s code k v i own p None zero is which = omega arith
finish_low s code k v i own p (Some re) zero is which = by (restart_is_there s re) which
  where
    by : (y : Bool) → (k ≡ Steal v i) ⊎ (k ≡ Check v i) → height k (begins_if s code (sitting own p re) y) ≤ base k
    by false which = omega arith
    by true (inl steal) =
        let nine = ap base steal in
        subst (λ (x : RestartKind). height k (stands s code (sitting own p re) (row_of s (sitting own p re) x)) ≤ base k)
        (sym (is ∙ steal)) (within_low k (sitting own p re) (Now (Load (StealMessage v i))) _ (base k) (omega (arith, nine)))
    by true (inr check) =
        let five = ap base check in
        subst (λ (x : RestartKind). height k (stands s code (sitting own p re) (row_of s (sitting own p re) x)) ≤ base k)
        (sym (is ∙ check)) (within_low k (sitting own p re) (Now (Load (TakenMessage p v i))) _ (base k) (omega (arith, five)))

base_few : (k : RestartKind) → base k ≤ 9
base_few (Steal v i) = omega arith
base_few _ = omega arith

row_few : (row : Row) → row_rank row ≤ 9
row_few (Now (Load (StealMessage v i))) = omega arith
row_few (Exchange c old new next) = omega arith
row_few (Now (Install re)) = omega arith
row_few (Now (Load (TakenMessage by v i))) = omega arith
row_few (Now (Load (TakenEntry by v i e))) = omega arith
row_few (Now (Load (Offset r b))) = omega arith
row_few (Now (Begin r f b)) = omega arith
row_few _ = omega arith

pub height_few : (k : RestartKind) (x : Standing) → height k x ≤ 12
height_few k IsLost = let few = base_few k in omega (arith, few)
height_few k (IsPlaced p) = let few = base_few k in omega (arith, few)
height_few k (IsAt p re) = let few = base_few k in omega (arith, few)
height_few k (IsWithin seat row) = let few = row_few row in omega (arith, few)
height_few k (IsRunning seat rest) = omega arith
height_few k (IsBroken p) = omega arith
height_few k IsDone = omega arith
