-- What single facts of a run's state allow, each taken alone: pieces of states in which nobody ever works again.
use Rattle.std.specs.Prelude.{◌≡◌, ℕ, zero, suc, ◌==◌, if◌then◌else◌}
use Rattle.ppm_cells.specs.declared.restart.RestartKind.{RestartKind}
use Rattle.ppm_cells.specs.declared.restart.RestartKind.TheVariants.{Run, Seek}
use Rattle.ppm_tickets.specs.Lawful.{IsJob, IsAlive, Names, Deque, Holding}
use Rattle.ppm_tickets.specs.Words.{Word, Empty, Local, Job, Taken, Held, Number, Unread, Spot, Holder, Carry, Dead}
use Rattle.ppm_frames.specs.Skeletons.{Stand, Came, Leaf, Forking}
use Rattle.ppm_frames.specs.Good.{mark, order_of}
use Rattle.ppm_advance.specs.Advance.{HasReady}

-- An order word of 1 alone may stand for a fork whose branches have both come first. Such a tree has nothing to do.
abbrev pub OrdersAllowBothToCome : Type 0
OrdersAllowBothToCome = (f n y r : ℕ) (st su : Stand) (g m k l : ℕ)
    → (order_of (mark (Leaf Came st g m)) (mark (Leaf Came su k l)) ≡ 1)
    × (HasReady (Forking f n y r (Leaf Came st g m) (Leaf Came su k l)) → ⊥)

-- entries of which the first is a job that nobody took, below the local one
abbrev pub with_job : (tag block : ℕ) → ℕ → Word
with_job t r zero = Taken 0 0
with_job t r (suc zero) = Job t r
with_job t r (suc (suc zero)) = Local 0 0
with_job t r (suc (suc (suc i))) = Empty 0

-- The shape of a deque alone allows a job below the bottom of a place that looks for work. Its own processor never looks there.
abbrev pub DequesAllowIdleJobs : Type 0
DequesAllowIdleJobs = (t r : ℕ) → Deque Seek 2 (with_job t r) × IsJob (with_job t r 1)

-- processor 0 holds the places 0 and 1, and carries its own; processor 1 is dead
abbrev pub left_behind : Spot → Word
left_behind (Holder zero) = Held 0 0
left_behind (Holder (suc zero)) = Held 1 0
left_behind (Holder (suc (suc v))) = Held 0 (suc (suc v))
left_behind (Carry c) = Number c
left_behind (Dead c) = if c == 1 then Number 1 else Number 0
left_behind spot = Unread

-- place 1 has a strand
abbrev pub with_strand : (frame copy : ℕ) → ℕ → RestartKind
with_strand f y p = if p == 1 then Run f y else Seek

-- By places, what holds of holders alone allows a strand at a place whose holder lives and carries another one. Nobody carries that place, and since its
-- holder lives none bids for it.
abbrev pub HoldersAllowALeftPlace : Type 0
HoldersAllowALeftPlace = (f y : ℕ) → Holding left_behind (with_strand f y) × Names (left_behind (Holder 1)) 0 × IsAlive left_behind 0
    × ((c : ℕ) → IsAlive left_behind c → left_behind (Carry c) ≡ Number 1 → ⊥)
