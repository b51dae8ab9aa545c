-- Rows that look for work, by places: how many word steps they make at most, whatever they find, and what they end with.
use Rattle.std.specs.Prelude.{◌≡◌, ◌⊎◌, ℕ, zero, suc}
use Rattle.ppm_cells.specs.declared.restart.RestartKind.{RestartKind}
use Rattle.ppm_cells.specs.declared.restart.RestartKind.TheVariants.{Seek, Steal, Check, Take, Take2}
use Rattle.ppm_cells.specs.declared.shape.Shape.{Shape}
use Rattle.ppm_cells.specs.declared.shape.Takeover.TheVariants.{ByPlaces}
use Rattle.ppm_step.specs.Rows.{found_at, row_of}
use Rattle.ppm_step.specs.declared.content.Content.{Content}
use Rattle.ppm_step.specs.declared.row.Row.{Row}
use Rattle.ppm_step.specs.declared.row.Row.TheVariants.{Now, Store, Exchange}
use Rattle.ppm_step.specs.declared.row.Seat.{Seat}
use Rattle.ppm_step.specs.declared.row.Then.{Then}
use Rattle.ppm_step.specs.declared.row.Then.TheVariants.{Load, Install, Begin, Move, Again, Broken}
use Rattle.ppm_paces.specs.Costs.{IsLook}

-- the most word steps of a row of a kind that looks, its install with them; the load of the finish word comes before it
abbrev pub look_cost : RestartKind → ℕ
look_cost Seek = 6
look_cost (Steal victim slot) = 3
look_cost (Check victim slot) = 4
look_cost (Take victim dead) = 3
look_cost (Take2 victim) = 3
look_cost _ = 0

-- one that seeks goes on to steal or to take a place over, or seeks again
abbrev pub IsAim : RestartKind → Type 0
IsAim (Steal victim slot) = Unit {0}
IsAim (Take victim dead) = Unit {0}
IsAim _ = ⊥

abbrev pub SeekEnds : Then → Type 0
SeekEnds (Install restart) = IsAim restart.kind
SeekEnds Again = Unit {0}
SeekEnds _ = ⊥

-- one that steals goes on to check
abbrev pub StealEnds : (victim slot : ℕ) → Then → Type 0
StealEnds v i (Install restart) = restart.kind ≡ Check v i
StealEnds v i _ = ⊥

-- one that checks begins its job, or seeks
abbrev pub CheckEnds : Then → Type 0
CheckEnds (Install restart) = restart.kind ≡ Seek
CheckEnds (Begin block frame bottom) = Unit {0}
CheckEnds _ = ⊥

-- one that bids looks whether its bid stands, or seeks
abbrev pub TakeEnds : (victim : ℕ) → Then → Type 0
TakeEnds v (Install restart) = (restart.kind ≡ Take2 v) ⊎ (restart.kind ≡ Seek)
TakeEnds v _ = ⊥

-- one whose bid stands moves to the place, or else seeks
abbrev pub Take2Ends : (victim : ℕ) → Then → Type 0
Take2Ends v (Install restart) = restart.kind ≡ Seek
Take2Ends v (Move place) = place ≡ v
Take2Ends v _ = ⊥

-- by the kind
abbrev pub LookEnds : RestartKind → Then → Type 0
LookEnds Seek next = SeekEnds next
LookEnds (Steal v i) next = StealEnds v i next
LookEnds (Check v i) next = CheckEnds next
LookEnds (Take v d) next = TakeEnds v next
LookEnds (Take2 v) next = Take2Ends v next
LookEnds kind next = ⊥

-- a row of this kind makes at most so many word steps more, whatever it finds, and ends so, or has met broken words
abbrev pub LooksAtMost : Shape → Seat → RestartKind → (left : ℕ) → Row → Type 0
LooksAtMost s seat k zero (Now Again) = LookEnds k Again
LooksAtMost s seat k zero (Now Broken) = Unit {0}
LooksAtMost s seat k zero row = ⊥
LooksAtMost s seat k (suc left) (Now (Load point)) = (victim : ℕ) (w : Content) → LooksAtMost s seat k left (found_at s seat victim point w)
LooksAtMost s seat k (suc left) (Now Broken) = Unit {0}
LooksAtMost s seat k (suc left) (Now next) = LookEnds k next
LooksAtMost s seat k (suc left) (Store cell content next) = LooksAtMost s seat k left (Now next)
LooksAtMost s seat k (suc left) (Exchange cell old new next) = LooksAtMost s seat k left (Now next)

-- each row that looks makes at most as many word steps as its kind costs, and ends, or has met broken words
abbrev pub LooksAreShort : Type 0
LooksAreShort = (s : Shape) → s.takeover ≡ ByPlaces → (seat : Seat) (k : RestartKind) → IsLook k → LooksAtMost s seat k (look_cost k) (row_of s seat k)
