-- The word steps of rows, and what each install leaves to be paid.
use Rattle.std.specs.Prelude.{◌≡◌, ◌≢◌, ◌≤◌, ◌⊎◌, ℕ, zero, suc, ◌+◌, List, length}
use Rattle.ppm_cells.specs.declared.cell.Cell.TheVariants.{FinishWord}
use Rattle.ppm_cells.specs.declared.restart.RestartKind.{RestartKind}
use Rattle.ppm_cells.specs.declared.restart.RestartKind.TheVariants.{Run, Bump, Push1, Push2, Unwind, Arrive, Join, Pop1, Pop2, Seek, Steal, Check, Take, Take2}
use Rattle.ppm_cells.specs.declared.shape.Shape.{Shape}
use Rattle.ppm_cells.specs.declared.shape.Takeover.TheVariants.{ByPlaces}
use Rattle.ppm_code.specs.Capsules.{capsule_of}
use Rattle.ppm_code.specs.declared.code.CodeParts.{CodeParts}
use Rattle.ppm_code.specs.declared.instr.Instr.{Instr}
use Rattle.ppm_step.specs.Contents.{word_of}
use Rattle.ppm_step.specs.Frames.{Rest, Loads, Stores, Full, Installs, Breaks, rest_of}
use Rattle.ppm_step.specs.Rows.{found_at, row_of}
use Rattle.ppm_step.specs.declared.content.Content.{Content}
use Rattle.ppm_step.specs.declared.content.Content.TheVariants.{ANumber}
use Rattle.ppm_step.specs.declared.frame.Home.{Home}
use Rattle.ppm_step.specs.declared.row.Row.{Row}
use Rattle.ppm_step.specs.declared.row.Row.TheVariants.{Now, Store, Exchange}
use Rattle.ppm_step.specs.declared.row.Seat.{Seat}
use Rattle.ppm_step.specs.declared.row.Then.{Then}
use Rattle.ppm_step.specs.declared.row.Then.TheVariants.{Load, Install, Fork, Begin, Move, Enter, Again, Broken}

-- the most word steps of a row of work, by its kind, its install with them
abbrev pub cost : RestartKind → ℕ
cost (Run frame copy) = 172
cost (Bump block) = 3
cost (Push1 block) = 4
cost (Push2 block) = 3
cost (Unwind frame) = 6
cost (Arrive block side) = 2
cost (Join block side) = 12
cost Pop1 = 3
cost (Pop2 block) = 5
cost _ = 0

-- what is set aside for a place in a kind: the word steps of its row, and of those that may follow it before the next capsule of a
-- frame, but for what the tree pays
abbrev pub due : RestartKind → ℕ
due (Bump block) = 10
due (Push1 block) = 7
due (Push2 block) = 3
due (Unwind frame) = 6
due (Arrive block side) = 14
due (Join block side) = 12
due Pop1 = 8
due (Pop2 block) = 5
due _ = 0

-- what the tree of strands pays at an install: 6 where one more frame is over, 12 where a branch arrives
abbrev pub behind_unwind : RestartKind → ℕ
behind_unwind (Unwind frame) = 6
behind_unwind (Arrive block side) = 12
behind_unwind _ = 0

abbrev pub behind_join : RestartKind → ℕ
behind_join (Unwind frame) = 6
behind_join _ = 0

abbrev pub weight : (row next : RestartKind) → ℕ
weight (Unwind frame) next = behind_unwind next
weight (Join block side) next = behind_join next
weight _ next = 0

-- after so many word steps of a row of kind k, the install of l as the last of them, l is paid
abbrev pub IsPaid : (k l : RestartKind) → (made : ℕ) → Type 0
IsPaid k l made = due l + made ≤ weight k l + due k

-- a row that can make no word step more has met broken words
abbrev pub IsStop : Then → Type 0
IsStop Broken = Unit {0}
IsStop _ = ⊥

-- the finish word is set, where it is 0, and then the row begins again
abbrev pub Finishes : Row → Type 0
Finishes (Exchange cell old new next) = (cell ≡ FinishWord) × (old ≡ ANumber 0) × (word_of new ≢ 0) × (next ≡ Again)
Finishes _ = ⊥

-- a row of kind k that has made so many word steps makes at most `left` more, whatever it finds, and what it installs is paid; it begins
-- again after the finish word alone
abbrev pub Leads : Shape → Seat → RestartKind → (left made : ℕ) → Row → Type 0
Leads s seat k zero made (Now next) = IsStop next
Leads s seat k zero made (Store cell content next) = ⊥
Leads s seat k zero made (Exchange cell old new next) = ⊥
Leads s seat k (suc left) made (Now (Load point)) = (victim : ℕ) (w : Content) → Leads s seat k left (made + 1) (found_at s seat victim point w)
Leads s seat k (suc left) made (Now (Install restart)) = IsPaid k restart.kind (made + 1)
Leads s seat k (suc left) made (Now (Fork block)) = IsPaid k (Push1 block) (made + 1)
Leads s seat k (suc left) made (Now (Begin block frame bottom)) = IsPaid k (Run frame 0) (made + 1)
Leads s seat k (suc left) made (Now (Move place)) = ⊥
Leads s seat k (suc left) made (Now (Enter capsule)) = ⊥
Leads s seat k (suc left) made (Now Again) = ⊥
Leads s seat k (suc left) made (Now Broken) = Unit {0}
Leads s seat k (suc left) made (Store cell content next) = Leads s seat k left (made + 1) (Now next)
Leads s seat k (suc left) made (Exchange cell old new next) =
    Finishes (Exchange cell old new next) ⊎ Leads s seat k left (made + 1) (Now next)

-- the kinds whose rows are work, but for that of a frame
abbrev pub IsShortKind : RestartKind → Type 0
IsShortKind (Bump block) = Unit {0}
IsShortKind (Push1 block) = Unit {0}
IsShortKind (Push2 block) = Unit {0}
IsShortKind (Unwind frame) = Unit {0}
IsShortKind (Arrive block side) = Unit {0}
IsShortKind (Join block side) = Unit {0}
IsShortKind Pop1 = Unit {0}
IsShortKind (Pop2 block) = Unit {0}
IsShortKind _ = ⊥

abbrev pub RowsArePaid : Type 0
RowsArePaid = (s : Shape) (seat : Seat) (k : RestartKind) → IsShortKind k → Leads s seat k (cost k) 0 (row_of s seat k)

-- what is left of a capsule makes at most so many word steps, and what it installs takes no more than 10
abbrev pub IsShort : ℕ → Rest → Type 0
IsShort zero rest = ⊥
IsShort (suc n) (Loads cell go) = (w : ℕ) → IsShort n (go w)
IsShort (suc n) (Stores cell content rest) = IsShort n rest
IsShort (suc n) Full = Unit {0}
IsShort (suc n) (Installs kind) = due kind ≤ 10
IsShort (suc n) Breaks = Unit {0}

-- with the load of its header, 172
abbrev pub CapsulesAreShort : Type 0
CapsulesAreShort = (s : Shape) (code : CodeParts) (place : ℕ) (home : Home) (array_words : ℕ) (instrs : List Instr) → length instrs ≤ 160
    → IsShort 171 (rest_of s code place home (capsule_of array_words instrs))

-- the kinds whose rows are no work
abbrev pub IsLook : RestartKind → Type 0
IsLook Seek = Unit {0}
IsLook (Steal victim slot) = Unit {0}
IsLook (Check victim slot) = Unit {0}
IsLook (Take victim dead) = Unit {0}
IsLook (Take2 victim) = Unit {0}
IsLook _ = ⊥

-- nothing has to be set aside for what is installed next
abbrev pub IsFree : Row → Type 0
IsFree (Now (Install restart)) = due restart.kind ≡ 0
IsFree (Now (Fork block)) = ⊥
IsFree _ = Unit {0}

-- nothing has to be set aside after so many steps of the row, whatever these find
abbrev pub AreFree : Shape → Seat → (steps : ℕ) → Row → Type 0
AreFree s seat zero row = IsFree row
AreFree s seat (suc n) (Now (Load point)) = (victim : ℕ) (w : Content) → AreFree s seat n (found_at s seat victim point w)
AreFree s seat (suc n) (Now next) = Unit {0}
AreFree s seat (suc n) (Store cell content next) = AreFree s seat n (Now next)
AreFree s seat (suc n) (Exchange cell old new next) = AreFree s seat n (Now next)

abbrev pub LooksAreFree : Type 0
LooksAreFree = (s : Shape) → s.takeover ≡ ByPlaces → (seat : Seat) (k : RestartKind) → IsLook k → (n : ℕ) → AreFree s seat n (row_of s seat k)

-- With takeover by entries that holds too, but for Check, which goes on with what was inherited
abbrev pub IsNoCheck : RestartKind → Type 0
IsNoCheck (Check victim slot) = ⊥
IsNoCheck _ = Unit {0}

abbrev pub SearchesAreFree : Type 0
SearchesAreFree = (s : Shape) (seat : Seat) (k : RestartKind) → IsLook k → IsNoCheck k → (n : ℕ) → AreFree s seat n (row_of s seat k)
