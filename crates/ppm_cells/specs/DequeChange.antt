-- The changes of one entry of a deque: the owner's, a thief's, and those of a plain board. Each raises the tag by one.
use Rattle.std.specs.Prelude.{◌≡◌, ◌⊎◌, ℕ, ◌+◌, ◌^◌, ◌<◌}
use Rattle.ppm_cells.specs.declared.entry.Entry.{Entry}
use Rattle.ppm_cells.specs.declared.entry.Entry.TheVariants.{Empty, Local, Job, Taken}
use Rattle.ppm_cells.specs.declared.shape.Takeover.{Takeover}
use Rattle.ppm_cells.specs.declared.shape.Takeover.TheVariants.{ByEntries}

-- the tag of an entry
abbrev pub tag_of : Entry → ℕ
tag_of (Empty tag) = tag
tag_of (Local tag block) = tag
tag_of (Job tag block) = tag
tag_of (Taken tag taker) = tag

-- its tag is not the last
abbrev pub CanRise : Entry → Type 0
CanRise entry = tag_of entry + 1 < 2 ^ 34

-- the kinds
abbrev pub IsEmpty : Entry → Type 0
IsEmpty (Empty tag) = Unit {0}
IsEmpty _ = ⊥

abbrev pub IsLocal : Entry → Type 0
IsLocal (Local tag block) = Unit {0}
IsLocal _ = ⊥

abbrev pub IsJob : Entry → Type 0
IsJob (Job tag block) = Unit {0}
IsJob _ = ⊥

abbrev pub IsTaken : Entry → Type 0
IsTaken (Taken tag taker) = Unit {0}
IsTaken _ = ⊥

-- taken by this place, out of a job or by inheriting
abbrev pub IsTakenBy : (place : ℕ) → Entry → Type 0
IsTakenBy place (Taken tag taker) = (taker ≡ place) ⊎ (taker ≡ place + 64)
IsTakenBy place _ = ⊥

-- what the owner of a deque does: push above and push a job, get a job back, and pop what is above
abbrev pub OwnerChanges : (old new : Entry) → Type 0
OwnerChanges (Empty tag) (Local next block) = (next ≡ tag + 1) × (block ≡ 0)
OwnerChanges (Local tag block) (Job next other) = next ≡ tag + 1
OwnerChanges (Job tag block) (Local next same) = (next ≡ tag + 1) × (same ≡ block)
OwnerChanges (Local tag block) (Empty next) = next ≡ tag + 1
OwnerChanges _ _ = ⊥

-- taken by this taker with the tag after that one
abbrev pub IsTakenNext : Entry → (tag taker : ℕ) → Type 0
IsTakenNext (Taken next by) tag taker = (next ≡ tag + 1) × (by ≡ taker)
IsTakenNext _ tag taker = ⊥

-- what a thief's place does: steal a job, and with takeover by entries inherit what is local
abbrev pub Takes : Takeover → (thief : ℕ) → (old new : Entry) → Type 0
Takes takeover thief (Job tag block) (Taken next taker) = (next ≡ tag + 1) × (taker ≡ thief)
Takes ByEntries thief (Local tag block) (Taken next taker) = (next ≡ tag + 1) × (taker ≡ thief + 64)
Takes _ _ _ _ = ⊥

-- what some thief does; places are below 64
abbrev pub ThiefChanges : Takeover → (old new : Entry) → Type 0
ThiefChanges takeover old new = (thief : ℕ) × (thief < 64) × Takes takeover thief old new

-- the lawful changes of an entry of a deque
abbrev pub Changes : Takeover → (old new : Entry) → Type 0
Changes takeover old new = OwnerChanges old new ⊎ ThiefChanges takeover old new

-- what others than this place do to an entry: they take nothing in its name
abbrev pub OthersChange : Takeover → (place : ℕ) → (old new : Entry) → Type 0
OthersChange takeover place old new = Changes takeover old new × (IsTakenBy place new → ⊥)

-- what others do to an entry of the deque that this place owns: they take it
abbrev pub OthersTake : Takeover → (place : ℕ) → (old new : Entry) → Type 0
OthersTake takeover place old new = ThiefChanges takeover old new × (IsTakenBy place new → ⊥)

-- the changes of an entry of a plain board: a job is posted, and stolen
abbrev pub BoardChanges : (old new : Entry) → Type 0
BoardChanges (Empty tag) (Job next block) = next ≡ tag + 1
BoardChanges (Job tag block) (Taken next taker) = (next ≡ tag + 1) × (taker < 64)
BoardChanges _ _ = ⊥
