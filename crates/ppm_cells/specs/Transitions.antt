-- What each transition makes of an entry, and for which kinds there is one.
use Rattle.std.specs.Prelude.{ℕ, ◌+◌, Option, Some, None}
use Rattle.ppm_cells.specs.declared.entry.Entry.{Entry}
use Rattle.ppm_cells.specs.declared.entry.Entry.TheVariants.{Empty, Local, Job, Taken}
use Rattle.ppm_cells.specs.declared.owner.Pop.{Pop}
use Rattle.ppm_cells.specs.declared.owner.Pop.TheVariants.{Try, Mine, Gone}

-- empty becomes local
abbrev pub pushed_above : Entry → Option Entry
pushed_above (Empty tag) = Some (Local (tag + 1) 0)
pushed_above _ = None

-- local becomes the job of a fork block
abbrev pub pushed_job : Entry → (block : ℕ) → Option Entry
pushed_job (Local tag old) block = Some (Job (tag + 1) block)
pushed_job _ block = None

-- a job becomes local again and keeps its fork block; what is local already is got back
abbrev pub popped_below : Entry → Pop
popped_below (Job tag block) = Try (Local (tag + 1) block) block
popped_below (Local tag block) = Mine block
popped_below _ = Gone

-- local becomes empty
abbrev pub popped_above : Entry → Option Entry
popped_above (Local tag block) = Some (Empty (tag + 1))
popped_above _ = None

-- a job becomes taken by the thief
abbrev pub stolen : Entry → (thief : ℕ) → Option Entry
stolen (Job tag block) thief = Some (Taken (tag + 1) thief)
stolen _ thief = None

-- what is local becomes taken by the heir, told from a theft by 64
abbrev pub inherited : Entry → (heir : ℕ) → Option Entry
inherited (Local tag block) heir = Some (Taken (tag + 1) (heir + 64))
inherited _ heir = None

-- empty becomes the job of a fork block
abbrev pub posted : Entry → (block : ℕ) → Option Entry
posted (Empty tag) block = Some (Job (tag + 1) block)
posted _ block = None

-- the entry that a pop is to make has the property, if the pop is to make one
abbrev pub TriesTo : Pop → (Entry → Type 0) → Type 0
TriesTo (Try entry block) Is = Is entry
TriesTo (Mine block) Is = Unit {0}
TriesTo Gone Is = Unit {0}
