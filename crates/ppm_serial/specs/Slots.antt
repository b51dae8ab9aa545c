-- Frames by slots.
use Rattle.std.specs.Prelude.{ℕ, ℤ, pos, List, replicate, set}
use Rattle.ppm_tree.specs.State.{Region, nowhere}

-- the values of a frame: its locals and its regions, by their slots
pub record Slots : Type 0 where
  pub locals : List ℤ
  pub regions : List Region

-- so many slots, with nothing in them
abbrev pub fresh : ℕ → ℕ → Slots
fresh n m = record { locals = replicate n (pos 0); regions = replicate m nowhere }

-- a value in a slot
abbrev pub with_local_at : Slots → ℕ → ℤ → Slots
with_local_at s k v = record { locals = set s.locals k v; regions = s.regions }

-- a region in a slot
abbrev pub with_region_at : Slots → ℕ → Region → Slots
with_region_at s k r = record { locals = s.locals; regions = set s.regions k r }

-- other regions
abbrev pub with_regions : Slots → List Region → Slots
with_regions s regions = record { locals = s.locals; regions = regions }
