-- Frames as lists of what names stand for, the newest first.
use Rattle.std.specs.Prelude.{ℕ, suc, ℤ, pos, List, [], ◌∷◌, if◌then◌else◌}
use Rattle.std.specs.Str.{bytes_eq}
use Rattle.ppm_tree.specs.State.{Region, nowhere, Frame}
use Rattle.ppm_by_name.specs.declared.frame.Local.{Local}
use Rattle.ppm_by_name.specs.declared.frame.Lent.{Lent}

-- the locals and the regions of a frame
pub record Bound : Type 0 where
  pub locals : List Local
  pub regions : List Lent

-- what a local stands for: the first one of its name, or 0
abbrev pub local_of : List Local → List ℕ → ℤ
local_of [] x = pos 0
local_of (b ∷ bs) x = if bytes_eq b.name x then b.value else local_of bs x

-- what a region stands for
abbrev pub region_of : List Lent → List ℕ → Region
region_of [] x = nowhere
region_of (b ∷ bs) x = if bytes_eq b.name x then b.region else region_of bs x

-- the frame of these
abbrev pub frame_of : Bound → Frame
frame_of b = record { regions = region_of b.regions; locals = local_of b.locals }

-- the place of the first local with a name, or how many there are
abbrev pub slot_of : List Local → List ℕ → ℕ
slot_of [] x = 0
slot_of (b ∷ bs) x = if bytes_eq b.name x then 0 else suc (slot_of bs x)

-- a local with a value: in its place, if there is one, else at the end
abbrev pub bound : List Local → List ℕ → ℤ → List Local
bound [] x v = record { name = x; value = v } ∷ []
bound (b ∷ bs) x v = if bytes_eq b.name x then record { name = b.name; value = v } ∷ bs else b ∷ bound bs x v

abbrev pub with_bound : Bound → List ℕ → ℤ → Bound
with_bound b x v = record { locals = bound b.locals x v; regions = b.regions }

-- a region in front
abbrev pub with_lent : Bound → List ℕ → Region → Bound
with_lent b x r = record { locals = b.locals; regions = record { name = x; region = r } ∷ b.regions }
