-- What may have come of an entry since it was seen: so many changes in a row.
use Rattle.std.specs.Prelude.{ℕ}
pub use Rattle.ppm_cells.specs.Chain.{Chain, Stays, Then}
use Rattle.ppm_cells.specs.declared.entry.Entry.{Entry}
use Rattle.ppm_cells.specs.declared.shape.Takeover.{Takeover}
use Rattle.ppm_cells.specs.DequeChange.{Changes, OthersChange, OthersTake, BoardChanges}

-- what may come of an entry of a deque
abbrev pub Later : Takeover → (old new : Entry) → Type 0
Later takeover = Chain (Changes takeover)

-- what may come of an entry of a deque while this place makes no change to it
abbrev pub LaterByOthers : Takeover → (place : ℕ) → (old new : Entry) → Type 0
LaterByOthers takeover place = Chain (OthersChange takeover place)

-- what may come of an entry of the deque that this place owns while it makes no change to it
abbrev pub LaterByThieves : Takeover → (place : ℕ) → (old new : Entry) → Type 0
LaterByThieves takeover place = Chain (OthersTake takeover place)

-- what may come of an entry of a plain board
abbrev pub LaterOnBoard : (old new : Entry) → Type 0
LaterOnBoard = Chain BoardChanges
