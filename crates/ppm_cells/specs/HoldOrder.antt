-- What may have come of a holder word since it was seen: so many takeovers in a row.
use Rattle.std.specs.Prelude.{ℕ}
pub use Rattle.ppm_cells.specs.Chain.{Chain, Stays, Then}
use Rattle.ppm_cells.specs.declared.holder.Holder.{Holder}
use Rattle.ppm_cells.specs.HoldChange.{Changes, OthersChange}

-- what may come of a holder word
abbrev pub Later : (old new : Holder) → Type 0
Later = Chain Changes

-- what may come of it while this processor makes no change to it
abbrev pub LaterByOthers : (own : ℕ) → (old new : Holder) → Type 0
LaterByOthers own = Chain (OthersChange own)
