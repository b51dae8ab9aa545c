-- The laws of a holder word: bids go on in its order, and it never comes back.
use Rattle.std.specs.Prelude.{◌≡◌, ◌≢◌, ◌⊎◌, ℕ, ◌<◌}
use Rattle.ppm_cells.specs.declared.holder.Holder.{Holder}
use Rattle.ppm_cells.specs.HoldChange.{bid_of, Changes, IsKept}
use Rattle.ppm_cells.specs.HoldOrder.{Later, LaterByOthers}

-- bids go on in the order of holders
pub record BidsGoOn : Type 0 where
  pub bid : (seen : Holder) (own : ℕ) → own < 64 → Later seen (bid_of seen own)
  pub goes_on : (old mid new : Holder) → Later old mid → Later mid new → Later old new

-- a holder that was seen and one that may have come of it
pub record NeverReturns : Type 0 where
  -- it is the same, or its tag is greater
  pub rises : (old new : Holder) → Later old new → (old ≡ new) ⊎ (old.tag < new.tag)
  -- with the same tag it is the same: so a compare-and-modify that meets it meets what was seen
  pub same_tag : (old new : Holder) → Later old new → old.tag ≡ new.tag → old ≡ new
  -- two holders of which each may come of the other are one
  pub both_ways : (old new : Holder) → Later old new → Later new old → old ≡ new
  -- no change comes back to it
  pub no_return : (old now new : Holder) → Later old now → Changes now new → new ≢ old

-- what others do to a holder word is lawful, and does not name this processor; so its bid is kept only where it was made
pub record OthersBidForThemselves (own : ℕ) : Type 0 where
  pub goes_on : (old mid new : Holder) → LaterByOthers own old mid → LaterByOthers own mid new → LaterByOthers own old new
  pub lawful : (old new : Holder) → LaterByOthers own old new → Later old new
  pub not_named : (old new : Holder) → LaterByOthers own old new → (old.processor ≡ own → ⊥) → new.processor ≡ own → ⊥
  pub kept_was_made : (old now message : Holder) → LaterByOthers own old now → (old.processor ≡ own → ⊥) → IsKept message now own → ⊥
