-- The takeover of a place: the tag of its holder word rises by one, and the word names the processor that takes it.
use Rattle.std.specs.Prelude.{◌≡◌, ℕ, ◌+◌, ◌^◌, ◌<◌}
use Rattle.ppm_cells.specs.declared.holder.Holder.{Holder}

-- its tag is not the last
abbrev pub CanRise : Holder → Type 0
CanRise holder = holder.tag + 1 < 2 ^ 58

-- the bid of a processor for the place with this holder
abbrev pub bid_of : Holder → (own : ℕ) → Holder
bid_of seen own = record { tag = seen.tag + 1; processor = own }

-- a takeover by this processor
abbrev pub TakesOver : (own : ℕ) → (old new : Holder) → Type 0
TakesOver own old new = (new.tag ≡ old.tag + 1) × (new.processor ≡ own)

-- the lawful changes of a holder word: a takeover by some processor; processors are below 64
abbrev pub Changes : (old new : Holder) → Type 0
Changes old new = (own : ℕ) × (own < 64) × TakesOver own old new

-- what others than this processor do to it
abbrev pub OthersChange : (own : ℕ) → (old new : Holder) → Type 0
OthersChange own old new = Changes old new × (new.processor ≡ own → ⊥)

-- the bid of a message stands in the holder word, and is this processor's
abbrev pub IsKept : (message now : Holder) → (own : ℕ) → Type 0
IsKept message now own = (message ≡ now) × (now.processor ≡ own)
