-- The words of a frame in a new block: a slot that it has is a word of the block, one after it is 0.
use Rattle.std.proofs.Common.{◌≡◌, ◌<◌, ◌≤◌, ℕ, ◌+◌, Bool, ap}
use Rattle.std.specs.Prelude.{if◌then◌else◌}
use Rattle.std.proofs.lemmas.Bool.{lt-ltb, le-ltb}
use Rattle.ppm_code.specs.declared.location.FrameWord.TheVariants.{Slot}
use Rattle.ppm_code.specs.Sizes.{slot_at}
use Rattle.ppm_code.specs.Strands.{built}

-- a slot that the frame has
pub built_slot : (slots frame : ℕ) (block : ℕ → ℕ) (slot : ℕ) → slot < slots
    → built slots frame block (Slot slot) ≡ block (frame + slot_at slot)
built_slot slots frame block slot less = ap (λ (b : Bool). if b then block (frame + slot_at slot) else 0) (lt-ltb slot slots less)

-- one after its slots
pub built_behind : (slots frame : ℕ) (block : ℕ → ℕ) (slot : ℕ) → slots ≤ slot → built slots frame block (Slot slot) ≡ 0
built_behind slots frame block slot low = ap (λ (b : Bool). if b then block (frame + slot_at slot) else 0) (le-ltb slot slots low)
