-- The own words of a strand of the machine.
use Rattle.std.specs.Prelude.{◌≡◌, ℕ, zero, suc, ◌+◌, List, [], ◌∷◌, get_or}
use Rattle.ppm_strands.specs.Capsule.{Memory}
use Rattle.ppm_code.specs.declared.location.FrameWord.{FrameWord}
use Rattle.ppm_code.specs.declared.location.FrameWord.TheVariants.{Slot, Value}
use Rattle.ppm_filled.specs.Racing.{OwnWord, OfFrame, OfBlock}
use Rattle.ppm_interleaving.specs.declared.own.Own.{Own}

-- a word of the frame; slots past the last are 0
abbrev pub frame_word_in : Own → FrameWord → ℕ
frame_word_in own (Slot i) = get_or own.slots.items i 0
frame_word_in own Value = own.value

-- the words show the own words of the model, but for those that ends store, which nobody loads
pub record ShowsOwn (own : Own) (o : Memory OwnWord) : Type 0 where
  pub frame : (k : FrameWord) → o (OfFrame k) ≡ frame_word_in own k
  pub block : (n : ℕ) → o (OfBlock n) ≡ get_or own.block.items n 0

-- so many words from a place on
abbrev pub slots_from : (words : List ℕ) → (place count : ℕ) → List ℕ
slots_from words place zero = []
slots_from words place (suc n) = get_or words place 0 ∷ slots_from words (place + 1) n

-- the words of the root's frame: these in its first slots, and 0 in all others
pub record AreRootWords (words : List ℕ) (root : FrameWord → ℕ) : Type 0 where
  pub slots : (i : ℕ) → root (Slot i) ≡ get_or words i 0
  pub value : root Value ≡ 0
