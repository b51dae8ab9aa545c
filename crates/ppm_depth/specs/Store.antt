-- Where locations lie in the stack of blocks and among the words of the arrays.
use Rattle.std.specs.Prelude.{◌≡◌, ◌<◌, ℕ, ◌+◌, List, get_or, length, set, slice_set}
use Rattle.ppm_strands.specs.Capsule.{Memory}
use Rattle.ppm_strands.specs.Strand.{Own, New as NewWord, Shared}
use Rattle.ppm_code.specs.declared.act.Step.{Step}
use Rattle.ppm_code.specs.declared.act.Step.TheVariants.{Loads, Stores, Asks}
use Rattle.ppm_code.specs.declared.location.Location.{Location}
use Rattle.ppm_code.specs.declared.location.Location.TheVariants.{Frame, New, Array}
use Rattle.ppm_code.specs.declared.location.FrameWord.{FrameWord}
use Rattle.ppm_code.specs.declared.location.FrameWord.TheVariants.{Slot, Value}
use Rattle.ppm_code.specs.Locations.{Where}
use Rattle.ppm_code.specs.Sizes.{value_at, slot_at}
use Rattle.ppm_depth.specs.declared.store.Place.{Place}

-- a word of the frame that begins at a word of the stack
abbrev pub own_at : (frame : ℕ) → FrameWord → ℕ
own_at frame (Slot slot) = frame + slot_at slot
own_at frame Value = frame + value_at

-- the word at a location
abbrev pub found : Place → Location → (blocks words : List ℕ) → ℕ
found p (Frame own) blocks words = get_or blocks (own_at p.frame own) 0
found p (New offset) blocks words = get_or blocks (p.block + offset) 0
found p (Array index) blocks words = get_or words index 0

-- the location is there
abbrev pub IsThere : Place → Location → (blocks words : List ℕ) → Type 0
IsThere p (Frame own) blocks words = own_at p.frame own < length blocks
IsThere p (New offset) blocks words = p.block + offset < length blocks
IsThere p (Array index) blocks words = index < length words

-- the stack with a word at a location
abbrev pub blocks_with : Place → Location → ℕ → List ℕ → List ℕ
blocks_with p (Frame own) word blocks = set blocks (own_at p.frame own) word
blocks_with p (New offset) word blocks = set blocks (p.block + offset) word
blocks_with p (Array index) word blocks = blocks

-- the words of the arrays likewise
abbrev pub words_with : Location → ℕ → List ℕ → List ℕ
words_with (Frame own) word words = words
words_with (New offset) word words = words
words_with (Array index) word words = set words index word

-- the location of a step is there
abbrev pub IsStepThere : Place → Step → (blocks words : List ℕ) → Type 0
IsStepThere p (Loads location to) blocks words = IsThere p location blocks words
IsStepThere p (Stores location word) blocks words = IsThere p location blocks words
IsStepThere p (Asks count) blocks words = Unit {0}

-- registers, stack and words after a step, and what it asks for
abbrev pub registers_after : Place → Step → (blocks words registers : List ℕ) → List ℕ
registers_after p (Loads location to) blocks words registers = slice_set registers to.index (found p location blocks words)
registers_after p (Stores location word) blocks words registers = registers
registers_after p (Asks count) blocks words registers = registers

abbrev pub blocks_after : Place → Step → List ℕ → List ℕ
blocks_after p (Loads location to) blocks = blocks
blocks_after p (Stores location word) blocks = blocks_with p location word blocks
blocks_after p (Asks count) blocks = blocks

abbrev pub words_after : Step → List ℕ → List ℕ
words_after (Loads location to) words = words
words_after (Stores location word) words = words_with location word words
words_after (Asks count) words = words

abbrev pub asked_by : Step → ℕ
asked_by (Loads location to) = 0
asked_by (Stores location word) = 0
asked_by (Asks count) = count

-- the location is one of so many slots, words of the new block or words of the arrays
abbrev pub IsWithin : (slots size array_words : ℕ) → Location → Type 0
IsWithin slots size array_words (Frame (Slot slot)) = slot < slots
IsWithin slots size array_words (Frame Value) = Unit {0}
IsWithin slots size array_words (New offset) = offset < size
IsWithin slots size array_words (Array index) = index < array_words

-- the memory that a capsule sees: its frame's slots, the words of its new block, and the words of the arrays
pub record Shows (slots size : ℕ) (p : Place) (blocks words : List ℕ) (m : Memory Where) : Type 0 where
  pub slot : (slot : ℕ) → slot < slots → m (Own (Slot slot)) ≡ get_or blocks (own_at p.frame (Slot slot)) 0
  pub value : m (Own Value) ≡ get_or blocks (own_at p.frame Value) 0
  pub new : (offset : ℕ) → offset < size → m (NewWord offset) ≡ get_or blocks (p.block + offset) 0
  pub shared : (index : ℕ) → m (Shared index) ≡ get_or words index 0
