-- Packings: a value goes into a word, and comes back from that word alone.
use Rattle.std.specs.Prelude.{◌≡◌, ◌↔◌, ℕ, ◌==◌, if◌then◌else◌, Option, Some, None}

-- the value read, if it packs to that very word
abbrev pub packed_to : {V : Type 0} → (V → ℕ) → ℕ → Option V → Option V
packed_to pack word None = None
packed_to pack word (Some v) = if pack v == word then Some v else None

-- what a word stands for, where `read` finds its fields and looks at no other bits
unfoldable pub unpacked : {V : Type 0} → (V → ℕ) → (ℕ → Option V) → ℕ → Option V
unpacked pack read word = packed_to pack word (read word)

-- the answer is a value exactly where the value may be packed and packs to the word; so it is `None` exactly where none does
abbrev pub IsWhatPacksTo : {V : Type 0} → (V → ℕ) → (V → Type 0) → ℕ → Option V → Type 0
IsWhatPacksTo pack IsPackable word answer = (v : _) → (answer ≡ Some v) ↔ (IsPackable v × (pack v ≡ word))

-- each word is unpacked to what packs to it
abbrev pub IsExact : {V : Type 0} → (V → ℕ) → (V → Type 0) → (ℕ → Option V) → Type 0
IsExact pack IsPackable unpack = (word : ℕ) → IsWhatPacksTo pack IsPackable word (unpack word)
