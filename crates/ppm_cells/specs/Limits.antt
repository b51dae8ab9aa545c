-- How large a machine may be.
use Rattle.std.specs.Prelude.{ℕ, ◌≤◌, ◌*◌}
use Rattle.ppm_words.specs.Limits.{word_limit, processor_limit, entry_limit}

-- the processors of a machine, and so its places
abbrev pub most_processors : ℕ
most_processors = processor_limit

-- the words of a place's pool
abbrev pub least_room : ℕ
least_room = 64

-- the words of all pools together
abbrev pub most_pool_words : ℕ
most_pool_words = 67108864

-- those words where all of them are written out: with these no saved text is too long
abbrev pub most_saved_pool_words : ℕ
most_saved_pool_words = 4194304

-- the entries of a place's deque
abbrev pub least_slots : ℕ
least_slots = 2

abbrev pub most_slots : ℕ
most_slots = entry_limit

-- so many processors, words of room, entries and array words may a machine have
pub record IsWithinLimits (processors room slots arrays : ℕ) : Type 0 where
  pub processors_least : 1 ≤ processors
  pub processors_most : processors ≤ most_processors
  pub room_least : least_room ≤ room
  pub pools_most : processors * room ≤ most_pool_words
  pub slots_least : least_slots ≤ slots
  pub slots_most : slots ≤ most_slots
  pub arrays_most : arrays ≤ word_limit
