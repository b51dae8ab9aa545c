-- The opening words one after the other, in the order of their addresses.
use Rattle.std.specs.Prelude.{ℕ, zero, suc, List, [], ◌∷◌, ◌++◌, map, replicate}
use Rattle.std.specs.List.{range_with_len}
use Rattle.ppm_cells.specs.Cells.{pool_at}
use Rattle.ppm_cells.specs.Entry.{entry_word}
use Rattle.ppm_cells.specs.Finish.{finish_word}
use Rattle.ppm_cells.specs.Holder.{holder_word}
use Rattle.ppm_cells.specs.Restart.{restart_word}
use Rattle.ppm_cells.specs.declared.finish.Finish.TheVariants.{Unset}
use Rattle.ppm_cells.specs.declared.shape.Shape.{Shape}
use Rattle.ppm_words.specs.declared.named_array.NamedArray.{NamedArray}
use Rattle.ppm_code.specs.Inputs.{words_in}
use Rattle.ppm_code.specs.declared.code.CodeParts.{CodeParts}
use Rattle.ppm_code.specs.Sizes.{frame_size}
use Rattle.ppm_layout.specs.Opening.{first_restart, first_holder, first_room, first_entry, first_block, root_frame}

-- each processor carries the place of its number
abbrev pub carries : ℕ → List ℕ
carries processors = range_with_len 0 processors

-- in front of the places: the finish word, what each processor carries, and that none is dead
abbrev pub processor_words : ℕ → List ℕ
processor_words processors = finish_word Unset ∷ (carries processors ++ replicate processors 0)

-- the entries of a deque
abbrev pub entry_words : ℕ → List ℕ
entry_words slots = map (λ slot. entry_word (first_entry slot)) (range_with_len 0 slots)

-- the five words with which a place begins
abbrev pub place_head : Shape → (keeper size place : ℕ) → List ℕ
place_head s keeper size place =
    restart_word (first_restart s keeper place) ∷ 0 ∷ holder_word (first_holder place) ∷ 1 ∷ first_room s keeper size place ∷ []

-- so many words of the pools, from an address on
abbrev pub block_words : Shape → (keeper : ℕ) → (frame : List ℕ) → (at count : ℕ) → List ℕ
block_words s keeper frame at count = map (first_block s keeper frame) (range_with_len at count)

module _ (s : Shape) (keeper size : ℕ) (frame : List ℕ) where
  -- a place: five words, its entries, its pool
  abbrev pub place_words : ℕ → List ℕ
  place_words place = (place_head s keeper size place ++ entry_words s.slots) ++ block_words s keeper frame (pool_at s place) s.room

  -- the first so many places
  abbrev pub places : ℕ → List ℕ
  places zero = []
  places (suc count) = places count ++ place_words count

  -- all words, with those of the arrays
  abbrev pub all_words : (arrays : List ℕ) → List ℕ
  all_words arrays = (processor_words s.processors ++ places s.processors) ++ arrays

-- all words of an image
abbrev pub opening_words : CodeParts → List NamedArray → Shape → (keeper : ℕ) → List ℕ
opening_words code input s keeper = all_words s keeper (frame_size code code.root) (root_frame code input) (words_in input)
