-- The row of a capsule of a frame: what its instructions ask of cells, and the stores of its end.
use Rattle.std.specs.Prelude.{◌≡◌, ℕ, zero, suc, ◌+◌, ◌-◌, nat_lt, nat_le, if◌then◌else◌, List, [], ◌∷◌, Option, Some, None}
use Rattle.ppm_cells.specs.Cells.{pool_at}
use Rattle.ppm_cells.specs.declared.cell.Cell.{Cell}
use Rattle.ppm_cells.specs.declared.cell.Cell.TheVariants.{RoomCounter, BlockWord, ArrayWord}
use Rattle.ppm_cells.specs.declared.finish.Finish.TheVariants.{Ended, Trapped}
use Rattle.ppm_cells.specs.declared.link.LinkKind.{LinkKind}
use Rattle.ppm_cells.specs.declared.link.LinkKind.TheVariants.{Call as CallLink, Branch, Fork as ForkLink}
use Rattle.ppm_cells.specs.declared.restart.RestartKind.{RestartKind}
use Rattle.ppm_cells.specs.declared.restart.RestartKind.TheVariants.{Run, Bump, Unwind}
use Rattle.ppm_cells.specs.declared.shape.Shape.{Shape}
use Rattle.ppm_cells.specs.declared.side.Side.TheVariants.{Left, Right}
use Rattle.ppm_strands.specs.Capsule.{Capsule, Reads, Writes, Asks, Ends}
use Rattle.ppm_strands.specs.Strand.{Own, New, Shared}
use Rattle.ppm_code.specs.Locations.{Where}
use Rattle.ppm_code.specs.Sizes.{frame_size, fork_size}
use Rattle.ppm_code.specs.Strands.{entry_of}
use Rattle.ppm_code.specs.declared.act.End.{End}
use Rattle.ppm_code.specs.declared.act.End.TheVariants.{Next, Finish, Trap, Call, Fork}
use Rattle.ppm_code.specs.declared.code.CodeParts.{CodeParts}
use Rattle.ppm_code.specs.declared.location.FrameWord.TheVariants.{Slot, Value}
use Rattle.ppm_step.specs.declared.content.Content.{Content}
use Rattle.ppm_step.specs.declared.content.Content.TheVariants.{ANumber, ALink, AFinish}
use Rattle.ppm_step.specs.declared.frame.Put.{Put}
use Rattle.ppm_step.specs.declared.frame.Home.{Home}
use Rattle.ppm_step.specs.Points.{outcome_word, header_word, value_word, target_word, offset_word}

-- what is left of a capsule of a frame: it loads a word and goes on by it, stores one, finds its pool full, installs a kind, or is broken
pub data Rest : Type 0 where
  Loads : Cell → (ℕ → Rest) → Rest
  Stores : Cell → Content → Rest → Rest
  Full : Rest
  Installs : RestartKind → Rest
  Breaks : Rest

-- the word of a location, in a frame and with a new block
abbrev pub cell_of : Home → Where → Cell
cell_of home (Own (Slot slot)) = BlockWord (home.frame + 6 + slot)
cell_of home (Own Value) = value_word home.frame
cell_of home (New offset) = BlockWord (home.block + offset)
cell_of home (Shared index) = ArrayWord index

-- the copy that is not in use
abbrev pub other_copy : ℕ → ℕ
other_copy copy = 1 - copy

-- a store, by its cell and its content
abbrev pub put : Cell → Content → Put
put cell content = record { cell = cell; content = content }

abbrev pub link : (kind : LinkKind) → (size : ℕ) → Content
link kind size = ALink (record { kind = kind; size = size })

-- the target word of a slot: one more, or 0
abbrev pub target_of : Option ℕ → ℕ
target_of None = 0
target_of (Some slot) = slot + 1

-- the frame is to go on with a capsule
abbrev pub goes_on : Home → (capsule : ℕ) → Put
goes_on home capsule = put (header_word home.frame (other_copy home.copy)) (ANumber capsule)

module _ (code : CodeParts) (home : Home) where
  -- the stores of a call, without and with a target
  abbrev pub call_puts : (procedure capsule : ℕ) → Option ℕ → List Put
  call_puts procedure capsule None =
      put (BlockWord home.block) (link (CallLink home.frame (other_copy home.copy)) (frame_size code procedure))
      ∷ put (outcome_word home.block) (AFinish Ended)
      ∷ put (header_word home.block 0) (ANumber (entry_of code procedure))
      ∷ goes_on home capsule ∷ []
  call_puts procedure capsule (Some slot) =
      put (BlockWord home.block) (link (CallLink home.frame (other_copy home.copy)) (frame_size code procedure))
      ∷ put (outcome_word home.block) (AFinish Ended)
      ∷ put (header_word home.block 0) (ANumber (entry_of code procedure))
      ∷ put (target_word home.block) (ANumber (slot + 1))
      ∷ goes_on home capsule ∷ []

  -- the stores of a fork, where `right_at` is where its right frame lies
  abbrev pub fork_puts : (left right capsule right_at : ℕ) → List Put
  fork_puts left right capsule right_at =
      put (BlockWord home.block) (link (ForkLink home.frame (other_copy home.copy)) (fork_size code left right))
      ∷ put (offset_word home.block) (ANumber (5 + frame_size code left))
      ∷ put (BlockWord (home.block + 5)) (link (Branch Left home.block) (frame_size code left))
      ∷ put (outcome_word (home.block + 5)) (AFinish Ended)
      ∷ put (header_word (home.block + 5) 0) (ANumber (entry_of code left))
      ∷ put (BlockWord right_at) (link (Branch Right home.block) (frame_size code right))
      ∷ put (outcome_word right_at) (AFinish Ended)
      ∷ put (header_word right_at 0) (ANumber (entry_of code right))
      ∷ goes_on home capsule ∷ []

  -- and of one with targets
  abbrev pub fork_to_puts : (left right capsule right_at left_target right_target : ℕ) → List Put
  fork_to_puts left right capsule right_at left_target right_target =
      put (BlockWord home.block) (link (ForkLink home.frame (other_copy home.copy)) (fork_size code left right))
      ∷ put (offset_word home.block) (ANumber (5 + frame_size code left))
      ∷ put (BlockWord (home.block + 5)) (link (Branch Left home.block) (frame_size code left))
      ∷ put (outcome_word (home.block + 5)) (AFinish Ended)
      ∷ put (header_word (home.block + 5) 0) (ANumber (entry_of code left))
      ∷ put (target_word (home.block + 5)) (ANumber left_target)
      ∷ put (BlockWord right_at) (link (Branch Right home.block) (frame_size code right))
      ∷ put (outcome_word right_at) (AFinish Ended)
      ∷ put (header_word right_at 0) (ANumber (entry_of code right))
      ∷ put (target_word right_at) (ANumber right_target)
      ∷ goes_on home capsule ∷ []

  -- with targets, if one is named
  abbrev pub fork_puts_by : (left right capsule : ℕ) → (left_to right_to : Option ℕ) → List Put
  fork_puts_by left right capsule None None = fork_puts left right capsule (home.block + (5 + frame_size code left))
  fork_puts_by left right capsule left_to right_to =
      fork_to_puts left right capsule (home.block + (5 + frame_size code left)) (target_of left_to) (target_of right_to)

  -- the stores of an end, in order
  abbrev pub puts : End → List Put
  puts (Next capsule) = goes_on home capsule ∷ []
  puts Finish = []
  puts (Trap trap line) = put (outcome_word home.frame) (AFinish (Trapped trap line)) ∷ []
  puts (Call procedure capsule to) = call_puts procedure capsule to
  puts (Fork left right capsule left_to right_to) = fork_puts_by left right capsule left_to right_to

-- and what it installs
abbrev pub installed : Home → End → RestartKind
installed home (Next capsule) = Run home.frame (other_copy home.copy)
installed home Finish = Unwind home.frame
installed home (Trap trap line) = Unwind home.frame
installed home (Call procedure capsule to) = Bump home.block
installed home (Fork left right capsule left_to right_to) = Bump home.block

-- these stores from the n-th on, and then the rest
abbrev pub storing : (n : ℕ) → List Put → Rest → Rest
storing n [] rest = rest
storing zero (p ∷ ps) rest = Stores p.cell p.content (storing zero ps rest)
storing (suc n) (p ∷ ps) rest = storing n ps rest

-- the end of a capsule, from its n-th store on
abbrev pub ending : CodeParts → Home → End → (n : ℕ) → Rest
ending code home e n = storing n (puts code home e) (Installs (installed home e))

-- the store that comes next at an end is this one; or there is none, and the restart word is installed
abbrev pub IsNext : CodeParts → Home → End → (n : ℕ) → Option Put → Type 0
IsNext code home e n None = ending code home e n ≡ Installs (installed home e)
IsNext code home e n (Some p) = ending code home e n ≡ Stores p.cell p.content (ending code home e (n + 1))

-- with the room counter: it is no less than the pool's first word, and the words that are asked for are in the pool
abbrev pub asks : (pool room counter words : ℕ) → Rest → Rest
asks pool room counter words rest = if nat_lt counter pool then Breaks else (if nat_le (counter + words) (pool + room) then rest else Full)

-- the block is built at the room counter
abbrev pub at_counter : Home → (counter : ℕ) → Home
at_counter home counter = record { frame = home.frame; copy = home.copy; block = counter }

-- what a capsule asks of the words
abbrev pub rest_of : Shape → CodeParts → (place : ℕ) → Home → Capsule Where End → Rest
rest_of s code place home (Reads location go) = Loads (cell_of home location) (λ word. rest_of s code place home (go word))
rest_of s code place home (Writes location word go) = Stores (cell_of home location) (ANumber word) (rest_of s code place home go)
rest_of s code place home (Asks words go) =
    Loads (RoomCounter place) (λ counter. asks (pool_at s place) s.room counter words (rest_of s code place (at_counter home counter) go))
rest_of s code place home (Ends e) = ending code home e 0
