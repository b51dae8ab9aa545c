-- The stores of an end: those into its new block, by their offsets, and the one into the frame's
-- own words.
use Rattle.std.specs.Prelude.{◌≡◌, ℕ, ◌+◌, List, [], ◌∷◌, ◌++◌, map, Option, Some, None}
use Rattle.ppm_cells.specs.declared.cell.Cell.TheVariants.{BlockWord}
use Rattle.ppm_cells.specs.declared.finish.Finish.TheVariants.{Ended, Trapped}
use Rattle.ppm_cells.specs.declared.link.LinkKind.TheVariants.{Call as CallLink, Branch, Fork as ForkLink}
use Rattle.ppm_cells.specs.declared.side.Side.TheVariants.{Left, Right}
use Rattle.ppm_strands.specs.Capsule.{Memory}
use Rattle.ppm_strands.specs.EndStores.{with_end_stores_in, AreUnseen}
use Rattle.ppm_strands.specs.Strand.{New, MayBeginAgain, code_of}
use Rattle.ppm_code.specs.Locations.{Where, code_locations}
use Rattle.ppm_code.specs.Sizes.{frame_size, fork_size, right_at}
use Rattle.ppm_code.specs.Strands.{Point, entry_of, table_of}
use Rattle.ppm_code.specs.declared.act.End.{End}
use Rattle.ppm_code.specs.declared.act.End.TheVariants.{Next, Finish, Trap, Call, Fork}
use Rattle.ppm_code.specs.declared.code.CodeParts.{CodeParts}
use Rattle.ppm_step.specs.Contents.{word_of}
use Rattle.ppm_step.specs.Frames.{other_copy, put, link, target_of, goes_on, puts}
use Rattle.ppm_step.specs.Points.{outcome_word}
use Rattle.ppm_step.specs.declared.content.Content.{Content}
use Rattle.ppm_step.specs.declared.content.Content.TheVariants.{ANumber, AFinish}
use Rattle.ppm_step.specs.declared.frame.Put.{Put}
use Rattle.ppm_step.specs.declared.frame.Home.{Home}

module _ (code : CodeParts) (home : Home) where
  -- those of a call: the callee's link, outcome, header, and its target where it has one
  abbrev pub call_stores : (procedure : ℕ) → Option ℕ → List (ℕ × Content)
  call_stores procedure None =
      (0, link (CallLink home.frame (other_copy home.copy)) (frame_size code procedure)) ∷ (1, AFinish Ended)
      ∷ (2, ANumber (entry_of code procedure)) ∷ []
  call_stores procedure (Some slot) =
      (0, link (CallLink home.frame (other_copy home.copy)) (frame_size code procedure)) ∷ (1, AFinish Ended)
      ∷ (2, ANumber (entry_of code procedure)) ∷ (5, ANumber (slot + 1)) ∷ []

  -- those of a fork: the block's link, the right frame's offset, and each frame's link, outcome and
  -- header
  abbrev pub fork_stores : (left right : ℕ) → List (ℕ × Content)
  fork_stores left right =
      (0, link (ForkLink home.frame (other_copy home.copy)) (fork_size code left right)) ∷ (4, ANumber (right_at code left))
      ∷ (5, link (Branch Left home.block) (frame_size code left)) ∷ (6, AFinish Ended) ∷ (7, ANumber (entry_of code left))
      ∷ (right_at code left, link (Branch Right home.block) (frame_size code right)) ∷ (right_at code left + 1, AFinish Ended)
      ∷ (right_at code left + 2, ANumber (entry_of code right)) ∷ []

  -- with the targets of both frames
  abbrev pub fork_to_stores : (left right left_target right_target : ℕ) → List (ℕ × Content)
  fork_to_stores left right left_target right_target =
      (0, link (ForkLink home.frame (other_copy home.copy)) (fork_size code left right)) ∷ (4, ANumber (right_at code left))
      ∷ (5, link (Branch Left home.block) (frame_size code left)) ∷ (6, AFinish Ended) ∷ (7, ANumber (entry_of code left))
      ∷ (10, ANumber left_target)
      ∷ (right_at code left, link (Branch Right home.block) (frame_size code right)) ∷ (right_at code left + 1, AFinish Ended)
      ∷ (right_at code left + 2, ANumber (entry_of code right)) ∷ (right_at code left + 5, ANumber right_target) ∷ []

  -- a fork stores targets where it has one of them
  abbrev pub fork_stores_by : (left right : ℕ) → (left_to right_to : Option ℕ) → List (ℕ × Content)
  fork_stores_by left right None None = fork_stores left right
  fork_stores_by left right left_to right_to = fork_to_stores left right (target_of left_to) (target_of right_to)

  -- into the new block
  abbrev pub block_stores : End → List (ℕ × Content)
  block_stores (Next capsule) = []
  block_stores Finish = []
  block_stores (Trap trap line) = []
  block_stores (Call procedure capsule to) = call_stores procedure to
  block_stores (Fork left right capsule left_to right_to) = fork_stores_by left right left_to right_to

  -- into the frame's own words: the header that is not in use, or the outcome
  abbrev pub own_stores : End → List Put
  own_stores (Next capsule) = goes_on home capsule ∷ []
  own_stores Finish = []
  own_stores (Trap trap line) = put (outcome_word home.frame) (AFinish (Trapped trap line)) ∷ []
  own_stores (Call procedure capsule to) = goes_on home capsule ∷ []
  own_stores (Fork left right capsule left_to right_to) = goes_on home capsule ∷ []

  -- a store into the block, by its cell
  abbrev pub in_block : ℕ × Content → Put
  in_block p = put (BlockWord (home.block + p.0)) p.1

  -- those of the machine's step are these, in order
  abbrev pub IsSplit : End → Type 0
  IsSplit e = puts code home e ≡ map in_block (block_stores e) ++ own_stores e

-- by their locations
abbrev pub located : List (ℕ × Content) → List (Where × ℕ)
located [] = []
located (p ∷ ps) = (New p.0, word_of p.1) ∷ located ps

-- the stores of the ends of each point into new blocks, where frames at it have these homes
abbrev pub tails_of : CodeParts → (Point → Home) → Point → End → List (Where × ℕ)
tails_of code homes point e = located (block_stores code (homes point) e)

-- the stores of each end are those into the block, and then that into the frame's own words
abbrev pub EndsSplit : Type 0
EndsSplit = (code : CodeParts) (home : Home) (e : End) → IsSplit code home e

-- the trees that ends open do not show them, so the code is the same with them
abbrev pub StoresAreUnseen : Type 0
StoresAreUnseen = (code : CodeParts) (array_words : ℕ) (homes : Point → Home)
    → AreUnseen code_locations (table_of code array_words) (tails_of code homes)
    × (code_of code_locations (with_end_stores_in code_locations (table_of code array_words) (tails_of code homes))
    ≡ code_of code_locations (table_of code array_words))

-- and a capsule that may be begun again may be with them
abbrev pub MayBeginAgainWithStores : Type 0
MayBeginAgainWithStores = (code : CodeParts) (array_words : ℕ) (homes : Point → Home) (point : Point) (m : Memory Where)
    → MayBeginAgain code_locations (table_of code array_words) point m
    → MayBeginAgain code_locations (with_end_stores_in code_locations (table_of code array_words) (tails_of code homes)) point m
