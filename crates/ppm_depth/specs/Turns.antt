-- What each turn of the strand does: a chain in turn from the tree that was shown to the one that is shown then.
use Rattle.std.specs.Prelude.{◌≡◌, ◌≤◌, ℕ, ◌*◌, Option, Some, None, length}
use Rattle.ppm_strands.specs.Tree.{Code, Words, Over, Strand as StrandAt}
use Rattle.ppm_strands.specs.Run.{Counts, plus}
use Rattle.ppm_depth.specs.Order.{StepsInOrder}
use Rattle.ppm_strands.specs.Strand.{code_of}
use Rattle.ppm_code.specs.declared.code.CodeParts.{CodeParts}
use Rattle.ppm_code.specs.Limits.{room_limit}
use Rattle.ppm_code.specs.Locations.{code_locations}
use Rattle.ppm_code.specs.Strands.{Result, table_of}
use Rattle.ppm_depth.specs.Start.{words_of}
use Rattle.ppm_depth.specs.Stack.{Own, Strands, Above, result_of, tree_at, IsShown}
use Rattle.ppm_depth.specs.declared.frame.Finish.{Finish}
use Rattle.ppm_depth.specs.declared.frame.Now.{Now}
use Rattle.ppm_depth.specs.declared.strand.Counts.{Counts as Counted}
use Rattle.ppm_depth.specs.declared.strand.Strand.{Strand}

-- the counts
abbrev pub counts_of : Counted → Counts
counts_of k = record { capsules = k.capsules; forks = k.forks; block_words = k.block_words }

-- they are within what so many capsules may count
pub record AreFew (k : Counted) : Type 0 where
  pub forks : k.forks ≤ k.capsules
  pub block_words : k.block_words ≤ k.capsules * room_limit

-- what a code's capsules do, with so many words of arrays
abbrev pub strands_over : CodeParts → (array_words : ℕ) → Code Own Result
strands_over code array_words = code_of code_locations (table_of code array_words)

module _ (code : CodeParts) where
  -- the strand shows what it does now as this tree
  abbrev pub ShowsTree : Strand → Now → Strands → Type 0
  ShowsTree strand current t = IsShown code strand.store.blocks.items strand.waiting.items current t

  -- from the tree that was shown a chain in turn, with so many capsules, leads to that which is shown then
  pub record IsTurn (count : ℕ) (before after : Strand) (t : Strands) (current : Now) : Type 0 where
    pub counts : Counts
    pub next : Strands
    pub steps : StepsInOrder (strands_over code (length before.store.words.items)) counts t (words_of before.store.words.items)
        next (words_of after.store.words.items)
    pub shown : ShowsTree after current next
    pub counted : counts_of after.counts ≡ plus (counts_of before.counts) counts
    pub capsules : counts.capsules ≡ count

  -- whatever tree was shown
  abbrev pub Turns : (count : ℕ) → (before after : Strand) → (was current : Now) → Type 0
  Turns count before after was current = (t : Strands) → ShowsTree before was t → IsTurn count before after t current

  -- from a tree and words the strand has come to what it shows now, with its counts
  pub record HasRun (array_words : ℕ) (t : Strands) (a : Words) (after : Strand) (current : Now) : Type 0 where
    pub next : Strands
    pub steps : StepsInOrder (strands_over code array_words) (counts_of after.counts) t a next (words_of after.store.words.items)
    pub shown : ShowsTree after current next

  -- the tree has come to its end, or so many capsules are run and one more is to be
  abbrev pub HasCome : (array_words limit : ℕ) → Strands → Words → Strand → Option Finish → Type 0
  HasCome array_words limit t a after (Some finish) =
      StepsInOrder (strands_over code array_words) (counts_of after.counts) t a (Over (result_of finish)) (words_of after.store.words.items)
  HasCome array_words limit t a after None =
      (above : Above) × (f : Own)
      × StepsInOrder (strands_over code array_words) (counts_of after.counts) t a (tree_at above (StrandAt f)) (words_of after.store.words.items)
      × (after.counts.capsules ≡ limit)
