-- What fresh processors find where a state was saved: each at its own place, none dead, each holder word with the next tag, and no end
-- that was only a limit.
use Rattle.std.specs.Prelude.{◌≡◌, ℕ, ◌+◌, ◌==◌, nat_lt, Bool, true, if◌then◌else◌, List, Option, Some, None}
use Rattle.ppm_cells.specs.Cells.{IsCell}
use Rattle.ppm_cells.specs.Finish.{finish_of}
use Rattle.ppm_cells.specs.Holder.{holder_word, holder_of}
use Rattle.ppm_cells.specs.Memory.{read, AreWordsOf}
use Rattle.ppm_cells.specs.declared.cell.Cell.{Cell}
use Rattle.ppm_cells.specs.declared.cell.Cell.TheVariants.{FinishWord, CarryWord, DeadWord, HolderWord}
use Rattle.ppm_cells.specs.declared.finish.Finish.{Finish}
use Rattle.ppm_cells.specs.declared.finish.Finish.TheVariants.{Unset, Ended, Trapped, OutOfTurns, OutOfRoom, Stopped, Broken}
use Rattle.ppm_cells.specs.declared.holder.Holder.{Holder}
use Rattle.ppm_cells.specs.declared.shape.Shape.{Shape}
use Rattle.ppm_saved.specs.declared.renewal.Renewed.{Renewed}
use Rattle.ppm_saved.specs.declared.saved.Saved.{Saved}

-- the last tag of a holder word: 2^58 - 1
abbrev pub last_tag : ℕ
last_tag = 288230376151711743

-- the tag after a holder's; after the last one comes 0
abbrev pub tag_behind : Option Holder → ℕ
tag_behind None = 0
tag_behind (Some holder) = if holder.tag == last_tag then 0 else holder.tag + 1

-- the holder that a place has for fresh processors: its own, with the next tag
abbrev pub holder_behind : (place : ℕ) → Option Holder → Holder
holder_behind place holder = record { tag = tag_behind holder; processor = place }

-- the finish word for fresh processors: an end by a limit of turns or of a watcher's memory is none
abbrev pub finish_behind : Option Finish → (word : ℕ) → ℕ
finish_behind None word = word
finish_behind (Some Unset) word = word
finish_behind (Some Ended) word = word
finish_behind (Some (Trapped trap line)) word = word
finish_behind (Some (OutOfTurns processor)) word = 0
finish_behind (Some (OutOfRoom place)) word = word
finish_behind (Some Stopped) word = 0
finish_behind (Some (Broken place)) word = word

-- the word that fresh processors find in a cell in which one was saved
abbrev pub renewed : Cell → (word : ℕ) → ℕ
renewed FinishWord word = finish_behind (finish_of word) word
renewed (CarryWord processor) word = processor
renewed (DeadWord processor) word = 0
renewed (HolderWord place) word = holder_word (holder_behind place (holder_of word))
renewed _ word = word

-- words are those that fresh processors find, where some were saved
pub record AreRenewed (s : Shape) (saved words : List ℕ) : Type 0 where
  pub fit : AreWordsOf s words
  pub cells : (c : Cell) → IsCell s c → read s words c ≡ renewed c (read s saved c)

-- whether a cell is none of a processor or place from a number on
abbrev pub is_below : ℕ → Cell → Bool
is_below n (CarryWord processor) = nat_lt processor n
is_below n (DeadWord processor) = nat_lt processor n
is_below n (HolderWord place) = nat_lt place n
is_below n _ = true

-- words are so in the cells of the processors and places below a number, and elsewhere as they were
pub record AreRenewedBelow (s : Shape) (saved : List ℕ) (n : ℕ) (words : List ℕ) : Type 0 where
  pub fit : AreWordsOf s words
  pub cells : (c : Cell) → IsCell s c → read s words c ≡ (if is_below n c then renewed c (read s saved c) else read s saved c)

-- what fresh processors begin with, where a state was saved
pub record IsRenewalOf (saved : Saved) (keeper : ℕ) (r : Renewed) : Type 0 where
  pub shape_is : r.image.shape ≡ saved.shape
  pub keeper_is : r.image.keeper ≡ keeper
  pub lengths_are : r.image.lengths ≡ saved.lengths
  pub words_are : AreRenewed saved.shape saved.words r.image.words
  pub code_is : r.code ≡ saved.code
  pub names_are : r.names ≡ saved.names
