-- The words with which a run begins, and the arrays that words stand for.
use Rattle.std.specs.Prelude.{◌≡◌, ℕ, ◌+◌, ◌-◌, List, [], ◌∷◌, ◌++◌, length, map, take, drop, replicate, Option, Some, None}
use Rattle.ppm_words.specs.TwosComplement.{value_of}
use Rattle.ppm_words.specs.declared.named_array.NamedArray.{NamedArray}
use Rattle.ppm_code.specs.declared.code.CodeParts.{CodeParts}
use Rattle.ppm_code.specs.Sizes.{slots_of}
use Rattle.ppm_words.specs.declared.outcome.Outcome.{Outcome}
use Rattle.ppm_words.specs.declared.outcome.Outcome.TheVariants.{Ended, Trapped as TrappedAt, NotWithin}
use Rattle.ppm_depth.specs.Start.{root_regions}
use Rattle.ppm_depth.specs.declared.depth.DepthRun.{DepthRun}
use Rattle.ppm_depth.specs.declared.frame.Finish.{Finish}
use Rattle.ppm_depth.specs.declared.frame.Finish.TheVariants.{Gave, Trapped}
use Rattle.ppm_depth.specs.declared.strand.Strand.{Strand}

-- how many words arrays have
abbrev pub word_count : List NamedArray → ℕ
word_count [] = 0
word_count (a ∷ arrays) = length a.values + word_count arrays

-- the root's frame: six words, the regions, and 0 in the other slots
abbrev pub root_frame : CodeParts → List NamedArray → List ℕ
root_frame code input = (replicate 6 0 ++ root_regions code input) ++ replicate (slots_of code code.root - length code.arrays) 0

-- arrays of the same names and lengths, with the values of words
abbrev pub arrays_in : List NamedArray → List ℕ → List NamedArray
arrays_in [] words = []
arrays_in (a ∷ arrays) words =
    record { name = a.name; values = map value_of (take (length a.values) words) } ∷ arrays_in arrays (drop (length a.values) words)

-- what is said of a run over words: its arrays or its trap, or that it is not at its end
abbrev pub outcome_in : List NamedArray → List ℕ → Option Finish → Outcome
outcome_in arrays words (Some (Gave value)) = Ended (arrays_in arrays words)
outcome_in arrays words (Some (Trapped trap line)) = TrappedAt trap line
outcome_in arrays words None = NotWithin

-- what is said of a strand that has come to this, with its counts, where the root's frame has so many words
pub record IsRunOf (arrays : List NamedArray) (strand : Strand) (frame_words : ℕ) (finish : Option Finish) (run : DepthRun) : Type 0 where
  pub outcome : run.outcome ≡ outcome_in arrays strand.store.words.items finish
  pub capsules : run.capsules ≡ strand.counts.capsules
  pub forks : run.forks ≡ strand.counts.forks
  pub pool_words : run.pool_words ≡ frame_words + strand.counts.block_words
