-- What a run of a code starts from: the words of its input's arrays, and the frame of its root.
use Rattle.std.specs.Prelude.{ℕ, ◌+◌, ◌*◌, ◌^◌, ◌<◌, List, [], ◌∷◌, get_or, length, map}
use Rattle.std.specs.List.{All}
use Rattle.ppm_strands.specs.Tree.{Words, Tree}
use Rattle.ppm_strands.specs.Strand.{Frame}
use Rattle.ppm_words.specs.declared.named_array.NamedArray.{NamedArray}
use Rattle.ppm_code.specs.declared.code.CodeParts.{CodeParts}
use Rattle.ppm_code.specs.declared.location.FrameWord.{FrameWord}
use Rattle.ppm_code.specs.declared.location.FrameWord.TheVariants.{Slot, Value}
use Rattle.ppm_code.specs.Strands.{Point, Result, root_of}

-- words by their address; 0 past the last
abbrev pub words_of : List ℕ → Words
words_of words x = get_or words x 0

-- the region words of arrays that lie one after the other, the first from a word on
abbrev pub regions_from : (start : ℕ) → List NamedArray → List ℕ
regions_from start [] = []
regions_from start (a ∷ arrays) = (start * 2 ^ 32 + length a.values) ∷ regions_from (start + length a.values) arrays

-- the region words that a code's root takes, from its first slot on
abbrev pub root_regions : CodeParts → List NamedArray → List ℕ
root_regions code input = map (λ a. get_or (regions_from 0 input) a 0) code.arrays

-- the words of the root's frame: regions in its first slots, and 0 in the others
abbrev pub root_own : CodeParts → List NamedArray → FrameWord → ℕ
root_own code input (Slot slot) = get_or (root_regions code input) slot 0
root_own code input Value = 0

-- the strand with which a run begins
abbrev pub root_strand : CodeParts → List NamedArray → Tree (Frame FrameWord Point) Result
root_strand code input = root_of code (root_own code input)

-- the code's root names arrays of the input
abbrev pub NamesArrays : CodeParts → List NamedArray → Type 0
NamesArrays code input = All (λ a. a < length input) code.arrays
