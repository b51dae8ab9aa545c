-- The depth-first run of a code from an input: its outcome and its counts, or that it takes more capsules.
use Rattle.std.specs.Prelude.{◌≡◌, ◌⊎◌, ◌<◌, ◌≤◌, ℕ, zero, suc, ◌+◌, ℤ, List, [], ◌∷◌, length}
use Rattle.ppm_strands.specs.Tree.{Words, Tree, Code}
use Rattle.ppm_strands.specs.Run.{Counts, End, Ends}
use Rattle.ppm_depth.specs.Order.{StepsInOrder, IsAtWork}
use Rattle.ppm_strands.specs.Strand.{Frame, code_of}
use Rattle.ppm_words.specs.TwosComplement.{value_of}
use Rattle.ppm_words.specs.declared.named_array.NamedArray.{NamedArray}
use Rattle.ppm_words.specs.declared.outcome.Outcome.{Outcome}
use Rattle.ppm_words.specs.declared.outcome.Outcome.TheVariants.{Ended, Trapped as TrappedAt, NotWithin}
use Rattle.ppm_code.specs.declared.code.CodeParts.{CodeParts}
use Rattle.ppm_code.specs.declared.location.FrameWord.{FrameWord}
use Rattle.ppm_code.specs.Locations.{code_locations}
use Rattle.ppm_code.specs.Sizes.{frame_size}
use Rattle.ppm_code.specs.Strands.{Point, Result, Gave, Trapped, table_of}
use Rattle.ppm_code.specs.Inputs.{words_in}
use Rattle.ppm_depth.specs.Start.{words_of, root_strand}
use Rattle.ppm_depth.specs.declared.depth.DepthRun.{DepthRun}

-- what the capsules of a code do, with the words of the input's arrays as those that all strands share
abbrev pub strands_of : CodeParts → List NamedArray → Code (Frame FrameWord Point) Result
strands_of code input = code_of code_locations (table_of code (length (words_in input)))

-- so many values, those that words have from an address on
abbrev pub values_at : Words → (start count : ℕ) → List ℤ
values_at words start zero = []
values_at words start (suc count) = value_of (words start) ∷ values_at words (start + 1) count

-- arrays of the same names and lengths, with such values, one after the other
abbrev pub arrays_at : Words → (start : ℕ) → List NamedArray → List NamedArray
arrays_at words start [] = []
arrays_at words start (a ∷ arrays) =
    record { name = a.name; values = values_at words start (length a.values) } ∷ arrays_at words (start + length a.values) arrays

-- what is said of the end of a run: the arrays of the input with their words then, or the trap
abbrev pub said_of : List NamedArray → Words → Result → Outcome
said_of input words (Gave value) = Ended (arrays_at words 0 input)
said_of input words (Trapped trap line) = TrappedAt trap line

-- the words that a run of a code takes of the pools: the root's frame, and the blocks that its capsules ask for
abbrev pub pool_words : CodeParts → Counts → ℕ
pool_words code k = frame_size code code.root + k.block_words

module _ (code : CodeParts) (input : List NamedArray) where
  -- the strands of the code, run depth first from the input, come to an end
  abbrev pub ComesTo : End Result → Type 0
  ComesTo e = Ends (strands_of code input) (root_strand code input) (words_of (words_in input)) e

  -- the first steps of that run count this, and lead to a tree with words
  abbrev pub BeginsWith : Counts → Tree (Frame FrameWord Point) Result → Words → Type 0
  BeginsWith k t words = StepsInOrder (strands_of code input) k (root_strand code input) (words_of (words_in input)) t words

  -- the counts of an answer
  pub record HasCounts (k : Counts) (r : DepthRun) : Type 0 where
    pub capsules : r.capsules ≡ k.capsules
    pub forks : r.forks ≡ k.forks
    pub pool_words : r.pool_words ≡ pool_words code k

  -- the run comes to its end within so many capsules
  pub record IsWithin (limit : ℕ) (r : DepthRun) : Type 0 where
    pub end : End Result
    pub comes : ComesTo end
    pub within : end.counts.capsules ≤ limit
    pub outcome : r.outcome ≡ said_of input end.words end.outcome
    pub counts : HasCounts end.counts r

  -- it takes more capsules than that: no end has fewer, and the counts are those of the first so many, after which a capsule is next
  pub record IsNotWithin (limit : ℕ) (r : DepthRun) : Type 0 where
    pub outcome : r.outcome ≡ NotWithin
    pub more : (end : End Result) → ComesTo end → limit < end.counts.capsules
    pub front : Counts
    pub left : Tree (Frame FrameWord Point) Result
    pub words : Words
    pub begins : BeginsWith front left words
    pub all : front.capsules ≡ limit
    pub next : IsAtWork left
    pub counts : HasCounts front r

  -- the answer of a run that may take so many capsules
  abbrev pub IsDepthRun : (limit : ℕ) → DepthRun → Type 0
  IsDepthRun limit r = IsWithin limit r ⊎ IsNotWithin limit r

-- a code and an input have a run within so many capsules
pub record HasRunWithin (code : CodeParts) (input : List NamedArray) (limit : ℕ) : Type 0 where
  pub run : DepthRun
  pub is : IsDepthRun code input limit run

-- each code has one with each input and each number
abbrev pub RunsAreThere : Type 0
RunsAreThere = (code : CodeParts) (input : List NamedArray) (limit : ℕ) → HasRunWithin code input limit
