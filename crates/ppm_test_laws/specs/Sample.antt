-- The code of the small instance: each capsule adds to one word and writes another.
use Rattle.std.specs.Prelude.{ℕ, ◌+◌, ◌*◌, ◌%◌, ◌≤◌, Bool, true, false, List, [], ◌∷◌, get_or, Option}
use Rattle.ppm_strands.specs.Tree.{Words, Tree, Strand, Call, Fork, Over, forks_in, Code}
use Rattle.ppm_strands.specs.Run as model
use Rattle.ppm_strands.specs.Ahead.{put}
use Rattle.ppm_test_laws.specs.declared.sample.Word.{Word}
use Rattle.ppm_test_laws.specs.declared.sample.Word.TheVariants as word
use Rattle.ppm_test_laws.specs.declared.sample.Outcome.{Outcome}
use Rattle.ppm_test_laws.specs.declared.sample.Outcome.TheVariants.{Finished, Trapped}
use Rattle.ppm_test_laws.specs.declared.sample.SmallTree.{SmallTree}
use Rattle.ppm_test_laws.specs.declared.sample.SmallTree.TheVariants as small
use Rattle.ppm_test_laws.specs.declared.sample.Capsule.{Capsule}
use Rattle.ppm_test_laws.specs.declared.sample.Counts.{Counts}
use Rattle.ppm_test_laws.specs.declared.sample.End.{End}

-- the address of a word
abbrev pub address : Word → ℕ
address word.A = 0
address word.B = 1
address word.C = 2
address word.D = 3

-- four words by address; all others are 0
abbrev pub words_of : List ℕ → Words
words_of ws x = get_or ws x 0

-- whether an outcome is a trap
abbrev pub is_trap : Outcome → Bool
is_trap Finished = false
is_trap (Trapped n) = true

-- the tree of strands
abbrev pub tree_of : SmallTree → Tree ℕ Outcome
tree_of (small.Strand f) = Strand f
tree_of (small.Call g f) = Call g (Strand f)
tree_of (small.Fork g l r) = Fork g (Strand l) (Strand r)
tree_of (small.Over o) = Over o

-- what a frame past the end of the table does: it traps with 255
abbrev pub stray : Capsule
stray = record { from = word.A; to = word.A; plus = 0; asks = 0; opens = small.Over (Trapped 255) }

-- the capsule of a frame
abbrev pub capsule_at : List Capsule → ℕ → Capsule
capsule_at table f = get_or table f stray

-- the words after a capsule
abbrev pub after_capsule : Capsule → Words → Words
after_capsule p a = put a (address p.to) ((a (address p.from) + p.plus) % 256)

-- how a frame goes on: over by a trap, else by its own capsule
abbrev pub resumed_tree : ℕ → Outcome → Tree ℕ Outcome
resumed_tree g Finished = Strand g
resumed_tree g (Trapped n) = Over (Trapped n)

-- the code of a table of capsules
abbrev pub sample : List Capsule → Code ℕ Outcome
sample table = record {
  next = λ f a. tree_of (capsule_at table f).opens;
  after = λ f a. after_capsule (capsule_at table f) a;
  reads = λ f a. address (capsule_at table f).from ∷ [];
  writes = λ f a. address (capsule_at table f).to ∷ [];
  asks = λ f a. (capsule_at table f).asks;
  resume = resumed_tree;
  kept = λ g o. g;
  is_trap = is_trap;
}

-- the counts of one capsule
abbrev pub counts_at : Capsule → model.Counts
counts_at p = record { capsules = 1; forks = forks_in (tree_of p.opens); block_words = p.asks }

-- the counts of a run
abbrev pub counts_of : Counts → model.Counts
counts_of k = record { capsules = k.capsules; forks = k.forks; block_words = k.block_words }

-- the end of a run
abbrev pub end_of : End → model.End Outcome
end_of e = record { outcome = e.outcome; words = words_of e.words; counts = counts_of e.counts }

-- n capsules and forks at most, and what they may ask for
pub record AreAtMost (n : ℕ) (k : Counts) : Type 0 where
  pub capsules : k.capsules ≤ n
  pub forks : k.forks ≤ n
  pub block_words : k.block_words ≤ 255 * n

-- where the one has m at most and the other n, this has m + n at most
abbrev pub IsBoundOfBoth : Counts → Counts → Counts → Type 0
IsBoundOfBoth j k both = (m n : ℕ) → AreAtMost m j → AreAtMost n k → AreAtMost (m + n) both

-- the depth-first run of a tree over a table
abbrev pub run_of : List Capsule → ℕ → SmallTree → List ℕ → Option (model.End Outcome)
run_of table bound t ws = model.run (sample table) bound (tree_of t) (words_of ws)
