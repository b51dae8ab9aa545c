-- Trees of the small instance whose branches race, and the laws at its tables.
use Rattle.std.specs.Prelude.{◌≡◌, ℕ, zero, suc, Bool, true, false, List, [], ◌∷◌}
use Rattle.ppm_strands.specs.Tree.{Words, Tree, Strand, Fork, Local}
use Rattle.ppm_strands.specs.Run.{Counts, End, of_capsule, Ends}
use Rattle.ppm_strands.specs.Ahead.{Ahead, Step, OrdersAgree}
use Rattle.ppm_strands.specs.Calm.{Calm}
use Rattle.ppm_strands.specs.Regions.{Regions, listed, IsSeparate, Respects}
use Rattle.ppm_test_laws.specs.Sample.{sample, words_of}
use Rattle.ppm_test_laws.specs.declared.sample.Word.TheVariants as word
use Rattle.ppm_test_laws.specs.declared.sample.Outcome.{Outcome}
use Rattle.ppm_test_laws.specs.declared.sample.Outcome.TheVariants.{Finished}
use Rattle.ppm_test_laws.specs.declared.sample.SmallTree.TheVariants as small
use Rattle.ppm_test_laws.specs.declared.sample.Capsule.{Capsule}

-- the capsules: 0 copies A to B; 1 is over; 2 adds one to C, and then 1; 3 forks 0 and 2; 4 adds one to A, and then 1; 5 is endless;
-- 6 forks 5 and 0; 7 forks 0 and 4
abbrev pub racing : List Capsule
racing = record { from = word.A; to = word.B; plus = 0; asks = 0; opens = small.Over Finished }
    ∷ record { from = word.D; to = word.D; plus = 0; asks = 0; opens = small.Over Finished }
    ∷ record { from = word.C; to = word.C; plus = 1; asks = 0; opens = small.Strand 1 }
    ∷ record { from = word.D; to = word.D; plus = 0; asks = 0; opens = small.Fork 1 0 2 }
    ∷ record { from = word.A; to = word.A; plus = 1; asks = 0; opens = small.Strand 1 }
    ∷ record { from = word.D; to = word.D; plus = 0; asks = 0; opens = small.Strand 5 }
    ∷ record { from = word.D; to = word.D; plus = 0; asks = 0; opens = small.Fork 1 5 0 }
    ∷ record { from = word.D; to = word.D; plus = 0; asks = 0; opens = small.Fork 1 0 4 }
    ∷ []

-- a fork of two strands
abbrev pub fork_of : ℕ → ℕ → Tree ℕ Outcome
fork_of l r = Fork 1 (Strand l) (Strand r)

-- one branch reads A, and the other one writes it
abbrev pub RacesAreNotCalm : Type 0
RacesAreNotCalm = (a : Words) → (Calm (sample racing) (fork_of 0 4) a → ⊥) × (Calm (sample racing) (fork_of 4 0) a → ⊥)

-- races that the depth-first run never comes to: the left branch forks one without end, and then the one that reads A;
-- and a left branch without end beside one that forks the race
abbrev pub RacesBesideNoEndAreNotCalm : Type 0
RacesBesideNoEndAreNotCalm = (a : Words) → (Calm (sample racing) (fork_of 6 4) a → ⊥) × (Calm (sample racing) (fork_of 5 7) a → ⊥)

-- and these trees have no end
abbrev pub NoEndBeside : Type 0
NoEndBeside = (a : Words) (e : End Outcome) → (Ends (sample racing) (fork_of 6 4) a e → ⊥) × (Ends (sample racing) (fork_of 5 7) a e → ⊥)

-- one, two, three and four in the words
abbrev pub start : Words
start = words_of (1 ∷ 2 ∷ 3 ∷ 4 ∷ [])

-- the fork of l and r once its right branch has made its capsule first, and the words and the counts of that
abbrev pub right_first : ℕ → ℕ → Tree ℕ Outcome
right_first l r = Fork 1 (Strand l) ((sample racing).next r start)

abbrev pub words_then : ℕ → Words
words_then r = (sample racing).after r start

abbrev pub counts_then : ℕ → Counts
counts_then r = of_capsule (sample racing) r start

-- that capsule is a step of a strand, and it is not ahead of the order
abbrev pub LosesTheLaw : ℕ → ℕ → Type 0
LosesTheLaw l r = Step (sample racing) (counts_then r) (fork_of l r) start (right_first l r) (words_then r)
    × (Ahead (sample racing) (counts_then r) (fork_of l r) start (right_first l r) (words_then r) → ⊥)

-- the law is lost where the right branch writes what the left one reads, and where it reads what the left one writes
abbrev pub RacesLoseTheLaw : Type 0
RacesLoseTheLaw = LosesTheLaw 0 4 × LosesTheLaw 4 0

-- the tree ends with v in B
abbrev pub EndsWithInB : Tree ℕ Outcome → Words → ℕ → Type 0
EndsWithInB t a v = (e : End Outcome) × Ends (sample racing) t a e × (e.words 1 ≡ v)

-- for depth first B ends with the one value, and with the other after that capsule
abbrev pub RacesEndOtherwise : Type 0
RacesEndOtherwise = (EndsWithInB (fork_of 0 4) start 1 × EndsWithInB (right_first 0 4) (words_then 4) 2)
    × (EndsWithInB (fork_of 4 0) start 2 × EndsWithInB (right_first 4 0) (words_then 0) 1)

-- the strand whose capsule forks 0 and 2
abbrev pub forking : Tree ℕ Outcome
forking = Strand 3

-- where the right branch adds to a word of its own, the fork is calm, and so is the strand that makes it
abbrev pub ApartIsCalm : Type 0
ApartIsCalm = (a : Words) → Calm (sample racing) (fork_of 0 2) a × Calm (sample racing) forking a

-- the capsules of both
abbrev pub is_apart : ℕ → Bool
is_apart zero = true
is_apart (suc zero) = true
is_apart (suc (suc zero)) = true
is_apart (suc (suc (suc zero))) = true
is_apart f = false

-- the words that they own: A and B, D, C and D, all four
abbrev pub apart_owns : ℕ → List ℕ
apart_owns zero = 0 ∷ 1 ∷ []
apart_owns (suc zero) = 3 ∷ []
apart_owns (suc (suc zero)) = 2 ∷ 3 ∷ []
apart_owns f = 0 ∷ 1 ∷ 2 ∷ 3 ∷ []

-- and those that they may write: A is but read
abbrev pub apart_writes : ℕ → List ℕ
apart_writes zero = 1 ∷ []
apart_writes (suc zero) = 3 ∷ []
apart_writes (suc (suc zero)) = 2 ∷ 3 ∷ []
apart_writes f = 1 ∷ 2 ∷ 3 ∷ []

-- their regions
abbrev pub apart_regions : Regions ℕ
apart_regions = listed is_apart apart_owns apart_writes

-- the code respects them, and both trees are separate
abbrev pub ApartByRegions : Type 0
ApartByRegions = Respects apart_regions (sample racing) × IsSeparate apart_regions (fork_of 0 2) × IsSeparate apart_regions forking

-- what a capsule of any table does depends on the word that it reads
abbrev pub SamplesAreLocal : Type 0
SamplesAreLocal = (table : List Capsule) → Local (sample table)

-- the law of any order, of the code of any table
abbrev pub TablesRunInAnyOrder : Type 0
TablesRunInAnyOrder = (table : List Capsule) → OrdersAgree (sample table)
