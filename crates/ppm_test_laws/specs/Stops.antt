-- Small capsules over the four words, with one register that a stop loses.
use Rattle.std.specs.Prelude.{◌≡◌, ℕ, ◌+◌, ◌%◌, List, [], ◌∷◌}
use Rattle.ppm_strands.specs.Tree.{Words}
use Rattle.ppm_strands.specs.Capsule.{Capsule, Reads, Writes, Ends, Whole, whole}
use Rattle.ppm_strands.specs.Equalities.{numbers}
use Rattle.ppm_strands.specs.Stopped.{IsConflictFree, at, steps, run_with_stops}
use Rattle.ppm_test_laws.specs.Sample.{address, words_of}
use Rattle.ppm_test_laws.specs.declared.stops.Ask.{Ask}
use Rattle.ppm_test_laws.specs.declared.stops.Ask.TheVariants.{Load, Store, Add}
use Rattle.ppm_test_laws.specs.declared.stops.Run.{Run}

-- what is left of a capsule, with the register as it is: it ends with the register
abbrev pub capsule_of : List Ask → ℕ → Capsule ℕ ℕ
capsule_of [] r = Ends r
capsule_of (Load w ∷ rest) r = Reads (address w) (λ v. capsule_of rest v)
capsule_of (Store w ∷ rest) r = Writes (address w) r (capsule_of rest r)
capsule_of (Add n ∷ rest) r = capsule_of rest ((r + n) % 256)

-- the end of a run and the words then
abbrev pub seen_of : Run → Whole ℕ ℕ
seen_of run = record { end = run.end; words = words_of run.words }

-- the words after so many word steps
abbrev pub words_after : ℕ → List Ask → ℕ → List ℕ → Words
words_after n asks r ws = (steps numbers n (at (capsule_of asks r) (words_of ws))).words

-- a run with stops, each time from the first instruction with the register at 0
abbrev pub with_stops : List Ask → List ℕ → List ℕ → Whole ℕ ℕ
with_stops asks stops ws = run_with_stops numbers stops (capsule_of asks 0) (words_of ws)

-- a run without stops
abbrev pub without_stops : List Ask → List ℕ → Whole ℕ ℕ
without_stops asks ws = whole numbers (capsule_of asks 0) (words_of ws)

-- the capsule has no conflict from these words
abbrev pub IsFree : List Ask → List ℕ → Type 0
IsFree asks ws = IsConflictFree numbers (capsule_of asks 0) (words_of ws)

-- then a run with stops comes to what a run without comes to
abbrev pub StopsDoNotShow : Type 0
StopsDoNotShow = (asks : List Ask) (stops ws : List ℕ) → IsFree asks ws → with_stops asks stops ws ≡ without_stops asks ws
