-- Runs of equal words: each list of words is that of its longest runs, and of no others.
use Rattle.std.specs.Prelude.{◌≡◌, ◌≢◌, ℕ, ◌+◌, ◌≤◌, ◌==◌, if◌then◌else◌, List, [], ◌∷◌, replicate}
use Rattle.std.specs.List.{flat_map}
use Rattle.ppm_saved.specs.declared.run.Run.{Run}

-- so many times a word
abbrev pub run : (word times : ℕ) → Run
run word times = record { word = word; times = times }

-- a word more in front of some runs: the first is longer by it, or it begins one
abbrev pub in_front : ℕ → List Run → List Run
in_front w [] = run w 1 ∷ []
in_front w (r ∷ rs) = if r.word == w then run w (1 + r.times) ∷ rs else run w 1 ∷ r ∷ rs

-- the longest runs of words
abbrev pub runs_of : List ℕ → List Run
runs_of [] = []
runs_of (w ∷ ws) = in_front w (runs_of ws)

-- the words of runs
abbrev pub words_of : List Run → List ℕ
words_of rs = flat_map (λ r. replicate r.times r.word) rs

-- runs that cannot be longer: each has a word at least, and the next has another word
abbrev pub AreLongest : List Run → Type 0
AreLongest [] = Unit {0}
AreLongest (r ∷ []) = 1 ≤ r.times
AreLongest (r ∷ q ∷ rs) = (1 ≤ r.times) × (r.word ≢ q.word) × AreLongest (q ∷ rs)

-- the runs of words are the longest, and the longest runs of these words are no others
pub record RunsAreLongest : Type 0 where
  pub words : (ws : List ℕ) → words_of (runs_of ws) ≡ ws
  pub longest : (ws : List ℕ) → AreLongest (runs_of ws)
  pub one : (rs : List Run) → AreLongest rs → runs_of (words_of rs) ≡ rs
