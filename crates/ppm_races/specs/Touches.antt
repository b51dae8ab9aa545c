-- The array words that a capsule touches, as it is run.
use Rattle.std.specs.Prelude.{◌<◌, ℕ, zero, suc, ◌+◌, ◌-◌, max, Bool, true, false, List, [], ◌∷◌, ◌++◌, replicate, slice_set}
use Rattle.ppm_strands.specs.Capsule.{Memory, store}
use Rattle.ppm_code.specs.Acts.{does}
use Rattle.ppm_code.specs.declared.act.Act.{Act}
use Rattle.ppm_code.specs.declared.act.Act.TheVariants.{Sets, Passes, Jumps, Steps, Ends as Stops}
use Rattle.ppm_code.specs.declared.instr.Instr.{Instr}
use Rattle.ppm_code.specs.declared.act.Step.{Step}
use Rattle.ppm_code.specs.declared.act.Step.TheVariants.{Loads, Stores, Asks}
use Rattle.ppm_code.specs.declared.location.Location.{Location}
use Rattle.ppm_code.specs.declared.location.Location.TheVariants.{Frame, New, Array}
use Rattle.ppm_code.specs.Locations.{Where, code_locations, location_of}
use Rattle.ppm_races.specs.declared.touch.Touch.{Touch}

-- what is noted of a location, and of a step
abbrev pub touches_at : Location → (writes : Bool) → (at : ℕ) → List Touch
touches_at (Frame own) writes at = []
touches_at (New offset) writes at = []
touches_at (Array word) writes at = record { word = word; writes = writes; at = at } ∷ []

-- an ask touches no array word
abbrev pub touches_by : Step → (at : ℕ) → List Touch
touches_by (Loads location to) at = touches_at location false at
touches_by (Stores location word) at = touches_at location true at
touches_by (Asks count) at = []

-- all words of a log, and those that are written
abbrev pub words_in : List Touch → List ℕ
words_in [] = []
words_in (t ∷ log) = t.word ∷ words_in log

-- a word that is written, in front of others
abbrev pub with_written : Bool → ℕ → List ℕ → List ℕ
with_written false x xs = xs
with_written true x xs = x ∷ xs

-- the words that a log writes
abbrev pub written_in : List Touch → List ℕ
written_in [] = []
written_in (t ∷ log) = with_written t.writes t.word (written_in log)

-- they are array words
abbrev pub AreThere : ℕ → List Touch → Type 0
AreThere array_words [] = Unit {0}
AreThere array_words (t ∷ log) = (t.word < array_words) × AreThere array_words log

-- the touches after a step of instruction `here`, where `go` is how it goes on at an instruction with the registers and the memory then
abbrev pub after_step : (go : ℕ → List ℕ → Memory Where → List Touch) → (next : ℕ) → Step → List ℕ → Memory Where → List Touch
after_step go next (Loads l d) g m = go next (slice_set g d.index (m (location_of l))) m
after_step go next (Stores l v) g m = go next g (store code_locations m (location_of l) v)
after_step go next (Asks n) g m = go next g m

-- the touches of an act, with its own touch first; a branch that does not lead forward goes on at the next instruction
abbrev pub after_act : (go : ℕ → List ℕ → Memory Where → List Touch) → (here : ℕ) → Act → List ℕ → Memory Where → List Touch
after_act go here (Sets d v) g m = go (here + 1) (slice_set g d.index v) m
after_act go here Passes g m = go (here + 1) g m
after_act go here (Jumps t) g m = go (max t (here + 1)) g m
after_act go here (Steps s) g m = touches_by s here ++ after_step go (here + 1) s g m
after_act go here (Stops e) g m = []

-- the touches of instructions from the one past the next `skip` on, in their order; `here` is the number of the first of these
abbrev pub touches_from : (array_words here skip : ℕ) → List Instr → List ℕ → Memory Where → List Touch
touches_from array_words here skip [] g m = []
touches_from array_words here (suc skip) (i ∷ is) g m = touches_from array_words (here + 1) skip is g m
touches_from array_words here zero (i ∷ is) g m =
    after_act (λ t h n. touches_from array_words (here + 1) (t - (here + 1)) is h n) here (does array_words i g) g m

-- the touches of a capsule's instructions from a memory, from the first one on, with 0 in all registers
abbrev pub touches_of : (array_words : ℕ) → List Instr → Memory Where → List Touch
touches_of array_words is m = touches_from array_words 0 0 is (replicate 64 0) m
