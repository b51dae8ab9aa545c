-- Schedules that are drawn: steps, each of one of so many strands, by words of Xoshiro256++.
use Rattle.std.specs.Prelude.{◌≡◌, ◌<◌, ℕ, zero, suc, ◌+◌, ◌%◌, List, [], ◌∷◌, Option, Some, None, IsSome}
use Rattle.ppm_words.specs.declared.named_array.NamedArray.{NamedArray}
use Rattle.ppm_plan.specs.declared.strand_item.StrandAct.TheVariants.{Step}
use Rattle.ppm_plan.specs.declared.strand_item.StrandItem.{StrandItem}
use Rattle.ppm_plan.specs.Draws.{seeded, word_of, after_word}
use Rattle.ppm_racy.specs.declared.code.RacyParts.{RacyParts}
use Rattle.ppm_strand_runs.specs.declared.drawn.DrawnRun.{DrawnRun}
use Rattle.ppm_strand_runs.specs.declared.run.StrandRun.{StrandRun}
use Rattle.ppm_strand_runs.specs.Run.{IsRunOf}

-- one step of a strand
abbrev pub step_of : ℕ → StrandItem
step_of c = record { act = Step c; times = 1 }

-- so many steps, each of the strand that a word says
abbrev pub steps_drawn : (strands : ℕ) → (count : ℕ) → (s : List ℕ) → List StrandItem
steps_drawn strands zero s = []
steps_drawn strands (suc count) s = step_of (word_of s % strands) ∷ steps_drawn strands count (after_word s)

module _ (code : RacyParts) (input : List NamedArray) (seed strands steps turns : ℕ) where
  -- the schedule with a number
  abbrev pub schedule_drawn : ℕ → List StrandItem
  schedule_drawn number = steps_drawn strands steps (seeded (seed + number))

  -- in its run nothing falls
  pub record HasStood (number : ℕ) : Type 0 where
    pub run : StrandRun
    pub is : IsRunOf code input (schedule_drawn number) turns run
    pub stood : run.fall ≡ None

  -- what is said of so many schedules: nothing falls in their runs, or this is the first run in which something does
  abbrev pub TellsDrawn : (runs : ℕ) → Option DrawnRun → Type 0
  TellsDrawn runs None = (k : ℕ) → k < runs → HasStood k
  TellsDrawn runs (Some d) = (d.number < runs) × IsRunOf code input (schedule_drawn d.number) turns d.run × IsSome d.run.fall
      × ((k : ℕ) → k < d.number → HasStood k)
