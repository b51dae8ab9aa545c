-- What the sweep of a code finds under its takeovers: the counts, or why it stops.
use Rattle.std.specs.Prelude.{◌≡◌, ℕ, Bool, true, false, List, Result, Ok, Err, IfOk}
use Rattle.ppm_words.specs.declared.named_array.NamedArray.{NamedArray}
use Rattle.ppm_words.specs.declared.no_memory.NoMemory.{NoMemory as Refused}
use Rattle.ppm_words.specs.declared.outcome.Outcome.{Outcome}
use Rattle.ppm_words.specs.declared.outcome.Outcome.TheVariants as outcome
use Rattle.ppm_cells.specs.declared.shape.Takeover.{Takeover}
use Rattle.ppm_core.specs.Machine.{seen}
use Rattle.ppm_sweep.specs.declared.found.Differing.{Differing}
use Rattle.ppm_sweep.specs.declared.found.Stop.{Stop}
use Rattle.ppm_sweep.specs.declared.found.Stop.TheVariants as stops
use Rattle.ppm_sweep.specs.declared.found.Tally.{Tally as SweepTally}
use Rattle.ppm_sweep.specs.Text.{schedule_text}
use Rattle.ppm_answers.specs.declared.answer.Answer.{Answer}
use Rattle.ppm_answers.specs.declared.answer.Answer.TheVariants as answers
use Rattle.ppm_answers.specs.declared.sweep.Difference.{Difference}
use Rattle.ppm_answers.specs.declared.sweep.Sweep.{Sweep}
use Rattle.ppm_loading.specs.Says.{IsTheOne}
use Rattle.ppm_sweep_command.specs.declared.sweeping.Halt.{Halt}
use Rattle.ppm_sweep_command.specs.declared.sweeping.Halt.TheVariants.{Differs, NoMemory}
use Rattle.ppm_outcomes.specs.Replays.{IsSaid, tally_of, with_tally}

-- a depth-first run takes more capsules than it may
abbrev pub is_not_within : Outcome → Bool
is_not_within (outcome.Ended arrays) = false
is_not_within (outcome.Trapped trap line) = false
is_not_within outcome.NotWithin = true

-- it stops at the first that differs, or because memory is wanting
abbrev pub HaltsAt : (IsFirst : Difference → Type 0) → Halt → Type 0
HaltsAt IsFirst (Differs d) = IsFirst d
HaltsAt IsFirst NoMemory = Unit {0}

-- all agree, with these counts, or it stops
abbrev pub Finds : (All : Sweep → Type 0) → (IsFirst : Difference → Type 0) → Result Sweep Halt → Type 0
Finds All IsFirst (Ok counts) = All counts
Finds All IsFirst (Err halt) = HaltsAt IsFirst halt

-- the answer of a sweep that stops
abbrev pub IsAnswerOf : Halt → Result Answer Refused → Type 0
IsAnswerOf (Differs d) answer = answer ≡ Ok (answers.Differs d)
IsAnswerOf NoMemory answer = IfOk answer (λ a. ⊥)

-- the counts of a sweep, as an answer tells them
abbrev pub counts_in : SweepTally → Sweep
counts_in t = record { runs = t.runs; met = t.met; acts = t.acts; left = t.left }

-- A replay of at most so many acts under a takeover that came to something else, as an answer tells it: its schedule, and what its words say.
pub record IsTold (t : Takeover) (turns : ℕ) (input : List NamedArray) (d : Differing) (told : Difference) : Type 0 where
  pub takeover : told.takeover ≡ t
  pub schedule : told.schedule ≡ schedule_text d.items.items
  pub came : IsTheOne (IsSaid turns (seen d.machine) input) (with_tally told.came (tally_of (seen d.machine)))

-- why a sweep under a takeover stops, as an answer tells it
abbrev pub IsHaltOf : Takeover → (turns : ℕ) → List NamedArray → Stop → Halt → Type 0
IsHaltOf t turns input (stops.Differs d) (Differs told) = IsTold t turns input d told
IsHaltOf t turns input (stops.Differs d) NoMemory = Unit {0}
IsHaltOf t turns input stops.NoMemory (Differs told) = ⊥
IsHaltOf t turns input stops.NoMemory NoMemory = Unit {0}

-- where it stops at a replay, this holds of that
abbrev pub IfDiffers : Stop → (Differing → Type 0) → Type 0
IfDiffers (stops.Differs d) Holds = Holds d
IfDiffers stops.NoMemory Holds = Unit {0}
