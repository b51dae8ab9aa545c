-- Over legs: the replay of a schedule by fresh processors comes to its end, where so many acts may be made.
use Rattle.std.specs.Prelude.{◌≡◌, ◌≢◌, ◌≤◌, ◌<◌, ◌+◌, ◌*◌, ◌^◌, ℕ, false, List, length}
use Rattle.std.specs.List.{AllByRecursion}
use Rattle.ppm_strands.specs.Calm.{Calm}
use Rattle.ppm_strands.specs.Run.{End, Ends}
use Rattle.ppm_words.specs.declared.named_array.NamedArray.{NamedArray}
use Rattle.ppm_cells.specs.declared.shape.Shape.{Shape}
use Rattle.ppm_cells.specs.declared.shape.Takeover.TheVariants.{ByPlaces}
use Rattle.ppm_code.specs.Strands.{Result}
use Rattle.ppm_code.specs.declared.code.CodeParts.{CodeParts}
use Rattle.ppm_layout.specs.Correct.{Opens}
use Rattle.ppm_layout.specs.Root.{root_strand}
use Rattle.ppm_layout.specs.declared.images.Image.{Image}
use Rattle.ppm_plan.specs.Faults.{acts_of}
use Rattle.ppm_plan.specs.Forms.{schedule_form}
use Rattle.ppm_plan.specs.Refusals.{is_killed}
use Rattle.ppm_plan.specs.Schedules.{IsActAmong}
use Rattle.ppm_plan.specs.declared.schedule_item.ScheduledAct.{ScheduledAct}
use Rattle.ppm_plan.specs.declared.schedule_item.ScheduleItem.{ScheduleItem}
use Rattle.ppm_choice.specs.ScheduleLaws.{finish_from}
use Rattle.ppm_frames.specs.Views.{view}
use Rattle.ppm_frames.specs.Seen.{arrays_at}
use Rattle.ppm_kept.specs.Running.{IsFair, strands}
use Rattle.ppm_runs.specs.Legs.{Leg, words_then, AreLegs, strikes_then}
use Rattle.ppm_progress.specs.Enough.{faults_of, lap_rounds}

-- So many laps are enough after legs, for a replay with so many faults in its list: 218 for each capsule of the depth-first run, 171 for each fault of
-- the list and for each that struck a row in a leg before, 172 for each fresh processor of each leg, and 7; and then as many as the tags of all holder
-- words may come to: a leg raises each by one for each processor at most, and words that come back raise each by one.
abbrev pub laps_over_legs : (faults processors capsules strikes legs : ℕ) → ℕ
laps_over_legs faults processors capsules strikes legs =
    218 * capsules + 171 * (strikes + faults) + 172 * (processors * legs) + 7 + processors * ((processors + 1) * legs + processors)

-- So many acts are enough then: those of the list, and the rounds of each lap. Without legs these are as many as from an image.
abbrev pub enough_acts_over_legs : (acts : List ScheduledAct) (processors capsules strikes legs : ℕ) → ℕ
enough_acts_over_legs acts processors capsules strikes legs =
    length acts + lap_rounds processors * processors * laps_over_legs (faults_of acts) processors capsules strikes legs

-- By places, from the words with which fresh processors go on after legs: each schedule ends with so many acts, hard faults among its own, if it spares
-- some processor. There are fewer legs than holder words have tags.
abbrev pub LegsReplaysEndByPlaces : Type 0
LegsReplaysEndByPlaces = (code : CodeParts) (input : List NamedArray) (s : Shape) (keeper : ℕ) (image : Image)
    → s.takeover ≡ ByPlaces → IsFair code → Opens code input s keeper image
    → Calm (strands s code) (root_strand code input) (arrays_at (view s image.words))
    → (legs : List Leg) → AreLegs s code image.words legs → (s.processors + 1) * (length legs + 1) < 2 ^ 58
    → (items : List ScheduleItem) → AllByRecursion (λ item. IsActAmong s.processors item.act) items
    → (spared : ℕ) → spared < s.processors → is_killed schedule_form spared items ≡ false
    → (end : End Result) → Ends (strands s code) (root_strand code input) (arrays_at (view s image.words)) end
    → (turns : ℕ)
    → enough_acts_over_legs (acts_of items) s.processors end.counts.capsules (strikes_then s code image.words legs) (length legs) ≤ turns
    → finish_from s code (words_then s code image.words legs) items turns ≢ 0
