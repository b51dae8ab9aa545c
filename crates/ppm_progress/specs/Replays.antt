-- The replay of a schedule comes to its end, where so many acts may be made: of one without hard faults, and by places of any.
use Rattle.std.specs.Prelude.{◌≡◌, ◌≢◌, ◌≤◌, ◌<◌, ℕ, false, List}
use Rattle.std.specs.List.{AllByRecursion}
use Rattle.ppm_strands.specs.Calm.{Calm}
use Rattle.ppm_strands.specs.Run.{End, Ends}
use Rattle.ppm_words.specs.declared.named_array.NamedArray.{NamedArray}
use Rattle.ppm_cells.specs.declared.shape.Shape.{Shape}
use Rattle.ppm_cells.specs.declared.shape.Takeover.TheVariants.{ByPlaces}
use Rattle.ppm_code.specs.Strands.{Result}
use Rattle.ppm_code.specs.declared.code.CodeParts.{CodeParts}
use Rattle.ppm_layout.specs.Correct.{Opens}
use Rattle.ppm_layout.specs.Root.{root_strand}
use Rattle.ppm_layout.specs.declared.images.Image.{Image}
use Rattle.ppm_plan.specs.Faults.{acts_of}
use Rattle.ppm_plan.specs.Forms.{schedule_form}
use Rattle.ppm_plan.specs.Refusals.{is_killed}
use Rattle.ppm_plan.specs.Schedules.{IsActAmong}
use Rattle.ppm_plan.specs.declared.schedule_item.ScheduleItem.{ScheduleItem}
use Rattle.ppm_choice.specs.ScheduleLaws.{finish_from}
use Rattle.ppm_frames.specs.Views.{view}
use Rattle.ppm_frames.specs.Seen.{arrays_at}
use Rattle.ppm_kept.specs.Running.{IsFair, strands}
use Rattle.ppm_progress.specs.Enough.{IsNoHardAct, enough_acts, enough_acts_by_places}

-- From an image of a sound code, with either takeover: if the depth-first run of the root ends, each schedule without hard faults, whose acts name
-- what is there, ends with so many acts: the finish word isn't 0 then.
abbrev pub ReplaysEnd : Type 0
ReplaysEnd = (code : CodeParts) (input : List NamedArray) (s : Shape) (keeper : ℕ) (image : Image)
    → IsFair code → Opens code input s keeper image
    → Calm (strands s code) (root_strand code input) (arrays_at (view s image.words))
    → (items : List ScheduleItem) → AllByRecursion (λ item. IsActAmong s.processors item.act) items → AllByRecursion (λ item. IsNoHardAct item.act) items
    → (end : End Result) → Ends (strands s code) (root_strand code input) (arrays_at (view s image.words)) end
    → (turns : ℕ) → enough_acts (acts_of items) s.processors end.counts.capsules ≤ turns
    → finish_from s code image.words items turns ≢ 0

-- By places each schedule ends with so many acts, hard faults among its own, if it spares some processor. `ppm_takeover` shows it.
abbrev pub ReplaysEndByPlaces : Type 0
ReplaysEndByPlaces = (code : CodeParts) (input : List NamedArray) (s : Shape) (keeper : ℕ) (image : Image)
    → s.takeover ≡ ByPlaces → IsFair code → Opens code input s keeper image
    → Calm (strands s code) (root_strand code input) (arrays_at (view s image.words))
    → (items : List ScheduleItem) → AllByRecursion (λ item. IsActAmong s.processors item.act) items
    → (spared : ℕ) → spared < s.processors → is_killed schedule_form spared items ≡ false
    → (end : End Result) → Ends (strands s code) (root_strand code input) (arrays_at (view s image.words)) end
    → (turns : ℕ) → enough_acts_by_places (acts_of items) s.processors end.counts.capsules ≤ turns
    → finish_from s code image.words items turns ≢ 0
