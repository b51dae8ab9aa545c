-- What the words of a machine say after a schedule.
use Rattle.std.specs.Prelude.{◌≡◌, ℕ, ℤ, List, length, map}
use Rattle.std.specs.List.{range_with_len}
use Rattle.ppm_words.specs.TwosComplement.{value_of}
use Rattle.ppm_words.specs.declared.named_array.NamedArray.{NamedArray}
use Rattle.ppm_cells.specs.Ending.{ending_of}
use Rattle.ppm_code.specs.declared.code.CodeParts.{CodeParts}
use Rattle.ppm_core.specs.Situation.{Situation, array_in, finish_in}
use Rattle.ppm_plan.specs.Forms.{schedule_form}
use Rattle.ppm_plan.specs.Refusals.{IsKeeper}
use Rattle.ppm_plan.specs.declared.schedule_item.ScheduleItem.{ScheduleItem}
use Rattle.ppm_following.specs.Followed.{followed}
use Rattle.ppm_loading.specs.declared.loading.Sizes.{Sizes}
use Rattle.ppm_loading.specs.Loading.{OpensRun}
use Rattle.ppm_calls.specs.declared.following.Followed.{Followed}

-- the values of all arrays of a machine
abbrev pub values_in : Situation → List (List ℤ)
values_in m = map (λ number. map value_of (array_in m number)) (range_with_len 0 (length m.array_lengths))

-- from the machine with which a run of the code on the input begins, its root with the schedule's keeper, the schedule was followed for at most so
-- many acts; and this is what the words say then
pub record HasFollowed (sizes : Sizes) (code : CodeParts) (input : List NamedArray) (items : List ScheduleItem) (acts : ℕ) (f : Followed)
    : Type 0 where
  pub keeper : ℕ
  pub spared : IsKeeper schedule_form items keeper
  pub start : Situation
  pub opens : OpensRun sizes code input keeper start
  pub ending : f.ending ≡ ending_of (finish_in (followed start items acts))
  pub arrays : f.arrays.items ≡ values_in (followed start items acts)
