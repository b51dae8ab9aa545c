-- What a watcher is told of a processor that obeys: the events of its acts, and before an act event 7 where it has parked.
use Rattle.std.specs.Prelude.{ℕ, ◌==◌, if◌then◌else◌, not, Bool, List, [], ◌∷◌, ◌++◌}
use Rattle.ppm_cells.specs.declared.shape.Shape.{Shape}
use Rattle.ppm_code.specs.declared.code.CodeParts.{CodeParts}
use Rattle.ppm_words.specs.declared.event.Event.{Event}
use Rattle.ppm_plan.specs.Schedules.{Planned}
use Rattle.ppm_step.specs.declared.turn.Turn.{Turn}
use Rattle.ppm_step.specs.Standings.{Standing}
use Rattle.ppm_step.specs.State.{State}
use Rattle.ppm_step.specs.Stood.{act_told, stood_behind}
use Rattle.ppm_step.specs.Told.{event, place_of, record_of}
use Rattle.ppm_choice.specs.declared.limits.Limits.{Limits}
use Rattle.ppm_choice.specs.Deeds.{Deed, deeds_of}
use Rattle.ppm_choice.specs.Obeying.{Past, nothing_done, behind, parks, awake}

-- what is told of a processor that parks there; it is no act
abbrev pub parked : Standing → Event
parked stood = event 7 (place_of stood) 0 0

-- whether it is an act of which is told
abbrev pub is_act : Event → Bool
is_act e = not (e.step == 7)

module _ (plan : Planned) (limits : Limits) (processor : ℕ) where
  -- before an act
  abbrev pub told_before : Past → Standing → List Event
  told_before past stood = if parks plan limits processor past stood then parked stood ∷ [] else []

  -- of these acts, with such a past, where these are their events
  abbrev pub told_from : Past → List Deed → List Event → List Event
  told_from past [] events = events
  told_from past (deed ∷ deeds) [] = []
  told_from past (deed ∷ deeds) (e ∷ events) =
      told_before past deed.stood ++ (e ∷ told_from (behind (awake plan limits processor past deed.stood) deed) deeds events)

  -- in a run
  abbrev pub told_in : Shape → CodeParts → State → List Turn → List Event
  told_in s code state turns = told_from nothing_done (deeds_of s code processor state turns) (record_of s code processor state turns)

  -- by its record alone: of these events, where it stood there with such a past before them
  abbrev pub told_by : Shape → CodeParts → Past → Standing → List Event → List Event
  told_by s code past stood [] = []
  told_by s code past stood (e ∷ events) =
      told_before past stood
      ++ (e ∷ told_by s code (behind (awake plan limits processor past stood) (record { stood = stood; act = act_told s stood e }))
      (stood_behind s code processor stood e) events)
