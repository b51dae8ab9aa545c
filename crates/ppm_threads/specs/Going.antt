-- A processor on its way: what it has done obeys so far, and its watcher was told of it.
use Rattle.std.specs.Prelude.{◌≡◌, ◌≢◌, ◌<◌, ◌⊎◌, ℕ, ◌+◌, Bool, true, false, List, [], ◌∷◌, ◌++◌, length, Option, Some, None}
use Rattle.ppm_cells.specs.declared.shape.Shape.{Shape}
use Rattle.ppm_code.specs.declared.code.CodeParts.{CodeParts}
use Rattle.ppm_words.specs.declared.event.Event.{Event}
use Rattle.ppm_plan.specs.Draws.{Drawing}
use Rattle.ppm_plan.specs.Schedules.{Planned}
use Rattle.ppm_step.specs.declared.turn.Act.{Act}
use Rattle.ppm_step.specs.declared.turn.Why.TheVariants.{Watch}
use Rattle.ppm_step.specs.Standings.{Standing, IsLost, IsDone}
use Rattle.ppm_choice.specs.declared.limits.Limits.{Limits}
use Rattle.ppm_choice.specs.declared.pace.Pace.{Pace}
use Rattle.ppm_choice.specs.Deeds.{Deed as Acted}
use Rattle.ppm_choice.specs.Drawn.{HasDrawn}
use Rattle.ppm_choice.specs.Obeying.{Past, nothing_done, next_act, behind as past_behind, awake, Rests, Stops, Obeys}
use Rattle.ppm_choice.specs.Paces.{IsPace}
use Rattle.ppm_choice.specs.Tells.{told_before, told_from}
use Rattle.ppm_table.specs.declared.view.Deed.{Deed}
use Rattle.ppm_table.specs.declared.view.Deed.TheVariants.{Quitted}
use Rattle.ppm_table.specs.declared.view.Opening.{Opening}
use Rattle.ppm_table.specs.Run.{act_by, behind, stands_by, deeds_in, Mine}
use Rattle.ppm_table.specs.Telling.{shown_by}
use Rattle.ppm_threads.specs.declared.act_result.ActResult.{ActResult}
use Rattle.ppm_threads.specs.declared.act_result.ActResult.TheVariants.{More, Over, Refused}

-- the acts of deeds, each with where the processor stood
abbrev pub acted : Shape → Standing → Deed → Acted
acted s standing deed = record { stood = standing; act = act_by s standing deed }

abbrev pub acts_of : Shape → CodeParts → (own : ℕ) → Standing → List Deed → List Acted
acts_of s code own standing [] = []
acts_of s code own standing (deed ∷ deeds) = acted s standing deed ∷ acts_of s code own (behind s code own standing deed) deeds

-- a known list that had so much at its end has so much there now
abbrev pub TraceGrows : Option (List Event) → Option (List Event) → (old new : List Event) → Type 0
TraceGrows before now old new = (list : List Event) → before ≡ Some (list ++ old) → now ≡ Some (list ++ new)

-- a seat has so many deeds more
abbrev pub HasMoreDeeds : (made : ℕ) → Mine → Mine → Type 0
HasMoreDeeds made me me' = length (deeds_in me'.0) ≡ length (deeds_in me.0) + made

-- after these deeds a processor gives up, which is its last deed; or it is done, and makes none any more
abbrev pub GaveUp : Opening → (own : ℕ) → (before deeds : List Deed) → Type 0
GaveUp k own before deeds =
    ((stands_by k own before ≢ IsDone) × (deeds ≡ before ++ Quitted Watch ∷ [])) ⊎ ((stands_by k own before ≡ IsDone) × (deeds ≡ before))

module _ (plan : Planned) (limits : Limits) where
  -- what is told of a processor that has done this: the events of its acts, and event 7 before an act where it has parked
  abbrev pub told_of_deeds : Opening → (own : ℕ) → List Deed → List Event
  told_of_deeds k own deeds =
      told_from plan limits own nothing_done (acts_of k.shape k.code own IsLost deeds) (shown_by k own deeds)

  -- with such a past, whatever obeys after these deeds obeys from the beginning on, and what is told of it is told after what is told of them
  pub record Follows (k : Opening) (own : ℕ) (deeds : List Deed) (past : Past) : Type 0 where
    pub back : (more : List Acted) (stands : Standing) → Obeys plan limits own past more stands
        → Obeys plan limits own nothing_done (acts_of k.shape k.code own IsLost deeds ++ more) stands
    pub tells : (more : List Acted) (events : List Event)
        → told_from plan limits own nothing_done (acts_of k.shape k.code own IsLost deeds ++ more) (shown_by k own deeds ++ events)
        ≡ told_of_deeds k own deeds ++ told_from plan limits own past more events

  -- what a processor has done obeys so far, and its pace and its victims say so
  pub record Obeying (k : Opening) (own : ℕ) (deeds : List Deed) (pace : Pace) (victims : Drawing) : Type 0 where
    pub past : Past
    pub number : pace.processor ≡ own
    pub pace_is : IsPace plan limits past (stands_by k own deeds) pace
    pub drawn : HasDrawn plan limits own past victims
    pub follows : Follows k own deeds past

  -- what a processor has done obeys so far, and it rests
  pub record Resting (k : Opening) (own : ℕ) (deeds : List Deed) (pace : Pace) (victims : Drawing) : Type 0 where
    pub obeying : Obeying k own deeds pace victims
    pub rests : Rests plan limits own obeying.past (stands_by k own deeds)

  -- what a processor has done obeys, with such a past, and it goes on to make its next act; where it was to park, it has
  pub record Acting (k : Opening) (own : ℕ) (deeds : List Deed) (past : Past) (pace : Pace) (victims : Drawing) (act : Act) : Type 0 where
    pub number : pace.processor ≡ own
    pub pace_is : IsPace plan limits (awake plan limits own past (stands_by k own deeds)) (stands_by k own deeds) pace
    pub goes : ¬ Stops plan limits own past (stands_by k own deeds)
    pub act_is : act ≡ next_act plan limits own past (stands_by k own deeds)
    pub drawn : HasDrawn plan limits own
        (past_behind (awake plan limits own past (stands_by k own deeds)) (record { stood = stands_by k own deeds; act = act })) victims
    pub follows : Follows k own deeds past

  -- what was told of it then
  abbrev pub told_so_far : (k : Opening) (own : ℕ) (deeds : List Deed) → Past → List Event
  told_so_far k own deeds past = told_of_deeds k own deeds ++ told_before plan limits own past (stands_by k own deeds)

  -- all that it has done obeys, and its acts stop there
  abbrev pub OwnObeys : Opening → (own : ℕ) → List Deed → Type 0
  OwnObeys k own deeds = Obeys plan limits own nothing_done (acts_of k.shape k.code own IsLost deeds) (stands_by k own deeds)

  -- what it has done obeys so far: it obeys, were it done there
  abbrev pub ObeysSoFar : Opening → (own : ℕ) → List Deed → Type 0
  ObeysSoFar k own deeds = Obeys plan limits own nothing_done (acts_of k.shape k.code own IsLost deeds) IsDone

  -- these are the events up to one that a watcher may refuse after such deeds: that of the last of them, or event 7, where it is to park then; what
  -- would be told of a quit there ends with them and the quit's
  abbrev pub AreUpTo : Opening → (own : ℕ) → List Deed → List Event → Type 0
  AreUpTo k own deeds events =
      (told_of_deeds k own deeds ≡ events) ⊎ ((quit : Event) × (told_of_deeds k own (deeds ++ Quitted Watch ∷ []) ≡ events ++ quit ∷ []))

  -- A processor has given up, since its watcher refused an event. Up to the act of that event it obeys, and of all up to that event its watcher was
  -- told, after which it had this at its end.
  pub record HasQuit (k : Opening) (own : ℕ) (before now : Option (List Event)) (old : List Event) (deeds : List Deed) : Type 0 where
    pub obeyed : List Deed
    pub obeys : ObeysSoFar k own obeyed
    pub gave_up : GaveUp k own obeyed deeds
    pub told : List Event
    pub refused : Event
    pub up_to : AreUpTo k own obeyed (told ++ refused ∷ [])
    pub grows : TraceGrows before now old told

  -- after so many acts, of which its watcher was told; or it refused one
  abbrev pub GoesAhead : Opening → (own : ℕ) → Option (List Event) → Option (List Event) → Mine → Mine → Pace → Drawing → (made : Option ℕ) → Type 0
  GoesAhead k own before now me me' pace victims (Some made) =
      Obeying k own (deeds_in me'.0) pace victims
      × TraceGrows before now (told_of_deeds k own (deeds_in me.0)) (told_of_deeds k own (deeds_in me'.0))
      × HasMoreDeeds made me me'
  GoesAhead k own before now me me' pace victims None = HasQuit k own before now (told_of_deeds k own (deeds_in me.0)) (deeds_in me'.0)

  -- after its next acts: there was one, and it goes on; or its acts stop; or its watcher has refused
  abbrev pub RunsOn : Opening → (own : ℕ) → Option (List Event) → Option (List Event) → Mine → Mine → Pace → Drawing → ActResult → Type 0
  RunsOn k own before now me me' pace victims More =
      Obeying k own (deeds_in me'.0) pace victims
      × TraceGrows before now (told_of_deeds k own (deeds_in me.0)) (told_of_deeds k own (deeds_in me'.0))
      × (length (deeds_in me.0) < length (deeds_in me'.0))
  RunsOn k own before now me me' pace victims Over =
      OwnObeys k own (deeds_in me'.0) × TraceGrows before now (told_of_deeds k own (deeds_in me.0)) (told_of_deeds k own (deeds_in me'.0))
  RunsOn k own before now me me' pace victims Refused = HasQuit k own before now (told_of_deeds k own (deeds_in me.0)) (deeds_in me'.0)

-- where a processor goes after an act that its watcher took, or refused
abbrev pub act_result_of : (taken : Bool) → ActResult
act_result_of true = More
act_result_of false = Refused
