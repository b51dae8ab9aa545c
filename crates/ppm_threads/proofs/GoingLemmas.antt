-- A processor on its way, some acts further.
use Rattle.std.proofs.Common.{◌≡◌, ◌≢◌, ◌∙◌, ◌≤◌, ◌+◌, inl, inr, ℕ, Bool, Option, Some, List, [], ◌∷◌, ◌++◌, length, drop, arith, refl, sym, ap, subst, append_assoc, append-nil}
use Rattle.std.proofs.lemmas.List.{length-append}
use Rattle.ppm_words.specs.declared.event.Event.{Event}
use Rattle.ppm_plan.specs.Draws.{Drawing, victims_of, next_victims}
use Rattle.ppm_plan.specs.Schedules.{Planned}
use Rattle.ppm_step.specs.declared.turn.Act.{Act}
use Rattle.ppm_step.specs.declared.turn.Why.TheVariants.{Watch}
use Rattle.ppm_step.specs.Standings.{Standing, IsLost, IsDone}
use Rattle.ppm_choice.specs.declared.limits.Limits.{Limits}
use Rattle.ppm_choice.specs.declared.pace.Pace.{Pace}
use Rattle.ppm_choice.specs.Deeds.{Deed as Acted}
use Rattle.ppm_choice.specs.Drawn.{HasDrawn, IsNext}
use Rattle.ppm_choice.specs.Obeying.{Past, nothing_done, behind as past_behind, awake, Rests, Stops, Obeys}
use Rattle.ppm_choice.specs.Paces.{IsPace, AreClear}
use Rattle.ppm_choice.specs.Tells.{told_before, told_from}
use Rattle.ppm_choice.proofs.ParkLemmas.{stays_awake}
use Rattle.ppm_table.specs.declared.view.Deed.{Deed}
use Rattle.ppm_table.specs.declared.view.Deed.TheVariants.{Quitted}
use Rattle.ppm_table.specs.declared.view.Opening.{Opening}
use Rattle.ppm_table.specs.Run.{act_by, stood, stands_by, deeds_in, Mine}
use Rattle.ppm_table.specs.Telling.{event_of_deed, shown, shown_by, Shows}
use Rattle.ppm_table.proofs.TellingLemmas.{shown_both, since_is}
use Rattle.ppm_stretch.specs.Steady.{looks_behind, Goes}
use Rattle.ppm_threads.specs.declared.act_result.ActResult.{ActResult}
use Rattle.ppm_threads.specs.declared.act_result.ActResult.TheVariants.{More, Over, Refused}
use Rattle.ppm_threads.specs.Going.{acted, acts_of, TraceGrows, HasMoreDeeds, told_of_deeds, told_so_far, Follows, Obeying, Acting, OwnObeys, ObeysSoFar, HasQuit, RunsOn}
use Rattle.ppm_threads.proofs.AlongLemmas.{acts_both, past_along, along_acts, along_work, along_looks, along_drawn, steps_obey, not_parked, steps_tell, steps_told}

module _ (plan : Planned) (limits : Limits) (k : Opening) (own : ℕ) where
  -- the acts and events of deeds in two lists
  acts_more : (deeds deeds' ds : List Deed) → deeds' ≡ deeds ++ ds
      → acts_of k.shape k.code own IsLost deeds' ≡ acts_of k.shape k.code own IsLost deeds ++ acts_of k.shape k.code own (stands_by k own deeds) ds
  acts_more deeds deeds' ds more = ap (λ (l : List Deed). acts_of k.shape k.code own IsLost l) more ∙ acts_both k.shape k.code own IsLost deeds ds

  shown_more : (deeds deeds' ds : List Deed) → deeds' ≡ deeds ++ ds
      → shown_by k own deeds' ≡ shown_by k own deeds ++ shown k.shape k.code own (stands_by k own deeds) ds
  shown_more deeds deeds' ds more = ap (λ (l : List Deed). shown_by k own l) more ∙ shown_both k.shape k.code own IsLost deeds ds

  -- what is told of more deeds, by what is told after those that were there
  module _ (deeds deeds' ds : List Deed) (more : deeds' ≡ deeds ++ ds) (past past' : Past) (f : Follows plan limits k own deeds past)
      (told : List Event) where
    abbrev acts : List Acted
    acts = acts_of k.shape k.code own (stands_by k own deeds) ds

    abbrev events_of : List Event
    events_of = shown k.shape k.code own (stands_by k own deeds) ds

    told_there : told_from plan limits own past acts events_of ≡ told → told_of_deeds plan limits k own deeds' ≡ told_of_deeds plan limits k own deeds ++ told
    told_there is =
        ap (λ (l : List Acted). told_from plan limits own nothing_done l (shown_by k own deeds')) (acts_more deeds deeds' ds more)
        ∙ ap (λ (l : List Event). told_from plan limits own nothing_done (acts_of k.shape k.code own IsLost deeds ++ acts) l)
        (shown_more deeds deeds' ds more)
        ∙ f.tells acts events_of ∙ ap (λ (l : List Event). told_of_deeds plan limits k own deeds ++ l) is

    follows_more : told_from plan limits own past acts events_of ≡ told
        → ((rest : List Acted) (stands : Standing) → Obeys plan limits own past' rest stands → Obeys plan limits own past (acts ++ rest) stands)
        → ((rest : List Acted) (events : List Event) → told_from plan limits own past (acts ++ rest) (events_of ++ events)
        ≡ told ++ told_from plan limits own past' rest events)
        → Follows plan limits k own deeds' past'
    follows_more is obey tell = record {
      back = λ rest stands o.
          subst (λ (l : List Acted). Obeys plan limits own nothing_done (l ++ rest) stands) (sym (acts_more deeds deeds' ds more))
          (subst (λ (l : List Acted). Obeys plan limits own nothing_done l stands) (sym (append_assoc (acts_of k.shape k.code own IsLost deeds) acts rest))
          (f.back (acts ++ rest) stands (obey rest stands o)));
      tells = λ rest events.
          ap (λ (l : List Acted). told_from plan limits own nothing_done (l ++ rest) (shown_by k own deeds' ++ events)) (acts_more deeds deeds' ds more)
          ∙ ap (λ (l : List Event). told_from plan limits own nothing_done ((acts_of k.shape k.code own IsLost deeds ++ acts) ++ rest) (l ++ events))
          (shown_more deeds deeds' ds more)
          ∙ ap (λ (l : List Acted). told_from plan limits own nothing_done l ((shown_by k own deeds ++ events_of) ++ events))
          (append_assoc (acts_of k.shape k.code own IsLost deeds) acts rest)
          ∙ ap (λ (l : List Event). told_from plan limits own nothing_done (acts_of k.shape k.code own IsLost deeds ++ (acts ++ rest)) l)
          (append_assoc (shown_by k own deeds) events_of events)
          ∙ f.tells (acts ++ rest) (events_of ++ events)
          ∙ ap (λ (l : List Event). told_of_deeds plan limits k own deeds ++ l) (tell rest events)
          ∙ sym (append_assoc (told_of_deeds plan limits k own deeds) told (told_from plan limits own past' rest events))
          ∙ ap (λ (l : List Event). l ++ told_from plan limits own past' rest events) (sym (told_there is));
    }

  -- whatever has such a past obeys so far
  pub so_far : (deeds : List Deed) (past : Past) → Follows plan limits k own deeds past → ObeysSoFar plan limits k own deeds
  so_far deeds past f = subst (λ (l : List Acted). Obeys plan limits own nothing_done l IsDone) (append-nil _) (f.back [] IsDone (inl refl))

  -- a quit there, and where the processor was to park before it, event 7
  pub told_quit : (deeds : List Deed) (past : Past) → Follows plan limits k own deeds past
      → told_of_deeds plan limits k own (deeds ++ Quitted Watch ∷ [])
      ≡ told_so_far plan limits k own deeds past ++ event_of_deed k.shape own (stands_by k own deeds) (Quitted Watch) ∷ []
  told_quit deeds past f =
      let quit = event_of_deed k.shape own (stands_by k own deeds) (Quitted Watch) in
      let up = told_before plan limits own past (stands_by k own deeds) in
      told_there deeds (deeds ++ Quitted Watch ∷ []) (Quitted Watch ∷ []) refl past past f (up ++ quit ∷ []) refl
      ∙ sym (append_assoc (told_of_deeds plan limits k own deeds) up (quit ∷ []))

  -- after steps in a row
  pub follows_along : {exchanged : Bool} → (me me' : Mine) (pace : Pace) (victims : Drawing) (made work looks n : ℕ)
      → (o : Obeying plan limits k own (deeds_in me.0) pace victims)
      → (g : Goes k own me me' made work looks exchanged) → made ≤ n → AreClear plan limits own o.past n
      → Follows plan limits k own (deeds_in me'.0) (past_along k.shape k.code own o.past (stands_by k own (deeds_in me.0)) g.deeds)
  follows_along me me' pace victims made work looks n o g few clear =
      let st = stands_by k own (deeds_in me.0) in
      let is_few : length g.deeds ≤ n = omega (arith, few, g.count) in
      follows_more (deeds_in me.0) (deeds_in me'.0) g.deeds g.more o.past (past_along k.shape k.code own o.past st g.deeds) o.follows
      (shown k.shape k.code own st g.deeds)
      (steps_told k.shape k.code own plan limits o.past st g.deeds g.steady)
      (λ rest stands obeys. steps_obey k.shape k.code own plan limits o.past st g.deeds n is_few clear g.steady rest stands obeys)
      (steps_tell k.shape k.code own plan limits o.past st g.deeds g.steady)

  pub told_along : {exchanged : Bool} → (me me' : Mine) (past : Past) (made work looks : ℕ)
      → Follows plan limits k own (deeds_in me.0) past → (g : Goes k own me me' made work looks exchanged)
      → told_of_deeds plan limits k own (deeds_in me'.0)
      ≡ told_of_deeds plan limits k own (deeds_in me.0) ++ shown k.shape k.code own (stands_by k own (deeds_in me.0)) g.deeds
  told_along me me' past made work looks f g =
      let st = stands_by k own (deeds_in me.0) in
      told_there (deeds_in me.0) (deeds_in me'.0) g.deeds g.more past past f (shown k.shape k.code own st g.deeds)
      (steps_told k.shape k.code own plan limits past st g.deeds g.steady)

  pub obeying_along : {exchanged : Bool} → (me me' : Mine) (pace pace' : Pace) (victims : Drawing) (made work looks n : ℕ)
      → (o : Obeying plan limits k own (deeds_in me.0) pace victims)
      → Goes k own me me' made work looks exchanged → made ≤ n → AreClear plan limits own o.past n → pace'.processor ≡ pace.processor
      → ((past' : Past) → past'.acts ≡ o.past.acts + made → past'.work ≡ o.past.work + work → past'.looks ≡ looks_behind o.past.looks work looks
      → IsPace plan limits past' (stands_by k own (deeds_in me'.0)) pace')
      → Obeying plan limits k own (deeds_in me'.0) pace' victims
  obeying_along me me' pace pace' victims made work looks n o g few clear number paces =
      let st = stands_by k own (deeds_in me.0) in
      let past' = past_along k.shape k.code own o.past st g.deeds in
      let acts : past'.acts ≡ o.past.acts + made = let e = along_acts k.shape k.code own o.past st g.deeds in omega (arith, e, g.count) in
      let works : past'.work ≡ o.past.work + work = let e = along_work k.shape k.code own o.past st g.deeds in omega (arith, e, g.works) in
      let looked : past'.looks ≡ looks_behind o.past.looks work looks = along_looks k.shape k.code own o.past st g.deeds ∙ g.looked o.past.looks in
      let drawn : past'.drawn ≡ o.past.drawn = along_drawn k.shape k.code own o.past st g.deeds g.steady in
      record {
        past = past';
        number = number ∙ o.number;
        pace_is = paces past' acts works looked;
        drawn = subst (λ (d : ℕ). (j : ℕ) → next_victims victims j ≡ drop d (victims_of limits.seed own plan.processors (d + j))) (sym drawn) o.drawn;
        follows = follows_along me me' pace victims made work looks n o g few clear;
      }

  pub grows_along : {exchanged : Bool} → (before now : Option (List Event)) (me me' : Mine) (pace : Pace) (victims : Drawing) (made work looks : ℕ)
      → (o : Obeying plan limits k own (deeds_in me.0) pace victims)
      → Goes k own me me' made work looks exchanged → Shows k own before now me me'
      → TraceGrows before now (told_of_deeds plan limits k own (deeds_in me.0)) (told_of_deeds plan limits k own (deeds_in me'.0))
  grows_along before now me me' pace victims made work looks o g shows = λ list e.
      let st = stands_by k own (deeds_in me.0) in
      let told = told_of_deeds plan limits k own (deeds_in me.0) in
      let more = told_along me me' o.past made work looks o.follows g in
      shows (list ++ told) e
      ∙ ap (λ (l : List Deed). Some ((list ++ told) ++ shown k.shape k.code own st l)) (since_is me me' g.deeds g.more)
      ∙ ap (λ (l : List Event). Some l) (append_assoc list told (shown k.shape k.code own st g.deeds) ∙ ap (λ (l : List Event). list ++ l) (sym more))

  pub more_along : {exchanged : Bool} → (me me' : Mine) (made work looks : ℕ) → Goes k own me me' made work looks exchanged → HasMoreDeeds made me me'
  more_along me me' made work looks g =
      let all = ap (λ (l : List Deed). length l) g.more in
      let both = length-append (deeds_in me.0) g.deeds in
      omega (arith, all, both, g.count)

  -- after none of them
  no_deeds : (ds : List Deed) → length ds ≡ 0 → ds ≡ []
  no_deeds [] e = refl
  no_deeds (d ∷ ds) e = absurd (omega (arith, e))

  pub obeying_still : {exchanged : Bool} → (me me' : Mine) (pace : Pace) (victims : Drawing) (made work looks : ℕ) → Goes k own me me' made work looks exchanged → made ≡ 0
      → Obeying plan limits k own (deeds_in me.0) pace victims → Obeying plan limits k own (deeds_in me'.0) pace victims
  obeying_still me me' pace victims made work looks g none o =
      let same : deeds_in me'.0 ≡ deeds_in me.0 =
      g.more ∙ ap (λ (l : List Deed). deeds_in me.0 ++ l) (no_deeds g.deeds (g.count ∙ none)) ∙ append-nil (deeds_in me.0) in
      subst (λ (l : List Deed). Obeying plan limits k own l pace victims) (sym same) o

  -- a processor that has quit, after what was told before
  pub quit_behind : (before first now : Option (List Event)) (old mid : List Event) (deeds : List Deed) → TraceGrows before first old mid
      → HasQuit plan limits k own first now mid deeds → HasQuit plan limits k own before now old deeds
  quit_behind before first now old mid deeds grew h = record {
    obeyed = h.obeyed;
    obeys = h.obeys;
    gave_up = h.gave_up;
    told = h.told;
    refused = h.refused;
    up_to = h.up_to;
    grows = λ list e. h.grows list (grew list e);
  }

  pub goes_behind : (before first now : Option (List Event)) (me me' me'' : Mine) (pace : Pace) (victims : Drawing) (came : ActResult)
      → TraceGrows before first (told_of_deeds plan limits k own (deeds_in me.0)) (told_of_deeds plan limits k own (deeds_in me'.0)) → HasMoreDeeds 0 me me'
      → RunsOn plan limits k own first now me' me'' pace victims came → RunsOn plan limits k own before now me me'' pace victims came
  goes_behind before first now me me' me'' pace victims More grew none g = (
    g.0,
    λ list e. g.1 list (grew list e),
    (let further = g.2 in omega (arith, none, further)),
  )
  goes_behind before first now me me' me'' pace victims Over grew none g = (g.0, λ list e. g.1 list (grew list e))
  goes_behind before first now me me' me'' pace victims Refused grew none g =
      quit_behind before first now (told_of_deeds plan limits k own (deeds_in me.0)) (told_of_deeds plan limits k own (deeds_in me'.0)) (deeds_in me''.0)
      grew g

  -- it doesn't stop where a step is to come and it doesn't rest
  goes_further : (past : Past) (stood : Standing) → stood ≢ IsDone → ¬ Rests plan limits own past stood → ¬ Stops plan limits own past stood
  goes_further past stood lives up = λ stops. elim stops [ inl done ↦ lives done | inr rests ↦ up rests.1 ]

  -- a processor that doesn't rest makes its next act
  pub acting_next : (deeds : List Deed) (pace : Pace) (victims victims' : Drawing) (act : Act) → (o : Obeying plan limits k own deeds pace victims)
      → stands_by k own deeds ≢ IsDone → IsNext plan limits own o.past (stands_by k own deeds) victims' (Some act)
      → Acting plan limits k own deeds o.past pace victims' act
  acting_next deeds pace victims victims' act o lives next =
      let st = stands_by k own deeds in
      let up = stays_awake plan limits own o.past st next.0 in
      record {
        number = o.number;
        pace_is = subst (λ (p : Past). IsPace plan limits p st pace) (sym up) o.pace_is;
        goes = goes_further o.past st lives next.0;
        act_is = next.1;
        drawn = subst (λ (p : Past). HasDrawn plan limits own (past_behind p (record { stood = st; act = act })) victims') (sym up) next.2;
        follows = o.follows;
      }

  pub nothing_before : (past : Past) (st : Standing) → ¬ Rests plan limits own past st → told_before plan limits own past st ≡ []
  nothing_before past st none = not_parked k.shape k.code own plan limits past st none

  -- after an act
  module _ (deeds deeds' : List Deed) (deed : Deed) (act : Act) (past : Past) (pace : Pace) (victims : Drawing)
      (r : Acting plan limits k own deeds past pace victims act)
      (more : deeds' ≡ deeds ++ deed ∷ []) (tells : act_by k.shape (stands_by k own deeds) deed ≡ act) where
    abbrev st : Standing
    st = stands_by k own deeds

    abbrev one : Acted
    one = record { stood = st; act = act }

    abbrev past' : Past
    past' = past_behind (awake plan limits own past st) one

    first : acted k.shape st deed ≡ one
    first = ap (λ (a : Act). record { stood = st; act = a }) tells

    one_tells : (rest : List Acted) (events : List Event)
        → told_from plan limits own past (acted k.shape st deed ∷ rest) (event_of_deed k.shape own st deed ∷ events)
        ≡ (told_before plan limits own past st ++ event_of_deed k.shape own st deed ∷ []) ++ told_from plan limits own past' rest events
    one_tells rest events =
        ap (λ (a : Acted). told_before plan limits own past st ++ (event_of_deed k.shape own st deed ∷ told_from plan limits own
        (past_behind (awake plan limits own past st) a) rest events)) first
        ∙ sym (append_assoc (told_before plan limits own past st) (event_of_deed k.shape own st deed ∷ []) (told_from plan limits own past' rest events))

    one_told : told_from plan limits own past (acted k.shape st deed ∷ []) (event_of_deed k.shape own st deed ∷ [])
        ≡ told_before plan limits own past st ++ event_of_deed k.shape own st deed ∷ []
    one_told = one_tells [] [] ∙ append-nil (told_before plan limits own past st ++ event_of_deed k.shape own st deed ∷ [])

    pub obeying_more : (pace' : Pace) → pace'.processor ≡ pace.processor → IsPace plan limits past' (stands_by k own deeds') pace'
        → Obeying plan limits k own deeds' pace' victims
    obeying_more pace' number pace_is = record {
      past = past';
      number = number ∙ r.number;
      pace_is = pace_is;
      drawn = r.drawn;
      follows = follows_more deeds deeds' (deed ∷ []) more past past' r.follows (told_before plan limits own past st ++ event_of_deed k.shape own st
          deed ∷ []) one_told
          (λ rest stands obeys. (
            r.goes,
            tells ∙ r.act_is,
            subst (λ (a : Acted). Obeys plan limits own (past_behind (awake plan limits own past st) a) rest stands) (sym first) obeys,
          ))
          one_tells;
    }

    -- its event is told after what was told so far
    pub told_more : told_of_deeds plan limits k own deeds' ≡ told_so_far plan limits k own deeds past ++ event_of_deed k.shape own st deed ∷ []
    told_more =
        let up = told_before plan limits own past st in
        told_there deeds deeds' (deed ∷ []) more past past' r.follows (up ++ event_of_deed k.shape own st deed ∷ []) one_told
        ∙ sym (append_assoc (told_of_deeds plan limits k own deeds) up (event_of_deed k.shape own st deed ∷ []))

    pub grows_more : (before now : Option (List Event)) → ((list : List Event) → before ≡ Some list
        → now ≡ Some (list ++ event_of_deed k.shape own st deed ∷ []))
        → TraceGrows before now (told_so_far plan limits k own deeds past) (told_of_deeds plan limits k own deeds')
    grows_more before now heard = λ list e.
        let told = told_so_far plan limits k own deeds past in
        heard (list ++ told) e
        ∙ ap (λ (l : List Event). Some l)
        (append_assoc list told (event_of_deed k.shape own st deed ∷ []) ∙ ap (λ (l : List Event). list ++ l) (sym told_more))

  -- no act more
  pub obeys_all : (deeds : List Deed) (pace : Pace) (victims : Drawing) → (o : Obeying plan limits k own deeds pace victims)
      → Stops plan limits own o.past (stands_by k own deeds)
      → OwnObeys plan limits k own deeds
  obeys_all deeds pace victims o stops =
      subst (λ (l : List Acted). Obeys plan limits own nothing_done l (stands_by k own deeds)) (append-nil _)
      (o.follows.back [] (stands_by k own deeds) stops)

  -- the beginning
  pub obeying_none : (deeds : List Deed) (pace : Pace) (victims : Drawing) (processors : ℕ) → deeds ≡ [] → pace.processor ≡ own
      → IsPace plan limits nothing_done IsLost pace → processors ≡ plan.processors
      → ((j : ℕ) → next_victims victims j ≡ victims_of limits.seed own processors j) → Obeying plan limits k own deeds pace victims
  obeying_none deeds pace victims processors none number pace_is same draws =
      subst (λ (l : List Deed). Obeying plan limits k own l pace victims) (sym none) (record {
        past = nothing_done;
        number = number;
        pace_is = pace_is;
        drawn = λ j. draws j ∙ ap (λ (p : ℕ). victims_of limits.seed own p j) same ∙ ap (victims_of limits.seed own plan.processors)
            (let e : j ≡ 0 + j = omega arith in e);
        follows = record { back = λ more stands obeys. obeys; tells = λ more events. refl };
      })

-- where it doesn't rest, nothing is told before its act
pub grows_from : (plan : Planned) (limits : Limits) (k : Opening) (own : ℕ) (deeds : List Deed) (past : Past) (before : Option (List Event))
    → ¬ Rests plan limits own past (stands_by k own deeds) → TraceGrows before before (told_of_deeds plan limits k own deeds)
    (told_so_far plan limits k own deeds past)
grows_from plan limits k own deeds past before none = λ list e.
    e ∙ ap (λ (l : List Event). Some (list ++ l))
    (sym (ap (λ (l : List Event). told_of_deeds plan limits k own deeds ++ l) (nothing_before plan limits k own past (stands_by k own deeds) none)
    ∙ append-nil (told_of_deeds plan limits k own deeds)))
