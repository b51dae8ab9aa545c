-- Where a processor parks, and what is told of it.
use Rattle.std.proofs.Common.{◌≡◌, ◌∙◌, ◌⊎◌, inl, inr, ◌<◌, ◌≤◌, ◌==◌, ℕ, zero, suc, ◌&&◌, not, nat_le, Bool, true, false, if◌then◌else◌, List, [], ◌∷◌, ◌++◌, arith, refl, ap, subst}
use Rattle.std.specs.List.{filter}
use Rattle.std.proofs.lemmas.Bool.{cases_Bool, cases_lt, le-leb, leb-true, both_ways, cond-true}
use Rattle.ppm_cells.specs.declared.shape.Shape.{Shape}
use Rattle.ppm_code.specs.declared.code.CodeParts.{CodeParts}
use Rattle.ppm_words.specs.declared.event.Event.{Event}
use Rattle.ppm_words.specs.declared.idle.Idle.{Idle}
use Rattle.ppm_words.specs.declared.idle.Idle.TheVariants.{Leave, Park}
use Rattle.ppm_plan.specs.declared.plan_item.PlanItem.{PlanItem}
use Rattle.ppm_plan.specs.Forms.{plan_form}
use Rattle.ppm_plan.specs.Refusals.{IsKeeper, is_killed}
use Rattle.ppm_plan.specs.Schedules.{Planned}
use Rattle.ppm_step.specs.declared.ask.Want.{Want}
use Rattle.ppm_step.specs.declared.ask.Want.TheVariants.{Loads, Stores, Exchanges, Nothing}
use Rattle.ppm_step.specs.declared.turn.Act.{Act}
use Rattle.ppm_step.specs.declared.turn.Act.TheVariants.{Step, Soft, Hard, Quit}
use Rattle.ppm_step.specs.declared.turn.Next.{Next}
use Rattle.ppm_step.specs.declared.turn.Next.TheVariants.{Work, Look, Seek, Done}
use Rattle.ppm_step.specs.declared.turn.Turn.{Turn}
use Rattle.ppm_step.specs.Standings.{Standing, IsLost, IsPlaced, IsAt, IsWithin, IsRunning, IsBroken, IsDone}
use Rattle.ppm_step.specs.State.{State, stand_of, happens, next_of}
use Rattle.ppm_step.specs.Told.{step_event, act_event, event_by, event_of, events_in, events_by, record_of}
use Rattle.ppm_choice.specs.declared.limits.Limits.{Limits}
use Rattle.ppm_choice.specs.Deeds.{Deed, deeds_of}
use Rattle.ppm_choice.specs.Laws.{ParksWhereItRests, TellsRecord, TellsNoMore}
use Rattle.ppm_choice.specs.Obeying.{Past, nothing_done, behind, rested, is_seek, is_park, all_killed, keeps, Rests, parks, awake}
use Rattle.ppm_choice.specs.Tells.{parked, is_act, told_before, told_from}

both_hold : (a b : Bool) → (a && b) ≡ true → (a ≡ true) × (b ≡ true)
both_hold true b e = (refl, e)
both_hold false b e = cc

not_true : (a : Bool) → not a ≡ true → a ≡ false
not_true true e = cc
not_true false e = refl

-- whether a processor is the keeper
all_below : (items : List PlanItem) (n c : ℕ) → all_killed items n ≡ true → c < n → is_killed plan_form c items ≡ true
all_below items zero c e less = absurd (omega (arith, less))
all_below items (suc n) c e less =
    by (cases_lt c n) (all_below items n c (both_hold (is_killed plan_form n items) (all_killed items n) e).1)
  where
    by : (c < n) ⊎ (n ≤ c) → (c < n → is_killed plan_form c items ≡ true) → is_killed plan_form c items ≡ true
    by (inl below) rest = rest below
    by (inr most) rest =
        let same : n ≡ c = omega (arith, less, most) in
        subst (λ m. is_killed plan_form m items ≡ true) same (both_hold (is_killed plan_form n items) (all_killed items n) e).0

are_killed : (items : List PlanItem) (n : ℕ) → ((c : ℕ) → c < n → is_killed plan_form c items ≡ true) → all_killed items n ≡ true
are_killed items zero all = refl
are_killed items (suc n) all =
    ap (λ b. b && all_killed items n) (all n (omega arith)) ∙ are_killed items n (λ c less. all c (omega (arith, less)))

pub keeper_keeps : (items : List PlanItem) (c : ℕ) → IsKeeper plan_form items c → keeps items c ≡ true
keeper_keeps items c k = ap (λ b. not b && all_killed items c) k.spared ∙ are_killed items c k.least

keeps_keeper : (items : List PlanItem) (c : ℕ) → keeps items c ≡ true → IsKeeper plan_form items c
keeps_keeper items c e =
    let both = both_hold (not (is_killed plan_form c items)) (all_killed items c) e in
    record { spared = not_true (is_killed plan_form c items) both.0; least = λ d less. all_below items c d both.1 less }

-- three tests and a fourth
all_four : (p a k l : Bool) → (p && (a && not k && l)) ≡ true → (p ≡ true) × (a ≡ true) × (k ≡ false) × (l ≡ true)
all_four true true false true e = (refl, refl, refl, refl)
all_four true true false false e = cc
all_four true true true l e = cc
all_four true false k l e = cc
all_four false a k l e = cc

four_all : (p a k l : Bool) → p ≡ true → a ≡ true → k ≡ false → l ≡ true → (p && (a && not k && l)) ≡ true
four_all true true false true e f g h = refl
four_all true true false false e f g h = cc
four_all true true true l e f g h = cc
four_all true false k l e f g h = cc
four_all false a k l e f g h = cc

park_is : (idle : Idle) → is_park idle ≡ true → idle ≡ Park
park_is Park e = refl
park_is Leave e = cc

seek_is : (next : Next) → is_seek next ≡ true → next ≡ Seek
seek_is Work e = cc
seek_is Look e = cc
seek_is Seek e = refl
seek_is Done e = cc

module _ (plan : Planned) (limits : Limits) (c : ℕ) (past : Past) (stood : Standing) where
  pub parks_rests : parks plan limits c past stood ≡ true → (limits.idle ≡ Park) × Rests plan limits c past stood
  parks_rests e =
      let all = all_four (is_park limits.idle) (is_seek (next_of stood)) (keeps plan.items c) (nat_le limits.looks past.looks) e in (
        park_is limits.idle all.0,
        record {
          no_keeper = λ k. both_ways (keeps plan.items c) all.2 (keeper_keeps plan.items c k);
          seeks = seek_is (next_of stood) all.1;
          looked = leb-true limits.looks past.looks all.3;
        },
      )

  rests_parks : (limits.idle ≡ Park) × Rests plan limits c past stood → parks plan limits c past stood ≡ true
  rests_parks h =
      four_all (is_park limits.idle) (is_seek (next_of stood)) (keeps plan.items c) (nat_le limits.looks past.looks)
      (ap is_park h.0) (ap is_seek h.1.seeks) (no_keeper (cases_Bool (keeps plan.items c))) (le-leb limits.looks past.looks h.1.looked)
    where
      no_keeper : (keeps plan.items c ≡ true) ⊎ (keeps plan.items c ≡ false) → keeps plan.items c ≡ false
      no_keeper (inl is) = absurd (h.1.no_keeper (keeps_keeper plan.items c is))
      no_keeper (inr not_it) = not_it

  -- where it rests nowhere, it acts with its past as it is
  pub stays_awake : ¬ Rests plan limits c past stood → awake plan limits c past stood ≡ past
  stays_awake none = by (cases_Bool (parks plan limits c past stood))
    where
      by : (parks plan limits c past stood ≡ true) ⊎ (parks plan limits c past stood ≡ false) → awake plan limits c past stood ≡ past
      by (inl is) = absurd (none (parks_rests is).1)
      by (inr is) = ap (λ b. if b then rested past else past) is

  pub keeper_awake : IsKeeper plan_form plan.items c → awake plan limits c past stood ≡ past
  keeper_awake k = stays_awake (λ r. r.no_keeper k)

  -- a rest changes no count but that of looks
  either_way : {A : Type 0} (part : Past → A) → part (rested past) ≡ part past → part (awake plan limits c past stood) ≡ part past
  either_way part same = by (parks plan limits c past stood)
    where
      by : (b : Bool) → part (if b then rested past else past) ≡ part past
      by true = same
      by false = refl

  pub awake_acts : (awake plan limits c past stood).acts ≡ past.acts
  awake_acts = either_way (λ (p : Past). p.acts) refl

  pub awake_work : (awake plan limits c past stood).work ≡ past.work
  awake_work = either_way (λ (p : Past). p.work) refl

  pub awake_drawn : (awake plan limits c past stood).drawn ≡ past.drawn
  awake_drawn = either_way (λ (p : Past). p.drawn) refl

pub parks_where_it_rests : ParksWhereItRests
parks_where_it_rests plan limits c past stood = (parks_rests plan limits c past stood, rests_parks plan limits c past stood)

-- events of acts
abbrev pub AreActs : List Event → Type 0
AreActs [] = Unit {0}
AreActs (e ∷ events) = (is_act e ≡ true) × AreActs events

are_both : (first more : List Event) → AreActs first → AreActs more → AreActs (first ++ more)
are_both [] more f m = m
are_both (e ∷ first) more f m = (f.0, are_both first more f.1 m)

module _ (s : Shape) (code : CodeParts) where
  step_acts : (words : List ℕ) (place : ℕ) (want : Want) → is_act (step_event words place want) ≡ true
  step_acts words place (Loads at) = refl
  step_acts words place (Stores at word) = refl
  step_acts words place (Exchanges at old new) = refl
  step_acts words place Nothing = refl

  act_acts : (words : List ℕ) (place : ℕ) (act : Act) (want : Want) → is_act (act_event words place act want) ≡ true
  act_acts words place (Step victim) want = step_acts words place want
  act_acts words place Soft want = refl
  act_acts words place Hard want = refl
  act_acts words place (Quit why) want = refl

  turn_acts : (state : State) (turn : Turn) (standing : Standing) → AreActs (events_in s code (event_by s code state turn standing))
  turn_acts state turn IsDone = tt
  turn_acts state turn IsLost = (act_acts state.words _ turn.act _, tt)
  turn_acts state turn (IsPlaced place) = (act_acts state.words _ turn.act _, tt)
  turn_acts state turn (IsAt place restart) = (act_acts state.words _ turn.act _, tt)
  turn_acts state turn (IsWithin seat row) = (act_acts state.words _ turn.act _, tt)
  turn_acts state turn (IsRunning seat rest) = (act_acts state.words _ turn.act _, tt)
  turn_acts state turn (IsBroken place) = (act_acts state.words _ turn.act _, tt)

  record_acts : (c : ℕ) (state : State) (turns : List Turn) → AreActs (record_of s code c state turns)
  record_acts c state [] = tt
  record_acts c state (turn ∷ turns) =
      are_both (events_by s code c state turn) (record_of s code c (happens s code state turn) turns) (by (turn.processor == c))
      (record_acts c (happens s code state turn) turns)
    where
      by : (b : Bool) → AreActs (if b then events_in s code (event_of s code state turn) else [])
      by true = turn_acts state turn (stand_of state turn.processor)
      by false = tt

-- without what is told where it parks
kept : (e : Event) (events : List Event) → is_act e ≡ true → filter is_act (e ∷ events) ≡ e ∷ filter is_act events
kept e events is = cond-true (is_act e) (e ∷ filter is_act events) (filter is_act events) is

all_kept : (events : List Event) → AreActs events → filter is_act events ≡ events
all_kept [] all = refl
all_kept (e ∷ events) all = kept e events all.0 ∙ ap (λ l. e ∷ l) (all_kept events all.1)

module _ (plan : Planned) (limits : Limits) (c : ℕ) where
  parks_apart : (past : Past) (stood : Standing) (events : List Event) → filter is_act (told_before plan limits c past stood ++ events) ≡ filter is_act events
  parks_apart past stood events = by (parks plan limits c past stood)
    where
      by : (b : Bool) → filter is_act ((if b then parked stood ∷ [] else []) ++ events) ≡ filter is_act events
      by true = refl
      by false = refl

  told_apart : (past : Past) (deeds : List Deed) (events : List Event) → AreActs events → filter is_act (told_from plan limits c past deeds events) ≡ events
  told_apart past [] events all = all_kept events all
  told_apart past (deed ∷ deeds) [] all = refl
  told_apart past (deed ∷ deeds) (e ∷ events) all =
      parks_apart past deed.stood (e ∷ told_from plan limits c (behind (awake plan limits c past deed.stood) deed) deeds events)
      ∙ kept e (told_from plan limits c (behind (awake plan limits c past deed.stood) deed) deeds events) all.0
      ∙ ap (λ l. e ∷ l) (told_apart (behind (awake plan limits c past deed.stood) deed) deeds events all.1)

  -- where it is to leave
  told_all : (past : Past) (deeds : List Deed) (events : List Event) → limits.idle ≡ Leave → told_from plan limits c past deeds events ≡ events
  told_all past [] events leaves = refl
  told_all past (deed ∷ deeds) [] leaves = refl
  told_all past (deed ∷ deeds) (e ∷ events) leaves =
      ap (λ idle. (if is_park idle && (is_seek (next_of deed.stood) && not (keeps plan.items c) && nat_le limits.looks past.looks)
      then parked deed.stood ∷ [] else [])
      ++ (e ∷ told_from plan limits c (behind (awake plan limits c past deed.stood) deed) deeds events)) leaves
      ∙ ap (λ l. e ∷ l) (told_all (behind (awake plan limits c past deed.stood) deed) deeds events leaves)

pub tells_record : (s : Shape) (code : CodeParts) → TellsRecord s code
tells_record s code plan limits c state turns =
    told_apart plan limits c nothing_done (deeds_of s code c state turns) (record_of s code c state turns) (record_acts s code c state turns)

pub tells_no_more : (s : Shape) (code : CodeParts) → TellsNoMore s code
tells_no_more s code plan limits c state turns leaves =
    told_all plan limits c nothing_done (deeds_of s code c state turns) (record_of s code c state turns) leaves
