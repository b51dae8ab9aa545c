-- A processor after a turn.
use Rattle.std.proofs.Common.{◌≡◌, ◌≢◌, ◌∙◌, ◌⊎◌, inl, inr, ◌<◌, ◌≤◌, ◌+◌, ℕ, Bool, true, false, Option, Some, None, List, [], ◌∷◌, ◌++◌, length, arith, refl, sym, ap, subst}
use Rattle.std.proofs.lemmas.List.{length-append}
use Rattle.ppm_cells.specs.declared.shape.Shape.{Shape}
use Rattle.ppm_code.specs.declared.code.CodeParts.{CodeParts}
use Rattle.ppm_plan.specs.Draws.{Drawing}
use Rattle.ppm_plan.specs.Schedules.{Planned}
use Rattle.ppm_ports.specs.Told.{AppendsList, KeepsList}
use Rattle.ppm_words.specs.declared.event.Event.{Event}
use Rattle.ppm_step.specs.declared.ask.Want.{Want}
use Rattle.ppm_step.specs.declared.ask.Want.TheVariants.{Loads, Stores, Exchanges, Nothing}
use Rattle.ppm_step.specs.declared.turn.Act.{Act}
use Rattle.ppm_step.specs.declared.turn.Act.TheVariants.{Step, Soft, Hard, Quit}
use Rattle.ppm_step.specs.declared.turn.Told.{Told}
use Rattle.ppm_step.specs.declared.turn.Why.TheVariants.{Watch}
use Rattle.ppm_step.specs.Locals.{standing_of}
use Rattle.ppm_step.specs.Standings.{Standing, IsLost, IsPlaced, IsAt, IsWithin, IsRunning, IsBroken, IsDone}
use Rattle.ppm_step.specs.State.{want_of, next_of, seeks_holder}
use Rattle.ppm_step.specs.Told.{place_of}
use Rattle.ppm_choice.specs.declared.limits.Limits.{Limits}
use Rattle.ppm_choice.specs.declared.pace.Pace.{Pace}
use Rattle.ppm_choice.specs.Deeds.{Deed as Acted}
use Rattle.ppm_choice.specs.Drawn.{HasDrawn, IsNext}
use Rattle.ppm_choice.specs.Obeying.{Past, behind as past_behind, awake, is_work_deed, next_act}
use Rattle.ppm_choice.specs.Paces.{IsPace, AreClear}
use Rattle.ppm_table.specs.declared.processor.Processor.{Processor}
use Rattle.ppm_table.specs.declared.processor.Shared.{Shared}
use Rattle.ppm_table.specs.declared.view.Deed.{Deed}
use Rattle.ppm_table.specs.declared.view.Opening.{Opening}
use Rattle.ppm_table.specs.Events.{event_found, act_found, HasActed, HasMadeNone}
use Rattle.ppm_table.specs.Run.{act_by, stands_by, deeds_in, deed_by, deed_of, Mine, IsActAt}
use Rattle.ppm_threads.specs.declared.act_result.ActResult.{ActResult}
use Rattle.ppm_table.specs.Shown.{IsOf, deeds_of_processor, opening_of}
use Rattle.ppm_table.specs.Telling.{event_of_deed, shown}
use Rattle.ppm_table.proofs.TellingLemmas.{appended}
use Rattle.ppm_stretch.specs.Rows.{GivesUp, Quits}
use Rattle.ppm_stretch.specs.Steady.{Lives}
use Rattle.ppm_stretch.proofs.SteadyLemmas.{goes_both}
use Rattle.ppm_threads.specs.Going.{TraceGrows, HasMoreDeeds, GaveUp, HasQuit, Obeying, Acting, told_so_far, told_of_deeds, RunsOn, act_result_of}
use Rattle.ppm_threads.proofs.DrawnLemmas.{is_act_at}
use Rattle.ppm_threads.proofs.AlongLemmas.{act_told}
use Rattle.ppm_threads.proofs.GoingLemmas.{obeying_more, grows_more, grows_along, told_along, told_more, follows_along, so_far, quit_behind}

-- the next act of a processor on its way
pub next_own : (plan : Planned) (limits : Limits) (k : Opening) (own : ℕ) (deeds : List Deed) (pace : Pace) (victims victims' : Drawing)
    (act : Option Act) → (o : Obeying plan limits k own deeds pace victims)
    → ((past : Past) (stood : Standing) → IsPace plan limits past stood pace → HasDrawn plan limits pace.processor past victims
    → IsNext plan limits pace.processor past stood victims' act)
    → IsNext plan limits own o.past (stands_by k own deeds) victims' act
next_own plan limits k own deeds pace victims victims' act o next =
    subst (λ (c : ℕ). IsNext plan limits c o.past (stands_by k own deeds) victims' act) o.number
    (next o.past (stands_by k own deeds) o.pace_is (subst (λ (c : ℕ). HasDrawn plan limits c o.past victims) (sym o.number) o.drawn))

-- it names a processor as its victim, and 0 where none is due
pub may_act : (s : Shared) (p : Processor) (plan : Planned) (limits : Limits) (past : Past) (act : Act) → IsOf s p → plan.processors ≡ s.shape.processors
    → act ≡ next_act plan limits p.local.own past (stands_by (opening_of s) p.local.own (deeds_of_processor p))
    → IsActAt s.shape (standing_of s.shape s.code p.local) act
may_act s p plan limits past act of same is =
    let st : Standing = standing_of s.shape s.code p.local in
    let own = of.holds.own in
    let some : 0 < plan.processors = omega (arith, own, same) in
    subst (λ (a : Act). IsActAt s.shape st a) (sym is)
    (subst (λ (x : Standing). IsActAt s.shape st (next_act plan limits p.local.own past x)) of.stands
    (is_act_at plan limits p.local.own past s.shape st same some))

-- a processor whose watcher has refused quits for that, if it isn't done
done_or : (st : Standing) → (st ≡ IsDone) ⊎ (st ≢ IsDone)
done_or IsDone = inl refl
done_or IsLost = inr (λ e. cc)
done_or (IsPlaced place) = inr (λ e. cc)
done_or (IsAt place restart) = inr (λ e. cc)
done_or (IsWithin seat row) = inr (λ e. cc)
done_or (IsRunning seat rest) = inr (λ e. cc)
done_or (IsBroken place) = inr (λ e. cc)

pub gives_way : (s : Shared) (p q : Processor) (told : Told) → IsOf s p
    → (standing_of s.shape s.code p.local ≢ IsDone
    → HasActed s.shape s.code p.local.own (Quit Watch) (standing_of s.shape s.code p.local) (standing_of s.shape s.code q.local) (deeds_of_processor p)
    (deeds_of_processor q) told)
    → (standing_of s.shape s.code p.local ≡ IsDone
    → HasMadeNone (standing_of s.shape s.code p.local) (standing_of s.shape s.code q.local) (deeds_of_processor p) (deeds_of_processor q) told)
    → GaveUp (opening_of s) p.local.own (deeds_of_processor p) (deeds_of_processor q)
gives_way s p q told of acted none = by (done_or (standing_of s.shape s.code p.local))
  where
    by : (standing_of s.shape s.code p.local ≡ IsDone) ⊎ (standing_of s.shape s.code p.local ≢ IsDone)
        → GaveUp (opening_of s) p.local.own (deeds_of_processor p) (deeds_of_processor q)
    by (inl done) = inr (sym of.stands ∙ done, (none done).deed)
    by (inr lives) = inl (λ done. lives (of.stands ∙ done), (acted lives).deed)

-- a list that stays
kept_list : (before now : Option (List Event)) (list : List Event) → KeepsList before now → before ≡ Some list → now ≡ Some list
kept_list None now list h e = absurd (cc)
kept_list (Some before) None list h e = absurd h
kept_list (Some before) (Some now) list h e = ap (λ (l : List Event). Some l) h ∙ e

pub grows_still : (before now : Option (List Event)) (told : List Event) → KeepsList before now → TraceGrows before now told told
grows_still before now told h = λ list e. kept_list before now (list ++ told) h e

-- one step shows one event
one_shown : (s : Shape) (code : CodeParts) (own : ℕ) (st : Standing) (ds : List Deed) → length ds ≡ 1 → (e : Event) × (shown s code own st ds ≡ e ∷ [])
one_shown s code own st [] one = absurd (omega (arith, one))
one_shown s code own st (d ∷ []) one = (event_of_deed s own st d, refl)
one_shown s code own st (d ∷ d' ∷ ds) one = absurd (omega (arith, one))

-- one that has given up in a row of steps that surely obey has quit
pub row_quits : {W : Type 0} (told : W → Option (List Event)) (plan : Planned) (limits : Limits) (k : Opening) (own : ℕ) (me me' : Mine) (w w' : W)
    (most n : ℕ) (pace : Pace) (victims : Drawing) → (o : Obeying plan limits k own (deeds_in me.0) pace victims) → GivesUp told k own me me' w w' most
    → most ≤ n → AreClear plan limits own o.past n
    → HasQuit plan limits k own (told w) (told w') (told_of_deeds plan limits k own (deeds_in me.0)) (deeds_in me'.0)
row_quits told plan limits k own me me' w w' most n pace victims o g within clear =
    let r = g.refuses in
    let first = r.moves.goes in
    let all = goes_both k own me r.before g.behind r.made 1 r.work r.last_work r.looks r.last_looks r.exchanged r.last_exchanged first r.last in
    let few = r.few in
    let mid = told_of_deeds plan limits k own (deeds_in r.before.0) in
    let one = one_shown k.shape k.code own (stands_by k own (deeds_in r.before.0)) r.last.deeds r.last.count in
    let grown = grows_along plan limits k own (told w) r.mid me r.before pace victims r.made r.work r.looks o first r.moves.shows in
    record {
      obeyed = deeds_in g.behind.0;
      obeys = so_far plan limits k own (deeds_in g.behind.0) _
          (follows_along plan limits k own me g.behind pace victims (r.made + 1) _ _ n o all (omega (arith, few, within)) clear);
      gave_up = by g.behind g.lives r.stays g.quits;
      told = mid;
      refused = one.0;
      up_to = inl (told_along plan limits k own r.before g.behind _ 1 _ _
          (follows_along plan limits k own me r.before pace victims r.made _ _ n o first (omega (arith, few, within)) clear) r.last
          ∙ ap (λ (l : List Event). mid ++ l) one.1);
      grows = λ list e. kept_list r.mid (told w') (list ++ mid) r.keeps (grown list e);
    }
  where
    by : (behind : Mine) (lives : Bool) → Lives k own behind lives → Quits behind me' lives → GaveUp k own (deeds_in behind.0) (deeds_in me'.0)
    by behind true stays quits = inl (stays.1, quits)
    by behind false stays quits = inr (stays.1, ap (λ (m : Mine). deeds_in m.0) quits)

-- the event of a turn is that of its deed
step_says : (s : Shape) (own found : ℕ) (st : Standing) (want : Want) → event_found (place_of st) want found ≡ event_of_deed s own st (deed_by want found)
step_says s own found st (Loads at) = refl
step_says s own found st (Stores at word) = refl
step_says s own found st (Exchanges at old new) = refl
step_says s own found st Nothing = refl

act_says : (s : Shape) (code : CodeParts) (own found : ℕ) (st : Standing) (act : Act)
    → act_found (place_of st) act (want_of s code own act st) found ≡ event_of_deed s own st (deed_of act (want_of s code own act st) found)
act_says s code own found st (Step victim) = step_says s own found st (want_of s code own (Step victim) st)
act_says s code own found st Soft = refl
act_says s code own found st Hard = refl
act_says s code own found st (Quit why) = refl

some_event : (a b : Event) → Some a ≡ Some b → a ≡ b
some_event a b e = cc

-- and there is one
pub some_told : (e : Event) → Some e ≡ None → ⊥
some_told e is = cc

module _ (s : Shared) (p q : Processor) (act : Act) (told : Told) (of : IsOf s p) (of' : IsOf s q) (same : q.local.own ≡ p.local.own)
    (acted : HasActed s.shape s.code p.local.own act (standing_of s.shape s.code p.local) (standing_of s.shape s.code q.local) (deeds_of_processor p)
    (deeds_of_processor q) told)
    (lives : standing_of s.shape s.code p.local ≢ IsDone) (may : IsActAt s.shape (standing_of s.shape s.code p.local) act) where
  abbrev k : Opening
  k = opening_of s

  abbrev own : ℕ
  own = p.local.own

  abbrev st : Standing
  st = standing_of s.shape s.code p.local

  abbrev deed : Deed
  deed = deed_of act (want_of s.shape s.code own act st) acted.found

  stands' : standing_of s.shape s.code q.local ≡ stands_by k own (deeds_of_processor q)
  stands' = of'.stands ∙ ap (λ (c : ℕ). stands_by k c (deeds_of_processor q)) same

  tells : act_by k.shape (stands_by k own (deeds_of_processor p)) deed ≡ act
  tells = ap (λ (x : Standing). act_by k.shape x deed) (sym of.stands) ∙ ap (λ (t : Shape). act_by t st deed) s.told.0
      ∙ act_told s.shape s.code p.local act acted.found of.holds lives may

  -- it goes on obeying
  pub acts_obey : (plan : Planned) (limits : Limits) (past : Past) (pace pace' : Pace) (victims : Drawing) (due : Bool)
      → (a : Acting plan limits k own (deeds_of_processor p) past pace victims act)
      → pace'.processor ≡ pace.processor → due ≡ seeks_holder (standing_of s.shape s.code q.local)
      → ((pl : Planned) (past : Past) (d : Acted) (stands : Standing) → IsPace pl limits past d.stood pace → told.work ≡ is_work_deed d
      → told.next ≡ next_of stands → due ≡ seeks_holder stands
      → IsPace pl limits (past_behind past d) stands pace')
      → Obeying plan limits k own (deeds_of_processor q) pace' victims
  acts_obey plan limits past pace pace' victims due a number is_due counts =
      let one : Acted = record { stood = stands_by k own (deeds_of_processor p); act = act } in
      let works : told.work ≡ is_work_deed one = acted.work ∙ ap (λ (x : Standing). is_work_deed (record { stood = x; act = act })) of.stands in
      obeying_more plan limits k own (deeds_of_processor p) (deeds_of_processor q) deed act past pace victims a acted.deed tells pace' number
      (counts plan (awake plan limits own past (stands_by k own (deeds_of_processor p))) one (stands_by k own (deeds_of_processor q)) a.pace_is works
      (acted.next ∙ ap next_of stands') (is_due ∙ ap seeks_holder stands'))

  -- it has made one act more
  pub acts_more : HasMoreDeeds 1 p.seat.me q.seat.me
  acts_more = ap (λ (l : List Deed). length l) acted.deed ∙ length-append (deeds_of_processor p) (deed ∷ [])

  -- and its watcher was told of it
  pub acts_grow : (plan : Planned) (limits : Limits) (past : Past) (pace : Pace) (victims : Drawing) (before now : Option (List Event)) (event : Event)
      → (a : Acting plan limits k own (deeds_of_processor p) past pace victims act) → told.event ≡ Some event → AppendsList before now (event ∷ [])
      → TraceGrows before now (told_so_far plan limits k own (deeds_of_processor p) past) (told_of_deeds plan limits k own (deeds_of_processor q))
  acts_grow plan limits past pace victims before now event a is heard =
      let event_is : event ≡ event_of_deed k.shape own (stands_by k own (deeds_of_processor p)) deed =
      some_event _ _ (sym is ∙ acted.event) ∙ act_says s.shape s.code own acted.found st act
      ∙ ap (λ (x : Standing). event_of_deed s.shape own x deed) of.stands ∙ ap (λ (t : Shape). event_of_deed t own
      (stands_by k own (deeds_of_processor p)) deed) (sym s.told.0) in
      grows_more plan limits k own (deeds_of_processor p) (deeds_of_processor q) deed act past pace victims a acted.deed tells before now
      (λ list e. appended before now event list heard e ∙ ap (λ (x : Event). Some (list ++ x ∷ [])) event_is)

  -- or that refused to be told, and the processor has given up
  pub acts_refused : (plan : Planned) (limits : Limits) (past : Past) (pace pace' : Pace) (victims : Drawing) (due : Bool)
      (before now : Option (List Event)) (deeds : List Deed)
      → (a : Acting plan limits k own (deeds_of_processor p) past pace victims act)
      → pace'.processor ≡ pace.processor → due ≡ seeks_holder (standing_of s.shape s.code q.local)
      → ((pl : Planned) (past : Past) (d : Acted) (stands : Standing) → IsPace pl limits past d.stood pace → told.work ≡ is_work_deed d
      → told.next ≡ next_of stands → due ≡ seeks_holder stands
      → IsPace pl limits (past_behind past d) stands pace')
      → KeepsList before now → GaveUp k own (deeds_of_processor q) deeds
      → HasQuit plan limits k own before now (told_so_far plan limits k own (deeds_of_processor p) past) deeds
  acts_refused plan limits past pace pace' victims due before now deeds a number is_due counts kept gave_up =
      let o = acts_obey plan limits past pace pace' victims due a number is_due counts in
      record {
        obeyed = deeds_of_processor q;
        obeys = so_far plan limits k own (deeds_of_processor q) o.past o.follows;
        gave_up = gave_up;
        told = told_so_far plan limits k own (deeds_of_processor p) past;
        refused = event_of_deed k.shape own (stands_by k own (deeds_of_processor p)) deed;
        up_to = inl (told_more plan limits k own (deeds_of_processor p) (deeds_of_processor q) deed act past pace victims a acted.deed tells);
        grows = grows_still before now (told_so_far plan limits k own (deeds_of_processor p) past) kept;
      }

-- where a processor goes after an act that its watcher took, or refused
pub goes_by_act : (plan : Planned) (limits : Limits) (k : Opening) (own : ℕ) (before first now : Option (List Event)) (me me' : Mine) (past : Past)
    (pace' : Pace) (victims : Drawing)
    → (taken : Bool) (came : ActResult) → came ≡ act_result_of taken
    → TraceGrows before first (told_of_deeds plan limits k own (deeds_in me.0)) (told_so_far plan limits k own (deeds_in me.0) past)
    → (taken ≡ true → Obeying plan limits k own (deeds_in me'.0) pace' victims
    × TraceGrows first now (told_so_far plan limits k own (deeds_in me.0) past) (told_of_deeds plan limits k own (deeds_in me'.0)) × HasMoreDeeds 1 me me')
    → (taken ≡ false → HasQuit plan limits k own first now (told_so_far plan limits k own (deeds_in me.0) past) (deeds_in me'.0))
    → RunsOn plan limits k own before now me me' pace' victims came
goes_by_act plan limits k own before first now me me' past pace' victims taken came is grew obeys quits =
    subst (λ (w : ActResult). RunsOn plan limits k own before now me me' pace' victims w) (sym is) (by taken obeys quits)
  where
    by : (b : Bool) → (b ≡ true → Obeying plan limits k own (deeds_in me'.0) pace' victims
        × TraceGrows first now (told_so_far plan limits k own (deeds_in me.0) past) (told_of_deeds plan limits k own (deeds_in me'.0)) × HasMoreDeeds 1 me me')
        → (b ≡ false → HasQuit plan limits k own first now (told_so_far plan limits k own (deeds_in me.0) past) (deeds_in me'.0)) → RunsOn plan limits k own before now me me' pace' victims (act_result_of b)
    by true obeys quits = let o = obeys refl in let one = o.2 in (o.0, λ list e. o.1 list (grew list e), omega (arith, one))
    by false obeys quits =
        quit_behind plan limits k own before first now (told_of_deeds plan limits k own (deeds_in me.0)) (told_so_far plan limits k own (deeds_in me.0) past)
        (deeds_in me'.0) grew (quits refl)
