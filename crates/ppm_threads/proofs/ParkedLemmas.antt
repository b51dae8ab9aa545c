-- A processor that rests parks, and goes on after that.
use Rattle.std.proofs.Common.{◌≡◌, ◌≢◌, ◌∙◌, ◌≤◌, ◌+◌, inl, inr, ℕ, Bool, true, false, if◌then◌else◌, Option, Some, List, [], ◌∷◌, ◌++◌, arith, refl, sym, ap, subst, append_assoc}
use Rattle.ppm_words.specs.declared.event.Event.{Event}
use Rattle.ppm_words.specs.declared.idle.Idle.{Idle}
use Rattle.ppm_words.specs.declared.idle.Idle.TheVariants.{Leave, Park}
use Rattle.ppm_ports.specs.Told.{AppendsList, KeepsList}
use Rattle.ppm_plan.specs.Draws.{Drawing}
use Rattle.ppm_plan.specs.Schedules.{Planned}
use Rattle.ppm_step.specs.declared.turn.Act.{Act}
use Rattle.ppm_step.specs.declared.turn.Next.TheVariants.{Seek, Done}
use Rattle.ppm_step.specs.declared.turn.Why.TheVariants.{Watch}
use Rattle.ppm_step.specs.Standings.{Standing, IsDone}
use Rattle.ppm_step.specs.State.{next_of}
use Rattle.ppm_choice.specs.declared.limits.Limits.{Limits}
use Rattle.ppm_choice.specs.declared.pace.Pace.{Pace}
use Rattle.ppm_choice.specs.Drawn.{HasDrawn, IsNext}
use Rattle.ppm_choice.specs.Obeying.{Past, behind as past_behind, rested, is_park, parks, awake, Rests}
use Rattle.ppm_choice.specs.Paces.{IsPace}
use Rattle.ppm_choice.specs.Tells.{parked, told_before}
use Rattle.ppm_choice.proofs.ParkLemmas.{parks_where_it_rests}
use Rattle.ppm_table.specs.declared.view.Deed.{Deed}
use Rattle.ppm_table.specs.declared.view.Deed.TheVariants.{Quitted}
use Rattle.ppm_table.specs.declared.view.Opening.{Opening}
use Rattle.ppm_table.specs.Run.{stood, stands_by}
use Rattle.ppm_table.proofs.TellingLemmas.{appended}
use Rattle.ppm_table.specs.Telling.{event_of_deed}
use Rattle.ppm_threads.specs.Going.{TraceGrows, GaveUp, HasQuit, told_of_deeds, told_so_far, Resting, Acting}
use Rattle.ppm_threads.proofs.ActLemmas.{grows_still}
use Rattle.ppm_threads.proofs.GoingLemmas.{so_far, told_quit}

-- with a limit of looks above none
abbrev pub from_none : Limits → Limits
from_none limits = record { turns = limits.turns; looks = 1; seed = limits.seed; idle = limits.idle }

module _ (plan : Planned) (limits : Limits) (k : Opening) (own : ℕ) where
  -- a processor that rests parks, and acts then with no look after it
  pub acting_rested : (deeds : List Deed) (pace pace' : Pace) (victims victims' : Drawing) (act : Act) → (r : Resting plan limits k own deeds pace victims)
      → limits.idle ≡ Park → pace'.processor ≡ pace.processor
      → IsPace plan limits (rested r.obeying.past) (stands_by k own deeds) pace'
      → IsNext plan (from_none limits) own (rested r.obeying.past) (stands_by k own deeds) victims' (Some act)
      → Acting plan limits k own deeds r.obeying.past pace' victims' act
  acting_rested deeds pace pace' victims victims' act r idle number pace_is next =
      let st = stands_by k own deeds in
      let past = r.obeying.past in
      let is : parks plan limits own past st ≡ true = (parks_where_it_rests plan limits own past st).1 (idle, r.rests) in
      let up : awake plan limits own past st ≡ rested past = ap (λ (b : Bool). if b then rested past else past) is in
      let lives : st ≢ IsDone = λ done. let e : Done ≡ Seek = sym (ap next_of done) ∙ r.rests.seeks in cc in
      record {
        number = number ∙ r.obeying.number;
        pace_is = subst (λ (p : Past). IsPace plan limits p st pace') (sym up) pace_is;
        goes = λ stops. elim stops [ inl done ↦ lives done | inr leaves ↦ (let e : Park ≡ Leave = sym idle ∙ leaves.0 in cc) ];
        act_is = next.1;
        drawn = subst (λ (p : Past). HasDrawn plan limits own (past_behind p (record { stood = st; act = act })) victims') (sym up) next.2;
        follows = r.obeying.follows;
      }

  pub parked_before : (past : Past) (st : Standing) → limits.idle ≡ Park → Rests plan limits own past st
      → told_before plan limits own past st ≡ parked st ∷ []
  parked_before past st idle rests = ap (λ (b : Bool). if b then parked st ∷ [] else []) ((parks_where_it_rests plan limits own past st).1 (idle, rests))

-- the pace after a rest, as other limits of looks see it
pub looks_from_none : (plan : Planned) (limits : Limits) (past : Past) (st : Standing) (pace : Pace) → IsPace plan limits (rested past) st pace
    → IsPace plan (from_none limits) (rested past) st pace
looks_from_none plan limits past st pace p = record {
  keeper = p.keeper;
  acts = p.acts;
  work = p.work;
  looks = let e = p.looks in omega (arith, e);
  next = p.next;
  due = p.due;
}

pub none_rests : (plan : Planned) (limits : Limits) (own : ℕ) (past : Past) (st : Standing)
    → ¬ Rests plan (from_none limits) own (rested past) st
none_rests plan limits own past st r = let e : 1 ≤ 0 = r.looked in absurd (omega (arith, e))

-- a processor that rested makes its next act then
pub next_rested : (plan : Planned) (limits : Limits) (k : Opening) (own : ℕ) (deeds : List Deed) (pace pace' : Pace) (victims victims' : Drawing)
    (act : Option Act)
    → (r : Resting plan limits k own deeds pace victims) → pace'.processor ≡ pace.processor
    → IsPace plan limits (rested r.obeying.past) (stands_by k own deeds) pace'
    → ((past : Past) (stood : Standing) → IsPace plan (from_none limits) past stood pace' → HasDrawn plan (from_none limits) pace'.processor past victims
    → IsNext plan (from_none limits) pace'.processor past stood victims' act)
    → IsNext plan (from_none limits) own (rested r.obeying.past) (stands_by k own deeds) victims' act
next_rested plan limits k own deeds pace pace' victims victims' act r number pace_is next =
    subst (λ (c : ℕ). IsNext plan (from_none limits) c (rested r.obeying.past) (stands_by k own deeds) victims' act) (number ∙ r.obeying.number)
    (next (rested r.obeying.past) (stands_by k own deeds) (looks_from_none plan limits r.obeying.past (stands_by k own deeds) pace' pace_is)
    (subst (λ (c : ℕ). HasDrawn plan (from_none limits) c (rested r.obeying.past) victims) (sym (number ∙ r.obeying.number)) r.obeying.drawn))

-- a processor that rests isn't done
pub rests_live : (plan : Planned) (limits : Limits) (own : ℕ) (past : Past) (st : Standing) → Rests plan limits own past st → st ≢ IsDone
rests_live plan limits own past st r done = let e : Done ≡ Seek = sym (ap next_of done) ∙ r.seeks in cc

-- what limits say that a processor does which rests
pub leaves_if : (idle : Idle) → is_park idle ≡ false → idle ≡ Leave
leaves_if Leave e = refl
leaves_if Park e = cc

pub parks_if : (idle : Idle) → is_park idle ≡ true → idle ≡ Park
parks_if Leave e = cc
parks_if Park e = refl

-- where it rests and parks, event 7 is
pub grows_parked : (plan : Planned) (limits : Limits) (k : Opening) (own : ℕ) (deeds : List Deed) (past : Past) (before now : Option (List Event))
    (event : Event)
    → limits.idle ≡ Park → Rests plan limits own past (stands_by k own deeds) → event ≡ parked (stands_by k own deeds) → AppendsList before now (event ∷ [])
    → TraceGrows before now (told_of_deeds plan limits k own deeds) (told_so_far plan limits k own deeds past)
grows_parked plan limits k own deeds past before now event idle rests is heard = λ list e.
    let told = told_of_deeds plan limits k own deeds in
    appended before now event (list ++ told) heard e
    ∙ ap (λ (l : List Event). Some l)
    (append_assoc list told (event ∷ [])
    ∙ ap (λ (x : Event). list ++ (told ++ x ∷ [])) is
    ∙ ap (λ (l : List Event). list ++ (told ++ l)) (sym (parked_before plan limits k own past (stands_by k own deeds) idle rests)))

-- where its watcher refuses that, it quits
pub quits_parked : (plan : Planned) (limits : Limits) (k : Opening) (own : ℕ) (deeds deeds' : List Deed) (pace : Pace) (victims : Drawing)
    (before now : Option (List Event)) (event : Event) → (r : Resting plan limits k own deeds pace victims)
    → limits.idle ≡ Park → event ≡ parked (stands_by k own deeds) → KeepsList before now → GaveUp k own deeds deeds'
    → HasQuit plan limits k own before now (told_of_deeds plan limits k own deeds) deeds'
quits_parked plan limits k own deeds deeds' pace victims before now event r idle is kept gave_up =
    let o = r.obeying in
    let told = told_of_deeds plan limits k own deeds in
    let quit = event_of_deed k.shape own (stands_by k own deeds) (Quitted Watch) in
    record {
      obeyed = deeds;
      obeys = so_far plan limits k own deeds o.past o.follows;
      gave_up = gave_up;
      told = told;
      refused = event;
      up_to = inr (
        quit,
        told_quit plan limits k own deeds o.past o.follows
            ∙ ap (λ (l : List Event). (told ++ l) ++ quit ∷ []) (parked_before plan limits k own o.past (stands_by k own deeds) idle r.rests
            ∙ ap (λ (e : Event). e ∷ []) (sym is)),
      );
      grows = grows_still before now told kept;
    }
