-- Steps in a row that surely obey.
use Rattle.std.proofs.Common.{◌≡◌, ◌≢◌, ◌∙◌, ◌≤◌, ◌<◌, ◌+◌, ◌⊎◌, inl, inr, ℕ, zero, suc, Bool, true, false, if◌then◌else◌, None, List, [], ◌∷◌, ◌++◌, length, arith, refl, sym, ap, subst, append-nil}
use Rattle.std.proofs.lemmas.Bool.{cases_Bool}
use Rattle.ppm_cells.specs.declared.shape.Shape.{Shape}
use Rattle.ppm_code.specs.declared.code.CodeParts.{CodeParts}
use Rattle.ppm_words.specs.declared.event.Event.{Event}
use Rattle.ppm_plan.specs.Schedules.{Planned}
use Rattle.ppm_step.specs.declared.local.Local.{Local}
use Rattle.ppm_step.specs.declared.turn.Act.{Act}
use Rattle.ppm_step.specs.declared.turn.Act.TheVariants.{Step, Soft, Hard, Quit}
use Rattle.ppm_step.specs.declared.turn.Next.{Next}
use Rattle.ppm_step.specs.declared.turn.Next.TheVariants.{Work, Look, Seek, Done}
use Rattle.ppm_step.specs.Locals.{IsLocal, standing_of}
use Rattle.ppm_step.specs.Standings.{Standing, IsDone}
use Rattle.ppm_step.specs.State.{want_of, next_of, is_work_next as is_work}
use Rattle.ppm_choice.specs.declared.limits.Limits.{Limits}
use Rattle.ppm_choice.specs.Deeds.{Deed as Acted}
use Rattle.ppm_choice.specs.Drawn.{is_over}
use Rattle.ppm_choice.specs.Obeying.{Past, behind as past_behind, fault_of, parks, awake, Rests, Stops, Obeys}
use Rattle.ppm_choice.specs.Paces.{AreClear}
use Rattle.ppm_choice.specs.Tells.{parked, told_before, told_from}
use Rattle.ppm_choice.proofs.OverLemmas.{done_is}
use Rattle.ppm_choice.proofs.ParkLemmas.{parks_rests, stays_awake}
use Rattle.ppm_choice.proofs.StepsLemmas.{next_is_step}
use Rattle.ppm_table.specs.declared.view.Deed.{Deed}
use Rattle.ppm_table.specs.Run.{act_by, behind, stood, deed_of, IsActAt}
use Rattle.ppm_table.specs.Telling.{event_of_deed, shown}
use Rattle.ppm_table.proofs.StandLemmas.{step_told}
use Rattle.ppm_table.proofs.AskedLemmas.{asked}
use Rattle.ppm_stretch.specs.Steady.{AreSteady, work_in, looks_in}
use Rattle.ppm_threads.specs.Going.{acted, acts_of}

-- a processor whose coming step is none is done
pub over_is : (next : Next) (stood : Standing) → is_over next ≡ true → next ≡ next_of stood → stood ≡ IsDone
over_is Done stood e is = done_is stood (sym is)
over_is Work stood e is = cc
over_is Look stood e is = cc
over_is Seek stood e is = cc

pub lives_on : (next : Next) (stood : Standing) → is_over next ≡ false → next ≡ next_of stood → stood ≢ IsDone
lives_on next stood e is done = let over : is_over next ≡ true = ap is_over (is ∙ ap next_of done) in let none : true ≡ false = sym over ∙ e in cc

-- the act that a deed tells is the one that was made
pub act_told : (s : Shape) (code : CodeParts) (local : Local) (act : Act) (found : ℕ) → IsLocal s code local → standing_of s code local ≢ IsDone
    → IsActAt s (standing_of s code local) act
    → act_by s (standing_of s code local) (deed_of act (want_of s code local.own act (standing_of s code local)) found) ≡ act
act_told s code local (Step victim) found holds lives may =
    step_told s local.own victim (standing_of s code local) (want_of s code local.own (Step victim) (standing_of s code local)) found
    (asked s code local victim holds lives) may refl
act_told s code local Soft found holds lives may = refl
act_told s code local Hard found holds lives may = refl
act_told s code local (Quit why) found holds lives may = refl

-- the acts of more deeds
pub acts_both : (s : Shape) (code : CodeParts) (own : ℕ) (st : Standing) (ds es : List Deed)
    → acts_of s code own st (ds ++ es) ≡ acts_of s code own st ds ++ acts_of s code own (stood s code own st ds) es
acts_both s code own st [] es = refl
acts_both s code own st (d ∷ ds) es = ap (λ (l : List Acted). acted s st d ∷ l) (acts_both s code own (behind s code own st d) ds es)

-- the past after steps for which nothing was chosen
module _ (s : Shape) (code : CodeParts) (own : ℕ) where
  abbrev pub past_along : Past → Standing → List Deed → Past
  past_along past st [] = past
  past_along past st (d ∷ ds) = past_along (past_behind past (record { stood = st; act = Step 0 })) (behind s code own st d) ds

  pub along_acts : (past : Past) (st : Standing) (ds : List Deed) → (past_along past st ds).acts ≡ past.acts + length ds
  along_acts past st [] = omega arith
  along_acts past st (d ∷ ds) = let hence = along_acts (past_behind past (record { stood = st; act = Step 0 })) (behind s code own st d) ds in omega
      (arith, hence)

  one_work : (b : Bool) (w r : ℕ) → (if b then w + 1 else w) + r ≡ w + ((if b then 1 else 0) + r)
  one_work true w r = omega arith
  one_work false w r = omega arith

  pub along_work : (past : Past) (st : Standing) (ds : List Deed) → (past_along past st ds).work ≡ past.work + work_in s code own st ds
  along_work past st [] = omega arith
  along_work past st (d ∷ ds) =
      along_work (past_behind past (record { stood = st; act = Step 0 })) (behind s code own st d) ds
      ∙ one_work (is_work (next_of st)) past.work (work_in s code own (behind s code own st d) ds)

  pub along_looks : (past : Past) (st : Standing) (ds : List Deed) → (past_along past st ds).looks ≡ looks_in s code own past.looks st ds
  along_looks past st [] = refl
  along_looks past st (d ∷ ds) = along_looks (past_behind past (record { stood = st; act = Step 0 })) (behind s code own st d) ds

  pub along_drawn : (past : Past) (st : Standing) (ds : List Deed) → AreSteady s code own st ds → (past_along past st ds).drawn ≡ past.drawn
  along_drawn past st [] all = refl
  along_drawn past st (d ∷ ds) all =
      along_drawn (past_behind past (record { stood = st; act = Step 0 })) (behind s code own st d) ds all.1
      ∙ ap (λ (b : Bool). if b then past.drawn + 1 else past.drawn) all.0.due

  work_grows : (b : Bool) (w : ℕ) → (if b then w + 1 else w) ≤ w + 1
  work_grows true w = omega arith
  work_grows false w = omega arith

  -- it doesn't rest there
  awake_there : (plan : Planned) (limits : Limits) (past : Past) (st : Standing) → next_of st ≢ Seek → ¬ Rests plan limits own past st
  awake_there plan limits past st seeks r = seeks r.seeks

  -- steps that surely obey
  pub steps_obey : (plan : Planned) (limits : Limits) (past : Past) (st : Standing) (ds : List Deed) (n : ℕ) → length ds ≤ n → AreClear plan limits own past n
      → AreSteady s code own st ds → (more : List Acted) (stands : Standing) → Obeys plan limits own (past_along past st ds) more stands
      → Obeys plan limits own past (acts_of s code own st ds ++ more) stands
  steps_obey plan limits past st [] n few clear all more stands o = o
  steps_obey plan limits past st (d ∷ ds) zero few clear all more stands o = absurd (omega (arith, few))
  steps_obey plan limits past st (d ∷ ds) (suc n) few clear all more stands o =
      let first = clear 0 (omega arith) in
      let none : fault_of plan.items own past.acts ≡ None = subst (λ (t : ℕ). fault_of plan.items own t ≡ None)
      (let e : past.acts + 0 ≡ past.acts = omega arith in e) first.0 in
      let left : past.work < limits.turns = omega (arith, first.1) in
      let next : Past = past_behind past (record { stood = st; act = Step 0 }) in
      let clear' : AreClear plan limits own next n = λ k less. (
        subst (λ (t : ℕ). fault_of plan.items own t ≡ None) (let e : past.acts + suc k ≡ past.acts + 1 + k = omega arith in e)
            (clear (suc k) (omega (arith, less))).0,
        (let c = (clear (suc k) (omega (arith, less))).1 in let g = work_grows (is_work (next_of st)) past.work in omega (arith, c, g)),
      ) in
      let hence = steps_obey plan limits next (behind s code own st d) ds n (omega (arith, few)) clear' all.1 more stands o in
      let stays : ¬ Stops plan limits own past st = λ stops. elim stops [ inl done ↦ all.0.lives done | inr rests ↦ all.0.seeks rests.1.seeks ] in (
        stays,
        all.0.act ∙ sym (next_is_step plan limits own past st none left all.0.due),
        subst (λ (p : Past). Obeys plan limits own (past_behind p (acted s st d)) (acts_of s code own (behind s code own st d) ds ++ more) stands)
            (sym (stays_awake plan limits own past st (awake_there plan limits past st all.0.seeks)))
            (subst (λ (a : Act). Obeys plan limits own (past_behind past (record { stood = st; act = a }))
            (acts_of s code own (behind s code own st d) ds ++ more) stands) (sym all.0.act) hence),
      )

  -- before none of them it has parked
  pub not_parked : (plan : Planned) (limits : Limits) (past : Past) (st : Standing) → ¬ Rests plan limits own past st
      → told_before plan limits own past st ≡ []
  not_parked plan limits past st none = by (cases_Bool (parks plan limits own past st))
    where
      by : (parks plan limits own past st ≡ true) ⊎ (parks plan limits own past st ≡ false) → told_before plan limits own past st ≡ []
      by (inl is) = absurd (none (parks_rests plan limits own past st is).1)
      by (inr is) = ap (λ (b : Bool). if b then parked st ∷ [] else []) is

  -- all that is told of steady deeds are their events
  pub steps_tell : (plan : Planned) (limits : Limits) (past : Past) (st : Standing) (ds : List Deed) → AreSteady s code own st ds
      → (more : List Acted) (events : List Event)
      → told_from plan limits own past (acts_of s code own st ds ++ more) (shown s code own st ds ++ events)
      ≡ shown s code own st ds ++ told_from plan limits own (past_along past st ds) more events
  steps_tell plan limits past st [] all more events = refl
  steps_tell plan limits past st (d ∷ ds) all more events =
      let e = event_of_deed s own st d in
      let acts = acts_of s code own (behind s code own st d) ds ++ more in
      let events_of = shown s code own (behind s code own st d) ds ++ events in
      let none = awake_there plan limits past st all.0.seeks in
      ap (λ (l : List Event). l ++ (e ∷ told_from plan limits own (past_behind (awake plan limits own past st) (acted s st d)) acts events_of))
      (not_parked plan limits past st none)
      ∙ ap (λ (p : Past). e ∷ told_from plan limits own (past_behind p (acted s st d)) acts events_of) (stays_awake plan limits own past st none)
      ∙ ap (λ (a : Act). e ∷ told_from plan limits own (past_behind past (record { stood = st; act = a })) acts events_of) all.0.act
      ∙ ap (λ (l : List Event). e ∷ l) (steps_tell plan limits (past_behind past (record { stood = st; act = Step 0 })) (behind s code own st d) ds
      all.1 more events)

  told_none : (plan : Planned) (limits : Limits) (past : Past) (l : List Event) → l ++ told_from plan limits own past [] [] ≡ l
  told_none plan limits past l = append-nil l

  pub steps_told : (plan : Planned) (limits : Limits) (past : Past) (st : Standing) (ds : List Deed) → AreSteady s code own st ds
      → told_from plan limits own past (acts_of s code own st ds) (shown s code own st ds) ≡ shown s code own st ds
  steps_told plan limits past st ds all =
      ap (λ (l : List Acted). told_from plan limits own past l (shown s code own st ds)) (sym (append-nil (acts_of s code own st ds)))
      ∙ ap (λ (l : List Event). told_from plan limits own past (acts_of s code own st ds ++ []) l) (sym (append-nil (shown s code own st ds)))
      ∙ steps_tell plan limits past st ds all [] []
      ∙ told_none plan limits (past_along past st ds) (shown s code own st ds)
