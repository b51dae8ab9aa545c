-- The turns of a schedule that may be obeyed name processors of the machine alone.
use Rattle.std.proofs.Common.{◌≡◌, ℕ, ◌+◌, ◌<◌, Bool, true, false, ◌||◌, not, nat_lt, cond, List, [], ◌∷◌, ◌++◌, Option, Some, None, refl, sym, subst, inl, inr, ◌⊎◌, ltb-true}
use Rattle.std.specs.List.{AllByRecursion}
use Rattle.std.proofs.lemmas.Bool.{both_ways, lt-ltb}
use Rattle.std.proofs.lemmas.Nat.{mod_below}
use Rattle.std.proofs.lemmas.Option.{none-some}
use Rattle.ppm_cells.specs.declared.shape.Shape.{Shape}
use Rattle.ppm_code.specs.declared.code.CodeParts.{CodeParts}
use Rattle.ppm_plan.specs.declared.fault.Fault.TheVariants as faults
use Rattle.ppm_plan.specs.declared.schedule_item.ScheduleItem.{ScheduleItem}
use Rattle.ppm_plan.specs.declared.schedule_item.ScheduledAct.{ScheduledAct}
use Rattle.ppm_plan.specs.declared.schedule_item.ScheduledAct.TheVariants.{Step, Fails}
use Rattle.ppm_plan.specs.Forms.{schedule_form, victim_outside, act_outside}
use Rattle.ppm_plan.specs.Refusals.{first_at, IsAccepted}
use Rattle.ppm_step.specs.declared.turn.Turn.{Turn}
use Rattle.ppm_step.specs.Among.{IsTurnAmong}
use Rattle.ppm_step.specs.State.{State}
use Rattle.ppm_choice.specs.Course.{Due, Course, act_of, victim_of, turn_of, loads_of, seeks, behind, turns_in, turns_of}
use Rattle.ppm_choice.specs.Schedules.{dues_of, beginning, schedule_turns}
use Rattle.ppm_choice.proofs.DueLemmas.{all_due}
use Rattle.ppm_choice.proofs.MadeLemmas.{Makes, Skips, made_or_not}

-- where a test finds none, it fails of each
none_found : {A : Type 0} (test : A → Bool) (n : ℕ) (l : List A) → first_at test n l ≡ None → AllByRecursion (λ x. test x ≡ false) l
none_found test n [] h = tt
none_found test n (x ∷ l) h = go (test x) refl h (none_found test (n + 1) l)
  where
    go : (b : Bool) → test x ≡ b → cond b (Some n) (first_at test (n + 1) l) ≡ None
        → (first_at test (n + 1) l ≡ None → AllByRecursion (λ y. test y ≡ false) l) → AllByRecursion (λ y. test y ≡ false) (x ∷ l)
    go true e k more = absurd (none-some n (sym k))
    go false e k more = (e, more k)

-- one that isn't outside is there
there : (p c : ℕ) (b : Bool) → nat_lt c p ≡ b → not b ≡ false → c < p
there p c true e h = ltb-true c p e
there p c false e h = absurd (both_ways true h refl)

neither : (a b : Bool) → (a || b) ≡ false → (a ≡ false) × (b ≡ false)
neither false b h = (refl, h)
neither true b h = absurd (both_ways true h refl)

module _ (p : ℕ) where
  -- the act names processors that are there
  abbrev IsNamed : ScheduledAct → Type 0
  IsNamed act = act_outside p act ≡ false

  victim_among : (processor j : ℕ) (stated : Option ℕ) (is_load : Bool) → 0 < p → victim_outside p stated ≡ false
      → victim_of p processor j stated is_load < p
  victim_among processor j stated false some h = some
  victim_among processor j None true some h = mod_below (processor + 1 + j) p some
  victim_among processor j (Some v) true some h = there p v (nat_lt v p) refl h

  turn_among : (w : Course) (act : ScheduledAct) → 0 < p → IsNamed act → IsTurnAmong p (turn_of p w act)
  turn_among w (Step c stated) some h =
      let k = neither (not (nat_lt c p)) (victim_outside p stated) h in
      record {
        processor = there p c (nat_lt c p) refl k.0;
        act = victim_among c (loads_of w c) stated (seeks w c) some k.1;
      }
  turn_among w (Fails c faults.Soft) some h = record { processor = there p c (nat_lt c p) refl h; act = tt }
  turn_among w (Fails c faults.Hard) some h = record { processor = there p c (nat_lt c p) refl h; act = tt }

  both : (first more : List Turn) → AllByRecursion (IsTurnAmong p) first → AllByRecursion (IsTurnAmong p) more
      → AllByRecursion (IsTurnAmong p) (first ++ more)
  both [] more all also = also
  both (turn ∷ first) more all also = (all.0, both first more all.1 also)

  -- a processor that is there takes its step in a round
  in_round : (c : ℕ) → c < p → IsNamed (Step c None)
  in_round c less = go (nat_lt c p) refl
    where
      go : (b : Bool) → nat_lt c p ≡ b → (not b || false) ≡ false
      go true e = refl
      go false e = absurd (both_ways (nat_lt c p) e (lt-ltb c p less))

module _ (s : Shape) (code : CodeParts) (some : 0 < s.processors) where
  all_among : (w : Course) (dues : List Due) → AllByRecursion (λ due. IsNamed s.processors (act_of due)) dues
      → AllByRecursion (IsTurnAmong s.processors) (turns_of s code w dues)
  all_among w [] all = tt
  all_among w (due ∷ dues) all =
      both s.processors (turns_in s code w due) (turns_of s code (behind s code w due) dues) (go (made_or_not s code w due))
      (all_among (behind s code w due) dues all.1)
    where
      go : Makes s code w due ⊎ Skips s code w due → AllByRecursion (IsTurnAmong s.processors) (turns_in s code w due)
      go (inl m) =
          subst (AllByRecursion (IsTurnAmong s.processors)) (sym m.turns) (turn_among s.processors w (act_of due) some all.0, tt)
      go (inr k) = subst (AllByRecursion (IsTurnAmong s.processors)) (sym k.turns) tt

  -- the turns of a schedule that is accepted for so many processors name these
  pub scheduled_among : (schedule : List ℕ) (p : ℕ) (items : List ScheduleItem) → s.processors ≡ p
      → IsAccepted schedule_form schedule p items
      → (state : State) (turns : ℕ) → AllByRecursion (IsTurnAmong s.processors) (schedule_turns s code state items turns)
  scheduled_among schedule p items same accepted state turns =
      all_among (beginning state turns) (dues_of s.processors items turns)
      (all_due (λ due. IsNamed s.processors (act_of due)) s.processors items turns
      (subst (λ (n : ℕ). AllByRecursion (λ item. IsNamed n item.act) items) (sym same)
      (none_found (schedule_form.is_outside p) 1 items accepted.obeyed.there))
      (λ c less. in_round s.processors c less))
