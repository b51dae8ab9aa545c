-- One act: it is heard, and then made.
use Rattle.std.proofs.Common.{◌≡◌, ◌∙◌, ◌==◌, ℕ, ◌+◌, ◌-◌, ◌<◌, ◌≤◌, Bool, true, false, not}
use Rattle.std.proofs.Common.{◌&&◌, nat_lt, if◌then◌else◌, [], ◌∷◌, ◌++◌, None, ap, arith, refl, subst, sym}
use Rattle.ppm_choice.specs.Course.{InRound, Listed, behind_act, behind_all, is_made, loads_behind, processor_of, turn_of, turns_of}
use Rattle.ppm_core.specs.Acts.{is_done_at}
use Rattle.ppm_core.specs.Situation.{Situation, finish_in, turned, run_on}
use Rattle.ppm_core.proofs.RunLemmas.{run_none, run_step}
use Rattle.ppm_following.proofs.ReadyLemmas.{ready_behind}
use Rattle.ppm_following.specs.Following.{course, Does}
use Rattle.ppm_following.specs.declared.following.Way.{Way}
use Rattle.ppm_plan.specs.declared.schedule_item.ScheduledAct.{ScheduledAct}
use Rattle.ppm_plan.specs.declared.schedule_item.ScheduledAct.TheVariants as scheduled
use Rattle.ppm_step.specs.State.{happens, stand_of}
use Rattle.ppm_step.specs.declared.turn.Turn.{Turn}
use Rattle.ppm_trace.proofs.HearingLemmas.{Heard}
use Rattle.ppm_trace.specs.Hearing.{hearing, Hearing, Hears, IsHearing}

-- a test that holds, and one that fails
both_hold : (a b : Bool) → a ≡ true → b ≡ false → (a && true && not b) ≡ true
both_hold true false e f = refl
both_hold true true e f = sym f
both_hold false b e f = e

-- an act is left
is_left : (left : ℕ) → 0 < left → nat_lt 0 left ≡ true
is_left left some = grind (arith, some)

-- an act of the list that is made
module _ (m : Situation) (way : Way) (act : ScheduledAct) (turn : Turn) (some : 0 < way.left)
    (lives : is_done_at (stand_of m.state (processor_of act)) ≡ false) (turn_is : turn ≡ turn_of m.shape.processors (course m way) act) where
  is_made_now : is_made m.shape m.code (course m way) (Listed act) ≡ true
  is_made_now = both_hold (nat_lt 0 way.left) (is_done_at (stand_of m.state (processor_of act))) (is_left way.left some) lives

  turns_one : turns_of m.shape m.code (course m way) (Listed act ∷ []) ≡ turn ∷ []
  turns_one =
      ap (λ b. (if b then turn_of m.shape.processors (course m way) act ∷ [] else []) ++ []) is_made_now
      ∙ ap (λ t. t ∷ []) (sym turn_is)

  does_one : (m' : Situation) (v : Way) → v.loads ≡ loads_behind (course m way) act → v.left ≡ way.left → m' ≡ turned m turn
      → Does (Listed act ∷ []) m way m' (record { loads = v.loads; left = v.left - 1 })
  does_one m' v loads left is = record {
    machine = is ∙ run_none (turned m turn) ∙ run_step m turn [] ∙ ap (run_on m) (sym turns_one);
    course_is = course_path ∙ sym (ap (λ b. if b then behind_act m.shape m.code (course m way) act else course m way) is_made_now);
  }
    where
      state_path : m'.state ≡ happens m.shape m.code m.state (turn_of m.shape.processors (course m way) act)
      state_path = ap (λ k. k.state) is ∙ ap (happens m.shape m.code m.state) turn_is

      course_path : course m' (record { loads = v.loads; left = v.left - 1 }) ≡ behind_act m.shape m.code (course m way) act
      course_path = λ i. record { state = state_path i; loads = loads i; left = ap (λ n. n - 1) left i }

  -- it is heard as it is made
  pub hears_one : {Notes : Type 0} (heard : Heard Notes) (m' : Situation) (v : Way) (a b : Notes)
      → v.loads ≡ loads_behind (course m way) act → v.left ≡ way.left → m' ≡ turned m turn → heard m (turn ∷ []) a b
      → Hears heard (Listed act ∷ []) (hearing m way a) (hearing m' (record { loads = v.loads; left = v.left - 1 }) b)
  hears_one heard m' v a b loads left is told = record {
    does = does_one m' v loads left is;
    hears = subst (λ turns. heard m turns a b) (sym turns_one) told;
  }

-- the listener can go on after it
pub listens_on : {Notes : Type 0} (listens : Situation → Notes → Type 0) {m m' : Situation} {way v : Way} {a : Notes} (b : Notes) (act : ScheduledAct)
    (turn : Turn) → IsHearing listens (hearing m way a) → 0 < way.left
    → v.loads ≡ loads_behind (course m way) act → v.left ≡ way.left → m' ≡ turned m turn → listens (turned m turn) b
    → IsHearing listens (hearing m' (record { loads = v.loads; left = v.left - 1 }) b)
listens_on listens b act turn is some loads left same can = record {
  ready = ready_behind act turn is.ready some loads left same;
  can = subst (λ (k : Situation). listens k b) (sym same) can;
}

-- the step of a processor after the list is as one of the list, while the finish word says nothing
module _ (processor : ℕ) (m : Situation) (way : Way) (none : finish_in m ≡ 0) where
  abbrev act : ScheduledAct
  act = scheduled.Step processor None

  as_listed : is_made m.shape m.code (course m way) (InRound processor) ≡ is_made m.shape m.code (course m way) (Listed act)
  as_listed = ap (λ word. nat_lt 0 way.left && (word == 0) && not (is_done_at (stand_of m.state processor))) none

  pub in_round : {Notes : Type 0} (heard : Heard Notes) (a : Notes) (new : Hearing Notes) → Hears heard (Listed act ∷ []) (hearing m way a) new
      → Hears heard (InRound processor ∷ []) (hearing m way a) new
  in_round heard a new d =
      let w = course m way in
      let turns : turns_of m.shape m.code w (InRound processor ∷ []) ≡ turns_of m.shape m.code w (Listed act ∷ [])
      = ap (λ b. (if b then turn_of m.shape.processors w act ∷ [] else []) ++ []) as_listed in
      let course_after : behind_all m.shape m.code w (InRound processor ∷ []) ≡ behind_all m.shape m.code w (Listed act ∷ [])
      = ap (λ b. if b then behind_act m.shape m.code w act else w) as_listed in
      record {
        does = record {
          machine = d.does.machine ∙ ap (run_on m) (sym turns);
          course_is = d.does.course_is ∙ sym course_after;
        };
        hears = subst (λ ts. heard m ts a new.notes) (sym turns) d.hears;
      }
