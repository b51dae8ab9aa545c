-- The place after an act, after one that is left out, and after a fault.
use Rattle.std.proofs.Common.{◌≡◌, ◌∙◌, refl, sym, ap, subst, ℕ, ◌+◌, true, false, if◌then◌else◌, List, [], ◌∷◌, ◌++◌, None}
use Rattle.ppm_plan.specs.declared.fault.Fault.{Fault}
use Rattle.ppm_plan.specs.declared.schedule_item.ScheduledAct.{ScheduledAct}
use Rattle.ppm_plan.specs.declared.schedule_item.ScheduledAct.TheVariants.{Step, Fails}
use Rattle.ppm_plan.specs.declared.schedule_item.ScheduleItem.{ScheduleItem}
use Rattle.ppm_step.specs.State.{stand_of, is_done_at}
use Rattle.ppm_core.specs.Machine.{seen}
use Rattle.ppm_core.specs.Situation.{Situation}
use Rattle.ppm_cells.specs.declared.shape.Shape.{Shape}
use Rattle.ppm_code.specs.declared.code.CodeParts.{CodeParts}
use Rattle.ppm_choice.specs.Course.{Listed, Course, act_of, processor_of, is_made, behind_act}
use Rattle.ppm_choice.specs.Schedules.{listed, dues_of}
use Rattle.ppm_core.specs.Machine.{Holding}
use Rattle.ppm_following.specs.Followed.{followed}
use Rattle.ppm_following.specs.declared.following.Way.{Way}
use Rattle.ppm_following.specs.Following.{course, IsReady, Does}
use Rattle.ppm_following.proofs.DoesLemmas.{shape_stays}
use Rattle.ppm_sweep.specs.declared.ahead.Coming.{Coming}
use Rattle.ppm_sweep.specs.declared.ahead.Coming.TheVariants as coming
use Rattle.ppm_sweep.specs.declared.spot.Spot.{Spot}
use Rattle.ppm_sweep.specs.Ahead.{Passes, due_of}
use Rattle.ppm_sweep.specs.Meets.{HasArraysOf}
use Rattle.ppm_sweep.specs.Spots.{place_of, GoesOn, Advances, IsLast, CameFrom, first_way}
use Rattle.ppm_sweep.specs.Sweep.{with_act, written, struck}
use Rattle.ppm_sweep.proofs.SpotLemmas.{written_on, code_stays, arrays_stay, left_of, made, made_listed, same_behind, skipped, not_done, whole_run}

-- an act more was made and written
abbrev pub Made : (act : ScheduledAct) → (old new : Spot) → Type 0
Made act old new =
    (new.front.items ≡ with_act old.front.items act)
    × Does (Listed act ∷ []) (seen old.machine) old.way (seen new.machine) new.way
    × IsReady (seen new.machine) new.way

pub goes_on : (act : ScheduledAct) (old new : Spot) → Made act old new → new.ahead.processors ≡ old.ahead.processors → GoesOn old new
goes_on act old new m same = record {
  shape = shape_stays m.1;
  code = code_stays m.1;
  is_spot = λ wanted h. record {
    ready = m.2;
    processors = same ∙ h.processors ∙ sym (ap (λ s. s.processors) (shape_stays m.1));
    arrays = arrays_stay wanted m.1 h.arrays;
  };
  came = λ from first came.
      subst (λ items. Does (listed items) from first (seen new.machine) new.way) (sym m.0) (written_on old.front.items act came m.1);
}

front_is : (s : Shape) (code : CodeParts) (w : Course) (front : List ScheduleItem) (c : Coming) → is_made s code w (due_of c) ≡ true
    → written s code w front (due_of c) ≡ with_act front (act_of (due_of c))
front_is s code w front (coming.Listed act) e = refl
front_is s code w front (coming.InRound k) e = ap (λ b. if b then with_act front (Step k None) else front) e

-- what came next was made
pub advanced : (old new : Spot) (c : Coming) → ¬ IsLast (seen old.machine) old.way c
    → is_done_at (stand_of (seen old.machine).state (processor_of (act_of (due_of c)))) ≡ false → Made (act_of (due_of c)) old new
    → Passes (due_of c) old.ahead new.ahead → new.ahead.processors ≡ old.ahead.processors → new.number ≡ old.number + 1 → new.faults ≡ old.faults
    → Advances (due_of c) old new
advanced old new c more lives m p same number faults =
    let n = seen old.machine in
    let w = course n old.way in
    let is = made n old.way c more lives in
    let listed_too = made_listed n old.way (act_of (due_of c)) (left_of n old.way c more) lives in
    record {
      goes_on = goes_on (act_of (due_of c)) old new m same;
      dues = p.dues;
      place = λ i. record {
        course = (m.1.course_is ∙ same_behind n.shape n.code w (due_of c) is listed_too) i;
        front = (m.0 ∙ sym (front_is n.shape n.code w old.front.items c is)) i;
        rest = p.rest i;
      };
      number = number ∙ ap (λ b. if b then old.number + 1 else old.number) (sym is);
      faults = faults;
    }

-- what is written of what is left out
abbrev pub Skips : Coming → (old new : List ScheduleItem) → Type 0
Skips (coming.Listed act) old new = new ≡ with_act old act
Skips (coming.InRound k) old new = new ≡ old

front_left : (s : Shape) (code : CodeParts) (w : Course) (old new : List ScheduleItem) (c : Coming) → is_made s code w (due_of c) ≡ false → Skips c old new
    → new ≡ written s code w old (due_of c)
front_left s code w old new (coming.Listed act) e h = h
front_left s code w old new (coming.InRound k) e h = h ∙ ap (λ b. if b then with_act old (Step k None) else old) (sym e)

came_left : (c : Coming) (old new : List ScheduleItem) (from n : Situation) (first way : Way)
    → is_done_at (stand_of n.state (processor_of (act_of (due_of c)))) ≡ true → Skips c old new
    → Does (listed old) from first n way → Does (listed new) from first n way
came_left (coming.Listed act) old new from n first way done h d =
    subst (λ items. Does (listed items) from first n way) (sym h) (written_on old act d (not_done act done))
came_left (coming.InRound k) old new from n first way done h d = subst (λ items. Does (listed items) from first n way) (sym h) d

-- what came next was left out
pub left_out : (old new : Spot) (c : Coming)
    → is_done_at (stand_of (seen old.machine).state (processor_of (act_of (due_of c)))) ≡ true → Skips c old.front.items new.front.items
    → new.machine ≡ old.machine → new.way ≡ old.way
    → Passes (due_of c) old.ahead new.ahead → new.ahead.processors ≡ old.ahead.processors → new.number ≡ old.number → new.faults ≡ old.faults
    → Advances (due_of c) old new
left_out old new c done h machine way p same number faults =
    let n = seen old.machine in
    let w = course n old.way in
    let is_not = skipped n old.way (due_of c) done in
    let goes : GoesOn old new = record {
      shape = ap (λ k. (seen k).shape) machine;
      code = ap (λ k. (seen k).code) machine;
      is_spot = λ wanted k. record {
        ready = subst (λ x. IsReady (seen new.machine) x) (sym way) (subst (λ x. IsReady (seen x) old.way) (sym machine) k.ready);
        processors = same ∙ k.processors ∙ sym (ap (λ x. (seen x).shape.processors) machine);
        arrays = subst (λ x. HasArraysOf (seen x) wanted) (sym machine) k.arrays;
      };
      came = λ from first came.
          subst (λ x. Does (listed new.front.items) from first (seen new.machine) x) (sym way)
          (subst (λ x. Does (listed new.front.items) from first (seen x) old.way) (sym machine)
          (came_left c old.front.items new.front.items from n first old.way done h came));
    } in
    record {
      goes_on = goes;
      dues = p.dues;
      place = λ i. record {
        course = ((λ j. course (seen (machine j)) (way j)) ∙ ap (λ b. if b then behind_act n.shape n.code w (act_of (due_of c)) else w) (sym is_not)) i;
        front = front_left n.shape n.code w old.front.items new.front.items c is_not h i;
        rest = p.rest i;
      };
      number = number ∙ ap (λ b. if b then old.number + 1 else old.number) (sym is_not);
      faults = faults;
    }

-- a fault struck
pub struck_place : (old new : Spot) (c : ℕ) (fault : Fault) → Made (Fails c fault) old new → new.ahead.rest ≡ old.ahead.rest
    → place_of new ≡ struck (seen old.machine).shape (seen old.machine).code (place_of old) c fault
struck_place old new c fault m rest = λ i. record { course = m.1.course_is i; front = m.0 i; rest = rest i }

-- the end of a run that goes on from a copy of a machine
pub whole_from : (m : Situation) (turns : ℕ) (spot : Spot) (machine : Holding) (items : List ScheduleItem) {o : Situation} {u : Way}
    → CameFrom m (first_way turns) spot → machine ≡ spot.machine → items ≡ spot.ahead.rest
    → Does (dues_of (seen machine).shape.processors items turns) (seen machine) spot.way o u
    → o ≡ followed m (spot.front.items ++ spot.ahead.rest) turns
whole_from m turns spot machine items {o} {u} came e f d =
    whole_run spot.front.items spot.ahead.rest turns came
    (subst (λ k. Does (dues_of (seen k).shape.processors spot.ahead.rest turns) (seen k) spot.way o u) e
    (subst (λ l. Does (dues_of (seen machine).shape.processors l turns) (seen machine) spot.way o u) f d))
