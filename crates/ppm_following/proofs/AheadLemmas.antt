-- Steps in a row: what is due again and again, each time the step of a processor that is to make it.
use Rattle.std.proofs.Common.{◌≡◌, ◌==◌, refl, sym, ap, subst, ◌∙◌, arith, ℕ, zero, suc, ◌+◌, ◌-◌, ◌≤◌, Bool, true, false, not, ◌&&◌, nat_lt}
use Rattle.std.proofs.Common.{if◌then◌else◌, List, [], ◌∷◌, ◌++◌, None, replicate, slice_index, slice_set}
use Rattle.std.proofs.lemmas.List.{append_assoc, length-replicate, replicate-append-replicate}
use Rattle.ppm_step.specs.declared.turn.Act.TheVariants.{Step}
use Rattle.ppm_step.specs.State.{stand_of, happens}
use Rattle.ppm_core.specs.Acts.{is_done_at}
use Rattle.ppm_core.specs.Situation.{Situation, finish_in, turned, run_on}
use Rattle.ppm_core.specs.Steps.{steady_step, steady_steps, IsSteady, AreSteady}
use Rattle.ppm_following.specs.declared.following.Way.{Way}
use Rattle.ppm_choice.specs.Course.{Due, Listed, InRound, Course, act_of, processor_of, victim_of, loads_of, turn_of, loads_behind}
use Rattle.ppm_choice.specs.Course.{is_open, is_made, behind_act, behind, turns_in, behind_all, turns_of}
use Rattle.ppm_choice.specs.Schedules.{round, rounds}
use Rattle.ppm_following.specs.Following.{course, IsReady, IsStepOf, Does, LeadsTo}
use Rattle.ppm_following.proofs.DoesLemmas.{goes_on_by}

-- three tests that hold
all_hold : (a b c : Bool) → a ≡ true → b ≡ true → c ≡ false → (a && b && not c) ≡ true
all_hold true true false e f g = refl
all_hold true true true e f g = sym g
all_hold true false c e f g = f
all_hold false b c e f g = e

-- an act is left for the first of so many
has_left : (n left : ℕ) → suc n ≤ left → nat_lt 0 left ≡ true
has_left n left few = grind (arith, few)

-- while the finish word says nothing, all that is due is open
opens : (m : Situation) (due : Due) → finish_in m ≡ 0 → is_open m.shape m.code m.state due ≡ true
opens m (Listed act) none = refl
opens m (InRound processor) none = ap (λ word. word == 0) none

-- a run under way, in which such a step is due
module _ (m : Situation) (loads : List ℕ) (left : ℕ) (due : Due) (processor : ℕ) (step : IsStepOf processor due) (plain : IsSteady m processor) where
  abbrev now : Course
  now = record { state = m.state; loads = loads; left = left }

  -- the run after it
  abbrev then_on : Course
  then_on = record { state = (turned m (steady_step processor)).state; loads = loads; left = left - 1 }

  -- it is made, as a plain step, and leaves the loads as they were
  step_made : (n : ℕ) → suc n ≤ left → is_made m.shape m.code now due ≡ true
  step_made n few =
      all_hold (nat_lt 0 left) (is_open m.shape m.code m.state due) (is_done_at (stand_of m.state (processor_of (act_of due))))
      (has_left n left few) (opens m due plain.finish)
      (ap (λ act. is_done_at (stand_of m.state (processor_of act))) step.act_is ∙ plain.lives)

  step_turn : turn_of m.shape.processors now (act_of due) ≡ steady_step processor
  step_turn =
      ap (turn_of m.shape.processors now) step.act_is
      ∙ ap (λ seeks. record {
        processor = processor;
        act = Step (victim_of m.shape.processors processor (loads_of now processor) step.stated seeks);
      }) plain.seeks_none

  step_loads : loads_behind now (act_of due) ≡ loads
  step_loads =
      ap (loads_behind now) step.act_is
      ∙ ap (λ seeks. if seeks then slice_set loads processor (loads_of now processor + 1) else loads) plain.seeks_none

  behind_step : (n : ℕ) → suc n ≤ left → behind m.shape m.code now due ≡ then_on
  behind_step n few =
      ap (λ b. if b then behind_act m.shape m.code now (act_of due) else now) (step_made n few)
      ∙ (λ i. record { state = happens m.shape m.code m.state (step_turn i); loads = step_loads i; left = left - 1 })

  turns_in_step : (n : ℕ) → suc n ≤ left → turns_in m.shape m.code now due ≡ steady_step processor ∷ []
  turns_in_step n few =
      ap (λ b. if b then turn_of m.shape.processors now (act_of due) ∷ [] else []) (step_made n few)
      ∙ ap (λ turn. turn ∷ []) step_turn

-- so many of them
record Ahead (m : Situation) (loads : List ℕ) (left : ℕ) (due : Due) (processor n : ℕ) : Type 0 where
  turns : turns_of m.shape m.code (record { state = m.state; loads = loads; left = left }) (replicate n due) ≡ steady_steps processor n
  course_is : behind_all m.shape m.code (record { state = m.state; loads = loads; left = left }) (replicate n due)
      ≡ record { state = (run_on m (steady_steps processor n)).state; loads = loads; left = left - n }

ahead : (m : Situation) (loads : List ℕ) (left : ℕ) (due : Due) (processor n : ℕ)
    → IsStepOf processor due → n ≤ left → AreSteady m processor n → Ahead m loads left due processor n
ahead m loads left due processor zero step few plain =
    let same : left ≡ left - 0 = omega arith in
    record { turns = refl; course_is = ap (λ k. record { state = m.state; loads = loads; left = k }) same }
ahead m loads left due processor (suc n) step few plain =
    let next = ahead (turned m (steady_step processor)) loads (left - 1) due processor n step (omega (arith, few)) plain.1 in
    let fewer : (left - 1) - n ≡ left - suc n = omega arith in
    let there = behind_step m loads left due processor step plain.0 n few in
    record {
      turns =
          ap (λ ts. ts ++ turns_of m.shape m.code (behind m.shape m.code (now m loads left due processor step plain.0) due) (replicate n due))
          (turns_in_step m loads left due processor step plain.0 n few)
          ∙ ap (λ w. steady_step processor ∷ turns_of m.shape m.code w (replicate n due)) there
          ∙ ap (λ ts. steady_step processor ∷ ts) next.turns;
      course_is =
          ap (λ w. behind_all m.shape m.code w (replicate n due)) there
          ∙ next.course_is
          ∙ ap (λ k. record { state = (run_on m (steady_steps processor (suc n))).state; loads = loads; left = k }) fewer;
    }

-- they were done
pub does_ahead : {m m' : Situation} {way : Way} (processor n : ℕ) → n ≤ way.left → AreSteady m processor n
    → m' ≡ run_on m (steady_steps processor n) → (due : Due) → IsStepOf processor due
    → Does (replicate n due) m way m' (record { loads = way.loads; left = way.left - n })
does_ahead {m} {m'} {way} processor n few plain is due step =
    let all = ahead m way.loads way.left due processor n step few plain in
    record {
      machine = is ∙ ap (run_on m) (sym all.turns);
      course_is = ap (λ k. course k (record { loads = way.loads; left = way.left - n })) is ∙ sym all.course_is;
    }

-- so many turns more, and as many acts fewer
pub ready_ahead : {m m' : Situation} {way : Way} (processor n : ℕ) → n ≤ way.left → IsReady m way
    → m' ≡ run_on m (steady_steps processor n) → IsReady m' (record { loads = way.loads; left = way.left - n })
ready_ahead {m} {m'} {way} processor n few ready is = record {
  turns = omega (arith, ready.turns, few, ap (λ k. k.turns) is, length-replicate n (steady_step processor));
  loads = λ c. fewer c;
}
  where
    fewer : (c : ℕ) → slice_index way.loads c + (way.left - n) ≤ 1099511627776
    fewer c = omega (arith, ready.loads c, few)

-- a round of one processor is its step
pub rounds_alone : (n : ℕ) → replicate n (InRound 0) ≡ rounds 1 n
rounds_alone zero = refl
rounds_alone (suc n) = ap (λ dues. InRound 0 ∷ dues) (rounds_alone n)

-- so many rounds and so many more
rounds_both : (processors n k : ℕ) → rounds processors (n + k) ≡ rounds processors n ++ rounds processors k
rounds_both processors zero k =
    let same : 0 + k ≡ k = omega arith in
    ap (rounds processors) same
rounds_both processors (suc n) k =
    let one : suc n + k ≡ suc (n + k) = omega arith in
    ap (rounds processors) one
    ∙ ap (λ dues. round processors ++ dues) (rounds_both processors n k)
    ∙ sym (append_assoc (round processors) (rounds processors n) (rounds processors k))

-- the first of so many, and the others
pub rounds_ahead : (processors made left : ℕ) → made ≤ left
    → rounds processors left ≡ rounds processors made ++ rounds processors (left - made)
rounds_ahead processors made left few =
    let all : left ≡ made + (left - made) = omega (arith, few) in
    ap (rounds processors) all ∙ rounds_both processors made (left - made)

-- and so for what is due again and again
pub dues_ahead : (due : Due) (made left : ℕ) → made ≤ left → replicate left due ≡ replicate made due ++ replicate (left - made) due
dues_ahead due made left few =
    let all : left ≡ made + (left - made) = omega (arith, few) in
    ap (λ n. replicate n due) all ∙ sym (replicate-append-replicate made (left - made) due)

-- loops: so many rounds were made ahead
pub rounds_lead : (count made left : ℕ) {m n o : Situation} {way v u : Way} → made ≤ left → n.shape ≡ m.shape
    → LeadsTo (rounds m.shape.processors count) (rounds m.shape.processors left) m way n v → Does (rounds n.shape.processors made) n v o u
    → LeadsTo (rounds m.shape.processors count) (rounds m.shape.processors (left - made)) m way o u
rounds_lead count made left {m} {n} {o} {way} {v} {u} few same l done =
    let p = m.shape.processors in
    goes_on_by (rounds p count) (rounds p left) (rounds p made) (rounds p (left - made)) (rounds_ahead p made left few) l
    (subst (λ s. Does (rounds s.processors made) n v o u) same done)

-- and so many acts
pub acts_ahead : (due : Due) (times made left : ℕ) {m n o : Situation} {way v u : Way} → made ≤ left
    → LeadsTo (replicate times due) (replicate left due) m way n v → Does (replicate made due) n v o u
    → LeadsTo (replicate times due) (replicate (left - made) due) m way o u
acts_ahead due times made left few l done =
    goes_on_by (replicate times due) (replicate left due) (replicate made due) (replicate (left - made) due) (dues_ahead due made left few) l done

-- steps of a processor that is alone are rounds
pub steps_are_rounds : {m n : Situation} {way v : Way} (made : ℕ) → m.shape.processors ≡ 1
    → Does (replicate made (InRound 0)) m way n v → Does (rounds m.shape.processors made) m way n v
steps_are_rounds {m} {n} {way} {v} made alone done =
    let same = rounds_alone made ∙ ap (λ p. rounds p made) (sym alone) in
    subst (λ dues. Does dues m way n v) same done

-- the step of a processor whose turn it is in a round
pub in_round : (processor : ℕ) → IsStepOf processor (InRound processor)
in_round processor = record { stated = None; act_is = refl }
