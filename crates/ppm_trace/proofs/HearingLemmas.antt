-- What was heard, one thing after the other.
use Rattle.std.proofs.Common.{◌≡◌, List, [], ◌∷◌, ◌++◌, ℕ, ◌-◌, ◌<◌, ◌≤◌, length, take, drop, get_or, replicate, ap, arith, refl, subst, sym}
use Rattle.ppm_choice.proofs.CourseLemmas.{turns_of_both}
use Rattle.ppm_choice.proofs.IdleLemmas.{Idle}
use Rattle.ppm_choice.specs.Course.{Due, Listed, Course, behind_all, turns_of}
use Rattle.ppm_choice.specs.Schedules.{dues_of, listed, rounds, schedule_turns}
use Rattle.ppm_core.specs.Situation.{Situation, run_on}
use Rattle.ppm_following.proofs.DoesLemmas.{both as does_both, idles as does_idle, nothing as does_nothing}
use Rattle.ppm_following.proofs.ListLemmas.{listed_rest}
use Rattle.ppm_following.specs.Followed.{followed}
use Rattle.ppm_following.specs.Following.{course}
use Rattle.ppm_following.specs.declared.following.Way.{Way}
use Rattle.ppm_plan.specs.declared.schedule_item.ScheduleItem.{ScheduleItem}
use Rattle.ppm_step.specs.declared.turn.Turn.{Turn}
use Rattle.ppm_trace.specs.Hearing.{hearing, Hearing, Hears, LeadsTo}

-- what a listener hears of turns, which makes new notes of the old ones
abbrev pub Heard : (Notes : Type 0) → Type 1
Heard Notes = Situation → List Turn → Notes → Notes → Type 0

-- where no turn was heard the notes stay
abbrev pub Rests : {Notes : Type 0} → Heard Notes → Type 0
Rests {Notes} heard = (m : Situation) (a : Notes) → heard m [] a a

-- turns after turns
abbrev pub GoesOn : {Notes : Type 0} → Heard Notes → Type 0
GoesOn {Notes} heard = (m : Situation) (first more : List Turn) (a b c : Notes) → heard m first a b → heard (run_on m first) more b c → heard m (first ++ more) a c

-- the shape and the code stay
pub shape_stays : {Notes : Type 0} (heard : Heard Notes) {dues : List Due} {a b : Hearing Notes} → Hears heard dues a b → b.machine.shape ≡ a.machine.shape
shape_stays heard d = ap (λ (k : Situation). k.shape) d.does.machine

-- what was heard after these turns, as what follows on them
heard_after : {Notes : Type 0} (heard : Heard Notes) (m n : Situation) (w v : Course) (turns : List Turn) (more : List Due) (b c : Notes)
    → n ≡ run_on m turns → v ≡ w → heard n (turns_of n.shape n.code v more) b c → heard (run_on m turns) (turns_of m.shape m.code w more) b c
heard_after heard m n w v turns more b c is at told =
    subst (λ u. heard (run_on m turns) (turns_of m.shape m.code u more) b c) at
    (subst (λ (k : Situation). heard k (turns_of k.shape k.code v more) b c) is told)

module _ {Notes : Type 0} (heard : Heard Notes) (rests : Rests heard) where
  pub idles : (dues : List Due) (a : Hearing Notes) → Idle a.machine.shape a.machine.code (course a.machine a.way) dues → Hears heard dues a a
  idles dues a idle = record {
    does = does_idle idle;
    hears = subst (λ turns. heard a.machine turns a.notes a.notes) (sym idle.turns) (rests a.machine a.notes);
  }

  pub nothing : (a : Hearing Notes) → Hears heard [] a a
  nothing a = record { does = does_nothing; hears = rests a.machine a.notes }

  -- no more is made
  pub ends : (dues rest : List Due) (a b : Hearing Notes)
      → LeadsTo heard dues rest a b → Idle b.machine.shape b.machine.code (course b.machine b.way) rest → Hears heard dues a b
  ends dues rest a b l idle = l b (idles rest b idle)

  -- nothing is left
  pub ends_by : (dues rest : List Due) (a b : Hearing Notes) → rest ≡ [] → LeadsTo heard dues rest a b → Hears heard dues a b
  ends_by dues rest a b is l = l b (subst (λ all. Hears heard all b b) (sym is) (nothing b))

  -- no item is left
  pub no_item : (items left : List ScheduleItem) (a b : Hearing Notes) → length left < 1
      → LeadsTo heard (listed items) (listed left) a b → Hears heard (listed items) a b
  no_item items [] a b none l = ends_by (listed items) [] a b refl l
  no_item items (item ∷ left) a b none l = absurd (omega (arith, none))

module _ {Notes : Type 0} (heard : Heard Notes) (on : GoesOn heard) where
  -- one list and then another
  pub both : (first more : List Due) (a b c : Hearing Notes) → Hears heard first a b → Hears heard more b c → Hears heard (first ++ more) a c
  both first more a b c d e =
      let m = a.machine in
      let w = course m a.way in
      let one = turns_of m.shape m.code w first in
      let two = turns_of m.shape m.code (behind_all m.shape m.code w first) more in
      record {
        does = does_both first more d.does e.does;
        hears = subst (λ turns. heard m turns a.notes c.notes) (sym (turns_of_both m.shape m.code w first more))
            (on m one two a.notes b.notes c.notes d.hears
            (heard_after heard m b.machine (behind_all m.shape m.code w first) (course b.machine b.way) one more b.notes c.notes d.does.machine
            d.does.course_is e.hears));
      }

  -- a first part was heard
  pub goes_on : (dues whole first rest : List Due) (a b c : Hearing Notes)
      → whole ≡ first ++ rest → LeadsTo heard dues whole a b → Hears heard first b c → LeadsTo heard dues rest a c
  goes_on dues whole first rest a b c is l d new e =
      l new (subst (λ all. Hears heard all b new) (sym is) (both first rest b c new d e))

  -- one item was heard
  pub one_item : (items left : List ScheduleItem) (d : ScheduleItem) (a b c : Hearing Notes) → 1 ≤ length left
      → LeadsTo heard (listed items) (listed left) a b
      → Hears heard (replicate (get_or left 0 d).times (Listed (get_or left 0 d).act)) b c
      → LeadsTo heard (listed items) (listed (take (length left - 1) (drop 1 left))) a c
  one_item items left d a b c some =
      goes_on (listed items) (listed left) (replicate (get_or left 0 d).times (Listed (get_or left 0 d).act))
      (listed (take (length left - 1) (drop 1 left))) a b c (listed_rest left d some)

  -- the list, and then the rounds
  pub list_and_rounds : (given : List ScheduleItem) (count : ℕ) (a b c : Hearing Notes) → Hears heard (listed given) a b
      → Hears heard (rounds b.machine.shape.processors count) b c
      → Hears heard (dues_of a.machine.shape.processors given count) a c
  list_and_rounds given count a b c first more =
      both (listed given) (rounds a.machine.shape.processors count) a b c first
      (subst (λ s. Hears heard (rounds s.processors count) b c) (shape_stays heard first) more)

-- the whole run
module _ {Notes : Type 0} (heard : Heard Notes) (m n : Situation) (way u : Way) (a b : Notes) (given items : List ScheduleItem) (acts : ℕ) (same : given ≡ items)
    (first : way ≡ record { loads = replicate 64 0; left = acts })
    (hears : Hears heard (dues_of m.shape.processors given way.left) (hearing m way a) (hearing n u b)) where
  whole : Hears heard (dues_of m.shape.processors items acts) (hearing m (record { loads = replicate 64 0; left = acts }) a) (hearing n u b)
  whole =
      let p = m.shape.processors in
      subst (λ (v : Way). Hears heard (dues_of p items v.left) (hearing m v a) (hearing n u b)) first
      (subst (λ list. Hears heard (dues_of p list way.left) (hearing m way a) (hearing n u b)) same hears)

  -- the machine is as the turns of the run make it
  pub run_is : n ≡ followed m items acts
  run_is = whole.does.machine

  -- these turns were heard
  pub run_heard : heard m (schedule_turns m.shape m.code m.state items acts) a b
  run_heard = whole.hears
