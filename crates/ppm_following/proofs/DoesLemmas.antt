-- What was done, one thing after the other.
use Rattle.std.proofs.Common.{subst, replicate, ◌≡◌, refl, ℕ, List, [], ◌++◌, ap, ◌∙◌, sym}
use Rattle.ppm_core.specs.Situation.{Situation, run_on}
use Rattle.ppm_core.proofs.RunLemmas.{run_none}
use Rattle.ppm_following.specs.declared.following.Way.{Way}
use Rattle.ppm_choice.specs.Course.{Due, behind_all, turns_of}
use Rattle.ppm_plan.specs.declared.schedule_item.ScheduleItem.{ScheduleItem}
use Rattle.ppm_choice.specs.Schedules.{dues_of, listed, rounds}
use Rattle.ppm_following.specs.Followed.{followed}
use Rattle.ppm_following.specs.Following.{course, Does, LeadsTo}
use Rattle.ppm_choice.proofs.CourseLemmas.{behind_both, turns_of_both}
use Rattle.ppm_choice.proofs.IdleLemmas.{Idle}
use Rattle.ppm_following.proofs.BothLemmas.{run_both}

pub idles : {m : Situation} {way : Way} {dues : List Due} → Idle m.shape m.code (course m way) dues → Does dues m way m way
idles {m} idle = record { machine = run_none m ∙ ap (run_on m) (sym idle.turns); course_is = sym idle.stays }

pub nothing : {m : Situation} {way : Way} → Does [] m way m way
nothing {m} = record { machine = run_none m; course_is = refl }

-- the shape and the code stay
pub shape_stays : {dues : List Due} {m m' : Situation} {way way' : Way} → Does dues m way m' way' → m'.shape ≡ m.shape
shape_stays d = ap (λ k. k.shape) d.machine

-- the turns of what comes after
turns_behind : (m n : Situation) (way way' : Way) (first more : List Due)
    → n ≡ run_on m (turns_of m.shape m.code (course m way) first)
    → course n way' ≡ behind_all m.shape m.code (course m way) first
    → run_on n (turns_of n.shape n.code (course n way') more) ≡ run_on m (turns_of m.shape m.code (course m way) (first ++ more))
turns_behind m n way way' first more is at =
    subst (λ k. run_on k (turns_of k.shape k.code (course n way') more) ≡ run_on m (turns_of m.shape m.code (course m way) (first ++ more)))
    (sym is)
    (ap (λ w. run_on (run_on m (turns_of m.shape m.code (course m way) first)) (turns_of m.shape m.code w more)) at
    ∙ run_both m (turns_of m.shape m.code (course m way) first)
    (turns_of m.shape m.code (behind_all m.shape m.code (course m way) first) more)
    ∙ ap (run_on m) (sym (turns_of_both m.shape m.code (course m way) first more)))

course_behind : (m n : Situation) (way way' : Way) (first more : List Due)
    → n ≡ run_on m (turns_of m.shape m.code (course m way) first)
    → course n way' ≡ behind_all m.shape m.code (course m way) first
    → behind_all n.shape n.code (course n way') more ≡ behind_all m.shape m.code (course m way) (first ++ more)
course_behind m n way way' first more is at =
    subst (λ k. behind_all k.shape k.code (course n way') more ≡ behind_all m.shape m.code (course m way) (first ++ more))
    (sym is)
    (ap (λ w. behind_all m.shape m.code w more) at ∙ sym (behind_both m.shape m.code (course m way) first more))

-- one list and then another
pub both : (first more : List Due) {m n o : Situation} {way v u : Way}
    → Does first m way n v → Does more n v o u → Does (first ++ more) m way o u
both first more {m} {n} {o} {way} {v} {u} d e = record {
  machine = e.machine ∙ turns_behind m n way v first more d.machine d.course_is;
  course_is = e.course_is ∙ course_behind m n way v first more d.machine d.course_is;
}

-- loops: what is left at their beginning is all
pub begins : (dues : List Due) {m : Situation} {way : Way} → LeadsTo dues dues m way m way
begins dues m' way' d = d

-- a first part was done
pub goes_on : (dues first rest : List Due) {m n o : Situation} {way v u : Way}
    → LeadsTo dues (first ++ rest) m way n v → Does first n v o u → LeadsTo dues rest m way o u
goes_on dues first rest l d m' way' e = l m' way' (both first rest d e)

-- no more is made
pub ends : (dues rest : List Due) {m n : Situation} {way v : Way}
    → LeadsTo dues rest m way n v → Idle n.shape n.code (course n v) rest → Does dues m way n v
ends dues rest {n = n} {v = v} l idle = l n v (idles idle)

-- a step leads on, where the first part is seen by an equation
pub goes_on_by : (dues whole first rest : List Due) {m n o : Situation} {way v u : Way}
    → whole ≡ first ++ rest → LeadsTo dues whole m way n v → Does first n v o u → LeadsTo dues rest m way o u
goes_on_by dues whole first rest {m} {n} {o} {way} {v} {u} is l =
    goes_on dues first rest (subst (λ all. LeadsTo dues all m way n v) is l)

-- nothing is left
pub ends_by : (dues rest : List Due) {m n : Situation} {way v : Way} → rest ≡ [] → LeadsTo dues rest m way n v → Does dues m way n v
ends_by dues rest {m} {n} {way} {v} is l = subst (λ all. LeadsTo dues all m way n v) is l n v nothing

-- the list, and then the rounds
pub list_and_rounds : {m n o : Situation} {way v u : Way} (given : List ScheduleItem) (rounds_made : ℕ)
    → Does (listed given) m way n v → Does (rounds n.shape.processors rounds_made) n v o u
    → Does (dues_of m.shape.processors given rounds_made) m way o u
list_and_rounds {m} {n} {o} {way} {v} {u} given rounds_made first more =
    both (listed given) (rounds m.shape.processors rounds_made) first
    (subst (λ s. Does (rounds s.processors rounds_made) n v o u) (shape_stays first) more)

-- from the beginning they are the run of a schedule
pub whole_run : {m o : Situation} {way u : Way} (given items : List ScheduleItem) (turns : ℕ) → given ≡ items
    → way ≡ record { loads = replicate 64 0; left = turns } → Does (dues_of m.shape.processors given turns) m way o u
    → o ≡ followed m items turns
whole_run {m} {o} {way} {u} given items turns same first does =
    (subst (λ v. Does (dues_of m.shape.processors items turns) m v o u) first
    (subst (λ is. Does (dues_of m.shape.processors is turns) m way o u) same does)).machine
