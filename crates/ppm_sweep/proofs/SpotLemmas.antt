-- Places in a run, one after another.
use Rattle.std.proofs.Common.{◌≡◌, ◌∙◌, inl, inr, refl, sym, ap, subst, arith, ℕ, zero, suc, ◌<◌, ◌==◌, ◌&&◌, nat_lt, not, Bool, true, false, if◌then◌else◌, List, [], ◌∷◌, ◌++◌, length, append_assoc, replicate}
use Rattle.std.proofs.lemmas.Bool.{lt-ltb}
use Rattle.ppm_words.specs.declared.outcome.Outcome.{Outcome}
use Rattle.ppm_words.specs.declared.outcome.Outcome.TheVariants as outcome
use Rattle.ppm_cells.specs.declared.shape.Shape.{Shape}
use Rattle.ppm_code.specs.declared.code.CodeParts.{CodeParts}
use Rattle.ppm_plan.specs.declared.schedule_item.ScheduledAct.{ScheduledAct}
use Rattle.ppm_plan.specs.declared.schedule_item.ScheduleItem.{ScheduleItem}
use Rattle.ppm_step.specs.State.{stand_of, is_done_at}
use Rattle.ppm_core.specs.Situation.{Situation, finish_in}
use Rattle.ppm_choice.specs.Course.{Due, Listed, Course, act_of, processor_of, is_open, is_made, behind_act, behind}
use Rattle.ppm_choice.specs.Schedules.{listed, rounds, dues_of, schedule_turns}
use Rattle.ppm_choice.proofs.DueLemmas.{listed_front}
use Rattle.ppm_choice.proofs.IdleLemmas.{is_over, no_dues, one_more}
use Rattle.ppm_following.specs.declared.following.Way.{Way}
use Rattle.ppm_following.specs.Followed.{followed}
use Rattle.ppm_following.specs.Following.{course, Does}
use Rattle.ppm_following.proofs.DoesLemmas.{both, idles, shape_stays}
use Rattle.ppm_sweep.specs.declared.ahead.Coming.{Coming}
use Rattle.ppm_sweep.specs.declared.ahead.Coming.TheVariants as coming
use Rattle.ppm_sweep.specs.Ahead.{due_of}
use Rattle.ppm_sweep.specs.Meets.{HasArraysOf}
use Rattle.ppm_sweep.specs.Spots.{first_way, IsLast}
use Rattle.ppm_sweep.specs.Sweep.{with_act}
use Rattle.ppm_sweep.proofs.FrontLemmas.{listed_with}

-- an act more is made, and written
pub written_on : (front : List ScheduleItem) (act : ScheduledAct) {m n o : Situation} {way v u : Way}
    → Does (listed front) m way n v → Does (Listed act ∷ []) n v o u → Does (listed (with_act front act)) m way o u
written_on front act {m} {n} {o} {way} {v} {u} d e =
    subst (λ dues. Does dues m way o u) (sym (listed_with front act)) (both (listed front) (Listed act ∷ []) d e)

pub code_stays : {dues : List Due} {m m' : Situation} {way way' : Way} → Does dues m way m' way' → m'.code ≡ m.code
code_stays d = ap (λ k. k.code) d.machine

arrays_are : (m n : Situation) (o : Outcome) → n.array_lengths ≡ m.array_lengths → HasArraysOf m o → HasArraysOf n o
arrays_are m n (outcome.Ended arrays) e h = (omega (arith, h.0, ap length e), h.1)
arrays_are m n (outcome.Trapped trap line) e h = tt
arrays_are m n outcome.NotWithin e h = tt

pub arrays_stay : {dues : List Due} {m m' : Situation} {way way' : Way} (o : Outcome) → Does dues m way m' way' → HasArraysOf m o → HasArraysOf m' o
arrays_stay {m = m} {m' = m'} o d h = arrays_are m m' o (ap (λ k. k.array_lengths) d.machine) h

-- the acts of two lists of items
pub listed_both : (first more : List ScheduleItem) → listed (first ++ more) ≡ listed first ++ listed more
listed_both [] more = refl
listed_both (i ∷ first) more =
    listed_front i (first ++ more) ∙ ap (λ l. replicate i.times (Listed i.act) ++ l) (listed_both first more)
    ∙ sym (append_assoc (replicate i.times (Listed i.act)) (listed first) (listed more)) ∙ ap (λ l. l ++ listed more) (sym (listed_front i first))

-- a run that came to a place by the acts that are written, and goes on to its end, is that of the whole schedule
pub whole_run : (front rest : List ScheduleItem) (turns : ℕ) {m n o : Situation} {v u : Way} → Does (listed front) m (first_way turns) n v
    → Does (dues_of n.shape.processors rest turns) n v o u → o ≡ followed m (front ++ rest) turns
whole_run front rest turns {m} {n} {o} {v} {u} d e =
    let way = first_way turns in
    let same : listed front ++ dues_of m.shape.processors rest turns ≡ dues_of m.shape.processors (front ++ rest) turns
    = sym (append_assoc (listed front) (listed rest) (rounds m.shape.processors turns))
    ∙ ap (λ l. l ++ rounds m.shape.processors turns) (sym (listed_both front rest)) in
    let more = subst (λ (s : Shape). Does (dues_of s.processors rest turns) n v o u) (shape_stays d) e in
    (subst (λ dues. Does dues m way o u) same (both (listed front) (dues_of m.shape.processors rest turns) d more)).machine

-- it makes as many turns as the schedule says
pub turns_made : (m o : Situation) (items : List ScheduleItem) (turns : ℕ) → m.turns ≡ 0 → o ≡ followed m items turns
    → o.turns ≡ length (schedule_turns m.shape m.code m.state items turns)
turns_made m o items turns fresh is = omega (arith, ap (λ k. k.turns) is, fresh)

-- three tests that hold
all_hold : (a b c : Bool) → a ≡ true → b ≡ true → c ≡ false → (a && b && not c) ≡ true
all_hold true true false e f g = refl
all_hold true true true e f g = sym g
all_hold true false c e f g = f
all_hold false b c e f g = e

some_of : (n : ℕ) → (n ≡ 0 → ⊥) → 0 < n
some_of zero h = absurd (h refl)
some_of (suc n) h = omega arith

zero_of : (n : ℕ) → ((n ≡ 0 → ⊥) → ⊥) → n ≡ 0
zero_of zero h = refl
zero_of (suc n) h = absurd (h (λ e. omega (arith, e)))

module _ (m : Situation) (way : Way) where
  -- an act is left where this isn't the last
  pub left_of : (c : Coming) → ¬ IsLast m way c → 0 < way.left
  left_of (coming.Listed act) h = some_of way.left h
  left_of (coming.InRound c) h = some_of way.left (λ e. h (inl e))

  opens : (c : Coming) → ¬ IsLast m way c → is_open m.shape m.code m.state (due_of c) ≡ true
  opens (coming.Listed act) h = refl
  opens (coming.InRound c) h = ap (λ word. word == 0) (zero_of (finish_in m) (λ k. h (inr k)))

  -- what comes next is made, where its processor lives and it isn't over
  pub made : (c : Coming) → ¬ IsLast m way c → is_done_at (stand_of m.state (processor_of (act_of (due_of c)))) ≡ false
      → is_made m.shape m.code (course m way) (due_of c) ≡ true
  made c more lives = all_hold (nat_lt 0 way.left) _ _ (lt-ltb 0 way.left (left_of c more)) (opens c more) lives

  -- an act of the list is made, where its processor lives
  pub made_listed : (act : ScheduledAct) → 0 < way.left → is_done_at (stand_of m.state (processor_of act)) ≡ false
      → is_made m.shape m.code (course m way) (Listed act) ≡ true
  made_listed act left lives = all_hold (nat_lt 0 way.left) true _ (lt-ltb 0 way.left left) refl lives

-- the run after an act is the same, of the list or in a round
pub same_behind : (s : Shape) (code : CodeParts) (w : Course) (due : Due) → is_made s code w due ≡ true → is_made s code w (Listed (act_of due)) ≡ true
    → behind s code w (Listed (act_of due)) ≡ behind s code w due
same_behind s code w due e f =
    ap (λ b. if b then behind_act s code w (act_of due) else w) f ∙ ap (λ b. if b then behind_act s code w (act_of due) else w) (sym e)

-- one of a processor that is done is not made
pub skipped : (m : Situation) (way : Way) (due : Due) → is_done_at (stand_of m.state (processor_of (act_of due))) ≡ true
    → is_made m.shape m.code (course m way) due ≡ false
skipped m way due done = is_over m.shape m.code (course m way) due done

-- and nothing was done then
pub not_done : {m : Situation} {way : Way} (act : ScheduledAct) → is_done_at (stand_of m.state (processor_of act)) ≡ true
    → Does (Listed act ∷ []) m way m way
not_done {m} {way} act done =
    let w = course m way in
    idles (one_more m.shape m.code w (Listed act) [] (is_over m.shape m.code w (Listed act) done) (no_dues m.shape m.code w))
