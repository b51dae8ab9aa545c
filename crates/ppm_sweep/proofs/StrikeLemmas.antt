-- The runs of a sweep with one fault in each schedule.
use Rattle.std.proofs.Common.{◌≡◌, ◌∙◌, refl, sym, ap, subst, arith, ℕ, ◌+◌, ◌==◌, ◌&&◌, nat_lt, not, Bool, true, false, if◌then◌else◌, List, [], ◌∷◌, ◌++◌, length, length-append, append_assoc, None}
use Rattle.ppm_cells.specs.declared.shape.Shape.{Shape}
use Rattle.ppm_code.specs.declared.code.CodeParts.{CodeParts}
use Rattle.ppm_plan.specs.declared.fault.Fault.{Fault}
use Rattle.ppm_plan.specs.declared.fault.Fault.TheVariants.{Soft, Hard}
use Rattle.ppm_plan.specs.declared.schedule_item.ScheduledAct.{ScheduledAct}
use Rattle.ppm_plan.specs.declared.schedule_item.ScheduledAct.TheVariants.{Step, Fails}
use Rattle.ppm_plan.specs.declared.schedule_item.ScheduleItem.{ScheduleItem}
use Rattle.ppm_step.specs.declared.turn.Turn.{Turn}
use Rattle.ppm_step.specs.State.{State, is_done_at, stand_of}
use Rattle.ppm_choice.specs.Course.{Course, Due, Listed, InRound, act_of, processor_of, turn_of, is_made, is_open, behind, behind_act, behind_all, turns_of}
use Rattle.ppm_choice.specs.Schedules.{beginning, dues_of, listed, rounds, schedule_turns}
use Rattle.ppm_choice.proofs.CourseLemmas.{behind_both, turns_of_both}
use Rattle.ppm_sweep.specs.declared.options.Window.{Window}
use Rattle.ppm_sweep.specs.Strikes.{Begin, EachActIsStruck, both_faults, struck_after, struck_turns}
use Rattle.ppm_sweep.specs.Sweep.{Place, Swept, alone, along, first_place, is_in, passed, strikes, struck, with_act, written, sweep_of}
use Rattle.ppm_sweep.proofs.FoundLemmas.{no_more}
use Rattle.ppm_sweep.proofs.FrontLemmas.{listed_with}
use Rattle.ppm_sweep.proofs.SpotLemmas.{listed_both}

-- of three tests that hold, the second is not needed
two_of : (a b c : Bool) → (a && b && c) ≡ true → (a && true && c) ≡ true
two_of true true c e = e
two_of true false c e = cc
two_of false b c e = cc

turn_processor : (p : ℕ) (w : Course) (act : ScheduledAct) → (turn_of p w act).processor ≡ processor_of act
turn_processor p w (Step c victim) = refl
turn_processor p w (Fails c fault) = refl

module _ (s : Shape) (code : CodeParts) (keeper turns : ℕ) (state : State) where
  abbrev start : Course
  start = beginning state turns

  -- the run of what is written came to a place, in these turns
  record Came (first : List Turn) (p : Place) : Type 0 where
    turns_are : turns_of s code start (listed p.front) ≡ first
    course_is : behind_all s code start (listed p.front) ≡ p.course

  -- one act of the list more
  one_turns : (first : List Turn) (p : Place) (act : ScheduledAct) (b : Bool) → is_made s code p.course (Listed act) ≡ b → Came first p
      → turns_of s code start (listed (with_act p.front act)) ≡ first ++ (if b then turn_of s.processors p.course act ∷ [] else [])
  one_turns first p act b e came =
      ap (turns_of s code start) (listed_with p.front act) ∙ turns_of_both s code start (listed p.front) (Listed act ∷ [])
      ∙ (λ i. came.turns_are i ++ turns_of s code (came.course_is i) (Listed act ∷ []))
      ∙ ap (λ x. first ++ ((if x then turn_of s.processors p.course act ∷ [] else []) ++ [])) e
      ∙ ap (λ l. first ++ l) (no_more (if b then turn_of s.processors p.course act ∷ [] else []))

  one_course : (first : List Turn) (p : Place) (act : ScheduledAct) → Came first p
      → behind_all s code start (listed (with_act p.front act)) ≡ behind s code p.course (Listed act)
  one_course first p act came =
      ap (behind_all s code start) (listed_with p.front act) ∙ behind_both s code start (listed p.front) (Listed act ∷ [])
      ∙ ap (λ w. behind s code w (Listed act)) came.course_is

  -- what is due, as an act of the list
  listed_too : (w : Course) (due : Due) (act : ScheduledAct) → processor_of act ≡ processor_of (act_of due) → is_made s code w due ≡ true
      → is_made s code w (Listed act) ≡ true
  listed_too w due act same e =
      ap (λ c. is_made s code w (Listed (Step c None))) same
      ∙ two_of (nat_lt 0 w.left) (is_open s code w.state due) (not (is_done_at (stand_of w.state (processor_of (act_of due))))) e

  written_made : (p : Place) (due : Due) → is_made s code p.course due ≡ true → written s code p.course p.front due ≡ with_act p.front (act_of due)
  written_made p (Listed act) e = refl
  written_made p (InRound c) e = ap (λ b. if b then with_act p.front (Step c None) else p.front) e

  same_after : (w : Course) (due : Due) → is_made s code w due ≡ true → behind s code w (Listed (act_of due)) ≡ behind s code w due
  same_after w due e =
      ap (λ b. if b then behind_act s code w (act_of due) else w) (listed_too w due (act_of due) refl e)
      ∙ ap (λ b. if b then behind_act s code w (act_of due) else w) (sym e)

  -- what is due is made
  came_made : (first : List Turn) (p : Place) (due : Due) → is_made s code p.course due ≡ true → Came first p
      → Came (first ++ turn_of s.processors p.course (act_of due) ∷ []) (passed s code p due)
  came_made first p due e came = record {
    turns_are =
        ap (λ front. turns_of s code start (listed front)) (written_made p due e)
        ∙ one_turns first p (act_of due) true (listed_too p.course due (act_of due) refl e) came;
    course_is =
        ap (λ front. behind_all s code start (listed front)) (written_made p due e) ∙ one_course first p (act_of due) came ∙ same_after p.course due e;
  }

  -- it is not
  came_idle : (first : List Turn) (p : Place) (due : Due) → is_made s code p.course due ≡ false → Came first p → Came first (passed s code p due)
  came_idle first p (Listed act) e came = record {
    turns_are = one_turns first p act false e came ∙ no_more first;
    course_is = one_course first p act came;
  }
  came_idle first p (InRound c) e came = record {
    turns_are = ap (λ b. turns_of s code start (listed (if b then with_act p.front (Step c None) else p.front))) e ∙ came.turns_are;
    course_is =
        ap (λ b. behind_all s code start (listed (if b then with_act p.front (Step c None) else p.front))) e ∙ came.course_is
        ∙ ap (λ b. if b then behind_act s code p.course (Step c None) else p.course) (sym e);
  }

  -- the run of a schedule that begins with what is written
  runs_on : (front rest : List ScheduleItem) → (more : List Turn) × (schedule_turns s code state (front ++ rest) turns ≡ turns_of s code start (listed front) ++ more)
  runs_on front rest =
      let left = listed rest ++ rounds s.processors turns in (
        turns_of s code (behind_all s code start (listed front)) left,
        ap (λ l. turns_of s code start (l ++ rounds s.processors turns)) (listed_both front rest)
            ∙ ap (turns_of s code start) (append_assoc (listed front) (listed rest) (rounds s.processors turns))
            ∙ turns_of_both s code start (listed front) left,
      )

  abbrev Starts : List Swept → List (List Turn) → Type 0
  Starts = Begin s code state turns

  starts_both : (a b : List Swept) (x y : List (List Turn)) → Starts a x → Starts b y → Starts (a ++ b) (x ++ y)
  starts_both [] b [] y h k = k
  starts_both [] b (first ∷ x) y h k = absurd h
  starts_both (v ∷ a) b [] y h k = absurd h
  starts_both (v ∷ a) b (first ∷ x) y h k = (h.0, starts_both a b x y h.1 k)

  -- the schedule of a place after a fault
  one_struck : (first : List Turn) (p : Place) (c : ℕ) (fault : Fault) → is_made s code p.course (Listed (Fails c fault)) ≡ true → Came first p
      → (rest : List Turn) × (schedule_turns s code state (alone 1 (struck s code p c fault)).items turns ≡ struck_after first c fault ++ rest)
  one_struck first p c fault e came =
      let run = runs_on (with_act p.front (Fails c fault)) p.rest in
      (run.0, run.1 ∙ ap (λ l. l ++ run.0) (one_turns first p (Fails c fault) true e came))

  abbrev sweep : Place → List Swept
  sweep q = alone 1 q ∷ []

  hard_begin : (first : List Turn) (p : Place) (due : Due) → is_made s code p.course due ≡ true → Came first p → (b : Bool)
      → Starts (if b then [] else sweep (struck s code p (processor_of (act_of due)) Hard))
      (if b then [] else struck_after first (processor_of (act_of due)) Hard ∷ [])
  hard_begin first p due e came true = tt
  hard_begin first p due e came false =
      let c = processor_of (act_of due) in (one_struck first p c Hard (listed_too p.course due (Fails c Hard) refl e) came, tt)

  struck_begin : (first : List Turn) (p : Place) (due : Due) → is_made s code p.course due ≡ true → Came first p
      → Starts (strikes s code keeper sweep p (processor_of (act_of due))) (both_faults keeper first (processor_of (act_of due)))
  struck_begin first p due e came =
      let c = processor_of (act_of due) in
      (one_struck first p c Soft (listed_too p.course due (Fails c Soft) refl e) came, hard_begin first p due e came (c == keeper))

  module _ (window : Window) where
    before_begin : (first : List Turn) (p : Place) (due : Due) (b : Bool) → is_made s code p.course due ≡ true → Came first p
        → Starts (if b then strikes s code keeper sweep p (processor_of (act_of due)) else [])
        (if b then both_faults keeper first (processor_of (act_of due)) else [])
    before_begin first p due true e came = struck_begin first p due e came
    before_begin first p due false e came = tt

    -- the schedules along what is due, and the turns of its run
    abbrev Along : List Due → Type 0
    Along dues = (first : List Turn) (p : Place) (number : ℕ) → number ≡ length first → Came first p
        → Starts (along s code keeper sweep window number p dues) (struck_turns keeper window first (turns_of s code p.course dues))

    due_begin : (due : Due) (dues : List Due) → Along dues → (first : List Turn) (p : Place) (number : ℕ) → number ≡ length first → Came first p
        → (b : Bool) → is_made s code p.course due ≡ b
        → Starts (along s code keeper sweep window number p (due ∷ dues)) (struck_turns keeper window first (turns_of s code p.course (due ∷ dues)))
    due_begin due dues more first p number n came true e =
        let act = act_of due in
        let turn = turn_of s.processors p.course act in
        let next = passed s code p due in
        let swept_are : along s code keeper sweep window number p (due ∷ dues)
        ≡ (if is_in window number then strikes s code keeper sweep p (processor_of act) else []) ++ along s code keeper sweep window (number + 1) next dues
        = ap (λ b. (if b && is_in window number then strikes s code keeper sweep p (processor_of act) else [])
        ++ along s code keeper sweep window (if b then number + 1 else number) next dues) e in
        let turns_are : turns_of s code p.course (due ∷ dues) ≡ turn ∷ turns_of s code next.course dues
        = ap (λ b. (if b then turn ∷ [] else []) ++ turns_of s code next.course dues) e in
        let strikes_are : (if is_in window number then both_faults keeper first (processor_of act) else [])
        ≡ (if is_in window (length first) then both_faults keeper first turn.processor else [])
        = λ i. if is_in window (n i) then both_faults keeper first (sym (turn_processor s.processors p.course act) i) else [] in
        let one : number + 1 ≡ length (first ++ turn ∷ []) = omega (arith, n, length-append first (turn ∷ [])) in
        subst (λ l. Starts l (struck_turns keeper window first (turns_of s code p.course (due ∷ dues)))) (sym swept_are)
        (subst (λ l. Starts ((if is_in window number then strikes s code keeper sweep p (processor_of act) else [])
        ++ along s code keeper sweep window (number + 1) next dues) (struck_turns keeper window first l)) (sym turns_are)
        (starts_both (if is_in window number then strikes s code keeper sweep p (processor_of act) else []) (along s code keeper sweep window (number + 1) next dues)
        (if is_in window (length first) then both_faults keeper first turn.processor else []) (struck_turns keeper window (first ++ turn ∷ []) (turns_of s code next.course dues))
        (subst (λ l. Starts (if is_in window number then strikes s code keeper sweep p (processor_of act) else []) l) strikes_are
        (before_begin first p due (is_in window number) e came))
        (more (first ++ turn ∷ []) next (number + 1) one (came_made first p due e came))))
    due_begin due dues more first p number n came false e =
        let next = passed s code p due in
        let swept_are : along s code keeper sweep window number p (due ∷ dues) ≡ along s code keeper sweep window number next dues
        = ap (λ b. (if b && is_in window number then strikes s code keeper sweep p (processor_of (act_of due)) else [])
        ++ along s code keeper sweep window (if b then number + 1 else number) next dues) e in
        let turns_are : turns_of s code p.course (due ∷ dues) ≡ turns_of s code next.course dues
        = ap (λ b. (if b then turn_of s.processors p.course (act_of due) ∷ [] else []) ++ turns_of s code next.course dues) e in
        subst (λ l. Starts l (struck_turns keeper window first (turns_of s code p.course (due ∷ dues)))) (sym swept_are)
        (subst (λ l. Starts (along s code keeper sweep window number next dues) (struck_turns keeper window first l)) (sym turns_are)
        (more first next number n (came_idle first p due e came)))

    along_begin : (dues : List Due) → Along dues
    along_begin [] first p number n came = tt
    along_begin (due ∷ dues) first p number n came = due_begin due dues (along_begin dues) first p number n came (is_made s code p.course due) refl

    -- all of them
    swept_begin : (items : List ScheduleItem) → let base = schedule_turns s code state items turns in
        Starts (sweep_of s code keeper turns state items 1 (window ∷ [])) (base ∷ struck_turns keeper window [] base)
    swept_begin items =
        let p = first_place s code keeper turns state items in
        let base = schedule_turns s code state items turns in
        let dues = dues_of s.processors items turns in (
          ([], sym (no_more base)),
          subst (λ l. Starts l (struck_turns keeper window [] base)) (sym (no_more (along s code keeper sweep window 0 p dues)))
              (along_begin dues [] p 0 refl (record { turns_are = refl; course_is = refl })),
        )

-- this holds of each
pub each_act_is_struck : EachActIsStruck
each_act_is_struck s code keeper turns state items window = swept_begin s code keeper turns state window items
