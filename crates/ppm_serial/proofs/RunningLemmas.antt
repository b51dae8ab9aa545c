-- A whole run: from its start, by its steps, to its answer.
use Rattle.std.proofs.Common.{◌≡◌, ◌+◌, ◌-◌, ℕ, ℤ, true, false, [], Result, Ok, Err, refl, sym, subst, arith}
use Rattle.std.specs.Prelude.{codes}
use Rattle.ppm_tree.specs.Tree.{ProgramTree}
use Rattle.ppm_tree.specs.State.{Frame, Arrays}
use Rattle.ppm_tree.specs.Meaning.{Plain, End, Ended, Trapped, Enters}
use Rattle.ppm_tree.specs.Program.{main_of, main_frame, initial_arrays, values_of}
use Rattle.ppm_tree.specs.Correct.{Spends}
use Rattle.ppm_serial.specs.declared.code.Stop.{Stop}
use Rattle.ppm_serial.specs.declared.code.Stop.TheVariants as stop
use Rattle.ppm_serial.specs.declared.run.Run.{Run}
use Rattle.ppm_serial.specs.Names.{names_of}
use Rattle.ppm_serial.specs.Code.{Laid, routine_at}
use Rattle.ppm_serial.specs.Machine.{beginning, stepping, with_left, with_place, first_of}
use Rattle.ppm_serial.specs.Laying.{IsLaid, IsRoutine}
use Rattle.ppm_serial.specs.Answers.{Does}
use Rattle.ppm_serial.specs.ToCome.{Two, Gave, After, Block_, Shifts}
use Rattle.ppm_serial.specs.Simulation.{Point, AtBlock, AtEnd, Way, Shows, InBlock, InLoop, Over, Moves, Stacks, Empty}
use Rattle.ppm_serial.specs.Running.{Starts, Whole, Serves, EndsWith, Answers}
use Rattle.ppm_serial.proofs.ToComeLemmas.{same, chain, enter_on, enter_back}
use Rattle.ppm_serial.proofs.StepLemmas.{moves, ends_later, moves_entry}

-- a stop, as a result
abbrev pub err_ : {B : Type 0} → Stop → Result B Stop
err_ e = Err e

module _ (t : ProgramTree) (c : Laid) (laid : IsLaid t.procedures c) where
  -- what comes after the body of `main`
  after_on : (f : Frame) (n : ℕ) (z : End ℤ) (y : _) → Gave (main_of t).give f.regions (λ y. Way t.procedures (AtEnd y)) y n z
      → After t.procedures (main_of t).give [] f.regions y n z
  after_on f n z (Ended l a) q = (ends_later t.procedures c laid (main_of t).give (record { regions = f.regions; locals = l }) a refl).back n z (record { rest = n; sum = omega arith; next = q })
  after_on f n z (Trapped s a) q = q

  after_back : (f : Frame) (n : ℕ) (z : End ℤ) (y : _) → After t.procedures (main_of t).give [] f.regions y n z
      → Gave (main_of t).give f.regions (λ y. Way t.procedures (AtEnd y)) y n z
  after_back f n z (Ended l a) q =
      let w = (ends_later t.procedures c laid (main_of t).give (record { regions = f.regions; locals = l }) a refl).on n z q in
      let v = w.next in
      record { rest = v.rest; sum = (let i = w.sum in let j = v.sum in omega (arith, i, j)); next = v.next }
  after_back f n z (Trapped s a) q = q

  -- the entry of `main` is the whole run
  whole_step : (f : Frame) (a : Arrays) → Shifts 1 (Two (Enters Plain t.procedures (main_of t) f a) (λ y. Way t.procedures (AtEnd y)))
      (Block_ t.procedures (main_of t).give (main_of t).body f a [])
  whole_step f a = record {
    on = λ n z v.
        let w = enter_on t.procedures (main_of t).give (λ y. Way t.procedures (AtEnd y)) (λ s c n z q. q) v.rest z v.first v.second v.sum in
        let u = w.next in record {
          rest = w.rest;
          sum = w.sum;
          next = record { counts = u.counts; middle = u.middle; rest = u.rest; first = u.first; second = after_on f u.rest z u.middle u.second; sum = u.sum };
        };
    back = λ n z w. let u = w.next in
        enter_back t.procedures (main_of t).give (main_of t) f a (λ y. Way t.procedures (AtEnd y)) (λ s c n z q. q) n u.rest w.rest z u.middle u.first
        (after_back f u.rest z u.middle u.second) u.sum w.sum;
  }

  -- a run has done what a step does
  serves_on : (turns : ℕ) (s : Run) (spent : ℕ) (A : ℕ → End ℤ → Type 0) → turns ≡ spent + s.left → Shifts spent (Whole t) A → (u : Run) → Moves t.procedures c s.left A (Ok u)
      → Serves t c turns u
  serves_on turns s spent A e p u m =
      record { point = m.point; spent = spent + m.spent; shows = m.shows; sum = (let i = m.sum in omega (arith, e, i)); shifts = chain p m.shifts }

  -- or stops where it stops
  stops_on : {B : Type 0} (turns : ℕ) (s : Run) (spent : ℕ) (A : ℕ → End ℤ → Type 0) → turns ≡ spent + s.left → Shifts spent (Whole t) A → (e : Stop)
      → Moves t.procedures c s.left A (Err e) → (a : Arrays) → (r : Result B Stop) → r ≡ Err e → Answers t turns r a
  stops_on turns s spent A e p (stop.Trapped kind line) m a r is = subst (λ (r : Result _ Stop). Answers t turns r a) (sym is)
      (let w = (chain p m.shifts).back (spent + m.spent) (Trapped (kind, line) m.arrays) (record { rest = 0; sum = omega arith; next = (refl, refl) }) in
      let i = m.within in let j = w.sum in let k = w.second.0 in
      record { arrays = m.arrays; ends = record { counts = w.counts; spends = subst (λ (z : End ℤ). Spends t w.counts z) (sym w.second.1) w.first; within = omega (arith, e, i, j, k) } })
  stops_on turns s spent A e p stop.NotWithin m a r is = subst (λ (r : Result _ Stop). Answers t turns r a) (sym is)
      (λ k z d. let w = p.on k.turns z (record { counts = k; middle = z; rest = 0; first = d; second = (refl, refl); sum = omega arith }) in
      let h = m w.rest z w.next in let i = w.sum in omega (arith, e, h, i))
  stops_on turns s spent A e p stop.NoMemory m a r is = subst (λ (r : Result _ Stop). Answers t turns r a) (sym is) tt

  -- the entry of `main` begins the run
  pub begin_moves : (s : Run) → Starts t s → Moves t.procedures c s.left (Whole t) (beginning c c.main s)
  begin_moves s h =
      let u = with_place s (first_of (routine_at c c.main).body) in
      let routine : IsRoutine t.procedures c.blocks (main_of t) (routine_at c c.main) =
      subst (λ (k : ℕ). IsRoutine t.procedures c.blocks (main_of t) (routine_at c k)) (sym laid.main) (laid.routine (codes "main")) in
      moves_entry t.procedures c laid u (Whole t) (Block_ t.procedures (main_of t).give (main_of t).body (main_frame t.arrays (main_of t).parameters) s.store [])
      (subst (λ (a : Arrays). Shifts 1 (Whole t) (Block_ t.procedures (main_of t).give (main_of t).body (main_frame t.arrays (main_of t).parameters) a [])) (sym h.store)
      (whole_step (main_frame t.arrays (main_of t).parameters) (values_of (initial_arrays t))))
      (λ l. record {
        point = AtBlock (main_of t).body (main_frame t.arrays (main_of t).parameters) s.store [];
        spent = 0;
        shows = InBlock (names_of (main_of t)) (main_of t).body (main_frame t.arrays (main_of t).parameters) (with_left u (u.left - 1)) [] h.running h.frame h.fits routine.body
            (subst (λ (k : _). Stacks t.procedures c (names_of (main_of t)) k []) (sym h.stack) Empty);
        sum = omega arith;
        shifts = same;
      })

  -- what a call that does a step answers: the run goes on, or it has its answer
  abbrev pub GoesOrAnswers : {B : Type 0} → ℕ → Result B Stop → Run → Arrays → Type 0
  GoesOrAnswers turns (Ok x) u a = Serves t c turns u
  GoesOrAnswers {B = B} turns (Err e) u a = Answers {B = B} t turns (err_ e) a

  answered : {B : Type 0} (turns : ℕ) (s : Run) (spent : ℕ) (A : ℕ → End ℤ → Type 0) → turns ≡ spent + s.left → Shifts spent (Whole t) A → (r : Result B Stop) (u : Run)
      (said : Result Run Stop) (a : Arrays) → Does r u said → Moves t.procedures c s.left A said → GoesOrAnswers turns r u a
  answered turns s spent A e p (Ok x) u said a d m = serves_on turns s spent A e p u (subst (λ (o : Result Run Stop). Moves t.procedures c s.left A o) d m)
  answered {B = B} turns s spent A e p (Err (stop.Trapped kind line)) u said a d m =
      stops_on {B = B} turns s spent A e p (stop.Trapped kind line) (subst (λ (o : Result Run Stop). Moves t.procedures c s.left A o) d m) a (err_ (stop.Trapped kind line)) refl
  answered {B = B} turns s spent A e p (Err stop.NotWithin) u said a d m =
      stops_on {B = B} turns s spent A e p stop.NotWithin (subst (λ (o : Result Run Stop). Moves t.procedures c s.left A o) d m) a (err_ stop.NotWithin) refl
  answered turns s spent A e p (Err stop.NoMemory) u said a d m = tt

  pub begun : {B : Type 0} (s u : Run) (r : Result B Stop) (a : Arrays) → Starts t s → Does r u (beginning c c.main s) → GoesOrAnswers s.left r u a
  begun s u r a h d = answered s.left s 0 (Whole t) (omega arith) same r u (beginning c c.main s) a d (begin_moves s h)

  pub stepped : {B : Type 0} (turns : ℕ) (s u : Run) (r : Result B Stop) (a : Arrays) → Serves t c turns s → s.ended ≡ false → Does r u (stepping c s) → GoesOrAnswers turns r u a
  stepped turns s u r a v running d =
      answered turns s v.spent (Way t.procedures v.point) v.sum v.shifts r u (stepping c s) a d (moves t.procedures c laid s v.point running v.shows)

  -- a run that has ended has its answer
  pub over : (turns : ℕ) (s : Run) → Serves t c turns s → s.ended ≡ true → EndsWith t turns s.store
  over turns s v ended = go v.point v.shows v.shifts
    where
      go : (p : Point) → Shows t.procedures c s p → Shifts v.spent (Whole t) (Way t.procedures p) → EndsWith t turns s.store
      go _ (InBlock n b f _ items on e fits place stack) q = cc
      go _ (InLoop n e p f _ items on eq fits test stack) q = cc
      go _ (Over x _ on) q =
          let w = q.back v.spent (Ended x s.store) (record { rest = 0; sum = omega arith; next = (refl, refl) }) in
          let e = v.sum in let j = w.sum in let k = w.second.0 in
          record { value = x; ends = record { counts = w.counts; spends = subst (λ (z : End ℤ). Spends t w.counts z) (sym w.second.1) w.first; within = omega (arith, e, j, k) } }
