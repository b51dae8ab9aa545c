-- A sweep goes along a run.
use Rattle.std.proofs.Common.{◌≡◌, ◌∙◌, refl, sym, ap, subst, arith, ℕ, suc, ◌+◌, ◌-◌, ◌==◌, ◌&&◌, if◌then◌else◌, Bool, true, false, List, [], ◌∷◌, ◌++◌, Result, Ok, Err, eq-eqb, ne_eqb}
use Rattle.std.specs.Result.{IsErrAnd}
use Rattle.ppm_words.specs.declared.outcome.Outcome.{Outcome}
use Rattle.ppm_plan.specs.declared.fault.Fault.{Fault}
use Rattle.ppm_plan.specs.declared.fault.Fault.TheVariants.{Soft, Hard}
use Rattle.ppm_core.specs.Machine.{seen}
use Rattle.ppm_core.specs.Situation.{Situation}
use Rattle.ppm_choice.specs.Course.{Due, act_of, processor_of, is_made}
use Rattle.ppm_choice.specs.Schedules.{dues_of}
use Rattle.ppm_sweep.specs.declared.found.Stop.{Stop}
use Rattle.ppm_sweep.specs.declared.found.Tally.{Tally}
use Rattle.ppm_sweep.specs.declared.options.Sweeping.{Sweeping}
use Rattle.ppm_sweep.specs.declared.spot.Spot.{Spot}
use Rattle.ppm_sweep.specs.Ahead.{dues_in}
use Rattle.ppm_sweep.specs.Found.{AllCome, Stops, Finds}
use Rattle.ppm_sweep.specs.Spots.{place_of, first_way, CameFrom, GoesOn, Advances}
use Rattle.ppm_sweep.specs.Sweep.{Swept, all_acts, along, further, is_in, passed, number_after, sweep_from, struck}
use Rattle.ppm_sweep.specs.Visits.{one_less, swept_from, swept_further, swept_deeper, swept_before, swept_ahead, swept_struck, Visits, PassesOn}
use Rattle.ppm_sweep.proofs.FoundLemmas.{none_come, finds_after, no_more, stops_in}

pub stays : (spot : Spot) → GoesOn spot spot
stays spot = record { shape = refl; code = refl; is_spot = λ wanted h. h; came = λ m first h. h }

pub on_and_on : (a b c : Spot) → GoesOn a b → GoesOn b c → GoesOn a c
on_and_on a b c g h = record {
  shape = h.shape ∙ g.shape;
  code = h.code ∙ g.code;
  is_spot = λ wanted k. h.is_spot wanted (g.is_spot wanted k);
  came = λ m first k. h.came m first (g.came m first k);
}

-- what is ahead of a place is what is before its first act, and what is ahead of the next
pub ahead_is : (o : Sweeping) (old new : Spot) (due : Due) → Advances due old new
    → swept_ahead o old ≡ swept_before o old due ++ swept_ahead o new
ahead_is o old new due a =
    let s = (seen old.machine).shape in
    let code = (seen old.machine).code in
    ap (λ dues. along s code o.keeper (swept_deeper o old) o.window old.number (place_of old) dues) a.dues
    ∙ ap (λ l. swept_before o old due ++ l)
    (λ i. along (sym a.goes_on.shape i) (sym a.goes_on.code i) o.keeper
    (sweep_from (sym a.goes_on.shape i) (sym a.goes_on.code i) o.keeper o.turns (o.faults - 1) (all_acts o.turns) (sym a.faults i + 1))
    o.window (sym a.number i) (sym a.place i) (dues_in new.ahead))

-- what goes on from a place after a fault
pub deeper_is : (o : Sweeping) (old new : Spot) (c : ℕ) (fault : Fault) → GoesOn old new
    → place_of new ≡ struck (seen old.machine).shape (seen old.machine).code (place_of old) c fault → new.faults ≡ old.faults + 1
    → swept_from (one_less o) new ≡ swept_deeper o old (struck (seen old.machine).shape (seen old.machine).code (place_of old) c fault)
deeper_is o old new c fault g place faults =
    λ i. sweep_from (g.shape i) (g.code i) o.keeper o.turns (o.faults - 1) (all_acts o.turns) (faults i) (place i)

-- there are no schedules with a further fault, where there may be none
pub further_none : (o : Sweeping) (spot : Spot) → o.faults ≡ 0 → swept_further o spot ≡ []
further_none o spot e =
    let m = seen spot.machine in ap (λ f. further m.shape m.code o.keeper o.turns f o.window spot.faults (place_of spot)) e

-- else they are those with the next before an act that is ahead
pub further_is : (o : Sweeping) (spot : Spot) (n : ℕ) → o.faults ≡ suc n → spot.number ≡ 0
    → dues_in spot.ahead ≡ dues_of (seen spot.machine).shape.processors spot.ahead.rest o.turns → swept_further o spot ≡ swept_ahead o spot
further_is o spot n e begins dues =
    let m = seen spot.machine in
    let one : o.faults - 1 ≡ n = omega (arith, e) in
    ap (λ f. further m.shape m.code o.keeper o.turns f o.window spot.faults (place_of spot)) e
    ∙ (λ i. along m.shape m.code o.keeper (sweep_from m.shape m.code o.keeper o.turns (sym one i) (all_acts o.turns) (spot.faults + 1))
    o.window (sym begins i) (place_of spot) (sym dues i))

-- what the exit of a `?` returns
pub exit_finds : (m : Situation) (turns : ℕ) (wanted : Outcome) (swept : List Swept) (t u : Tally) (stop : Stop) (found : Result Unit Stop)
    → IsErrAnd found (λ e. e ≡ stop) → Stops m turns wanted swept stop → Finds m turns wanted swept t u found
exit_finds m turns wanted swept t u stop (Ok x) is h = absurd is
exit_finds m turns wanted swept t u stop (Err e) is h = subst (Stops m turns wanted swept) (sym is) h

pub exit_visits : (m : Situation) (wanted : Outcome) (o : Sweeping) (old new : Spot) (t u : Tally) (stop : Stop) (found : Result Bool Stop)
    → IsErrAnd found (λ e. e ≡ stop) → Stops m o.turns wanted (swept_ahead o old) stop → Visits m wanted o old new t u found
exit_visits m wanted o old new t u stop (Ok x) is h = absurd is
exit_visits m wanted o old new t u stop (Err e) is h = subst (Stops m o.turns wanted (swept_ahead o old)) (sym is) h

-- of the schedules that are ahead of one place, those were gone through that are not ahead of a later one
pub record Walked (wanted : Outcome) (o : Sweeping) (old now : Spot) (t u : Tally) : Type 0 where
  pub goes_on : GoesOn old now
  pub rest : (m : Situation) → m.turns ≡ 0 → CameFrom m (first_way o.turns) old → (v : Tally) (found : Result Unit Stop)
      → Finds m o.turns wanted (swept_ahead o now) u v found → Finds m o.turns wanted (swept_ahead o old) t v found

module _ (wanted : Outcome) (o : Sweeping) where
  pub begins : (spot : Spot) (t : Tally) → Walked wanted o spot spot t t
  begins spot t = record { goes_on = stays spot; rest = λ m fresh came v found h. h }

  -- a visit
  abbrev pub AllVisits : (now new : Spot) → (u v : Tally) → Result Bool Stop → Type 0
  AllVisits now new u v found = (m : Situation) → m.turns ≡ 0 → CameFrom m (first_way o.turns) now → Visits m wanted o now new u v found

  pub one_visit : (old now new : Spot) (t u v : Tally) → Walked wanted o old now t u → PassesOn true now new → AllVisits now new u v (Ok true)
      → Walked wanted o old new t v
  one_visit old now new t u v w p each = record {
    goes_on = on_and_on old now new w.goes_on p.1.goes_on;
    rest = λ m fresh came x found h.
        let k = each m fresh (w.goes_on.came m (first_way o.turns) came) in
        w.rest m fresh came x found
        (subst (λ l. Finds m o.turns wanted l u x found) (sym (ahead_is o now new k.due k.advances))
        (finds_after m o.turns wanted (swept_before o now k.due) (swept_ahead o new) u v x found k.all h));
  }

  pub visits_end : (old now new : Spot) (t u v : Tally) → Walked wanted o old now t u → AllVisits now new u v (Ok false)
      → (m : Situation) → m.turns ≡ 0 → CameFrom m (first_way o.turns) old → Finds m o.turns wanted (swept_ahead o old) t v (Ok tt)
  visits_end old now new t u v w each m fresh came =
      let k = each m fresh (w.goes_on.came m (first_way o.turns) came) in
      w.rest m fresh came v (Ok tt)
      (subst (λ l. AllCome m o.turns wanted l u v) (sym k.none)
      (subst (λ (x : Tally). AllCome m o.turns wanted [] u x) (sym k.same) (none_come m o.turns wanted u)))

  pub visit_stops : (old now new : Spot) (t u v : Tally) (stop : Stop) → Walked wanted o old now t u → AllVisits now new u v (Err stop)
      → (m : Situation) → m.turns ≡ 0 → CameFrom m (first_way o.turns) old → Finds m o.turns wanted (swept_ahead o old) t v (Err stop)
  visit_stops old now new t u v stop w each m fresh came =
      w.rest m fresh came v (Err stop) (each m fresh (w.goes_on.came m (first_way o.turns) came))

  -- a walk stops where a visit does
  pub walk_stops : (old now : Spot) (t u v : Tally) (stop : Stop) (found : Result Unit Stop) → Walked wanted o old now t u
      → ((m : Situation) → m.turns ≡ 0 → CameFrom m (first_way o.turns) now → Stops m o.turns wanted (swept_ahead o now) stop)
      → IsErrAnd found (λ e. e ≡ stop)
      → (m : Situation) → m.turns ≡ 0 → CameFrom m (first_way o.turns) old → Finds m o.turns wanted (swept_ahead o old) t v found
  walk_stops old now t u v stop found w each is m fresh came =
      w.rest m fresh came v found
      (exit_finds m o.turns wanted (swept_ahead o now) u v stop found is (each m fresh (w.goes_on.came m (first_way o.turns) came)))

-- a place after a fault
pub record IsStruck (old new : Spot) (c : ℕ) (fault : Fault) : Type 0 where
  pub goes_on : GoesOn old new
  pub place : place_of new ≡ struck (seen old.machine).shape (seen old.machine).code (place_of old) c fault
  pub faults : new.faults ≡ old.faults + 1

module _ (wanted : Outcome) (o : Sweeping) (old : Spot) (c : ℕ) where
  abbrev at_fault : Fault → List Swept
  at_fault fault = swept_deeper o old (struck (seen old.machine).shape (seen old.machine).code (place_of old) c fault)

  -- what a sweep from there finds
  abbrev pub Deeper : (d : Sweeping) (new : Spot) → (t u : Tally) → Result Unit Stop → Type 0
  Deeper d new t u found = (m : Situation) → m.turns ≡ 0 → CameFrom m (first_way d.turns) new → Finds m d.turns wanted (swept_from d new) t u found

  deeper_finds : (d : Sweeping) (new : Spot) (fault : Fault) (t u : Tally) (found : Result Unit Stop) → d ≡ one_less o → IsStruck old new c fault
      → Deeper d new t u found → (m : Situation) → m.turns ≡ 0 → CameFrom m (first_way o.turns) old → Finds m o.turns wanted (at_fault fault) t u found
  deeper_finds d new fault t u found e s each m fresh came =
      subst (λ l. Finds m o.turns wanted l t u found) (deeper_is o old new c fault s.goes_on s.place s.faults)
      (subst (λ (k : Sweeping). Deeper k new t u found) e each m fresh (s.goes_on.came m (first_way o.turns) came))

  -- it stops after the soft fault
  pub soft_stops : (d : Sweeping) (soft : Spot) (t u : Tally) (stop : Stop) (found : Result Unit Stop) → d ≡ one_less o → IsStruck old soft c Soft
      → Deeper d soft t u (Err stop) → IsErrAnd found (λ e. e ≡ stop)
      → (m : Situation) → m.turns ≡ 0 → CameFrom m (first_way o.turns) old → Finds m o.turns wanted (swept_struck o old c) t u found
  soft_stops d soft t u stop found e s each is m fresh came =
      exit_finds m o.turns wanted (swept_struck o old c) t u stop found is
      (stops_in m o.turns wanted (at_fault Soft) (if c == o.keeper then [] else at_fault Hard) stop
      (deeper_finds d soft Soft t u (Err stop) e s each m fresh came))

  -- the keeper meets no hard one
  pub soft_alone : (d : Sweeping) (soft : Spot) (t u : Tally) → d ≡ one_less o → IsStruck old soft c Soft → Deeper d soft t u (Ok tt) → c ≡ o.keeper
      → (m : Situation) → m.turns ≡ 0 → CameFrom m (first_way o.turns) old → AllCome m o.turns wanted (swept_struck o old c) t u
  soft_alone d soft t u e s each k m fresh came =
      subst (λ l. AllCome m o.turns wanted l t u)
      (sym (ap (λ b. at_fault Soft ++ (if b then [] else at_fault Hard)) (eq-eqb c o.keeper k) ∙ no_more (at_fault Soft)))
      (deeper_finds d soft Soft t u (Ok tt) e s each m fresh came)

  -- after the soft fault the hard one
  pub hard_too : (d : Sweeping) (soft hard : Spot) (t u v : Tally) (found : Result Unit Stop) → d ≡ one_less o → IsStruck old soft c Soft → IsStruck old hard c Hard
      → Deeper d soft t u (Ok tt) → Deeper d hard u v found → (c ≡ o.keeper → ⊥)
      → (m : Situation) → m.turns ≡ 0 → CameFrom m (first_way o.turns) old → Finds m o.turns wanted (swept_struck o old c) t v found
  hard_too d soft hard t u v found e s h first more k m fresh came =
      subst (λ l. Finds m o.turns wanted l t v found) (sym (ap (λ b. at_fault Soft ++ (if b then [] else at_fault Hard)) (ne_eqb c o.keeper k)))
      (finds_after m o.turns wanted (at_fault Soft) (at_fault Hard) t u v found
      (deeper_finds d soft Soft t u (Ok tt) e s first m fresh came) (deeper_finds d hard Hard u v found e h more m fresh came))

-- before an act that is made and is to have a fault
pub before_is : (o : Sweeping) (old : Spot) (due : Due) (more : List Due) → dues_in old.ahead ≡ due ∷ more
    → is_made (seen old.machine).shape (seen old.machine).code (place_of old).course due ≡ true → is_in o.window old.number ≡ true
    → (later : List Swept) × (swept_ahead o old ≡ swept_struck o old (processor_of (act_of due)) ++ later)
before_is o old due more e made chosen =
    let s = (seen old.machine).shape in
    let code = (seen old.machine).code in
    let rest = along s code o.keeper (swept_deeper o old) o.window (number_after s code old.number (place_of old) due) (passed s code (place_of old) due) more in (
      rest,
      ap (λ dues. along s code o.keeper (swept_deeper o old) o.window old.number (place_of old) dues) e
          ∙ ap (λ b. (if b && is_in o.window old.number then swept_struck o old (processor_of (act_of due)) else []) ++ rest) made
          ∙ ap (λ b. (if b then swept_struck o old (processor_of (act_of due)) else []) ++ rest) chosen,
    )

-- all before an act that is made come to the outcome, where it is to have a fault and where it isn't
pub all_before : (m : Situation) (wanted : Outcome) (o : Sweeping) (old : Spot) (due : Due) (t u : Tally)
    → is_made (seen old.machine).shape (seen old.machine).code (place_of old).course due ≡ true → (b : Bool) → is_in o.window old.number ≡ b
    → AllCome m o.turns wanted (if b then swept_struck o old (processor_of (act_of due)) else []) t u → AllCome m o.turns wanted (swept_before o old due) t u
all_before m wanted o old due t u made b chosen all =
    let struck_there = swept_struck o old (processor_of (act_of due)) in
    subst (λ l. AllCome m o.turns wanted l t u)
    (sym (ap (λ x. if x && is_in o.window old.number then struck_there else []) made ∙ ap (λ x. if x then struck_there else []) chosen)) all
