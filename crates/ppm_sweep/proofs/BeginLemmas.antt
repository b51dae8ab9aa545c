-- Where a sweep begins.
use Rattle.std.proofs.Common.{◌≡◌, sym, ap, subst, arith, ℕ, ◌<◌, ◌≤◌, ◌-◌, List, [], ◌∷◌, length, get_or, take, drop, take_all, le_refl, flat_map, Result, Ok, Err, IfErr, IfOk, ◌∙◌}
use Rattle.std.specs.Result.{IsErrAnd}
use Rattle.ppm_words.specs.declared.outcome.Outcome.{Outcome}
use Rattle.ppm_plan.specs.declared.schedule_item.ScheduleItem.{ScheduleItem}
use Rattle.ppm_core.specs.Machine.{Holding, seen}
use Rattle.ppm_core.specs.Situation.{Situation}
use Rattle.ppm_choice.specs.Schedules.{listed}
use Rattle.ppm_following.specs.Following.{course, Does, IsReady}
use Rattle.ppm_following.proofs.DoesLemmas.{nothing}
use Rattle.ppm_following.proofs.ReadyLemmas.{ready_first}
use Rattle.ppm_sweep.specs.declared.found.Stop.{Stop}
use Rattle.ppm_sweep.specs.declared.found.Tally.{Tally}
use Rattle.ppm_sweep.specs.declared.options.Sweeping.{Sweeping}
use Rattle.ppm_sweep.specs.declared.options.Window.{Window}
use Rattle.ppm_sweep.specs.declared.spot.Spot.{Spot}
use Rattle.ppm_sweep.specs.Found.{AllCome, Finds, Stops}
use Rattle.ppm_sweep.specs.Meets.{HasArraysOf}
use Rattle.ppm_sweep.specs.Spots.{first_way, place_of, CameFrom, IsBeginning, IsSpot}
use Rattle.ppm_sweep.specs.Sweep.{Swept, alone, first_place, further}
use Rattle.ppm_sweep.specs.Visits.{base_of, over, swept_further, swept_in}
use Rattle.ppm_sweep.proofs.FoundLemmas.{finds_after, none_come, stops_in}

-- a place before the first act of a run, on a machine
module _ (o : Sweeping) (spot : Spot) (machine : Holding) (items : List ScheduleItem) (same : spot.machine ≡ machine)
    (b : IsBeginning o.turns items spot) where
  place_is : place_of spot ≡ first_place (seen machine).shape (seen machine).code o.keeper o.turns (seen machine).state items
  place_is = λ i. record { course = course (seen (same i)) (b.way i); front = b.front i; rest = b.rest i }

  -- its schedule is the base schedule, and those with faults are those of the sweep
  pub base_is : alone spot.faults (place_of spot) ≡ base_of (seen machine) items o
  base_is = λ i. alone (b.faults i) (place_is i)

  pub window_is : swept_further o spot ≡ swept_in (seen machine) items o o.window
  window_is = λ i. further (seen (same i)).shape (seen (same i)).code o.keeper o.turns o.faults o.window (b.faults i) (place_is i)

  pub came_first : CameFrom (seen machine) (first_way o.turns) spot
  came_first =
      let m = seen machine in
      subst (λ n. Does (listed spot.front.items) m (first_way o.turns) (seen n) spot.way) (sym same)
      (subst (λ v. Does (listed spot.front.items) m (first_way o.turns) m v) (sym b.way)
      (subst (λ l. Does (listed l) m (first_way o.turns) m (first_way o.turns)) (sym b.front) nothing))

  -- it is a place for what is wanted
  pub begins_well : (wanted : Outcome) → (seen machine).turns ≡ 0 → o.turns ≤ 1099511627776
      → spot.ahead.processors ≡ (seen machine).shape.processors → HasArraysOf (seen machine) wanted → IsSpot wanted spot
  begins_well wanted fresh few among arrays = record {
    ready =
        subst (λ n. IsReady (seen n) spot.way) (sym same)
        (subst (IsReady (seen machine)) (sym b.way) (ready_first (seen machine) o.turns (omega (arith, fresh)) few));
    processors = among ∙ ap (λ n. (seen n).shape.processors) (sym same);
    arrays = subst (λ n. HasArraysOf (seen n) wanted) (sym same) arrays;
  }

-- one window after another
module _ (m : Situation) (o : Sweeping) (wanted : Outcome) (items : List ScheduleItem) where
  abbrev pub swept_all : List Window → List Swept
  swept_all windows = flat_map (swept_in m items o) windows

  -- what is found of those of the windows that are left is found of all
  abbrev pub Goes : (windows left : List Window) → (t u : Tally) → Type 0
  Goes windows left t u = (v : Tally) (found : Result Unit Stop) → Finds m o.turns wanted (swept_all left) u v found → Finds m o.turns wanted (swept_all windows) t v found

  rest_is : (w : Window) (left : List Window) → take (length (w ∷ left) - 1) left ≡ left
  rest_is w left =
      let one : length (w ∷ left) - 1 ≡ length left = omega arith in
      ap (λ k. take k left) one ∙ take_all (length left) left (le_refl (length left))

  pub one_window : (windows left : List Window) (d : Window) (t u v : Tally) → 1 ≤ length left → Goes windows left t u
      → AllCome m o.turns wanted (swept_in m items o (get_or left 0 d)) u v → Goes windows (take (length left - 1) (drop 1 left)) t v
  one_window windows [] d t u v some g a = absurd (omega (arith, some))
  one_window windows (w ∷ left) d t u v some g a = λ x found h.
      g x found (finds_after m o.turns wanted (swept_in m items o w) (swept_all left) u v x found a
      (subst (λ l. Finds m o.turns wanted (swept_all l) v x found) (rest_is w left) h))

  pub no_window : (windows left : List Window) (t u : Tally) → length left < 1 → Goes windows left t u → AllCome m o.turns wanted (swept_all windows) t u
  no_window windows [] t u none g = g u (Ok tt) (none_come m o.turns wanted u)
  no_window windows (w ∷ left) t u none g = absurd (omega (arith, none))

  -- it stops in a window
  pub window_stops : (windows left : List Window) (d : Window) (t u v : Tally) (stop : Stop) → 1 ≤ length left → Goes windows left t u
      → Stops m o.turns wanted (swept_in m items o (get_or left 0 d)) stop → Finds m o.turns wanted (swept_all windows) t v (Err stop)
  window_stops windows [] d t u v stop some g s = absurd (omega (arith, some))
  window_stops windows (w ∷ left) d t u v stop some g s =
      g v (Err stop) (stops_in m o.turns wanted (swept_in m items o w) (swept_all left) stop s)

  -- the sweep over one of them
  pub over_is : (p : Sweeping) (w : Window) (t u : Tally) (found : Result Unit Stop) → p ≡ over o w
      → Finds m p.turns wanted (swept_in m items p p.window) t u found → Finds m o.turns wanted (swept_in m items o w) t u found
  over_is p w t u found e h = subst (λ (k : Sweeping). Finds m k.turns wanted (swept_in m items k k.window) t u found) e h

pub exit_stops : {T : Type 0} (m : Situation) (turns : ℕ) (wanted : Outcome) (swept : List Swept) (stop : Stop) (found : Result T Stop)
    → IsErrAnd found (λ e. e ≡ stop) → Stops m turns wanted swept stop → IfErr found (Stops m turns wanted swept)
exit_stops m turns wanted swept stop (Ok x) is h = absurd is
exit_stops m turns wanted swept stop (Err e) is h = subst (Stops m turns wanted swept) (sym is) h

pub exit_all : {T : Type 0} (Q : Stop → Type 0) (P : T → Type 0) (found : Result T Stop) → IsErrAnd found Q → IfOk found P
exit_all Q P (Ok x) is = absurd is
exit_all Q P (Err e) is = tt
