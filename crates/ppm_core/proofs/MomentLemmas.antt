-- Steps of one processor in a row, from moment to moment.
use Rattle.std.proofs.Common.{◌≡◌, ◌∙◌, ℕ, zero, suc, ◌+◌, true, false, List, Some, refl, sym, ap, subst, arith}
use Rattle.ppm_cells.specs.Memory.{read}
use Rattle.ppm_cells.specs.declared.cell.Cell.TheVariants.{FinishWord}
use Rattle.ppm_cells.specs.declared.restart.RestartKind.{RestartKind}
use Rattle.ppm_cells.specs.declared.restart.RestartKind.TheVariants.{Run}
use Rattle.ppm_cells.specs.declared.shape.Shape.{Shape}
use Rattle.ppm_code.specs.declared.code.CodeParts.{CodeParts}
use Rattle.ppm_step.specs.declared.going.Going.{Going}
use Rattle.ppm_step.specs.declared.going.Going.TheVariants.{Went, Installed}
use Rattle.ppm_step.specs.declared.row.Seat.{Seat}
use Rattle.ppm_step.specs.declared.running.Running.{Running}
use Rattle.ppm_step.specs.Frames.{Rest}
use Rattle.ppm_step.specs.Locals.{HasNoHeader}
use Rattle.ppm_step.specs.Stages.{IsUnderWay, WentOn, rest_at, went_on}
use Rattle.ppm_step.specs.Standings.{Standing, IsAt, IsRunning, at_finish, begins, wanted_rest, went_rest}
use Rattle.ppm_step.specs.State.{found_in, words_after}
use Rattle.ppm_core.specs.Moments.{Moment, moment, moved, moved_by, AllMove, work_in, forks_in, takes_in, LastWorks, Goes, Leads, StepsTo}
use Rattle.ppm_core.specs.Moments.{MovesOn, NoFurther, is_under_way}
use Rattle.ppm_core.specs.Steps.{is_in_capsule, is_of_frame}

module _ (s : Shape) (code : CodeParts) (own : ℕ) where
  moved_on : (n m : ℕ) (t : Moment) → moved_by s code own (n + m) t ≡ moved_by s code own m (moved_by s code own n t)
  moved_on zero m t = ap (λ k. moved_by s code own k t) (none m)
    where
      none : (m : ℕ) → 0 + m ≡ m
      none m = omega arith
  moved_on (suc n) m t = ap (λ k. moved_by s code own k t) (next n m) ∙ moved_on n m (moved s code own t)
    where
      next : (n m : ℕ) → suc n + m ≡ suc (n + m)
      next n m = omega arith

  all_move : (n m : ℕ) (t : Moment) → AllMove s code own n t → AllMove s code own m (moved_by s code own n t) → AllMove s code own (n + m) t
  all_move zero m t first more = subst (λ k. AllMove s code own k t) (none m) more
    where
      none : (m : ℕ) → m ≡ 0 + m
      none m = omega arith
  all_move (suc n) m t first more =
      subst (λ k. AllMove s code own k t) (next n m) (first.0, all_move n m (moved s code own t) first.1 more)
    where
      next : (n m : ℕ) → suc (n + m) ≡ suc n + m
      next n m = omega arith

  work_on : (n m : ℕ) (t : Moment) → work_in s code own n t + work_in s code own m (moved_by s code own n t) ≡ work_in s code own (n + m) t
  work_on zero m t = sum (work_in s code own m t) ∙ ap (λ k. work_in s code own k t) (none m)
    where
      none : (m : ℕ) → m ≡ 0 + m
      none m = omega arith

      sum : (w : ℕ) → 0 + w ≡ w
      sum w = omega arith
  work_on (suc n) m t =
      omega (arith, work_on n m (moved s code own t), ap (λ k. work_in s code own k t) (next n m))
    where
      next : (n m : ℕ) → suc (n + m) ≡ suc n + m
      next n m = omega arith

  forks_on : (n m : ℕ) (t : Moment) → forks_in s code own n t + forks_in s code own m (moved_by s code own n t) ≡ forks_in s code own (n + m) t
  forks_on zero m t = sum (forks_in s code own m t) ∙ ap (λ k. forks_in s code own k t) (none m)
    where
      none : (m : ℕ) → m ≡ 0 + m
      none m = omega arith

      sum : (w : ℕ) → 0 + w ≡ w
      sum w = omega arith
  forks_on (suc n) m t =
      omega (arith, forks_on n m (moved s code own t), ap (λ k. forks_in s code own k t) (next n m))
    where
      next : (n m : ℕ) → suc n + m ≡ suc (n + m)
      next n m = omega arith

  takes_on : (n m : ℕ) (t : Moment) → takes_in s code own n t + takes_in s code own m (moved_by s code own n t) ≡ takes_in s code own (n + m) t
  takes_on zero m t = sum (takes_in s code own m t) ∙ ap (λ k. takes_in s code own k t) (none m)
    where
      none : (m : ℕ) → m ≡ 0 + m
      none m = omega arith

      sum : (w : ℕ) → 0 + w ≡ w
      sum w = omega arith
  takes_on (suc n) m t =
      omega (arith, takes_on n m (moved s code own t), ap (λ k. takes_in s code own k t) (next n m))
    where
      next : (n m : ℕ) → suc n + m ≡ suc (n + m)
      next n m = omega arith

  last_on : (n m : ℕ) (t : Moment) → LastWorks s code own n t → LastWorks s code own m (moved_by s code own n t) → LastWorks s code own (n + m) t
  last_on n zero t first more = subst (λ k. LastWorks s code own k t) (same n) first
    where
      same : (n : ℕ) → n ≡ n + 0
      same n = omega arith
  last_on zero (suc m) t first more = subst (λ k. LastWorks s code own k t) (none m) more
    where
      none : (m : ℕ) → suc m ≡ 0 + suc m
      none m = omega arith
  last_on (suc zero) (suc m) t first more = subst (λ k. LastWorks s code own k t) (two m) more
    where
      two : (m : ℕ) → suc (suc m) ≡ suc zero + suc m
      two m = omega arith
  last_on (suc (suc n)) (suc m) t first more =
      subst (λ k. LastWorks s code own k t) (next n m)
      (subst (λ k. LastWorks s code own k (moved s code own t)) (less n m) (last_on (suc n) (suc m) (moved s code own t) first more))
    where
      less : (n m : ℕ) → suc n + suc m ≡ suc (n + suc m)
      less n m = omega arith

      next : (n m : ℕ) → suc (suc (n + suc m)) ≡ suc (suc n) + suc m
      next n m = omega arith

  -- some, and then others
  pub goes_both : {n m w v f g h k : ℕ} {t u x : Moment} → Goes s code own n w f h t u → Goes s code own m v g k u x
      → Goes s code own (n + m) (w + v) (f + g) (h + k) t x
  goes_both {n} {m} {w} {v} {f} {g} {h} {k} {t} {u} {x} first more = record {
    moves = all_move n m t first.moves (subst (AllMove s code own m) first.comes_to more.moves);
    comes_to = more.comes_to ∙ ap (moved_by s code own m) first.comes_to ∙ sym (moved_on n m t);
    works = omega (arith, first.works, more.works, ap (work_in s code own m) first.comes_to, work_on n m t);
    forked = omega (arith, first.forked, more.forked, ap (forks_in s code own m) first.comes_to, forks_on n m t);
    taken = omega (arith, first.taken, more.taken, ap (takes_in s code own m) first.comes_to, takes_on n m t);
  }

  pub leads_both : {n m w v f g h k : ℕ} {t u x : Moment} → Leads s code own n w f h t u → Leads s code own m v g k u x
      → Leads s code own (n + m) (w + v) (f + g) (h + k) t x
  leads_both {n} {m} {w} {v} {f} {g} {h} {k} {t} {u} {x} first more = record {
    goes = goes_both first.goes more.goes;
    ends = last_on n m t first.ends (subst (LastWorks s code own m) first.goes.comes_to more.ends);
  }

  pub both : {n m w v : ℕ} {t u x : Moment} → StepsTo s code own n w t u → StepsTo s code own m v u x → StepsTo s code own (n + m) (w + v) t x
  both first more = leads_both first more

  -- a step in a capsule of a frame
  pub in_capsule : (seat : Seat) (rest : Rest) (words words' : List ℕ) (stand : Standing) → read s words FinishWord ≡ 0
      → words' ≡ words_after words (wanted_rest s seat rest)
      → stand ≡ went_rest s seat (found_in words (wanted_rest s seat rest)) rest
      → StepsTo s code own 1 1 (moment words (IsRunning seat rest)) (moment words' stand)
  in_capsule seat rest words words' stand finish stored stands = record {
    goes = record {
      moves = (record { finish = finish; lives = refl; seeks_none = refl }, tt);
      comes_to = λ i. record { words = stored i; stand = stands i };
      works = refl;
      forked = refl;
      taken = refl;
    };
    ends = refl;
  }

  -- behind the load of the finish word a restart begins
  pub behind_finish_word : (seat : Seat) (words : List ℕ) (stand : Standing) → own ≡ seat.own → read s words FinishWord ≡ 0
      → begins s code seat.own seat.place (Some seat.restart) ≡ stand
      → moved s code own (moment words (IsAt seat.place (Some seat.restart))) ≡ moment words stand
  behind_finish_word seat words stand same finish begins_with =
      ap (λ f. moment words (at_finish s code own seat.place (Some seat.restart) f)) finish
      ∙ ap (λ o. moment words (at_finish s code o seat.place (Some seat.restart) 0)) same
      ∙ ap (moment words) begins_with

  -- a step more in the capsule
  pub further : {made : ℕ} {t : Moment} {seat : Seat} {old new : Running} {registers registers' words words' : List ℕ} {going : Going}
      → StepsTo s code own made made t (moment words (IsRunning seat (rest_at s code old old.stage registers))) → read s words FinishWord ≡ 0
      → MovesOn s code old new registers registers' words words' going → old.seat ≡ seat
      → StepsTo s code own (made + 1) (made + 1) t (moment words' (went_on seat (rest_at s code new new.stage registers') going))
  further {made} {t} {seat} {old} {new} {registers} {registers'} {words} {words'} {going} so_far finish moved same =
      let rest = rest_at s code old old.stage registers in
      let left = rest_at s code new new.stage registers' in
      both so_far
      (subst
      (λ (u : Seat). StepsTo s code own 1 1 (moment words (IsRunning u rest)) (moment words' (went_on u left going))) same
      (in_capsule old.seat rest words words' (went_on old.seat left going) finish moved.words_are moved.stands))

  -- behind which it goes on
  going_is : (going : Going) → is_under_way going ≡ true → going ≡ Went true
  going_is (Went there) goes = ap Went goes
  going_is (Installed restart) goes = cc

  pub goes_on : {made : ℕ} {t : Moment} {seat : Seat} {rest : Rest} {words : List ℕ} (going : Going) → is_under_way going ≡ true
      → StepsTo s code own made made t (moment words (went_on seat rest going)) → StepsTo s code own made made t (moment words (IsRunning seat rest))
  goes_on {made} {t} {seat} {rest} {words} going goes leads =
      subst (λ g. StepsTo s code own made made t (moment words (went_on seat rest g))) (going_is going goes) leads

  pub holds_on : {running : Running} {registers : List ℕ} (going : Going) → is_under_way going ≡ true
      → WentOn s code running registers going → IsUnderWay s code running registers
  holds_on {running} {registers} going goes holds = subst (λ g. WentOn s code running registers g) (going_is going goes) holds refl

  -- where a frame's header isn't there, no capsule is entered
  pub no_header : (seat : Seat) (words : List ℕ) (left : ℕ) → own ≡ seat.own → HasNoHeader s seat
      → NoFurther s code own left (moment words (IsAt seat.place (Some seat.restart)))
  no_header seat words left same none = record { inside = λ some finish. refl; before = λ some finish. of_kind seat.restart.kind refl finish }
    where
      of_kind : (kind : RestartKind) → seat.restart.kind ≡ kind → read s words FinishWord ≡ 0 → is_of_frame kind ≡ true
          → is_in_capsule (moved_by s code own 2 (moment words (IsAt seat.place (Some seat.restart)))).stand ≡ false
      of_kind (Run frame copy) is finish of_frame =
          ap (λ (t : Moment). is_in_capsule (moved s code own t).stand) (behind_finish_word seat words _ same finish (none code frame copy is))
      of_kind other is finish of_frame = cc
