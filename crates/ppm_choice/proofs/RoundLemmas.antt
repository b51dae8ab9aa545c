-- The rounds are enough: after them nothing is left to do.
use Rattle.std.proofs.Common.{◌≡◌, ◌≢◌, ◌<◌, ◌≤◌, ◌+◌, ◌⊎◌, inl, inr, refl, sym, ap, ◌∙◌, subst, arith, ℕ, zero, suc, Bool, true, false, List, length}
use Rattle.std.proofs.Common.{nat_lt, not, ◌&&◌, ◌==◌, if◌then◌else◌, map}
use Rattle.std.specs.List.{range_with_len}
use Rattle.std.proofs.lemmas.Bool.Decides.{eqb_tells}
use Rattle.ppm_cells.specs.Memory.{read}
use Rattle.ppm_cells.specs.declared.cell.Cell.TheVariants.{FinishWord}
use Rattle.ppm_cells.specs.declared.shape.Shape.{Shape}
use Rattle.ppm_code.specs.declared.code.CodeParts.{CodeParts}
use Rattle.ppm_plan.specs.declared.schedule_item.ScheduleItem.{ScheduleItem}
use Rattle.ppm_step.specs.Standings.{Standing, IsLost, IsPlaced, IsAt, IsWithin, IsRunning, IsBroken, IsDone}
use Rattle.ppm_step.specs.State.{State, stand_of, after}
use Rattle.ppm_step.specs.State.{is_done_at}
use Rattle.ppm_choice.specs.Course.{Due, InRound, Course, act_of, is_made, behind_act, behind, behind_all}
use Rattle.ppm_choice.specs.Schedules.{round, rounds, listed, dues_of, beginning, schedule_turns}
use Rattle.ppm_choice.specs.ScheduleLaws.{IsOver, AllMade, Finished, NoneLeft, GoesOn}
use Rattle.ppm_choice.proofs.CourseLemmas.{behind_both}
use Rattle.ppm_choice.proofs.IdleLemmas.{none_left, not_open, is_over, is_shut}
use Rattle.ppm_choice.proofs.MadeLemmas.{Makes, Skips, made_or_not, state_at, left_at}

-- a processor that takes no step is done
pub over_is_done : (standing : Standing) → is_done_at standing ≡ true → standing ≡ IsDone
over_is_done IsDone e = refl
over_is_done IsLost e = cc
over_is_done (IsPlaced place) e = cc
over_is_done (IsAt place restart) e = cc
over_is_done (IsWithin seat row) e = cc
over_is_done (IsRunning seat rest) e = cc
over_is_done (IsBroken place) e = cc

-- a step that is open, with acts left, and is not made
third_fails : (a b c : Bool) → a ≡ true → b ≡ true → (a && b && not c) ≡ false → c ≡ true
third_fails true true true x y e = refl
third_fails true true false x y e = sym e
third_fails true false c x y e = cc
third_fails false b c x y e = cc

module _ (s : Shape) (code : CodeParts) where
  -- nothing is left to do
  abbrev pub Settled : Course → Type 0
  Settled w = IsOver s w.state w.left 0

  -- then no step of a round is made
  none_made : (w : Course) (processor : ℕ) → processor < s.processors → Settled w → is_made s code w (InRound processor) ≡ false
  none_made w processor there (AllMade none) = none_left s code w (InRound processor) none
  none_made w processor there (Finished some) =
      not_open s code w (InRound processor) (is_shut (read s w.state.words FinishWord) (read s w.state.words FinishWord) refl some)
  none_made w processor there (NoneLeft all) = is_over s code w (InRound processor) (ap is_done_at (all processor there))

  skipped : (w : Course) (due : Due) → is_made s code w due ≡ false → behind s code w due ≡ w
  skipped w due none = ap (λ b. if b then behind_act s code w (act_of due) else w) none

  round_stays : (a n : ℕ) (w : Course) → a + n ≤ s.processors → Settled w → behind_all s code w (map InRound (range_with_len a n)) ≡ w
  round_stays a zero w fits settled = refl
  round_stays a (suc n) w fits settled =
      ap (λ v. behind_all s code v (map InRound (range_with_len (a + 1) n))) (skipped w (InRound a) (none_made w a (omega (arith, fits)) settled))
      ∙ round_stays (a + 1) n w (omega (arith, fits)) settled

  rounds_stay : (count : ℕ) (w : Course) → Settled w → behind_all s code w (rounds s.processors count) ≡ w
  rounds_stay zero w settled = refl
  rounds_stay (suc count) w settled =
      behind_both s code w (round s.processors) (rounds s.processors count)
      ∙ ap (λ v. behind_all s code v (rounds s.processors count)) (round_stays 0 s.processors w (omega arith) settled)
      ∙ rounds_stay count w settled

  -- in a round an act is made, or none is and all is as it was
  pub record Rests (w : Course) (a n : ℕ) : Type 0 where
    pub stays : behind_all s code w (map InRound (range_with_len a n)) ≡ w
    pub none : (processor : ℕ) → a ≤ processor → processor < a + n → is_made s code w (InRound processor) ≡ false

  abbrev pub RoundDoes : Course → (a n : ℕ) → Type 0
  RoundDoes w a n = ((behind_all s code w (map InRound (range_with_len a n))).left < w.left) ⊎ Rests w a n

  made_first : (w : Course) (a n : ℕ) → Makes s code w (InRound a)
      → (behind_all s code w (map InRound (range_with_len a (suc n)))).left < w.left
  made_first w a n m =
      omega (
        arith,
        m.left,
        ap (λ v. v.left) m.course,
        left_at s code (behind s code w (InRound a)) (map InRound (range_with_len (a + 1) n)),
      )

  rests_first : (w : Course) (a n : ℕ) → Skips s code w (InRound a) → Rests w (a + 1) n → Rests w a (suc n)
  rests_first w a n k r = record {
    stays = ap (λ v. behind_all s code v (map InRound (range_with_len (a + 1) n))) k.course ∙ r.stays;
    none = λ processor above below. by_place processor above below (eqb_tells processor a);
  }
    where
      by_place : (processor : ℕ) → a ≤ processor → processor < a + suc n
          → (((processor == a) ≡ true) × (processor ≡ a)) ⊎ (((processor == a) ≡ false) × (processor ≢ a))
          → is_made s code w (InRound processor) ≡ false
      by_place processor above below (inl same) = ap (λ p. is_made s code w (InRound p)) same.1 ∙ k.why
      by_place processor above below (inr other) = r.none processor (grind (arith, above, other.1)) (omega (arith, below))

  first_skipped : (w : Course) (a n : ℕ) → Skips s code w (InRound a) → RoundDoes w (a + 1) n → RoundDoes w a (suc n)
  first_skipped w a n k (inl less) =
      inl (subst (λ v. (behind_all s code v (map InRound (range_with_len (a + 1) n))).left < w.left) (sym k.course) less)
  first_skipped w a n k (inr rests) = inr (rests_first w a n k rests)

  by_first : (w : Course) (a n : ℕ) → Makes s code w (InRound a) ⊎ Skips s code w (InRound a) → RoundDoes w (a + 1) n → RoundDoes w a (suc n)
  by_first w a n (inl m) rest = inl (made_first w a n m)
  by_first w a n (inr k) rest = first_skipped w a n k rest

  round_does : (a n : ℕ) (w : Course) → RoundDoes w a n
  round_does a zero w = inr (record { stays = refl; none = λ processor above below. absurd (omega (arith, above, below)) })
  round_does a (suc n) w = by_first w a n (made_or_not s code w (InRound a)) (round_does (a + 1) n w)

  -- where none is made nothing is left to do
  when_open : (w : Course) → 0 < w.left → (read s w.state.words FinishWord == 0) ≡ true → Rests w 0 s.processors → Settled w
  when_open w left open_ rests =
      NoneLeft (λ processor there. over_is_done (stand_of w.state processor)
      (third_fails (nat_lt 0 w.left) (read s w.state.words FinishWord == 0) (is_done_at (stand_of w.state processor))
      (grind (arith, left)) open_ (rests.none processor (omega arith) (omega (arith, there)))))

  by_word : (w : Course) → 0 < w.left → Rests w 0 s.processors
      → (((read s w.state.words FinishWord == 0) ≡ true) × (read s w.state.words FinishWord ≡ 0))
      ⊎ (((read s w.state.words FinishWord == 0) ≡ false) × (read s w.state.words FinishWord ≢ 0))
      → Settled w
  by_word w left rests (inl none) = when_open w left none.0 rests
  by_word w left rests (inr some) = Finished some.1

  by_left : (w : Course) (left : ℕ) → w.left ≡ left → Rests w 0 s.processors → Settled w
  by_left w zero is rests = AllMade is
  by_left w (suc left) is rests = by_word w (omega (arith, is)) rests (eqb_tells (read s w.state.words FinishWord) 0)

  rest_settles : (w : Course) → Rests w 0 s.processors → Settled w
  rest_settles w rests = by_left w w.left refl rests

  -- as many rounds as there are acts left
  by_round : (count : ℕ) (w : Course) → w.left ≤ suc count → RoundDoes w 0 s.processors
      → ((v : Course) → v.left ≤ count → Settled (behind_all s code v (rounds s.processors count)))
      → Settled (behind_all s code w (rounds s.processors (suc count)))
  by_round count w few (inl less) go =
      subst Settled (sym (behind_both s code w (round s.processors) (rounds s.processors count)))
      (go (behind_all s code w (round s.processors)) (omega (arith, few, less)))
  by_round count w few (inr rests) go =
      subst Settled (sym (rounds_stay (suc count) w (rest_settles w rests))) (rest_settles w rests)

  pub enough : (count : ℕ) (w : Course) → w.left ≤ count → Settled (behind_all s code w (rounds s.processors count))
  enough zero w few = AllMade (omega (arith, few))
  enough (suc count) w few = by_round count w few (round_does 0 s.processors w) (enough count)

  -- the whole run
  over_by : (state : State) (w : Course) (made turns : ℕ) → w.state ≡ state → made + w.left ≡ turns → Settled w → IsOver s state made turns
  over_by state w made turns is left (AllMade none) = AllMade (omega (arith, left, none))
  over_by state w made turns is left (Finished some) = Finished (subst (λ (k : State). read s k.words FinishWord ≢ 0) is some)
  over_by state w made turns is left (NoneLeft all) =
      NoneLeft (subst (λ (k : State). (processor : ℕ) → processor < s.processors → stand_of k processor ≡ IsDone) is all)

  settled : (state : State) (items : List ScheduleItem) (turns : ℕ)
      → Settled (behind_all s code (beginning state turns) (dues_of s.processors items turns))
  settled state items turns =
      let after_list = behind_all s code (beginning state turns) (listed items) in
      subst Settled (sym (behind_both s code (beginning state turns) (listed items) (rounds s.processors turns)))
      (enough turns after_list (omega (arith, left_at s code (beginning state turns) (listed items))))

  pub goes_on : GoesOn s code
  goes_on state items turns =
      over_by (after s code state (schedule_turns s code state items turns))
      (behind_all s code (beginning state turns) (dues_of s.processors items turns))
      (length (schedule_turns s code state items turns)) turns
      (state_at s code (beginning state turns) (dues_of s.processors items turns))
      (left_at s code (beginning state turns) (dues_of s.processors items turns))
      (settled state items turns)
