-- When a processor is done, and how long the finish word stays.
use Rattle.std.proofs.Common.{◌≡◌, ◌≢◌, ◌∙◌, ◌==◌, ◌+◌, ◌*◌, ◌<◌, ◌≤◌, ◌⊎◌, inl, inr, if◌then◌else◌, not, ℕ, zero, suc, Bool, true, false, List, [], ◌∷◌, ◌++◌, length, Some, None, slice_get, slice_index, slice_set, refl, sym, ap, subst, arith}
use Rattle.std.specs.List.{sum_by}
use Rattle.std.proofs.lemmas.Bool.Decides.{eqb_tells}
use Rattle.std.proofs.lemmas.List.Sums.{sum_by-cons}
use Rattle.ppm_cells.specs.Cells.{place_size}
use Rattle.ppm_cells.specs.Memory.{AreWordsOf}
use Rattle.ppm_cells.specs.declared.restart.RestartKind.{RestartKind}
use Rattle.ppm_cells.specs.declared.restart.RestartKind.TheVariants as kinds
use Rattle.ppm_cells.specs.declared.shape.Shape.{Shape}
use Rattle.ppm_code.specs.Code.{IsCode}
use Rattle.ppm_code.specs.declared.code.CodeParts.{CodeParts}
use Rattle.ppm_step.specs.declared.ask.Want.{Want}
use Rattle.ppm_step.specs.declared.turn.Act.{Act}
use Rattle.ppm_step.specs.declared.turn.Act.TheVariants.{Step, Soft, Hard, Quit}
use Rattle.ppm_step.specs.declared.turn.Next.{Next}
use Rattle.ppm_step.specs.declared.turn.Next.TheVariants.{Work, Look, Done}
use Rattle.ppm_step.specs.declared.turn.Turn.{Turn}
use Rattle.ppm_step.specs.declared.turn.Told.{Told}
use Rattle.ppm_step.specs.declared.turn.Why.TheVariants.{Turns, Watch}
use Rattle.ppm_step.specs.Standings.{Standing, IsAt, IsWithin, IsDone}
use Rattle.ppm_step.specs.State.{State, stand_in, stand_of, found_in, want_of, stand_after, happens, after, opening, is_work, is_work_next, next_of, before_kind}
use Rattle.ppm_step.specs.Told.{told_of, event_by}
use Rattle.ppm_step.proofs.StandLemmas.{no_done}
use Rattle.ppm_step.proofs.ActLemmas.{StandsAfter, after_act, acted, acts_live, moved}
use Rattle.ppm_step.proofs.FinishLemmas.{AllSpare, SparesOrDone, turn_spares, opening_spares, finish_stays}
use Rattle.ppm_core.specs.Situation.{Situation, finish_in, turned, run_on}
use Rattle.ppm_locked.specs.Held.{EndsHold, EndsWhereDone, HasCountedRun, IsOpening, Seated, act_done, is_set, turn_done, units}
use Rattle.ppm_locked.proofs.RunLemmas.{run_more}

abbrev is_ended : Situation → Bool
is_ended m = is_set (finish_in m)

-- a processor whose coming step is none is done
kind_goes : (kind : RestartKind) → before_kind kind ≡ Done → ⊥
kind_goes kinds.Seek e = cc
kind_goes kind e = cc

step_goes : (work : Bool) → (if work then Work else Look) ≡ Done → ⊥
step_goes true e = cc
step_goes false e = cc

done_is : (stood : Standing) → next_of stood ≡ Done → stood ≡ IsDone
done_is IsDone e = refl
done_is (IsAt place None) e = cc
done_is (IsAt place (Some restart)) e = absurd (kind_goes restart.kind e)
done_is (IsWithin seat row) e = absurd (step_goes (is_work seat.restart.kind) e)
done_is stood e = cc

-- no turn that is done is a hard fault, where none was asked
step_no_hard : (b : Bool) (victim : ℕ) → (if b then Quit Turns else Step victim) ≢ Hard
step_no_hard true victim e = cc
step_no_hard false victim e = cc

no_hard : (b : Bool) (next : Next) (act : Act) → act ≢ Hard → act_done b next act ≢ Hard
no_hard true next (Step victim) h e = step_no_hard (is_work_next next) victim e
no_hard false next (Step victim) h e = cc
no_hard true next Soft h e = cc
no_hard false next Soft h e = cc
no_hard true next Hard h e = h refl
no_hard false next Hard h e = h refl
no_hard true next (Quit Turns) h e = cc
no_hard false next (Quit Turns) h e = cc
no_hard true next (Quit Watch) h e = cc
no_hard false next (Quit Watch) h e = cc

set_is : (word : ℕ) → word ≢ 0 → is_set word ≡ true
set_is word some = by (eqb_tells word 0)
  where
    by : (((word == 0) ≡ true) × (word ≡ 0)) ⊎ (((word == 0) ≡ false) × (word ≢ 0)) → is_set word ≡ true
    by (inl none) = absurd (some none.1)
    by (inr h) = ap not h.0

some_is : (word : ℕ) → is_set word ≡ true → word ≢ 0
some_is word set none = by (eqb_tells word 0)
  where
    by : (((word == 0) ≡ true) × (word ≡ 0)) ⊎ (((word == 0) ≡ false) × (word ≢ 0)) → ⊥
    by (inl h) = let clash : true ≡ false = sym set ∙ ap not h.0 in cc
    by (inr h) = h.1 none

module _ (s : Shape) (code : CodeParts) (is : IsCode code) where
  run_spares : (state : State) (turns : List Turn) → AllSpare s code is state → AllSpare s code is (after s code state turns)
  run_spares state [] all = all
  run_spares state (turn ∷ turns) all = run_spares (happens s code state turn) turns (turn_spares s code is state turn all)

  -- a processor is done by a turn: the turn is a hard fault, or the finish word isn't 0 after it
  done_by : (state : State) (turn : Turn) → SparesOrDone s code is (stand_of state turn.processor) → 0 < length state.words
      → stand_of state turn.processor ≢ IsDone → turn.act ≢ Hard → stand_of (happens s code state turn) turn.processor ≡ IsDone
      → slice_index (happens s code state turn).words 0 ≢ 0
  done_by state turn (inr done) long lives soft then_done = absurd (lives done)
  done_by state turn (inl live) long lives soft then_done =
      subst (λ (k : State). slice_index k.words 0 ≢ 0) (sym acted_is)
      (by_place (moved s code is state.stand turn.processor turn.processor next) (after_act s code is turn.processor turn.act state.words standing live))
    where
      standing : Standing
      standing = stand_of state turn.processor

      want : Want
      want = want_of s code turn.processor turn.act standing

      next : Standing
      next = stand_after s code turn.processor turn.act (found_in state.words want) standing

      acted_is : happens s code state turn ≡ acted s code is state turn.processor turn.act standing
      acted_is = acts_live s code is state turn.processor turn.act standing live

      is_done : stand_in (slice_get (slice_set state.stand turn.processor next) turn.processor) ≡ IsDone
      is_done = sym (ap (λ (k : State). stand_of k turn.processor) acted_is) ∙ then_done

      by_place : ((turn.processor ≡ turn.processor) × (stand_in (slice_get (slice_set state.stand turn.processor next) turn.processor) ≡ next))
          ⊎ (stand_in (slice_get (slice_set state.stand turn.processor next) turn.processor) ≡ stand_in (slice_get state.stand turn.processor))
          → StandsAfter s code is turn.act state.words want next
          → slice_index (acted s code is state turn.processor turn.act standing).words 0 ≢ 0
      by_place (inr same) goes = absurd (lives (sym same ∙ is_done))
      by_place (inl there) (inl spares) = absurd (no_done s next spares (sym there.1 ∙ is_done))
      by_place (inl there) (inr (done, inl hard)) = absurd (soft hard)
      by_place (inl there) (inr (done, inr some)) = some long

some_words : (s : Shape) (words : List ℕ) → AreWordsOf s words → 0 < length words
some_words s words are = positive s.processors (s.processors * place_size s) s.arrays (length words) are
  where
    positive : (p x m n : ℕ) → n ≡ 1 + 2 * p + x + m → 0 < n
    positive p x m n e = omega (arith, e)

module _ (first : Situation) (opens : IsOpening first) where
  spares_on : (turns : List Turn) → AllSpare first.shape first.code opens.is_code (run_on first turns).state
  spares_on turns = run_spares first.shape first.code opens.is_code first.state turns
      (subst (λ (k : State). AllSpare first.shape first.code opens.is_code k) (sym opens.lost)
      (λ q. opening_spares first.shape first.code opens.is_code first.shape.processors q))

  -- once the run has ended, it has after a further turn
  stays_on : (turns : List Turn) (turn : Turn) → is_ended (run_on first turns) ≡ true → is_ended (turned (run_on first turns) turn) ≡ true
  stays_on turns turn ended =
      let state_is : (all : List Turn) → after first.shape first.code first.state all ≡ after first.shape first.code (opening first.state.words first.shape.processors) all =
      λ all. ap (λ (k : State). after first.shape first.code k all) opens.lost in
      let finish : State → ℕ = λ k. slice_index k.words 0 in
      let some = some_is (finish_in (run_on first turns)) ended in
      let same = finish_stays first.shape first.code opens.is_code first.state.words turns (turn ∷ []) (λ e. some (ap finish (state_is turns) ∙ e)) in
      set_is (finish_in (turned (run_on first turns) turn))
      (λ e. some (ap finish (state_is turns) ∙ sym same ∙ sym (ap finish (state_is (turns ++ turn ∷ []))) ∙ sym (ap finish_in (run_more first turns turn)) ∙ e))

-- where the run hasn't ended after a turn, it hadn't before
pub ended_on : (first : Situation) (most : ℕ) (m n : Situation) (spent : List ℕ) (turn : Turn) → IsOpening first → HasCountedRun first most m spent
    → n ≡ turned m turn → is_ended n ≡ false → is_ended m ≡ false
ended_on first most m n spent turn opens (turns, (run, counted)) comes none = by (is_ended m) refl
  where
    by : (b : Bool) → is_ended m ≡ b → is_ended m ≡ false
    by false e = e
    by true e =
        let then_ended = stays_on first opens turns turn (sym (ap is_ended run.comes) ∙ e) in
        let now : is_ended n ≡ true = ap is_ended comes ∙ ap (λ x. is_ended (turned x turn)) run.comes ∙ then_ended in
        let clash : true ≡ false = sym now ∙ none in cc

-- a processor that is done by a turn has found the run ended, if no hard fault was asked
pub ends_where_done : (first : Situation) (most : ℕ) (m n : Situation) (spent : List ℕ) (made processor : ℕ) (act : Act) (told : Told) (turn : Turn) → IsOpening first
    → HasCountedRun first most m spent → AreWordsOf m.shape m.state.words → turn ≡ turn_done most m made processor act → n ≡ turned m turn
    → told ≡ told_of m.shape m.code m.state turn → EndsWhereDone act told (is_ended n)
ends_where_done first most m n spent made processor act told turn opens (turns, (run, counted)) words_are turn_is comes told_is some done soft =
    let here = run_on first turns in
    let told_here : told ≡ told_of here.shape here.code here.state turn = told_is ∙ ap (λ x. told_of x.shape x.code x.state turn) run.comes in
    let lives : stand_of here.state turn.processor ≢ IsDone =
    λ is_done. some (ap (λ t. t.event) told_here ∙ ap (event_by here.shape here.code here.state turn) is_done) in
    let then_done = done_is (stand_of (happens here.shape here.code here.state turn) turn.processor) (sym (ap (λ t. t.next) told_here) ∙ done) in
    let words_here = subst (λ (x : Situation). AreWordsOf x.shape x.state.words) run.comes words_are in
    let soft_turn : turn.act ≢ Hard = λ hard. no_hard (made == most) (next_of (stand_of m.state processor)) act soft (sym (ap (λ t. t.act) turn_is) ∙ hard) in
    let set = done_by first.shape first.code opens.is_code here.state turn (spares_on first opens turns turn.processor) (some_words here.shape here.state.words words_here)
    lives soft_turn then_done in
    ap is_ended (comes ∙ ap (λ x. turned x turn) run.comes) ∙ set_is (finish_in (turned here turn)) set

-- units of seats
some_unit : (seats : List Seated) (number : ℕ) (seat : Seated) → slice_get seats number ≡ Some seat → seat.has_ended ≡ true → 1 ≤ sum_by (λ seat. units seat.has_ended) seats
some_unit [] number seat e ended = absurd (nowhere e)
  where
    nowhere : None ≡ Some seat → ⊥
    nowhere e = cc
some_unit (x ∷ seats) zero seat e ended =
    let same : x ≡ seat = cc in
    let one : units x.has_ended ≡ 1 = ap (λ (k : Seated). units k.has_ended) same ∙ ap units ended in
    omega (arith, one, sum_by-cons (λ seat. units seat.has_ended) x seats)
some_unit (x ∷ seats) (suc number) seat e ended =
    let rest = some_unit seats number seat e ended in
    omega (arith, rest, sum_by-cons (λ seat. units seat.has_ended) x seats)

-- what the seats have noted of the end holds at the close
pub ends_hold : (seats : List Seated) (m : Situation) (total amount rest : ℕ) → (is_ended m ≡ false → total ≡ 0) → amount ≤ total
    → amount ≡ rest + sum_by (λ seat. units seat.has_ended) seats → EndsHold seats m
ends_hold seats m total amount rest none bound is number seat there ended unset =
    let unit = some_unit seats number seat there ended in
    let nothing = none (ap is_set unset) in
    absurd (omega (arith, bound, is, unit, nothing))
