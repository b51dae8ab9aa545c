-- What is due is left out for one of three reasons, and for no other.
use Rattle.std.proofs.Common.{◌≡◌, ◌≢◌, ◌≤◌, ◌⊎◌, inl, inr, refl, sym, ap, ◌∙◌, subst, arith, ℕ, Bool, true, false, List, []}
use Rattle.std.proofs.Common.{◌∷◌, ◌++◌}
use Rattle.std.proofs.Common.{nat_lt, not, ◌&&◌, ◌==◌}
use Rattle.std.specs.List.{AllByRecursion}
use Rattle.std.proofs.lemmas.List.{append-nil}
use Rattle.std.proofs.lemmas.Bool.{eq-eqb}
use Rattle.std.proofs.lemmas.Bool.Decides.{eqb_tells}
use Rattle.ppm_cells.specs.Memory.{read}
use Rattle.ppm_cells.specs.declared.cell.Cell.TheVariants.{FinishWord}
use Rattle.ppm_cells.specs.declared.shape.Shape.{Shape}
use Rattle.ppm_code.specs.declared.code.CodeParts.{CodeParts}
use Rattle.ppm_step.specs.declared.turn.Turn.{Turn}
use Rattle.ppm_step.specs.State.{State, stand_of, after}
use Rattle.ppm_step.specs.State.{is_done_at}
use Rattle.ppm_choice.specs.Course.{Due, Listed, InRound, Course, act_of, processor_of, is_open, is_made, turn_of, turns_in, behind_all, turns_of}
use Rattle.ppm_choice.specs.Schedules.{beginning}
use Rattle.ppm_choice.specs.ScheduleLaws.{IsShut, IsLeftOut, NoTurnLeft, OfDone, Shut, ComesNext, LeavesOutNoMore}
use Rattle.ppm_choice.proofs.CourseLemmas.{turns_of_both}
use Rattle.ppm_choice.proofs.DueLemmas.{all_front}
use Rattle.ppm_choice.proofs.LoadLemmas.{IsFew, few_dues, turn_at}
use Rattle.ppm_choice.proofs.MadeLemmas.{Makes, Skips, made_or_not, state_at, left_at}
use Rattle.ppm_choice.proofs.RoundLemmas.{over_is_done}

-- of three tests one fails
fails : (a b c : Bool) → (a && b && not c) ≡ false → (a ≡ false) ⊎ ((b ≡ false) ⊎ (c ≡ true))
fails false b c e = inl refl
fails true false c e = inr (inl refl)
fails true true true e = inr (inr refl)
fails true true false e = inl e

none_left : (n : ℕ) → nat_lt 0 n ≡ false → n ≡ 0
none_left n e = grind (arith, e)

both_ways : (b : Bool) → b ≡ true → b ≡ false → ⊥
both_ways b yes_ no_ = cc

module _ (s : Shape) (code : CodeParts) where
  -- what is shut isn't open
  shut_by : (state : State) (due : Due) → is_open s code state due ≡ false → IsShut s state due
  shut_by state (Listed act) e = both_ways true refl e
  shut_by state (InRound processor) e = λ none. both_ways (read s state.words FinishWord == 0) (eq-eqb (read s state.words FinishWord) 0 none) e

  not_shut : (state : State) (due : Due) → is_open s code state due ≡ true → IsShut s state due → ⊥
  not_shut state (Listed act) e shut = shut
  not_shut state (InRound processor) e shut = by (eqb_tells (read s state.words FinishWord) 0)
    where
      by : (((read s state.words FinishWord == 0) ≡ true) × (read s state.words FinishWord ≡ 0))
          ⊎ (((read s state.words FinishWord == 0) ≡ false) × (read s state.words FinishWord ≢ 0)) → ⊥
      by (inl t) = shut t.1
      by (inr t) = both_ways (read s state.words FinishWord == 0) e t.0

  module _ (state : State) (turns : ℕ) (before : List Due) (due : Due) where
    abbrev pub w : Course
    w = behind_all s code (beginning state turns) before

    abbrev pub first : List Turn
    first = turns_of s code (beginning state turns) before

    same : w.state ≡ after s code state first
    same = state_at s code (beginning state turns) before

    -- a reason keeps it from being made
    not_made : Makes s code w due → IsLeftOut s code state turns first due → ⊥
    not_made m (NoTurnLeft all) = omega (arith, m.left, all, left_at s code (beginning state turns) before)
    not_made m (OfDone done) =
        both_ways (is_done_at (stand_of w.state (processor_of (act_of due))))
        (ap is_done_at (ap (λ (k : State). stand_of k (processor_of (act_of due))) same ∙ done)) m.lives
    not_made m (Shut shut) = not_shut w.state due m.is_open (subst (λ (k : State). IsShut s k due) (sym same) shut)

    -- and where it isn't made there is one
    reason_by : (nat_lt 0 w.left ≡ false)
        ⊎ ((is_open s code w.state due ≡ false) ⊎ (is_done_at (stand_of w.state (processor_of (act_of due))) ≡ true))
        → IsLeftOut s code state turns first due
    reason_by (inl none) = NoTurnLeft (omega (arith, none_left w.left none, left_at s code (beginning state turns) before))
    reason_by (inr (inl shut)) = Shut (subst (λ (k : State). IsShut s k due) same (shut_by w.state due shut))
    reason_by (inr (inr done)) =
        OfDone (ap (λ (k : State). stand_of k (processor_of (act_of due))) (sym same)
        ∙ over_is_done (stand_of w.state (processor_of (act_of due))) done)

    reason : is_made s code w due ≡ false → IsLeftOut s code state turns first due
    reason e =
        reason_by (fails (nat_lt 0 w.left) (is_open s code w.state due) (is_done_at (stand_of w.state (processor_of (act_of due)))) e)

    -- the turns then
    turns_then : (front : List Turn) → turns_in s code w due ≡ front → turns_of s code (beginning state turns) (before ++ (due ∷ [])) ≡ first ++ front
    turns_then front is =
        turns_of_both s code (beginning state turns) before (due ∷ [])
        ∙ ap (λ ts. first ++ (ts ++ [])) is ∙ ap (λ ts. first ++ ts) (append-nil front)

    comes_by : AllByRecursion IsFew before → Makes s code w due ⊎ Skips s code w due → ComesNext s code state turns before first due
    comes_by few (inl m) = record {
      made = λ none. turns_then (turn_of s.processors w (act_of due) ∷ []) m.turns
          ∙ ap (λ turn. first ++ (turn ∷ [])) (turn_at s code state turns before due few);
      left_out = λ why. absurd (not_made m why);
    }
    comes_by few (inr k) = record {
      made = λ none. absurd (none (reason k.why));
      left_out = λ why. turns_then [] k.turns ∙ append-nil first;
    }

    pub comes_next : AllByRecursion IsFew before → ComesNext s code state turns before first due
    comes_next few = comes_by few (made_or_not s code w due)

  pub leaves_out_no_more : s.processors ≤ 64 → LeavesOutNoMore s code
  leaves_out_no_more fits state items turns before rest due among is =
      comes_next state turns before due
      (all_front IsFew before rest due (subst (AllByRecursion IsFew) is (few_dues s.processors items turns fits among)))
