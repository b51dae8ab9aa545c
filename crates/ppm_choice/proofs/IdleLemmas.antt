-- What is due and isn't made.
use Rattle.std.proofs.Common.{◌≡◌, ◌==◌, refl, ℕ, zero, suc, Bool, true, false, List, [], ◌∷◌, ◌++◌, ap, ◌∙◌, nat_lt, not, ◌&&◌, if◌then◌else◌, map, replicate}
use Rattle.std.proofs.Math.Dec.{eqb-suc-zero}
use Rattle.std.specs.List.{range_with_len}
use Rattle.ppm_cells.specs.declared.shape.Shape.{Shape}
use Rattle.ppm_code.specs.declared.code.CodeParts.{CodeParts}
use Rattle.ppm_step.specs.State.{is_done_at}
use Rattle.ppm_step.specs.State.{stand_of}
use Rattle.ppm_choice.specs.Course.{Due, InRound, Course, act_of, processor_of, is_open, is_made, turn_of, behind_act, behind, turns_in, behind_all, turns_of}
use Rattle.ppm_choice.specs.Schedules.{round, rounds}
use Rattle.ppm_choice.proofs.CourseLemmas.{behind_both, turns_of_both}

-- three tests of which one fails
first_fails : (a b c : Bool) → a ≡ false → (a && b && c) ≡ false
first_fails a b c fails = cc

second_fails : (a b c : Bool) → b ≡ false → (a && b && c) ≡ false
second_fails true b c fails = cc
second_fails false b c fails = refl

third_fails : (a b c : Bool) → c ≡ true → (a && b && not c) ≡ false
third_fails true true c fails = cc
third_fails true false c fails = refl
third_fails false b c fails = refl

-- a finish word that says something
pub is_shut : (found word : ℕ) → found ≡ word → (found ≡ 0 → ⊥) → (word == 0) ≡ false
is_shut found zero is some = absurd (some is)
is_shut found (suc word) is some = eqb-suc-zero word

-- of these nothing is made
pub record Idle (s : Shape) (code : CodeParts) (w : Course) (dues : List Due) : Type 0 where
  pub turns : turns_of s code w dues ≡ []
  pub stays : behind_all s code w dues ≡ w

module _ (s : Shape) (code : CodeParts) (w : Course) where
  pub none_left : (due : Due) → w.left ≡ 0 → is_made s code w due ≡ false
  none_left due none =
      first_fails (nat_lt 0 w.left) (is_open s code w.state due) (not (is_done_at (stand_of w.state (processor_of (act_of due)))))
      (ap (nat_lt 0) none)

  pub not_open : (due : Due) → is_open s code w.state due ≡ false → is_made s code w due ≡ false
  not_open due shut =
      second_fails (nat_lt 0 w.left) (is_open s code w.state due) (not (is_done_at (stand_of w.state (processor_of (act_of due))))) shut

  pub is_over : (due : Due) → is_done_at (stand_of w.state (processor_of (act_of due))) ≡ true → is_made s code w due ≡ false
  is_over due over =
      third_fails (nat_lt 0 w.left) (is_open s code w.state due) (is_done_at (stand_of w.state (processor_of (act_of due)))) over

  pub no_dues : Idle s code w []
  no_dues = record { turns = refl; stays = refl }

  pub one_more : (due : Due) (dues : List Due) → is_made s code w due ≡ false → Idle s code w dues → Idle s code w (due ∷ dues)
  one_more due dues none idle = record {
    turns = ap (λ ts. ts ++ turns_of s code (behind s code w due) dues) no_turn ∙ ap (λ v. turns_of s code v dues) same ∙ idle.turns;
    stays = ap (λ v. behind_all s code v dues) same ∙ idle.stays;
  }
    where
      same : behind s code w due ≡ w
      same = ap (λ b. if b then behind_act s code w (act_of due) else w) none

      no_turn : turns_in s code w due ≡ []
      no_turn = ap (λ b. if b then turn_of s.processors w (act_of due) ∷ [] else []) none

  pub all_same : (due : Due) (n : ℕ) → is_made s code w due ≡ false → Idle s code w (replicate n due)
  all_same due zero none = no_dues
  all_same due (suc n) none = one_more due (replicate n due) none (all_same due n none)

  -- if no step of a round is made, none of any is
  abbrev pub NoStep : Type 0
  NoStep = (processor : ℕ) → is_made s code w (InRound processor) ≡ false

  pub all_of : NoStep → (processors : List ℕ) → Idle s code w (map InRound processors)
  all_of none [] = no_dues
  all_of none (processor ∷ processors) = one_more (InRound processor) (map InRound processors) (none processor) (all_of none processors)

  pub both_idle : (first more : List Due) → Idle s code w first → Idle s code w more → Idle s code w (first ++ more)
  both_idle first more a b = record {
    turns = turns_of_both s code w first more
        ∙ ap (λ ts. ts ++ turns_of s code (behind_all s code w first) more) a.turns
        ∙ ap (λ v. turns_of s code v more) a.stays ∙ b.turns;
    stays = behind_both s code w first more ∙ ap (λ v. behind_all s code v more) a.stays ∙ b.stays;
  }

  pub all_rounds : NoStep → (processors n : ℕ) → Idle s code w (rounds processors n)
  all_rounds none processors zero = no_dues
  all_rounds none processors (suc n) =
      both_idle (round processors) (rounds processors n) (all_of none (range_with_len 0 processors)) (all_rounds none processors n)
