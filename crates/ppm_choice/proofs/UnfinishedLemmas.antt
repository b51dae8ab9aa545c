-- The keeper of a schedule lives while the finish word is 0, and no processor quits.
use Rattle.std.proofs.Common.{◌≡◌, ◌≢◌, ◌<◌, ◌⊎◌, inl, inr, refl, sym, ap, ◌∙◌, subst, ℕ, Bool, true, false, List, [], ◌∷◌}
use Rattle.std.proofs.Common.{◌++◌, length, ◌==◌, ◌||◌}
use Rattle.std.specs.List.{AllByRecursion, list_any}
use Rattle.std.proofs.lemmas.Bool.{eq-eqb}
use Rattle.ppm_cells.specs.Memory.{read}
use Rattle.ppm_cells.specs.declared.cell.Cell.TheVariants.{FinishWord}
use Rattle.ppm_cells.specs.declared.shape.Shape.{Shape}
use Rattle.ppm_code.specs.Code.{IsCode}
use Rattle.ppm_code.specs.declared.code.CodeParts.{CodeParts}
use Rattle.ppm_plan.specs.declared.fault.Fault.TheVariants as faults
use Rattle.ppm_plan.specs.declared.schedule_item.ScheduleItem.{ScheduleItem}
use Rattle.ppm_plan.specs.declared.schedule_item.ScheduledAct.{ScheduledAct}
use Rattle.ppm_plan.specs.declared.schedule_item.ScheduledAct.TheVariants as scheduled
use Rattle.ppm_plan.specs.Forms.{act_kills, schedule_form}
use Rattle.ppm_plan.specs.Refusals.{is_killed, IsKeeper}
use Rattle.ppm_step.specs.declared.turn.Act.TheVariants.{Hard}
use Rattle.ppm_step.specs.declared.turn.Turn.{Turn}
use Rattle.ppm_step.specs.Standings.{IsDone}
use Rattle.ppm_step.specs.State.{State, stand_of, after, opening}
use Rattle.ppm_step.specs.Laws.{IsStruck, IsNoQuit, IsProposedWord}
use Rattle.ppm_step.proofs.FinishLemmas.{finish_is_proposed, done_has_cause}
use Rattle.ppm_choice.specs.Course.{Due, Listed, Course, act_of, turn_of, behind, turns_in, behind_all, turns_of}
use Rattle.ppm_choice.specs.Schedules.{dues_of, beginning, schedule_turns}
use Rattle.ppm_choice.specs.ScheduleLaws.{IsOver, AllMade, Finished, NoneLeft, finish_from, UnfinishedIsExact, NoneQuits}
use Rattle.ppm_choice.proofs.DueLemmas.{all_at, all_due}
use Rattle.ppm_choice.proofs.MadeLemmas.{Makes, Skips, made_or_not, Splits, splits}
use Rattle.ppm_choice.proofs.RoundLemmas.{goes_on}

-- no act that is due kills the keeper
abbrev pub IsSpared : (keeper : ℕ) → Due → Type 0
IsSpared keeper due = act_kills keeper (act_of due) ≡ false

neither_first : (a b : Bool) → (a || b) ≡ false → a ≡ false
neither_first true b e = e
neither_first false b e = refl

neither_second : (a b : Bool) → (a || b) ≡ false → b ≡ false
neither_second true b e = cc
neither_second false b e = e

items_spare : (keeper : ℕ) (items : List ScheduleItem) → is_killed schedule_form keeper items ≡ false
    → AllByRecursion (λ item. IsSpared keeper (Listed item.act)) items
items_spare keeper [] e = tt
items_spare keeper (item ∷ items) e = (
  neither_first (act_kills keeper item.act) (list_any (schedule_form.kills keeper) items) e,
  items_spare keeper items (neither_second (act_kills keeper item.act) (list_any (schedule_form.kills keeper) items) e),
)

-- a hard fault's turn is that of an act that kills
hard_kills : (keeper processors : ℕ) (w : Course) (act : ScheduledAct) → act_kills keeper act ≡ false
    → turn_of processors w act ≡ record { processor = keeper; act = Hard } → ⊥
hard_kills keeper processors w (scheduled.Step processor stated) spared e = let acts_are = ap (λ (t : Turn). t.act) e in cc
hard_kills keeper processors w (scheduled.Fails processor faults.Soft) spared e = let acts_are = ap (λ (t : Turn). t.act) e in cc
hard_kills keeper processors w (scheduled.Fails processor faults.Hard) spared e =
    let same : (processor == keeper) ≡ true = eq-eqb processor keeper (ap (λ (t : Turn). t.processor) e) in cc

no_quit : (processors : ℕ) (w : Course) (act : ScheduledAct) → IsNoQuit (turn_of processors w act).act
no_quit processors w (scheduled.Step processor stated) = tt
no_quit processors w (scheduled.Fails processor faults.Soft) = tt
no_quit processors w (scheduled.Fails processor faults.Hard) = tt

module _ (s : Shape) (code : CodeParts) where
  -- no turn of a run is a quit
  quits_by : (w : Course) (due : Due) → Makes s code w due ⊎ Skips s code w due → AllByRecursion (λ turn. IsNoQuit turn.act) (turns_in s code w due)
  quits_by w due (inl m) =
      subst (AllByRecursion (λ turn. IsNoQuit turn.act)) (sym m.turns) (no_quit s.processors w (act_of due), tt)
  quits_by w due (inr k) = subst (AllByRecursion (λ turn. IsNoQuit turn.act)) (sym k.turns) tt

  both : (first more : List Turn) → AllByRecursion (λ turn. IsNoQuit turn.act) first → AllByRecursion (λ turn. IsNoQuit turn.act) more
      → AllByRecursion (λ turn. IsNoQuit turn.act) (first ++ more)
  both [] more all also = also
  both (turn ∷ first) more all also = (all.0, both first more all.1 also)

  no_quits : (w : Course) (dues : List Due) → AllByRecursion (λ turn. IsNoQuit turn.act) (turns_of s code w dues)
  no_quits w [] = tt
  no_quits w (due ∷ dues) =
      both (turns_in s code w due) (turns_of s code (behind s code w due) dues) (quits_by w due (made_or_not s code w due))
      (no_quits (behind s code w due) dues)

  -- the keeper is not struck
  not_struck : (state : State) (items : List ScheduleItem) (keeper turns : ℕ) → IsKeeper schedule_form items keeper
      → IsStruck keeper (schedule_turns s code state items turns) → ⊥
  not_struck state items keeper turns kept struck =
      by_split (splits s code (beginning state turns) (dues_of s.processors items turns) struck.first struck.more
      (record { processor = keeper; act = Hard }) struck.turns_are)
    where
      all : AllByRecursion (IsSpared keeper) (dues_of s.processors items turns)
      all = all_due (IsSpared keeper) s.processors items turns (items_spare keeper items kept.spared) (λ processor less. refl)

      by_split : Splits s code (beginning state turns) (dues_of s.processors items turns) struck.first (record { processor = keeper; act = Hard }) → ⊥
      by_split p =
          hard_kills keeper s.processors (behind_all s code (beginning state turns) p.before) (act_of p.due)
          (all_at (IsSpared keeper) p.before p.rest p.due (subst (AllByRecursion (IsSpared keeper)) p.dues_are all)) (sym p.turn_is)

  -- where the finish word is 0 and the keeper is not done, all turns were made
  all_made : (state : State) (made turns : ℕ) (keeper : ℕ) → keeper < s.processors → read s state.words FinishWord ≡ 0
      → (stand_of state keeper ≢ IsDone) → IsOver s state made turns → made ≡ turns
  all_made state made turns keeper there none lives (AllMade is) = is
  all_made state made turns keeper there none lives (Finished some) = absurd (some none)
  all_made state made turns keeper there none lives (NoneLeft all) = absurd (lives (all keeper there))

  pub unfinished_is_exact : IsCode code → UnfinishedIsExact s code
  unfinished_is_exact is words items keeper turns are kept there none =
      all_made (after s code start run) (length run) turns keeper there none lives (goes_on s code start items turns)
    where
      start : State
      start = opening words s.processors

      run : List Turn
      run = schedule_turns s code start items turns

      by_cause : IsStruck keeper run ⊎ (read s (after s code start run).words FinishWord ≢ 0) → ⊥
      by_cause (inl struck) = not_struck start items keeper turns kept struck
      by_cause (inr some) = some none

      lives : stand_of (after s code start run) keeper ≢ IsDone
      lives done = by_cause (done_has_cause s code is words run keeper are there done)

  -- and no run ends by a quit
  pub none_quits : IsCode code → NoneQuits s code
  none_quits is words items turns none some =
      by_word (finish_is_proposed s code is words run (no_quits (beginning start turns) (dues_of s.processors items turns)))
    where
      start : State
      start = opening words s.processors

      run : List Turn
      run = schedule_turns s code start items turns

      word : ℕ
      word = finish_from s code words items turns

      by_word : (word ≡ read s words FinishWord) ⊎ IsProposedWord s.processors word → IsProposedWord s.processors word
      by_word (inl same) = absurd (some (same ∙ none))
      by_word (inr p) = p
