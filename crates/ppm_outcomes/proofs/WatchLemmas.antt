-- What watchers were told, as lists: after a drive, and where there was none.
use Rattle.std.specs.Prelude.{⊤}
use Rattle.std.proofs.Common.{◌≡◌, ◌<◌, ◌≤◌, ℕ, zero, suc, nat_lt, Bool, true, false, List, [], ◌∷◌, ◌++◌, length, map, get_or, slice_index_or, Option, Some, None, refl, sym, ap, ◌∙◌, subst, arith, append-nil}
use Rattle.std.proofs.lemmas.Bool.{ltb-true, ltb-false}
use Rattle.ppm_words.specs.declared.event.Event.{Event}
use Rattle.ppm_ports.specs.Outside.{ToldLists, KeepFronts}
use Rattle.ppm_ports.specs.Told.{AppendsList, KeepsFront, KeepsList}
use Rattle.ppm_core.specs.Situation.{loaded}
use Rattle.ppm_plan.specs.Schedules.{Planned}
use Rattle.ppm_choice.specs.declared.limits.Limits.{Limits}
use Rattle.ppm_choice.specs.Tells.{told_in}
use Rattle.ppm_table.specs.declared.view.Opening.{Opening}
use Rattle.ppm_table.specs.Run.{start}
use Rattle.ppm_threads.specs.Driven.{AllKeep, OthersStay, Driven}
use Rattle.ppm_answers.specs.declared.answer.Answer.{Answer}
use Rattle.ppm_answers.specs.declared.answer.Answer.TheVariants as answers
use Rattle.ppm_answers.specs.Reading.{TellsOfRun}
use Rattle.ppm_outcomes.specs.Runs.{RunTold}
use Rattle.ppm_outcomes.specs.Watchers.{AreTold, OthersKeep, ToldAtWant, ToldNothing, IfWanting}

-- a list stays as it is
pub stays : (l : Option (List Event)) → KeepsList l l
stays None = tt
stays (Some l) = refl

-- and so it keeps its front
front_stays : (l : Option (List Event)) → KeepsFront l l
front_stays None = tt
front_stays (Some l) = ([], sym (append-nil l))

pub fronts_stay : (lists : ToldLists) → KeepFronts lists lists
fronts_stay [] = tt
fronts_stay (l ∷ ls) = (front_stays l, fronts_stay ls)

-- where nobody was told anything, that belongs to each answer
pub told_none : (a : Answer) (lists : ToldLists) → TellsOfRun (λ answer before now. ⊤) a lists lists
told_none answers.NoMemory lists = fronts_stay lists
told_none answers.ReadFault lists = refl
told_none answers.WordsRefused lists = refl
told_none (answers.PlanRefused number) lists = refl
told_none (answers.SourceRefused r) lists = refl
told_none (answers.Explained r notes) lists = refl
told_none (answers.ListingRefused r) lists = refl
told_none (answers.SavedRefused r) lists = refl
told_none (answers.Conflicting c) lists = refl
told_none (answers.ConflictingAt c read write) lists = refl
told_none (answers.Untidy u) lists = refl
told_none (answers.InputRefused r) lists = refl
told_none (answers.Ended arrays) lists = tt
told_none (answers.Trapped t line) lists = tt
told_none (answers.TrapExplained t line notes) lists = tt
told_none (answers.EndedWith arrays tally) lists = tt
told_none (answers.TrappedWith t line tally) lists = tt
told_none (answers.Unfinished acts) lists = tt
told_none (answers.Summed sums) lists = tt
told_none (answers.NotWithin turns) lists = tt
told_none (answers.StandExplained turns notes) lists = tt
told_none (answers.OutOfTurns processor) lists = tt
told_none (answers.OutOfRoom place) lists = tt
told_none (answers.Broken place) lists = tt
told_none (answers.Listed listing) lists = tt
told_none (answers.Saved text) lists = tt
told_none (answers.Traced text) lists = tt
told_none (answers.Shown text) lists = tt
told_none (answers.ReplayedWith came counts) lists = tt
told_none (answers.RanWith r counts) lists = tt
told_none answers.Accepted lists = tt
told_none (answers.Counted arrays counts) lists = tt
told_none (answers.TrappedAfter t line counts) lists = tt
told_none (answers.Sound counts) lists = tt
told_none (answers.NotWithinCapsules capsules) lists = tt
told_none (answers.Raced race) lists = tt
told_none (answers.Gapped g) lists = tt
told_none (answers.Swept sweep) lists = tt
told_none (answers.Differs difference) lists = tt
told_none (answers.Stood lines came) lists = tt
told_none (answers.Fell lines came fall) lists = tt
told_none (answers.AllStood runs) lists = tt

pub others_still : (watching : ℕ) (lists : ToldLists) → OthersKeep watching lists lists
others_still watching lists c least = stays (get_or lists c None)

-- what is told in want of memory belongs to each answer
pub if_wanting : {T : Type 0} → T → (a : Answer) → IfWanting T a
if_wanting t answers.NoMemory = t
if_wanting t a = tt

pub untold : (watching : ℕ) (R V : Type 0) (a : Answer) (lists : ToldLists) → RunTold watching (ToldAtWant R V lists lists) a lists lists
untold watching R V a lists = (told_none a lists, others_still watching lists, if_wanting {T = ToldAtWant R V lists lists} (ToldNothing refl) a)

-- the first watcher of some
pub first_of : {W : Type 0} (ws : List W) → 0 < length ws → W
first_of [] some = absurd (omega (arith, some))
first_of (w ∷ ws) some = w

module _ {W : Type 0} (told : W → Option (List Event)) where
  -- a list by its number
  list_at : (ws : List W) (c : ℕ) (d : W) → c < length ws → get_or (map told ws) c None ≡ told (slice_index_or ws c d)
  list_at [] c d less = absurd (omega (arith, less))
  list_at (w ∷ ws) zero d less = refl
  list_at (w ∷ ws) (suc c) d less = list_at ws c d (omega (arith, less))

  none_at : (ws : List W) (c : ℕ) → length ws ≤ c → get_or (map told ws) c None ≡ None
  none_at [] c least = refl
  none_at (w ∷ ws) zero least = absurd (omega (arith, least))
  none_at (w ∷ ws) (suc c) least = none_at ws c (omega (arith, least))

  -- each keeps its front
  pub keep_fronts : (old new : List W) → length new ≡ length old → AllKeep told old new → KeepFronts (map told old) (map told new)
  keep_fronts [] [] e k = tt
  keep_fronts [] (v ∷ vs) e k = absurd (omega (arith, e))
  keep_fronts (w ∷ ws) [] e k = absurd (omega (arith, e))
  keep_fronts (w ∷ ws) (v ∷ vs) e k =
      (k 0 w, keep_fronts ws vs (omega (arith, e)) (λ j d. k (suc j) d))

  -- the watchers that stay are told nothing
  pub others_keep : (count : ℕ) (old new : List W) (w : W) → length new ≡ length old → OthersStay count old new → OthersKeep count (map told old) (map told new)
  others_keep count old new w same others c least = by (nat_lt c (length old)) refl
    where
      by : (less : Bool) → nat_lt c (length old) ≡ less → KeepsList (get_or (map told old) c None) (get_or (map told new) c None)
      by true e =
          let less = ltb-true c (length old) e in
          subst (λ (l : Option (List Event)). KeepsList (get_or (map told old) c None) l)
          (list_at old c w less ∙ ap told (sym (others c w least)) ∙ sym (list_at new c w (omega (arith, less, same))))
          (stays (get_or (map told old) c None))
      by false e =
          let far = ltb-false c (length old) e in
          subst (λ (l : Option (List Event)). KeepsList l (get_or (map told new) c None)) (sym (none_at old c far)) tt

  module _ (plan : Planned) (limits : Limits) (k : Opening) (words lengths : List ℕ) (watching : ℕ) where
    -- a list is told what is told of its processor, and those of no processor stay
    appends : (old new : List W) (w : W) (d : Driven told plan limits k words old new) (c : ℕ) → c < k.shape.processors
        → c < length old → c < length new
        → AppendsList (get_or (map told old) c None) (get_or (map told new) c None) (told_in plan limits c k.shape k.code (start k) d.turns)
    appends old new w d c there less below =
        subst (λ (l : Option (List Event)). AppendsList l (get_or (map told new) c None) (told_in plan limits c k.shape k.code (start k) d.turns))
        (sym (list_at old c w less))
        (subst (λ (l : Option (List Event)). AppendsList (told (slice_index_or old c w)) l
        (told_in plan limits c k.shape k.code (start k) d.turns)) (sym (list_at new c w below)) (d.told_are c w there))

    -- the watchers were told what belongs to these turns
    pub are_told : (old new : List W) (w : W) → length new ≡ length old → k.shape.processors ≤ length old → watching ≡ k.shape.processors
        → OthersStay k.shape.processors old new → (d : Driven told plan limits k words old new)
        → AreTold watching plan limits (map told old) (map told new) (loaded k.shape k.code lengths k.words) d.turns
    are_told old new w same enough all others d = record {
      records = λ c less.
          let there : c < k.shape.processors = omega (arith, less, all) in
          appends old new w d c there (omega (arith, there, enough)) (omega (arith, there, enough, same));
      others = subst (λ (n : ℕ). OthersKeep n (map told old) (map told new)) (sym all) (others_keep k.shape.processors old new w same others);
    }
