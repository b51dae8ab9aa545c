-- What holds of all that is due of a schedule.
use Rattle.std.proofs.Common.{◌≡◌, ◌<◌, ◌+◌, refl, sym, ap, ◌∙◌, subst, arith, ℕ, zero, suc, List, [], ◌∷◌, ◌++◌, map, replicate}
use Rattle.std.specs.List.{AllByRecursion, range_with_len}
use Rattle.std.proofs.lemmas.List.{map-append}
use Rattle.ppm_plan.specs.declared.schedule_item.ScheduleItem.{ScheduleItem}
use Rattle.ppm_plan.specs.Faults.{acts_of}
use Rattle.ppm_choice.specs.Course.{Due, Listed, InRound}
use Rattle.ppm_choice.specs.Schedules.{listed, round, rounds, dues_of}

map_replicate : {A B : Type 0} (f : A → B) (n : ℕ) (a : A) → map f (replicate n a) ≡ replicate n (f a)
map_replicate f zero a = refl
map_replicate f (suc n) a = ap (λ r. f a ∷ r) (map_replicate f n a)

pub listed_front : (item : ScheduleItem) (items : List ScheduleItem)
    → listed (item ∷ items) ≡ replicate item.times (Listed item.act) ++ listed items
listed_front item items =
    map-append Listed (replicate item.times item.act) (acts_of items)
    ∙ ap (λ r. r ++ listed items) (map_replicate Listed item.times item.act)

module _ (P : Due → Type 0) where
  both : (first more : List Due) → AllByRecursion P first → AllByRecursion P more → AllByRecursion P (first ++ more)
  both [] more all also = also
  both (due ∷ first) more all also = (all.0, both first more all.1 also)

  -- of those in front of one, and of that one
  pub all_front : (before rest : List Due) (due : Due) → AllByRecursion P (before ++ (due ∷ rest)) → AllByRecursion P before
  all_front [] rest due all = tt
  all_front (d ∷ before) rest due all = (all.0, all_front before rest due all.1)

  pub all_at : (before rest : List Due) (due : Due) → AllByRecursion P (before ++ (due ∷ rest)) → P due
  all_at [] rest due all = all.0
  all_at (d ∷ before) rest due all = all_at before rest due all.1

  same : (n : ℕ) (due : Due) → P due → AllByRecursion P (replicate n due)
  same zero due p = tt
  same (suc n) due p = (p, same n due p)

  -- of the list, where it holds of the act of each item
  of_list : (items : List ScheduleItem) → AllByRecursion (λ item. P (Listed item.act)) items → AllByRecursion P (listed items)
  of_list [] all = tt
  of_list (item ∷ items) all =
      subst (AllByRecursion P) (sym (listed_front item items))
      (both (replicate item.times (Listed item.act)) (listed items) (same item.times (Listed item.act) all.0) (of_list items all.1))

  -- of the rounds, where it holds of the step of each processor
  of_range : (a n : ℕ) → ((processor : ℕ) → processor < a + n → P (InRound processor)) → AllByRecursion P (map InRound (range_with_len a n))
  of_range a zero each = tt
  of_range a (suc n) each = (each a (omega arith), of_range (a + 1) n (λ processor less. each processor (omega (arith, less))))

  of_rounds : (processors count : ℕ) → ((processor : ℕ) → processor < processors → P (InRound processor))
      → AllByRecursion P (rounds processors count)
  of_rounds processors zero each = tt
  of_rounds processors (suc count) each =
      both (round processors) (rounds processors count)
      (of_range 0 processors (λ processor less. each processor (omega (arith, less)))) (of_rounds processors count each)

  pub all_due : (processors : ℕ) (items : List ScheduleItem) (turns : ℕ) → AllByRecursion (λ item. P (Listed item.act)) items
      → ((processor : ℕ) → processor < processors → P (InRound processor)) → AllByRecursion P (dues_of processors items turns)
  all_due processors items turns all each = both (listed items) (rounds processors turns) (of_list items all) (of_rounds processors turns each)
