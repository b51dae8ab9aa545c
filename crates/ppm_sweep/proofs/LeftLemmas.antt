-- What is ahead in a run, one act after another.
use Rattle.std.proofs.Common.{◌≡◌, ◌∙◌, refl, sym, ap, subst, arith, ℕ, zero, suc, ◌+◌, ◌-◌, ◌<◌, ◌≤◌, nat_lt, Bool, true, false, if◌then◌else◌, List, [], ◌∷◌, ◌++◌, Option, Some, None, IfSome, map, replicate, drop, slice_get, ltb-true}
use Rattle.std.proofs.lemmas.Bool.{both_ways, lt-ltb}
use Rattle.std.specs.List.{All, AllByRecursion, range_with_len}
use Rattle.ppm_plan.specs.declared.schedule_item.ScheduledAct.{ScheduledAct}
use Rattle.ppm_plan.specs.declared.schedule_item.ScheduledAct.TheVariants.{Step, Fails}
use Rattle.ppm_plan.specs.declared.schedule_item.ScheduleItem.{ScheduleItem}
use Rattle.ppm_plan.specs.Schedules.{IsItemAmong, MayBeDone}
use Rattle.ppm_choice.specs.Course.{Due, Listed, InRound}
use Rattle.ppm_choice.specs.Schedules.{listed, round, rounds}
use Rattle.ppm_choice.proofs.DueLemmas.{listed_front}
use Rattle.ppm_sweep.specs.Ahead.{Left, Passes, IsStepInRound, rest_of, once_less, first_of, first_in, first_due, dues_in}

-- at least once
pub some_times : (p : ℕ) (i : ScheduleItem) → IsItemAmong p i → 1 ≤ i.times
some_times p i h = go i.act i.times h.times
  where
    go : (act : ScheduledAct) (n : ℕ) → MayBeDone act n → 1 ≤ n
    go (Step c v) n k = k.0
    go (Fails c f) n k = omega (arith, k)

more_than : (n : ℕ) → nat_lt 1 n ≡ true → 2 ≤ n
more_than n e = ltb-true 1 n e

no_more_than : (n : ℕ) → nat_lt 1 n ≡ false → 1 ≤ n → n ≡ 1
no_more_than zero e h = absurd (omega (arith, h))
no_more_than (suc zero) e h = refl
no_more_than (suc (suc n)) e h = absurd (both_ways (nat_lt 1 (suc (suc n))) e (lt-ltb 1 (suc (suc n)) (omega arith)))

-- an item, once less
abbrev pub less : ScheduleItem → ScheduleItem
less i = record { act = i.act; times = i.times - 1 }

pub listed_by : (i : ScheduleItem) (tail : List ScheduleItem) → 1 ≤ i.times → (b : Bool) → nat_lt 1 i.times ≡ b
    → listed (i ∷ tail) ≡ Listed i.act ∷ listed (rest_of (if b then Some (less i) else None) tail)
listed_by i tail some true e =
    let two = more_than i.times e in
    let more : i.times ≡ suc (i.times - 1) = omega (arith, two) in
    listed_front i tail ∙ ap (λ n. replicate n (Listed i.act) ++ listed tail) more
    ∙ ap (λ l. Listed i.act ∷ l) (sym (listed_front (less i) tail))
listed_by i tail some false e =
    listed_front i tail ∙ ap (λ n. replicate n (Listed i.act) ++ listed tail) (no_more_than i.times e some)

pub rest_by : (i : ScheduleItem) (tail : List ScheduleItem) (b : Bool) → rest_of (if b then Some (less i) else None) tail ≡ (if b then less i ∷ tail else tail)
rest_by i tail true = refl
rest_by i tail false = refl

-- the first act of the list is passed
pub list_passes : (p : ℕ) (i : ScheduleItem) (tail : List ScheduleItem) (later : List Due) → 1 ≤ i.times
    → Passes (Listed i.act) (record { processors = p; rest = i ∷ tail; later = later }) (record { processors = p; rest = rest_of (once_less i) tail; later = later })
list_passes p i tail later some = record {
  dues = ap (λ l. l ++ later) (listed_by i tail some (nat_lt 1 i.times) refl);
  rest = rest_by i tail (nat_lt 1 i.times);
}

pub done_less : (act : ScheduledAct) (n : ℕ) → MayBeDone act n → nat_lt 1 n ≡ true → MayBeDone act (n - 1)
done_less (Step c v) n k e = (omega (arith, more_than n e), omega (arith, k.1))
done_less (Fails c f) n k e = absurd (omega (arith, k, more_than n e))

-- what is left of the list is of so many processors
pub among_after : (p : ℕ) (i : ScheduleItem) (tail : List ScheduleItem) → All (IsItemAmong p) (i ∷ tail) → All (IsItemAmong p) (rest_of (once_less i) tail)
among_after p i tail all = go (nat_lt 1 i.times) refl
  where
    first : IsItemAmong p i
    first = all 0 i (omega arith)

    later : All (IsItemAmong p) tail
    later k d h = all (suc k) d (omega (arith, h))

    go : (b : Bool) → nat_lt 1 i.times ≡ b → All (IsItemAmong p) (rest_of (if b then Some (less i) else None) tail)
    go true e zero d h = record { act = first.act; times = done_less i.act i.times first.times e }
    go true e (suc k) d h = later k d (omega (arith, h))
    go false e k d h = later k d h

-- an item that is found stands before those after it
pub found_at : (items : List ScheduleItem) (at : ℕ) (i : ScheduleItem) → slice_get items at ≡ Some i → drop at items ≡ i ∷ drop (at + 1) items
found_at [] at i e = cc
found_at (x ∷ items) zero i e = let same : x ≡ i = cc in ap (λ y. y ∷ items) same
found_at (x ∷ items) (suc at) i e =
    let one : suc at + 1 ≡ suc (at + 1) = omega arith in
    found_at items at i e ∙ ap (λ n. i ∷ drop n (x ∷ items)) (sym one)

pub none_at : (items : List ScheduleItem) (at : ℕ) → slice_get items at ≡ None → drop at items ≡ []
none_at [] zero e = refl
none_at [] (suc at) e = refl
none_at (x ∷ items) zero e = cc
none_at (x ∷ items) (suc at) e = none_at items at e

-- the steps of a round from a processor on, and so many rounds
abbrev pub steps_from : (next p count : ℕ) → List Due
steps_from next p count = map InRound (range_with_len next (p - next)) ++ rounds p count

pub within_round : (next p count : ℕ) → next < p → steps_from next p count ≡ InRound next ∷ steps_from (next + 1) p count
within_round next p count h =
    let more : p - next ≡ suc (p - (next + 1)) = omega (arith, h) in
    ap (λ n. map InRound (range_with_len next n) ++ rounds p count) more

pub new_round : (next p count : ℕ) → p ≤ next → 0 < count → 0 < p → steps_from next p count ≡ InRound 0 ∷ steps_from 1 p (count - 1)
new_round next p count h some there =
    let none : p - next ≡ 0 = omega (arith, h) in
    let more : count ≡ suc (count - 1) = omega (arith, some) in
    let one : p ≡ suc (p - 1) = omega (arith, there) in
    ap (λ n. map InRound (range_with_len next n) ++ rounds p count) none
    ∙ ap (rounds p) more
    ∙ ap (λ n. map InRound (range_with_len 0 n) ++ rounds p (count - 1)) one

no_rounds : (p count : ℕ) → p ≡ 0 → rounds p count ≡ []
no_rounds p zero none = refl
no_rounds p (suc count) none = ap (λ n. map InRound (range_with_len 0 n) ++ rounds p count) none ∙ no_rounds p count none

pub no_round : (next p count : ℕ) → p ≤ next → count ≡ 0 → steps_from next p count ≡ []
no_round next p count h none =
    let empty : p - next ≡ 0 = omega (arith, h) in
    ap (λ n. map InRound (range_with_len next n) ++ rounds p count) empty ∙ ap (rounds p) none

pub no_processors : (next p count : ℕ) → p ≡ 0 → steps_from next p count ≡ []
no_processors next p count none =
    let empty : p - next ≡ 0 = omega (arith, none) in
    ap (λ n. map InRound (range_with_len next n) ++ rounds p count) empty ∙ no_rounds p count none

-- they are steps in rounds
in_rounds : (l : List ℕ) → AllByRecursion IsStepInRound (map InRound l)
in_rounds [] = tt
in_rounds (c ∷ l) = (tt, in_rounds l)

both_rounds : (a b : List Due) → AllByRecursion IsStepInRound a → AllByRecursion IsStepInRound b → AllByRecursion IsStepInRound (a ++ b)
both_rounds [] b all also = also
both_rounds (due ∷ a) b all also = (all.0, both_rounds a b all.1 also)

all_rounds : (p count : ℕ) → AllByRecursion IsStepInRound (rounds p count)
all_rounds p zero = tt
all_rounds p (suc count) = both_rounds (round p) (rounds p count) (in_rounds (range_with_len 0 p)) (all_rounds p count)

pub all_steps : (next p count : ℕ) → AllByRecursion IsStepInRound (steps_from next p count)
all_steps next p count =
    both_rounds (map InRound (range_with_len next (p - next))) (rounds p count) (in_rounds (range_with_len next (p - next))) (all_rounds p count)

-- the first of what is due
pub first_is : (rest : List ScheduleItem) (later : List Due) (item : Option ScheduleItem) (due : Option Due) → item ≡ slice_get rest 0
    → due ≡ first_of later → (i : ScheduleItem) → item ≡ Some i → first_in rest later ≡ Some (Listed i.act)
first_is [] later item due e f i g = cc
first_is (x ∷ rest) later item due e f i g = let same : x ≡ i = cc in ap (λ y. Some (Listed y.act)) same

pub none_of : {A : Type 0} (o : Option A) → ((x : A) → o ≡ Some x → ⊥) → o ≡ None
none_of None h = refl
none_of (Some x) h = absurd (h x refl)

-- what is ahead, by its parts
abbrev pub left : (p : ℕ) (first : Option ScheduleItem) (items : List ScheduleItem) (at next count : ℕ) → Left
left p first items at next count = record { processors = p; rest = rest_of first (drop at items); later = steps_from next p count }

-- what is passed, if anything is
abbrev pub AllPass : (old new : Left) → Type 0
AllPass old new = IfSome (first_due old) (λ due. Passes due old new)

module _ (p : ℕ) (items : List ScheduleItem) (at next count : ℕ) where
  rest_is : (first : Option ScheduleItem) (i : ScheduleItem) → first ≡ None → slice_get items at ≡ Some i
      → rest_of first (drop at items) ≡ i ∷ drop (at + 1) items
  rest_is first i e f = ap (λ o. rest_of o (drop at items)) e ∙ found_at items at i f

  rest_none : (first : Option ScheduleItem) → first ≡ None → slice_get items at ≡ None → rest_of first (drop at items) ≡ []
  rest_none first e f = ap (λ o. rest_of o (drop at items)) e ∙ none_at items at f

  -- the item that is begun
  pub pass_first : (first less : Option ScheduleItem) (i : ScheduleItem) → first ≡ Some i → less ≡ once_less i
      → All (IsItemAmong p) (rest_of first (drop at items)) → AllPass (left p first items at next count) (left p less items at next count)
  pass_first first less i e f all =
      let some = some_times p i (subst (λ o. All (IsItemAmong p) (rest_of o (drop at items))) e all 0 i (omega arith)) in
      subst (λ o. AllPass (left p o items at next count) (left p less items at next count)) (sym e)
      (subst (λ o. AllPass (left p (Some i) items at next count) (left p o items at next count)) (sym f)
      (list_passes p i (drop at items) (steps_from next p count) some))

  -- the next item
  pub pass_next : (first less : Option ScheduleItem) (i : ScheduleItem) → first ≡ None → slice_get items at ≡ Some i → less ≡ once_less i
      → All (IsItemAmong p) (rest_of first (drop at items)) → AllPass (left p first items at next count) (left p less items (at + 1) next count)
  pass_next first less i e g f all =
      let same = rest_is first i e g in
      let later = steps_from next p count in
      let some = some_times p i (subst (All (IsItemAmong p)) same all 0 i (omega arith)) in
      subst (λ (r : List ScheduleItem). AllPass (record { processors = p; rest = r; later = later }) (left p less items (at + 1) next count)) (sym same)
      (subst (λ o. AllPass (record { processors = p; rest = i ∷ drop (at + 1) items; later = later }) (left p o items (at + 1) next count)) (sym f)
      (list_passes p i (drop (at + 1) items) later some))

  -- what is left then is of so many processors
  pub among_next : (first less : Option ScheduleItem) (i : ScheduleItem) → first ≡ None → slice_get items at ≡ Some i → less ≡ once_less i
      → All (IsItemAmong p) (rest_of first (drop at items)) → All (IsItemAmong p) (rest_of less (drop (at + 1) items))
  among_next first less i e g f all =
      subst (λ o. All (IsItemAmong p) (rest_of o (drop (at + 1) items))) (sym f)
      (among_after p i (drop (at + 1) items) (subst (All (IsItemAmong p)) (rest_is first i e g) all))

  pub among_first : (first less : Option ScheduleItem) (i : ScheduleItem) → first ≡ Some i → less ≡ once_less i
      → All (IsItemAmong p) (rest_of first (drop at items)) → All (IsItemAmong p) (rest_of less (drop at items))
  among_first first less i e f all =
      subst (λ o. All (IsItemAmong p) (rest_of o (drop at items))) (sym f)
      (among_after p i (drop at items) (subst (λ o. All (IsItemAmong p) (rest_of o (drop at items))) e all))

  steps_pass : (rest : List ScheduleItem) (c : ℕ) (old new : List Due) → rest ≡ [] → old ≡ InRound c ∷ new
      → AllPass (record { processors = p; rest = rest; later = old }) (record { processors = p; rest = rest; later = new })
  steps_pass rest c old new e f =
      subst (λ (r : List ScheduleItem). AllPass (record { processors = p; rest = r; later = old }) (record { processors = p; rest = r; later = new })) (sym e)
      (subst (λ (l : List Due). AllPass (record { processors = p; rest = []; later = l }) (record { processors = p; rest = []; later = new })) (sym f)
      (record { dues = refl; rest = refl }))

  -- a step of the round
  pub pass_step : (first : Option ScheduleItem) → first ≡ None → slice_get items at ≡ None → next < p
      → AllPass (left p first items at next count) (left p first items at (next + 1) count)
  pass_step first e f h =
      steps_pass (rest_of first (drop at items)) next (steps_from next p count) (steps_from (next + 1) p count) (rest_none first e f) (within_round next p count h)

  -- the first step of a new round
  pub pass_round : (first : Option ScheduleItem) → first ≡ None → slice_get items at ≡ None → p ≤ next → 0 < count → 0 < p
      → AllPass (left p first items at next count) (left p first items at 1 (count - 1))
  pass_round first e f h some there =
      steps_pass (rest_of first (drop at items)) 0 (steps_from next p count) (steps_from 1 p (count - 1)) (rest_none first e f)
      (new_round next p count h some there)

  -- nothing is left
  pub pass_none : (first : Option ScheduleItem) → first ≡ None → slice_get items at ≡ None → steps_from next p count ≡ []
      → AllPass (left p first items at next count) (left p first items at next count)
  pass_none first e f h =
      let l : Left = left p first items at next count in
      subst (λ o. IfSome o (λ due. Passes due l l)) (sym (ap (λ r. first_in r (steps_from next p count)) (rest_none first e f) ∙ ap first_of h)) tt

  -- of what is seen as these parts
  pub pass_next_of : (old : Left) (first less : Option ScheduleItem) (i : ScheduleItem) → left p first items at next count ≡ old → first ≡ None
      → slice_get items at ≡ Some i → less ≡ once_less i → All (IsItemAmong p) (rest_of first (drop at items))
      → AllPass old (left p less items (at + 1) next count)
  pass_next_of old first less i is e g f all =
      subst (λ (l : Left). AllPass l (left p less items (at + 1) next count)) is (pass_next first less i e g f all)

  pub pass_step_of : (old : Left) (first : Option ScheduleItem) → left p first items at next count ≡ old → first ≡ None → slice_get items at ≡ None → next < p
      → AllPass old (left p first items at (next + 1) count)
  pass_step_of old first is e f h = subst (λ (l : Left). AllPass l (left p first items at (next + 1) count)) is (pass_step first e f h)

  pub pass_round_of : (old : Left) (first : Option ScheduleItem) → left p first items at next count ≡ old → first ≡ None → slice_get items at ≡ None
      → p ≤ next → 0 < count → 0 < p → AllPass old (left p first items at 1 (count - 1))
  pass_round_of old first is e f h some there =
      subst (λ (l : Left). AllPass l (left p first items at 1 (count - 1))) is (pass_round first e f h some there)

-- what is due begins with the first act of the list
pub due_first : (l : Left) (i : ScheduleItem) → Some i ≡ slice_get l.rest 0 → IsItemAmong l.processors i
    → (more : List Due) × (dues_in l ≡ Listed i.act ∷ more)
due_first l i e h = go l.rest e
  where
    go : (rest : List ScheduleItem) → Some i ≡ slice_get rest 0 → (more : List Due) × (listed rest ++ l.later ≡ Listed i.act ∷ more)
    go [] f = cc
    go (x ∷ rest) f =
        let same : x ≡ i = cc in
        subst (λ y. (more : List Due) × (listed (y ∷ rest) ++ l.later ≡ Listed i.act ∷ more)) (sym same) (
          listed (rest_of (if nat_lt 1 i.times then Some (less i) else None) rest) ++ l.later,
          ap (λ d. d ++ l.later) (listed_by i rest (some_times l.processors i h) (nat_lt 1 i.times) refl),
        )

-- or with a step in a round
pub due_later : (l : Left) (c : ℕ) → None ≡ slice_get l.rest 0 → Some (InRound c) ≡ first_of l.later → (more : List Due) × (dues_in l ≡ InRound c ∷ more)
due_later l c e f = go l.rest l.later e f
  where
    go : (rest : List ScheduleItem) (later : List Due) → None ≡ slice_get rest 0 → Some (InRound c) ≡ first_of later
        → (more : List Due) × (listed rest ++ later ≡ InRound c ∷ more)
    go [] [] g h = cc
    go [] (due ∷ later) g h = let same : due ≡ InRound c = cc in (later, ap (λ d. d ∷ later) same)
    go (x ∷ rest) later g h = cc
