-- Items of an accepted schedule name processors that are there, and say how often an act may be done.
use Rattle.std.proofs.Common.{◌≡◌, ℕ, ◌+◌, ◌<◌, nat_lt, Bool, true, false, ◌||◌, not, cond, List, [], ◌∷◌, map, length, Option, Some, None, refl, ap, sym, arith, ltb-true}
use Rattle.std.proofs.lemmas.Bool.{both_ways}
use Rattle.std.proofs.lemmas.Option.{none-some}
use Rattle.std.proofs.lemmas.List.Elements.{All-from_recursion}
use Rattle.std.specs.List.{All, AllByRecursion}
use Rattle.ppm_plan.specs.declared.schedule_item.ScheduledAct.{ScheduledAct}
use Rattle.ppm_plan.specs.declared.schedule_item.ScheduledAct.TheVariants.{Step, Fails}
use Rattle.ppm_plan.specs.declared.schedule_item.ScheduleItem.{ScheduleItem}
use Rattle.ppm_plan.specs.Pieces.{pieces_of}
use Rattle.ppm_plan.specs.Items.{WritesScheduleItem, Once, Times}
use Rattle.ppm_plan.specs.Forms.{schedule_form, victim_outside, act_outside}
use Rattle.ppm_plan.specs.Refusals.{first_at, HasItems}
use Rattle.ppm_plan.specs.Schedules.{IsActAmong, MayBeDone, IsItemAmong}
use Rattle.ppm_plan.proofs.ScheduleItemLemmas.{item_back}

-- the first of a list, or else another
abbrev first_or : {A : Type 0} → A → List A → A
first_or a [] = a
first_or a (x ∷ xs) = x

abbrev behind_first : {A : Type 0} → List A → List A
behind_first [] = []
behind_first (x ∷ xs) = xs

-- what holds of each item that a piece reads as, and that no test stops, holds of all items
all_read : {A : Type 0} (reading : List ℕ → Option A) (test : A → Bool) (Q : A → Type 0)
    → ((piece : List ℕ) (i : A) → reading piece ≡ Some i → test i ≡ false → Q i)
    → (pieces : List (List ℕ)) (items : List A) (n : ℕ) → map reading pieces ≡ map Some items → first_at test n items ≡ None
    → AllByRecursion Q items
all_read reading test Q f pieces [] n h k = tt
all_read reading test Q f [] (i ∷ items) n h k = absurd (omega (arith, ap length h))
all_read reading test Q f (piece ∷ pieces) (i ∷ items) n h k = go (test i) refl k (all_read reading test Q f pieces items (n + 1) (ap behind_first h))
  where
    go : (b : Bool) → test i ≡ b → cond b (Some n) (first_at test (n + 1) items) ≡ None
        → (first_at test (n + 1) items ≡ None → AllByRecursion Q items) → AllByRecursion Q (i ∷ items)
    go true e k g = absurd (none-some n (sym k))
    go false e k g = (f piece i (ap (first_or None) h) e, g k)

-- a processor that is not outside is there
there : (p c : ℕ) → not (nat_lt c p) ≡ false → c < p
there p c h = go (nat_lt c p) refl h
  where
    go : (b : Bool) → nat_lt c p ≡ b → not b ≡ false → c < p
    go true e k = ltb-true c p e
    go false e k = absurd (both_ways true k refl)

-- neither is outside
neither : (a b : Bool) → (a || b) ≡ false → (a ≡ false) × (b ≡ false)
neither false b h = (refl, h)
neither true b h = absurd (both_ways true h refl)

-- an act that is not outside is of these processors
pub act_among : (p : ℕ) (act : ScheduledAct) → act_outside p act ≡ false → IsActAmong p act
act_among p (Step c None) h = (there p c (neither (not (nat_lt c p)) false h).0, tt)
act_among p (Step c (Some v)) h =
    let k = neither (not (nat_lt c p)) (victim_outside p (Some v)) h in
    (there p c k.0, there p v k.1)
act_among p (Fails c fault) h = there p c h

-- what is written is done as often as it may be
done : (piece : List ℕ) (i : ScheduleItem) → WritesScheduleItem piece i → MayBeDone i.act i.times
done piece i (Once (Step c victim) fits) = (omega arith, omega arith)
done piece i (Once (Fails c fault) fits) = refl
done piece i (Times c victim n fits low high) = (low, high)

-- all items of a schedule that is read are of so many processors, and are done as often as they may be
pub all_among : (text : List ℕ) (p : ℕ) (items : List ScheduleItem) → HasItems schedule_form text items
    → first_at (schedule_form.is_outside p) 1 items ≡ None → All (IsItemAmong p) items
all_among text p items h k =
    All-from_recursion (IsItemAmong p) items (all_read schedule_form.reading (schedule_form.is_outside p) (IsItemAmong p)
    (λ piece i e f. record { act = act_among p i.act f; times = done piece i (item_back piece i e) }) (pieces_of text) items 1 h k)
