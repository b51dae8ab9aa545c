-- A list of items, one by one.
use Rattle.std.proofs.Common.{arith, subst, sym, ◌-◌, ◌<◌, ◌≤◌, length, take, drop, get_or, ◌≡◌, refl, suc, List, [], ◌∷◌, ◌++◌, ap, ◌∙◌, replicate}
use Rattle.std.proofs.Common.{take_all, le_refl}
use Rattle.std.specs.List.{All}
use Rattle.ppm_plan.specs.declared.schedule_item.ScheduleItem.{ScheduleItem}
use Rattle.ppm_core.specs.Situation.{Situation}
use Rattle.ppm_following.specs.declared.following.Way.{Way}
use Rattle.ppm_choice.specs.Course.{Listed}
use Rattle.ppm_choice.specs.Schedules.{listed}
use Rattle.ppm_following.specs.Following.{Does, LeadsTo}
use Rattle.ppm_choice.proofs.DueLemmas.{listed_front}
use Rattle.ppm_following.proofs.DoesLemmas.{goes_on_by, ends_by}

-- what is after the first of some items
rest_is : (item : ScheduleItem) (items : List ScheduleItem) → take (length (item ∷ items) - 1) items ≡ items
rest_is item items =
    let one : length (item ∷ items) - 1 ≡ length items = omega arith in
    ap (λ k. take k items) one ∙ take_all (length items) items (le_refl (length items))

pub listed_rest : (left : List ScheduleItem) (d : ScheduleItem) → 1 ≤ length left
    → listed left ≡ replicate (get_or left 0 d).times (Listed (get_or left 0 d).act) ++ listed (take (length left - 1) (drop 1 left))
listed_rest [] d some = absurd (omega (arith, some))
listed_rest (item ∷ items) d some =
    listed_front item items ∙ ap (λ r. replicate item.times (Listed item.act) ++ listed r) (sym (rest_is item items))

-- one item was done
pub one_item : (items left : List ScheduleItem) (d : ScheduleItem) {m n o : Situation} {way v u : Way} → 1 ≤ length left
    → LeadsTo (listed items) (listed left) m way n v
    → Does (replicate (get_or left 0 d).times (Listed (get_or left 0 d).act)) n v o u
    → LeadsTo (listed items) (listed (take (length left - 1) (drop 1 left))) m way o u
one_item items left d some =
    goes_on_by (listed items) (listed left) (replicate (get_or left 0 d).times (Listed (get_or left 0 d).act))
    (listed (take (length left - 1) (drop 1 left))) (listed_rest left d some)

-- what holds of all items holds of the rest
pub all_rest : (P : ScheduleItem → Type 0) (left : List ScheduleItem) → 1 ≤ length left → All P left → All P (take (length left - 1) (drop 1 left))
all_rest P [] some all = absurd (omega (arith, some))
all_rest P (item ∷ items) some all =
    subst (λ xs. All P xs) (sym (rest_is item items)) (λ k d h. all (suc k) d (omega (arith, h)))

-- no item is left
pub no_item : (items left : List ScheduleItem) {m n : Situation} {way v : Way} → length left < 1
    → LeadsTo (listed items) (listed left) m way n v → Does (listed items) m way n v
no_item items [] none l = ends_by (listed items) [] refl l
no_item items (item ∷ left) none l = absurd (omega (arith, none))
