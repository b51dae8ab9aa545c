-- The items of a schedule, written act by act.
use Rattle.std.proofs.Common.{◌≡◌, ◌∙◌, refl, sym, ap, arith, ℕ, zero, suc, ◌+◌, ◌==◌, ◌&&◌, nat_lt, Bool, true, false, if◌then◌else◌, List, [], ◌∷◌, ◌++◌, Option, Some, None, map, replicate, append_assoc, eqb-true}
use Rattle.std.proofs.lemmas.Bool.{both_ways}
use Rattle.std.proofs.lemmas.List.{map-append}
use Rattle.ppm_pieces.proofs.NumberLemmas.{both_parts}
use Rattle.ppm_plan.specs.declared.schedule_item.ScheduledAct.{ScheduledAct}
use Rattle.ppm_plan.specs.declared.schedule_item.ScheduledAct.TheVariants.{Step, Fails}
use Rattle.ppm_plan.specs.declared.schedule_item.ScheduleItem.{ScheduleItem}
use Rattle.ppm_plan.specs.Faults.{acts_of}
use Rattle.ppm_plan.specs.Items.{most_times}
use Rattle.ppm_choice.specs.Course.{Listed}
use Rattle.ppm_choice.specs.Schedules.{listed}
use Rattle.ppm_sweep.specs.Sweep.{same_victim, same_step, joined, with_act}

-- the last item is the one that an act joins
pub with_last : (items : List ScheduleItem) (i : ScheduleItem) (act : ScheduledAct) → with_act (items ++ (i ∷ [])) act ≡ items ++ joined i act
with_last [] i act = refl
with_last (x ∷ []) i act = refl
with_last (x ∷ y ∷ items) i act = ap (λ l. x ∷ l) (with_last (y ∷ items) i act)

victims_are : (u v : Option ℕ) → same_victim u v ≡ true → u ≡ v
victims_are None None e = refl
victims_are None (Some v) e = absurd (both_ways false refl e)
victims_are (Some u) None e = absurd (both_ways false refl e)
victims_are (Some u) (Some v) e = ap Some (eqb-true u v e)

-- steps that are the same are one act
pub steps_are : (a b : ScheduledAct) → same_step a b ≡ true → a ≡ b
steps_are (Step c u) (Step d v) e =
    let k = both_parts (c == d) (same_victim u v) e in
    λ i. Step (eqb-true c d k.0 i) (victims_are u v k.1 i)
steps_are (Step c u) (Fails d fault) e = absurd (both_ways false refl e)
steps_are (Fails c fault) b e = absurd (both_ways false refl e)

-- an element n times, and once more
replicate_more : {A : Type 0} (n : ℕ) (a : A) → replicate (n + 1) a ≡ replicate n a ++ a ∷ []
replicate_more zero a = refl
replicate_more (suc n) a =
    let one : suc n + 1 ≡ suc (n + 1) = omega arith in
    ap (λ m. replicate m a) one ∙ ap (λ l. a ∷ l) (replicate_more n a)

acts_joined_by : (i : ScheduleItem) (act : ScheduledAct) (same few : Bool) → same_step i.act act ≡ same
    → acts_of (if same && few then record { act = i.act; times = i.times + 1 } ∷ [] else i ∷ record { act = act; times = 1 } ∷ [])
    ≡ replicate i.times i.act ++ act ∷ []
acts_joined_by i act true true e =
    ap (λ l. l ++ []) (replicate_more i.times i.act) ∙ append_assoc (replicate i.times i.act) (i.act ∷ []) []
    ∙ ap (λ a. replicate i.times i.act ++ a ∷ []) (steps_are i.act act e)
acts_joined_by i act true false e = refl
acts_joined_by i act false few e = refl

acts_joined : (i : ScheduleItem) (act : ScheduledAct) → acts_of (joined i act) ≡ replicate i.times i.act ++ act ∷ []
acts_joined i act = acts_joined_by i act (same_step i.act act) (nat_lt i.times most_times) refl

-- the acts of items with one more are those, and this one
pub acts_with : (items : List ScheduleItem) (act : ScheduledAct) → acts_of (with_act items act) ≡ acts_of items ++ act ∷ []
acts_with [] act = refl
acts_with (i ∷ []) act =
    acts_joined i act ∙ ap (λ l. l ++ act ∷ []) (sym (nothing_more (replicate i.times i.act)))
  where
    nothing_more : (l : List ScheduledAct) → l ++ [] ≡ l
    nothing_more [] = refl
    nothing_more (a ∷ l) = ap (λ m. a ∷ m) (nothing_more l)
acts_with (i ∷ j ∷ items) act =
    ap (λ l. replicate i.times i.act ++ l) (acts_with (j ∷ items) act)
    ∙ sym (append_assoc (replicate i.times i.act) (acts_of (j ∷ items)) (act ∷ []))

pub listed_with : (items : List ScheduleItem) (act : ScheduledAct) → listed (with_act items act) ≡ listed items ++ Listed act ∷ []
listed_with items act = ap (map Listed) (acts_with items act) ∙ map-append Listed (acts_of items) (act ∷ [])

-- where the last item was taken off and joined with an act
pub rejoined : (old rest new : List ScheduleItem) (i : ScheduleItem) (act : ScheduledAct) → old ≡ rest ++ (i ∷ []) → new ≡ rest ++ joined i act
    → new ≡ with_act old act
rejoined old rest new i act e f = f ∙ sym (with_last rest i act) ∙ ap (λ l. with_act l act) (sym e)
