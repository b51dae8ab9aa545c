-- The texts of plans, of schedules and of strands are read as they are written.
use Rattle.std.proofs.Common.{◌≡◌, ◌∙◌, ℕ, true, List, [], ◌∷◌, ◌++◌, Option, Some, None, decimal, refl, ap, arith}
use Rattle.ppm_plan.specs.declared.fault.Fault.{Fault}
use Rattle.ppm_plan.specs.declared.fault.Fault.TheVariants.{Soft, Hard}
use Rattle.ppm_plan.specs.declared.plan_item.PlanItem.{PlanItem}
use Rattle.ppm_plan.specs.declared.schedule_item.ScheduledAct.TheVariants.{Step, Fails}
use Rattle.ppm_plan.specs.declared.schedule_item.ScheduleItem.{ScheduleItem}
use Rattle.ppm_plan.specs.declared.strand_item.StrandItem.{StrandItem}
use Rattle.ppm_plan.specs.Items.{letter_of, act_text, schedule_item_of, WritesScheduleItem, Once, Times}
use Rattle.ppm_plan.specs.Forms.{plan_form, schedule_form}
use Rattle.ppm_plan.specs.Spellings.{WritesPlanItem}
use Rattle.ppm_plan.specs.Strands.{strand_form, strand_item_in, WritesStrandItem}
use Rattle.std.proofs.lemmas.Option.{none-some}
use Rattle.ppm_plan.proofs.SpellingLemmas.{lacks, decimal_lacks, both_lack}
use Rattle.ppm_plan.proofs.PlanItemLemmas as plan
use Rattle.ppm_plan.proofs.ScheduleItemLemmas as schedule
use Rattle.ppm_plan.proofs.ScheduleItemLemmas.{step_lacks}
use Rattle.ppm_plan.proofs.TextLemmas.{ReadsItems}

-- letters are no commas
letter_lacks : (fault : Fault) → lacks 44 (letter_of fault ∷ []) ≡ true
letter_lacks Soft = refl
letter_lacks Hard = refl

plan_lacks : (piece : List ℕ) (i : PlanItem) → WritesPlanItem piece i → lacks 44 piece ≡ true
plan_lacks piece i w =
    ap (lacks 44) w.text
    ∙ both_lack 44 (decimal i.processor ++ 64 ∷ decimal i.turn) (letter_of i.fault ∷ [])
    (both_lack 44 (decimal i.processor) (64 ∷ decimal i.turn) (decimal_lacks 44 i.processor refl w.fits.processor)
    (both_lack 44 (64 ∷ []) (decimal i.turn) refl (decimal_lacks 44 i.turn refl w.fits.turn)))
    (letter_lacks i.fault)

schedule_lacks : (piece : List ℕ) (i : ScheduleItem) → WritesScheduleItem piece i → lacks 44 piece ≡ true
schedule_lacks piece i (Once (Step c victim) fits) = step_lacks 44 c victim refl refl fits
schedule_lacks piece i (Once (Fails c fault) fits) =
    both_lack 44 (decimal c) (33 ∷ letter_of fault ∷ []) (decimal_lacks 44 c refl fits)
    (both_lack 44 (33 ∷ []) (letter_of fault ∷ []) refl (letter_lacks fault))
schedule_lacks piece i (Times c victim n fits low high) =
    both_lack 44 (act_text (Step c victim)) (42 ∷ decimal n) (step_lacks 44 c victim refl refl fits)
    (both_lack 44 (42 ∷ []) (decimal n) refl (decimal_lacks 44 n refl (omega (arith, high))))

pub plans : ReadsItems plan_form WritesPlanItem
plans = record {
  read = λ piece i w. ap plan_form.reading w.text ∙ plan.item_read i w.fits;
  back = λ piece i h. record { fits = (plan.item_back piece i h).0; text = (plan.item_back piece i h).1 };
  lack = plan_lacks;
  none = refl;
}

pub schedules : ReadsItems schedule_form WritesScheduleItem
schedules = record { read = schedule.item_read; back = schedule.item_back; lack = schedule_lacks; none = refl }

-- by the item of a schedule
strand_back : (piece : List ℕ) (i : StrandItem) → strand_form.reading piece ≡ Some i → WritesStrandItem piece i
strand_back piece i h = go (schedule_item_of piece) refl h
  where
    go : (o : Option ScheduleItem) → schedule_item_of piece ≡ o → strand_item_in o ≡ Some i → WritesStrandItem piece i
    go None e k = absurd (none-some i k)
    go (Some j) e k = record { item = j; written = schedule.item_back piece j e; same = k }

pub strands : ReadsItems strand_form WritesStrandItem
strands = record {
  read = λ piece i w. ap strand_item_in (schedule.item_read piece w.item w.written) ∙ w.same;
  back = strand_back;
  lack = λ piece i w. schedule_lacks piece w.item w.written;
  none = refl;
}
