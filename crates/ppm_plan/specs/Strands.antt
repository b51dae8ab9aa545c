-- Schedules of strands: the items of schedules of processors, without victims and hard faults.
use Rattle.std.specs.Prelude.{◌≡◌, ℕ, false, List, Option, Some, None}
use Rattle.ppm_plan.specs.declared.fault.Fault.TheVariants.{Soft, Hard}
use Rattle.ppm_plan.specs.declared.schedule_item.ScheduledAct.{ScheduledAct}
use Rattle.ppm_plan.specs.declared.schedule_item.ScheduledAct.TheVariants.{Step, Fails}
use Rattle.ppm_plan.specs.declared.schedule_item.ScheduleItem.{ScheduleItem}
use Rattle.ppm_plan.specs.declared.strand_item.StrandAct.{StrandAct}
use Rattle.ppm_plan.specs.declared.strand_item.StrandAct.TheVariants as strand
use Rattle.ppm_plan.specs.declared.strand_item.StrandItem.{StrandItem}
use Rattle.ppm_plan.specs.Items.{schedule_item_of, WritesScheduleItem}
use Rattle.ppm_plan.specs.Forms.{Form}

-- an act so many times
abbrev pub strand_act : ScheduledAct → (times : ℕ) → Option StrandItem
strand_act (Step c None) times = Some (record { act = strand.Step c; times = times })
strand_act (Step c (Some v)) times = None
strand_act (Fails c Soft) times = Some (record { act = strand.Fails c; times = times })
strand_act (Fails c Hard) times = None

-- the item of strands that an item of a schedule is: a step without a victim, or a soft fault
abbrev pub strand_item : ScheduleItem → Option StrandItem
strand_item i = strand_act i.act i.times

abbrev pub strand_item_in : Option ScheduleItem → Option StrandItem
strand_item_in None = None
strand_item_in (Some i) = strand_item i

-- schedules of strands: any number names a strand, which may be forked later, and none is killed
abbrev pub strand_form : Form StrandItem
strand_form = record {
  reading = λ piece. strand_item_in (schedule_item_of piece);
  is_outside = λ p i. false;
  kills = λ c i. false;
}

-- a piece writes an item of strands: it writes the item of a schedule which that is
pub record WritesStrandItem (piece : List ℕ) (i : StrandItem) : Type 0 where
  pub item : ScheduleItem
  pub written : WritesScheduleItem piece item
  pub same : strand_item item ≡ Some i
