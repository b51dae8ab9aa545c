-- The acts that a schedule says, one after the other: which of them are made, and as which turns.
use Rattle.std.specs.Prelude.{ℕ, ◌+◌, ◌-◌, ◌%◌, ◌==◌, nat_lt, not, ◌&&◌, if◌then◌else◌, Bool, true, false, List, [], ◌∷◌, ◌++◌, Option, Some, None, slice_index, slice_set}
use Rattle.ppm_cells.specs.Memory.{read}
use Rattle.ppm_cells.specs.declared.cell.Cell.TheVariants.{FinishWord}
use Rattle.ppm_cells.specs.declared.shape.Shape.{Shape}
use Rattle.ppm_code.specs.declared.code.CodeParts.{CodeParts}
use Rattle.ppm_plan.specs.declared.schedule_item.ScheduledAct.{ScheduledAct}
use Rattle.ppm_plan.specs.declared.schedule_item.ScheduledAct.TheVariants as scheduled
use Rattle.ppm_step.specs.declared.turn.Act.TheVariants.{Step}
use Rattle.ppm_step.specs.declared.turn.Turn.{Turn}
use Rattle.ppm_step.specs.State.{State, stand_of, happens, seeks_holder, is_done_at}
use Rattle.ppm_choice.specs.Deeds.{act_of_fault}

-- what is due: an act of the list, or, after the list, the step of a processor whose turn it is
pub data Due : Type 0 where
  Listed : ScheduledAct → Due
  InRound : (processor : ℕ) → Due

-- a run under way: the state of the machine, how many holder words each processor has loaded as it sought work, and how many acts are
-- left of those that may be made
pub record Course : Type 0 where
  pub state : State
  pub loads : List ℕ
  pub left : ℕ

abbrev pub act_of : Due → ScheduledAct
act_of (Listed act) = act
act_of (InRound processor) = scheduled.Step processor None

abbrev pub processor_of : ScheduledAct → ℕ
processor_of (scheduled.Step processor victim) = processor
processor_of (scheduled.Fails processor fault) = processor

-- the victim at a processor's holder load number j, from 0: as stated, or the processors after it in turn
abbrev pub victim_at : (processors processor j : ℕ) → Option ℕ → ℕ
victim_at processors processor j (Some victim) = victim
victim_at processors processor j None = (processor + 1 + j) % processors

-- a step that is no such load has no victim, and names 0
abbrev pub victim_of : (processors processor j : ℕ) → Option ℕ → (seeks : Bool) → ℕ
victim_of processors processor j stated true = victim_at processors processor j stated
victim_of processors processor j stated false = 0

-- whether the coming step of a processor is such a load, and how many it has made
abbrev pub seeks : Course → (processor : ℕ) → Bool
seeks w processor = seeks_holder (stand_of w.state processor)

abbrev pub loads_of : Course → (processor : ℕ) → ℕ
loads_of w processor = slice_index w.loads processor

-- the turn that an act is
abbrev pub turn_of : (processors : ℕ) → Course → ScheduledAct → Turn
turn_of processors w (scheduled.Step processor stated) = record {
  processor = processor;
  act = Step (victim_of processors processor (loads_of w processor) stated (seeks w processor));
}
turn_of processors w (scheduled.Fails processor fault) = record { processor = processor; act = act_of_fault fault }

-- the loads that were made after it, stated victims or not
abbrev pub loads_behind : Course → ScheduledAct → List ℕ
loads_behind w (scheduled.Step processor stated) =
    if seeks w processor then slice_set w.loads processor (loads_of w processor + 1) else w.loads
loads_behind w (scheduled.Fails processor fault) = w.loads

module _ (s : Shape) (code : CodeParts) where
  -- an act of the list is made whatever the finish word says, one after the list only while it says nothing
  abbrev pub is_open : State → Due → Bool
  is_open state (Listed act) = true
  is_open state (InRound processor) = read s state.words FinishWord == 0

  -- one of a processor that is done is not made, and none where no act is left
  abbrev pub is_made : Course → Due → Bool
  is_made w due = nat_lt 0 w.left && is_open w.state due && not (is_done_at (stand_of w.state (processor_of (act_of due))))

  -- the run after an act that is made
  abbrev pub behind_act : Course → ScheduledAct → Course
  behind_act w act = record {
    state = happens s code w.state (turn_of s.processors w act);
    loads = loads_behind w act;
    left = w.left - 1;
  }

  -- and after what is due; what is not made is not counted
  abbrev pub behind : Course → Due → Course
  behind w due = if is_made w due then behind_act w (act_of due) else w

  abbrev pub turns_in : Course → Due → List Turn
  turns_in w due = if is_made w due then turn_of s.processors w (act_of due) ∷ [] else []

  -- one after the other
  abbrev pub behind_all : Course → List Due → Course
  behind_all w [] = w
  behind_all w (due ∷ dues) = behind_all (behind w due) dues

  abbrev pub turns_of : Course → List Due → List Turn
  turns_of w [] = []
  turns_of w (due ∷ dues) = turns_in w due ++ turns_of (behind w due) dues
