-- A replay with acts and room enough ends: as its program does, or as its sound case. By places whatever its schedule, by entries without hard faults.
use Rattle.std.specs.Prelude.{◌≡◌, ◌⊎◌, ◌≤◌, ℕ, List, [], ◌∷◌, Some}
use Rattle.std.specs.List.{AllByRecursion}
use Rattle.ppm_strands.specs.Run.{End as CapsuleEnd}
use Rattle.ppm_words.specs.declared.named_array.NamedArray.{NamedArray}
use Rattle.ppm_ports.specs.Outside.{Ports}
use Rattle.ppm_cells.specs.declared.shape.Takeover.TheVariants.{ByPlaces}
use Rattle.ppm_code.specs.Strands.{Result}
use Rattle.ppm_code.specs.declared.code.CodeParts.{CodeParts}
use Rattle.ppm_depth.specs.Run.{ComesTo, pool_words}
use Rattle.ppm_depth.specs.Sound.{IsSound}
use Rattle.ppm_case.specs.Case.{IsCaseOf}
use Rattle.ppm_tree.specs.Tree.{ProgramTree}
use Rattle.ppm_tree.specs.Program.{initial_arrays}
use Rattle.ppm_program.specs.Programs.{HasProgram}
use Rattle.ppm_cut_code.specs.Routines.{code_of}
use Rattle.ppm_plan.specs.Faults.{acts_of}
use Rattle.ppm_plan.specs.Forms.{schedule_form}
use Rattle.ppm_plan.specs.Refusals.{IsAccepted}
use Rattle.ppm_plan.specs.declared.schedule_item.ScheduleItem.{ScheduleItem}
use Rattle.ppm_progress.specs.Enough.{IsNoHardAct, enough_acts, enough_acts_by_places}
use Rattle.ppm_answers.specs.declared.status.Status.{Status}
use Rattle.ppm_answers.specs.declared.status.Status.TheVariants as statuses
use Rattle.ppm_answers.specs.Rows.{IsOneOf, GoesWell}
use Rattle.ppm_cli.specs.declared.replay.ReplayOptions.{ReplayOptions}
use Rattle.ppm_replay_command.specs.CaseReplayRows as case_rows
use Rattle.ppm_replay_command.specs.CountedCaseRows as counted_case_rows
use Rattle.ppm_replay_command.specs.CountedReplayRows as counted_rows
use Rattle.ppm_replay_command.specs.ReplayRows as rows

-- no item is a hard fault
abbrev pub NoneIsHard : List ScheduleItem → Type 0
NoneIsHard items = AllByRecursion (λ item. IsNoHardAct item.act) items

-- As many acts may be made as are enough for these items and a depth-first run of so many capsules, by one of two numbers: that of schedules without
-- hard faults, or, with takeover by places, that of all schedules.
abbrev pub ActsAreEnough : (options : ReplayOptions) (items : List ScheduleItem) (capsules : ℕ) → Type 0
ActsAreEnough options items capsules =
    (NoneIsHard items × (enough_acts (acts_of items) options.processors capsules ≤ options.turns))
    ⊎ ((options.takeover ≡ ByPlaces) × (enough_acts_by_places (acts_of items) options.processors capsules ≤ options.turns))

-- the code, run depth first on this input, has no end; or it has one, and the acts that may be made are not known to be enough for these items
abbrev pub NeedsMoreActs : (options : ReplayOptions) (items : List ScheduleItem) (code : CodeParts) (input : List NamedArray) → Type 0
NeedsMoreActs options items code input = (end : CapsuleEnd Result) → ComesTo code input end → ActsAreEnough options items end.counts.capsules → ⊥

-- The code, run depth first on this input, comes to an end. As many acts may be made as are enough for these items, and a pool has at least the
-- words that the run takes.
pub record ReplayIsEnough (options : ReplayOptions) (items : List ScheduleItem) (code : CodeParts) (input : List NamedArray) : Type 0 where
  pub end : CapsuleEnd Result
  pub comes : ComesTo code input end
  pub for_acts : ActsAreEnough options items end.counts.capsules
  pub for_room : pool_words code end.counts ≤ options.room

module _ (options : ReplayOptions) (schedule : List ℕ) (o : Ports) where
  -- What the rows of `replay` say more. A replay that is unfinished had fewer acts than are enough for its items and the program, or that has no end.
  -- Completeness: with a schedule that is accepted, and acts and room enough for its items and for the program of the source's bytes, which are known,
  -- the replay ends with arrays or in a trap, where the ports hold and memory is there.
  pub record ReplayEnds (status : Status) : Type 0 where
    pub unfinished : (w : rows.WritesUnfinished options schedule o) → let p = w.read.2.has in NeedsMoreActs options w.read.2.items (code_of p.0) (initial_arrays p.0)
    pub completes : (items : List ScheduleItem) → IsAccepted schedule_form schedule options.processors items
        → (all : List ℕ) → o.source.before ≡ Some all → (t : ProgramTree) → HasProgram all t
        → ReplayIsEnough options items (code_of t) (initial_arrays t) → GoesWell o status
        → IsOneOf status (statuses.Ended ∷ statuses.Trapped ∷ [])

  -- and those of `replay` of a case, if it is sound
  pub record CaseReplayEnds (status : Status) : Type 0 where
    pub unfinished : (w : case_rows.WritesUnfinished options schedule o) → let h = w.read.2.has in IsSound h.code h.input
        → NeedsMoreActs options w.read.2.items h.code h.input
    pub completes : (items : List ScheduleItem) → IsAccepted schedule_form schedule options.processors items
        → (all : List ℕ) → o.source.before ≡ Some all → (code : CodeParts) (input : List NamedArray) → IsCaseOf all code input → IsSound code input
        → ReplayIsEnough options items code input → GoesWell o status
        → IsOneOf status (statuses.Ended ∷ statuses.Trapped ∷ [])

  -- and so do the rows of `replay` where its counts are told,
  pub record CountedReplayEnds (status : Status) : Type 0 where
    pub unfinished : (w : counted_rows.WritesUnfinished options schedule o) → let r = w.replays.read.2 in
        NeedsMoreActs options r.items (code_of r.has.0) (initial_arrays r.has.0)
    pub completes : (items : List ScheduleItem) → IsAccepted schedule_form schedule options.processors items
        → (all : List ℕ) → o.source.before ≡ Some all → (t : ProgramTree) → HasProgram all t
        → ReplayIsEnough options items (code_of t) (initial_arrays t) → GoesWell o status
        → IsOneOf status (statuses.Ended ∷ statuses.Trapped ∷ [])

  -- of a case too, if it is sound
  pub record CountedCaseReplayEnds (status : Status) : Type 0 where
    pub unfinished : (w : counted_case_rows.WritesUnfinished options schedule o) → let r = w.replays.read.2 in IsSound r.has.code r.has.input
        → NeedsMoreActs options r.items r.has.code r.has.input
    pub completes : (items : List ScheduleItem) → IsAccepted schedule_form schedule options.processors items
        → (all : List ℕ) → o.source.before ≡ Some all → (code : CodeParts) (input : List NamedArray) → IsCaseOf all code input → IsSound code input
        → ReplayIsEnough options items code input → GoesWell o status
        → IsOneOf status (statuses.Ended ∷ statuses.Trapped ∷ [])
