-- What runs of a RAM's code come to, in the words of the RAM: where the code, run depth first, has an end, the RAM has that end.
use Rattle.std.specs.Prelude.{◌≡◌, ◌<◌, ◌≤◌, ℕ, ◌+◌, ◌*◌, List, length}
use Rattle.ppm_words.specs.declared.outcome.Outcome.{Outcome}
use Rattle.ppm_words.specs.declared.outcome.Outcome.TheVariants as outcome
use Rattle.ppm_ports.specs.Outside.{ToldLists}
use Rattle.ppm_ram.specs.declared.ram.RamParts.{RamParts}
use Rattle.ppm_ram.specs.Meaning.{End, EndsIn, begins, said_of}
use Rattle.ppm_ram.specs.Program.{IsRam, memory_of}
use Rattle.ppm_ram_code.specs.Code.{code_of}
use Rattle.ppm_ram_code.specs.Correct.{input_of}
use Rattle.ppm_plan.specs.declared.plan_item.PlanItem.{PlanItem}
use Rattle.ppm_step.specs.declared.turn.Turn.{Turn}
use Rattle.ppm_core.specs.Situation.{Situation}
use Rattle.ppm_answers.specs.declared.answer.Answer.{Answer}
use Rattle.ppm_answers.specs.declared.answer.Answer.TheVariants as answers
use Rattle.ppm_cli.specs.declared.run.RunOptions.{RunOptions}
use Rattle.ppm_cli.specs.Words.{AreRun}
use Rattle.ppm_outcomes.specs.AsCode.{IsAsCode}
use Rattle.ppm_outcomes.specs.Meant.{forked_in, taken_in, undone_in, worked_in}
use Rattle.ppm_outcomes.specs.Runs.{CodeHas}
use Rattle.ppm_outcomes.specs.Strikes.{fault_count}

module _ (ram : RamParts) where
  -- the RAM, run from its own memory, comes to an end, and this outcome tells it
  abbrev pub RamEnds : Outcome → Type 0
  RamEnds o = (steps : ℕ) × (e : End) × EndsIn ram (begins (memory_of ram)) steps e × (o ≡ said_of e)

  -- it has no end, or so many turns are fewer than 256 for each of its steps and each of so many faults
  abbrev pub RamNeedsMoreTurns : (faults limit : ℕ) → Type 0
  RamNeedsMoreTurns faults limit = (steps : ℕ) (e : End) → EndsIn ram (begins (memory_of ram)) steps e → limit < 256 * (steps + faults)

  -- it comes to an end, and so many turns are at least 256 for each of its steps and each of so many faults
  pub record RamIsEnough (faults turns : ℕ) : Type 0 where
    pub steps : ℕ
    pub end : End
    pub ends : EndsIn ram (begins (memory_of ram)) steps end
    pub for_turns : 256 * (steps + faults) ≤ turns

  -- the answer of a run of its code on its own memory, by the items of a plan, where the first so many watchers are told what their processors do
  abbrev pub RamHas : RunOptions → (watching : ℕ) → (before now : ToldLists) → List PlanItem → Answer → Type 0
  RamHas options watching before now items answer = CodeHas options watching before now items (code_of ram) (input_of (memory_of ram)) answer

-- a run of these turns ends as the RAM does, with this outcome, and no branch was forked or taken
pub record RunEndsAsRam (m : Situation) (turns : List Turn) (ram : RamParts) (o : Outcome) : Type 0 where
  pub ends : RamEnds ram o
  pub forks : length (forked_in m turns) ≡ 0
  pub takes : length (taken_in m turns) ≡ 0

-- What an answer of a run says: an outcome is the RAM's, and this run ends so; else the turns of a processor are fewer than 256 for each step of the
-- RAM and each fault of the plan, or it has no end. No other answer comes: no pool is too small for the code, which asks for no words of one.
abbrev pub SaysAsRam : RunOptions → List PlanItem → RamParts → Situation → List Turn → Answer → Type 0
SaysAsRam options items ram start turns (answers.Ended arrays) = RunEndsAsRam start turns ram (outcome.Ended arrays)
SaysAsRam options items ram start turns (answers.Trapped trap line) = RunEndsAsRam start turns ram (outcome.Trapped trap line)
SaysAsRam options items ram start turns (answers.OutOfTurns processor) = RamNeedsMoreTurns ram (fault_count items) options.turns
SaysAsRam options items ram start turns answer = ⊥

-- the run is as the RAM's code is, run depth first; all its work turns are fewer than 256 for each step of the RAM, if that has an end, and each fault
-- that undid work; and its answer says what the RAM comes to
pub record IsAsRam (options : RunOptions) (items : List PlanItem) (ram : RamParts) (start : Situation) (turns : List Turn) (answer : Answer)
    : Type 0 where
  pub as_code : IsAsCode start turns (code_of ram) (input_of (memory_of ram))
  pub work : RamNeedsMoreTurns ram (undone_in start turns) (worked_in start turns)
  pub says : SaysAsRam options items ram start turns answer

-- this holds with options in their ranges, of each plan and each RAM
abbrev pub AnswersAreAsRams : Type 0
AnswersAreAsRams = (options : RunOptions) → AreRun options → (items : List PlanItem) (ram : RamParts) → IsRam ram
    → (watching : ℕ) (before now : ToldLists) (answer : Answer) (h : RamHas ram options watching before now items answer)
    → IsAsRam options items ram h.start h.run.turns answer
