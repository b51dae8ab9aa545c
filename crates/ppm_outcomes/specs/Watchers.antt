-- What the watchers of a run are told.
use Rattle.std.specs.Prelude.{◌≡◌, ℕ, ◌<◌, ◌≤◌, List, None, get_or, ⊤}
use Rattle.ppm_words.specs.Limits.{processor_limit}
use Rattle.ppm_ports.specs.Outside.{ToldLists}
use Rattle.ppm_ports.specs.Told.{AppendsList, KeepsList}
use Rattle.ppm_core.specs.Situation.{Situation}
use Rattle.ppm_step.specs.declared.turn.Turn.{Turn}
use Rattle.ppm_plan.specs.Schedules.{Planned}
use Rattle.ppm_choice.specs.declared.limits.Limits.{Limits}
use Rattle.ppm_choice.specs.Tells.{told_in}
use Rattle.ppm_answers.specs.declared.answer.Answer.{Answer}
use Rattle.ppm_answers.specs.declared.answer.Answer.TheVariants as answers

-- how many watchers a run has: one for each processor that it may have
abbrev pub watcher_count : ℕ
watcher_count = processor_limit

-- watchers from a number on were told nothing
abbrev pub OthersKeep : (watching : ℕ) → (before now : ToldLists) → Type 0
OthersKeep watching before now = (c : ℕ) → watching ≤ c → KeepsList (get_or before c None) (get_or now c None)

-- the first watchers, as many as are watching, were told what is told of their processors in these turns, and the others nothing
pub record AreTold (watching : ℕ) (plan : Planned) (limits : Limits) (before now : ToldLists) (start : Situation) (turns : List Turn)
    : Type 0 where
  pub records : (c : ℕ) → c < watching
      → AppendsList (get_or before c None) (get_or now c None) (told_in plan limits c start.shape start.code start.state turns)
  pub others : OthersKeep watching before now

-- What watchers were told where memory is wanting. Nothing; or a run that was given up, in part; or a whole run. Why no answer of a whole run was
-- written, no clause says.
pub data ToldAtWant (GivenUp Whole : Type 0) (before now : ToldLists) : Type 0 where
  ToldNothing : now ≡ before → ToldAtWant GivenUp Whole before now
  ToldInPart : GivenUp → ToldAtWant GivenUp Whole before now
  ToldWhole : Whole → ToldAtWant GivenUp Whole before now

-- this holds where the answer is want of memory
abbrev pub IfWanting : (Told : Type 0) → Answer → Type 0
IfWanting Told answers.NoMemory = Told
IfWanting Told answer = ⊤
