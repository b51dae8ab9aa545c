-- Laws of obedience.
use Rattle.std.specs.Prelude.{◌≡◌, ◌≢◌, ◌↔◌, ◌<◌, ℕ, true, List, ◌∷◌, ◌++◌}
use Rattle.std.specs.List.{filter}
use Rattle.ppm_cells.specs.Memory.{AreWordsOf}
use Rattle.ppm_cells.specs.declared.shape.Shape.{Shape}
use Rattle.ppm_code.specs.declared.code.CodeParts.{CodeParts}
use Rattle.ppm_plan.specs.Forms.{plan_form}
use Rattle.ppm_plan.specs.Refusals.{IsKeeper}
use Rattle.ppm_plan.specs.Schedules.{Planned}
use Rattle.ppm_step.specs.declared.turn.Act.TheVariants.{Quit}
use Rattle.ppm_step.specs.declared.turn.Turn.{Turn}
use Rattle.ppm_step.specs.declared.turn.Why.{Why}
use Rattle.ppm_step.specs.declared.turn.Why.TheVariants.{Turns}
use Rattle.ppm_step.specs.Laws.{finish_at, reached, IsStruck}
use Rattle.ppm_step.specs.Standings.{Standing, IsLost, IsDone}
use Rattle.ppm_step.specs.State.{State, stand_of, after, opening}
use Rattle.ppm_step.specs.Told.{record_of}
use Rattle.ppm_words.specs.declared.idle.Idle.TheVariants.{Leave, Park}
use Rattle.ppm_choice.specs.declared.limits.Limits.{Limits}
use Rattle.ppm_choice.specs.Deeds.{AreOf, work_made}
use Rattle.ppm_choice.specs.Finishes.{Finishes}
use Rattle.ppm_choice.specs.Obeying.{Past, nothing_done, Rests, parks, ObeysIn, ObeyAll}
use Rattle.ppm_choice.specs.Tells.{is_act, told_in, told_by}

-- two runs in which a processor acts alone and obeys are one
abbrev pub HasOneRun : Shape → CodeParts → Type 0
HasOneRun s code = (plan : Planned) (limits : Limits) (processor : ℕ) (state : State) (a b : List Turn) → AreOf processor a → AreOf processor b
    → ObeysIn plan limits processor s code state a → ObeysIn plan limits processor s code state b → a ≡ b

-- a processor parks exactly where it rests and is to park
abbrev pub ParksWhereItRests : Type 0
ParksWhereItRests = (plan : Planned) (limits : Limits) (processor : ℕ) (past : Past) (stood : Standing)
    → (parks plan limits processor past stood ≡ true) ↔ ((limits.idle ≡ Park) × Rests plan limits processor past stood)

-- without what is told where it parks, what is told of it is its record
abbrev pub TellsRecord : Shape → CodeParts → Type 0
TellsRecord s code = (plan : Planned) (limits : Limits) (processor : ℕ) (state : State) (turns : List Turn)
    → filter is_act (told_in plan limits processor s code state turns) ≡ record_of s code processor state turns

-- where it is to leave, this is all that is told
abbrev pub TellsNoMore : Shape → CodeParts → Type 0
TellsNoMore s code = (plan : Planned) (limits : Limits) (processor : ℕ) (state : State) (turns : List Turn) → limits.idle ≡ Leave
    → told_in plan limits processor s code state turns ≡ record_of s code processor state turns

-- what is told of a processor that obeys in a run from an opening follows from its record alone
abbrev pub TellsByRecord : Shape → CodeParts → Type 0
TellsByRecord s code = (plan : Planned) (limits : Limits) (processor : ℕ) (words : List ℕ) (turns : List Turn) → processor < s.processors
    → ObeysIn plan limits processor s code (opening words s.processors) turns
    → told_in plan limits processor s code (opening words s.processors) turns
    ≡ told_by plan limits processor s code nothing_done IsLost (record_of s code processor (opening words s.processors) turns)

-- a processor that obeys quits only for its turns, in a run in which it makes exactly as many work turns as it may make
abbrev pub QuitsWhereSpent : Shape → CodeParts → Type 0
QuitsWhereSpent s code = (plan : Planned) (limits : Limits) (processor : ℕ) (state : State) (first more : List Turn) (why : Why)
    → ObeysIn plan limits processor s code state (first ++ (record { processor = processor; act = Quit why } ∷ more))
    → (why ≡ Turns) × (work_made s code processor state (first ++ (record { processor = processor; act = Quit why } ∷ more)) ≡ limits.turns)

-- a keeper that obeys is done after the run, and no hard fault of its own is among the turns
abbrev pub KeeperEnds : Shape → CodeParts → Type 0
KeeperEnds s code = (plan : Planned) (limits : Limits) (processor : ℕ) (state : State) (turns : List Turn)
    → IsKeeper plan_form plan.items processor → ObeysIn plan limits processor s code state turns
    → (stand_of (after s code state turns) processor ≡ IsDone) × (¬ IsStruck processor turns)

-- after a run from an opening in which each processor obeys, of a plan whose keeper is there, the finish word isn't 0, and it has a cause
abbrev pub RunsFinish : Shape → CodeParts → Type 0
RunsFinish s code = (plan : Planned) (limits : Limits) (keeper : ℕ) (words : List ℕ) (turns : List Turn) → AreWordsOf s words
    → IsKeeper plan_form plan.items keeper → keeper < s.processors → ObeyAll plan limits s code (opening words s.processors) turns
    → (finish_at s (reached s code words turns) ≢ 0)
    × Finishes s code limits (opening words s.processors) turns (finish_at s (reached s code words turns))
