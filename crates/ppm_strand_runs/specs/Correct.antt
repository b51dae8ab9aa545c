-- What a fall in a run without faults shows.
use Rattle.std.specs.Prelude.{◌≡◌, ℕ, List, [], ◌∷◌, Some}
use Rattle.ppm_words.specs.declared.named_array.NamedArray.{NamedArray}
use Rattle.ppm_unseen.specs.Conditions.{Stands}
use Rattle.ppm_plan.specs.declared.strand_item.StrandAct.{StrandAct}
use Rattle.ppm_plan.specs.declared.strand_item.StrandAct.TheVariants.{Step, Fails}
use Rattle.ppm_plan.specs.declared.strand_item.StrandItem.{StrandItem}
use Rattle.ppm_racy.specs.declared.code.RacyParts.{RacyParts}
use Rattle.ppm_strand_runs.specs.declared.done.Fall.{Fall}
use Rattle.ppm_strand_runs.specs.declared.run.StrandRun.{StrandRun}
use Rattle.ppm_interleaving.specs.Shows.{finish_in}
use Rattle.ppm_strand_runs.specs.Run.{IsRunOf, strands_of}

-- an act is a step, and so are all of a schedule
abbrev pub IsStep : StrandAct → Type 0
IsStep (Step c) = Unit {0}
IsStep (Fails c) = ⊥

abbrev pub AreSteps : List StrandItem → Type 0
AreSteps [] = Unit {0}
AreSteps (i ∷ items) = IsStep i.act × AreSteps items

-- where something falls in the run of a schedule without faults, what is done does not stand in each run without faults
abbrev pub FallsOfRunsRefute : Type 0
FallsOfRunsRefute = (code : RacyParts) (input : List NamedArray) (schedule : List StrandItem) (limit : ℕ) (run : StrandRun) (fall : Fall)
    → AreSteps schedule → IsRunOf code input schedule limit run → run.fall ≡ Some fall → Stands (strands_of code input) → ⊥

-- two runs have the same deeds, the same first fall, and come to the same words, in as many turns, with the root's strand over alike or not over
pub record AreAlike (a b : StrandRun) : Type 0 where
  pub turns : a.turns ≡ b.turns
  pub done : a.done.items ≡ b.done.items
  pub fall : a.fall ≡ b.fall
  pub words : a.machine.words.items ≡ b.machine.words.items
  pub finish : finish_in a.machine.strands.items 0 ≡ finish_in b.machine.strands.items 0

-- two runs of a schedule are alike
abbrev pub RunsAreOne : Type 0
RunsAreOne = (code : RacyParts) (input : List NamedArray) (schedule : List StrandItem) (limit : ℕ) (a b : StrandRun)
    → IsRunOf code input schedule limit a → IsRunOf code input schedule limit b → AreAlike a b
