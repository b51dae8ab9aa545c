-- Whether a code is sound with its input.
use Rattle.std.specs.Prelude.{ℕ, List}
use Rattle.ppm_words.specs.declared.named_array.NamedArray.{NamedArray}
use Rattle.ppm_code.specs.declared.code.CodeParts.{CodeParts}
use Rattle.ppm_war.specs.Conflicts.{IsFirstConflictOf}
use Rattle.ppm_war.specs.Untidy.{IsFirstUntidyOf}
use Rattle.ppm_depth.specs.declared.depth.DepthRun.{DepthRun}
use Rattle.ppm_depth.specs.Run.{IsWithin}
use Rattle.ppm_depth.specs.Sound.{IsSound}
use Rattle.ppm_races.specs.declared.judging.Verdict.TheVariants as verdicts
use Rattle.ppm_races.specs.Verdicts.{IsVerdict}
use Rattle.ppm_calls.specs.declared.soundness.Doubt.{Doubt}
use Rattle.ppm_calls.specs.declared.soundness.Doubt.TheVariants.{Conflicts, Untidy, Races, NotWithin, NoMemory}

module _ (code : CodeParts) (input : List NamedArray) (capsules : ℕ) where
  -- they are sound: no conflict, tidy, no race; and this is the depth-first run, which ends within so many capsules
  pub record IsSoundRun (run : DepthRun) : Type 0 where
    pub sound : IsSound code input
    pub within : IsWithin code input capsules run

  -- what is not so, or not known: the first conflict, untidy store or race, or that the run takes more capsules and none of so many meets another
  abbrev pub IsDoubt : Doubt → Type 0
  IsDoubt (Conflicts conflict) = IsFirstConflictOf code conflict
  IsDoubt (Untidy store) = IsFirstUntidyOf code store
  IsDoubt (Races race) = IsVerdict code input capsules (verdicts.Races race)
  IsDoubt NotWithin = IsVerdict code input capsules verdicts.NotWithin
  IsDoubt NoMemory = Unit {0}
