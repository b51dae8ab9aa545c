-- The code of a sound case may be run.
use Rattle.std.proofs.Common.{ℕ, List}
use Rattle.ppm_words.specs.declared.named_array.NamedArray.{NamedArray}
use Rattle.ppm_code.specs.declared.code.CodeParts.{CodeParts}
use Rattle.ppm_depth.specs.Sound.{IsSound}
use Rattle.ppm_case.specs.Case.{IsCaseOf}
use Rattle.ppm_loading.proofs.CaseInputLemmas.{case_input}
use Rattle.ppm_outcomes.specs.AsCode.{MayRun}

-- a sound case is one whose runs are as its code
pub may_run : (text : List ℕ) (code : CodeParts) (input : List NamedArray) → IsCaseOf text code input → IsSound code input → MayRun code input
may_run text code input is sound =
    record { code_is = is.listed.code; input_is = case_input text code input is; names = is.named; sound = sound }
