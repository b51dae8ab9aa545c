-- Two runs of a code within one limit.
use Rattle.std.proofs.Common.{ℕ, List, arith, inl, inr}
use Rattle.ppm_words.specs.declared.named_array.NamedArray.{NamedArray}
use Rattle.ppm_code.specs.declared.code.CodeParts.{CodeParts}
use Rattle.ppm_depth.specs.declared.depth.DepthRun.{DepthRun}
use Rattle.ppm_depth.specs.Run.{IsDepthRun, IsWithin}

-- where one ends within the limit, another one does
pub both_end : (code : CodeParts) (input : List NamedArray) (limit : ℕ) (run other : DepthRun) → IsDepthRun code input limit run
    → IsWithin code input limit other → IsWithin code input limit run
both_end code input limit run other (inl within) ends = within
both_end code input limit run other (inr more) ends =
    let less = more.more ends.end ends.comes in absurd (omega (arith, less, ends.within))
