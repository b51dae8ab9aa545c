-- Why a text may have no program, by the answers of the passes.
use Rattle.std.specs.Prelude.{ℕ, List, ⊤}
use Rattle.ppm_text.specs.declared.text_error.TextError.{TextError}
use Rattle.ppm_text.specs.declared.text_error.TextError.TheVariants as text_error
use Rattle.ppm_parser.specs.declared.syntax_error.SyntaxError.{SyntaxError}
use Rattle.ppm_parser.specs.declared.syntax_error.SyntaxError.TheVariants as syntax_error
use Rattle.ppm_regions.specs.declared.region_error.RegionError.{RegionError}
use Rattle.ppm_regions.specs.declared.region_error.RegionError.TheVariants as region_error
use Rattle.ppm_cut_bounds.specs.declared.bound_error.BoundError.{BoundError}
use Rattle.ppm_cut_bounds.specs.declared.bound_error.BoundError.TheVariants as bound_error
use Rattle.ppm_program.specs.declared.judging.JudgeError.{JudgeError}
use Rattle.ppm_program.specs.declared.judging.JudgeError.TheVariants as judge_error
use Rattle.ppm_program.specs.Refusals.{IsRefusal, text_refusal, syntax_refusal, region_refusal, bound_refusal}

-- the text is refused for this reason; or memory was refused, which is none
abbrev pub MayStop : List ℕ → JudgeError → Type 0
MayStop text (judge_error.Refused r) = IsRefusal text r
MayStop text judge_error.NoMemory = ⊤

-- a fault of a text is a refusal, and want of memory is none
abbrev pub of_text : TextError → JudgeError
of_text text_error.NoMemory = judge_error.NoMemory
of_text e = judge_error.Refused (text_refusal e)

-- a fault of tokens is a refusal, and want of memory is none
abbrev pub of_syntax : SyntaxError → JudgeError
of_syntax syntax_error.NoMemory = judge_error.NoMemory
of_syntax e = judge_error.Refused (syntax_refusal e)

-- a fault of names and regions is a refusal, and want of memory is none
abbrev pub of_region : RegionError → JudgeError
of_region region_error.NoMemory = judge_error.NoMemory
of_region e = judge_error.Refused (region_refusal e)

-- a bound that is passed is a refusal, and want of memory is none
abbrev pub of_bound : BoundError → JudgeError
of_bound bound_error.NoMemory = judge_error.NoMemory
of_bound e = judge_error.Refused (bound_refusal e)
