-- A refusal that is explained is an answer of the command that reads the text.
use Rattle.ppm_answers.specs.declared.answer.Answer.{Answer}
use Rattle.ppm_answers.specs.declared.answer.Answer.TheVariants as answers
use Rattle.ppm_answers.specs.declared.refused.Refused.{Refused}
use Rattle.ppm_answers.specs.declared.refused.Refused.TheVariants as refused

-- the answer of the command that reads the text
abbrev pub refused_answer : Refused → Answer
refused_answer (refused.Source r) = answers.SourceRefused r
refused_answer (refused.Listing r) = answers.ListingRefused r
refused_answer (refused.Conflict c) = answers.Conflicting c
refused_answer (refused.Input r) = answers.InputRefused r
refused_answer (refused.ConflictAt c read write) = answers.ConflictingAt c read write
refused_answer (refused.Untidy u) = answers.Untidy u
refused_answer (refused.Saved r) = answers.SavedRefused r
refused_answer (refused.Plan number) = answers.PlanRefused number
