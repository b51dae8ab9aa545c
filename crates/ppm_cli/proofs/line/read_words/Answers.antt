use Rattle.std.proofs.Common.{ap, ◌∙◌, inl, inr}
use Rattle.clap.specs.Words.{is_simple, is_simple_and_free}
use Rattle.ppm_cli.proofs.WordsLemmas.{ppm_is_simple, ppm_is_free, given, refused}
use Rattle.ppm_cli.proofs.line.read_words.Goals as goal

-- a parse without an error gives the command of its matches
pub returns-in-Ok-clause-value : goal.returns-in-Ok-clause-value
returns-in-Ok-clause-value c =
    given _ _ _ _ c.in_ok-ppm.ensures (c.in-Ok.ensures.kinds (ap is_simple_and_free c.in_ok-ppm.ensures ∙ ppm_is_free))
    (c.in-Ok.ensures.matches (ap is_simple c.in_ok-ppm.ensures ∙ ppm_is_simple)).1 c.in_ok-command-in-Ok.ensures.value

pub returns-in-Ok-clause-in_range : goal.returns-in-Ok-clause-in_range
returns-in-Ok-clause-in_range c = c.in_ok-command-in-Ok.ensures.in_range

-- an error other than want of memory is a fault of the words
pub returns-clause-value : goal.returns-clause-value
returns-clause-value c =
    elim (c.in-Err.ensures.kinds (ap is_simple_and_free c.in_ok-ppm.ensures ∙ ppm_is_free)) [
      | inl memory ↦ absurd (c.in_default.not-OutOfMemory (c.kind.ensures ∙ memory))
      | inr among ↦ refused _ _ _ c.in_ok-ppm.ensures among
    ]
