-- The laws of steps within a row on a machine's words.
use Rattle.std.specs.Prelude.{ℕ, ◌+◌, List}
use Rattle.ppm_cells.specs.declared.shape.Shape.{Shape}
use Rattle.ppm_code.specs.declared.code.CodeParts.{CodeParts}
use Rattle.ppm_step.specs.Standings.{Standing}
use Rattle.ppm_engine.proofs.SumLemmas.{no_more, more_and_more}
use Rattle.ppm_engine.specs.Memory.{Counts, none, both}
use Rattle.ppm_core.specs.Moments.{Moment, moment, Goes}
use Rattle.ppm_core.specs.Alone.{Led, StandsOn}

module _ (s : Shape) (code : CodeParts) (own : ℕ) where
  pub led_none : (words : List ℕ) (x : Standing) → StandsOn s words x → Led s code own words x words x none
  led_none words x at = record {
    to = at;
    goes = λ n work forks takes first so.
        no_more (λ (a b c d : ℕ). Goes s code own a b c d first (moment words x)) n work forks takes so;
  }

  pub led_both : (a b c : List ℕ) (x y z : Standing) (m k : Counts) → Led s code own a x b y m → Led s code own b y c z k
      → Led s code own a x c z (both m k)
  led_both a b c x y z m k f g = record {
    to = g.to;
    goes = λ n work forks takes first so.
        more_and_more (λ (p q r t : ℕ). Goes s code own p q r t first (moment c z)) n work forks takes m.made m.work m.forks m.takes k.made k.work k.forks
        k.takes (g.goes (n + m.made) (work + m.work) (forks + m.forks) (takes + m.takes) first (f.goes n work forks takes first so));
  }
