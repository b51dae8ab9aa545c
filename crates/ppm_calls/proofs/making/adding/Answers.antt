use Rattle.std.proofs.Common.{refl}
use Rattle.ppm_calls.proofs.making.adding.Goals as goal

-- these are its instructions
pub returns : goal.returns
returns c =
    rw (
      c.from_vec.ensures,
      c.in_ok-instrs.ensures.items,
      c.register-region.ensures,
      c.register-index.ensures,
      c.register-word.ensures,
      c.register-one.ensures,
    ) refl
