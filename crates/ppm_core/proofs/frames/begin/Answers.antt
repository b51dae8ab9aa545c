use Rattle.std.proofs.Common.{refl}
use Rattle.ppm_core.proofs.MomentLemmas.{no_header}
use Rattle.ppm_core.proofs.frames.begin.Goals as goal

-- no header is there, and so no capsule is entered
pub returns-in_default : goal.returns-in_default
returns-in_default c = λ left. no_header c.args.shape.now c.args.code.now c.args.seat.own c.args.seat c.args.words.now.items left refl c.in_default.ensures
