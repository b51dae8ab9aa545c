-- A processor whose coming step is none is done.
use Rattle.std.proofs.Common.{◌≡◌, Bool, true, false, if◌then◌else◌, Some, None, refl}
use Rattle.ppm_cells.specs.declared.restart.RestartKind.{RestartKind}
use Rattle.ppm_cells.specs.declared.restart.RestartKind.TheVariants as kinds
use Rattle.ppm_step.specs.declared.turn.Next.TheVariants.{Work, Look, Done}
use Rattle.ppm_step.specs.Standings.{Standing, IsAt, IsWithin, IsDone}
use Rattle.ppm_step.specs.State.{next_of, before_kind, is_work as is_work_kind}

kind_goes : (kind : RestartKind) → before_kind kind ≡ Done → ⊥
kind_goes kinds.Seek e = cc
kind_goes kind e = cc

step_goes : (work : Bool) → (if work then Work else Look) ≡ Done → ⊥
step_goes true e = cc
step_goes false e = cc

pub done_is : (stood : Standing) → next_of stood ≡ Done → stood ≡ IsDone
done_is IsDone e = refl
done_is (IsAt place None) e = cc
done_is (IsAt place (Some restart)) e = absurd (kind_goes restart.kind e)
done_is (IsWithin seat row) e = absurd (step_goes (is_work_kind seat.restart.kind) e)
done_is stood e = cc
