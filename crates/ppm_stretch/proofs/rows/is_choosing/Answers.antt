use Rattle.std.proofs.Common.{sym}
use Rattle.ppm_step.specs.Locals.{standing_of}
use Rattle.ppm_step.specs.declared.turn.Next.TheVariants.{Work, Look}
use Rattle.ppm_stretch.proofs.RowLemmas.{free_by}
use Rattle.ppm_stretch.proofs.rows.is_choosing.Goals as goal

pub returns-in-Work-clause-free : goal.returns-in-Work-clause-free
returns-in-Work-clause-free c = λ free s code.
    free_by (standing_of s code c.args.local.now) Work (c.in-Work.ensures s code) (λ e. cc) (λ e. cc) (sym (c.if-is_due.ensures s code))

pub returns-in-Look-clause-free : goal.returns-in-Look-clause-free
returns-in-Look-clause-free c = λ free s code.
    free_by (standing_of s code c.args.local.now) Look (c.in-Look.ensures s code) (λ e. cc) (λ e. cc) (sym (c.if-is_due.ensures s code))
