use Rattle.std.proofs.Common.{◌∙◌, sym}
use Rattle.ppm_saved_reader.proofs.HeadLemmas.{version_read, version_other, version_none}
use Rattle.ppm_saved_reader.proofs.heading.read_version.Goals as goal

-- the version
pub returns-then-same_bytes-clause-ok : goal.returns-then-same_bytes-clause-ok
returns-then-same_bytes-clause-ok c =
    version_read c.args.text.now c.in-Some.line.now c.in-Some.rest.now c.in-Some.ensures.halves (sym c.same_bytes.ensures ∙ c.if-same_bytes.true)

-- another line, or none
pub returns-else-same_bytes-clause-err : goal.returns-else-same_bytes-clause-err
returns-else-same_bytes-clause-err c =
    version_other c.args.text.now c.in-Some.line.now c.in-Some.rest.now c.in-Some.ensures.halves (sym c.same_bytes.ensures ∙ c.if-same_bytes.false)

pub returns-in-None-clause-err : goal.returns-in-None-clause-err
returns-in-None-clause-err c = version_none c.args.text.now c.in-None.ensures.halves
