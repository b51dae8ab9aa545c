use Rattle.ppm_trace.specs.TellingLaws.{along_both, counts_both}
use Rattle.ppm_trace.specs.Trace.{shown_line}
use Rattle.ppm_trace.proofs.laws.lines_follow_on.Goals as goal

-- line by line
pub returns-clause-lines : goal.returns-clause-lines
returns-clause-lines c names only from m first more = along_both (shown_line names only from) m first more

-- count by count
pub returns-clause-counts : goal.returns-clause-counts
returns-clause-counts c from n m first more = counts_both from n m first more
