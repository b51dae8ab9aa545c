-- How a command's clauses are shown. A command that judges a text is a table `Has` of the answers
-- that texts have, and one law that a text has one (`AreJudgements`).
-- `Judged` has the causes and the rows from these two, whatever `Has` is; `WholeText` says that
-- what was read is the text; `Delivered` what a delivery leaves on both ports.
-- `ppm_top` shows faults and words once for all commands (its `OfAll`).

pub mod Delivered
pub mod WholeText
pub mod RowsLemmas
pub mod Judged
