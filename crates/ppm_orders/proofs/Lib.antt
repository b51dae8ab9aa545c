-- How orders and tasks are shown. What `read_task` answers where there is nothing to run is an answer of each command, with a plan or a schedule, a
-- program or a case (`OrdersLemmas`) or a RAM (`RamTaskLemmas`), and so is an answer of what was read; each takes the command's own causes as a
-- parameter. A text is of a RAM or has a fault (`RamTextLemmas`). A text has an answer with each schedule, if it has one by the items of each that is
-- accepted (`ScheduledLemmas`).

pub mod OrdersLemmas
pub mod RamTextLemmas
pub mod RamTaskLemmas
pub mod ScheduledLemmas
