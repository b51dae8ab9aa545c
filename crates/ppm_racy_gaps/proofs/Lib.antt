-- How the check is shown. A conflict is one of the code with a put in place of each exchange, or an
-- exchange after which a path comes to a put or an exchange (`ConflictLemmas`). The latter are
-- searched from the first place on (`RepeatLemmas`); of both the first is the first flaw
-- (`FirstLemmas`). A code has one first flaw, or none (`FlawLemmas`).

mod CodeLemmas
mod ConflictLemmas
mod FirstLemmas
mod FlawLemmas
mod RepeatLemmas
