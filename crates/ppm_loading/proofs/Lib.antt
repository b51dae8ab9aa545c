-- How what commands share is shown. The image of a program's code has the words that `OpensRun` asks
-- for (`LoadingLemmas`). The answers of texts go by those of programs (`ProgramLemmas`), or
-- by those of cases (`CaseLemmas`), and the answers and rows of a command with a plan by those of its items (`PlannedLemmas`): each takes the
-- command's own causes as a parameter. What a finish word says: `SayLemmas`; what its arrays are:
-- `ArrayLemmas`; how many lines a code has: `LineLemmas`; that it has one first untidy store: `FirstStore`; that it is
-- tidy where it has none: `TidyLemmas`.

pub mod SayLemmas
pub mod PlannedLemmas
pub mod ProgramLemmas
pub mod CaseLemmas
pub mod CaseInputLemmas
pub mod LoadingLemmas
pub mod ArrayLemmas
pub mod LineLemmas
pub mod FirstStore
pub mod TidyLemmas
