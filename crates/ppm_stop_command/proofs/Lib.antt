-- How stops and resumes are shown. The arrays that an admitted program starts with have names of their own, none of them a keyword (`NamesLemmas`), and
-- so have those of a case (`CaseNamesLemmas`). So `stop` may name them in a saved text, and from that text the state is read back, if the code may be
-- resumed (`ReadBackLemmas`). After a run a code has one answer of `stop`, the text of the machine there (`StopLemmas`), which makes its laws
-- (`OneStop`, `OneStopCase`) and its rows (`OfStop`, `OfStopCase`) by the lemmas of `ppm_loading` on texts and plans.
-- The rows of `resume` are those of the sound code that left the state, by the lemmas of `ppm_outcomes`, and of the program by its code (`OfResume`, and with counts `OfCountedResume`);
-- with turns and room enough what goes on ends (`CompleteLegsOfCode`). What `stop` wrote is such a state's text (`StoppedLemmas`), of a sound case too
-- (`CaseStoppedLemmas`).

pub mod CompleteLegsOfCode
pub mod OfResume
pub mod OfCountedResume
pub mod StoppedLemmas
pub mod CaseStoppedLemmas
pub mod NamesLemmas
pub mod CaseNamesLemmas
pub mod StopLemmas
pub mod ReadBackLemmas
pub mod OneStop
pub mod OfStop
pub mod OneStopCase
pub mod OfStopCase
