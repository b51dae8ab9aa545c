-- How the command is shown. The answer of a text is that of its fault or of its case (`CaseAnswers`), of a case its first store that is not tidy or that
-- of tidy codes (`TidyAnswers`); runs that are alike have one (`RunAnswers`), and so
-- by a schedule a text has one (`OneAnswer`), and by draws (`OneDrawnAnswer`). The rows follow (`OfStrands`, `OfDrawn`).

pub mod CaseAnswers
mod TidyAnswers
pub mod RunAnswers
pub mod OneAnswer
pub mod OneDrawnAnswer
pub mod OfStrands
pub mod OfDrawn
