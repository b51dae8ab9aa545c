-- How the texts are shown. A reading is a nest of functions over halves of bytes, arm by arm the
-- code's, so the code proves with no file; that it is the written text's is a law beside it.
-- Three lemmas on halves carry both ways (`halves_at`, `no_halves` and `halves_back`, over "this
-- list lacks that byte"), and a law on texts is generic in form and spelling (`ReadsItems` of
-- `TextLemmas`): pieces joined again are the text.
-- Plans look up a turn in a `BTreeMap` by (processor, turn); its loop's invariant is "what the
-- table has, with what the items left say, is what all say" (`with_rest` of `specs/Tables`). A step
-- is a case analysis over two booleans, the fault and the fault met (`item_met`).

mod DrawLemmas
mod SourceLemmas
mod ReadingLemmas
mod AnswerLemmas
mod TableLemmas
mod SpellingLemmas
mod PlanItemLemmas
mod ScheduleItemLemmas
pub mod AmongLemmas
mod ActLemmas
mod TextLemmas
mod SaidLemmas
