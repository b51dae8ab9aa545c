-- How the laws are shown. Each push says `Appends tokens old new`, so bodies of up to six `?` prove
-- with no file.
-- The printed tokens derive by a record `Stands` in continuation form (whatever follows), a row in
-- one line of `row`, `take`, `done`.
-- The longest token in front of a blank is one lemma: no token has a byte up to 32.

pub mod Appending
pub mod SpellingLemmas
pub mod LexingLemmas
pub mod Reading
pub mod Fine
pub mod FineLemmas
pub mod FormLemmas
pub mod ExpressionsAgain
pub mod CallsAgain
pub mod StatementsAgain
pub mod DeclarationsAgain
pub mod ProgramsAgain
pub mod BareLemmas
pub mod Theorem
