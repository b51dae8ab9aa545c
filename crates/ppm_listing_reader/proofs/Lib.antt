-- How the reader is shown. Lines go to parts with no verdict, a fold says what may stand next,
-- definitions over the whole list what is declared; then each rule is a Bool test of one line by
-- (whole code, place).
-- Code and definitions match arm by arm, and nearly all rules prove with no file. Forms are a table
-- of sorts by keyword, with operands read by place by total functions: 30 instructions are
-- straight-line arms, each one `refl`.
-- The rules are tested on a table (`Outline`) whose `Model` is a code with ends for all
-- instructions; `breaks_agrees` says that they hold of the code as well.
-- What is known of a reader is one record over the lines so far (`HasRead`), kept by `take`; the
-- loop over the text is then four lines.

mod WordLemmas
mod FormLemmas
mod LineLemmas
mod SaidLemmas
mod FirstLemmas
mod CleanLemmas
mod CodeLemmas
mod SmallLemmas
mod ReadingLemmas
mod FaultLemmas
mod LawLemmas
pub mod WrittenLemmas
mod PartsLemmas
pub mod NoFaultLemmas
mod OutlineLemmas
mod AgreeLemmas
mod FrontLemmas
mod LongLemmas
