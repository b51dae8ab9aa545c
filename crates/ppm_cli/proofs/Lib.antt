-- How the command is shown. A value of an option is an `Option` in the definition
-- (`Words.number_given`: clap's text, if it is in the range), so nothing has to be shown of what a
-- parse leaves.
-- The getter's lemma (`OptionLemmas.number_read`) is generic in name, low and high. Getters are one
-- a form, each by one law over `OptionRule`.
-- Clap's laws hold of any table (`TableLemmas`, by induction over the arguments), so a new row
-- takes no proof.
-- clap takes any text for a choice and `--name=-x`; the definitions narrow both (`choice_in`,
-- `text_in`).
-- That the options of whatever command are in their ranges, also where memory is refused, is
-- `RangeLemmas.is_in_range`, which `ppm_top` cites.

pub mod ApplicationLemmas
pub mod OptionLemmas
pub mod TableLemmas
pub mod WordsLemmas
pub mod RangeLemmas
