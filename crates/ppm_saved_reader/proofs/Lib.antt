-- How the reader is shown to be exact. Bytes are cut at a separator in one way (`LineLemmas`), so a line of a form is spelled in one way, and each
-- line that is written has its form (`FormLemmas`). What was read up to a place is what is written of it, with arrays and words by the rules
-- (`NameLemmas`, `CountLemmas`, `SpelledLemmas`). From a place reading goes on in one way or stops in one (`PlaceLemmas`), so two ways to a wrong
-- line are one; and the text of a state is read to its end, where nothing is wrong (`WrittenLemmas`). That text is never too long (`LengthLemmas`).
-- A text that is wrong nowhere is read to its end, and so is that of a state (`StableLemmas`, `CoverLemmas`). What the functions keep of this stands
-- in `HeadLemmas`, `LoopLemmas` and `ExitLemmas`.

pub mod OptionLemmas
pub mod LineLemmas
pub mod FormLemmas
pub mod PlaceLemmas
pub mod CountLemmas
pub mod NameLemmas
pub mod SpelledLemmas
pub mod WrittenLemmas
pub mod LengthLemmas
pub mod StableLemmas
pub mod CoverLemmas
pub mod HeadLemmas
pub mod FrontLemmas
pub mod LoopLemmas
pub mod ExitLemmas
