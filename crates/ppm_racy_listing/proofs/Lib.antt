-- How the reader is shown: with puts in place of exchanges a text is a listing, line by line
-- (`ppm_listing_reader`); a line that was an exchange is a put there, and tells it (`LineLemmas`), so
-- the text is the listing of the code with these exchanges (`WholeLemmas`). The first fault is that
-- of the text with puts, or an old register before it (`WrongLemmas`). Back, the listing of a code is
-- read as it stands (`BackLemmas`).

mod CamLemmas
mod ExchangeLemmas
mod PlainListingLemmas
mod TextLemmas
mod SplitLemmas
pub mod LineLemmas
mod WholeLemmas
mod WrongLemmas
mod BackLemmas
mod LawLemmas
