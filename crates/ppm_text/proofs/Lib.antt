-- How the scanner is shown. The longest token is a statement about all prefixes
-- (`Spelling.Longest`).
-- `SpellingLemmas` and `ScanLemmas` join it to the runs that the scanner takes, and to the tokens
-- that are told by length, byte by byte.

pub mod BytesLemmas
pub mod SpellingLemmas
pub mod LexingLemmas
pub mod ScanLemmas
pub mod ReadingLemmas
