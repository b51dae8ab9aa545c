-- How the laws are shown. The first of the longest runs is as long as equal words stand in front,
-- so a text is written run by run (`RunLemmas`); a run in front of others that begin with another
-- word is one of the longest. A place is renewed by three stores, of which each is seen in one cell
-- (`RenewalLemmas`). A text tells its state, since each part ends where its bytes do (`TellLemmas`).

pub mod RunLemmas
pub mod RenewalLemmas
pub mod TellLemmas
