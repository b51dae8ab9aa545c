-- The law of addresses. What is found at an address lies there, by cases over the tests of `addressed`. That a cell is found
-- at its own address follows, since cells of one address are one cell (`cells_are_the_words` of `ppm_cells`).

pub mod AddressLemmas
