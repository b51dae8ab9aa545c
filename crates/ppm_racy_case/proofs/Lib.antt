-- How the reader is shown to be exact. The arrays are those of `ppm_case`, whose lemmas say where reading them ends; what stands after them is a
-- listing with exchanges, or has a first fault (`ReadLemmas`). So a text has one case or one fault (`LawLemmas`).

mod BoundLemmas
mod ReadLemmas
mod LawLemmas
