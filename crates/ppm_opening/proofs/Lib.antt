-- How the law is shown. What `ppm_layout` says of the keeper's frame and of the array words is,
-- field by field, what `ppm_depth` says of its first strand and its first words; by cells, after the
-- last array word both have 0 (`ShownLemmas`).

mod RegionLemmas
mod Theorem
mod ShownLemmas
