-- How the text is shown: names are listed up to one more (`NameLemmas`), and lines are written up to one more (`TextLemmas`, and those of
-- `ppm_lines`). Marks become more (`MarkLemmas`), along a path (`PathLemmas`) and along lists (`ListLemmas`); `RouteLemmas` has what a scene adds.
pub mod NameLemmas
pub mod TextLemmas
pub mod MarkLemmas
pub mod PathLemmas
pub mod ListLemmas
pub mod RouteLemmas
