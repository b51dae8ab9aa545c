-- The pieces of a plan or a schedule.
use Rattle.std.specs.Prelude.{ℕ, if◌then◌else◌, List, [], codes}
use Rattle.std.specs.Str.{bytes_eq}
use Rattle.ppm_pieces.specs.Pieces.{split}

-- what stands between its commas, or nothing, which is written `none`
abbrev pub pieces_of : List ℕ → List (List ℕ)
pieces_of text = if bytes_eq text (codes "none") then [] else split 44 text
