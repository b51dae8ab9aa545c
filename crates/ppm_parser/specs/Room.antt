-- What may still come, and what that says of what was counted.
use Rattle.std.specs.Prelude.{ℕ, ◌==◌, if◌then◌else◌}
use Rattle.ppm_grammar.specs.Limits.{Tally, Remains}
use Rattle.ppm_tree.specs.Limits.{array_limit, word_limit, procedure_limit, parameter_limit, node_limit}
use Rattle.ppm_rows.specs.Limits.{arrays, words, procedures, elements, limits}
use Rattle.ppm_parser.specs.declared.room.Room.{Room}

-- of each number so much may still come
abbrev pub left : Room → ℕ → ℕ
left r which =
    if which == arrays then r.arrays else
    if which == words then r.words else
    if which == procedures then r.procedures else
    if which == elements then r.elements else
    r.nodes

-- of each number so much was counted that this may still come
abbrev pub Has : Room → Tally → Type 0
Has r c = Remains limits.most (left r) c

-- the room where nothing was counted
abbrev pub whole_room : Room
whole_room = record { arrays = array_limit; words = word_limit; procedures = procedure_limit; elements = parameter_limit; nodes = node_limit }

-- the room with so many more of one number
abbrev pub with_arrays : ℕ → Room → Room
with_arrays n r = record { arrays = n; words = r.words; procedures = r.procedures; elements = r.elements; nodes = r.nodes }

abbrev pub with_words : ℕ → Room → Room
with_words n r = record { arrays = r.arrays; words = n; procedures = r.procedures; elements = r.elements; nodes = r.nodes }

abbrev pub with_procedures : ℕ → Room → Room
with_procedures n r = record { arrays = r.arrays; words = r.words; procedures = n; elements = r.elements; nodes = r.nodes }

abbrev pub with_elements : ℕ → Room → Room
with_elements n r = record { arrays = r.arrays; words = r.words; procedures = r.procedures; elements = n; nodes = r.nodes }

abbrev pub with_nodes : ℕ → Room → Room
with_nodes n r = record { arrays = r.arrays; words = r.words; procedures = r.procedures; elements = r.elements; nodes = n }
