-- The names of a saved state, and what its lines are told from.
use Rattle.std.specs.Prelude.{ℕ, List, length, map}
use Rattle.std.specs.List.{range_with_len}
use Rattle.ppm_cells.specs.declared.shape.Shape.{Shape}
use Rattle.ppm_code.specs.declared.code.CodeParts.{CodeParts}
use Rattle.ppm_lines.specs.Scene.{Scene}
use Rattle.ppm_naming.specs.declared.names.Names.{Names}
use Rattle.ppm_naming.specs.declared.names.ProcedureName.TheVariants.{Numbered}
use Rattle.ppm_saved.specs.declared.names.NamedLength.{NamedLength}

-- arrays have the names that the state tells, and procedures have numbers alone
abbrev pub saved_names : List NamedLength → CodeParts → Names
saved_names arrays code = record {
  arrays = map (λ a. a.name) arrays;
  procedures = map Numbered (range_with_len 0 (length code.procedures));
}

-- a saved state with its names
abbrev pub scene_of : Shape → List NamedLength → (lengths : List ℕ) → CodeParts → (words : List ℕ) → Scene
scene_of shape arrays lengths code words = record {
  names = saved_names arrays code;
  lengths = lengths;
  shape = shape;
  code = code;
  words = words;
}
