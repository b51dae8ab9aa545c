-- What a line is told from but for its turn, and what lies in frames and blocks.
use Rattle.std.specs.Prelude.{ℕ, ◌+◌, slice_get, slice_index, List, Option, Some, None, Bool, true, false}
use Rattle.ppm_cells.specs.Link.{link_of}
use Rattle.ppm_cells.specs.declared.link.Link.{Link}
use Rattle.ppm_cells.specs.declared.link.LinkKind.{LinkKind}
use Rattle.ppm_cells.specs.declared.link.LinkKind.TheVariants.{Root, Call, Branch, Fork}
use Rattle.ppm_cells.specs.declared.shape.Shape.{Shape}
use Rattle.ppm_code.specs.Sizes.{slots_in}
use Rattle.ppm_code.specs.declared.code.Capsule.{Capsule}
use Rattle.ppm_code.specs.declared.code.CodeParts.{CodeParts}
use Rattle.ppm_naming.specs.declared.names.Names.{Names}

-- the names of the source, the lengths of its arrays, the machine's sizes, its code, and its words before the turn
pub record Scene : Type 0 where
  pub names : Names
  pub lengths : List ℕ
  pub shape : Shape
  pub code : CodeParts
  pub words : List ℕ

-- the word at an address; 0 past the last one
abbrev pub word_at : Scene → (at : ℕ) → ℕ
word_at scene at = slice_index scene.words at

-- the number of a capsule's procedure
abbrev pub procedure_in : Option Capsule → Option ℕ
procedure_in None = None
procedure_in (Some capsule) = Some capsule.procedure

-- the procedure of a frame: that of the capsule in its first header, if there is such a capsule
abbrev pub procedure_of : Scene → (frame : ℕ) → Option ℕ
procedure_of scene frame = procedure_in (slice_get scene.code.capsules (word_at scene (frame + 2)))

-- how many words a frame of a procedure has: six, and its slots
abbrev pub size_with : CodeParts → (procedure : Option ℕ) → ℕ
size_with code None = 6
size_with code (Some procedure) = 6 + slots_in (slice_get code.procedures procedure)

abbrev pub size_of : Scene → (frame : ℕ) → ℕ
size_of scene frame = size_with scene.code (procedure_of scene frame)

-- the link of a frame or a block, where its first word is one
abbrev pub link_at : Scene → (block : ℕ) → Option Link
link_at scene block = link_of (word_at scene block)

-- whether a block is one of a fork
abbrev pub is_fork_kind : LinkKind → Bool
is_fork_kind Root = false
is_fork_kind (Call frame copy) = false
is_fork_kind (Branch side block) = false
is_fork_kind (Fork frame copy) = true

abbrev pub is_fork_link : Option Link → Bool
is_fork_link None = false
is_fork_link (Some link) = is_fork_kind link.kind

abbrev pub is_fork_block : Scene → (block : ℕ) → Bool
is_fork_block scene block = is_fork_link (link_at scene block)
