-- The ends of arrows between rows: from a fork to the beginning of its right branch, and from the branch that comes to a join first to the one that
-- goes on after it. Who comes first is told as it exchanges the order word, since the other one may go on before it is told by its restart word.
-- Where one strand runs both branches there is no arrow. Blocks are never used again, so each arrow has a number of its own.
use Rattle.std.specs.Prelude.{ℕ, ◌+◌, ◌*◌, ◌==◌, if◌then◌else◌, Bool, List, Option, Some, None, codes}
use Rattle.ppm_cells.specs.Memory.{read}
use Rattle.ppm_cells.specs.declared.restart.RestartKind.{RestartKind}
use Rattle.ppm_cells.specs.declared.restart.RestartKind.TheVariants.{Arrive, Join, Pop1}
use Rattle.ppm_lines.specs.declared.flow.Flow.{Flow}
use Rattle.ppm_lines.specs.declared.flow.Flow.TheVariants.{Forked, Taken, First, Last}
use Rattle.ppm_lines.specs.Scene.{Scene, word_at}
use Rattle.ppm_step.specs.Contents.{word_of}
use Rattle.ppm_step.specs.Standings.{Standing, IsWithin}
use Rattle.ppm_step.specs.declared.row.Row.{Row}
use Rattle.ppm_step.specs.declared.row.Row.TheVariants.{Now, Store, Exchange}
use Rattle.ppm_step.specs.declared.row.Then.{Then}
use Rattle.ppm_step.specs.declared.row.Then.TheVariants.{Install, Fork, Begin}
use Rattle.ppm_step.specs.declared.turn.Act.{Act}
use Rattle.ppm_step.specs.declared.turn.Act.TheVariants.{Step}

-- whether an arrow begins or ends there
abbrev pub flow_phase : Flow → List ℕ
flow_phase (Forked block) = codes "s"
flow_phase (Taken block) = codes "f"
flow_phase (First block) = codes "s"
flow_phase (Last block) = codes "f"

-- what it is called
abbrev pub flow_name : Flow → List ℕ
flow_name (Forked block) = codes "branch"
flow_name (Taken block) = codes "branch"
flow_name (First block) = codes "join"
flow_name (Last block) = codes "join"

-- the number that both its ends have
abbrev pub flow_id : Flow → ℕ
flow_id (Forked block) = 2 * block
flow_id (Taken block) = 2 * block
flow_id (First block) = 2 * block + 1
flow_id (Last block) = 2 * block + 1

-- a branch comes to its join: the first one makes the exchange of the order word
abbrev pub arrived : RestartKind → (made : Bool) → Option Flow
arrived (Arrive block side) made = if made then Some (First block) else None
arrived _ made = None

-- it goes on after the join, unless it pops; where the order word is 3, one strand has run both branches
abbrev pub joined_at : Scene → (block : ℕ) → Option Flow
joined_at scene block = if word_at scene (block + 1) == 3 then None else Some (Last block)

abbrev pub joins : Scene → (block : ℕ) → (installed : RestartKind) → Option Flow
joins scene block Pop1 = None
joins scene block _ = joined_at scene block

-- the store of a restart word, in a row of this kind
abbrev pub flow_installed : Scene → RestartKind → (installed : RestartKind) → Option Flow
flow_installed scene (Join block side) installed = joins scene block installed
flow_installed scene _ installed = None

-- what a row of this kind goes on with
abbrev pub flow_then : Scene → RestartKind → Then → Option Flow
flow_then scene kind (Fork block) = Some (Forked block)
flow_then scene kind (Begin block frame bottom) = Some (Taken block)
flow_then scene kind (Install restart) = flow_installed scene kind restart.kind
flow_then scene kind _ = None

abbrev pub flow_row : Scene → RestartKind → Row → Option Flow
flow_row scene kind (Now next) = flow_then scene kind next
flow_row scene kind (Store cell content next) = None
flow_row scene kind (Exchange cell old new next) = arrived kind (read scene.shape scene.words cell == word_of old)

abbrev pub flow_from : Scene → Standing → Option Flow
flow_from scene (IsWithin seat row) = flow_row scene seat.restart.kind row
flow_from scene _ = None

-- the end of an arrow, if an act of a processor that stands there is one
abbrev pub flow_at : Scene → Act → Standing → Option Flow
flow_at scene (Step victim) standing = flow_from scene standing
flow_at scene _ standing = None
