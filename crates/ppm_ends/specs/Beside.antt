-- Strands whose capsules have the stores of their ends after them, each with a home of its own.
use Rattle.std.specs.Prelude.{◌≡◌, ℕ}
use Rattle.ppm_strands.specs.Tree.{Tree}
use Rattle.ppm_strands.specs.Beside.{AreBeside}
use Rattle.ppm_strands.specs.Calm.{Calm}
use Rattle.ppm_strands.specs.Capsule.{Capsule, Writes, Memory, store}
use Rattle.ppm_strands.specs.EndStores.{with_end_stores_in}
use Rattle.ppm_strands.specs.Stopped.{Stands}
use Rattle.ppm_strands.specs.Strand.{Shared, Frame, Table, IsClean, MayBeginAgain, shared_of, frame_of, code_of}
use Rattle.ppm_code.specs.Locations.{Where, code_locations}
use Rattle.ppm_code.specs.Strands.{Point, Result, table_of}
use Rattle.ppm_code.specs.declared.act.End.{End}
use Rattle.ppm_code.specs.declared.code.CodeParts.{CodeParts}
use Rattle.ppm_code.specs.declared.location.FrameWord.{FrameWord}
use Rattle.ppm_step.specs.declared.frame.Home.{Home}
use Rattle.ppm_ends.specs.Ends.{tails_of}

-- the table of a code for the frames with this home
abbrev pub long_table : CodeParts → (array_words : ℕ) → Home → Table FrameWord ℕ Point End Result
long_table code array_words home = with_end_stores_in code_locations (table_of code array_words) (tails_of code (λ point. home))

-- What a strand's capsule has done stands while a strand beside it in a calm tree stores into a
-- shared word, though both store at their ends for homes of their own, so that no one table has
-- both.
abbrev pub BesideKeepsWithStores : Type 0
BesideKeepsWithStores = (code : CodeParts) (array_words : ℕ) (here there : Home) (t : Tree (Frame FrameWord Point) Result) (j k : Point) (x v : ℕ)
    (go rest : Capsule Where End) (m n : Memory Where)
    → Calm (code_of code_locations (table_of code array_words)) t (shared_of m)
    → AreBeside t (frame_of j n) (frame_of k m)
    → shared_of n ≡ shared_of m
    → MayBeginAgain code_locations (long_table code array_words there) j n
    → Stands code_locations ((long_table code array_words there).capsule j) (Writes (Shared x) v go) n
    → MayBeginAgain code_locations (long_table code array_words here) k m
    → Stands code_locations ((long_table code array_words here).capsule k) rest m
    → MayBeginAgain code_locations (long_table code array_words here) k (store code_locations m (Shared x) v)
    × Stands code_locations ((long_table code array_words here).capsule k) rest (store code_locations m (Shared x) v)
    × (IsClean code_locations (long_table code array_words here) k m
    → IsClean code_locations (long_table code array_words here) k (store code_locations m (Shared x) v))
