-- The rows of all kinds, with takeover by entries.
use Rattle.std.proofs.Common.{◌≡◌, ◌≢◌, ◌<◌, ℕ, List, [], ◌∷◌, true, refl, subst}
use Rattle.std.specs.Prelude.{slice_get}
use Rattle.ppm_cells.specs.Memory.{AreWordsOf}
use Rattle.ppm_cells.specs.declared.restart.RestartKind.{RestartKind}
use Rattle.ppm_cells.specs.declared.restart.RestartKind.TheVariants.{Run, Bump, Push1, Push2, Unwind, Arrive, Join, Pop1, Pop2, Seek, Steal, Check, Take, Take2}
use Rattle.ppm_cells.specs.declared.shape.Shape.{Shape}
use Rattle.ppm_cells.specs.declared.shape.Takeover.TheVariants.{ByEntries}
use Rattle.ppm_code.specs.declared.code.CodeParts.{CodeParts}
use Rattle.ppm_step.specs.Standings.{Standing, IsDone}
use Rattle.ppm_step.specs.State.{stand_in}
use Rattle.ppm_step.specs.There.{restart_is_there}
use Rattle.ppm_step.specs.declared.row.Row.{Row}
use Rattle.ppm_step.specs.declared.row.Row.TheVariants.{Now}
use Rattle.ppm_step.specs.declared.row.Then.TheVariants.{Broken}
use Rattle.ppm_tickets.specs.Homes.{Home}
use Rattle.ppm_tickets.specs.Saw.{rest_of, Saw, IsStrand, HasSeen, Strand, Looks, Carried, Lawful}
use Rattle.ppm_tickets.specs.View.{view, kinds, bottoms, with_restarts}
use Rattle.ppm_tickets.specs.Words.{Word, Spot}
use Rattle.ppm_tickets.proofs.QuietLemmas.{begun_quiet, rest_quiet}
use Rattle.ppm_tickets.proofs.StepLemmas.{RowsKeep, ends, strand_goal, Goal, seat, restart, Stands, Row_}
use Rattle.ppm_tickets.proofs.OwnRows.{push1, push2, pop1, pop2}
use Rattle.ppm_tickets.proofs.ThiefRows.{steal, check, seek}

module _ (base : Shape) (code : CodeParts) where
  abbrev s : Shape
  s = record base { takeover = ByEntries }

  module _ (words : List ℕ) (stand : List Standing) (h : ℕ → Home) (f tk : List ℕ) (fit : AreWordsOf s words) where
    abbrev m : Spot → Word
    m = view s words

    abbrev k : ℕ → RestartKind
    k = kinds s words

    abbrev b : ℕ → ℕ
    b = bottoms s words

    abbrev M : Spot → Word
    M = with_restarts m k b

    module _ (law : Lawful s m k b stand h f tk) (o : ℕ) (live : stand_in (slice_get stand o) ≢ IsDone) where
      module _ (p : ℕ) (carried : Carried s m o p) where
        -- there is nothing to take over
        none : (K : RestartKind) (e : k p ≡ K) (ta : restart_is_there s (restart s code words stand h f tk fit law o live p carried K e) ≡ true) (u : ℕ) (nm : u < s.processors) (v : ℕ) (ws : List Word) → Saw s (seat s code words stand h f tk fit law o live p carried K e) v M (Unit {0}) (Now Broken) ws
            → Goal s code words stand h f tk fit law o live p carried K e ta u nm (rest_of s (seat s code words stand h f tk fit law o live p carried K e) v (Now Broken) ws)
        none K e ta u nm v [] saw = ends s code words stand h f tk fit law o live p carried K e ta u nm
        none K e ta u nm v (w ∷ ws) saw = absurd saw

        -- each kind
        strand : (K : RestartKind) → IsStrand K → Stands s code words stand h f tk fit law o live p carried K
        strand K is e ta u nm v ws af saw = strand_goal s code words stand h f tk fit law o live p carried K e ta u nm (rest_of s (seat s code words stand h f tk fit law o live p carried K e) v (Row_ s code words stand h f tk fit law o live p carried K e) ws) is (rest_quiet (seat s code words stand h f tk fit law o live p carried K e) s v (Row_ s code words stand h f tk fit law o live p carried K e) ws (begun_quiet (seat s code words stand h f tk fit law o live p carried K e) s K refl is))

        by_kind : (K : RestartKind) → Stands s code words stand h f tk fit law o live p carried K
        by_kind (Push1 r) = push1 s code words stand h f tk fit law o live p carried r
        by_kind (Push2 r) = push2 s code words stand h f tk fit law o live p carried r
        by_kind Pop1 = pop1 s code words stand h f tk fit law o live p carried
        by_kind (Pop2 r) = pop2 s code words stand h f tk fit law o live p carried r
        by_kind Seek = seek s code words stand h f tk fit law o live p carried
        by_kind (Steal x i) = steal s code words stand h f tk fit law o live p carried x i
        by_kind (Check x i) = check s code words stand h f tk fit law o live p carried x i
        by_kind (Take x d) = λ e ta u nm v ws af saw. none (Take x d) e ta u nm v ws saw
        by_kind (Take2 x) = λ e ta u nm v ws af saw. none (Take2 x) e ta u nm v ws saw
        by_kind (Run a c) = strand (Run a c) tt
        by_kind (Bump a) = strand (Bump a) tt
        by_kind (Unwind a) = strand (Unwind a) tt
        by_kind (Arrive a c) = strand (Arrive a c) tt
        by_kind (Join a c) = strand (Join a c) tt

        -- a step of a row of this place
        pub row_keeps : (K : RestartKind) (e : k p ≡ K) (ta : restart_is_there s (restart s code words stand h f tk fit law o live p carried K e) ≡ true) (u : ℕ) (nm : u < s.processors) (row : Row) → HasSeen s M (seat s code words stand h f tk fit law o live p carried K e) row → Goal s code words stand h f tk fit law o live p carried K e ta u nm row
        row_keeps K e ta u nm row (Strand is q) = strand_goal s code words stand h f tk fit law o live p carried K e ta u nm row is q
        row_keeps K e ta u nm row (Looks v ws af er saw) = subst (Goal s code words stand h f tk fit law o live p carried K e ta u nm) er (by_kind K e ta u nm v ws af saw)

-- by entries
pub entry_rows : (base : Shape) (code : CodeParts) → RowsKeep (record base { takeover = ByEntries }) code
entry_rows base code words stand h f tk fit law o live p carried = row_keeps base code words stand h f tk fit law o live p carried
