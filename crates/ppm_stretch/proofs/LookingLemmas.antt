-- The loads by which a place looks for a job.
use Rattle.std.proofs.Common.{◌≡◌, ◌≢◌, ◌∙◌, ◌<◌, ◌+◌, ◌≤◌, ℕ, Bool, true, false, not, List, Option, sym, refl, ap, subst, arith}
use Rattle.ppm_cells.specs.Cells.{address}
use Rattle.ppm_cells.specs.declared.restart.RestartKind.{RestartKind}
use Rattle.ppm_cells.specs.declared.restart.RestartKind.TheVariants.{Seek}
use Rattle.ppm_cells.specs.declared.shape.Shape.{Shape}
use Rattle.ppm_code.specs.declared.code.CodeParts.{CodeParts}
use Rattle.ppm_engine.proofs.MakingLemmas.{stands_lives}
use Rattle.ppm_ports.specs.Told.{KeepsList}
use Rattle.ppm_words.specs.declared.event.Event.{Event}
use Rattle.ppm_step.specs.Points.{cell_at}
use Rattle.ppm_step.specs.Facts.{IsPoint, IsSeat as IsPlace}
use Rattle.ppm_step.specs.Locals.{IsLocal, StandsFor, standing_at, standing_of}
use Rattle.ppm_step.specs.Standings.{IsWithin, IsDone, point_is_there, stands, within_if}
use Rattle.ppm_step.specs.State.{step_of}
use Rattle.ppm_step.specs.Told.{is_work_next}
use Rattle.ppm_step.specs.declared.ask.Want.TheVariants.{Loads}
use Rattle.ppm_step.specs.declared.local.Local.{Local}
use Rattle.ppm_step.specs.declared.local.Stand.{Stand}
use Rattle.ppm_step.specs.declared.local.Stand.TheVariants.{Within}
use Rattle.ppm_step.specs.declared.row.Point.{Point}
use Rattle.ppm_step.specs.declared.row.Row.{Row}
use Rattle.ppm_step.specs.declared.row.Row.TheVariants.{Now}
use Rattle.ppm_step.specs.declared.row.Seat.{Seat}
use Rattle.ppm_step.specs.declared.row.Then.{Then}
use Rattle.ppm_step.specs.declared.row.Then.TheVariants.{Load}
use Rattle.ppm_step.specs.declared.turn.Next.{Next}
use Rattle.ppm_step.specs.declared.turn.Next.TheVariants.{Look, Seek as Seeks}
use Rattle.ppm_table.specs.declared.view.Opening.{Opening}
use Rattle.ppm_table.specs.Run.{stands_by, deeds_in, deed_by, seen, Mine, IsSeat}
use Rattle.ppm_table.proofs.StandLemmas.{stands_on}
use Rattle.ppm_stretch.specs.Looking.{IsLooking, row_after}
use Rattle.ppm_stretch.specs.Steady.{Goes, Lives, Moves, Refuses}
use Rattle.ppm_stretch.proofs.SteadyLemmas.{goes_one, refuses_one, refuses_then}

pub fine_is : (b : Bool) → not b ≡ false → b ≡ true
fine_is true e = refl
fine_is false e = cc

pub fine_not : (b : Bool) → not b ≡ true → b ≡ false
fine_not true e = cc
fine_not false e = refl

-- the steps of a Seek are looks, and none of them is the load of the finish word before one
works_not : (s : Shape) (code : CodeParts) (kind : RestartKind) → kind ≡ Seek → is_work_next s code (step_of kind) ≡ false
works_not s code kind is = ap (λ (k : RestartKind). is_work_next s code (step_of k)) is

seeks_not : (kind : RestartKind) → kind ≡ Seek → step_of kind ≢ Seeks
seeks_not kind is e = let x : Look ≡ Seeks = sym (ap step_of is) ∙ e in cc

-- one of these loads is a look, which leads where the row says
pub looks_one : (k : Opening) (s : Shape) (code : CodeParts) → k.shape ≡ s → k.code ≡ code → (place : Seat) (own : ℕ) → place.restart.kind ≡ Seek → 0 < s.processors
    → (point : Point) → IsLooking s place point → (me me' : Mine) (at found : ℕ) → at ≡ address s (cell_at place 0 point) → IsSeat own me
    → stands_by k own (deeds_in me.0) ≡ IsWithin place (Now (Load point)) → me' ≡ (seen me.0 (deed_by (Loads at) found), me.1)
    → Goes k own me me' 1 0 1 false × (stands_by k own (deeds_in me'.0) ≡ stands s code place (row_after s place point found))
looks_one k s code shape code_is place own kind some point looks me me' at found is_at sits there made =
    let standing = IsWithin place (Now (Load point)) in (
      goes_one k own false me me' (Loads at) found standing (sym there) sits (λ e. cc) looks.due (seeks_not place.restart.kind kind)
          (subst (λ (t : Shape). 0 < t.processors) (sym shape) some)
          (ap (λ (t : Shape). Loads (address t (cell_at place 0 point))) shape ∙ ap (λ (n : ℕ). Loads n) (sym is_at)) tt
          (works_not k.shape k.code place.restart.kind kind) made,
      sym (stands_on k s code shape code_is own 0 me me' (Loads at) found standing (sym there) sits (some, λ _. refl) (ap (λ (n : ℕ). Loads n) (sym is_at)) tt tt made),
    )

-- after it the processor is still to take a step
pub look_lives : (k : Opening) (s : Shape) (code : CodeParts) (place : Seat) (own : ℕ) (point : Point) (me me' : Mine) (found : ℕ)
    → Goes k own me me' 1 0 1 false × (stands_by k own (deeds_in me'.0) ≡ stands s code place (row_after s place point found)) → Lives k own me' true
look_lives k s code place own point me me' found (goes, there) = (goes.sits, λ done. stands_lives s code place (row_after s place point found) (sym there ∙ done))

-- a watcher has refused to be told of it, after others
pub look_refused : {W : Type 0} (told : W → Option (List Event)) (k : Opening) (own : ℕ) (a b c : Mine) (w0 w1 w2 : W) (made most : ℕ) → made < most
    → Moves told k own a b w0 w1 made 0 made false → Goes k own b c 1 0 1 false → KeepsList (told w1) (told w2) → Lives k own c true
    → Refuses told k own a c w0 w2 true most
look_refused told k own a b c w0 w1 w2 made most few moves goes keeps lives =
    refuses_then told k own a b c w0 w1 w2 made 0 made true 1 most (omega (arith, few)) moves
    (refuses_one told k own b c w1 w2 0 1 false true 1 (omega arith) moves.goes.sits goes keeps lives)

-- a row that goes on with another one of them stands before it
pub stands_at : (s : Shape) (code : CodeParts) (place : Seat) (next : Point) → IsLooking s place next
    → stands s code place (Now (Load next)) ≡ IsWithin place (Now (Load next))
stands_at s code place next looks = ap (λ (b : Bool). within_if place (Now (Load next)) b) looks.there

-- what holds of a processor that stands before a load
pub within_of : (s : Shape) (code : CodeParts) (local : Local) (seat : Seat) (row : Row) (next : Then) (point : Point) → local.stand ≡ Within seat row → row ≡ Now next
    → next ≡ Load point → IsLocal s code local
    → IsPlace s seat × (seat.own ≡ local.own) × IsPoint point × (point_is_there s seat point ≡ true) × (standing_of s code local ≡ IsWithin seat (Now (Load point)))
within_of s code local seat row next point stand row_is next_is h =
    let at : local.stand ≡ Within seat (Now (Load point)) = stand ∙ ap (λ (r : Row). Within seat r) row_is ∙ ap (λ (t : Then). Within seat (Now t)) next_is in
    let facts = subst (λ (x : Stand). StandsFor s code local.own local.registers x) at h.stand in
    (facts.0, facts.1, facts.2, facts.3, ap (λ (x : Stand). standing_at s code local.registers x) at)
