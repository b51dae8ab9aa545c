-- How a capsule of a frame begins.
use Rattle.std.proofs.Common.{◌≡◌, ◌≢◌, ◌∙◌, ◌<◌, ◌+◌, ℕ, zero, suc, true, false, Option, Some, None, sym, refl, ap}
use Rattle.ppm_cells.specs.declared.restart.Restart.{Restart}
use Rattle.ppm_cells.specs.declared.restart.RestartKind.{RestartKind}
use Rattle.ppm_cells.specs.declared.restart.RestartKind.TheVariants.{Run}
use Rattle.ppm_cells.specs.declared.shape.Shape.{Shape}
use Rattle.ppm_code.specs.declared.code.Capsule.{Capsule}
use Rattle.ppm_code.specs.declared.code.CodeParts.{CodeParts}
use Rattle.ppm_step.specs.declared.row.Seat.{Seat}
use Rattle.ppm_step.specs.declared.turn.Next.{Next}
use Rattle.ppm_step.specs.declared.turn.Next.TheVariants.{Work, Look, Seek}
use Rattle.ppm_step.specs.Standings.{IsAt, IsWithin, IsDone, enters, at_finish}
use Rattle.ppm_step.specs.Locals.{IsHeaderOf}
use Rattle.ppm_step.specs.State.{before_kind, step_of}
use Rattle.ppm_step.specs.Told.{is_work_next}
use Rattle.ppm_step.specs.declared.ask.Want.TheVariants.{Loads}
use Rattle.ppm_step.specs.declared.row.Point.TheVariants.{Header}
use Rattle.ppm_step.specs.declared.row.Row.TheVariants.{Now}
use Rattle.ppm_step.specs.declared.row.Then.TheVariants.{Load}
use Rattle.ppm_table.specs.declared.view.Opening.{Opening}
use Rattle.ppm_table.specs.Run.{stands_by, deeds_in, deed_by, seen, Mine, IsSeat}
use Rattle.ppm_stretch.specs.Steady.{Goes}
use Rattle.ppm_stretch.proofs.SteadyLemmas.{goes_one, running_lives}

pub seeks_no : (kind : RestartKind) → before_kind kind ≡ Look → before_kind kind ≢ Seek
seeks_no kind is e = let x : Look ≡ Seek = sym is ∙ e in cc

pub works_not : (s : Shape) (code : CodeParts) (kind : RestartKind) → before_kind kind ≡ Look → is_work_next s code (before_kind kind) ≡ false
works_not s code kind is = ap (λ (n : Next). is_work_next s code n) is

pub works : (s : Shape) (code : CodeParts) (kind : RestartKind) (frame copy : ℕ) → kind ≡ Run frame copy → is_work_next s code (step_of kind) ≡ true
works s code kind frame copy is = ap (λ (k : RestartKind). is_work_next s code (step_of k)) is

pub works_on : (kind : RestartKind) (frame copy : ℕ) → kind ≡ Run frame copy → step_of kind ≢ Seek
works_on kind frame copy is e = let x : Work ≡ Seek = sym (ap step_of is) ∙ e in cc

run_lives : (s : Shape) (code : CodeParts) (seat : Seat) (frame copy : ℕ) (capsule : Option Capsule) → enters s code seat (Run frame copy) capsule ≢ IsDone
run_lives s code seat frame copy None = λ e. cc
run_lives s code seat frame copy (Some capsule) = running_lives s seat _

pub enters_lives : (s : Shape) (code : CodeParts) (seat : Seat) (kind : RestartKind) (frame copy : ℕ) (capsule : Option Capsule) → kind ≡ Run frame copy
    → enters s code seat kind capsule ≢ IsDone
enters_lives s code seat kind frame copy capsule is e = run_lives s code seat frame copy capsule (sym (ap (λ (k : RestartKind). enters s code seat k capsule) is) ∙ e)

pub finish_is_over : (s : Shape) (code : CodeParts) (own place : ℕ) (restart : Option Restart) (n : ℕ) → n ≢ 0 → at_finish s code own place restart n ≡ IsDone
finish_is_over s code own place restart zero h = absurd (h refl)
finish_is_over s code own place restart (suc n) h = refl

pub header_lives : (s : Shape) (code : CodeParts) (seat : Seat) (header found : ℕ) → IsHeaderOf s seat header → found ≡ 0
    → at_finish s code seat.own seat.place (Some seat.restart) found ≢ IsDone
header_lives s code seat header found h none e =
    let x : IsWithin seat (Now (Load (Header h.frame h.copy))) ≡ IsDone =
    sym (h.begins_with code) ∙ sym (ap (λ (n : ℕ). at_finish s code seat.own seat.place (Some seat.restart) n) none) ∙ e in cc

-- the load of the finish word is a look
pub finish_goes : (k : Opening) (seat : Seat) (me me' : Mine) (found : ℕ) → before_kind seat.restart.kind ≡ Look → 0 < k.shape.processors
    → IsAt seat.place (Some seat.restart) ≡ stands_by k seat.own (deeds_in me.0) → IsSeat seat.own me → me' ≡ (seen me.0 (deed_by (Loads 0) found), me.1) → Goes k seat.own me me' 1 0 1 false
finish_goes k seat me me' found looks some at sits made =
    goes_one k seat.own false me me' (Loads 0) found (IsAt seat.place (Some seat.restart)) at sits (λ e. cc) refl (seeks_no seat.restart.kind looks) some refl tt
    (works_not k.shape k.code seat.restart.kind looks) made

-- that of the header is work
pub header_goes : (k : Opening) (seat : Seat) (frame copy header : ℕ) (me me' : Mine) (found : ℕ) → seat.restart.kind ≡ Run frame copy → header ≡ frame + 2 + copy → 0 < k.shape.processors
    → IsWithin seat (Now (Load (Header frame copy))) ≡ stands_by k seat.own (deeds_in me.0) → IsSeat seat.own me → me' ≡ (seen me.0 (deed_by (Loads header) found), me.1)
    → Goes k seat.own me me' 1 1 0 false
header_goes k seat frame copy header me me' found kind is_at some at sits made =
    goes_one k seat.own true me me' (Loads header) found (IsWithin seat (Now (Load (Header frame copy)))) at sits (λ e. cc) refl (works_on seat.restart.kind frame copy kind) some
    (ap (λ (n : ℕ). Loads n) (sym is_at)) tt (works k.shape k.code seat.restart.kind frame copy kind) made
