-- A processor that is to stand within a capsule, or to go round.
use Rattle.std.proofs.Common.{◌≡◌, ◌<◌, ℕ, true, length, List, Some, refl, sym, subst, arith}
use Rattle.std.specs.Prelude.{slice_get}
use Rattle.ppm_cells.specs.Fields.{Fit}
use Rattle.ppm_cells.specs.Restart.{IsRestart, address_fields}
use Rattle.ppm_cells.specs.declared.restart.Restart.{Restart}
use Rattle.ppm_cells.specs.declared.restart.RestartKind.{RestartKind}
use Rattle.ppm_cells.specs.declared.restart.RestartKind.TheVariants.{Run}
use Rattle.ppm_cells.specs.declared.shape.Shape.{Shape}
use Rattle.ppm_code.specs.Code.{IsCode}
use Rattle.ppm_code.specs.declared.act.End.{End}
use Rattle.ppm_code.specs.declared.code.Capsule.{Capsule}
use Rattle.ppm_code.specs.declared.code.CodeParts.{CodeParts}
use Rattle.ppm_code.specs.declared.work.Reached.{Reached}
use Rattle.ppm_code.specs.declared.work.Reached.TheVariants.{Before, AtEnd}
use Rattle.ppm_step.specs.declared.frame.Home.{Home}
use Rattle.ppm_step.specs.declared.row.Seat.{Seat}
use Rattle.ppm_step.specs.declared.running.Running.{Running}
use Rattle.ppm_step.specs.Facts.{IsEnd, IsHome, IsSeat}
use Rattle.ppm_step.specs.Frames.{other_copy}
use Rattle.ppm_step.specs.Stages.{IsStage, IsUnderWay, rest_at}
use Rattle.ppm_step.specs.Standings.{rest_is_there}
use Rattle.ppm_step.proofs.EndLemmas.{reached_end}
use Rattle.ppm_engine.specs.Waiting.{HasReached, stage_of}

stage_by : (what : Reached) → ((e : End) → what ≡ AtEnd e → IsEnd e) → IsStage (stage_of what)
stage_by (Before step) h = tt
stage_by (AtEnd e) h = h e refl

pub stage_fits : (s : Shape) (code : CodeParts) → IsCode code → (number next : ℕ) (what : Reached) (registers : List ℕ) (capsule : Capsule)
    → slice_get code.capsules number ≡ Some capsule → HasReached s capsule.instrs next what registers → IsStage (stage_of what)
stage_fits s code is number next what registers capsule get r =
    stage_by what (λ e at. reached_end code is number capsule get s.arrays r.0 next capsule.instrs r.1 registers what e refl r.2 at)

-- the copy that is not in use
round_fits : (frame copy : ℕ) → Fit (address_fields (Run frame copy)) → Fit (address_fields (Run frame (other_copy copy)))
round_fits frame copy f = (f.0, (omega (arith, f.1.0), f.1.1))

pub goes_round_fits : (at : Restart) (frame copy : ℕ) (kind : RestartKind) → at.kind ≡ Run frame copy → kind ≡ Run frame (other_copy copy) → IsRestart at
    → IsRestart (record { kind = kind; bottom = at.bottom })
goes_round_fits at frame copy kind is new h = (
  subst (λ (k : RestartKind). Fit (address_fields k)) (sym new) (round_fits frame copy (subst (λ (k : RestartKind). Fit (address_fields k)) is h.0)),
  h.1,
)

pub under_way : (s : Shape) (code : CodeParts) (running : Running) (seat : Seat) (home : Home) (number next : ℕ) (what : Reached) (registers : List ℕ)
    → running ≡ record { seat = seat; home = home; capsule = number; next = next; stage = stage_of what } → IsSeat s seat → IsHome home → number < length code.capsules
    → IsStage (stage_of what) → rest_is_there s running.seat (rest_at s code running (stage_of what) registers) ≡ true → IsUnderWay s code running registers
under_way s code running seat home number next what registers is is_seat is_home within stage =
    subst (λ (r : Running). rest_is_there s r.seat (rest_at s code r (stage_of what) registers) ≡ true → IsUnderWay s code r registers) (sym is)
    (λ there. record { seat = is_seat; home = is_home; capsule = within; stage = stage; is_there = there })
