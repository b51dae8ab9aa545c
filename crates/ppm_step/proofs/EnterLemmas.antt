-- A capsule of a frame begins.
use Rattle.std.proofs.Common.{◌≡◌, ℕ, Bool, true, false, sym, ap, ◌∙◌, Option, Some}
use Rattle.std.specs.Prelude.{slice_get, replicate}
use Rattle.ppm_cells.specs.declared.restart.RestartKind.{RestartKind}
use Rattle.ppm_cells.specs.declared.restart.RestartKind.TheVariants.{Run}
use Rattle.ppm_cells.specs.declared.shape.Shape.{Shape}
use Rattle.ppm_code.specs.Capsules.{capsule_from}
use Rattle.ppm_code.specs.Strands.{instrs_in, instrs_of}
use Rattle.ppm_code.specs.declared.code.Capsule.{Capsule}
use Rattle.ppm_code.specs.declared.code.CodeParts.{CodeParts}
use Rattle.ppm_step.specs.declared.frame.Home.{Home}
use Rattle.ppm_step.specs.declared.row.Seat.{Seat}
use Rattle.ppm_step.specs.Frames.{Rest, rest_of}
use Rattle.ppm_step.specs.Standings.{IsRunning, IsBroken, running_if, rest_is_there, enters}

-- with what register work has left, and whether that is there
enters_on : (s : Shape) (code : CodeParts) (seat t : Seat) (frame copy number : ℕ) (c : Capsule) (rest : Rest) (there : Bool)
    → seat.restart.kind ≡ Run frame copy → slice_get code.capsules number ≡ Some c → t ≡ seat
    → rest ≡ rest_of s code seat.place (record { frame = frame; copy = copy; block = 0 })
    (capsule_from s.arrays 0 0 (instrs_of code number) (replicate 64 0))
    → there ≡ rest_is_there s t rest
    → running_if t rest there ≡ enters s code seat seat.restart.kind (slice_get code.capsules number)
enters_on s code seat t frame copy number c rest there kind one same left here =
    let home : Home = record { frame = frame; copy = copy; block = 0 } in
    let begun = λ (o : Option Capsule). rest_of s code seat.place home (capsule_from s.arrays 0 0 (instrs_in o) (replicate 64 0)) in
    let is_rest = left ∙ ap begun one in
    ap (λ (b : Bool). running_if t rest b) here
    ∙ ap (λ (u : Seat). running_if u rest (rest_is_there s u rest)) same
    ∙ ap (λ (r : Rest). running_if seat r (rest_is_there s seat r)) is_rest
    ∙ sym (ap (λ (k : RestartKind). enters s code seat k (slice_get code.capsules number)) kind
    ∙ ap (λ (o : Option Capsule). enters s code seat (Run frame copy) o) one)

-- where it is there, the capsule is under way
pub enters_there : (s : Shape) (code : CodeParts) (seat t : Seat) (frame copy number : ℕ) (c : Capsule) (rest : Rest) (there : Bool)
    → there ≡ true → seat.restart.kind ≡ Run frame copy → slice_get code.capsules number ≡ Some c → t ≡ seat
    → rest ≡ rest_of s code seat.place (record { frame = frame; copy = copy; block = 0 })
    (capsule_from s.arrays 0 0 (instrs_of code number) (replicate 64 0))
    → there ≡ rest_is_there s t rest
    → enters s code seat seat.restart.kind (slice_get code.capsules number) ≡ IsRunning t rest
enters_there s code seat t frame copy number c rest there yes_there kind one same left here =
    sym (enters_on s code seat t frame copy number c rest there kind one same left here) ∙ ap (λ (b : Bool). running_if t rest b) yes_there

-- else words are broken
pub enters_nowhere : (s : Shape) (code : CodeParts) (seat t : Seat) (frame copy number : ℕ) (c : Capsule) (rest : Rest) (there : Bool)
    → there ≡ false → seat.restart.kind ≡ Run frame copy → slice_get code.capsules number ≡ Some c → t ≡ seat
    → rest ≡ rest_of s code seat.place (record { frame = frame; copy = copy; block = 0 })
    (capsule_from s.arrays 0 0 (instrs_of code number) (replicate 64 0))
    → there ≡ rest_is_there s t rest
    → enters s code seat seat.restart.kind (slice_get code.capsules number) ≡ IsBroken seat.place
enters_nowhere s code seat t frame copy number c rest there not_there kind one same left here =
    sym (enters_on s code seat t frame copy number c rest there kind one same left here) ∙ ap (λ (b : Bool). running_if t rest b) not_there
    ∙ ap (λ (u : Seat). IsBroken u.place) same
