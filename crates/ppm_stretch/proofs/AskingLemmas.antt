-- A capsule of a frame that asks for the words of a block.
use Rattle.std.proofs.Common.{false, true, ◌≡◌, ◌∙◌, ◌<◌, ◌+◌, ◌≤◌, ℕ, Bool, List, Option, Some, refl, sym, ap}
use Rattle.std.specs.Prelude.{slice_get}
use Rattle.std.proofs.lemmas.Bool.{lt-ltb}
use Rattle.ppm_cells.specs.declared.shape.Shape.{Shape}
use Rattle.ppm_code.specs.declared.act.Step.TheVariants.{Asks}
use Rattle.ppm_code.specs.declared.code.Capsule.{Capsule}
use Rattle.ppm_code.specs.declared.code.CodeParts.{CodeParts}
use Rattle.ppm_step.specs.declared.frame.Home.{Home}
use Rattle.ppm_step.specs.declared.local.Local.{Local}
use Rattle.ppm_step.specs.declared.local.Stand.{Stand}
use Rattle.ppm_step.specs.declared.local.Stand.TheVariants.{Runs}
use Rattle.ppm_step.specs.declared.row.Seat.{Seat}
use Rattle.ppm_step.specs.declared.running.Running.{Running}
use Rattle.ppm_step.specs.declared.running.Stage.{Stage}
use Rattle.ppm_step.specs.declared.running.Stage.TheVariants.{Before}
use Rattle.ppm_step.specs.Frames.{Rest}
use Rattle.ppm_step.specs.Locals.{IsLocal, standing_at, standing_of}
use Rattle.ppm_step.specs.Stages.{rest_at}
use Rattle.ppm_step.specs.Standings.{Standing, IsRunning, running, running_if}
use Rattle.ppm_table.specs.declared.view.Opening.{Opening}
use Rattle.ppm_table.specs.Run.{Mine}
use Rattle.ppm_words.specs.declared.event.Event.{Event}
use Rattle.ppm_stretch.specs.declared.way.Way.{Way}
use Rattle.ppm_stretch.specs.declared.way.Way.TheVariants.{Made, Stops, Breaks, Refused}
use Rattle.ppm_stretch.specs.Asking.{HasFilled, asking, rest_asking}
use Rattle.ppm_stretch.specs.Entering.{halt_behind}
use Rattle.ppm_stretch.specs.Steady.{Moves, LedTo}
use Rattle.ppm_stretch.proofs.EndingLemmas.{under_way_of}
use Rattle.ppm_stretch.proofs.SteadyLemmas.{moves_then, refuses_then, no_looks}

pub stands_asking : (s : Shape) (seat : Seat) (words : ℕ) (go : ℕ → Rest) (st : Standing) → seat.place < s.processors → st ≡ running s seat (asking s seat words go)
    → IsRunning seat (asking s seat words go) ≡ st
stands_asking s seat words go st within stands =
    sym (stands ∙ ap (λ (b : Bool). running_if seat (asking s seat words go) b) (lt-ltb seat.place s.processors within))

-- where a processor stands by its registers
pub stands_at_ask : (s : Shape) (code : CodeParts) (local : Local) (under_way : Running) (words : ℕ) → local.stand ≡ Runs under_way → under_way.stage ≡ Before (Asks words) → IsLocal s code local
    → standing_of s code local ≡ running s under_way.seat (rest_asking s code under_way.seat under_way.home under_way.capsule under_way.next words local.registers)
stands_at_ask s code local under_way words is stage h =
    let rest = rest_at s code under_way under_way.stage local.registers in
    ap (λ (stand : Stand). standing_at s code local.registers stand) is
    ∙ sym (ap (λ (b : Bool). running_if under_way.seat rest b) (under_way_of s code local under_way is h).0.is_there)
    ∙ ap (λ (x : Stage). running s under_way.seat (rest_at s code under_way x local.registers)) stage

module _ {W : Type 0} (told : W → Option (List Event)) where
  -- the steps of a capsule behind the load of the room counter
  pub filled_along : (k : Opening) (s : Shape) (code : CodeParts) (seat : Seat) (home : Home) (number : ℕ) (capsule : Capsule) (registers : List ℕ) (a b c : Mine) (w0 w1 w2 : W)
      (n most made : ℕ) (way : Way) → slice_get code.capsules number ≡ Some capsule → 1 + n ≤ most → Moves told k seat.own a b w0 w1 1 1 0 false
      → LedTo told k s code seat home capsule.instrs registers b c w1 w2 n made way
      → HasFilled told k s code seat home registers a c w0 w2 most (1 + made) (halt_behind number way)
  filled_along k s code seat home number capsule registers a b c w0 w1 w2 n most made (Made at) is within f led =
      (moves_then told k seat.own a b c w0 w1 w2 1 made 1 made 0 0 (1 + made) (1 + made) 0 refl refl (no_looks made) f led.0, (capsule, is, led.1))
  filled_along k s code seat home number capsule registers a b c w0 w1 w2 n most made (Stops next what) is within f led =
      (moves_then told k seat.own a b c w0 w1 w2 1 made 1 made 0 0 (1 + made) (1 + made) 0 refl refl (no_looks made) f led.0, (capsule, is, led.1))
  filled_along k s code seat home number capsule registers a b c w0 w1 w2 n most made Breaks is within f led =
      (moves_then told k seat.own a b c w0 w1 w2 1 made 1 made 0 0 (1 + made) (1 + made) 0 refl refl (no_looks made) f led.0, led.1)
  filled_along k s code seat home number capsule registers a b c w0 w1 w2 n most made Refused is within f led =
      refuses_then told k seat.own a b c w0 w1 w2 1 1 0 true n most within f led
