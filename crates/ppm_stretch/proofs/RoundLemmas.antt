-- A round of a frame: the beginning of a capsule, and the capsule gone through behind it.
use Rattle.std.proofs.Common.{◌≡◌, ◌+◌, ◌≤◌, ℕ, true, false, List, Option, Some, arith}
use Rattle.std.specs.Prelude.{slice_get}
use Rattle.ppm_cells.specs.declared.shape.Shape.{Shape}
use Rattle.ppm_code.specs.declared.code.Capsule.{Capsule}
use Rattle.ppm_code.specs.declared.code.CodeParts.{CodeParts}
use Rattle.ppm_step.specs.declared.frame.Home.{Home}
use Rattle.ppm_step.specs.declared.row.Seat.{Seat}
use Rattle.ppm_table.specs.declared.view.Opening.{Opening}
use Rattle.ppm_table.specs.Run.{Mine}
use Rattle.ppm_words.specs.declared.event.Event.{Event}
use Rattle.ppm_stretch.specs.declared.way.Halt.{Halt}
use Rattle.ppm_stretch.specs.declared.way.Halt.TheVariants.{Done, Broken, Midway, Stopped, Full}
use Rattle.ppm_stretch.specs.declared.way.Way.{Way}
use Rattle.ppm_stretch.specs.declared.way.Way.TheVariants.{Made, Stops, Breaks, Refused}
use Rattle.ppm_stretch.specs.Entering.{Circled, halt_behind, looks_at}
use Rattle.ppm_stretch.specs.Steady.{Moves, LedTo}
use Rattle.ppm_stretch.proofs.SteadyLemmas.{moves_then, refuses_then, no_looks}

module _ {W : Type 0} (told : W → Option (List Event)) where
  -- the steps of a capsule behind the two of its beginning
  pub begun_then : (k : Opening) (own : ℕ) (a b c : Mine) (w0 w1 w2 : W) (made : ℕ) → Moves told k own a b w0 w1 2 1 0 false
      → Moves told k own b c w1 w2 made made 0 false → Moves told k own a c w0 w2 (made + 2) (made + 1) 0 false
  begun_then k own a b c w0 w1 w2 made f g =
      let first : 2 + made ≡ made + 2 = omega arith in
      let second : 1 + made ≡ made + 1 = omega arith in
      moves_then told k own a b c w0 w1 w2 2 made 1 made 0 0 (made + 2) (made + 1) 0 first second (no_looks made) f g

  -- where it halts then
  pub circled_along : (k : Opening) (s : Shape) (code : CodeParts) (seat : Seat) (home : Home) (number : ℕ) (capsule : Capsule) (registers : List ℕ) (a b c : Mine) (w0 w1 w2 : W)
      (n most made : ℕ) (way : Way) → slice_get code.capsules number ≡ Some capsule → 2 + n ≤ most → Moves told k seat.own a b w0 w1 2 1 0 false
      → LedTo told k s code seat home capsule.instrs registers b c w1 w2 n made way
      → Circled told k s code seat home registers a c w0 w2 most (made + 2) (made + 1) (halt_behind number way)
  circled_along k s code seat home number capsule registers a b c w0 w1 w2 n most made (Made at) is within f led =
      (omega arith, begun_then k seat.own a b c w0 w1 w2 made f led.0, (capsule, is, led.1))
  circled_along k s code seat home number capsule registers a b c w0 w1 w2 n most made (Stops next what) is within f led =
      (omega arith, begun_then k seat.own a b c w0 w1 w2 made f led.0, (capsule, is, led.1))
  circled_along k s code seat home number capsule registers a b c w0 w1 w2 n most made Breaks is within f led =
      (omega arith, begun_then k seat.own a b c w0 w1 w2 made f led.0, led.1)
  circled_along k s code seat home number capsule registers a b c w0 w1 w2 n most made Refused is within f led =
      refuses_then told k seat.own a b c w0 w1 w2 2 1 0 true n most within f led

-- at most one look
pub looks_few : (halt : Halt) → looks_at halt ≤ 1
looks_few Done = omega arith
looks_few Broken = omega arith
looks_few (Midway number at) = omega arith
looks_few (Stopped number next what) = omega arith
looks_few (Full number) = omega arith
