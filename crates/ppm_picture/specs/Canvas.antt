-- Where things stand in a picture, in hundredths of a pixel: acts from left to right, a lane for each processor.
use Rattle.std.specs.Prelude.{ℕ, ◌+◌, ◌-◌, ◌*◌, ◌/◌, ◌≤◌, ◌^◌, max, min}
use Rattle.ppm_picture.specs.declared.canvas.Canvas.{Canvas}

-- a picture shows an act at least, and it shows, and comes after, no more than a run is asked for
pub record IsCanvas (canvas : Canvas) : Type 0 where
  pub some : 1 ≤ canvas.acts
  pub few : canvas.acts ≤ 2 ^ 40
  pub near : canvas.from ≤ 2 ^ 40

-- the edges of the lanes
abbrev pub left_edge : ℕ
left_edge = 6400

abbrev pub right_edge : ℕ
right_edge = 90400

-- the top of a processor's lane
abbrev pub lane : (processor : ℕ) → ℕ
lane processor = 6200 + 6000 * processor

module _ (canvas : Canvas) where
  -- where an act stands, by how many before it are shown
  abbrev pub across : (act : ℕ) → ℕ
  across act = left_edge + act * 84000 / canvas.acts

  -- how wide an act is of a processor that acts in turn with all others
  abbrev pub stride : ℕ
  stride = max (canvas.processors * 84000 / canvas.acts) 1

  -- it is cut at the right edge
  abbrev pub width : (act : ℕ) → ℕ
  width act = min stride (right_edge - across act)

  -- where the marks of an act stand: in the middle of what is drawn of it
  abbrev pub middle : (act : ℕ) → ℕ
  middle act = across act + width act / 2

  -- what comes after the last lane
  abbrev pub bottom : ℕ
  bottom = lane canvas.processors
