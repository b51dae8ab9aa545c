-- The ruler under a picture, and its empty lanes.
use Rattle.std.specs.Prelude.{ℕ, ◌+◌, ◌-◌, ◌*◌, ◌/◌, ◌^◌, ◌≤◌, nat_le, if◌then◌else◌, List, [], ◌∷◌, ◌++◌, codes, decimal}
use Rattle.std.specs.List.{flat_map, range_with_len}
use Rattle.ppm_picture.specs.Arrows.{upright}
use Rattle.ppm_picture.specs.Canvas.{across, bottom, lane}
use Rattle.ppm_picture.specs.Markup.{grouped}
use Rattle.ppm_picture.specs.declared.canvas.Canvas.{Canvas}

-- how many acts may lie between two ticks
abbrev pub distances : List ℕ
distances =
    1 ∷ 2 ∷ 5 ∷ 10 ∷ 20 ∷ 50 ∷ 100 ∷ 200 ∷ 500 ∷ 1000 ∷ 2000 ∷ 5000 ∷ 10000 ∷ 20000 ∷ 50000 ∷ 100000 ∷ []

-- a distance that there can be
pub record Fits (distance : ℕ) : Type 0 where
  pub some : 1 ≤ distance
  pub few : distance ≤ 2 ^ 40

-- the first of these by which twelve go over all acts; all acts where there is none
abbrev pub distance_among : List ℕ → (acts : ℕ) → ℕ
distance_among [] acts = acts
distance_among (distance ∷ more) acts = if nat_le acts (12 * distance) then distance else distance_among more acts

-- what the ruler counts, at a height
abbrev pub ruler_label : (y : ℕ) → List ℕ
ruler_label y = codes "<text class=\"t u\" x=\"900\" y=\"" ++ decimal y ++ codes "\">acts</text>\n"

-- a number stands in the middle under its tick; near the right edge it ends there, so that the picture doesn't cut it
abbrev pub tick_opening : (x : ℕ) → List ℕ
tick_opening x = if nat_le x 88300 then codes "<text class=\"t u m\" x=\"" else codes "<text class=\"t u e\" x=\""

module _ (canvas : Canvas) where
  -- the number of a tick, under the last lane
  abbrev pub tick_label : (x act : ℕ) → List ℕ
  tick_label x act =
      tick_opening x ++ decimal x ++ codes "\" y=\"" ++ decimal (bottom canvas + 1500) ++ codes "\">" ++ grouped act ++ codes "</text>\n"

  -- a tick at so many distances from the run's first act
  abbrev pub tick_text : (distance number : ℕ) → List ℕ
  tick_text distance number =
      let act = number * distance in
      let x = across canvas (act - canvas.from) in
      upright (codes "g") x 5600 (bottom canvas) ++ tick_label x act

  -- the ticks from the first act that is shown to the end of the last one
  abbrev pub ticks_by : (distance : ℕ) → List ℕ
  ticks_by distance =
      let first = (canvas.from + distance - 1) / distance in
      flat_map (tick_text distance) (range_with_len first ((canvas.from + canvas.acts) / distance + 1 - first))

  abbrev pub ruler_text : List ℕ
  ruler_text = ticks_by (distance_among distances canvas.acts) ++ ruler_label (bottom canvas + 1500)

-- an empty lane
abbrev pub lane_text : (processor : ℕ) → List ℕ
lane_text processor =
    codes "<rect class=\"lane\" x=\"6400\" y=\"" ++ decimal (lane processor) ++ codes "\" width=\"84000\" height=\"2400\"/>"
    ++ codes "<text class=\"t e\" x=\"5700\" y=\"" ++ decimal (lane processor + 1650) ++ codes "\">p" ++ decimal processor ++ codes "</text>\n"

abbrev pub lanes_text : (processors : ℕ) → List ℕ
lanes_text processors = flat_map lane_text (range_with_len 0 processors)
