-- Arrows between lanes, and the marks at an act.
use Rattle.std.specs.Prelude.{ℕ, ◌+◌, ◌-◌, ◌==◌, nat_le, nat_lt, if◌then◌else◌, List, [], ◌∷◌, ◌++◌, codes, decimal}
use Rattle.std.specs.List.{flat_map}
use Rattle.ppm_picture.specs.Strokes.{Drawn}
use Rattle.ppm_lines.specs.declared.mark.Mark.{Mark}
use Rattle.ppm_lines.specs.declared.mark.Mark.TheVariants as mark
use Rattle.ppm_picture.specs.Canvas.{lane, middle}
use Rattle.ppm_picture.specs.declared.arrow.Arrow.{Arrow}
use Rattle.ppm_picture.specs.declared.arrow.Arrow.TheVariants.{Theft, Takeover}
use Rattle.ppm_picture.specs.declared.canvas.Canvas.{Canvas}

-- the classes of an arrow's line, and of its ends
abbrev pub line_class : Arrow → List ℕ
line_class Theft = codes "a"
line_class Takeover = codes "o"

abbrev pub end_class : Arrow → List ℕ
end_class Theft = codes "q"
end_class Takeover = codes "r"

-- an upright line
abbrev pub upright : (class : List ℕ) (x start end : ℕ) → List ℕ
upright class x start end =
    codes "<path class=\"" ++ class ++ codes "\" d=\"M" ++ decimal x ++ codes " " ++ decimal start ++ codes "V" ++ decimal end ++ codes "\"/>\n"

-- a disc, by its class and its radius
abbrev pub disc : (class : List ℕ) (x y radius : ℕ) → List ℕ
disc class x y radius =
    codes "<circle class=\"" ++ class ++ codes "\" cx=\"" ++ decimal x ++ codes "\" cy=\"" ++ decimal y
    ++ codes "\" r=\"" ++ decimal radius ++ codes "\"/>\n"

-- a path that begins at a point
abbrev pub path_from : (class : List ℕ) (x y : ℕ) (path : List ℕ) → List ℕ
path_from class x y path =
    codes "<path class=\"" ++ class ++ codes "\" d=\"M" ++ decimal x ++ codes " " ++ decimal y ++ path ++ codes "\"/>\n"

-- a line with a bright edge, and a disc where it starts
abbrev pub shaft : Arrow → (x start end : ℕ) → List ℕ
shaft arrow x start end = upright (codes "b") x start end ++ upright (line_class arrow) x start end ++ disc (end_class arrow) x start 340

-- a shaft with a head: down from a lane, or up from it
abbrev pub downward : Arrow → (x source target : ℕ) → List ℕ
downward arrow x source target =
    shaft arrow x (lane source + 2400) (lane target - 800) ++ path_from (end_class arrow) x (lane target) (codes "l-450 -800h900z")

abbrev pub upward : Arrow → (x source target : ℕ) → List ℕ
upward arrow x source target =
    shaft arrow x (lane source) (lane target + 2400 + 800) ++ path_from (end_class arrow) x (lane target + 2400) (codes "l-450 800h900z")

-- from a lane to another, down or up
abbrev pub arrow_text : Arrow → (x source target : ℕ) → List ℕ
arrow_text arrow x source target =
    if source == target then []
    else (if nat_lt source target then downward arrow x source target else upward arrow x source target)

-- the number of the place that is taken over, on the side from which the arrow comes
abbrev pub place_label : (x y place : ℕ) → List ℕ
place_label x y place =
    codes "<text class=\"t r\" x=\"" ++ decimal (x + 600) ++ codes "\" y=\"" ++ decimal y ++ codes "\">place " ++ decimal place ++ codes "</text>\n"

abbrev pub label_height : (source target : ℕ) → ℕ
label_height source target = if nat_lt source target then lane target - 1500 else lane target + 4500

-- a takeover of a place
abbrev pub takeover_text : (x source target : ℕ) → List ℕ
takeover_text x source target = arrow_text Takeover x source target ++ place_label x (label_height source target) source

-- what leads from a lane to an act with a mark in another
abbrev pub mark_arrow : (x source target : ℕ) → Mark → List ℕ
mark_arrow x source target mark.Won = arrow_text Theft x source target
mark_arrow x source target mark.Heir = arrow_text Takeover x source target
mark_arrow x source target mark.Carries = takeover_text x source target
mark_arrow x source target _ = []

-- a cross, by its class and its size, from its upper left end
abbrev pub cross : (class : List ℕ) (x y size : ℕ) → List ℕ
cross class x y size =
    codes "<path class=\"" ++ class ++ codes "\" d=\"M" ++ decimal x ++ codes " " ++ decimal y ++ codes "l" ++ decimal size
    ++ codes " " ++ decimal size ++ codes "m0 -" ++ decimal size ++ codes "l-" ++ decimal size ++ codes " " ++ decimal size ++ codes "\"/>\n"

-- a processor that died: its lane is dotted from here on
abbrev pub dotted : (x y : ℕ) → List ℕ
dotted x y = codes "<path class=\"d\" d=\"M" ++ decimal x ++ codes " " ++ decimal y ++ codes "H90400\"/>\n"

-- a fork, and the branches at its join
abbrev pub fine_sign : (x y : ℕ) → Mark → List ℕ
fine_sign x y mark.Fork = path_from (codes "f") x (y - 150) (codes "l-420 -750h840z")
fine_sign x y mark.First = disc (codes "y") x (y + 3000) 330
fine_sign x y mark.Last = disc (codes "z") x (y + 3000) 390
fine_sign x y mark.Inline = disc (codes "z") x (y + 3000) 390
fine_sign x y _ = []

-- where 10,000 acts are shown at most
abbrev pub fine_where_few : (acts x y : ℕ) → Mark → List ℕ
fine_where_few acts x y sign = if nat_le acts 10000 then fine_sign x y sign else []

-- a mark at an act in a lane
abbrev pub mark_sign : (acts x y : ℕ) → Mark → List ℕ
mark_sign acts x y mark.Lost = cross (codes "a") (x - 300) (y + 2700) 600
mark_sign acts x y mark.Soft = cross (codes "x") (x - 800) (y + 400) 1600
mark_sign acts x y mark.Hard = cross (codes "x") (x - 1200) y 2400 ++ dotted (x + 1600) (y + 1200)
mark_sign acts x y sign = fine_where_few acts x y sign

module _ (canvas : Canvas) where
  -- the arrows to acts in a row, the first of which comes after so many
  abbrev pub arrows_from : (act : ℕ) → List Drawn → List ℕ
  arrows_from act [] = []
  arrows_from act (drawn ∷ more) = flat_map (mark_arrow (middle canvas act) drawn.source drawn.processor) drawn.marks ++ arrows_from (act + 1) more

  -- and their marks
  abbrev pub signs_from : (act : ℕ) → List Drawn → List ℕ
  signs_from act [] = []
  signs_from act (drawn ∷ more) =
      flat_map (mark_sign canvas.acts (middle canvas act) (lane drawn.processor)) drawn.marks ++ signs_from (act + 1) more
