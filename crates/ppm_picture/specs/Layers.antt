-- The layers of a picture: all that is painted in one colour is one path. Where acts overlap, the later layer shows.
use Rattle.std.specs.Prelude.{ℕ, ◌+◌, ◌==◌, nat_le, if◌then◌else◌, Bool, false, List, [], ◌∷◌, ◌++◌, Option, Some, None, codes, decimal}
use Rattle.std.specs.List.{flat_map}
use Rattle.ppm_picture.specs.Strokes.{Drawn}
use Rattle.ppm_lines.specs.declared.edge.Edge.{Edge}
use Rattle.ppm_lines.specs.declared.edge.Edge.TheVariants.{Begins, Ends, Stays}
use Rattle.ppm_picture.specs.declared.paint.Paint.{Paint}
use Rattle.ppm_picture.specs.declared.paint.Paint.TheVariants.{Placing, Looking, Running, Forking, Stealing, TakingOver}
use Rattle.ppm_picture.specs.Canvas.{across, lane, width}
use Rattle.ppm_picture.specs.declared.canvas.Canvas.{Canvas}

-- all layers, the lowest first
abbrev pub layers : List Paint
layers =
    Placing ∷ Looking ∷ Running 0 ∷ Running 1 ∷ Running 2 ∷ Running 3 ∷ Running 4 ∷ Running 5 ∷ Running 6 ∷ Running 7
    ∷ Forking ∷ Stealing ∷ TakingOver ∷ []

-- how many lie under that of a paint
abbrev pub depth_of : Paint → ℕ
depth_of Placing = 0
depth_of Looking = 1
depth_of (Running procedure) = 2 + procedure
depth_of Forking = 10
depth_of Stealing = 11
depth_of TakingOver = 12

-- the class by which the style gives it its colour
abbrev pub class_text : Paint → List ℕ
class_text Placing = codes "back"
class_text Looking = codes "seek"
class_text (Running procedure) = codes "c" ++ decimal procedure
class_text Forking = codes "sched"
class_text Stealing = codes "steal"
class_text TakingOver = codes "over"

-- whether something is painted so
abbrev pub is_within : (layer : Paint) → Option Paint → Bool
is_within layer None = false
is_within layer (Some paint) = depth_of paint == depth_of layer

-- an end of a row: a thin line
abbrev pub end_by : (x y : ℕ) → Edge → List ℕ
end_by x y Begins = []
end_by x y Ends = codes "M" ++ decimal x ++ codes " " ++ decimal y ++ codes "v2400"
end_by x y Stays = []

module _ (canvas : Canvas) where
  -- an act in a layer: a line as thick as the lane
  abbrev pub span_text : (act : ℕ) → Drawn → List ℕ
  span_text act drawn =
      codes "M" ++ decimal (across canvas act) ++ codes " " ++ decimal (lane drawn.processor + 1200)
      ++ codes "h" ++ decimal (width canvas act)

  abbrev pub span_of : (layer : Paint) (act : ℕ) → Drawn → List ℕ
  span_of layer act drawn = if is_within layer drawn.paint then span_text act drawn else []

  -- those of acts in a row, the first of which comes after so many
  abbrev pub spans_from : (layer : Paint) (act : ℕ) → List Drawn → List ℕ
  spans_from layer act [] = []
  spans_from layer act (drawn ∷ more) = span_of layer act drawn ++ spans_from layer (act + 1) more

  -- a layer, and all of them
  abbrev pub layer_text : List Drawn → (layer : Paint) → List ℕ
  layer_text drawn layer = codes "<path class=\"" ++ class_text layer ++ codes "\" d=\"" ++ spans_from layer 0 drawn ++ codes "\"/>\n"

  abbrev pub layers_text : List Drawn → List ℕ
  layers_text drawn = codes "<g class=\"s\">\n" ++ flat_map (layer_text drawn) layers ++ codes "</g>\n"

  -- the ends of rows
  abbrev pub end_of : (act : ℕ) → Drawn → List ℕ
  end_of act drawn = end_by (across canvas act + width canvas act) (lane drawn.processor) drawn.edge

  abbrev pub ends_from : (act : ℕ) → List Drawn → List ℕ
  ends_from act [] = []
  ends_from act (drawn ∷ more) = end_of act drawn ++ ends_from (act + 1) more

  -- in one path, where 1,200 acts are shown at most
  abbrev pub row_ends : List Drawn → List ℕ
  row_ends drawn = if nat_le canvas.acts 1200 then codes "<path class=\"k\" d=\"" ++ ends_from 0 drawn ++ codes "\"/>\n" else []
