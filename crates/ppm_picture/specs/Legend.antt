-- The legend of a picture: the first eight procedures by their colours, and what never changes.
use Rattle.std.specs.Prelude.{ℕ, ◌+◌, List, [], ◌∷◌, ◌++◌, take, codes, decimal}
use Rattle.ppm_naming.specs.declared.names.Names.{Names}
use Rattle.ppm_naming.specs.declared.names.ProcedureName.{ProcedureName}
use Rattle.ppm_naming.specs.declared.names.ProcedureName.TheVariants.{Named, EachOf, Numbered}
use Rattle.ppm_picture.specs.Canvas.{bottom}
use Rattle.ppm_picture.specs.declared.canvas.Canvas.{Canvas}

-- how a procedure is called there
abbrev pub label_text : ProcedureName → List ℕ
label_text (Named name) = name
label_text (EachOf line) = codes "each of line " ++ decimal line
label_text (Numbered number) = codes "proc:" ++ decimal number

-- a procedure, after a square of its colour
abbrev pub label_at : (number : ℕ) → ProcedureName → List ℕ
label_at number name = codes "<tspan class=\"c" ++ decimal number ++ codes "\" dx=\"900\">&#9632;</tspan> " ++ label_text name

-- those of procedures in a row, the first of which comes after so many
abbrev pub labels_from : (number : ℕ) → List ProcedureName → List ℕ
labels_from number [] = []
labels_from number (name ∷ names) = label_at number name ++ labels_from (number + 1) names

-- what the other colours and the marks are
abbrev pub key_text : List ℕ
key_text =
    codes "<rect class=\"sched\" x=\"0\" y=\"5050\" width=\"1600\" height=\"1200\"/><text class=\"t\" x=\"2000\" y=\"6100\">fork and join</text>\n"
    ++ codes "<rect class=\"steal\" x=\"12200\" y=\"5050\" width=\"1600\" height=\"1200\"/><text class=\"t\" x=\"14200\" y=\"6100\">stealing</text>\n"
    ++ codes "<rect class=\"over\" x=\"21500\" y=\"5050\" width=\"1600\" height=\"1200\"/><text class=\"t\" x=\"23500\" y=\"6100\">taking over</text>\n"
    ++ codes "<rect class=\"seek\" x=\"32800\" y=\"5050\" width=\"1600\" height=\"1200\"/><text class=\"t\" x=\"34800\" y=\"6100\">looking for work</text>\n"
    ++ codes "<rect class=\"back\" x=\"47600\" y=\"5050\" width=\"1600\" height=\"1200\"/><text class=\"t\" x=\"49600\" y=\"6100\">finding its place</text>\n"
    ++ codes "<text class=\"t u\" x=\"62400\" y=\"6100\">empty: not scheduled, or done</text>\n"
    ++ codes "<path class=\"f\" d=\"M800 8150l-420 -750h840z\"/><text class=\"t\" x=\"2000\" y=\"8200\">fork</text>\n"
    ++ codes "<circle class=\"y\" cx=\"7000\" cy=\"7750\" r=\"330\"/><text class=\"t\" x=\"8200\" y=\"8200\">first at its join</text>\n"
    ++ codes "<circle class=\"z\" cx=\"20500\" cy=\"7750\" r=\"390\"/><text class=\"t\" x=\"21700\" y=\"8200\">last, goes on</text>\n"
    ++ codes "<path class=\"a\" d=\"M32000 7750h1100\"/><circle class=\"q\" cx=\"32000\" cy=\"7750\" r=\"340\"/>"
    ++ codes "<path class=\"q\" d=\"M33900 7750l-800 -450v900z\"/><text class=\"t\" x=\"34600\" y=\"8200\">theft</text>\n"
    ++ codes "<path class=\"a\" d=\"M40000 7450l600 600m0 -600l-600 600\"/><text class=\"t\" x=\"41200\" y=\"8200\">theft lost</text>\n"
    ++ codes "<path class=\"x\" d=\"M49500 7200l1100 1100m0 -1100l-1100 1100\"/><text class=\"t\" x=\"51200\" y=\"8200\">soft fault</text>\n"
    ++ codes "<path class=\"x\" d=\"M59500 7200l1100 1100m0 -1100l-1100 1100\"/><path class=\"d\" d=\"M60800 7750h1300\"/>"
    ++ codes "<text class=\"t\" x=\"62500\" y=\"8200\">hard fault</text>\n"
    ++ codes "<path class=\"o\" d=\"M71500 7750h1300\"/><circle class=\"r\" cx=\"71500\" cy=\"7750\" r=\"340\"/>"
    ++ codes "<path class=\"r\" d=\"M73400 7750l-800 -450v900z\"/><text class=\"t\" x=\"74100\" y=\"8200\">takeover</text>\n"
    ++ codes "</g>\n</svg>\n"

-- the first eight
abbrev pub procedures_text : Names → List ℕ
procedures_text names = labels_from 0 (take 8 names.procedures)

-- the beginning of a legend at a height
abbrev pub legend_head : (y : ℕ) → List ℕ
legend_head y = codes "<g transform=\"translate(6400 " ++ decimal y ++ codes ")\">\n<text class=\"t\" x=\"-900\" y=\"4000\">"

-- the legend, under the lanes, with the end of the picture
abbrev pub legend_text : Canvas → Names → List ℕ
legend_text canvas names = legend_head (bottom canvas) ++ procedures_text names ++ codes "</text>\n" ++ key_text
