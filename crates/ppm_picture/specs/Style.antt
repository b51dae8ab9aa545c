-- The style of a picture: the colours of its classes, in light and in dark.
use Rattle.std.specs.Prelude.{ℕ, List, ◌++◌, codes}

abbrev pub style_text : List ℕ
style_text =
    codes "<style>svg{background:#fff}.t{font:1300px Helvetica,Arial,'DejaVu Sans',sans-serif;fill:#222}"
    ++ codes ".h{font-size:1500px;font-weight:bold}.u{fill:#667}.m{text-anchor:middle}.e{text-anchor:end}\n"
    ++ codes ".lane{fill:#f4f5f7}.g{stroke:#d5d8de;stroke-width:50}path{fill:none}.s path{stroke-width:2400}\n"
    ++ codes ".s .seek{stroke:#d9dde3;stroke-width:900}.c0{stroke:#4477aa;fill:#4477aa}"
    ++ codes ".c1{stroke:#ddaa33;fill:#ddaa33}.c2{stroke:#228833;fill:#228833}.c3{stroke:#66ccee;fill:#66ccee}"
    ++ codes ".c4{stroke:#997755;fill:#997755}.c5{stroke:#aadd99;fill:#aadd99}.c6{stroke:#bb88cc;fill:#bb88cc}"
    ++ codes ".c7{stroke:#99aabb;fill:#99aabb}\n.back{stroke:#f2a6a6;fill:#f2a6a6}"
    ++ codes ".sched{stroke:#555b66;fill:#555b66}.steal{stroke:#ee7733;fill:#ee7733}"
    ++ codes ".over{stroke:#aa3377;fill:#aa3377}.seek{fill:#d9dde3}\n"
    ++ codes ".k{stroke:#fff;stroke-width:60;stroke-opacity:.75}.f,.z{fill:#222}"
    ++ codes ".y{fill:#fff;stroke:#222;stroke-width:120}\n.a{stroke:#cc5500;stroke-width:160}.q{fill:#cc5500}"
    ++ codes ".o{stroke:#aa3377;stroke-width:180;stroke-dasharray:500 300}.r{fill:#aa3377}"
    ++ codes ".b{stroke:#fff;stroke-width:340;opacity:.6}\n.x{stroke:#cc1122;stroke-width:260}"
    ++ codes ".d{stroke:#cc1122;stroke-width:100;stroke-dasharray:200 400;opacity:.7}"
    ++ codes ".n{stroke:#222;stroke-width:100}\n@media(prefers-color-scheme:dark){svg{background:#14161a}"
    ++ codes ".t{fill:#dfe3ea}.u{fill:#98a0ad}.lane{fill:#1d2026}.g{stroke:#333842}.s .seek{stroke:#333943}"
    ++ codes ".seek{fill:#333943}.sched{stroke:#8a92a0;fill:#8a92a0}.c0{stroke:#6699dd;fill:#6699dd}\n"
    ++ codes ".k,.b{stroke:#14161a}.f,.z{fill:#e8ebf0}.y{fill:#14161a;stroke:#e8ebf0}.a{stroke:#ff9955}"
    ++ codes ".q{fill:#ff9955}.o{stroke:#dd77bb}.r{fill:#dd77bb}.x{stroke:#ff5566}.n{stroke:#e8ebf0}}"
    ++ codes "</style>\n"
