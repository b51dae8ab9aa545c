-- What tells the same of each turn.
use Rattle.std.proofs.Common.{◌≡◌, ◌∙◌, Bool, true, false, ◌&&◌, if◌then◌else◌, List, [], ◌∷◌, ◌++◌, ℕ, refl, ap}
use Rattle.ppm_core.specs.Situation.{Situation, turned}
use Rattle.ppm_lines.specs.Line.{line_text}
use Rattle.ppm_lines.specs.Shown.{is_shown}
use Rattle.ppm_lines.specs.declared.shown.Only.{Only}
use Rattle.ppm_naming.specs.declared.names.Names.{Names}
use Rattle.ppm_step.specs.declared.turn.Turn.{Turn}
use Rattle.ppm_trace.specs.Laws.{thinned_line}
use Rattle.ppm_trace.specs.Trace.{along_turns, is_told, shown_line}

-- what tells the same of each turn tells the same of all
along_alike : (one two : Situation → Turn → List ℕ) → ((m : Situation) (turn : Turn) → one m turn ≡ two m turn)
    → (m : Situation) (turns : List Turn) → along_turns one m turns ≡ along_turns two m turns
along_alike one two same m [] = refl
along_alike one two same m (turn ∷ turns) =
    ap (λ line. line ++ along_turns one (turned m turn) turns) (same m turn)
    ∙ ap (λ rest. two m turn ++ rest) (along_alike one two same (turned m turn) turns)

-- a line that is told and shown
thins : (told shows : Bool) (line : List ℕ) → (if told && shows then line else []) ≡ (if shows then (if told && true then line else []) else [])
thins true true line = refl
thins true false line = refl
thins false true line = refl
thins false false line = refl

pub thinner : (names : Names) (only : Only) (from : ℕ) (m : Situation) (turns : List Turn)
    → along_turns (shown_line names only from) m turns ≡ along_turns (thinned_line names only from) m turns
thinner names only from =
    along_alike (shown_line names only from) (thinned_line names only from)
    (λ m turn. thins (is_told from m) (is_shown m.shape m.code only m.state turn)
    (line_text names m.array_lengths m.shape m.code m.turns m.state turn))
