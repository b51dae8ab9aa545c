-- What a listener keeps of a turn.
use Rattle.std.specs.Prelude.{ℕ, List, [], ◌∷◌}
use Rattle.ppm_core.specs.Situation.{Situation}
use Rattle.ppm_lines.specs.Marks.{listed, marks_of}
use Rattle.ppm_lines.specs.declared.mark.Mark.{Mark}
use Rattle.ppm_step.specs.declared.turn.Turn.{Turn}
use Rattle.ppm_calls.specs.declared.recorder.HeardAct.{HeardAct}

-- an act: how many there were before, whose it is and what, and its marks
pub record ShownAct : Type 0 where
  pub number : ℕ
  pub turn : Turn
  pub marks : List Mark

-- that of a turn, by the machine before it
abbrev pub act_at : Situation → Turn → List ShownAct
act_at m turn = record { number = m.turns; turn = turn; marks = marks_of m.shape m.code m.state turn } ∷ []

-- as it was kept
abbrev pub shown_act : HeardAct → ShownAct
shown_act act = record { number = act.number; turn = act.turn; marks = listed act.marks }
