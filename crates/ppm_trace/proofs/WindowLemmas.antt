-- What is told from an act on, and what comes before it.
use Rattle.std.proofs.Common.{◌≡◌, ◌∙◌, Bool, true, false, ◌&&◌, if◌then◌else◌, List, [], ◌∷◌, ◌++◌, ℕ, ◌+◌, ◌≤◌, length, ap, arith, refl, sym}
use Rattle.ppm_core.specs.Situation.{Situation, run_on, turned}
use Rattle.ppm_lines.specs.Line.{line_text}
use Rattle.ppm_lines.specs.Shown.{is_shown}
use Rattle.ppm_lines.specs.declared.shown.Only.{Only}
use Rattle.ppm_naming.specs.declared.names.Names.{Names}
use Rattle.ppm_step.specs.declared.turn.Turn.{Turn}
use Rattle.ppm_trace.specs.TellingLaws.{along_both}
use Rattle.ppm_trace.specs.Trace.{along_turns, is_told, shown_line}

module _ (names : Names) (only : Only) where
  -- the line of a turn, by whether it is told
  abbrev line_if : Situation → Turn → Bool → List ℕ
  line_if m turn told =
      if told && is_shown m.shape m.code only m.state turn
      then line_text names m.array_lengths m.shape m.code m.turns m.state turn else []

  -- no line of turns that all come before the first act that is told
  before : (from : ℕ) (m : Situation) (turns : List Turn) → m.turns + length turns ≤ from
      → along_turns (shown_line names only from) m turns ≡ []
  before from m [] early = refl
  before from m (turn ∷ turns) early =
      let untold : is_told from m ≡ false = grind (arith, early) in
      ap (λ told. line_if m turn told ++ along_turns (shown_line names only from) (turned m turn) turns) untold
      ∙ before from (turned m turn) turns (omega (arith, early))

  -- from the first act that is told on, all lines
  since : (from : ℕ) (m : Situation) (turns : List Turn) → from ≤ m.turns
      → along_turns (shown_line names only from) m turns ≡ along_turns (shown_line names only 0) m turns
  since from m [] late = refl
  since from m (turn ∷ turns) late =
      let told : is_told from m ≡ true = grind (arith, late) in
      let first : is_told 0 m ≡ true = grind arith in
      ap (λ told. line_if m turn told ++ along_turns (shown_line names only from) (turned m turn) turns) told
      ∙ ap (λ told. line_if m turn told ++ along_turns (shown_line names only from) (turned m turn) turns) (sym first)
      ∙ ap (λ rest. shown_line names only 0 m turn ++ rest) (since from (turned m turn) turns (omega (arith, late)))

  pub windows : (from : ℕ) (m : Situation) (first more : List Turn) → m.turns + length first ≡ from
      → along_turns (shown_line names only from) m (first ++ more) ≡ along_turns (shown_line names only 0) (run_on m first) more
  windows from m first more at =
      along_both (shown_line names only from) m first more
      ∙ ap (λ front. front ++ along_turns (shown_line names only from) (run_on m first) more) (before from m first (omega (arith, at)))
      ∙ since from (run_on m first) more (omega (arith, at))
