-- What was told is what a trace says.
use Rattle.std.proofs.Common.{◌≡◌, ◌∙◌, List, ◌++◌, ℕ, Some, None, ap}
use Rattle.ppm_core.specs.Situation.{Situation, finish_in, run_on}
use Rattle.ppm_lines.specs.Events.{json_head, json_tail}
use Rattle.ppm_lines.specs.declared.form.Form.TheVariants.{Lines, Events}
use Rattle.ppm_lines.specs.declared.shown.Only.{Only}
use Rattle.ppm_naming.specs.declared.names.Names.{Names}
use Rattle.ppm_step.specs.declared.turn.Turn.{Turn}
use Rattle.ppm_trace.specs.Counts.{no_counts}
use Rattle.ppm_trace.specs.Json.{told_events, trace_events}
use Rattle.ppm_trace.specs.Telling.{HasTold}
use Rattle.ppm_trace.specs.Trace.{along_turns, counts_along, head_text, shown_line, tail_text, trace_text}
use Rattle.ppm_trace.specs.declared.tale.Tale.{Tale}
use Rattle.ppm_trace.specs.declared.tale.Excerpt.{Excerpt}

module _ (names : Names) (only : Only) (from : ℕ) where
  abbrev pub lines : Excerpt
  lines = record { form = Some (Lines only); from = from }

  -- a head, the lines of the turns, and a tail
  pub trace_is : (m n : Situation) (a b : Tale) (turns : List Turn) (text : List ℕ) → a.text.items ≡ head_text m.shape from
      → a.counts ≡ no_counts → n ≡ run_on m turns → HasTold names lines m turns a b
      → text ≡ b.text.items ++ tail_text b.counts (finish_in n) → text ≡ trace_text names only from m turns
  trace_is m n a b turns text head zero made told is =
      let shown = along_turns (shown_line names only from) m turns in
      is
      ∙ ap (λ front. front ++ tail_text b.counts (finish_in n)) (told.text ∙ ap (λ front. front ++ shown) head)
      ∙ ap (λ c. head_text m.shape from ++ shown ++ tail_text c (finish_in n)) (told.counts ∙ ap (λ c. counts_along from c m turns) zero)
      ∙ ap (λ (k : Situation). head_text m.shape from ++ shown ++ tail_text (counts_along from no_counts m turns) (finish_in k)) made

module _ (names : Names) (from : ℕ) where
  abbrev pub events : Excerpt
  events = record { form = Some Events; from = from }

  -- a head, the events of the turns, and a tail
  pub events_are : (m : Situation) (a b : Tale) (turns : List Turn) (text : List ℕ) → a.text.items ≡ json_head m.shape.processors
      → HasTold names events m turns a b → text ≡ b.text.items ++ json_tail → text ≡ trace_events names from m turns
  events_are m a b turns text head told is =
      let written = along_turns (told_events names from) m turns in
      is ∙ ap (λ front. front ++ json_tail) (told.text ∙ ap (λ front. front ++ written) head)

-- what is counted in the turns
pub counts_are : (names : Names) (m : Situation) (a b : Tale) (turns : List Turn) → a.counts ≡ no_counts
    → HasTold names (record { form = None; from = 0 }) m turns a b → b.counts ≡ counts_along 0 no_counts m turns
counts_are names m a b turns zero told = told.counts ∙ ap (λ c. counts_along 0 c m turns) zero
