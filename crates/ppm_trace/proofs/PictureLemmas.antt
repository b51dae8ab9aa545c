-- A picture of the whole run.
use Rattle.std.proofs.Common.{◌≡◌, ◌∙◌, Bool, true, false, if◌then◌else◌, List, [], ◌∷◌, ◌++◌, ℕ, ◌+◌, ◌≤◌, ◌^◌, length, ap, arith, Some}
use Rattle.std.proofs.lemmas.List.{length-append}
use Rattle.ppm_choice.proofs.SkipLemmas.{makes_no_more}
use Rattle.ppm_choice.specs.Schedules.{schedule_turns}
use Rattle.ppm_core.specs.Situation.{Situation, finish_in, run_on, turned}
use Rattle.ppm_lines.specs.Line.{scene_of}
use Rattle.ppm_lines.specs.Scene.{Scene}
use Rattle.ppm_naming.specs.declared.names.Names.{Names}
use Rattle.ppm_picture.specs.Canvas.{IsCanvas}
use Rattle.ppm_picture.specs.Strokes.{Drawn, drawn_at}
use Rattle.ppm_plan.specs.declared.schedule_item.ScheduleItem.{ScheduleItem}
use Rattle.ppm_step.specs.Locals.{standing_of}
use Rattle.ppm_step.specs.Standings.{Standing}
use Rattle.ppm_step.specs.declared.local.Local.{Local}
use Rattle.ppm_step.specs.declared.turn.Turn.{Turn}
use Rattle.ppm_trace.specs.Counts.{no_counts}
use Rattle.ppm_trace.specs.Picture.{canvas_of, picture_text, told_dead, told_drawn, trace_picture}
use Rattle.ppm_trace.specs.Telling.{HasTold}
use Rattle.ppm_trace.specs.Trace.{along_turns, counts_along, is_told}
use Rattle.ppm_lines.specs.declared.form.Form.TheVariants.{Picture}
use Rattle.ppm_trace.specs.declared.tale.Excerpt.{Excerpt}
use Rattle.ppm_trace.specs.declared.tale.Tale.{Tale}

-- what is shown of a turn, by what the scene is, and by where the processor stands
pub drawn_is : (scene of_machine : Scene) (local : Local) (standing : Standing) → scene ≡ of_machine
    → standing_of of_machine.shape of_machine.code local ≡ standing
    → (turn : Turn) → drawn_at scene turn (standing_of scene.shape scene.code local) ≡ drawn_at of_machine turn standing
drawn_is scene of_machine local standing same stands turn =
    ap (λ s. drawn_at s turn (standing_of s.shape s.code local)) same ∙ ap (drawn_at of_machine turn) stands

-- a canvas of few acts
pub is_canvas : (processors from acts : ℕ) → acts ≤ 2 ^ 40 → from ≤ 2 ^ 40 → IsCanvas (canvas_of processors from acts)
is_canvas processors from acts few near = record {
  some = omega arith;
  few = omega (arith, few);
  near = near;
}

-- one is shown of a turn at most
one_at_most : (b : Bool) (drawn : Drawn) → length (if b then drawn ∷ [] else []) ≤ 1
one_at_most true drawn = omega arith
one_at_most false drawn = omega arith

module _ (names : Names) (from : ℕ) where
  drawn_few : (m : Situation) (turns : List Turn) → length (along_turns (told_drawn names from) m turns) ≤ length turns
  drawn_few m [] = omega arith
  drawn_few m (turn ∷ turns) =
      let here : length (told_drawn names from m turn) ≤ 1 = one_at_most (is_told from m) _ in
      omega (
        arith,
        here,
        drawn_few (turned m turn) turns,
        length-append (told_drawn names from m turn) (along_turns (told_drawn names from) (turned m turn) turns),
      )

  abbrev pub pictures : Excerpt
  pictures = record { form = Some Picture; from = from }

  module _ (m : Situation) (a b : Tale) (items : List ScheduleItem) (acts : ℕ) (no_strokes : a.strokes.items ≡ [])
      (told : HasTold names pictures m (schedule_turns m.shape m.code m.state items acts) a b) where
    abbrev all : List Turn
    all = schedule_turns m.shape m.code m.state items acts

    strokes_are : b.strokes.items ≡ along_turns (told_drawn names from) m all
    strokes_are = told.strokes ∙ ap (λ front. front ++ along_turns (told_drawn names from) m all) no_strokes

    -- no more is shown than acts are made
    pub strokes_few : length b.strokes.items ≤ acts
    strokes_few =
        let made : length all ≤ acts = makes_no_more m.shape m.code m.state items acts in
        omega (arith, ap length strokes_are, drawn_few m all, made)

    -- the picture of what was told is that of the run
    pub pictures_are : (n : Situation) (text : List ℕ) → a.text.items ≡ [] → a.counts ≡ no_counts → n ≡ run_on m all
        → text ≡ picture_text names n.shape (canvas_of n.shape.processors from (length b.strokes.items)) b.strokes.items b.text.items b.counts (finish_in n)
        → text ≡ trace_picture names from m all
    pictures_are n text no_text zero made is =
        let dead = along_turns (told_dead from) m all in
        let drawn = along_turns (told_drawn names from) m all in
        let s = m.shape in
        is
        ∙ ap (λ s. picture_text names s (canvas_of s.processors from (length b.strokes.items)) b.strokes.items b.text.items b.counts (finish_in n))
        (ap (λ (k : Situation). k.shape) made)
        ∙ ap (λ k. picture_text names s (canvas_of s.processors from (length k)) k b.text.items b.counts (finish_in n)) strokes_are
        ∙ ap (λ k. picture_text names s (canvas_of s.processors from (length drawn)) drawn k b.counts (finish_in n))
        (told.text ∙ ap (λ front. front ++ dead) no_text)
        ∙ ap (λ c. picture_text names s (canvas_of s.processors from (length drawn)) drawn dead c (finish_in n))
        (told.counts ∙ ap (λ c. counts_along from c m all) zero)
        ∙ ap (λ (k : Situation). picture_text names s (canvas_of s.processors from (length drawn)) drawn dead (counts_along from no_counts m all) (finish_in k))
        made
