-- Lines tell a run, line by line.
use Rattle.std.proofs.Common.{◌≡◌, ◌≢◌, ◌∙◌, ℕ, zero, suc, ◌+◌, ◌^◌, ◌<◌, ◌≤◌, ◌&&◌, if◌then◌else◌, true, List, [], ◌∷◌, ◌++◌, decimal, length, get_or, replicate, take, ◌-◌, refl, sym, subst, ap, arith}
use Rattle.std.proofs.Common.{append_assoc, length-append}
use Rattle.std.specs.List.{AllByRecursion}
use Rattle.std.proofs.lemmas.List.{append_cancel_left}
use Rattle.ppm_core.specs.Situation.{Situation, finish_in, run_on, turned}
use Rattle.ppm_core.proofs.RunLemmas.{run_step}
use Rattle.ppm_lines.specs.Line.{field, marks, row_fields, step_fields, who_fields}
use Rattle.ppm_lines.specs.declared.shown.Only.TheVariants.{Turns}
use Rattle.ppm_naming.specs.Correct.{AddressesName}
use Rattle.ppm_naming.specs.declared.names.Names.{Names}
use Rattle.ppm_cells.specs.declared.shape.Shape.{Shape}
use Rattle.ppm_step.specs.Told.{place_of}
use Rattle.ppm_step.specs.declared.turn.Turn.{Turn}
use Rattle.ppm_trace.specs.Counts.{no_counts}
use Rattle.ppm_trace.specs.Trace.{along_turns, counts_along, head_text, is_told, shown_line, tail_text}
use Rattle.ppm_trace.specs.declared.counts.Counts.{Counts}
use Rattle.ppm_trace_laws.specs.Runs.{bare, AreOneRun, IsOrdered, LinesTellTurns, TracesTellTurns}
use Rattle.ppm_trace_laws.proofs.BareLemmas.{line, scene, standing}
use Rattle.ppm_trace_laws.proofs.CutLemmas.{begins_with_digit, field_begins}
use Rattle.ppm_trace_laws.proofs.LineLemmas.{after_who, begins, line_cut}

-- turn by turn
one_more : (m : Situation) (turn other : Turn) (turns others : List Turn) → bare m turn ≡ bare m other → turned m turn ≡ turned m other
    → AreOneRun (turned m turn) turns others → AreOneRun m (turn ∷ turns) (other ∷ others)
one_more m turn other turns others same next rest = record {
  turns =
      λ i. same i
      ∷ (rest.turns ∙ ap (λ (k : Situation). along_turns (λ m turn. bare m turn ∷ []) k others) next) i;
  situations = by_acts;
}
  where
    by_acts : (acts : ℕ) → run_on m (take acts (turn ∷ turns)) ≡ run_on m (take acts (other ∷ others))
    by_acts zero = refl
    by_acts (suc acts) =
        sym (run_step m turn (take acts turns)) ∙ rest.situations acts ∙ ap (λ (k : Situation). run_on k (take acts others)) next
        ∙ run_step m other (take acts others)

module _ (names : Names) where
  -- the lines of all turns
  abbrev lines : Situation → List Turn → List ℕ
  lines = along_turns (line names)

  -- what follows the lines is no line of an act before this one
  abbrev EndsLines : (last : ℕ) → List ℕ → Type 0
  EndsLines last x = (m : Situation) (turn : Turn) (rest : List ℕ) → m.turns < last → x ≢ line names m turn ++ rest

  module _ (last : ℕ) (x y : List ℕ) (ends_x : EndsLines last x) (ends_y : EndsLines last y) where
    same_lines : (m : Situation) (first second : List Turn) → AddressesName m.shape → m.shape.processors ≤ 2 ^ 64
        → AllByRecursion (IsOrdered m.shape.processors) first → AllByRecursion (IsOrdered m.shape.processors) second
        → m.turns + length first ≤ last → m.turns + length second ≤ last
        → lines m first ++ x ≡ lines m second ++ y → AreOneRun m first second
    same_lines m [] [] law small p q few most e = record { turns = refl; situations = λ acts. refl }
    same_lines m (turn ∷ turns) [] law small p q few most e =
        absurd (ends_y m turn (lines (turned m turn) turns ++ x) (omega (arith, few))
        (sym e ∙ append_assoc (line names m turn) (lines (turned m turn) turns) x))
    same_lines m [] (other ∷ others) law small p q few most e =
        absurd (ends_x m other (lines (turned m other) others ++ y) (omega (arith, most))
        (e ∙ append_assoc (line names m other) (lines (turned m other) others) y))
    same_lines m (turn ∷ turns) (other ∷ others) law small p q few most e =
        let (same, both, rest) =
        line_cut names m law small turn other (lines (turned m turn) turns ++ x) (lines (turned m other) others ++ y) p.0 q.0
        (sym (append_assoc (line names m turn) (lines (turned m turn) turns) x) ∙ e
        ∙ append_assoc (line names m other) (lines (turned m other) others) y) in
        one_more m turn other turns others same both.makes
        (same_lines (turned m turn) turns others law small p.1 q.1 (omega (arith, few)) (omega (arith, most))
        (subst (λ (k : Situation). lines (turned m turn) turns ++ x ≡ lines k others ++ y) (sym both.makes) rest))

  -- all lines are shown
  all_shown : (from : ℕ) (m : Situation) (turns : List Turn) → from ≤ m.turns
      → along_turns (shown_line names Turns from) m turns ≡ lines m turns
  all_shown from m [] late = refl
  all_shown from m (turn ∷ turns) late =
      let told : is_told from m ≡ true = grind (arith, late) in
      ap (λ told. (if told && true then line names m turn else []) ++ along_turns (shown_line names Turns from) (turned m turn) turns) told
      ∙ ap (λ rest. line names m turn ++ rest) (all_shown from (turned m turn) turns (omega (arith, late)))

  -- no line is empty
  ends_none : (last : ℕ) → EndsLines last []
  ends_none last m turn rest less e =
      let stood = standing names m turn.processor in
      let front = who_fields m.turns turn.processor (place_of stood) ++ row_fields (scene names m) turn stood
      ++ step_fields (scene names m) turn stood ++ marks (scene names m) turn stood in
      omega (arith, ap length e, length-append (front ++ 10 ∷ []) rest, length-append front (10 ∷ []))

  -- a line begins with a digit, and a tail with a letter
  ends_tail : (finish : ℕ) (c : Counts) → EndsLines (2 ^ 64) (tail_text c finish)
  ends_tail finish c m turn rest less e =
      let more = field 3 (112 ∷ decimal turn.processor) ++ after_who names m turn rest in
      let is_digit =
      subst (λ (l : List ℕ). get_or l 0 0 ≤ 57) (sym (begins names m turn rest ∙ field_begins 6 (decimal m.turns) more))
      (begins_with_digit m.turns (32 ∷ (replicate (6 - length (decimal m.turns)) 32 ++ more)) less) in
      let is_letter : 97 ≡ get_or (line names m turn ++ rest) 0 0 = ap (λ (l : List ℕ). get_or l 0 0) e in
      omega (arith, is_letter, is_digit)

pub lines_tell : ((s : Shape) → AddressesName s) → LinesTellTurns
lines_tell law names from m first second t e =
    let last = m.turns + length first + length second in
    same_lines names last [] [] (ends_none names last) (ends_none names last) m first second (law m.shape) t.processors t.first_ordered t.second_ordered
    (omega arith) (omega arith)
    (ap (λ l. l ++ []) (sym (all_shown names from m first t.all_told) ∙ e ∙ all_shown names from m second t.all_told))

pub traces_tell : ((s : Shape) → AddressesName s) → TracesTellTurns
traces_tell law names from m first second t few most e =
    let head = head_text m.shape from in
    let one = along_turns (shown_line names Turns from) m first in
    let two = along_turns (shown_line names Turns from) m second in
    let end_one = tail_text (counts_along from no_counts m first) (finish_in (run_on m first)) in
    let end_two = tail_text (counts_along from no_counts m second) (finish_in (run_on m second)) in
    let rest =
    append_cancel_left head (one ++ end_one) (two ++ end_two) (sym (append_assoc head one end_one) ∙ e ∙ append_assoc head two end_two) in
    same_lines names (2 ^ 64) end_one end_two (ends_tail names (finish_in (run_on m first)) (counts_along from no_counts m first))
    (ends_tail names (finish_in (run_on m second)) (counts_along from no_counts m second)) m first second (law m.shape) t.processors
    t.first_ordered t.second_ordered few most
    (ap (λ l. l ++ end_one) (sym (all_shown names from m first t.all_told)) ∙ rest
    ∙ ap (λ l. l ++ end_two) (all_shown names from m second t.all_told))
