-- What is told of the place where a run stands explains that it takes more turns; and there is one such place.
use Rattle.std.proofs.Common.{◌≡◌, ℕ, List, Option, Some, None, refl, sym, ap, subst, ◌∙◌}
use Rattle.ppm_words.specs.declared.outcome.Outcome.TheVariants as outcome
use Rattle.ppm_tree.specs.Tree.{ProgramTree}
use Rattle.ppm_tree.specs.Program.{Serial}
use Rattle.ppm_tree.specs.Correct.{SpendTheirTurns}
use Rattle.ppm_standing.specs.declared.stood.Stood.{Stood}
use Rattle.ppm_standing.specs.Correct.{StandWhereLater}
use Rattle.ppm_standing.specs.Nexts.{Run}
use Rattle.ppm_standing.specs.Standing.{stand}
use Rattle.ppm_standing.specs.Stood.{IsStood, IsStandOf, or_line, next_line, next_readings, calls_in, innermost}
use Rattle.ppm_program.specs.Programs.{HasProgram}
use Rattle.ppm_commands.specs.Serial.{ComesTo}
use Rattle.ppm_notes.specs.Traps.{stand_notes}
use Rattle.ppm_explained.specs.Trapping.{IsStandExplained}

nowhere_somewhere : {o : Option Run} {w : Run} → o ≡ None → o ≡ Some w → ⊥
nowhere_somewhere p q = cc

one_run : {o : Option Run} {v w : Run} → o ≡ Some v → o ≡ Some w → v ≡ w
one_run p q = cc

pub stand_explained : (t : ProgramTree) (turns : ℕ) (text notes : List ℕ) → HasProgram text t → Serial t turns outcome.NotWithin → (stood : Stood)
    → IsStandOf t turns (Some stood) → notes ≡ stand_notes text stood → IsStandExplained turns text notes
stand_explained t turns text notes has later stood s is = record {
  comes = record { tree = t; program = has; serial = later };
  run = s.0;
  stands = s.1;
  stood = stood;
  is_stood = s.2;
  is = is;
}

-- where a run stands that takes more turns
pub stands_somewhere : (t : ProgramTree) (turns : ℕ) → SpendTheirTurns → StandWhereLater → Serial t turns outcome.NotWithin
    → (w : Run) × stand t turns ≡ Some w
stands_somewhere t turns spends stands later = (stands t turns).somewhere (((spends t).not_within turns).0 later)

pub not_nowhere : (t : ProgramTree) (turns : ℕ) → SpendTheirTurns → StandWhereLater → Serial t turns outcome.NotWithin → IsStandOf t turns None → ⊥
not_nowhere t turns spends stands later none = let s = stands_somewhere t turns spends stands later in nowhere_somewhere none s.1

-- what is told of a run is one
same_stood : (procedures : _) (w : Run) (a b : Stood) → IsStood procedures w a → IsStood procedures w b → a ≡ b
same_stood procedures w a b g h =
    let line = g.line ∙ sym h.line in
    let procedure = g.procedure ∙ sym h.procedure in
    let declared = g.declared_in ∙ sym h.declared_in in
    let values = g.values ∙ sym h.values in
    let calls = g.calls ∙ sym h.calls in
    let call_line = g.call_line ∙ sym h.call_line in
    λ i. record {
      line = line i;
      procedure = procedure i;
      procedure_line = declared i;
      values = values i;
      calls = calls i;
      call_line = call_line i;
    }

of_tree : (t : ProgramTree) (turns : ℕ) (v w : Run) (a b : Stood) → stand t turns ≡ Some v → stand t turns ≡ Some w → IsStood t.procedures v a
    → IsStood t.procedures w b → a ≡ b
of_tree t turns v w a b p q g h = same_stood t.procedures v a b g (subst (λ (w : Run). IsStood t.procedures w b) (sym (one_run p q)) h)

pub one_stood : (t u : ProgramTree) (turns : ℕ) (v w : Run) (a b : Stood) → t ≡ u → stand t turns ≡ Some v → stand u turns ≡ Some w
    → IsStood t.procedures v a → IsStood u.procedures w b → a ≡ b
one_stood t u turns v w a b e p q g h =
    of_tree t turns v w a b p (subst (λ (u : ProgramTree). stand u turns ≡ Some w) (sym e) q) g (subst (λ (u : ProgramTree). IsStood u.procedures w b) (sym e) h)

-- a run that takes more turns has notes
pub stand_has : (turns : ℕ) (text : List ℕ) → SpendTheirTurns → StandWhereLater → ComesTo turns text outcome.NotWithin
    → (notes : List ℕ) × IsStandExplained turns text notes
stand_has turns text spends stands c =
    let s = stands_somewhere c.tree turns spends stands c.serial in
    let w = s.0 in
    let stood : Stood = record {
      line = or_line (next_line w.next w.procedure.give) w.procedure.name.line;
      procedure = w.procedure.name.name;
      procedure_line = w.procedure.name.line;
      values = next_readings c.tree.procedures w.next w;
      calls = calls_in w.around;
      call_line = innermost w.around;
    } in (
      stand_notes text stood,
      record {
        comes = c;
        run = w;
        stands = s.1;
        stood = stood;
        is_stood = record { line = refl; procedure = refl; declared_in = refl; values = refl; calls = refl; call_line = refl };
        is = refl;
      },
    )
