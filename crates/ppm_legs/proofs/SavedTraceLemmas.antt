-- The answers that a state has where its leg is told.
use Rattle.std.proofs.Common.{◌≡◌, ◌≢◌, ◌≤◌, ◌+◌, ◌^◌, ℕ, List, None, sym, ap, ◌∙◌, subst, arith}
use Rattle.ppm_cells.specs.Finish.{finish_of}
use Rattle.ppm_code.specs.declared.code.CodeParts.{CodeParts}
use Rattle.ppm_core.specs.Situation.{Situation, loaded}
use Rattle.ppm_naming.specs.declared.names.Names.{Names}
use Rattle.ppm_plan.specs.Correct.{HaveOneAnswer as PlansHaveOneAnswer}
use Rattle.ppm_plan.specs.declared.schedule_item.ScheduleItem.{ScheduleItem}
use Rattle.ppm_saved.specs.Renewal.{IsRenewalOf}
use Rattle.ppm_saved.specs.declared.names.NamedLength.{NamedLength}
use Rattle.ppm_saved.specs.declared.renewal.Renewed.{Renewed}
use Rattle.ppm_saved.specs.declared.saved.Saved.{Saved}
use Rattle.ppm_saved_reader.specs.Correct.{FaultsTellSavedTexts}
use Rattle.ppm_show.specs.Names.{saved_names}
use Rattle.ppm_trace.specs.Json.{trace_as}
use Rattle.ppm_lines.specs.declared.form.Form.{Form}
use Rattle.ppm_answers.specs.declared.answer.Answer.{Answer}
use Rattle.ppm_answers.specs.declared.answer.Answer.TheVariants as answers
use Rattle.ppm_cli.specs.declared.trace.TraceSavedOptions.{TraceSavedOptions}
use Rattle.ppm_cli.specs.Words.{AreSavedTraced}
use Rattle.ppm_outcomes.specs.Resumes.{SavedState, saved_finish, state_of}
use Rattle.ppm_orders.specs.TraceForms.{form_by}
use Rattle.ppm_legs.specs.SavedTraces.{StateTraces, HaveOneAnswer, text_by, turns_by}
use Rattle.ppm_legs.proofs.LegLemmas.{AreKinds, fronts, goes_on}
use Rattle.ppm_legs.proofs.SavedAnswerLemmas.{one_start, text_one}

-- the answers that a state has
abbrev pub IsOfTrace : Answer → Type 0
IsOfTrace (answers.Traced text) = Unit {0}
IsOfTrace _ = ⊥

pub trace_kind : (options : TraceSavedOptions) (items : List ScheduleItem) (z : SavedState) (a : Answer) → StateTraces options items z a → IsOfTrace a
trace_kind options items z a h = subst IsOfTrace (sym h.tells) tt

pub kinds : (options : TraceSavedOptions) → AreKinds (StateTraces options)
kinds options = record {
  no_refusal = λ items z r h. trace_kind options items z (answers.SavedRefused r) h;
  no_plan = λ items z number h. trace_kind options items z (answers.PlanRefused number) h;
  no_fault = λ items z h. trace_kind options items z answers.ReadFault h;
  no_memory = λ items z h. trace_kind options items z answers.NoMemory h;
}

-- options in their ranges ask for few acts
pub few_acts : (options : TraceSavedOptions) → AreSavedTraced options → options.from + options.acts ≤ 2 ^ 40
few_acts options are = let from = are.0.1 in let acts = are.1.1 in omega (arith, from, acts)

-- what is told of the machine that goes on with what fresh processors find is the answer of the state
pub leg_tells : (options : TraceSavedOptions) (items : List ScheduleItem) (saved : Saved) (keeper : ℕ) (r : Renewed) (begun : Situation)
    → IsRenewalOf saved keeper r → begun ≡ loaded r.image.shape r.code r.image.lengths r.image.words → finish_of (saved_finish (state_of saved)) ≢ None
    → (arrays : List NamedLength) (names : Names) (code : CodeParts) → arrays ≡ r.names → names ≡ saved_names arrays code → code ≡ begun.code
    → {form : Form} → form ≡ form_by options.form options.only
    → (text : List ℕ) → text ≡ trace_as names form options.from begun (turns_by options items begun)
    → StateTraces options items (state_of saved) (answers.Traced text)
leg_tells options items saved keeper r begun is loads stands arrays names code same named coded form text told =
    let code_is : code ≡ saved.code = coded ∙ ap (λ (m : Situation). m.code) loads ∙ is.code_is in
    let all : names ≡ saved_names saved.names saved.code = named ∙ (λ i. saved_names ((same ∙ is.names_are) i) (code_is i)) in
    record {
      stands = stands;
      start = begun;
      goes_on = goes_on saved keeper r begun is loads;
      tells = ap (λ x. answers.Traced x) (told ∙ (λ i. trace_as (all i) (form i) options.from begun (turns_by options items begun)));
    }

-- it has one
state_one : (options : TraceSavedOptions) (items : List ScheduleItem) (z : SavedState) (a b : Answer) → StateTraces options items z a
    → StateTraces options items z b → a ≡ b
state_one options items z a b h k =
    h.tells ∙ ap (λ (m : Situation). answers.Traced (text_by options items z m)) (one_start z h.start k.start h.goes_on k.goes_on) ∙ sym k.tells

pub have_one_answer : FaultsTellSavedTexts → PlansHaveOneAnswer → HaveOneAnswer
have_one_answer tell plans = record {
  one = λ options schedule. text_one tell plans.schedules (StateTraces options) (λ items z a h. h.stands) (state_one options) schedule;
  front = λ options schedule. fronts (StateTraces options) schedule;
}

-- the text that is written is the one that is told
pub same_text : (a b : List ℕ) → answers.Traced a ≡ answers.Traced b → a ≡ b
same_text a b e = cc
