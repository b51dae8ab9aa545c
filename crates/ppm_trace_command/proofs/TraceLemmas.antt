-- The answers that codes and programs have where their runs are told.
use Rattle.std.proofs.Common.{◌≡◌, ℕ, List, refl, sym, ap, ◌∙◌, subst, lit≤}
use Rattle.ppm_words.specs.declared.named_array.NamedArray.{NamedArray}
use Rattle.ppm_code.specs.declared.code.CodeParts.{CodeParts}
use Rattle.ppm_core.specs.Situation.{Situation}
use Rattle.ppm_plan.specs.declared.schedule_item.ScheduleItem.{ScheduleItem}
use Rattle.ppm_plan.specs.Forms.{schedule_form}
use Rattle.ppm_plan.specs.Refusals.{IsKeeper}
use Rattle.ppm_tree.specs.Tree.{ProgramTree}
use Rattle.ppm_tree.specs.Program.{initial_arrays}
use Rattle.ppm_cut_code.specs.Routines.{code_of}
use Rattle.ppm_answers.specs.declared.answer.Answer.{Answer}
use Rattle.ppm_answers.specs.declared.answer.Answer.TheVariants as answers
use Rattle.ppm_cli.specs.declared.trace.TraceOptions.{TraceOptions}
use Rattle.ppm_cli.specs.Words.{AreTraced}
use Rattle.ppm_loading.specs.declared.loading.Sizes.{Sizes}
use Rattle.ppm_loading.specs.Loading.{AreSizes, OpensRun}
use Rattle.ppm_loading.proofs.CaseLemmas.{AreCaseKinds}
use Rattle.ppm_loading.proofs.ProgramLemmas.{AreKinds}
use Rattle.ppm_naming.specs.declared.names.Names.{Names}
use Rattle.ppm_trace.specs.Json.{trace_as}
use Rattle.ppm_lines.specs.declared.form.Form.{Form}
use Rattle.ppm_trace_command.specs.TraceNames.{case_names, program_names}
use Rattle.ppm_trace_command.specs.Traces.{sizes_of, form_of, turns_by, text_of, CodeHas, ProgramHas}
use Rattle.ppm_trace_command.specs.CaseTraces.{CaseHas}

-- options in their ranges say sizes that a machine may have
pub traced_sizes : (options : TraceOptions) → AreTraced options → AreSizes (sizes_of options)
traced_sizes options are = record {
  processors_least = are.0.0;
  processors_most = are.0.1;
  room_least = are.3.0;
  pools_most = are.5;
  slots_least = are.4.0;
  slots_most = are.4.1;
  arrays_most = lit≤ tt;
}

-- the answers that a code has where its run is told
abbrev pub IsOfCode : Answer → Type 0
IsOfCode (answers.Traced text) = Unit {0}
IsOfCode _ = ⊥

pub kinds : AreKinds IsOfCode
kinds = record { no_refusal = λ r k. k; no_fault = λ k. k; no_memory = λ k. k; no_plan = λ number k. k }

pub case_kinds : AreCaseKinds IsOfCode
case_kinds = record { no_input = λ r k. k; no_listing = λ r k. k; no_fault = λ k. k; no_memory = λ k. k; no_plan = λ number k. k }

module _ (options : TraceOptions) (items : List ScheduleItem) where
  -- an answer of a code is of no other kind, whatever its names are
  pub of_code : (names : Names) (code : CodeParts) (input : List NamedArray) (a : Answer) → CodeHas options names items code input a → IsOfCode a
  of_code names code input a h = subst IsOfCode (sym h.tells) tt

  -- nor is one of a program, or of a case
  pub of_program : (t : ProgramTree) (a : Answer) → ProgramHas options items t a → IsOfCode a
  of_program t a h = of_code (program_names t) (code_of t) (initial_arrays t) a h

  pub of_case : (code : CodeParts) (input : List NamedArray) (a : Answer) → CaseHas options items code input a → IsOfCode a
  of_case code input a h = of_code (case_names code input) code input a h

  module _ (names : Names) (code : CodeParts) (input : List NamedArray) (keeper : ℕ) (start : Situation) (spared : IsKeeper schedule_form items keeper) where
    -- what is told of the turns of the schedule is the code's answer
    pub code_tells : (sizes : Sizes) (form : Form) (text : List ℕ) → sizes ≡ sizes_of options → form ≡ form_of options
        → OpensRun sizes code input keeper start → text ≡ trace_as names form options.from start (turns_by options items start)
        → CodeHas options names items code input (answers.Traced text)
    code_tells sizes form text is_sizes is_form opens told = record {
      keeper = keeper;
      spared = spared;
      start = start;
      opens = subst (λ (z : Sizes). OpensRun z code input keeper start) is_sizes opens;
      tells = ap (λ x. answers.Traced x) (told ∙ ap (λ (f : Form). trace_as names f options.from start (turns_by options items start)) is_form);
    }

    -- there is one, where a machine opens
    pub some_has : OpensRun (sizes_of options) code input keeper start → (a : Answer) × CodeHas options names items code input a
    some_has opens = (
      answers.Traced (text_of options names items start),
      record { keeper = keeper; spared = spared; start = start; opens = opens; tells = refl },
    )

-- the text that is written is the one that is told
pub same_text : (a b : List ℕ) → answers.Traced a ≡ answers.Traced b → a ≡ b
same_text a b e = cc
