-- The answers that texts have where their cases are run.
use Rattle.std.proofs.Common.{ℕ, List, [], sym, subst, ◌≡◌}
use Rattle.std.specs.Prelude.{Some}
use Rattle.ppm_words.specs.declared.named_array.NamedArray.{NamedArray}
use Rattle.ppm_ports.specs.Ports.{Port}
use Rattle.ppm_ports.specs.Outside.{ToldLists}
use Rattle.ppm_ports.specs.Whole.{ReadsTo}
use Rattle.ppm_code.specs.declared.code.CodeParts.{CodeParts}
use Rattle.ppm_case.specs.Case.{IsCaseOf}
use Rattle.ppm_case.specs.Rules.{case_limit}
use Rattle.ppm_plan.specs.declared.plan_item.PlanItem.{PlanItem}
use Rattle.ppm_plan.specs.Forms.{plan_form}
use Rattle.ppm_plan.specs.Refusals.{IsAccepted}
use Rattle.ppm_answers.specs.declared.answer.Answer.{Answer}
use Rattle.ppm_answers.specs.declared.answer.Answer.TheVariants as answers
use Rattle.ppm_answers.specs.Reading.{Reads}
use Rattle.ppm_answers.proofs.WholeText.{whole_read}
use Rattle.ppm_cli.specs.declared.run.RunOptions.{RunOptions}
use Rattle.ppm_loading.specs.Cases.{ReadsCase}
use Rattle.ppm_loading.specs.Planned.{PlannedHas}
use Rattle.ppm_loading.proofs.CaseLemmas.{AreCaseKinds}
use Rattle.ppm_driver.specs.CaseRuns.{TextHas, OfReadCase, RunCaseHas, RunCaseMay, RunCaseTells, RunCaseWants}
use Rattle.ppm_outcomes.specs.Runs.{CodeHas, CodeGivenUp, CodeWants, RunTold}
use Rattle.ppm_outcomes.specs.Watchers.{ToldNothing, ToldWhole}
use Rattle.ppm_outcomes.proofs.RunLemmas.{IsOfProgram, forgets}
use Rattle.ppm_outcomes.proofs.WantLemmas.{map_want, map_wanting}

-- answers of codes are of kinds that no refusal is
pub case_kinds : (processors : ℕ) → AreCaseKinds (IsOfProgram processors)
case_kinds processors =
    record { no_input = λ r k. k; no_listing = λ r k. k; no_fault = λ k. k; no_memory = λ k. k; no_plan = λ number k. k }

-- an answer of a text is one whatever watchers were told, and so is one with a plan
pub text_forgets : (options : RunOptions) (watching : ℕ) (before now : ToldLists) (items : List PlanItem) (text : List ℕ) (a : Answer)
    → TextHas options watching before now items text a → TextHas options 0 [] [] items text a
text_forgets options watching before now items text (answers.InputRefused r) h = h
text_forgets options watching before now items text (answers.ListingRefused r) h = h
text_forgets options watching before now items text a h = record {
  code = h.code;
  input = h.input;
  is = h.is;
  has = forgets options watching before now items h.code h.input a h.has;
}

pub run_forgets : (options : RunOptions) (watching : ℕ) (before now : ToldLists) (plan : List ℕ) (text : List ℕ) (a : Answer)
    → PlannedHas plan_form plan options.processors (TextHas options watching before now) text a → RunCaseHas options plan text a
run_forgets options watching before now plan text (answers.PlanRefused number) h = h
run_forgets options watching before now plan text a h = record {
  items = h.items;
  accepted = h.accepted;
  has = text_forgets options watching before now h.items text a h.has;
}

-- a case is short, so it is all that the source has
pub whole_case : (source : Port) (text : List ℕ) → Reads case_limit source text → (code : CodeParts) (input : List NamedArray)
    → IsCaseOf text code input → (all : List ℕ) → source.before ≡ Some all → text ≡ all
whole_case source text read code input is all e =
    sym (whole_read case_limit all source.now text (subst (λ l. ReadsTo case_limit l source.now text) e read.whole) is.front.short)

abbrev pub of_case : (options : RunOptions) (plan : List ℕ) (source : Port) (Run : List PlanItem → CodeParts → List NamedArray → Type 0)
    → (text : List ℕ) → Reads case_limit source text → (code : CodeParts) (input : List NamedArray) → IsCaseOf text code input
    → (items : List PlanItem) → IsAccepted plan_form plan options.processors items → Run items code input → OfReadCase options plan source Run
of_case options plan source Run text read code input is items accepted ran = record {
  text = text;
  read = read;
  whole = whole_case source text read code input is;
  code = code;
  input = input;
  is = is;
  items = items;
  accepted = accepted;
  ran = ran;
}

-- what was told of a run of a code was told of that of the case that was read
pub case_tells : (options : RunOptions) (watching : ℕ) (before now : ToldLists) (items : List PlanItem) (code : CodeParts) (input : List NamedArray)
    (source : Port) → ReadsCase source code input → (plan : List ℕ) → IsAccepted plan_form plan options.processors items → (a : Answer)
    → RunTold watching (CodeWants options watching before now items code input) a before now → RunCaseTells options watching plan source a before now
case_tells options watching before now items code input source r plan accepted a told = (
  told.0,
  told.1,
  map_wanting {T = CodeWants options watching before now items code input} {S = RunCaseWants options watching plan before now source} lifted a told.2,
)
  where
    lifted : CodeWants options watching before now items code input → RunCaseWants options watching plan before now source
    lifted w =
        map_want
        (λ (x : CodeGivenUp options before now items code input).
        of_case options plan source (CodeGivenUp options before now) r.0 r.1 code input r.2 items accepted x)
        (λ (x : (a : Answer) × CodeHas options watching before now items code input a). (
          x.0,
          of_case options plan source (λ items code input. CodeHas options watching before now items code input x.0) r.0 r.1 code input r.2 items
              accepted x.1,
        )) w

module _ (options : RunOptions) (watching : ℕ) (plan : List ℕ) (before now : ToldLists) (source : Port) where
  abbrev May : Answer → Type 0
  May a = RunCaseMay options watching plan before now source a

  abbrev Tells : Answer → Type 0
  Tells a = RunCaseTells options watching plan source a before now

  -- where an answer may come, want of memory may, with what was told of it
  pub case_wants : (a : Answer) → May a → Tells a → RunCaseWants options watching plan before now source
  case_wants answers.NoMemory h told = told.2
  case_wants answers.ReadFault h told = ToldNothing told.0
  case_wants answers.WordsRefused h told = ToldNothing told.0
  case_wants (answers.PlanRefused number) h told = ToldNothing told.0
  case_wants (answers.SourceRefused r) h told = ToldNothing told.0
  case_wants (answers.ListingRefused r) h told = ToldNothing told.0
  case_wants (answers.SavedRefused r) h told = ToldNothing told.0
  case_wants (answers.Conflicting c) h told = ToldNothing told.0
  case_wants (answers.ConflictingAt c read write) h told = ToldNothing told.0
  case_wants (answers.Untidy u) h told = ToldNothing told.0
  case_wants (answers.InputRefused r) h told = ToldNothing told.0
  case_wants a h told = ToldWhole (
    a,
    of_case options plan source (λ items code input. CodeHas options watching before now items code input a) h.0 h.1 h.2.has.code h.2.has.input
        h.2.has.is h.2.items h.2.accepted h.2.has.has,
  )
