-- The run of the program of the text that was read, and what watchers were told of it.
use Rattle.std.proofs.Common.{◌≡◌, ℕ, List, Some, sym, subst}
use Rattle.ppm_ports.specs.Ports.{Port}
use Rattle.ppm_ports.specs.Outside.{ToldLists}
use Rattle.ppm_ports.specs.Whole.{ReadsTo}
use Rattle.ppm_text.specs.Limits.{text_limit}
use Rattle.ppm_tree.specs.Tree.{ProgramTree}
use Rattle.ppm_program.specs.Programs.{HasProgram}
use Rattle.ppm_plan.specs.declared.plan_item.PlanItem.{PlanItem}
use Rattle.ppm_plan.specs.Forms.{plan_form}
use Rattle.ppm_plan.specs.Refusals.{IsAccepted}
use Rattle.ppm_answers.specs.declared.answer.Answer.{Answer}
use Rattle.ppm_answers.specs.declared.answer.Answer.TheVariants as answers
use Rattle.ppm_answers.specs.Reading.{Reads}
use Rattle.ppm_answers.proofs.WholeText.{whole_read}
use Rattle.ppm_cli.specs.declared.run.RunOptions.{RunOptions}
use Rattle.ppm_loading.specs.Programs.{ReadsProgram}
use Rattle.ppm_outcomes.specs.Runs.{ProgramHas, ProgramGivenUp, ProgramWants, OfSource, RunMade, RunMay, RunTold, RunTells, RunWants}
use Rattle.ppm_outcomes.specs.Watchers.{ToldAtWant, ToldNothing, ToldWhole}
use Rattle.ppm_outcomes.proofs.WantLemmas.{map_want, map_wanting}

-- a text with a program is short, so it is all that the source has
pub whole_text : (source : Port) (text : List ℕ) → Reads text_limit source text → (t : ProgramTree) → HasProgram text t
    → (all : List ℕ) → source.before ≡ Some all → text ≡ all
whole_text source text read t has all e =
    sym (whole_read text_limit all source.now text (subst (λ l. ReadsTo text_limit l source.now text) e read.whole) has.admitted.tree.lexed.short)

abbrev pub of_source : (options : RunOptions) (plan : List ℕ) (source : Port) (Run : List PlanItem → ProgramTree → Type 0)
    → (text : List ℕ) → Reads text_limit source text → (t : ProgramTree) → HasProgram text t
    → (items : List PlanItem) → IsAccepted plan_form plan options.processors items → Run items t → OfSource options plan source Run
of_source options plan source Run text read t has items accepted ran = record {
  text = text;
  read = read;
  whole = whole_text source text read t has;
  program = t;
  has = has;
  items = items;
  accepted = accepted;
  ran = ran;
}

-- what was told of a program's run was told of that of the text that was read
pub source_tells : (options : RunOptions) (watching : ℕ) (before now : ToldLists) (items : List PlanItem) (t : ProgramTree) (source : Port)
    → ReadsProgram source t → (plan : List ℕ) → IsAccepted plan_form plan options.processors items → (a : Answer)
    → RunTold watching (ProgramWants options watching before now items t) a before now → RunTells options watching plan source a before now
source_tells options watching before now items t source r plan accepted a told =
    (told.0, told.1, map_wanting {T = ProgramWants options watching before now items t} {S = RunWants options watching plan before now source} lifted a told.2)
  where
    lifted : ProgramWants options watching before now items t → RunWants options watching plan before now source
    lifted w =
        map_want
        (λ (x : ProgramGivenUp options before now items t). of_source options plan source (ProgramGivenUp options before now) r.0 r.1 t r.2 items accepted x)
        (λ (x : (a : Answer) × ProgramHas options watching before now items t a). (
          x.0,
          of_source options plan source (λ items t. ProgramHas options watching before now items t x.0) r.0 r.1 t r.2 items accepted x.1,
        )) w

module _ (options : RunOptions) (watching : ℕ) (plan : List ℕ) (before now : ToldLists) (source : Port) where
  abbrev May : Answer → Type 0
  May a = RunMay options watching plan before now source a

  abbrev Tells : Answer → Type 0
  Tells a = RunTells options watching plan source a before now

  -- where an answer may come, want of memory may, with what was told of it
  pub wants : (a : Answer) → May a → Tells a → RunWants options watching plan before now source
  wants answers.NoMemory h told = told.2
  wants answers.ReadFault h told = ToldNothing told.0
  wants answers.WordsRefused h told = ToldNothing told.0
  wants (answers.PlanRefused number) h told = ToldNothing told.0
  wants (answers.SourceRefused r) h told = ToldNothing told.0
  wants (answers.ListingRefused r) h told = ToldNothing told.0
  wants (answers.SavedRefused r) h told = ToldNothing told.0
  wants (answers.Conflicting c) h told = ToldNothing told.0
  wants (answers.ConflictingAt c read write) h told = ToldNothing told.0
  wants (answers.Untidy u) h told = ToldNothing told.0
  wants (answers.InputRefused r) h told = ToldNothing told.0
  wants a h told = ToldWhole (
    a,
    of_source options plan source (λ items t. ProgramHas options watching before now items t a) h.0 h.1 h.2.has.0 h.2.has.1 h.2.items h.2.accepted
        h.2.has.2,
  )
