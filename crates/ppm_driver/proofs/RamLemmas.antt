-- The answers that texts have where their RAMs are run.
use Rattle.std.proofs.Common.{ℕ, ◌<◌, List, [], ◌∷◌, length, sym, subst, ◌≡◌, arith}
use Rattle.std.proofs.lemmas.List.Elements.{All-from_recursion}
use Rattle.std.specs.Prelude.{Some}
use Rattle.ppm_words.specs.declared.named_array.NamedArray.{NamedArray}
use Rattle.ppm_ports.specs.Ports.{Port}
use Rattle.ppm_ports.specs.Outside.{ToldLists}
use Rattle.ppm_ports.specs.Whole.{ReadsTo}
use Rattle.ppm_code.specs.declared.code.CodeParts.{CodeParts}
use Rattle.ppm_depth.specs.Start.{NamesArrays}
use Rattle.ppm_ram.specs.declared.ram.RamParts.{RamParts}
use Rattle.ppm_ram.specs.Limits.{text_limit}
use Rattle.ppm_ram.specs.Program.{memory_of}
use Rattle.ppm_ram.specs.Text.{IsTextOf}
use Rattle.ppm_ram_code.specs.Code.{code_of}
use Rattle.ppm_ram_code.specs.Correct.{input_of}
use Rattle.ppm_plan.specs.declared.plan_item.PlanItem.{PlanItem}
use Rattle.ppm_plan.specs.Forms.{plan_form}
use Rattle.ppm_plan.specs.Refusals.{IsAccepted}
use Rattle.ppm_answers.specs.declared.answer.Answer.{Answer}
use Rattle.ppm_answers.specs.declared.answer.Answer.TheVariants as answers
use Rattle.ppm_answers.specs.Reading.{Reads}
use Rattle.ppm_answers.proofs.WholeText.{whole_read}
use Rattle.ppm_cli.specs.declared.run.RunOptions.{RunOptions}
use Rattle.ppm_loading.specs.Planned.{PlannedHas}
use Rattle.ppm_driver.specs.RamEnds.{RamHas}
use Rattle.ppm_driver.specs.RamRuns.{TextHas, OfReadRam, RamTextHas, RamMay, RamTells, RamWants}
use Rattle.ppm_orders.specs.Rams.{ReadsRam}
use Rattle.ppm_outcomes.specs.Runs.{CodeGivenUp, CodeWants, RunTold}
use Rattle.ppm_outcomes.specs.Watchers.{ToldNothing, ToldWhole}
use Rattle.ppm_outcomes.proofs.RunLemmas.{forgets, IsOfProgram, of_code}
use Rattle.ppm_outcomes.proofs.WantLemmas.{map_want, map_wanting}

-- the root of a RAM's code names the one array of its input
pub names_kept : (ram : RamParts) (code : CodeParts) (input : List NamedArray) → code ≡ code_of ram → input ≡ input_of (memory_of ram)
    → NamesArrays code input
names_kept ram code input e same =
    subst (λ (k : CodeParts). NamesArrays k input) (sym e)
    (subst (λ (l : List NamedArray). NamesArrays (code_of ram) l) (sym same)
    (All-from_recursion (λ (a : ℕ). a < length (input_of (memory_of ram))) (0 ∷ []) (omega arith, tt)))

-- an answer of a RAM is of a kind that codes have
pub of_ram : (options : RunOptions) (watching : ℕ) (before now : ToldLists) (items : List PlanItem) (ram : RamParts) (a : Answer)
    → RamHas ram options watching before now items a → IsOfProgram options.processors a
of_ram options watching before now items ram = of_code options watching before now items (code_of ram) (input_of (memory_of ram))

-- an answer of a text is one whatever watchers were told, and so is one with a plan
pub text_forgets : (options : RunOptions) (watching : ℕ) (before now : ToldLists) (items : List PlanItem) (text : List ℕ) (a : Answer)
    → TextHas options watching before now items text a → TextHas options 0 [] [] items text a
text_forgets options watching before now items text (answers.SourceRefused r) h = h
text_forgets options watching before now items text a h = record {
  ram = h.ram;
  is = h.is;
  has = forgets options watching before now items (code_of h.ram) (input_of (memory_of h.ram)) a h.has;
}

pub run_forgets : (options : RunOptions) (watching : ℕ) (before now : ToldLists) (plan : List ℕ) (text : List ℕ) (a : Answer)
    → PlannedHas plan_form plan options.processors (TextHas options watching before now) text a → RamTextHas options plan text a
run_forgets options watching before now plan text (answers.PlanRefused number) h = h
run_forgets options watching before now plan text a h = record {
  items = h.items;
  accepted = h.accepted;
  has = text_forgets options watching before now h.items text a h.has;
}

-- the text of a RAM is short, so it is all that the source has
pub whole_ram : (source : Port) (text : List ℕ) → Reads text_limit source text → (ram : RamParts) → IsTextOf text ram
    → (all : List ℕ) → source.before ≡ Some all → text ≡ all
whole_ram source text read ram is all e =
    sym (whole_read text_limit all source.now text (subst (λ l. ReadsTo text_limit l source.now text) e read.whole) is.short)

abbrev pub of_read : (options : RunOptions) (plan : List ℕ) (source : Port) (Run : List PlanItem → RamParts → Type 0) → (text : List ℕ)
    → Reads text_limit source text → (ram : RamParts) → IsTextOf text ram → (items : List PlanItem)
    → IsAccepted plan_form plan options.processors items → Run items ram → OfReadRam options plan source Run
of_read options plan source Run text read ram is items accepted ran = record {
  text = text;
  read = read;
  whole = whole_ram source text read ram is;
  ram = ram;
  is = is;
  items = items;
  accepted = accepted;
  ran = ran;
}

-- what was told of a run of a RAM's code was told of that of the RAM that was read
pub ram_tells : (options : RunOptions) (watching : ℕ) (before now : ToldLists) (items : List PlanItem) (ram : RamParts) (source : Port)
    → ReadsRam source ram → (plan : List ℕ) → IsAccepted plan_form plan options.processors items → (a : Answer)
    → RunTold watching (CodeWants options watching before now items (code_of ram) (input_of (memory_of ram))) a before now
    → RamTells options watching plan source a before now
ram_tells options watching before now items ram source r plan accepted a told = (
  told.0,
  told.1,
  map_wanting {T = CodeWants options watching before now items (code_of ram) (input_of (memory_of ram))}
      {S = RamWants options watching plan before now source} lifted a told.2,
)
  where
    lifted : CodeWants options watching before now items (code_of ram) (input_of (memory_of ram)) → RamWants options watching plan before now source
    lifted w =
        map_want
        (λ (x : CodeGivenUp options before now items (code_of ram) (input_of (memory_of ram))).
        of_read options plan source (λ items ram. CodeGivenUp options before now items (code_of ram) (input_of (memory_of ram))) r.0 r.1 ram r.2 items
        accepted x)
        (λ (x : (a : Answer) × RamHas ram options watching before now items a). (
          x.0,
          of_read options plan source (λ items ram. RamHas ram options watching before now items x.0) r.0 r.1 ram r.2 items accepted x.1,
        )) w

module _ (options : RunOptions) (watching : ℕ) (plan : List ℕ) (before now : ToldLists) (source : Port) where
  abbrev May : Answer → Type 0
  May a = RamMay options watching plan before now source a

  abbrev Tells : Answer → Type 0
  Tells a = RamTells options watching plan source a before now

  -- where an answer may come, want of memory may, with what was told of it
  pub ram_wants : (a : Answer) → May a → Tells a → RamWants options watching plan before now source
  ram_wants answers.NoMemory h told = told.2
  ram_wants answers.ReadFault h told = ToldNothing told.0
  ram_wants answers.WordsRefused h told = ToldNothing told.0
  ram_wants (answers.PlanRefused number) h told = ToldNothing told.0
  ram_wants (answers.SourceRefused r) h told = ToldNothing told.0
  ram_wants (answers.ListingRefused r) h told = ToldNothing told.0
  ram_wants (answers.SavedRefused r) h told = ToldNothing told.0
  ram_wants (answers.Conflicting c) h told = ToldNothing told.0
  ram_wants (answers.ConflictingAt c read write) h told = ToldNothing told.0
  ram_wants (answers.Untidy u) h told = ToldNothing told.0
  ram_wants (answers.InputRefused r) h told = ToldNothing told.0
  ram_wants a h told = ToldWhole (
    a,
    of_read options plan source (λ items ram. RamHas ram options watching before now items a) h.0 h.1 h.2.has.ram h.2.has.is h.2.items h.2.accepted
        h.2.has.has,
  )
