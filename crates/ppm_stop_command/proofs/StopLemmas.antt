-- The answers that codes and programs have where they are stopped.
use Rattle.std.proofs.Common.{◌≡◌, ◌≤◌, ◌*◌, ℕ, List, refl, sym, ap, ◌∙◌, subst, arith, lit≤}
use Rattle.ppm_words.specs.declared.named_array.NamedArray.{NamedArray}
use Rattle.ppm_cells.specs.declared.shape.Shape.{Shape}
use Rattle.ppm_cells.specs.declared.shape.Takeover.TheVariants.{ByPlaces}
use Rattle.ppm_code.specs.declared.code.CodeParts.{CodeParts}
use Rattle.ppm_core.specs.Situation.{Situation}
use Rattle.ppm_plan.specs.declared.schedule_item.ScheduleItem.{ScheduleItem}
use Rattle.ppm_plan.specs.Forms.{schedule_form}
use Rattle.ppm_plan.specs.Refusals.{IsKeeper}
use Rattle.ppm_tree.specs.Tree.{ProgramTree}
use Rattle.ppm_tree.specs.Program.{initial_arrays}
use Rattle.ppm_cut_code.specs.Routines.{code_of}
use Rattle.ppm_answers.specs.declared.answer.Answer.{Answer}
use Rattle.ppm_answers.specs.declared.answer.Answer.TheVariants as answers
use Rattle.ppm_cli.specs.declared.stop.StopOptions.{StopOptions}
use Rattle.ppm_cli.specs.Words.{AreStopped}
use Rattle.ppm_following.specs.Followed.{followed}
use Rattle.ppm_loading.specs.declared.loading.Sizes.{Sizes}
use Rattle.ppm_loading.specs.Loading.{AreSizes, OpensRun}
use Rattle.ppm_loading.proofs.CaseLemmas.{AreCaseKinds}
use Rattle.ppm_loading.proofs.ProgramLemmas.{AreKinds}
use Rattle.ppm_saved.specs.Correct.{StateFits}
use Rattle.ppm_saved.specs.Text.{saved_text}
use Rattle.ppm_saved.specs.declared.names.NamedLength.{NamedLength}
use Rattle.ppm_saved_reader.specs.Correct.{HasState}
use Rattle.ppm_outcomes.specs.Stops.{sizes_of, names_of, text_of, IsReadBack, CodeHas, CodeReads, ProgramHas, ProgramReads}
use Rattle.ppm_loading.specs.Telling.{MayBeRun}

-- options in their ranges say sizes that a machine may have
pub stopped_sizes : (options : StopOptions) → AreStopped options → AreSizes (sizes_of options)
stopped_sizes options are =
    let processors = are.0.1 in
    let pools : options.processors * options.room ≤ 4194304 = are.4 in
    let slots = are.3.1 in
    record {
      processors_least = are.0.0;
      processors_most = omega (arith, processors);
      room_least = are.2.0;
      pools_most = omega (arith, pools);
      slots_least = are.3.0;
      slots_most = omega (arith, slots);
      arrays_most = lit≤ tt;
    }

-- the answers that a code has where it is stopped
abbrev pub IsOfCode : Answer → Type 0
IsOfCode (answers.Saved text) = Unit {0}
IsOfCode _ = ⊥

pub kinds : AreKinds IsOfCode
kinds = record { no_refusal = λ r k. k; no_fault = λ k. k; no_memory = λ k. k; no_plan = λ number k. k }

pub case_kinds : AreCaseKinds IsOfCode
case_kinds = record { no_input = λ r k. k; no_listing = λ r k. k; no_fault = λ k. k; no_memory = λ k. k; no_plan = λ number k. k }

-- what is read from the text of a machine: its state, if its code may be resumed, and only then any
pub record IsReadIf (code : CodeParts) (m : Situation) (input : List NamedArray) : Type 0 where
  pub read_back : MayBeRun code → IsReadBack m input
  pub only : HasState (text_of m input) → MayBeRun code

-- what is the same in all parts has one text
same_saved : (s z : Shape) (ns ms : List NamedLength) (c d : CodeParts) (ws vs : List ℕ) → s ≡ z → ns ≡ ms → c ≡ d → ws ≡ vs
    → saved_text s ns c ws ≡ saved_text z ms d vs
same_saved s z ns ms c d ws vs shapes names codes words = λ i. saved_text (shapes i) (names i) (codes i) (words i)

-- a machine with the sizes of `stop` takes over by places, also after the acts of a schedule
pub takes_over_by_places : (options : StopOptions) (sizes : Sizes) (code : CodeParts) (input : List NamedArray) (keeper : ℕ) (start m : Situation)
    (items : List ScheduleItem) (acts : ℕ) (s : Shape) → sizes ≡ sizes_of options → OpensRun sizes code input keeper start
    → m ≡ followed start items acts → s ≡ m.shape → s.takeover ≡ ByPlaces
takes_over_by_places options sizes code input keeper start m items acts s is_sizes opens follows is_shape =
    ap (λ (x : Shape). x.takeover) is_shape
    ∙ ap (λ (x : Situation). x.shape.takeover) follows
    ∙ ap (λ (x : Situation). x.shape.takeover) opens.loads
    ∙ opens.sized.takeover
    ∙ ap (λ (x : Sizes). x.takeover) is_sizes

module _ (options : StopOptions) (items : List ScheduleItem) where
  -- an answer of a code is of no other kind
  pub of_code : (code : CodeParts) (input : List NamedArray) (a : Answer) → CodeHas options items code input a → IsOfCode a
  of_code code input a h = subst IsOfCode (sym h.saves) tt

  pub of_code_read : (code : CodeParts) (input : List NamedArray) (a : Answer) → CodeReads options items code input a → IsOfCode a
  of_code_read code input a h = of_code code input a h.has

  -- nor is one of a program
  pub of_program : (t : ProgramTree) (a : Answer) → ProgramHas options items t a → IsOfCode a
  of_program t a h = of_code (code_of t) (initial_arrays t) a h

  pub of_reading : (t : ProgramTree) (a : Answer) → ProgramReads options items t a → IsOfCode a
  of_reading t a h = of_program t a h.has

  -- the text of the machine after the run of the schedule is the code's answer, and is read back, since all its numbers fit
  module _ (code : CodeParts) (input : List NamedArray) (keeper : ℕ) (start : Situation) where
    abbrev end : Situation
    end = followed start items options.after

    pub code_reads : (sizes : Sizes) (m : Situation) (arrays : List NamedArray) (names : List NamedLength) (s : Shape) (parts : CodeParts)
        (words text : List ℕ) → sizes ≡ sizes_of options → IsKeeper schedule_form items keeper → OpensRun sizes code input keeper start → m ≡ end
        → arrays ≡ input → names ≡ names_of arrays → s ≡ m.shape → parts ≡ m.code → words ≡ m.state.words → text ≡ saved_text s names parts words
        → StateFits names parts words
        → (OpensRun (sizes_of options) code input keeper start → StateFits (names_of input) end.code end.state.words → IsReadIf code end input)
        → CodeReads options items code input (answers.Saved text)
    code_reads sizes m arrays names s parts words text is_sizes spared opens ends is_arrays is_names is_shape is_code is_words is fits reads =
        let opened = subst (λ (z : Sizes). OpensRun z code input keeper start) is_sizes opens in
        let shape : s ≡ end.shape = is_shape ∙ ap (λ (x : Situation). x.shape) ends in
        let named : names ≡ names_of input = is_names ∙ ap names_of is_arrays in
        let coded : parts ≡ end.code = is_code ∙ ap (λ (x : Situation). x.code) ends in
        let worded : words ≡ end.state.words = is_words ∙ ap (λ (x : Situation). x.state.words) ends in
        let read = reads opened
        (subst (λ (ws : List ℕ). StateFits (names_of input) end.code ws) worded
        (subst (λ (c : CodeParts). StateFits (names_of input) c words) coded (subst (λ (ns : List NamedLength). StateFits ns parts words) named fits))) in
        record {
          has = record {
            keeper = keeper;
            spared = spared;
            start = start;
            opens = opened;
            saves = ap (λ x. answers.Saved x)
                (is ∙ same_saved s end.shape names (names_of input) parts end.code words end.state.words shape named coded worded);
          };
          read_back = read.read_back;
          only = read.only;
        }

  -- what is said of a program's code, which may be resumed, is said of the program
  pub of_program_code : (t : ProgramTree) (a : Answer) → MayBeRun (code_of t) → CodeReads options items (code_of t) (initial_arrays t) a
      → ProgramReads options items t a
  of_program_code t a may h = record { has = h.has; read_back = h.read_back may }

  -- there is one, where a machine opens
  pub some_has : (code : CodeParts) (input : List NamedArray) (keeper : ℕ) (start : Situation) → IsKeeper schedule_form items keeper
      → OpensRun (sizes_of options) code input keeper start → (a : Answer) × CodeHas options items code input a
  some_has code input keeper start spared opens = (
    answers.Saved (text_of (followed start items options.after) input),
    record { keeper = keeper; spared = spared; start = start; opens = opens; saves = refl },
  )

-- the text that is written is the saved one
pub same_text : (a b : List ℕ) → answers.Saved a ≡ answers.Saved b → a ≡ b
same_text a b e = cc
