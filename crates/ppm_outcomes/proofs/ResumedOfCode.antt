-- A run from a state that a sound code left: with the legs before it is as the code, and what it says follows.
use Rattle.std.proofs.Common.{◌≡◌, ◌≢◌, ◌≤◌, ◌<◌, ◌+◌, ◌*◌, ◌^◌, ℕ, suc, List, [], ◌∷◌, length, map, Some, None, refl, sym, ap, ◌∙◌, subst, arith}
use Rattle.std.specs.List.{AllByRecursion}
use Rattle.std.proofs.lemmas.List.Elements.{recursion_from_All}
use Rattle.ppm_words.specs.TwosComplement.{value_of}
use Rattle.ppm_words.specs.declared.named_array.NamedArray.{NamedArray}
use Rattle.ppm_words.specs.declared.outcome.Outcome.TheVariants as outcome
use Rattle.ppm_words.specs.declared.trap.Trap.{Trap}
use Rattle.ppm_ports.specs.Outside.{ToldLists}
use Rattle.ppm_cells.specs.Finish.{finish_of}
use Rattle.ppm_cells.specs.Memory.{read}
use Rattle.ppm_cells.specs.declared.cell.Cell.TheVariants.{FinishWord}
use Rattle.ppm_cells.specs.declared.finish.Finish.{Finish}
use Rattle.ppm_cells.specs.declared.shape.Shape.{Shape}
use Rattle.ppm_code.specs.declared.code.CodeParts.{CodeParts}
use Rattle.ppm_core.specs.Situation.{Situation}
use Rattle.ppm_plan.specs.declared.plan_item.PlanItem.{PlanItem}
use Rattle.ppm_step.specs.Among.{IsTurnAmong}
use Rattle.ppm_step.specs.State.{State, after, along, opening, work_of}
use Rattle.ppm_step.specs.declared.turn.Turn.{Turn}
use Rattle.ppm_paces.specs.Paces.{strikes_of}
use Rattle.ppm_choice.specs.Deeds.{work_made}
use Rattle.ppm_runs.specs.Legs.{Leg, GoOn}
use Rattle.ppm_saved.specs.Names.{lengths_of}
use Rattle.ppm_answers.specs.declared.answer.Answer.{Answer}
use Rattle.ppm_answers.specs.declared.answer.Answer.TheVariants as answers
use Rattle.ppm_cli.specs.declared.resume.ResumeOptions.{ResumeOptions}
use Rattle.ppm_loading.specs.Says.{array_words, arrays_from, IsOfFinish}
use Rattle.ppm_loading.proofs.LoadingLemmas.{opens_lengths}
use Rattle.ppm_loading.proofs.SayLemmas.{said_of_word}
use Rattle.ppm_outcomes.specs.AsCode.{MayRun, CodeNeedsMoreRoom, CodeNeedsMoreTurns}
use Rattle.ppm_outcomes.specs.CodeResumes.{CodeWordsComeBack, IsLeftByCode, IsAsResumed, LeftWordsStand, ResumesAreAsCode, SaysAsResumed}
use Rattle.ppm_outcomes.specs.CodeResumes.{ResumesOfCodeLeaveStates, faults_of, legs_of}
use Rattle.ppm_outcomes.specs.Legs.{words_at_last, finish_at_last, worked_in_all, lost_in_all}
use Rattle.ppm_outcomes.specs.LegsAsCode.{EndsAsCodeInAll, IsAsCodeInAll, RunsInLegsAreAsCode}
use Rattle.ppm_outcomes.specs.Meant.{struck_in}
use Rattle.ppm_outcomes.specs.Resumes.{SavedState, GoesOnFrom, named, limits_of, plan_of, saved_finish, ResumedHas}
use Rattle.ppm_outcomes.specs.RunOf.{words_behind, finish_behind}
use Rattle.ppm_outcomes.specs.Stops.{names_of}
use Rattle.ppm_outcomes.proofs.MeantRows.{ended_run, trapped_run, full_run, broken_run}
use Rattle.ppm_outcomes.proofs.ResumeLemmas.{spent_has, has_kind, saved_or_none}
use Rattle.ppm_outcomes.proofs.StrikeLemmas.{strikes_are_planned}
use Rattle.ppm_outcomes.proofs.WorkLemmas.{of_all}

-- arrays are read off by their names
named_alike : (s : Shape) (lengths words : List ℕ) (number : ℕ) (arrays : List NamedArray)
    → arrays_from s lengths words number (named (names_of arrays)) ≡ arrays_from s lengths words number arrays
named_alike s lengths words number [] = refl
named_alike s lengths words number (a ∷ arrays) =
    ap (λ (l : List NamedArray). record { name = a.name; values = map value_of (array_words s lengths words number) } ∷ l)
    (named_alike s lengths words (number + 1) arrays)

lengths_alike : (arrays : List NamedArray) → lengths_of (names_of arrays) ≡ map (λ (a : NamedArray). length a.values) arrays
lengths_alike [] = refl
lengths_alike (a ∷ arrays) = ap (λ (l : List ℕ). length a.values ∷ l) (lengths_alike arrays)

module _ (law : RunsInLegsAreAsCode) (comes : CodeWordsComeBack) (code : CodeParts) (input : List NamedArray) (may : MayRun code input)
    (z : SavedState) (left : IsLeftByCode code input z) where
  abbrev m : Situation
  m = left.start

  -- a finish word that was left stands for something
  pub left_stands : finish_of (saved_finish z) ≢ None
  left_stands none =
      let before = law code input may left.sizes left.places left.keeper m left.opens left.legs left.are left.turns left.among in
      let same : saved_finish z ≡ finish_at_last m left.legs left.turns =
      ap (λ (s : Shape). read s z.words FinishWord) left.shape_is ∙ ap (λ (w : List ℕ). read m.shape w FinishWord) left.words_are in
      before.stands (ap finish_of (sym same) ∙ none)

  -- a run from a state that was left
  module _ (start : Situation) (on : GoesOnFrom z start) (turns : List Turn) (all : AllByRecursion (IsTurnAmong start.shape.processors) turns) where
    abbrev back : List ℕ
    back = start.state.words

    abbrev legs : List Leg
    legs = legs_of left back

    pub shape_is : start.shape ≡ m.shape
    shape_is = ap (λ (x : Situation). x.shape) on.loads ∙ left.shape_is

    pub code_is : start.code ≡ m.code
    code_is = ap (λ (x : Situation). x.code) on.loads ∙ left.code_is

    back_is : back ≡ on.words
    back_is = ap (λ (x : Situation). x.state.words) on.loads

    pub state_is : start.state ≡ opening back start.shape.processors
    state_is = subst (λ (x : Situation). x.state ≡ opening x.state.words x.shape.processors) (sym on.loads) refl

    goes_on : GoOn m.shape (words_at_last m left.legs left.turns) back
    goes_on =
        subst (λ (s : Shape). GoOn s (words_at_last m left.legs left.turns) back) left.shape_is
        (subst (λ (w : List ℕ). GoOn z.shape w back) left.words_are
        (subst (λ (w : List ℕ). GoOn z.shape z.words w) (sym back_is)
        (record { renewal = comes code input may z left on.words on.renewed; finish = saved_or_none z on.words on.renewed })))

    -- over all of it
    pub is_as_code : IsAsCodeInAll m legs turns code input
    is_as_code =
        law code input may left.sizes left.places left.keeper m left.opens legs (left.are, left.among, goes_on) turns
        (subst (λ (s : Shape). AllByRecursion (IsTurnAmong s.processors) turns) shape_is all)

    words_are : words_behind start turns ≡ words_at_last m legs turns
    words_are =
        ap (λ (x : State). (after start.shape start.code x turns).words) state_is
        ∙ (λ i. (after (shape_is i) (code_is i) (opening back (shape_is i).processors) turns).words)

    pub finish_is : finish_behind start turns ≡ finish_at_last m legs turns
    finish_is = ap (λ (w : List ℕ). read start.shape w FinishWord) words_are ∙ ap (λ (s : Shape). read s (words_at_last m legs turns) FinishWord) shape_is

    -- the arrays of the words then
    lengths_are : start.array_lengths ≡ m.array_lengths
    lengths_are =
        ap (λ (x : Situation). x.array_lengths) on.loads ∙ ap lengths_of left.arrays_are ∙ lengths_alike input
        ∙ sym (opens_lengths left.sizes code input left.keeper m left.opens)

    pub arrays_are : arrays_from start.shape start.array_lengths (words_behind start turns) 0 (named z.arrays)
        ≡ arrays_from m.shape m.array_lengths (words_at_last m legs turns) 0 input
    arrays_are =
        (λ i. arrays_from (shape_is i) (lengths_are i) (words_are i) 0 (named (left.arrays_are i)))
        ∙ named_alike m.shape m.array_lengths (words_at_last m legs turns) 0 input

    -- the work of all is that of the legs before and of these turns
    pub work_split : worked_in_all m legs turns ≡ worked_in_all m left.legs left.turns + length (along start.shape start.code work_of start.state turns)
    work_split =
        let same : length (along start.shape start.code work_of start.state turns)
        ≡ length (along m.shape m.code work_of (opening back m.shape.processors) turns) =
        ap (λ (x : State). length (along start.shape start.code work_of x turns)) state_is
        ∙ (λ i. length (along (shape_is i) (code_is i) work_of (opening back (shape_is i).processors) turns)) in
        omega (arith, same)

    pub work_is : length (along start.shape start.code work_of start.state turns) ≤ worked_in_all m legs turns
    work_is = let all = work_split in omega (arith, all)

    -- the state after them is left too
    pub left_again : length left.legs + 1 < 2 ^ 50
        → IsLeftByCode code input (record { shape = z.shape; arrays = z.arrays; code = z.code; words = words_behind start turns })
    left_again few = record {
      sizes = left.sizes;
      places = left.places;
      keeper = left.keeper;
      start = m;
      opens = left.opens;
      legs = legs;
      are = (left.are, left.among, goes_on);
      turns = turns;
      among = subst (λ (s : Shape). AllByRecursion (IsTurnAmong s.processors) turns) shape_is all;
      shape_is = left.shape_is;
      code_is = left.code_is;
      arrays_are = left.arrays_are;
      words_are = words_are;
      few = omega (arith, few);
    }

  -- a run that an answer of the state is of
  module _ (options : ResumeOptions) (before now : ToldLists) (items : List PlanItem) where
    abbrev Resumed : Answer → Type 0
    Resumed a = ResumedHas options before now items z a

    abbrev pub among : (a : Answer) (h : Resumed a) → AllByRecursion (IsTurnAmong h.start.shape.processors) h.run.turns
    among a h = recursion_from_All (IsTurnAmong h.start.shape.processors) h.run.turns h.run.obey.among

    -- the legs before it
    abbrev legs_at : (a : Answer) (h : Resumed a) → List Leg
    legs_at a h = legs_of left h.start.state.words

    pub resumed_is : (a : Answer) (h : Resumed a) → IsAsCodeInAll m (legs_at a h) h.run.turns code input
    resumed_is a h = is_as_code h.start h.goes_on h.run.turns (among a h)

    -- the finish that is said
    said : (a : Answer) (h : Resumed a) → (finish : Finish) × (finish_of (finish_behind h.start h.run.turns) ≡ Some finish)
        × IsOfFinish h.start.shape h.start.array_lengths (words_behind h.start h.run.turns) answers.Ended answers.Trapped
        (λ processor x. x ≡ answers.OutOfTurns processor) (λ x. ⊥) (named z.arrays) finish a
    said a h = said_of_word answers.Ended answers.Trapped (λ processor x. x ≡ answers.OutOfTurns processor) (λ x. ⊥) h.start.shape
        h.start.array_lengths (words_behind h.start h.run.turns) (named z.arrays) (finish_behind h.start h.run.turns) a (λ none. none) h.run.says

    -- the finish word after all legs says it too
    says_at_last : (a : Answer) (h : Resumed a) (finish : Finish) → (said a h).0 ≡ finish
        → finish_of (finish_at_last m (legs_at a h) h.run.turns) ≡ Some finish
    says_at_last a h finish is =
        ap finish_of (sym (finish_is h.start h.goes_on h.run.turns (among a h))) ∙ (said a h).1 ∙ ap (λ (f : Finish). Some f) is

    pub resumed_ends : (arrays : List NamedArray) (h : Resumed (answers.Ended arrays))
        → EndsAsCodeInAll m (legs_of left h.start.state.words) h.run.turns code input (outcome.Ended arrays)
    resumed_ends arrays h =
        let a = answers.Ended arrays in
        let k = said a h in
        let e = ended_run h.start.shape h.start.array_lengths (words_behind h.start h.run.turns) (named z.arrays) k.0 arrays k.2 in
        subst (λ (l : List NamedArray). EndsAsCodeInAll m (legs_of left h.start.state.words) h.run.turns code input (outcome.Ended l))
        (sym (e.1 ∙ arrays_are h.start h.goes_on h.run.turns (among a h)))
        ((resumed_is a h).ended (says_at_last a h _ e.0))

    pub resumed_traps : (trap : Trap) (line : ℕ) (h : Resumed (answers.Trapped trap line))
        → EndsAsCodeInAll m (legs_of left h.start.state.words) h.run.turns code input (outcome.Trapped trap line)
    resumed_traps trap line h =
        let a = answers.Trapped trap line in
        let k = said a h in
        let e = trapped_run h.start.shape h.start.array_lengths (words_behind h.start h.run.turns) (named z.arrays) k.0 trap line k.2 in
        (resumed_is a h).trapped trap line (says_at_last a h _ e)

    -- a full pool is one of a place, and the code needs more of it
    pub resumed_full : (place : ℕ) (h : Resumed (answers.OutOfRoom place)) → (place < z.shape.processors) × CodeNeedsMoreRoom code input z.shape.room
    resumed_full place h =
        let a = answers.OutOfRoom place in
        let k = said a h in
        let e = full_run h.start.shape h.start.array_lengths (words_behind h.start h.run.turns) (named z.arrays) k.0 place k.2 in
        subst (λ (s : Shape). (place < s.processors) × CodeNeedsMoreRoom code input s.room) (sym left.shape_is)
        ((resumed_is a h).full place (says_at_last a h _ e))

    -- a processor that has made all its turns shows that they are too few
    pub resumed_needs_turns : (c : ℕ) (h : Resumed (answers.OutOfTurns c)) → work_made h.start.shape h.start.code c h.start.state h.run.turns ≡ options.turns
        → CodeNeedsMoreTurns code input (lost_in_all m (legs_of left h.start.state.words) h.run.turns) options.turns
    resumed_needs_turns c h made e ends =
        let within = (resumed_is (answers.OutOfTurns c) h).work e ends in
        let part = work_is h.start h.goes_on h.run.turns (among (answers.OutOfTurns c) h) in
        let mine = of_all h.start.shape h.start.code c h.start.state h.run.turns in
        omega (arith, within, part, mine, made)

    -- no more rows of work are lost than those before, one of each place, and one by each fault of the plan
    pub resumed_loses : (a : Answer) (h : Resumed a) → lost_in_all m (legs_of left h.start.state.words) h.run.turns ≤ faults_of left items
    resumed_loses a h =
        let few = strikes_are_planned (plan_of z items) (limits_of options) h.start h.run.turns h.run.obey in
        let all = among a h in
        let at = state_is h.start h.goes_on h.run.turns all in
        let shape = shape_is h.start h.goes_on h.run.turns all in
        let parts = code_is h.start h.goes_on h.run.turns all in
        let same : struck_in h.start h.run.turns ≡ length (along m.shape m.code strikes_of (opening h.start.state.words m.shape.processors) h.run.turns) =
        ap (λ (x : State). length (along h.start.shape h.start.code strikes_of x h.run.turns)) at
        ∙ (λ i. length (along (shape i) (parts i) strikes_of (opening h.start.state.words (shape i).processors) h.run.turns)) in
        let more = times_more m.shape.processors (length left.legs) in
        omega (arith, few, same, more)
      where
        times_more : (n k : ℕ) → n * suc k ≡ n * k + n
        times_more n k = grind arith

    -- broken words are met late
    pub resumed_breaks : (place : ℕ) (h : Resumed (answers.Broken place))
        → 2 ^ 34 + 2 ^ 28 < worked_in_all m (legs_of left h.start.state.words) h.run.turns
    resumed_breaks place h =
        let a = answers.Broken place in
        let k = said a h in
        let e = broken_run h.start.shape h.start.array_lengths (words_behind h.start h.run.turns) (named z.arrays) k.0 place k.2 in
        let few = left.few in
        (resumed_is a h).unbroken (omega (arith, few)) place (says_at_last a h _ e)

    -- an answer says so
    says : (a : Answer) (h : Resumed a) → SaysAsResumed left options.turns h.start.state.words h.run.turns a
    says (answers.Ended arrays) h = resumed_ends arrays h
    says (answers.Trapped trap line) h = resumed_traps trap line h
    says (answers.OutOfTurns c) h = resumed_needs_turns c h (spent_has options before now items z c h).1
    says (answers.OutOfRoom place) h = resumed_full place h
    says (answers.Broken place) h = resumed_breaks place h
    says a h = absurd (has_kind options before now items z a h)

    pub resumed_as_code : (a : Answer) (h : Resumed a) → IsAsResumed h left
    resumed_as_code a h = record { as_code = resumed_is a h; lost = resumed_loses a h; says = says a h }

-- this holds with each sound code
pub resumes_are_as_code : RunsInLegsAreAsCode → CodeWordsComeBack → (options : ResumeOptions) (before now : ToldLists) → ResumesAreAsCode options before now
resumes_are_as_code law comes options before now items z a h code input may left =
    resumed_as_code law comes code input may z left options before now items a h

pub left_words_stand : RunsInLegsAreAsCode → CodeWordsComeBack → LeftWordsStand
left_words_stand law comes code input may z left = left_stands law comes code input may z left

pub resumes_of_code_leave_states : RunsInLegsAreAsCode → CodeWordsComeBack → ResumesOfCodeLeaveStates
resumes_of_code_leave_states law comes code input may z left few start on turns all =
    left_again law comes code input may z left start on turns all few
