-- Where turns and room are enough for a sound code that left a state, no other answer of its text is left but that the resumed run ended; and so for a
-- program that left it.
use Rattle.std.proofs.Common.{◌≡◌, ◌≤◌, ℕ, ◌*◌, ◌^◌, List, inl, inr, refl, sym, ap, ◌∙◌, subst, arith}
use mathlib.Core.HLevel.{is_prop→PathP}
use Rattle.std.specs.Coded.{le_prop}
use Rattle.std.specs.List.{sum}
use Rattle.ppm_ports.specs.Outside.{ToldLists}
use Rattle.ppm_cells.specs.Limits.{most_pool_words}
use Rattle.ppm_words.specs.Limits.{word_limit}
use Rattle.ppm_cells.specs.declared.shape.Shape.{Shape}
use Rattle.ppm_plan.specs.declared.plan_item.PlanItem.{PlanItem}
use Rattle.ppm_plan.specs.Correct.{HaveOneAnswer as PlansHaveOneAnswer}
use Rattle.ppm_plan.specs.Forms.{plan_form}
use Rattle.ppm_plan.specs.Refusals.{IsAccepted}
use Rattle.ppm_saved.specs.Correct.{SavedTextsTellStates}
use Rattle.ppm_saved.specs.Names.{lengths_of}
use Rattle.ppm_saved.specs.declared.names.NamedLength.{NamedLength}
use Rattle.ppm_saved_reader.specs.Correct.{IsRefusal, FaultsTellSavedTexts}
use Rattle.ppm_saved_reader.specs.declared.saved_error.Fault.TheVariants as fault
use Rattle.ppm_saved_reader.specs.declared.saved_error.SavedError.{SavedError}
use Rattle.ppm_saved_reader.specs.declared.saved_error.SavedError.TheVariants as errors
use Rattle.ppm_answers.specs.declared.answer.Answer.{Answer}
use Rattle.ppm_answers.specs.declared.answer.Answer.TheVariants as answers
use Rattle.ppm_cli.specs.declared.resume.ResumeOptions.{ResumeOptions}
use Rattle.ppm_cli.specs.Words.{AreResumed}
use Rattle.ppm_words.specs.declared.named_array.NamedArray.{NamedArray}
use Rattle.ppm_code.specs.declared.code.CodeParts.{CodeParts}
use Rattle.ppm_tree.specs.Program.{initial_arrays}
use Rattle.ppm_cut_code.specs.Routines.{code_of}
use Rattle.ppm_outcomes.specs.AsCode.{MayRun, CodeNeedsMoreRoom, CodeNeedsMoreTurns}
use Rattle.ppm_outcomes.specs.CodeResumes.{CodeWordsComeBack, IsLeftByCode, ResumesOfCodeComplete, by_code, faults_of, legs_of}
use Rattle.ppm_outcomes.specs.CompleteAsCode.{CodeIsEnough}
use Rattle.ppm_outcomes.specs.Completeness.{IsEnd}
use Rattle.ppm_outcomes.specs.Legs.{lost_in_all, worked_in_all}
use Rattle.ppm_outcomes.specs.LegsAsCode.{RunsInLegsAreAsCode}
use Rattle.ppm_outcomes.specs.ProgramsAsCode.{ProgramsAreAsCode}
use Rattle.ppm_outcomes.specs.ResumeCompleteness.{ResumesComplete}
use Rattle.ppm_outcomes.specs.Resumes.{SavedState, IsTextOf, ResumedHas, ItemsHave, StateHas, TextHas}
use Rattle.ppm_outcomes.proofs.ResumeLemmas.{spent_has, has_kind}
use Rattle.ppm_outcomes.proofs.ResumedOfCode.{left_stands, resumed_breaks, resumed_full, resumed_is, resumed_loses, resumed_needs_turns}

-- what the crates below show of every text, every plan and every run in legs
pub record Laws : Type 0 where
  pub runs : RunsInLegsAreAsCode
  pub comes : CodeWordsComeBack
  pub plans : PlansHaveOneAnswer
  pub states : SavedTextsTellStates
  pub faults : FaultsTellSavedTexts

-- shapes with the same sizes and the same takeover are one
one_shape : (s u : Shape) → s.processors ≡ u.processors → s.room ≡ u.room → s.slots ≡ u.slots → s.arrays ≡ u.arrays → s.takeover ≡ u.takeover → s ≡ u
one_shape s u p r l a t = λ i. record {
  processors = p i;
  room = r i;
  slots = l i;
  arrays = a i;
  takeover = t i;
  within = record {
    processors_least = is_prop→PathP (λ j. 1 ≤ p j) (λ j. le_prop) s.within.processors_least u.within.processors_least i;
    processors_most = is_prop→PathP (λ j. p j ≤ 64) (λ j. le_prop) s.within.processors_most u.within.processors_most i;
    room_least = is_prop→PathP (λ j. 64 ≤ r j) (λ j. le_prop) s.within.room_least u.within.room_least i;
    pools_most = is_prop→PathP (λ j. p j * r j ≤ most_pool_words) (λ j. le_prop) s.within.pools_most u.within.pools_most i;
    slots_least = is_prop→PathP (λ j. 2 ≤ l j) (λ j. le_prop) s.within.slots_least u.within.slots_least i;
    slots_most = is_prop→PathP (λ j. l j ≤ 65536) (λ j. le_prop) s.within.slots_most u.within.slots_most i;
    arrays_most = is_prop→PathP (λ j. a j ≤ word_limit) (λ j. le_prop) s.within.arrays_most u.within.arrays_most i;
  };
}

module _ (laws : Laws) where
  -- a text is that of one state
  one_state : (text : List ℕ) (x y : SavedState) → IsTextOf text x → IsTextOf text y → x ≡ y
  one_state text x y a b =
      let k = laws.states x.shape y.shape x.arrays y.arrays x.code y.code x.words y.words a.saved.fits b.saved.fits (sym a.saved.same ∙ b.saved.same) in
      let lengths = sym a.saved.whole.arrays_are ∙ ap (λ (l : List NamedLength). sum (lengths_of l)) k.arrays ∙ b.saved.whole.arrays_are in
      let shape = one_shape x.shape y.shape k.processors k.room k.slots lengths (a.saved.by_places ∙ sym b.saved.by_places) in
      λ i. record { shape = shape i; arrays = k.arrays i; code = k.code i; words = k.words i }

  -- and is not refused
  refused_none : (text : List ℕ) (z : SavedState) → IsTextOf text z → (error : SavedError) → IsRefusal text error → (error ≡ errors.NoMemory → ⊥) → ⊥
  refused_none text z is errors.NoMemory h other = other refl
  refused_none text z is (errors.NoSuchForm line) h other = laws.faults.excludes text z.shape z.arrays z.code z.words fault.NoSuchForm line is.saved h
  refused_none text z is (errors.OutOfRange line) h other = laws.faults.excludes text z.shape z.arrays z.code z.words fault.OutOfRange line is.saved h
  refused_none text z is (errors.BadListing line) h other = laws.faults.excludes text z.shape z.arrays z.code z.words fault.BadListing line is.saved h
  refused_none text z is (errors.BadCode line) h other = laws.faults.excludes text z.shape z.arrays z.code z.words fault.BadCode line is.saved h
  refused_none text z is (errors.WrongCount line) h other = laws.faults.excludes text z.shape z.arrays z.code z.words fault.WrongCount line is.saved h

  module _ (options : ResumeOptions) (are : AreResumed options) (before now : ToldLists) (items : List PlanItem) (code : CodeParts) (input : List NamedArray)
      (may : MayRun code input) (z : SavedState) (left : IsLeftByCode code input z)
      (enough : CodeIsEnough code input (faults_of left items) options.turns z.shape.room) where
    abbrev Resumed : Answer → Type 0
    Resumed a = ResumedHas options before now items z a

    module _ (a : Answer) (h : Resumed a) where
      -- no more rows are lost than turns are enough for
      lost : lost_in_all left.start (legs_of left h.start.state.words) h.run.turns ≤ faults_of left items
      lost = resumed_loses laws.runs laws.comes code input may z left options before now items a h

      -- all work turns are few
      few_works : worked_in_all left.start (legs_of left h.start.state.words) h.run.turns ≤ 2 ^ 34
      few_works =
          let less = (resumed_is laws.runs laws.comes code input may z left options before now items a h).work enough.end enough.comes in
          let some = enough.for_turns in
          let counted = lost in
          let most : options.turns ≤ 268435456 = are.0.1 in
          omega (arith, less, some, counted, most)

      -- enough turns are not too few
      not_few : CodeNeedsMoreTurns code input (lost_in_all left.start (legs_of left h.start.state.words) h.run.turns) options.turns → ⊥
      not_few needs =
          let few = needs enough.end enough.comes in let some = enough.for_turns in let counted = lost in omega (arith, few, some, counted)

    -- enough room is not too little
    not_little : CodeNeedsMoreRoom code input z.shape.room → ⊥
    not_little needs =
        let more = needs enough.end enough.comes in let some = enough.for_room in omega (arith, more, some)

    items_end : (a : Answer) → ItemsHave options before now items z a → IsEnd a
    items_end (answers.Ended arrays) h = tt
    items_end (answers.Trapped trap line) h = tt
    items_end (answers.OutOfTurns c) h =
        let spent = spent_has options before now items z c h in
        absurd (not_few (answers.OutOfTurns c) h (resumed_needs_turns laws.runs laws.comes code input may z left options before now items c h spent.1))
    items_end (answers.OutOfRoom place) h =
        absurd (not_little (resumed_full laws.runs laws.comes code input may z left options before now items place h).1)
    items_end (answers.Broken place) (inl k) = absurd (left_stands laws.runs laws.comes code input may z left k.0.none)
    items_end (answers.Broken place) (inr h) =
        let much = resumed_breaks laws.runs laws.comes code input may z left options before now items place h in
        let few = few_works (answers.Broken place) h in
        absurd (omega (arith, much, few))
    items_end a h = absurd (has_kind options before now items z a h)

  module _ (options : ResumeOptions) (are : AreResumed options) (text : List ℕ) (z : SavedState) (is : IsTextOf text z) (plan : List ℕ)
      (items : List PlanItem) (accepted : IsAccepted plan_form plan z.shape.processors items)
      (code : CodeParts) (input : List NamedArray) (may : MayRun code input) (left : IsLeftByCode code input z)
      (enough : CodeIsEnough code input (faults_of left items) options.turns z.shape.room) (before now : ToldLists) where
    -- the text's state is this one, and the plan's items are these
    state_ends : (a : Answer) → StateHas options plan before now z a → IsEnd a
    state_ends (answers.PlanRefused number) h = absurd (laws.plans.plans.apart plan z.shape.processors items h.error h.of_text accepted h.refused)
    state_ends a h =
        items_end options are before now items code input may z left enough a
        (subst (λ (l : List PlanItem). ItemsHave options before now l z a) (laws.plans.plans.items plan h.items items h.accepted.has accepted.has) h.has)

    text_ends : (a : Answer) → TextHas options plan before now text a → IsEnd a
    text_ends (answers.SavedRefused r) h = absurd (refused_none text z is h.error h.refused h.of_text)
    text_ends a h = state_ends a (subst (λ (x : SavedState). StateHas options plan before now x a) (one_state text h.state z h.is is) h.has)

-- this holds with all options and plans
pub resumes_of_code_complete : Laws → ResumesOfCodeComplete
resumes_of_code_complete laws options are text z is plan items accepted code input may left enough before now a h =
    text_ends laws options are text z is plan items accepted code input may left enough before now a h

-- and with each program
pub resumes_complete : ProgramsAreAsCode → ResumesOfCodeComplete → ResumesComplete
resumes_complete programs complete options are text z is plan items accepted source left enough before now a h =
    complete options are text z is plan items accepted (code_of left.tree) (initial_arrays left.tree) (programs source left.tree left.has).may (by_code left)
    (record { end = enough.end; comes = enough.comes; for_turns = enough.for_turns; for_room = enough.for_room }) before now a h
