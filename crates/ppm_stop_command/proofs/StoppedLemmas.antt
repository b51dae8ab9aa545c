-- What was written by `stop` is the text of a state that its code left; so what `resume` says of such a state holds of that code, and of the source
-- whose program has it.
use Rattle.std.proofs.Common.{◌≡◌, ◌≤◌, ◌*◌, ℕ, List, length, inl, inr, sym, ap, ◌∙◌, subst, arith}
use Rattle.std.proofs.lemmas.Nat.{mul-le}
use Rattle.ppm_words.specs.declared.named_array.NamedArray.{NamedArray}
use Rattle.ppm_words.specs.declared.outcome.Outcome.TheVariants as outcome
use Rattle.ppm_ports.specs.Outside.{ToldLists, Outside, Ports}
use Rattle.ppm_answers.specs.declared.answer.Answer.{Answer}
use Rattle.ppm_answers.specs.declared.answer.Answer.TheVariants as answers
use Rattle.ppm_cli.specs.declared.resume.ResumeOptions.{ResumeOptions}
use Rattle.ppm_cli.specs.declared.stop.StopOptions.{StopOptions}
use Rattle.ppm_cli.specs.Words.{AreStopped, AreResumed}
use Rattle.ppm_cells.specs.declared.shape.Shape.{Shape}
use Rattle.ppm_code.specs.declared.code.CodeParts.{CodeParts}
use Rattle.ppm_core.specs.Situation.{Situation}
use Rattle.ppm_choice.specs.Schedules.{schedule_turns}
use Rattle.ppm_plan.specs.declared.plan_item.PlanItem.{PlanItem}
use Rattle.ppm_plan.specs.declared.schedule_item.ScheduleItem.{ScheduleItem}
use Rattle.ppm_plan.specs.Forms.{plan_form}
use Rattle.ppm_plan.specs.Refusals.{IsAccepted}
use Rattle.ppm_tree.specs.Tree.{ProgramTree}
use Rattle.ppm_tree.specs.Program.{initial_arrays}
use Rattle.ppm_program.specs.Programs.{HasProgram}
use Rattle.ppm_program.specs.Correct.{HaveOneAnswer as TextsHaveOneProgram}
use Rattle.ppm_cut_code.specs.Routines.{code_of}
use Rattle.ppm_following.specs.Followed.{followed}
use Rattle.ppm_loading.proofs.LoadingLemmas.{opens_processors, opens_room}
use Rattle.ppm_runs.specs.Legs.{Leg}
use Rattle.ppm_saved_reader.specs.Correct.{IsSavedText}
use Rattle.ppm_saved_reader.specs.Rules.{saved_limit}
use Rattle.ppm_step.specs.State.{along, work_of}
use Rattle.ppm_outcomes.specs.AsCode.{MayRun}
use Rattle.ppm_outcomes.specs.CodeResumes.{CodeWordsComeBack, IsLeftByCode, IsTextLeftByCode, ResumesOfCodeComplete, faults_of}
use Rattle.ppm_outcomes.specs.CompleteAsCode.{CodeIsEnough}
use Rattle.ppm_outcomes.specs.Completeness.{IsEnough, IsEnd}
use Rattle.ppm_outcomes.specs.LegsAsCode.{RunsInLegsAreAsCode}
use Rattle.ppm_outcomes.specs.ResumeCompleteness.{lost_with}
use Rattle.ppm_outcomes.specs.ResumeLaws.{ResumeLaws}
use Rattle.ppm_stop_command.specs.ResumeRows.{WritesArrays, WritesTrap, WritesBroken}
use Rattle.ppm_outcomes.specs.Resumes.{SavedState, IsTextOf, IsNoText, ItemsHave, TextHas, IsLeftBy, IsTextLeftBy, StopsLeaveStates}
use Rattle.ppm_outcomes.specs.Resumes.{state_behind, plan_of, limits_of}
use Rattle.ppm_stop_command.specs.StopRows.{HasRead, WritesSaved}
use Rattle.ppm_stop_command.specs.Stopped.{IsOutcomeOf, ResumesStopped, StoppedRunsGoOn}
use Rattle.ppm_outcomes.specs.Stops.{CodeHas, IsReadBack, sizes_of, text_of}
use Rattle.ppm_outcomes.specs.Strikes.{scheduled_faults}
use Rattle.ppm_outcomes.proofs.LeftLemmas.{text_by_code}
use Rattle.ppm_outcomes.proofs.ResumedOfCode.{among, left_stands, resumed_breaks, work_split}
use Rattle.ppm_stop_command.proofs.StopLemmas.{same_text}
use Rattle.ppm_outcomes.proofs.WorkLemmas.{obeyed_work}

-- what is saved of the text that was read is left by it
pub saved_left : StopsLeaveStates → (stop : StopOptions) → AreStopped stop → (schedule : List ℕ) (p : Ports) (text : List ℕ)
    (read : HasRead stop schedule p (answers.Saved text)) → IsTextLeftBy read.0 (scheduled_faults read.2.items) text
saved_left law stop are schedule p text read =
    let h = read.2 in
    let k = law stop are schedule h.items h.accepted read.0 h.has.0 h.has.1 (answers.Saved text) h.has.2 in
    subst (IsTextLeftBy read.0 (scheduled_faults h.items)) (sym (same_text text k.0 k.1)) k.2

-- the state of a text that `stop` wrote has the sizes that its options say
module _ (stop : StopOptions) (items : List ScheduleItem) (code : CodeParts) (input : List NamedArray) (answer : Answer)
    (h : CodeHas stop items code input answer) where
  abbrev pub saved_state : SavedState
  saved_state = state_behind h.start input (schedule_turns h.start.shape h.start.code h.start.state items stop.after)

  -- a text of that is one of it
  pub is_state : (text : List ℕ) → text ≡ text_of (followed h.start items stop.after) input → length text ≤ saved_limit
      → IsReadBack (followed h.start items stop.after) input → IsTextOf text saved_state
  is_state text saves short back = record {
    short = short;
    saved = subst (λ (t : List ℕ). IsSavedText t saved_state.shape saved_state.arrays saved_state.code saved_state.words) (sym saves) back;
  }

  pub count_is : (z : SavedState) → saved_state ≡ z → z.shape.processors ≡ stop.processors
  count_is z is = sym (ap (λ (x : SavedState). x.shape.processors) is) ∙ opens_processors (sizes_of stop) code input h.keeper h.start h.opens

  pub room_is : (z : SavedState) → saved_state ≡ z → z.shape.room ≡ stop.room
  room_is z is = sym (ap (λ (x : SavedState). x.shape.room) is) ∙ opens_room (sizes_of stop) code input h.keeper h.start h.opens

-- what goes on from the text of a state that a code left, by turns of one machine alone, with so many faults
module _ (code : CodeParts) (input : List NamedArray) (faults : ℕ) (text : List ℕ) (l : IsTextLeftByCode code input faults text)
    (processors room : ℕ) (count : l.state.shape.processors ≡ processors) where
  -- it was left by no more faults than these
  few_faults : (items : List PlanItem) → faults_of l.by items ≤ lost_with faults processors items
  few_faults items =
      let struck = l.struck in
      let none : l.by.start.shape.processors * length l.by.legs ≡ 0 =
      ap (λ (legs : List Leg). l.by.start.shape.processors * length legs) l.alone ∙ times_none l.by.start.shape.processors in
      let same : l.state.shape.processors ≡ l.by.start.shape.processors = ap (λ (s : Shape). s.processors) l.by.shape_is in
      omega (arith, struck, none, same, count)
    where
      times_none : (n : ℕ) → n * 0 ≡ 0
      times_none n = omega arith

  -- each state that is read from it is left so
  pub left_of : (z : SavedState) → IsTextOf text z → IsLeftByCode code input z
  left_of z is = subst (λ (x : SavedState). IsLeftByCode code input x) (sym (l.one z is)) l.by

  module _ (law : RunsInLegsAreAsCode) (comes : CodeWordsComeBack) (may : MayRun code input) (options : ResumeOptions) (resumed : AreResumed options)
      (before now : ToldLists) where
    -- both runs together make no more work than broken words ask for
    breaks_never : (items : List PlanItem) (place : ℕ) → ItemsHave options before now items l.state (answers.Broken place) → ⊥
    breaks_never items place (inl k) = left_stands law comes code input may l.state l.by k.0.none
    breaks_never items place (inr h) =
        let all = among law comes code input may l.state l.by options before now items (answers.Broken place) h in
        let split = work_split law comes code input may l.state l.by h.start h.goes_on h.run.turns all in
        let own = subst (λ (s : Shape). length (along h.start.shape h.start.code work_of h.start.state h.run.turns) ≤ s.processors * options.turns)
        (ap (λ (x : Situation). x.shape) h.goes_on.loads)
        (obeyed_work h.start.shape h.start.code (plan_of l.state items) (limits_of options) h.start.state h.run.turns h.run.obey all) in
        let most = mul-le l.state.shape.processors options.turns 64 268435456 l.small resumed.0.1 in
        let late = resumed_breaks law comes code input may l.state l.by options before now items place h in
        let work = l.work in
        omega (arith, late, split, own, work, most)

    pub never_broken : (z : SavedState) → IsTextOf text z → (items : List PlanItem) (place : ℕ)
        → ItemsHave options before now items z (answers.Broken place) → ⊥
    never_broken z is items place h =
        breaks_never items place (subst (λ (x : SavedState). ItemsHave options before now items x (answers.Broken place)) (l.one z is) h)

  -- turns and room that are enough for the code and all of these faults are so for the state's
  pub completes_there : ResumesOfCodeComplete → MayRun code input → l.state.shape.room ≡ room → (options : ResumeOptions) → AreResumed options
      → (plan : List ℕ) (items : List PlanItem) → IsAccepted plan_form plan processors items
      → CodeIsEnough code input (lost_with faults processors items) options.turns room
      → (before now : ToldLists) (answer : Answer) → TextHas options plan before now text answer → IsEnd answer
  completes_there complete may same options resumed plan items accepted enough before now answer h =
      complete options resumed text l.state l.is plan items (subst (λ (n : ℕ). IsAccepted plan_form plan n items) (sym count) accepted) code input may l.by
      (record {
        end = enough.end;
        comes = enough.comes;
        for_turns = let some = enough.for_turns in let less = few_faults items in omega (arith, some, less);
        for_room = let much = enough.for_room in omega (arith, much, same);
      }) before now answer h

-- of a program: what is said of its code is said of its source
module _ (laws : ResumeLaws) (law : StopsLeaveStates) (texts : TextsHaveOneProgram) (stop : StopOptions) (are : AreStopped stop) (schedule : List ℕ)
    (p : Ports) (w : WritesSaved stop schedule p) where
  abbrev source : List ℕ
  source = w.read.0

  abbrev faults : ℕ
  faults = scheduled_faults w.read.2.items

  text_left : IsTextLeftBy source faults w.text
  text_left = saved_left law stop are schedule p w.text w.read

  abbrev tree : ProgramTree
  tree = text_left.by.tree

  abbrev code_left : IsTextLeftByCode (code_of tree) (initial_arrays tree) faults w.text
  code_left = text_by_code source faults w.text text_left

  may : MayRun (code_of tree) (initial_arrays tree)
  may = (laws.programs source tree text_left.by.has).may

  -- it is the state after the stopped run
  saved_is : saved_state stop w.read.2.items (code_of w.read.2.has.0) (initial_arrays w.read.2.has.0) (answers.Saved w.text) w.read.2.has.2.has
      ≡ text_left.state
  saved_is =
      let has = w.read.2.has.2.has in
      let items = w.read.2.items in
      text_left.one (saved_state stop items (code_of w.read.2.has.0) (initial_arrays w.read.2.has.0) (answers.Saved w.text) has)
      (is_state stop items (code_of w.read.2.has.0) (initial_arrays w.read.2.has.0) (answers.Saved w.text) has w.text w.saves text_left.is.short w.read_back)

  count : text_left.state.shape.processors ≡ stop.processors
  count =
      count_is stop w.read.2.items (code_of w.read.2.has.0) (initial_arrays w.read.2.has.0) (answers.Saved w.text) w.read.2.has.2.has text_left.state
      saved_is

  room : text_left.state.shape.room ≡ stop.room
  room =
      room_is stop w.read.2.items (code_of w.read.2.has.0) (initial_arrays w.read.2.has.0) (answers.Saved w.text) w.read.2.has.2.has text_left.state
      saved_is

  module _ (options : ResumeOptions) (plan : List ℕ) (o : Outside) where
    -- the state that was read is left by the source
    left : (text : List ℕ) (z : SavedState) → IsTextOf text z → text ≡ w.text → IsLeftBy source z
    left text z is same = subst (IsLeftBy source) (sym (text_left.one z (subst (λ (l : List ℕ). IsTextOf l z) same is))) text_left.by

    unbroken : AreResumed options → (b : WritesBroken options plan o) → b.read.0 ≡ w.text → ⊥
    unbroken resumed b same =
        never_broken (code_of tree) (initial_arrays tree) faults w.text code_left stop.processors stop.room count laws.legs laws.comes may options resumed
        o.told_before o.told_now b.read.2.state (subst (λ (t : List ℕ). IsTextOf t b.read.2.state) same b.read.2.is) b.read.2.has.items b.place
        b.read.2.has.has

    ended : (a : WritesArrays options plan o) → a.read.0 ≡ w.text → IsOutcomeOf source (outcome.Ended a.arrays)
    ended a same =
        let l = left a.read.0 a.read.2.state a.read.2.is same in
        record { tree = l.tree; has = l.has; serially = (a.meant source l).serially }

    trapped : (k : WritesTrap options plan o) → k.read.0 ≡ w.text → IsOutcomeOf source (outcome.Trapped k.trap k.line)
    trapped k same =
        let l = left k.read.0 k.read.2.state k.read.2.is same in
        record { tree = l.tree; has = l.has; serially = (k.meant source l).serially }

    completes : AreResumed options → (items : List PlanItem) → IsAccepted plan_form plan stop.processors items → (t : ProgramTree) → HasProgram source t
        → IsEnough t (lost_with faults stop.processors items) options.turns stop.room
        → (before now : ToldLists) (answer : Answer) → TextHas options plan before now w.text answer → IsEnd answer
    completes resumed items accepted t has enough before now answer h =
        completes_there (code_of tree) (initial_arrays tree) faults w.text code_left stop.processors stop.room count laws.complete may room options resumed
        plan items accepted
        (subst (λ (u : ProgramTree). CodeIsEnough (code_of u) (initial_arrays u) (lost_with faults stop.processors items) options.turns stop.room)
        (sym ((texts source).program tree t text_left.by.has has))
        (record { end = enough.end; comes = enough.comes; for_turns = enough.for_turns; for_room = enough.for_room }))
        before now answer h

    pub goes_on : ResumesStopped w options plan o
    goes_on = record {
      left = λ text same. subst (IsTextLeftBy source faults) (sym same) text_left;
      accepted = λ fault same. text_left.accepted fault.0 (subst (λ (l : List ℕ). IsNoText l fault.0) same fault.1.2);
      unbroken = unbroken;
      ended = ended;
      trapped = trapped;
      completes = completes;
    }

pub stopped_runs_go_on : ResumeLaws → StopsLeaveStates → TextsHaveOneProgram → StoppedRunsGoOn
stopped_runs_go_on laws law texts stop are schedule p w options plan o = goes_on laws law texts stop are schedule p w options plan o
