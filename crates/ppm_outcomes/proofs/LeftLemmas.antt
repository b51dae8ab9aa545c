-- What a run of a code leaves: its state, whatever the turns are, is one that the code left, and that the source left whose program has this code;
-- and what fresh processors find of such a state are words that come back.
use Rattle.std.proofs.Common.{◌≡◌, ◌≤◌, ℕ, List, [], length, refl, sym, subst, arith}
use Rattle.std.specs.List.{AllByRecursion}
use Rattle.ppm_cells.specs.declared.shape.Shape.{Shape}
use Rattle.ppm_cells.specs.declared.shape.Takeover.TheVariants.{ByPlaces}
use Rattle.ppm_words.specs.declared.named_array.NamedArray.{NamedArray}
use Rattle.ppm_code.specs.declared.code.CodeParts.{CodeParts}
use Rattle.ppm_tree.specs.Tree.{ProgramTree}
use Rattle.ppm_tree.specs.Program.{initial_arrays}
use Rattle.ppm_program.specs.Programs.{HasProgram}
use Rattle.ppm_cut_code.specs.Routines.{code_of}
use Rattle.ppm_step.specs.Among.{IsTurnAmong}
use Rattle.ppm_step.specs.State.{State, after, along, opening, work_of}
use Rattle.ppm_step.specs.declared.turn.Turn.{Turn}
use Rattle.ppm_paces.specs.Paces.{strikes_of}
use Rattle.ppm_resumed.specs.Resumed.{TagsMayRise, RenewedWordsComeBack}
use Rattle.ppm_core.specs.Situation.{Situation}
use Rattle.ppm_loading.specs.declared.loading.Sizes.{Sizes}
use Rattle.ppm_loading.specs.Loading.{OpensRun}
use Rattle.ppm_plan.specs.declared.schedule_item.ScheduleItem.{ScheduleItem}
use Rattle.ppm_plan.specs.Forms.{schedule_form}
use Rattle.ppm_plan.specs.Refusals.{IsAccepted}
use Rattle.ppm_choice.specs.Schedules.{schedule_turns}
use Rattle.ppm_answers.specs.declared.answer.Answer.{Answer}
use Rattle.ppm_answers.specs.declared.answer.Answer.TheVariants as answers
use Rattle.ppm_cli.specs.declared.stop.StopOptions.{StopOptions}
use Rattle.ppm_cli.specs.Words.{AreStopped}
use Rattle.ppm_following.specs.Followed.{followed}
use Rattle.ppm_following.proofs.ScheduledLemmas.{scheduled_among}
use Rattle.ppm_loading.proofs.LoadingLemmas.{opens_processors}
use Rattle.ppm_saved_reader.specs.Correct.{FaultsTellSavedTexts}
use Rattle.ppm_outcomes.specs.Stops.{sizes_of, text_of, CodeHas, IsReadBack}
use Rattle.ppm_outcomes.specs.CodeResumes.{CodeWordsComeBack, IsLeftByCode, IsTextLeftByCode, RunsOfCodeLeaveStates, StopsOfCodeLeaveStates, by_code}
use Rattle.ppm_outcomes.specs.Legs.{worked_in_all, struck_in_all}
use Rattle.ppm_outcomes.specs.LegsAsCode.{TagsMayRiseInLegsOfCode}
use Rattle.ppm_outcomes.specs.ProgramsAsCode.{ProgramsAreAsCode}
use Rattle.ppm_outcomes.specs.RunOf.{words_behind}
use Rattle.ppm_outcomes.specs.Resumes.{SavedState, state_behind, IsLeftBy, IsTextLeftBy, RunsLeaveStates, StopsLeaveStates, LeftWordsComeBack}
use Rattle.ppm_outcomes.specs.Strikes.{scheduled_faults}
use Rattle.ppm_outcomes.proofs.FaultLemmas.{struck_few, faults_are_scheduled}
use Rattle.ppm_outcomes.proofs.TellLemmas.{text_left}
use Rattle.ppm_outcomes.proofs.WorkLemmas.{scheduled_work}

module _ (code : CodeParts) (input : List NamedArray) (sizes : Sizes) (places : sizes.takeover ≡ ByPlaces)
    (keeper : ℕ) (m : Situation) (b : OpensRun sizes code input keeper m) where
  left : (turns : List Turn) → AllByRecursion (IsTurnAmong m.shape.processors) turns → IsLeftByCode code input (state_behind m input turns)
  left turns among = record {
    sizes = sizes;
    places = places;
    keeper = keeper;
    start = m;
    opens = b;
    legs = [];
    are = tt;
    turns = turns;
    among = among;
    shape_is = refl;
    code_is = refl;
    arrays_are = refl;
    words_are = subst (λ (x : Situation). words_behind x turns ≡ (after x.shape x.code (opening x.state.words x.shape.processors) turns).words)
        (sym b.loads) refl;
    few = omega arith;
  }

-- this holds with each code
pub runs_of_code_leave_states : RunsOfCodeLeaveStates
runs_of_code_leave_states code input sizes places keeper m b turns among = left code input sizes places keeper m b turns among

-- what the code of a source's program left is left by the source
abbrev pub by_source : (source : List ℕ) (t : ProgramTree) → HasProgram source t → (z : SavedState) → IsLeftByCode (code_of t) (initial_arrays t) z
    → IsLeftBy source z
by_source source t has z l = record {
  tree = t;
  has = has;
  sizes = l.sizes;
  places = l.places;
  keeper = l.keeper;
  start = l.start;
  opens = l.opens;
  legs = l.legs;
  are = l.are;
  turns = l.turns;
  among = l.among;
  shape_is = l.shape_is;
  code_is = l.code_is;
  arrays_are = l.arrays_are;
  words_are = l.words_are;
  few = l.few;
}

-- and so is its text
text_by_source : (source : List ℕ) (t : ProgramTree) → HasProgram source t → (faults : ℕ) (text : List ℕ)
    → IsTextLeftByCode (code_of t) (initial_arrays t) faults text → IsTextLeftBy source faults text
text_by_source source t has faults text l = record {
  state = l.state;
  is = l.is;
  accepted = l.accepted;
  one = l.one;
  by = by_source source t has l.state l.by;
  alone = l.alone;
  work = l.work;
  struck = l.struck;
  small = l.small;
}

-- the text of a state that a source left is left by the code of its program
abbrev pub text_by_code : (source : List ℕ) (faults : ℕ) (text : List ℕ) (l : IsTextLeftBy source faults text)
    → IsTextLeftByCode (code_of l.by.tree) (initial_arrays l.by.tree) faults text
text_by_code source faults text l = record {
  state = l.state;
  is = l.is;
  accepted = l.accepted;
  one = l.one;
  by = by_code l.by;
  alone = l.alone;
  work = l.work;
  struck = l.struck;
  small = l.small;
}

-- this holds with each text's program
pub runs_leave_states : RunsLeaveStates
runs_leave_states text t has sizes places keeper m b turns among =
    by_source text t has (state_behind m (initial_arrays t) turns) (left (code_of t) (initial_arrays t) sizes places keeper m b turns among)

-- and with what `stop` writes
module _ (tell : FaultsTellSavedTexts) (options : StopOptions) (are : AreStopped options) (schedule : List ℕ) (items : List ScheduleItem)
    (accepted : IsAccepted schedule_form schedule options.processors items) (code : CodeParts) (input : List NamedArray) where
  abbrev made : Situation → List Turn
  made m = schedule_turns m.shape m.code m.state items options.after

  -- they make no more work than acts
  worked : (keeper : ℕ) (m : Situation) → OpensRun (sizes_of options) code input keeper m → worked_in_all m [] (made m) ≤ options.after
  worked keeper m b =
      let some : length (along m.shape m.code work_of (opening m.state.words m.shape.processors) (made m)) ≤ options.after =
      subst (λ (x : Situation). length (along x.shape x.code work_of (opening x.state.words x.shape.processors)
      (schedule_turns x.shape x.code x.state items options.after)) ≤ options.after)
      (sym b.loads) (scheduled_work b.shape code (opening b.image.words b.shape.processors) items options.after) in
      omega (arith, some)

  -- nor do more faults strike a row than the schedule has
  struck : (keeper : ℕ) (m : Situation) → OpensRun (sizes_of options) code input keeper m → struck_in_all m [] (made m) ≤ scheduled_faults items
  struck keeper m b =
      let some : length (along m.shape m.code strikes_of (opening m.state.words m.shape.processors) (made m)) ≤ scheduled_faults items =
      subst (λ (x : Situation). length (along x.shape x.code strikes_of (opening x.state.words x.shape.processors)
      (schedule_turns x.shape x.code x.state items options.after)) ≤ scheduled_faults items)
      (sym b.loads)
      (few b.shape (opening b.image.words b.shape.processors)) in
      omega (arith, some)
    where
      few : (s : Shape) (state : State) → length (along s code strikes_of state (schedule_turns s code state items options.after)) ≤ scheduled_faults items
      few s state =
          let strike = struck_few s code (schedule_turns s code state items options.after) state in
          let fault = faults_are_scheduled s code state items options.after in
          omega (arith, strike, fault)

  pub stop_leaves : (answer : Answer) (h : CodeHas options items code input answer) → IsReadBack (followed h.start items options.after) input
      → (saved : List ℕ) × (answer ≡ answers.Saved saved) × IsTextLeftByCode code input (scheduled_faults items) saved
  unfolding left
  stop_leaves answer h back =
      let m = h.start in
      let z = state_behind m input (made m) in
      let saved = text_of (followed m items options.after) input in
      let least = m.shape.within.processors_least in
      let count = opens_processors (sizes_of options) code input h.keeper m h.opens in
      let among = scheduled_among m.shape m.code (omega (arith, least)) schedule options.processors items count accepted m.state options.after in
      let from_it = left code input (sizes_of options) refl h.keeper m h.opens (made m) among in
      let most = worked h.keeper m h.opens in
      let after_most = are.1.1 in
      let few_most = are.0.1 in
      let struck_most = struck h.keeper m h.opens in (
        saved,
        h.saves,
        text_left tell saved z back code input (scheduled_faults items) from_it refl (omega (arith, most, after_most)) struck_most
            (omega (arith, few_most, count)),
      )

pub stops_of_code_leave_states : FaultsTellSavedTexts → StopsOfCodeLeaveStates
stops_of_code_leave_states tell options are schedule items accepted code input may answer h =
    stop_leaves tell options are schedule items accepted code input answer h.has (h.read_back may)

pub stops_leave_states : FaultsTellSavedTexts → StopsLeaveStates
stops_leave_states tell options are schedule items accepted text t has answer h =
    let k = stop_leaves tell options are schedule items accepted (code_of t) (initial_arrays t) answer h.has h.read_back in
    (k.0, k.1, text_by_source text t has (scheduled_faults items) k.0 k.2)

-- the words of a state that was left come back
pub code_words_come_back : TagsMayRiseInLegsOfCode → RenewedWordsComeBack → CodeWordsComeBack
code_words_come_back tags comes code input may z left words renewed =
    comes z.shape z.words words
    (subst (λ (s : Shape). TagsMayRise s z.words) (sym left.shape_is) (subst (λ (w : List ℕ). TagsMayRise left.start.shape w) (sym left.words_are)
    (tags code input may left.sizes left.places left.keeper left.start left.opens left.legs left.are left.turns left.among left.few)))
    renewed

pub left_words_come_back : ProgramsAreAsCode → CodeWordsComeBack → LeftWordsComeBack
left_words_come_back programs comes source z left words renewed =
    comes (code_of left.tree) (initial_arrays left.tree) (programs source left.tree left.has).may z (by_code left) words renewed
