-- What `stop` writes of a text of a chain is a text of the chain: fresh processors made one leg more of the run that left the state.
use Rattle.std.proofs.Common.{◌≡◌, ◌≤◌, ◌<◌, ◌+◌, ◌*◌, ◌^◌, ℕ, List, [], ◌∷◌, length, refl, sym, ap, ◌∙◌, subst, arith}
use Rattle.std.specs.List.{AllByRecursion}
use Rattle.ppm_words.specs.Limits.{turn_limit}
use Rattle.ppm_words.specs.declared.named_array.NamedArray.{NamedArray}
use Rattle.ppm_cells.specs.declared.shape.Shape.{Shape}
use Rattle.ppm_code.specs.declared.code.CodeParts.{CodeParts}
use Rattle.ppm_core.specs.Situation.{Situation}
use Rattle.ppm_step.specs.Among.{IsTurnAmong}
use Rattle.ppm_step.specs.State.{State, after, along, opening, work_of}
use Rattle.ppm_step.specs.declared.turn.Turn.{Turn}
use Rattle.ppm_paces.specs.Paces.{strikes_of}
use Rattle.ppm_plan.specs.declared.schedule_item.ScheduleItem.{ScheduleItem}
use Rattle.ppm_plan.specs.Forms.{schedule_form}
use Rattle.ppm_plan.specs.Refusals.{IsAccepted}
use Rattle.ppm_choice.specs.Schedules.{schedule_turns}
use Rattle.ppm_following.proofs.ScheduledLemmas.{scheduled_among}
use Rattle.ppm_runs.specs.Legs.{Leg, GoOn}
use Rattle.ppm_saved_reader.specs.Correct.{FaultsTellSavedTexts}
use Rattle.ppm_answers.specs.declared.answer.Answer.{Answer}
use Rattle.ppm_answers.specs.declared.answer.Answer.TheVariants as answers
use Rattle.ppm_cli.specs.declared.stop.StopSavedOptions.{StopSavedOptions}
use Rattle.ppm_cli.specs.Words.{AreSavedStopped}
use Rattle.ppm_outcomes.specs.AsCode.{MayRun}
use Rattle.ppm_outcomes.specs.CodeResumes.{CodeWordsComeBack, IsLeftByCode, IsTextLeftByCode, legs_of}
use Rattle.ppm_outcomes.specs.Legs.{words_at_last, worked_in_all, struck_in_all}
use Rattle.ppm_outcomes.specs.LegsAsCode.{RunsInLegsAreAsCode}
use Rattle.ppm_outcomes.specs.Resumes.{SavedState, GoesOnFrom}
use Rattle.ppm_outcomes.specs.RunOf.{words_behind}
use Rattle.ppm_outcomes.specs.Strikes.{scheduled_faults}
use Rattle.ppm_outcomes.proofs.FaultLemmas.{struck_few, faults_are_scheduled}
use Rattle.ppm_outcomes.proofs.ResumeLemmas.{saved_or_none}
use Rattle.ppm_outcomes.proofs.ResumedOfCode.{shape_is, code_is, state_is, work_split}
use Rattle.ppm_outcomes.proofs.WorkLemmas.{scheduled_work}
use Rattle.ppm_legs.specs.Chains.{IsTextOfChain, StopsBeginChains, StopsGoOnChains}
use Rattle.ppm_legs.specs.SavedStops.{StateReads, state_after, text_of}
use Rattle.ppm_legs.proofs.SavedAnswerLemmas.{never_refused, one_state}

-- the first text of a chain
pub stops_begin_chains : StopsBeginChains
stops_begin_chains code input faults text l = record {
  state = l.state;
  is = l.is;
  accepted = l.accepted;
  one = l.one;
  by = l.by;
  legs = let none : length l.by.legs ≡ 0 = ap (λ (legs : List Leg). length legs) l.alone in omega (arith, none);
  work = let most = l.work in omega (arith, most);
  struck = l.struck;
  small = l.small;
}

module _ (law : RunsInLegsAreAsCode) (comes : CodeWordsComeBack) (code : CodeParts) (input : List NamedArray) (may : MayRun code input)
    (z : SavedState) (left : IsLeftByCode code input z) (start : Situation) (on : GoesOnFrom z start) (options : StopSavedOptions)
    (schedule : List ℕ) (items : List ScheduleItem) (accepted : IsAccepted schedule_form schedule z.shape.processors items) where
  abbrev m : Situation
  m = left.start

  abbrev turns : List Turn
  turns = schedule_turns start.shape start.code start.state items options.after

  abbrev back : List ℕ
  back = start.state.words

  abbrev legs : List Leg
  legs = legs_of left back

  -- its processors are those of the state
  among : AllByRecursion (IsTurnAmong start.shape.processors) turns
  among =
      let least = start.shape.within.processors_least in
      let count : start.shape.processors ≡ z.shape.processors = ap (λ (x : Situation). x.shape.processors) on.loads in
      scheduled_among start.shape start.code (omega (arith, least)) schedule z.shape.processors items count accepted start.state options.after

  shapes : start.shape ≡ m.shape
  shapes = shape_is law comes code input may z left start on turns among

  codes : start.code ≡ m.code
  codes = code_is law comes code input may z left start on turns among

  states : start.state ≡ opening back start.shape.processors
  states = state_is law comes code input may z left start on turns among

  goes_on : GoOn m.shape (words_at_last m left.legs left.turns) back
  goes_on =
      subst (λ (s : Shape). GoOn s (words_at_last m left.legs left.turns) back) left.shape_is
      (subst (λ (w : List ℕ). GoOn z.shape w back) left.words_are
      (subst (λ (w : List ℕ). GoOn z.shape z.words w) (sym (ap (λ (x : Situation). x.state.words) on.loads))
      (record { renewal = comes code input may z left on.words on.renewed; finish = saved_or_none z on.words on.renewed })))

  words_are : words_behind start turns ≡ words_at_last m legs turns
  words_are =
      ap (λ (x : State). (after start.shape start.code x turns).words) states
      ∙ (λ i. (after (shapes i) (codes i) (opening back (shapes i).processors) turns).words)

  -- the state after the leg is left by the code too
  abbrev left_again : length left.legs + 1 < 2 ^ 50 → IsLeftByCode code input (state_after options items z start)
  left_again few = record {
    sizes = left.sizes;
    places = left.places;
    keeper = left.keeper;
    start = m;
    opens = left.opens;
    legs = legs;
    are = (left.are, left.among, goes_on);
    turns = turns;
    among = subst (λ (s : Shape). AllByRecursion (IsTurnAmong s.processors) turns) shapes among;
    shape_is = shapes;
    code_is = codes;
    arrays_are = left.arrays_are;
    words_are = words_are;
    few = omega (arith, few);
  }

  -- the acts of the leg are work at most
  worked : worked_in_all m legs turns ≤ worked_in_all m left.legs left.turns + options.after
  worked =
      let split = work_split law comes code input may z left start on turns among in
      let most = scheduled_work start.shape start.code start.state items options.after in
      omega (arith, split, most)

  -- and no more faults strike a row than its schedule has
  struck : struck_in_all m legs turns ≤ struck_in_all m left.legs left.turns + scheduled_faults items
  struck =
      let strike = struck_few start.shape start.code turns start.state in
      let fault = faults_are_scheduled start.shape start.code start.state items options.after in
      let same : length (along start.shape start.code strikes_of start.state turns)
      ≡ length (along m.shape m.code strikes_of (opening back m.shape.processors) turns) =
      ap (λ (x : State). length (along start.shape start.code strikes_of x turns)) states
      ∙ (λ i. length (along (shapes i) (codes i) strikes_of (opening back (shapes i).processors) turns)) in
      omega (arith, strike, fault, same)

module _ (law : RunsInLegsAreAsCode) (comes : CodeWordsComeBack) (tell : FaultsTellSavedTexts) (options : StopSavedOptions) (are : AreSavedStopped options)
    (schedule : List ℕ) (items : List ScheduleItem) (code : CodeParts) (input : List NamedArray) (may : MayRun code input) (stops faults : ℕ) (text : List ℕ)
    (c : IsTextOfChain code input stops faults text) (few : stops < 2 ^ 50) where
  -- of the state of the text
  goes_on_there : IsAccepted schedule_form schedule c.state.shape.processors items → (answer : Answer) → StateReads options items c.state answer
      → (saved : List ℕ) × (answer ≡ answers.Saved saved) × IsTextOfChain code input (stops + 1) (faults + scheduled_faults items) saved
  goes_on_there accepted answer h =
      let z = c.state in
      let start = h.has.start in
      let on = h.has.goes_on in
      let end = state_after options items z start in
      let legs = c.legs in
      let most = c.work in
      let strikes = c.struck in
      let small = c.small in
      let after_most = are.1 in
      let more = worked law comes code input may z c.by start on options schedule items accepted in
      let faulty = struck law comes code input may z c.by start on options schedule items accepted in
      let count : start.shape.processors ≡ z.shape.processors = ap (λ (x : Situation). x.shape.processors) on.loads in
      let bound = within (worked_in_all c.by.start c.by.legs c.by.turns) options.after stops turn_limit most after_most in (
        text_of end,
        h.has.saves,
        record {
          state = end;
          is = h.read_back;
          accepted = never_refused tell (text_of end) end h.read_back;
          one = λ y is. one_state tell (text_of end) y end is h.read_back;
          by = left_again law comes code input may z c.by start on options schedule items accepted (omega (arith, legs, few));
          legs = omega (arith, legs);
          work = omega (arith, more, bound);
          struck = omega (arith, faulty, strikes);
          small = omega (arith, small, count);
        },
      )
    where
      within : (worked acts n limit : ℕ) → worked ≤ n * limit → acts ≤ limit → worked + acts ≤ (n + 1) * limit
      within worked acts n limit p q = let e : (n + 1) * limit ≡ n * limit + limit = grind arith in omega (arith, p, q, e)

pub stops_go_on_chains : RunsInLegsAreAsCode → CodeWordsComeBack → FaultsTellSavedTexts → StopsGoOnChains
stops_go_on_chains law comes tell options are text z is schedule items accepted code input may stops faults c few answer h =
    let same : z ≡ c.state = c.one z is in
    goes_on_there law comes tell options are schedule items code input may stops faults text c few
    (subst (λ (y : SavedState). IsAccepted schedule_form schedule y.shape.processors items) same accepted) answer
    (subst (λ (y : SavedState). StateReads options items y answer) same h)
