-- A replay ends where acts and room are enough: the finish word is set, and no other cause of it is left than an outcome.
use Rattle.std.proofs.Common.{◌≡◌, ◌≢◌, ◌≤◌, ◌<◌, ◌∙◌, ℕ, List, [], ◌∷◌, inl, inr, sym, subst, arith}
use Rattle.std.specs.List.{AllByRecursion}
use Rattle.ppm_strands.specs.Calm.{Calm}
use Rattle.ppm_strands.specs.Run.{End as CapsuleEnd}
use Rattle.ppm_words.specs.declared.named_array.NamedArray.{NamedArray}
use Rattle.ppm_ports.specs.Outside.{Ports}
use Rattle.ppm_code.specs.Strands.{Result}
use Rattle.ppm_code.specs.declared.code.CodeParts.{CodeParts}
use Rattle.ppm_depth.specs.Run.{ComesTo}
use Rattle.ppm_depth.specs.Sound.{IsSound}
use Rattle.ppm_case.specs.Case.{IsCaseOf}
use Rattle.ppm_case.specs.Correct.{FaultsTellCases}
use Rattle.ppm_tree.specs.Tree.{ProgramTree}
use Rattle.ppm_tree.specs.Program.{initial_arrays}
use Rattle.ppm_program.specs.Programs.{HasProgram}
use Rattle.ppm_program.specs.Correct.{HaveOneAnswer as TextsHaveOneProgram}
use Rattle.ppm_cut_code.specs.Routines.{code_of}
use Rattle.ppm_layout.specs.Correct.{Opens as IsOpened}
use Rattle.ppm_layout.specs.Root.{root_strand as strand_of_image}
use Rattle.ppm_opening.specs.Correct.{ShowsTheRun, ImagesShowTheRun}
use Rattle.ppm_plan.specs.Correct.{HaveOneAnswer as PlansHaveOneAnswer}
use Rattle.ppm_plan.specs.Faults.{acts_of}
use Rattle.ppm_plan.specs.Forms.{schedule_form}
use Rattle.ppm_plan.specs.Refusals.{IsAccepted}
use Rattle.ppm_plan.specs.Schedules.{IsActAmong}
use Rattle.ppm_plan.specs.declared.schedule_item.ScheduleItem.{ScheduleItem}
use Rattle.ppm_core.specs.Situation.{Situation, finish_in}
use Rattle.ppm_following.specs.Followed.{followed}
use Rattle.ppm_frames.specs.Seen.{arrays_at}
use Rattle.ppm_frames.specs.Views.{view}
use Rattle.ppm_kept.specs.Running.{IsFair, strands}
use Rattle.ppm_progress.specs.Enough.{enough_acts, enough_acts_by_places}
use Rattle.ppm_progress.specs.Replays.{ReplaysEnd, ReplaysEndByPlaces}
use Rattle.ppm_answers.specs.declared.answer.Answer.{Answer}
use Rattle.ppm_answers.specs.declared.answer.Answer.TheVariants as answers
use Rattle.ppm_answers.specs.declared.status.Status.{Status}
use Rattle.ppm_answers.specs.declared.status.Status.TheVariants as statuses
use Rattle.ppm_answers.specs.Rows.{IsOneOf}
use Rattle.ppm_answers.specs.Statuses.{status_of}
use Rattle.ppm_cli.specs.declared.replay.ReplayOptions.{ReplayOptions}
use Rattle.ppm_cli.specs.Words.{AreReplayed}
use Rattle.ppm_loading.specs.Loading.{OpensRun}
use Rattle.ppm_outcomes.specs.AsCode.{MayRun, CodeNeedsMoreRoom}
use Rattle.ppm_replay_command.specs.CaseReplayRows.{ReplayCaseRows}
use Rattle.ppm_replay_command.specs.CaseReplays.{ReplayCaseHas}
use Rattle.ppm_replay_command.specs.ReplayRows.{ReplayRows}
use Rattle.ppm_outcomes.specs.CodeReplays.{ReplaysAreAsCode}
use Rattle.ppm_replay_command.specs.CompleteReplays.{ActsAreEnough, NeedsMoreActs, ReplayIsEnough, ReplayEnds, CaseReplayEnds}
use Rattle.ppm_replay_command.specs.ReplayLaws.{CaseReplaysComplete, IsReplayEnd, ReplaysComplete, ReplaysOfCodeComplete, UnfinishedNeedMore}
use Rattle.ppm_replay_command.specs.ReplayLaws.{UnfinishedProgramsNeedMore}
use Rattle.ppm_outcomes.specs.ProgramsAsCode.{ProgramsAreAsCode}
use Rattle.ppm_outcomes.specs.Replays.{CodeHas, ReplayHas, sizes_of}
use Rattle.ppm_outcomes.proofs.AsCodeLemmas.{calm_as, ends_as}
use Rattle.ppm_outcomes.proofs.MayRunLemmas.{may_run}
use Rattle.ppm_outcomes.proofs.EndLemmas.{keeper_opened}
use Rattle.ppm_outcomes.proofs.ReplayLemmas.{of_code}
use Rattle.ppm_replay_command.proofs.ActsAmong.{acts_among}
use Rattle.ppm_replay_command.proofs.UnfinishedLemmas.{unfinished_has}

module _ (shows : ImagesShowTheRun) (law : ReplaysEnd) (places : ReplaysEndByPlaces) (options : ReplayOptions) (schedule : List ℕ)
    (items : List ScheduleItem) (accepted : IsAccepted schedule_form schedule options.processors items) (code : CodeParts) (input : List NamedArray)
    (may : MayRun code input) (end : CapsuleEnd Result) (comes : ComesTo code input end)
    (enough : ActsAreEnough options items end.counts.capsules) where
  -- the finish word is set after the replay
  set : (keeper : ℕ) (m : Situation) → OpensRun (sizes_of options) code input keeper m → finish_in (followed m items options.turns) ≢ 0
  set keeper m b =
      let s = b.shape in
      let opened : IsOpened code input s keeper b.image = record {
        code_is = may.code_is;
        input_is = may.input_is;
        below = keeper_opened (sizes_of options) code input keeper m b;
        image_is = b.opens;
      } in
      let shown : ShowsTheRun code input s b.image.words = shows code input s keeper b.image opened may.names in
      let calm : Calm (strands s code) (strand_of_image code input) (arrays_at (view s b.image.words)) =
      calm_as shown.strands shown.root shown.arrays may.sound.calm in
      let fair : IsFair code = record { code_is = may.code_is; tidy = may.sound.tidy; free = may.sound.free } in
      let ends = ends_as (sym shown.strands) (sym shown.root) (sym shown.arrays) end comes in
      let named = acts_among options.processors 1 items accepted.obeyed.there in
      let there = subst (λ (n : ℕ). AllByRecursion (λ item. IsActAmong n item.act) items) (sym b.sized.processors) named in
      subst (λ (x : Situation). finish_in (followed x items options.turns) ≢ 0) (sym b.loads)
      (elim enough [
        | inl plain ↦
            let acts = subst (λ (n : ℕ). enough_acts (acts_of items) n end.counts.capsules ≤ options.turns) (sym b.sized.processors) plain.1 in
            law code input s keeper b.image fair opened calm items there plain.0 end ends options.turns acts
        | inr by ↦
            let acts = subst (λ (n : ℕ). enough_acts_by_places (acts_of items) n end.counts.capsules ≤ options.turns) (sym b.sized.processors) by.1 in
            let lives = subst (λ (n : ℕ). accepted.keeper < n) (sym b.sized.processors) accepted.obeyed.below in
            places code input s keeper b.image (b.sized.takeover ∙ by.0) fair opened calm items there accepted.keeper lives accepted.obeyed.kept.spared end ends
            options.turns acts
      ])

-- a replay that is unfinished had too few acts
pub unfinished_need_more : ImagesShowTheRun → ReplaysEnd → ReplaysEndByPlaces → UnfinishedNeedMore
unfinished_need_more shows law places options are schedule items accepted code input may acts h end comes enough =
    set shows law places options schedule items accepted code input may end comes enough h.keeper h.start h.opens
    (unfinished_has options items code input acts h)

module _ (few : UnfinishedNeedMore) (law : ReplaysAreAsCode) (options : ReplayOptions) (are : AreReplayed options) (schedule : List ℕ)
    (items : List ScheduleItem) (accepted : IsAccepted schedule_form schedule options.processors items) (code : CodeParts)
    (input : List NamedArray) (may : MayRun code input) (enough : ReplayIsEnough options items code input) where
  not_few : NeedsMoreActs options items code input → ⊥
  not_few needs = needs enough.end enough.comes enough.for_acts

  not_little : CodeNeedsMoreRoom code input options.room → ⊥
  not_little needs = let more = needs enough.end enough.comes in let some = enough.for_room in omega (arith, more, some)

  pub ends_of : (a : Answer) → CodeHas options items code input a → IsReplayEnd a
  ends_of (answers.EndedWith arrays tally) h = tt
  ends_of (answers.TrappedWith trap line tally) h = tt
  ends_of (answers.Unfinished n) h = absurd (not_few (few options are schedule items accepted code input may n h))
  ends_of (answers.OutOfRoom place) h =
      absurd (not_little (law options are schedule items accepted code input may (answers.OutOfRoom place) h).1)
  ends_of (answers.Broken place) h = absurd (law options are schedule items accepted code input may (answers.Broken place) h).1
  ends_of a h = absurd (of_code options items code input a h)

-- this holds with all options, schedules and sound codes
pub replays_of_code_complete : UnfinishedNeedMore → ReplaysAreAsCode → ReplaysOfCodeComplete
replays_of_code_complete few law options are schedule items accepted code input may enough a h =
    ends_of few law options are schedule items accepted code input may enough a h

pub programs_need_more : UnfinishedNeedMore → ProgramsAreAsCode → UnfinishedProgramsNeedMore
programs_need_more few programs options are schedule items accepted text t has acts h =
    few options are schedule items accepted (code_of t) (initial_arrays t) (programs text t has).may acts h

-- what is shown of every text and every schedule
pub record Laws : Type 0 where
  pub of_code : ReplaysOfCodeComplete
  pub programs : ProgramsAreAsCode
  pub texts : TextsHaveOneProgram
  pub plans : PlansHaveOneAnswer

module _ (laws : Laws) (options : ReplayOptions) (are : AreReplayed options) (schedule : List ℕ) (items : List ScheduleItem)
    (accepted : IsAccepted schedule_form schedule options.processors items) (text : List ℕ) (t : ProgramTree)
    (has : HasProgram text t) (enough : ReplayIsEnough options items (code_of t) (initial_arrays t)) where
  -- the text has one program, and the schedule one list of items
  by_program : (a : Answer) (others : List ScheduleItem) → IsAccepted schedule_form schedule options.processors others → (u : ProgramTree) → HasProgram text u
      → CodeHas options others (code_of u) (initial_arrays u) a → IsReplayEnd a
  by_program a others also u other h =
      let with_items = subst (λ (x : List ScheduleItem). CodeHas options x (code_of u) (initial_arrays u) a)
      (laws.plans.schedules.items schedule others items also.has accepted.has) h in
      laws.of_code options are schedule items accepted (code_of t) (initial_arrays t) (laws.programs text t has).may enough a
      (subst (λ (x : ProgramTree). CodeHas options items (code_of x) (initial_arrays x) a) ((laws.texts text).program u t other has) with_items)

  program_ends : (a : Answer) → ReplayHas options schedule text a → IsReplayEnd a
  program_ends (answers.PlanRefused number) h =
      absurd (laws.plans.schedules.apart schedule options.processors items h.error h.of_text accepted h.refused)
  program_ends (answers.SourceRefused r) h = absurd ((laws.texts text).either r h.has t has)
  program_ends a h = by_program a h.items h.accepted h.has.0 h.has.1 h.has.2

pub replays_complete : Laws → ReplaysComplete
replays_complete laws options are schedule items accepted text t has enough a h =
    program_ends laws options are schedule items accepted text t has enough a h

module _ (law : ReplaysOfCodeComplete) (texts : FaultsTellCases) (plans : PlansHaveOneAnswer) (options : ReplayOptions) (are : AreReplayed options)
    (schedule : List ℕ) (items : List ScheduleItem) (accepted : IsAccepted schedule_form schedule options.processors items)
    (text : List ℕ) (code : CodeParts) (input : List NamedArray) (is : IsCaseOf text code input) (sound : IsSound code input)
    (enough : ReplayIsEnough options items code input) where
  -- the text is of one case, and the schedule has one list of items
  by_case : (a : Answer) (others : List ScheduleItem) → IsAccepted schedule_form schedule options.processors others → (c : CodeParts) (l : List NamedArray)
      → IsCaseOf text c l → CodeHas options others c l a → IsReplayEnd a
  by_case a others also c l other h =
      let same = texts.one_case text c code l input other is in
      let with_items = subst (λ (x : List ScheduleItem). CodeHas options x c l a)
      (plans.schedules.items schedule others items also.has accepted.has) h in
      law options are schedule items accepted code input (may_run text code input is sound) enough a
      (subst (λ (x : CodeParts). CodeHas options items x input a) same.0
      (subst (λ (x : List NamedArray). CodeHas options items c x a) same.1 with_items))

  case_ends : (a : Answer) → ReplayCaseHas options schedule text a → IsReplayEnd a
  case_ends (answers.PlanRefused number) h =
      absurd (plans.schedules.apart schedule options.processors items h.error h.of_text accepted h.refused)
  case_ends (answers.InputRefused r) h = absurd (texts.excludes text code input _ r.line is h.has.there)
  case_ends (answers.ListingRefused r) h = absurd (texts.excludes text code input _ r.line is h.has.there)
  case_ends a h = by_case a h.items h.accepted h.has.code h.has.input h.has.is h.has.has

pub case_replays_complete : ReplaysOfCodeComplete → FaultsTellCases → PlansHaveOneAnswer → CaseReplaysComplete
case_replays_complete law texts plans options are schedule items accepted text code input is sound enough a h =
    case_ends law texts plans options are schedule items accepted text code input is sound enough a h

-- what is known to end is written with the status of an end
ended : (status : Status) (answer : Answer) → IsReplayEnd answer → status ≡ status_of answer → IsOneOf status (statuses.Ended ∷ statuses.Trapped ∷ [])
ended status (answers.EndedWith arrays tally) is own = inl own
ended status (answers.TrappedWith trap line tally) is own = inr (inl own)
ended status _ is own = absurd is

module _ (options : ReplayOptions) (are : AreReplayed options) (schedule : List ℕ) (o : Ports) (status : Status) where
  -- from the rows of `replay`
  pub replay_ends : UnfinishedProgramsNeedMore → ReplaysComplete → ReplayRows options schedule o status → ReplayEnds options schedule o status
  replay_ends more complete rows = record {
    unfinished = λ w.
        more options are schedule w.read.2.items w.read.2.accepted w.read.0 w.read.2.has.0 w.read.2.has.1 options.turns w.read.2.has.2;
    completes = λ items accepted all e t has enough well.
        let k = rows.rows.rows.known all e well in
        ended status k.0 (complete options are schedule items accepted all t has enough k.0 k.1) k.2.own;
  }

  -- and from those of a case
  pub case_replay_ends : UnfinishedNeedMore → CaseReplaysComplete → ReplayCaseRows options schedule o status → CaseReplayEnds options schedule o status
  case_replay_ends more complete rows = record {
    unfinished = λ w sound.
        let h = w.read.2.has in
        more options are schedule w.read.2.items w.read.2.accepted h.code h.input (may_run w.read.0 h.code h.input h.is sound) options.turns h.has;
    completes = λ items accepted all e code input is sound enough well.
        let k = rows.rows.rows.known all e well in
        ended status k.0 (complete options are schedule items accepted all code input is sound enough k.0 k.1) k.2.own;
  }
