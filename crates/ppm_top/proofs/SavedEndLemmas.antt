-- A replay of a saved text ends where acts are enough, of each sound code that left the state: the finish word is set then, and an answer that it is
-- unfinished comes only where that is 0.
use Rattle.std.proofs.Common.{◌≡◌, ◌≢◌, ◌≤◌, ◌<◌, ◌+◌, ◌*◌, ◌-◌, ◌∙◌, ℕ, suc, List, length, sym, ap, subst, arith}
use Rattle.std.specs.List.{AllByRecursion}
use Rattle.std.specs.Prelude.{◌^◌}
use Rattle.ppm_strands.specs.Calm.{Calm}
use Rattle.ppm_strands.specs.Run.{End as CapsuleEnd}
use Rattle.ppm_words.specs.declared.named_array.NamedArray.{NamedArray}
use Rattle.ppm_ports.specs.Outside.{Ports}
use Rattle.ppm_cells.specs.Ending.{ending_of}
use Rattle.ppm_cells.specs.declared.ending.Ending.{Ending}
use Rattle.ppm_cells.specs.declared.ending.Ending.TheVariants.{With}
use Rattle.ppm_cells.specs.declared.finish.Finish.{Finish}
use Rattle.ppm_cells.specs.declared.finish.Finish.TheVariants as finishes
use Rattle.ppm_cells.specs.declared.shape.Shape.{Shape}
use Rattle.ppm_code.specs.Strands.{Result}
use Rattle.ppm_code.specs.declared.code.CodeParts.{CodeParts}
use Rattle.ppm_depth.specs.Run.{ComesTo}
use Rattle.ppm_layout.specs.Correct.{Opens as IsOpened}
use Rattle.ppm_layout.specs.Root.{root_strand as strand_of_image}
use Rattle.ppm_opening.specs.Correct.{ShowsTheRun, ImagesShowTheRun}
use Rattle.ppm_plan.specs.Faults.{acts_of}
use Rattle.ppm_plan.specs.Forms.{schedule_form}
use Rattle.ppm_plan.specs.Refusals.{IsAccepted}
use Rattle.ppm_plan.specs.Schedules.{IsActAmong}
use Rattle.ppm_plan.specs.declared.schedule_item.ScheduleItem.{ScheduleItem}
use Rattle.ppm_step.specs.Laws.{IsProposed}
use Rattle.ppm_choice.specs.ScheduleLaws.{finish_from}
use Rattle.ppm_core.specs.Situation.{Situation, finish_in}
use Rattle.ppm_following.specs.Followed.{followed}
use Rattle.ppm_frames.specs.Seen.{arrays_at}
use Rattle.ppm_frames.specs.Views.{view}
use Rattle.ppm_kept.specs.Running.{IsFair, strands}
use Rattle.ppm_runs.specs.Legs.{Leg, GoOn, AreLegs}
use Rattle.ppm_takeover.specs.Replays.{enough_acts_over_legs, LegsReplaysEndByPlaces}
use Rattle.ppm_answers.specs.declared.answer.Answer.{Answer}
use Rattle.ppm_answers.specs.declared.answer.Answer.TheVariants as answers
use Rattle.ppm_answers.specs.declared.status.Status.{Status}
use Rattle.ppm_cli.specs.declared.replay.ReplaySavedOptions.{ReplaySavedOptions}
use Rattle.ppm_loading.specs.Says.{IsOfFinish, IsOfEnding}
use Rattle.ppm_loading.proofs.SayLemmas.{ending_is, of_proposed}
use Rattle.ppm_outcomes.specs.AsCode.{MayRun}
use Rattle.ppm_outcomes.specs.CodeResumes.{CodeWordsComeBack, IsLeftByCode, legs_of}
use Rattle.ppm_outcomes.specs.Legs.{words_at_last, struck_in_all}
use Rattle.ppm_outcomes.specs.Replays.{tally_of, IsSaid}
use Rattle.ppm_outcomes.specs.Resumes.{SavedState, GoesOnFrom, named}
use Rattle.ppm_outcomes.proofs.AsCodeLemmas.{calm_as, ends_as}
use Rattle.ppm_outcomes.proofs.EndLemmas.{keeper_opened}
use Rattle.ppm_outcomes.proofs.ResumeLemmas.{saved_or_none}
use Rattle.ppm_replay_command.proofs.ActsAmong.{acts_among}
use Rattle.ppm_legs.specs.SavedReplays.{HasCause, Unended, Proposed, Stood, IsLasting}
use Rattle.ppm_top.specs.SavedReplayEnds.{UnfinishedSavedNeedMore, SavedReplayEnds, CountedSavedReplayEnds}

-- numbers of legs are low
split : (p d n : ℕ) → (p + 1) * n + d * n ≡ (p + d + 1) * n
split p d n = grind arith

legs_few : (p n : ℕ) → p ≤ 64 → n < 2 ^ 50 → (p + 1) * (suc n + 1) < 2 ^ 58
legs_few p n most few =
    let parts = split p (64 - p) (suc n + 1) in
    let all : (p + (64 - p) + 1) * (suc n + 1) ≡ 65 * (suc n + 1) = ap (λ (k : ℕ). k * (suc n + 1)) (omega (arith, most)) in
    omega (arith, parts, all, few)

-- an answer that a replay is unfinished comes where the finish word is 0
module _ (z : SavedState) (acts : ℕ) (m : Situation) (arrays : List NamedArray) where
  abbrev Of : Finish → Answer → Type 0
  Of finish a = IsOfFinish m.shape m.array_lengths m.state.words (λ values. answers.EndedWith values (tally_of m))
      (λ trap line. answers.TrappedWith trap line (tally_of m)) (λ processor x. ⊥) (λ x. x ≡ answers.Unfinished acts) arrays finish a

  abbrev By : Ending → Answer → Type 0
  By ending a = IsOfEnding m.shape m.array_lengths m.state.words (λ values. answers.EndedWith values (tally_of m))
      (λ trap line. answers.TrappedWith trap line (tally_of m)) (λ processor x. ⊥) (λ x. x ≡ answers.Unfinished acts) arrays ending a

  lasting_ends : (finish : Finish) → IsLasting finish → (n : ℕ) → Of finish (answers.Unfinished n) → ⊥
  lasting_ends finishes.Ended l n h = cc
  lasting_ends (finishes.Trapped trap line) l n h = cc
  lasting_ends (finishes.OutOfRoom other) l n h = cc
  lasting_ends (finishes.Broken other) l n h = cc
  lasting_ends (finishes.OutOfTurns other) l n h = absurd l
  lasting_ends finishes.Stopped l n h = absurd l
  lasting_ends finishes.Unset l n h = absurd l

  proposed_lasts : (p : ℕ) (finish : Finish) → IsProposed p finish → IsLasting finish
  proposed_lasts p finishes.Ended h = tt
  proposed_lasts p (finishes.Trapped trap line) h = tt
  proposed_lasts p (finishes.OutOfRoom other) h = tt
  proposed_lasts p (finishes.Broken other) h = tt
  proposed_lasts p (finishes.OutOfTurns other) h = absurd h
  proposed_lasts p finishes.Stopped h = absurd h
  proposed_lasts p finishes.Unset h = absurd h

  not_unset : (finish : Finish) → IsLasting finish → finish ≢ finishes.Unset
  not_unset finish l e = subst IsLasting {x = finish} {y = finishes.Unset} e l

  unset : HasCause z acts m → (n : ℕ) → IsSaid acts m arrays (answers.Unfinished n) → finish_in m ≡ 0
  unset (Unended none made) n h = none
  unset (Proposed w) n h =
      absurd (lasting_ends w.finish (proposed_lasts z.shape.processors w.finish w.is_proposed) n
      (of_proposed (λ values. answers.EndedWith values (tally_of m)) (λ trap line. answers.TrappedWith trap line (tally_of m)) (λ processor x. ⊥)
      (λ x. x ≡ answers.Unfinished acts) m.shape m.array_lengths m.state.words arrays z.shape.processors (finish_in m) w (answers.Unfinished n) h))
  unset (Stood finish stands lasts same) n h =
      let is : ending_of (finish_in m) ≡ With finish = ap ending_of same ∙ ending_is _ finish stands (not_unset finish lasts) in
      absurd (lasting_ends finish lasts n (subst (λ (e : Ending). By e (answers.Unfinished n)) is h))

module _ (shows : ImagesShowTheRun) (places : LegsReplaysEndByPlaces) (comes : CodeWordsComeBack) (options : ReplaySavedOptions) (schedule : List ℕ)
    (items : List ScheduleItem) (z : SavedState) (accepted : IsAccepted schedule_form schedule z.shape.processors items) (code : CodeParts)
    (input : List NamedArray) (may : MayRun code input) (left : IsLeftByCode code input z) (end : CapsuleEnd Result) (to : ComesTo code input end)
    (enough : enough_acts_over_legs (acts_of items) z.shape.processors end.counts.capsules (struck_in_all left.start left.legs left.turns)
    (length left.legs + 1) ≤ options.turns) (start : Situation) (on : GoesOnFrom z start) where
  abbrev m : Situation
  m = left.start

  abbrev s : Shape
  s = left.opens.shape

  abbrev words : List ℕ
  words = left.opens.image.words

  abbrev legs : List Leg
  legs = legs_of left on.words

  goes_on : GoOn m.shape (words_at_last m left.legs left.turns) on.words
  goes_on =
      subst (λ (x : Shape). GoOn x (words_at_last m left.legs left.turns) on.words) left.shape_is
      (subst (λ (w : List ℕ). GoOn z.shape w on.words) left.words_are
      (record { renewal = comes code input may z left on.words on.renewed; finish = saved_or_none z on.words on.renewed }))

  are_legs : AreLegs s code words legs
  are_legs = subst (λ (x : Situation). AreLegs x.shape x.code x.state.words legs) left.opens.loads (left.are, left.among, goes_on)

  shape_is : z.shape ≡ s
  shape_is = left.shape_is ∙ ap (λ (x : Situation). x.shape) left.opens.loads

  code_is : z.code ≡ code
  code_is = left.code_is ∙ ap (λ (x : Situation). x.code) left.opens.loads

  abbrev Enough : (processors strikes legs : ℕ) → Type 0
  Enough processors strikes legs_ = enough_acts_over_legs (acts_of items) processors end.counts.capsules strikes legs_ ≤ options.turns

  enough_there : Enough s.processors (struck_in_all m left.legs left.turns) (length legs)
  enough_there =
      let count : length left.legs + 1 ≡ length legs = omega arith in
      subst (λ (n : ℕ). Enough s.processors (struck_in_all m left.legs left.turns) n) count
      (subst (λ (x : Shape). Enough x.processors (struck_in_all m left.legs left.turns) (length left.legs + 1)) shape_is enough)

  set_there : finish_from s code on.words items options.turns ≢ 0
  set_there =
      let b = left.opens in
      let opened : IsOpened code input s left.keeper b.image = record {
        code_is = may.code_is;
        input_is = may.input_is;
        below = keeper_opened left.sizes code input left.keeper m b;
        image_is = b.opens;
      } in
      let shown : ShowsTheRun code input s words = shows code input s left.keeper b.image opened may.names in
      let calm : Calm (strands s code) (strand_of_image code input) (arrays_at (view s words)) =
      calm_as shown.strands shown.root shown.arrays may.sound.calm in
      let fair : IsFair code = record { code_is = may.code_is; tidy = may.sound.tidy; free = may.sound.free } in
      let ends = ends_as (sym shown.strands) (sym shown.root) (sym shown.arrays) end to in
      let named_ = acts_among z.shape.processors 1 items accepted.obeyed.there in
      let there = subst (λ (x : Shape). AllByRecursion (λ item. IsActAmong x.processors item.act) items) shape_is named_ in
      let lives = subst (λ (x : Shape). accepted.keeper < x.processors) shape_is accepted.obeyed.below in
      let few = legs_few s.processors (length left.legs) s.within.processors_most left.few in
      let acts = subst (λ (x : Situation). Enough s.processors (struck_in_all x left.legs left.turns) (length legs)) b.loads enough_there in
      places code input s left.keeper b.image (b.sized.takeover ∙ left.places) fair opened calm legs are_legs few items there accepted.keeper lives
      accepted.obeyed.kept.spared end ends options.turns acts

  pub set : finish_in (followed start items options.turns) ≢ 0
  set =
      let here : finish_from z.shape z.code on.words items options.turns ≢ 0 =
      subst (λ (x : Shape). finish_from x z.code on.words items options.turns ≢ 0) (sym shape_is)
      (subst (λ (c : CodeParts). finish_from s c on.words items options.turns ≢ 0) (sym code_is) set_there) in
      subst (λ (x : Situation). finish_in (followed x items options.turns) ≢ 0) (sym on.loads) here

pub unfinished_saved_need_more : ImagesShowTheRun → LegsReplaysEndByPlaces → CodeWordsComeBack → UnfinishedSavedNeedMore
unfinished_saved_need_more shows places comes options schedule items z accepted acts h code input may left end to enough =
    set shows places comes options schedule items z accepted code input may left end to enough h.start h.goes_on
    (unset z options.turns (followed h.start items options.turns) (named z.arrays) h.cause acts h.says)

pub saved_replay_ends : UnfinishedSavedNeedMore → (options : ReplaySavedOptions) (schedule : List ℕ) (o : Ports) (status : Status)
    → SavedReplayEnds options schedule o status
saved_replay_ends more options schedule o status = record {
  unfinished = λ w code input may left.
      more options schedule w.read.2.has.items w.read.2.state w.read.2.has.accepted options.turns w.read.2.has.has code input may left;
}

-- where its counts are told, too
pub counted_saved_replay_ends : UnfinishedSavedNeedMore → (options : ReplaySavedOptions) (schedule : List ℕ) (o : Ports) (status : Status)
    → CountedSavedReplayEnds options schedule o status
counted_saved_replay_ends more options schedule o status = record {
  unfinished = λ w code input may left.
      let read = w.replays.read in
      more options schedule read.2.has.items read.2.state read.2.has.accepted options.turns read.2.has.has.has code input may left;
}
