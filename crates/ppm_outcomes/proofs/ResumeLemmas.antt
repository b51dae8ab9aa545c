-- The answers that a saved text has where it is resumed: what its words say after a run from them.
use Rattle.std.proofs.Common.{◌≡◌, ◌≢◌, ◌⊎◌, ◌≤◌, ◌<◌, ◌∙◌, inl, inr, ℕ, List, ◌++◌, length, map, Option, Some, None, arith, refl, sym, ap, subst, length-append}
use Rattle.ppm_words.specs.declared.event.Event.{Event}
use Rattle.ppm_words.specs.declared.named_array.NamedArray.{NamedArray}
use Rattle.ppm_ports.specs.Ports.{Port}
use Rattle.ppm_ports.specs.Outside.{ToldLists}
use Rattle.ppm_cells.specs.Finish.{finish_of, finish_word, IsFinish}
use Rattle.ppm_cells.specs.Memory.{read}
use Rattle.ppm_cells.specs.declared.cell.Cell.TheVariants.{FinishWord}
use Rattle.ppm_cells.specs.declared.finish.Finish.{Finish}
use Rattle.ppm_cells.specs.declared.finish.Finish.TheVariants as finishes
use Rattle.ppm_cells.specs.declared.shape.Shape.{Shape}
use Rattle.ppm_cells.specs.declared.ending.Ending.{Ending}
use Rattle.ppm_cells.specs.declared.ending.Ending.TheVariants.{NotYet, With, Unknown}
use Rattle.ppm_cells.specs.Ending.{ending_of}
use Rattle.ppm_cells.proofs.ExactLemmas.{pack-unpack}
use Rattle.ppm_cells.proofs.FinishLemmas.{finishes_exact}
use Rattle.ppm_code.specs.Code.{IsCode}
use Rattle.ppm_core.specs.Situation.{Situation, loaded}
use Rattle.ppm_plan.specs.declared.plan_error.PlanError.{PlanError}
use Rattle.ppm_plan.specs.declared.plan_error.PlanError.TheVariants as plan_errors
use Rattle.ppm_plan.specs.declared.plan_item.PlanItem.{PlanItem}
use Rattle.ppm_plan.specs.Forms.{plan_form}
use Rattle.ppm_plan.specs.Refusals.{IsAccepted, IsKeeper, IsRefused}
use Rattle.ppm_plan.specs.Schedules.{Planned}
use Rattle.ppm_step.specs.Laws.{IsProposed, IsFilledBehind}
use Rattle.ppm_step.specs.Standings.{unknown_place}
use Rattle.ppm_step.specs.State.{opening}
use Rattle.ppm_step.specs.declared.turn.Turn.{Turn}
use Rattle.ppm_choice.specs.declared.limits.Limits.{Limits}
use Rattle.ppm_choice.specs.Deeds.{work_made}
use Rattle.ppm_choice.specs.Finishes.{Finishes, Proposed, Spent, Stood}
use Rattle.ppm_choice.specs.Obeying.{ObeyAll}
use Rattle.ppm_choice.proofs.EndLemmas.{runs_finish}
use Rattle.ppm_saved.specs.Names.{lengths_of}
use Rattle.ppm_saved.specs.Renewal.{finish_behind as renewed_finish, AreRenewed, IsRenewalOf}
use Rattle.ppm_saved.specs.declared.names.NamedLength.{NamedLength}
use Rattle.ppm_saved.specs.declared.renewal.Renewed.{Renewed}
use Rattle.ppm_saved.specs.declared.saved.Saved.{Saved}
use Rattle.ppm_saved_reader.specs.Correct.{IsRefusal, IsWrongAt, Breaks, TooLong}
use Rattle.ppm_saved_reader.specs.Rules.{saved_limit}
use Rattle.ppm_saved_reader.specs.declared.saved_error.Fault.{Fault}
use Rattle.ppm_saved_reader.specs.declared.saved_error.Fault.TheVariants as fault
use Rattle.ppm_saved_reader.specs.declared.saved_error.SavedError.{SavedError}
use Rattle.ppm_saved_reader.specs.declared.saved_error.SavedError.TheVariants as errors
use Rattle.ppm_answers.specs.declared.answer.Answer.{Answer}
use Rattle.ppm_answers.specs.declared.answer.Answer.TheVariants as answers
use Rattle.ppm_answers.specs.Reading.{Reads, TextMay}
use Rattle.ppm_cli.specs.declared.resume.ResumeOptions.{ResumeOptions}
use Rattle.ppm_loading.specs.Planned.{refusal_of as plan_refusal}
use Rattle.ppm_loading.specs.Programs.{ProgramMay}
use Rattle.ppm_loading.specs.Says.{arrays_from, IsTheOne, IsOfFinish, IsOfEnding}
use Rattle.ppm_loading.proofs.SayLemmas.{ending_is, some_of_proposed, unset_is}
use Rattle.ppm_table.specs.Closed.{Closing}
use Rattle.ppm_table.specs.Shown.{opening_of}
use Rattle.ppm_table.specs.declared.processor.Shared.{Shared}
use Rattle.ppm_table.specs.declared.view.Opening.{Opening}
use Rattle.ppm_threads.specs.Driven.{Driven, OthersStay, WasRefused}
use Rattle.ppm_outcomes.specs.RunOf.{words_behind, finish_behind, RunGivenUp}
use Rattle.ppm_outcomes.specs.Runs.{IsSaid, RunTold}
use Rattle.ppm_outcomes.specs.Watchers.{AreTold, OthersKeep, ToldNothing, ToldInPart, ToldWhole}
use Rattle.ppm_outcomes.specs.Resumes.{SavedState, saved_finish, IsTextOf, named, limits_of, plan_of, ResumedHas, ResumedGivenUp, IsBrokenBefore, OfState, ByItems, ItemsHave, ItemsWant, StateHas, StateWants, TextHas, TextWants, TextTells, ResumeMay, ResumeWants, ResumeTells, FrontsDecideResumed, refusal_of, state_of}
use Rattle.ppm_outcomes.proofs.RunLemmas.{not_spent, room_finish, proposed_of, spent_ending, spent_answer}
use Rattle.ppm_outcomes.proofs.WatchLemmas.{are_told, if_wanting, others_keep, told_none}
use Rattle.ppm_outcomes.proofs.WantLemmas.{lists_refused, map_want, map_wanting}

-- that a processor has made its turns is an answer, and that a run has no end is none
abbrev IsOutOfTurns : ℕ → Answer → Type 0
IsOutOfTurns processor a = a ≡ answers.OutOfTurns processor

abbrev HasNoEnd : Answer → Type 0
HasNoEnd a = ⊥

-- the answers that a run has
abbrev pub IsOfResumed : Answer → Type 0
IsOfResumed (answers.Ended arrays) = Unit {0}
IsOfResumed (answers.Trapped trap line) = Unit {0}
IsOfResumed (answers.OutOfTurns processor) = Unit {0}
IsOfResumed (answers.OutOfRoom place) = Unit {0}
IsOfResumed (answers.Broken place) = Unit {0}
IsOfResumed _ = ⊥

module _ (s : Shape) (lengths words : List ℕ) (arrays : List NamedArray) where
  abbrev Of : Finish → Answer → Type 0
  Of finish a = IsOfFinish s lengths words answers.Ended answers.Trapped IsOutOfTurns HasNoEnd arrays finish a

  abbrev At : Ending → Answer → Type 0
  At ending a = IsOfEnding s lengths words answers.Ended answers.Trapped IsOutOfTurns HasNoEnd arrays ending a

  finish_kind : (finish : Finish) (a : Answer) → Of finish a → IsOfResumed a
  finish_kind finishes.Ended a h = subst IsOfResumed (sym h) tt
  finish_kind (finishes.Trapped trap line) a h = subst IsOfResumed (sym h) tt
  finish_kind (finishes.OutOfRoom place) a h = subst IsOfResumed (sym h) tt
  finish_kind (finishes.Broken place) a h = subst IsOfResumed (sym h) tt
  finish_kind (finishes.OutOfTurns processor) a h = subst IsOfResumed (sym h) tt
  finish_kind finishes.Stopped a h = absurd h
  finish_kind finishes.Unset a h = absurd h

  ending_kind : (ending : Ending) (a : Answer) → At ending a → IsOfResumed a
  ending_kind NotYet a h = absurd h
  ending_kind (With finish) a h = finish_kind finish a h
  ending_kind Unknown a h = absurd h

  pub said_kind : (a : Answer) → IsSaid s lengths arrays words a → IsOfResumed a
  said_kind a h = ending_kind (ending_of (read s words FinishWord)) a h

-- a finish word that fresh processors find
some_is : (a b : Finish) → Some a ≡ Some b → a ≡ b
some_is a b e = cc

module _ (w : ℕ) where
  -- it is the saved one, or 0
  same_or_none : (o : Option Finish) → (renewed_finish o w ≡ w) ⊎ (renewed_finish o w ≡ 0)
  same_or_none None = inl refl
  same_or_none (Some finishes.Unset) = inl refl
  same_or_none (Some finishes.Ended) = inl refl
  same_or_none (Some (finishes.Trapped trap line)) = inl refl
  same_or_none (Some (finishes.OutOfTurns processor)) = inr refl
  same_or_none (Some (finishes.OutOfRoom place)) = inl refl
  same_or_none (Some finishes.Stopped) = inr refl
  same_or_none (Some (finishes.Broken place)) = inl refl

  -- where it isn't 0, it is the saved one, and that says no limit of turns nor of a watcher's memory
  abbrev Stays : Finish → Type 0
  Stays finishes.Unset = ⊥
  Stays (finishes.OutOfTurns processor) = ⊥
  Stays finishes.Stopped = ⊥
  Stays _ = Unit {0}

  stays_by : (o : Option Finish) → finish_of w ≡ o → o ≢ None → renewed_finish o w ≢ 0
      → (f : Finish) × (finish_of w ≡ Some f) × Stays f × (renewed_finish o w ≡ w)
  stays_by None e some ne = absurd (some refl)
  stays_by (Some finishes.Unset) e some ne =
      absurd (ne (sym (pack-unpack finish_word IsFinish finish_of finishes_exact w finishes.Unset e) ∙ unset_is))
  stays_by (Some finishes.Ended) e some ne = (finishes.Ended, e, tt, refl)
  stays_by (Some (finishes.Trapped trap line)) e some ne = (finishes.Trapped trap line, e, tt, refl)
  stays_by (Some (finishes.OutOfTurns processor)) e some ne = absurd (ne refl)
  stays_by (Some (finishes.OutOfRoom place)) e some ne = (finishes.OutOfRoom place, e, tt, refl)
  stays_by (Some finishes.Stopped) e some ne = absurd (ne refl)
  stays_by (Some (finishes.Broken place)) e some ne = (finishes.Broken place, e, tt, refl)

not_unset : (w : ℕ) (f : Finish) → Stays w f → f ≢ finishes.Unset
not_unset w f s e = subst (Stays w) {x = f} {y = finishes.Unset} e s

-- of a state and the words that fresh processors find
module _ (z : SavedState) (words : List ℕ) (renewed : AreRenewed z.shape z.words words) where
  abbrev word : ℕ
  word = read z.shape words FinishWord

  word_is : word ≡ renewed_finish (finish_of (saved_finish z)) (saved_finish z)
  word_is = renewed.cells FinishWord tt

  pub saved_or_none : (word ≡ saved_finish z) ⊎ (word ≡ 0)
  saved_or_none = elim (same_or_none (saved_finish z) (finish_of (saved_finish z))) [ inl e ↦ inl (word_is ∙ e) | inr e ↦ inr (word_is ∙ e) ]

  module _ (stands : finish_of (saved_finish z) ≢ None) where
    -- where it isn't 0, what it says was saved
    stood : word ≢ 0 → (f : Finish) × (finish_of word ≡ Some f) × Stays (saved_finish z) f × (word ≡ saved_finish z)
    stood ne =
        let k = stays_by (saved_finish z) (finish_of (saved_finish z)) refl stands (λ e. ne (word_is ∙ e)) in
        let same : word ≡ saved_finish z = word_is ∙ k.3 in
        (k.0, ap finish_of same ∙ k.1, k.2, same)

    abbrev pub start : Situation
    start = loaded z.shape z.code (lengths_of z.arrays) words

    -- what is said after turns of the machine, whose finish word has a cause in them
    module _ (limits : Limits) (turns : List Turn) (arrays : List NamedArray)
        (has_end : Finishes z.shape z.code limits start.state turns (finish_behind start turns)) where
      abbrev Said : Answer → Type 0
      Said a = IsSaid z.shape (lengths_of z.arrays) arrays (words_behind start turns) a

      abbrev OfWords : Finish → Answer → Type 0
      OfWords finish a = Of z.shape (lengths_of z.arrays) (words_behind start turns) arrays finish a

      -- where the saved word stood
      stood_ending : finish_behind start turns ≡ word → word ≢ 0
          → (f : Finish) × (finish_of (saved_finish z) ≡ Some f) × Stays (saved_finish z) f × (ending_of (finish_behind start turns) ≡ With f)
      stood_ending same ne =
          let k = stood ne in
          (k.0, sym (ap finish_of k.3) ∙ k.1, k.2, ending_is (finish_behind start turns) k.0 (ap finish_of same ∙ k.1) (not_unset (saved_finish z) k.0 k.2))

      some_of : (f : Finish) → Stays (saved_finish z) f → (a : Answer) × OfWords f a
      some_of finishes.Ended s = (answers.Ended (arrays_from z.shape (lengths_of z.arrays) (words_behind start turns) 0 arrays), refl)
      some_of (finishes.Trapped trap line) s = (answers.Trapped trap line, refl)
      some_of (finishes.OutOfRoom place) s = (answers.OutOfRoom place, refl)
      some_of (finishes.Broken place) s = (answers.Broken place, refl)
      some_of (finishes.OutOfTurns processor) s = absurd s
      some_of finishes.Stopped s = absurd s
      some_of finishes.Unset s = absurd s

      by_ending : (f : Finish) → ending_of (finish_behind start turns) ≡ With f → (a : Answer) → OfWords f a → Said a
      by_ending f e a h = subst (λ (x : Ending). At z.shape (lengths_of z.arrays) (words_behind start turns) arrays x a) (sym e) h

      of_ending : (f : Finish) → ending_of (finish_behind start turns) ≡ With f → (a : Answer) → Said a → OfWords f a
      of_ending f e a h = subst (λ (x : Ending). At z.shape (lengths_of z.arrays) (words_behind start turns) arrays x a) e h

      -- there is an answer
      pub some_said : (a : Answer) × Said a
      some_said = by has_end
        where
          by : Finishes z.shape z.code limits start.state turns (finish_behind start turns) → (a : Answer) × Said a
          by (Proposed w filled) =
              some_of_proposed answers.Ended answers.Trapped IsOutOfTurns HasNoEnd z.shape (lengths_of z.arrays) (words_behind start turns) arrays
              z.shape.processors (finish_behind start turns) w
          by (Spent processor there stands_ made) = (
            answers.OutOfTurns processor,
            by_ending (finishes.OutOfTurns processor) (spent_ending z.shape (lengths_of z.arrays) (words_behind start turns) arrays processor stands_)
                (answers.OutOfTurns processor) refl,
          )
          by (Stood same ne) =
              let k = stood_ending same (λ e. ne (same ∙ e)) in
              let a = some_of k.0 k.2 in
              (a.0, by_ending k.0 k.3 a.0 a.1)

      -- that a processor has made its turns is said only where it has
      pub spent_said : (processor : ℕ) → Said (answers.OutOfTurns processor)
          → (processor < z.shape.processors) × (work_made z.shape z.code processor start.state turns ≡ limits.turns)
      spent_said processor h = by has_end
        where
          other_stood : (f : Finish) → Stays (saved_finish z) f → OfWords f (answers.OutOfTurns processor) → ⊥
          other_stood finishes.Ended s k = cc
          other_stood (finishes.Trapped trap line) s k = cc
          other_stood (finishes.OutOfRoom place) s k = cc
          other_stood (finishes.Broken place) s k = cc
          other_stood (finishes.OutOfTurns x) s k = absurd s
          other_stood finishes.Stopped s k = absurd s
          other_stood finishes.Unset s k = absurd s

          number : (other : ℕ) (a : Answer) → a ≡ answers.OutOfTurns other → a ≡ answers.OutOfTurns processor → other ≡ processor
          number other a e f = cc

          by : Finishes z.shape z.code limits start.state turns (finish_behind start turns)
              → (processor < z.shape.processors) × (work_made z.shape z.code processor start.state turns ≡ limits.turns)
          by (Proposed w filled) =
              absurd (not_spent z.shape (lengths_of z.arrays) (words_behind start turns) arrays z.shape.processors w.finish w.is_proposed processor
              (proposed_of z.shape (lengths_of z.arrays) (words_behind start turns) arrays z.shape.processors w (answers.OutOfTurns processor) h))
          by (Spent other there stands_ made) =
              let same : other ≡ processor = number other (answers.OutOfTurns processor)
              (spent_answer z.shape (lengths_of z.arrays) (words_behind start turns) arrays other stands_ (answers.OutOfTurns processor) h) refl in
              subst (λ (c : ℕ). (c < z.shape.processors) × (work_made z.shape z.code c start.state turns ≡ limits.turns)) same (there, made)
          by (Stood same ne) =
              let k = stood_ending same (λ e. ne (same ∙ e)) in
              absurd (other_stood k.0 k.2 (of_ending k.0 k.3 (answers.OutOfTurns processor) h))

      -- and that a pool is full only where a turn found that of a place so, or the saved words said it
      abbrev IsFull : (place : ℕ) → Type 0
      IsFull place = (place < z.shape.processors) × IsFilledBehind z.shape z.code place words turns

      pub filled_said : (place : ℕ) → Said (answers.OutOfRoom place)
          → IsFull place ⊎ (finish_of (saved_finish z) ≡ Some (finishes.OutOfRoom place))
      filled_said place h = by has_end
        where
          different : (other : ℕ) → answers.OutOfRoom place ≡ answers.OutOfTurns other → ⊥
          different other e = cc

          room_stood : (f : Finish) → Stays (saved_finish z) f → OfWords f (answers.OutOfRoom place) → f ≡ finishes.OutOfRoom place
          room_stood finishes.Ended s k = cc
          room_stood (finishes.Trapped trap line) s k = cc
          room_stood (finishes.OutOfRoom other) s k = let same : other ≡ place = cc in ap (λ n. finishes.OutOfRoom n) same
          room_stood (finishes.Broken other) s k = cc
          room_stood (finishes.OutOfTurns x) s k = absurd s
          room_stood finishes.Stopped s k = absurd s
          room_stood finishes.Unset s k = absurd s

          by : Finishes z.shape z.code limits start.state turns (finish_behind start turns)
              → IsFull place ⊎ (finish_of (saved_finish z) ≡ Some (finishes.OutOfRoom place))
          by (Proposed w filled) =
              let is = room_finish z.shape (lengths_of z.arrays) (words_behind start turns) arrays z.shape.processors w.finish w.is_proposed place
              (proposed_of z.shape (lengths_of z.arrays) (words_behind start turns) arrays z.shape.processors w (answers.OutOfRoom place) h) in
              inl (subst (IsProposed z.shape.processors) is w.is_proposed, filled place (w.stands ∙ ap Some is))
          by (Spent other there stands_ made) =
              absurd (different other (spent_answer z.shape (lengths_of z.arrays) (words_behind start turns) arrays other stands_ (answers.OutOfRoom place) h))
          by (Stood same ne) =
              let k = stood_ending same (λ e. ne (same ∙ e)) in
              inr (k.1 ∙ ap Some (room_stood k.0 k.2 (of_ending k.0 k.3 (answers.OutOfRoom place) h)))

-- ---- what a state has

module _ (options : ResumeOptions) (before now : ToldLists) (items : List PlanItem) (z : SavedState) where
  pub has_kind : (a : Answer) → ResumedHas options before now items z a → IsOfResumed a
  has_kind a h = said_kind h.start.shape h.start.array_lengths (words_behind h.start h.run.turns) (named z.arrays) a h.run.says

  -- that turns are made, and that a pool is full, have causes
  pub spent_has : (c : ℕ) (h : ResumedHas options before now items z (answers.OutOfTurns c))
      → (c < z.shape.processors) × (work_made h.start.shape h.start.code c h.start.state h.run.turns ≡ options.turns)
  spent_has c h =
      subst (λ (m : Situation). Finishes m.shape m.code (limits_of options) m.state h.run.turns (finish_behind m h.run.turns)
      → IsSaid m.shape m.array_lengths (named z.arrays) (words_behind m h.run.turns) (answers.OutOfTurns c)
      → (c < z.shape.processors) × (work_made m.shape m.code c m.state h.run.turns ≡ options.turns)) (sym h.goes_on.loads)
      (λ finished says. spent_said z h.goes_on.words h.goes_on.renewed h.stands (limits_of options) h.run.turns (named z.arrays) finished c says)
      h.run.finished h.run.says

  pub filled_has : (place : ℕ) (h : ResumedHas options before now items z (answers.OutOfRoom place))
      → ((place < z.shape.processors) × IsFilledBehind h.start.shape h.start.code place h.start.state.words h.run.turns)
      ⊎ (finish_of (saved_finish z) ≡ Some (finishes.OutOfRoom place))
  filled_has place h =
      subst (λ (m : Situation). Finishes m.shape m.code (limits_of options) m.state h.run.turns (finish_behind m h.run.turns)
      → IsSaid m.shape m.array_lengths (named z.arrays) (words_behind m h.run.turns) (answers.OutOfRoom place)
      → ((place < z.shape.processors) × IsFilledBehind m.shape m.code place m.state.words h.run.turns)
      ⊎ (finish_of (saved_finish z) ≡ Some (finishes.OutOfRoom place)))
      (sym h.goes_on.loads)
      (λ finished says. filled_said z h.goes_on.words h.goes_on.renewed h.stands (limits_of options) h.run.turns (named z.arrays) finished place says)
      h.run.finished h.run.says

  -- the answer of a run is one by the items of the plan, and memory may be wanting
  pub items_may : (a : Answer) → ResumedHas options before now items z a → ProgramMay (ItemsHave options before now items z) a
  items_may answers.NoMemory h = tt
  items_may (answers.Broken place) h = inr h
  items_may a h = h

  pub broken_may : now ≡ before → finish_of (saved_finish z) ≡ None → ProgramMay (ItemsHave options before now items z) (answers.Broken unknown_place)
  broken_may still none = inl (record { none = none; still = still }, refl)

  -- of no other kind
  pub items_kind : (a : Answer) → ItemsHave options before now items z a → IsOfResumed a
  items_kind (answers.Broken place) h = tt
  items_kind a h = has_kind a h

-- what watchers were told belongs to an answer of a run
pub run_tells : (processors : ℕ) (T : Type 0) (a : Answer) (before now : ToldLists) → IsOfResumed a → OthersKeep processors before now
    → RunTold processors T a before now
run_tells processors T (answers.Ended arrays) before now h others = (tt, others, tt)
run_tells processors T (answers.Trapped t line) before now h others = (tt, others, tt)
run_tells processors T (answers.OutOfTurns processor) before now h others = (tt, others, tt)
run_tells processors T (answers.OutOfRoom place) before now h others = (tt, others, tt)
run_tells processors T (answers.Broken place) before now h others = (tt, others, tt)
run_tells processors T a before now h others = absurd h

module _ (options : ResumeOptions) (before now : ToldLists) where
  -- what was told of a run by items was told of one by the plan
  pub state_tells : (plan : List ℕ) (z : SavedState) (items : List PlanItem) → IsAccepted plan_form plan z.shape.processors items → (a : Answer)
      → RunTold z.shape.processors (ItemsWant options before now items z) a before now
      → RunTold z.shape.processors (StateWants options plan before now z) a before now
  state_tells plan z items accepted a told =
      (told.0, told.1, map_wanting {T = ItemsWant options before now items z} {S = StateWants options plan before now z} lifted a told.2)
    where
      lifted : ItemsWant options before now items z → StateWants options plan before now z
      lifted w =
          map_want (λ (r : ResumedGivenUp options before now items z). record { items = items; accepted = accepted; has = r })
          (λ (r : (a : Answer) × ResumedHas options before now items z a). (r.0, record { items = items; accepted = accepted; has = r.1 })) w

  -- that is told of the text of the state, and of the source from which this was read
  pub text_tells : (plan text : List ℕ) (z : SavedState) → IsTextOf text z → (a : Answer)
      → RunTold z.shape.processors (StateWants options plan before now z) a before now → TextTells options plan text a before now
  text_tells plan text z is a told = (
    told.0,
    inr (record { state = z; is = is; has = told.1 }),
    map_wanting {T = StateWants options plan before now z} {S = TextWants options plan before now text} lifted a told.2,
  )
    where
      lifted : StateWants options plan before now z → TextWants options plan before now text
      lifted w =
          map_want (λ (r : ByItems plan (ResumedGivenUp options before now) z). record { state = z; is = is; has = r })
          (λ (r : (a : Answer) × ByItems plan (λ items z. ResumedHas options before now items z a) z). (r.0, record { state = z; is = is; has = r.1 })) w

  pub source_tells : (plan : List ℕ) (source : Port) (text : List ℕ) → Reads saved_limit source text → (a : Answer)
      → TextTells options plan text a before now → ResumeTells options plan source a before now
  source_tells plan source text reads a told = (
    told.0,
    elim told.1 [ inl still ↦ inl still | inr of ↦ inr (text, reads, of) ],
    map_wanting {T = TextWants options plan before now text} {S = ResumeWants options plan before now source} lifted a told.2,
  )
    where
      lifted : TextWants options plan before now text → ResumeWants options plan before now source
      lifted w =
          map_want (λ (r : OfState (ByItems plan (ResumedGivenUp options before now)) text). (text, reads, r))
          (λ (r : (a : Answer) × OfState (ByItems plan (λ items z. ResumedHas options before now items z a)) text). (r.0, (text, reads, r.1))) w

  -- where an answer may come, want of memory may, with what was told of it
  pub wants : (plan : List ℕ) (source : Port) (a : Answer) → ResumeMay options plan before now source a
      → ResumeTells options plan source a before now → ResumeWants options plan before now source
  wants plan source answers.NoMemory h told = told.2
  wants plan source answers.ReadFault h told = ToldNothing told.0
  wants plan source answers.WordsRefused h told = ToldNothing told.0
  wants plan source (answers.PlanRefused number) h told = ToldNothing told.0
  wants plan source (answers.SourceRefused r) h told = ToldNothing told.0
  wants plan source (answers.ListingRefused r) h told = ToldNothing told.0
  wants plan source (answers.SavedRefused r) h told = ToldNothing told.0
  wants plan source (answers.Conflicting c) h told = ToldNothing told.0
  wants plan source (answers.ConflictingAt c read write) h told = ToldNothing told.0
  wants plan source (answers.Untidy u) h told = ToldNothing told.0
  wants plan source (answers.InputRefused r) h told = ToldNothing told.0
  wants plan source (answers.Broken place) h told = broken h.2.has.has
    where
      broken : (IsBrokenBefore before now h.2.state × (place ≡ unknown_place)) ⊎ ResumedHas options before now h.2.has.items h.2.state (answers.Broken place)
          → ResumeWants options plan before now source
      broken (inl k) = ToldNothing k.0.still
      broken (inr r) = ToldWhole (
        answers.Broken place,
        (h.0, h.1, record { state = h.2.state; is = h.2.is; has = record { items = h.2.has.items; accepted = h.2.has.accepted; has = r } }),
      )
  wants plan source a h told = ToldWhole (
    a,
    (h.0, h.1, record { state = h.2.state; is = h.2.is; has = record { items = h.2.has.items; accepted = h.2.has.accepted; has = h.2.has.has } }),
  )

-- and so it is where nobody was told anything
pub untold_text : (options : ResumeOptions) (plan text : List ℕ) (a : Answer) (lists : ToldLists) → TextTells options plan text a lists lists
untold_text options plan text a lists = (told_none a lists, inl refl, if_wanting {T = TextWants options plan lists lists text} (ToldNothing refl) a)

pub untold_source : (options : ResumeOptions) (plan : List ℕ) (source : Port) (a : Answer) (lists : ToldLists)
    → ResumeTells options plan source a lists lists
untold_source options plan source a lists = (told_none a lists, inl refl, if_wanting {T = ResumeWants options plan lists lists source} (ToldNothing refl) a)

module _ (options : ResumeOptions) (plan : List ℕ) (before now : ToldLists) where
  -- with a plan that is accepted
  pub state_may : (z : SavedState) (items : List PlanItem) → IsAccepted plan_form plan z.shape.processors items → (a : Answer)
      → ProgramMay (ItemsHave options before now items z) a → ProgramMay (StateHas options plan before now z) a
  state_may z items accepted answers.NoMemory h = tt
  state_may z items accepted (answers.PlanRefused number) h = absurd (has_kind options before now items z (answers.PlanRefused number) h)
  state_may z items accepted a h = record { items = items; accepted = accepted; has = h }

  -- with one that is refused
  pub refused_plan : (z : SavedState) (error : PlanError) → IsRefused plan_form plan z.shape.processors error
      → ProgramMay (StateHas options plan before now z) (plan_refusal error)
  refused_plan z (plan_errors.BadItem n) r = record { error = plan_errors.BadItem n; of_text = refl; refused = r; number_is = refl }
  refused_plan z (plan_errors.NoSuchProcessor n) r = record { error = plan_errors.NoSuchProcessor n; of_text = refl; refused = r; number_is = refl }
  refused_plan z plan_errors.TooManyFaults r = record { error = plan_errors.TooManyFaults; of_text = refl; refused = r; number_is = refl }
  refused_plan z plan_errors.AllKilled r = record { error = plan_errors.AllKilled; of_text = refl; refused = r; number_is = refl }
  refused_plan z plan_errors.NoMemory r = tt

  -- the text of a state has the state's answer
  pub text_may : (text : List ℕ) (z : SavedState) → IsTextOf text z → (a : Answer) → ProgramMay (StateHas options plan before now z) a
      → TextMay (TextHas options plan before now) text a
  text_may text z is answers.NoMemory h = tt
  text_may text z is (answers.SavedRefused r) h = absurd (has_kind options before now h.items z (answers.SavedRefused r) h.has)
  text_may text z is a h = record { state = z; is = is; has = h }

  -- one of none is refused
  pub refused_text : (text : List ℕ) (error : SavedError) → IsRefusal text error → TextMay (TextHas options plan before now) text (refusal_of error)
  refused_text text errors.NoMemory h = tt
  refused_text text (errors.NoSuchForm line) h = record { error = errors.NoSuchForm line; of_text = λ e. cc; refused = h; number_is = refl; line_is = refl }
  refused_text text (errors.OutOfRange line) h = record { error = errors.OutOfRange line; of_text = λ e. cc; refused = h; number_is = refl; line_is = refl }
  refused_text text (errors.BadListing line) h = record { error = errors.BadListing line; of_text = λ e. cc; refused = h; number_is = refl; line_is = refl }
  refused_text text (errors.BadCode line) h = record { error = errors.BadCode line; of_text = λ e. cc; refused = h; number_is = refl; line_is = refl }
  refused_text text (errors.WrongCount line) h = record { error = errors.WrongCount line; of_text = λ e. cc; refused = h; number_is = refl; line_is = refl }

  -- and so is one that is too long
  pub long_text : (text : List ℕ) → saved_limit < length text → TextHas options plan before now text (answers.SavedRefused (record { number = 1; line = 1 }))
  long_text text long = record { error = errors.NoSuchForm 1; of_text = λ e. cc; refused = TooLong long; number_is = refl; line_is = refl }

  -- no text has a read fault
  pub no_fault : (text : List ℕ) → ¬ TextHas options plan before now text answers.ReadFault
  no_fault text h = has_kind options before now h.has.items h.state answers.ReadFault h.has.has

-- what stands after the limit changes no answer: a text that is longer is refused
module _ (text rest : List ℕ) (long : saved_limit < length text) where
  longer : saved_limit < length (text ++ rest)
  longer = let e = length-append text rest in omega (arith, long, e)

  long_wrong : (f : Fault) (line : ℕ) → IsWrongAt text f line → IsWrongAt (text ++ rest) f line
  long_wrong f line (Breaks r w) = let short = r.short in absurd (omega (arith, short, long))
  long_wrong f line (TooLong more) = TooLong longer

  long_refusal : (error : SavedError) → IsRefusal text error → IsRefusal (text ++ rest) error
  long_refusal errors.NoMemory h = tt
  long_refusal (errors.NoSuchForm line) h = long_wrong fault.NoSuchForm line h
  long_refusal (errors.OutOfRange line) h = long_wrong fault.OutOfRange line h
  long_refusal (errors.BadListing line) h = long_wrong fault.BadListing line h
  long_refusal (errors.BadCode line) h = long_wrong fault.BadCode line h
  long_refusal (errors.WrongCount line) h = long_wrong fault.WrongCount line h

pub fronts_decide : FrontsDecideResumed
fronts_decide options plan before now text rest (answers.SavedRefused r) long h = record {
  error = h.error;
  of_text = h.of_text;
  refused = long_refusal text rest long h.error h.refused;
  number_is = h.number_is;
  line_is = h.line_is;
}
fronts_decide options plan before now text rest a long h = let short = h.is.short in absurd (omega (arith, long, short))

-- ---- the run of a table

-- a plan for so many processors
pub same_plan : (z : SavedState) (plan : Planned) → plan.processors ≡ z.shape.processors → plan ≡ plan_of z plan.items
same_plan z plan same = λ i. record { processors = same i; items = plan.items }

-- some answer is that of a state, and it is what is said of the words after its run
module _ (options : ResumeOptions) (z : SavedState) (items : List PlanItem) (before now : ToldLists) where
  some_run : (stands : finish_of (saved_finish z) ≢ None) (keeper : ℕ) (words : List ℕ) (turns : List Turn) → AreRenewed z.shape z.words words → IsCode z.code
      → IsKeeper plan_form items keeper → keeper < z.shape.processors
      → ObeyAll (plan_of z items) (limits_of options) z.shape z.code (opening words z.shape.processors) turns
      → AreTold z.shape.processors (plan_of z items) (limits_of options) before now (loaded z.shape z.code (lengths_of z.arrays) words) turns
      → (a : Answer)
      × IsSaid z.shape (lengths_of z.arrays) (named z.arrays) (words_behind (loaded z.shape z.code (lengths_of z.arrays) words) turns) a
      × ResumedHas options before now items z a
  some_run stands keeper words turns renewed is spared below obey told =
      let m = loaded z.shape z.code (lengths_of z.arrays) words in
      let finished : Finishes z.shape z.code (limits_of options) m.state turns (finish_behind m turns) =
      (runs_finish z.shape z.code is (plan_of z items) (limits_of options) keeper words turns renewed.fit spared below obey).1 in
      let s = some_said z words renewed stands (limits_of options) turns (named z.arrays) finished in (
        s.0,
        s.1,
        record {
          stands = stands;
          start = m;
          goes_on = record { words = words; renewed = renewed; loads = refl };
          run = record { turns = turns; obey = obey; finished = finished; told = told; says = s.1 };
        },
      )

-- what is said after the run of a table over the words that fresh processors find, and told of it
module _ {W : Type 0} (told : W → Option (List Event)) (options : ResumeOptions) (z : SavedState) (plan : Planned) where
  abbrev k : (words : List ℕ) → Opening
  k words = record { shape = z.shape; code = z.code; words = words }

  module _ (stands : finish_of (saved_finish z) ≢ None) (keeper : ℕ) (words : List ℕ) (old new : List W) (w : W)
      (renewed : AreRenewed z.shape z.words words) (is : IsCode z.code) (same : plan.processors ≡ z.shape.processors)
      (spared : IsKeeper plan_form plan.items keeper) (below : keeper < z.shape.processors) (many : length new ≡ length old)
      (enough : z.shape.processors ≤ length old) where
    -- of a run that was given up
    state_given_up : OthersStay z.shape.processors old new → WasRefused told plan (limits_of options) (k words) old new
        → ResumedGivenUp options (map told old) (map told new) plan.items z
    state_given_up others r =
        let m = loaded z.shape z.code (lengths_of z.arrays) words in
        let lists : RunGivenUp plan (limits_of options) m (map told old) (map told new) = record {
          in_part = lists_refused told plan (limits_of options) (k words) old new w many enough r;
          others = others_keep told z.shape.processors old new w many others;
        } in
        record {
          stands = stands;
          start = m;
          goes_on = record { words = words; renewed = renewed; loads = refl };
          run = subst (λ (p : Planned). RunGivenUp p (limits_of options) m (map told old) (map told new)) (same_plan z plan same) lists;
        }

    -- of a whole run
    state_some : (behind : List ℕ) → OthersStay z.shape.processors old new → (d : Driven told plan (limits_of options) (k words) behind old new)
        → (a : Answer)
        × IsSaid z.shape (lengths_of z.arrays) (named z.arrays) (words_behind (loaded z.shape z.code (lengths_of z.arrays) words) d.turns) a
        × ResumedHas options (map told old) (map told new) plan.items z a
    state_some behind others d =
        let m = loaded z.shape z.code (lengths_of z.arrays) words in
        let obey = subst (λ (p : Planned). ObeyAll p (limits_of options) m.shape m.code m.state d.turns) (same_plan z plan same) d.obey in
        let are = are_told told plan (limits_of options) (k words) behind (lengths_of z.arrays) z.shape.processors old new w many enough refl others d in
        let lists = subst (λ (p : Planned). AreTold z.shape.processors p (limits_of options) (map told old) (map told new) m d.turns) (same_plan z plan same) are in
        some_run options z plan.items (map told old) (map told new) stands keeper words d.turns renewed is spared below obey lists

    -- its answer is the one that is said of the words
    state_has : (closed : Closing) (a : Answer) → closed.shape ≡ z.shape → closed.array_lengths ≡ lengths_of z.arrays
        → OthersStay z.shape.processors old new → Driven told plan (limits_of options) (k words) closed.words old new
        → IsTheOne (IsSaid closed.shape closed.array_lengths (named z.arrays) closed.words) a
        → ResumedHas options (map told old) (map told new) plan.items z a
    state_has closed a shape lengths others d only =
        let m = loaded z.shape z.code (lengths_of z.arrays) words in
        let said = subst (λ (ws : List ℕ). IsTheOne (IsSaid m.shape m.array_lengths (named z.arrays) ws) a) (sym d.words_are)
        (subst (λ (n : List ℕ). IsTheOne (IsSaid m.shape n (named z.arrays) closed.words) a) lengths
        (subst (λ (s : Shape). IsTheOne (IsSaid s closed.array_lengths (named z.arrays) closed.words) a) shape only)) in
        let some = state_some closed.words others d in
        subst (ResumedHas options (map told old) (map told new) plan.items z) (sym (said some.0 some.1)) some.2

  -- this holds of a table that was made of what fresh processors find
  module _ (saved : Saved) (is_state : z ≡ state_of saved) (keeper : ℕ) (r : Renewed) (shared : Shared) (limits : Limits) (old new : List W) (w : W)
      (stands : finish_of (saved_finish z) ≢ None) (is : IsRenewalOf saved keeper r)
      (opens : opening_of shared ≡ record { shape = r.image.shape; code = r.code; words = r.image.words })
      (is_code : IsCode (opening_of shared).code) (limits_are : limits ≡ limits_of options) (same : plan.processors ≡ z.shape.processors)
      (spared : IsKeeper plan_form plan.items keeper) (below : keeper < z.shape.processors) (many : length new ≡ length old)
      (enough : z.shape.processors ≤ length old) where
    opening_is : opening_of shared ≡ k r.image.words
    opening_is =
        let shape_is : r.image.shape ≡ z.shape = is.shape_is ∙ sym (ap (λ (x : SavedState). x.shape) is_state) in
        let code_is : r.code ≡ z.code = is.code_is ∙ sym (ap (λ (x : SavedState). x.code) is_state) in
        opens ∙ (λ i. record { shape = shape_is i; code = code_is i; words = r.image.words })

    words_renewed : AreRenewed z.shape z.words r.image.words
    words_renewed = subst (λ (x : SavedState). AreRenewed x.shape x.words r.image.words) (sym is_state) is.words_are

    code_there : IsCode z.code
    code_there = subst (λ (o : Opening). IsCode o.code) opening_is is_code

    others_there : OthersStay (opening_of shared).shape.processors old new → OthersStay z.shape.processors old new
    others_there others = subst (λ (o : Opening). OthersStay o.shape.processors old new) opening_is others

    driven_there : (behind : List ℕ) → Driven told plan limits (opening_of shared) behind old new
        → Driven told plan (limits_of options) (k r.image.words) behind old new
    driven_there behind d =
        subst (λ (o : Opening). Driven told plan (limits_of options) o behind old new) opening_is
        (subst (λ (l : Limits). Driven told plan l (opening_of shared) behind old new) limits_are d)

    -- where a drive met want of memory
    pub renewed_wanting : OthersStay (opening_of shared).shape.processors old new
        → (new ≡ old) ⊎ WasRefused told plan limits (opening_of shared) old new
        → ItemsWant options (map told old) (map told new) plan.items z
    renewed_wanting others (inl still) = ToldNothing (ap (λ (ws : List W). map told ws) still)
    renewed_wanting others (inr refused) = ToldInPart
        (state_given_up stands keeper r.image.words old new w words_renewed code_there same spared below many enough (others_there others)
        (subst (λ (o : Opening). WasRefused told plan (limits_of options) o old new) opening_is
        (subst (λ (l : Limits). WasRefused told plan l (opening_of shared) old new) limits_are refused)))

    -- where there was no memory for the answer of a whole run
    pub renewed_whole : (behind : List ℕ) → OthersStay (opening_of shared).shape.processors old new
        → Driven told plan limits (opening_of shared) behind old new → ItemsWant options (map told old) (map told new) plan.items z
    renewed_whole behind others d =
        let some = state_some stands keeper r.image.words old new w words_renewed code_there same spared below many enough behind
        (others_there others) (driven_there behind d) in
        ToldWhole (some.0, some.2)

    -- its answer
    pub renewed_has : (closed : Closing) (names : List NamedLength) (a : Answer) → shared.lengths ≡ r.image.lengths
        → closed.shape ≡ (opening_of shared).shape → closed.array_lengths ≡ shared.lengths
        → OthersStay (opening_of shared).shape.processors old new → Driven told plan limits (opening_of shared) closed.words old new → names ≡ r.names
        → IsTheOne (IsSaid closed.shape closed.array_lengths (named names) closed.words) a
        → ResumedHas options (map told old) (map told new) plan.items z a
    renewed_has closed names a arrays shape lengths others d names_are only =
        let arrays_are : z.arrays ≡ saved.names = ap (λ (x : SavedState). x.arrays) is_state in
        let lengths_are : closed.array_lengths ≡ lengths_of z.arrays =
        lengths ∙ arrays ∙ is.lengths_are ∙ saved.whole.lengths_are ∙ ap lengths_of (sym arrays_are) in
        let named_are : named names ≡ named z.arrays = ap named (names_are ∙ is.names_are ∙ sym arrays_are) in
        state_has stands keeper r.image.words old new w words_renewed code_there same spared below many enough closed a
        (shape ∙ ap (λ (o : Opening). o.shape) opening_is) lengths_are (others_there others) (driven_there closed.words d)
        (subst (λ (l : List NamedArray). IsTheOne (IsSaid closed.shape closed.array_lengths l closed.words) a) named_are only)

-- such a table has as many processors as the state
pub table_count : (saved : Saved) (keeper : ℕ) (r : Renewed) (shared : Shared) → IsRenewalOf saved keeper r
    → opening_of shared ≡ record { shape = r.image.shape; code = r.code; words = r.image.words } → shared.shape.processors ≡ saved.shape.processors
table_count saved keeper r shared is opens =
    ap (λ (s : Shape). s.processors) (sym shared.told.0) ∙ ap (λ (o : Opening). o.shape.processors) opens ∙ ap (λ (s : Shape). s.processors) is.shape_is
