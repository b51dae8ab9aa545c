-- With takeover by places runs in legs of a sound code end as it does, run depth first: as of a run without legs (`AsCodeLemmas`).
use Rattle.std.proofs.Common.{◌≡◌, ◌≢◌, ℕ, ◌≤◌, ◌<◌, ◌+◌, ◌^◌, List, [], ◌∷◌, length, map, Some, None, inl, inr, sym, ap, ◌∙◌, subst, arith}
use Rattle.std.specs.List.{AllByRecursion, sum}
use Rattle.std.proofs.lemmas.Bool.{cases_lt}
use Rattle.ppm_strands.specs.Calm.{Calm}
use Rattle.ppm_strands.specs.Run.{End}
use Rattle.ppm_words.specs.declared.named_array.NamedArray.{NamedArray}
use Rattle.ppm_words.specs.declared.outcome.Outcome.{Outcome}
use Rattle.ppm_words.specs.declared.outcome.Outcome.TheVariants as outcome
use Rattle.ppm_words.specs.declared.trap.Trap.{Trap}
use Rattle.ppm_cells.specs.Cells.{pool_at}
use Rattle.ppm_cells.specs.Finish.{finish_of, IsOutcome}
use Rattle.ppm_cells.specs.Memory.{read, AreWordsOf}
use Rattle.ppm_cells.specs.declared.cell.Cell.TheVariants.{FinishWord, RoomCounter}
use Rattle.ppm_cells.specs.declared.finish.Finish.{Finish}
use Rattle.ppm_cells.specs.declared.finish.Finish.TheVariants as finishes
use Rattle.ppm_cells.specs.declared.shape.Shape.{Shape}
use Rattle.ppm_cells.specs.declared.shape.Takeover.TheVariants.{ByPlaces}
use Rattle.ppm_code.specs.Strands.{Result}
use Rattle.ppm_code.specs.declared.code.CodeParts.{CodeParts}
use Rattle.ppm_depth.specs.Run.{ComesTo, arrays_at as arrays_by, pool_words, said_of}
use Rattle.ppm_layout.specs.Correct.{Opens as IsOpened}
use Rattle.ppm_layout.specs.Root.{root_strand as strand_of_image}
use Rattle.ppm_opening.specs.Correct.{ShowsTheRun}
use Rattle.ppm_step.specs.Among.{IsTurnAmong}
use Rattle.ppm_step.specs.State.{State}
use Rattle.ppm_step.specs.declared.turn.Turn.{Turn}
use Rattle.ppm_frames.specs.Seen.{arrays_at}
use Rattle.ppm_frames.specs.Skeletons.{Skeleton}
use Rattle.ppm_frames.specs.Views.{view}
use Rattle.ppm_kept.specs.Running.{IsFair, strands}
use Rattle.ppm_runs.specs.Legs.{Leg, words_then, state_then, AreLegs, last_state, all_forked, all_taken, all_work, OnceOverLegs, LegsComeTo, ForksOverLegs, RoomOverLegs, RoomIsWithinOverLegs, WorkOverLegsIsWithin256}
use Rattle.ppm_runs.specs.Moments.{AreOnce}
use Rattle.ppm_runs.specs.Outcomes.{EndsWell}
use Rattle.ppm_runs.specs.Tags.{TagsStayLow}
use Rattle.ppm_runs.specs.UnbrokenLegs.{NothingBreaksOverLegs, FinishStandsOverLegs}
use Rattle.ppm_runs.proofs.LegSound.{few_risen}
use Rattle.ppm_resumed.specs.Resumed.{TagsMayRise}
use Rattle.ppm_core.specs.Situation.{Situation, loaded}
use Rattle.ppm_loading.specs.declared.loading.Sizes.{Sizes}
use Rattle.ppm_loading.specs.Loading.{OpensRun}
use Rattle.ppm_loading.specs.Says.{arrays_from}
use Rattle.ppm_loading.proofs.ArrayLemmas.{same_arrays}
use Rattle.ppm_outcomes.specs.Legs.{words_at_last, faults_in_all, struck_in_all, lost_in_all, EachIsTakenOnceInAll}
use Rattle.ppm_outcomes.specs.AsCode.{MayRun, CodeEnds, CodeNeedsMoreRoom, CodeNeedsMoreTurns}
use Rattle.ppm_outcomes.specs.LegsAsCode.{EndsAsCodeInAll, IsAsCodeInAll, RunsInLegsAreAsCode, TagsMayRiseInLegsOfCode}
use Rattle.ppm_outcomes.proofs.EndLemmas.{unset, words_opened}
use Rattle.ppm_outcomes.proofs.FaultLemmas.{struck_few, legs_struck_few}
use Rattle.ppm_outcomes.proofs.PlaceLemmas.{of_place}
use Rattle.ppm_outcomes.proofs.AsCodeLemmas as runs
use Rattle.ppm_outcomes.proofs.AsCodeLemmas.{fair, ends_as, ended_said, trapped_said}
use Rattle.ppm_outcomes.proofs.LengthLemmas.{run_length}
use Rattle.ppm_runs.proofs.LongLemmas.{as_long}

-- what the crates below show of every run, and of every run in legs
pub record Laws : Type 0 where
  pub base : runs.Laws
  pub legs : LegsComeTo
  pub forks : ForksOverLegs
  pub once : OnceOverLegs
  pub room : RoomOverLegs
  pub pools : RoomIsWithinOverLegs
  pub work : WorkOverLegsIsWithin256
  pub whole : NothingBreaksOverLegs
  pub stands : FinishStandsOverLegs
  pub tags : TagsStayLow

module _ (laws : Laws) (code : CodeParts) (input : List NamedArray) (may : MayRun code input) where
  module _ (sizes : Sizes) (keeper : ℕ) (m : Situation) (b : OpensRun sizes code input keeper m) (places : sizes.takeover ≡ ByPlaces) where
    abbrev s : Shape
    s = b.shape

    abbrev words : List ℕ
    words = b.image.words

    abbrev start : Situation
    start = loaded s code b.image.lengths words

    by_places : s.takeover ≡ ByPlaces
    by_places = b.sized.takeover ∙ places

    fair_code : IsFair code
    fair_code = fair laws.base code input may

    opened : IsOpened code input s keeper b.image
    opened = runs.opened laws.base code input may sizes keeper m b

    shown : ShowsTheRun code input s words
    shown = runs.shown laws.base code input may sizes keeper m b

    calm : Calm (strands s code) (strand_of_image code input) (arrays_at (view s words))
    calm = runs.calm laws.base code input may sizes keeper m b

    -- words that come back are as many
    words_then_fit : (legs : List Leg) → AreLegs s code words legs → AreWordsOf s (words_then s code words legs)
    words_then_fit [] are = words_opened sizes code input keeper m b
    words_then_fit (leg ∷ legs) are = are.2.renewal.fit

    module _ (legs : List Leg) (are : AreLegs s code words legs) (turns : List Turn) (among : AllByRecursion (IsTurnAmong s.processors) turns) where
      abbrev last : State
      last = last_state s code words legs turns

      abbrev forks : List ℕ
      forks = all_forked s code words legs turns

      abbrev takes : List ℕ
      takes = all_taken s code words legs turns

      abbrev Says : Finish → Type 0
      Says v = finish_of (read s last.words FinishWord) ≡ Some v

      abbrev Well : Skeleton → Finish → Type 0
      Well tree v = EndsWell s code (strand_of_image code input) (arrays_at (view s words)) last forks takes tree v

      ends : (v : Finish) → Says v → IsOutcome v → (tree : Skeleton) × Well tree v
      ends v says out = laws.legs code input s keeper b.image by_places fair_code opened calm legs are turns among v says out

      -- the arrays of the words then
      fit : AreWordsOf s last.words
      fit = run_length s code (state_then s code words legs) turns ∙ words_then_fit legs are

      arrays_then : (tree : Skeleton) (v : Finish) (h : Well tree v)
          → arrays_from s b.image.lengths last.words 0 input ≡ arrays_by h.answer.end.words 0 input
      arrays_then tree v h =
          let all : sum (map (λ (a : NamedArray). length a.values) input) ≤ s.arrays = omega (arith, b.sized.arrays) in
          same_arrays s b.image.lengths last.words fit h.answer.end.words h.answer.arrays input b.opens.lengths_are all

      -- the outcome is that of the code, run depth first
      depth_first_then : (tree : Skeleton) (v : Finish) (h : Well tree v) (o : Outcome) → said_of input h.answer.end.words h.answer.end.outcome ≡ o
          → CodeEnds code input o
      depth_first_then tree v h o said = (h.answer.end, ends_as shown.strands shown.root shown.arrays h.answer.end h.answer.ends, said)

      none_twice : AreOnce forks takes
      none_twice = laws.once code input s keeper b.image by_places fair_code opened calm legs are turns among

      each : (tree : Skeleton) (v : Finish) → Well tree v → EachIsTakenOnceInAll start legs turns
      each tree v h = record {
        once = none_twice;
        all = h.all;
        alike = as_long forks takes h.forked_once h.taken_once h.all;
      }

      -- as many are forked as the code forks
      as_many : (v : Finish) → Says v → IsOutcome v → (e : End Result) → ComesTo code input e → length forks ≡ e.counts.forks
      as_many v says out e comes =
          laws.forks code input s keeper b.image by_places fair_code opened calm legs are turns among v says out e
          (ends_as (sym shown.strands) (sym shown.root) (sym shown.arrays) e comes)

      -- a full pool is one of a place, and one that the code needs more of
      there : (place : ℕ) → Says (finishes.OutOfRoom place) → place < s.processors
      there = of_place s code may.code_is words (unset sizes code input keeper m b) legs are turns among

      needs_more : (place : ℕ) → Says (finishes.OutOfRoom place) → CodeNeedsMoreRoom code input s.room
      needs_more place says e comes =
          laws.room code input s keeper b.image by_places fair_code opened calm legs are turns among place says e
          (ends_as (sym shown.strands) (sym shown.root) (sym shown.arrays) e comes)

      -- the work of all turns is within its bound
      works : CodeNeedsMoreTurns code input (lost_in_all start legs turns) (all_work s code words legs turns)
      works e comes =
          laws.work code input s keeper b.image by_places fair_code opened calm legs are turns among e
          (ends_as (sym shown.strands) (sym shown.root) (sym shown.arrays) e comes)

      -- no more faults strike a row than there are
      few : struck_in_all start legs turns ≤ faults_in_all start legs turns
      few =
          let before = legs_struck_few s code words legs in
          let last = struck_few s code turns (state_then s code words legs) in
          omega (arith, before, last)

      -- no place has given out more than the depth-first run takes
      pools : (e : End Result) → ComesTo code input e → (place : ℕ) → place < s.processors
          → read s last.words (RoomCounter place) ≤ pool_at s place + pool_words code e.counts
      pools e comes =
          laws.pools code input s keeper b.image by_places fair_code opened calm legs are turns among e
          (ends_as (sym shown.strands) (sym shown.root) (sym shown.arrays) e comes)

      -- the finish word stands for a finish, and for broken words after much work alone
      stands : finish_of (read s last.words FinishWord) ≢ None
      stands none =
          let k = laws.stands code input s keeper b.image fair_code opened legs are turns among in
          let no : Some k.0 ≡ None = sym k.1 ∙ none in
          cc

      breaks : length legs ≤ 2 ^ 50 → (place : ℕ) → Says (finishes.Broken place) → 2 ^ 34 + 2 ^ 28 < all_work s code words legs turns
      breaks low place says = elim (cases_lt (2 ^ 34 + 2 ^ 28) (all_work s code words legs turns)) [
        | inl much ↦ much
        | inr few ↦ absurd ((laws.whole code input s keeper b.image by_places fair_code opened
            calm legs are turns among low few).finish (finishes.Broken place) says)
      ]

      -- no tag is the last
      may_rise : length legs < 2 ^ 50 → TagsMayRise s last.words
      may_rise few place there =
          let k = laws.tags code input s keeper b.image by_places fair_code opened calm legs are turns among place there in
          let most = s.within.processors_most in
          let risen = few_risen s.processors (length legs) most (omega (arith, few)) in
          let tag = k.2 in
          (k.0, k.1, omega (arith, tag, most, risen))

      as_code : IsAsCodeInAll start legs turns code input
      as_code = record { once = none_twice; ended = when_ended; trapped = when_trapped; work = works; few = few; full = λ place says. (there place says, needs_more place says); pools = pools; stands = stands; unbroken = breaks }
        where
          when_ended : Says finishes.Ended → EndsAsCodeInAll start legs turns code input (outcome.Ended (arrays_from s b.image.lengths last.words 0 input))
          when_ended says =
              let r = ends finishes.Ended says tt in
              let said = ended_said input r.1.answer.end.words r.1.answer.end.outcome r.1.answer.outcome
              ∙ ap (λ (l : List NamedArray). outcome.Ended l) (sym (arrays_then r.0 finishes.Ended r.1)) in
              record {
                depth_first = depth_first_then r.0 finishes.Ended r.1 _ said;
                branches = each r.0 finishes.Ended r.1;
                forks = as_many finishes.Ended says tt;
              }

          when_trapped : (trap : Trap) (line : ℕ) → Says (finishes.Trapped trap line) → EndsAsCodeInAll start legs turns code input (outcome.Trapped trap line)
          when_trapped trap line says =
              let r = ends (finishes.Trapped trap line) says tt in
              let said = trapped_said input r.1.answer.end.words trap line r.1.answer.end.outcome r.1.answer.outcome in
              record {
                depth_first = depth_first_then r.0 (finishes.Trapped trap line) r.1 _ said;
                branches = each r.0 (finishes.Trapped trap line) r.1;
                forks = as_many (finishes.Trapped trap line) says tt;
              }

    pub as_codes : (legs : List Leg) → AreLegs m.shape m.code m.state.words legs
        → (turns : List Turn) → AllByRecursion (IsTurnAmong m.shape.processors) turns → IsAsCodeInAll m legs turns code input
    as_codes legs are turns among =
        subst (λ (x : Situation). AreLegs x.shape x.code x.state.words legs → AllByRecursion (IsTurnAmong x.shape.processors) turns → IsAsCodeInAll x legs turns code input) (sym b.loads)
        (λ are among. as_code legs are turns among) are among

    pub tags_rise : (legs : List Leg) → AreLegs m.shape m.code m.state.words legs
        → (turns : List Turn) → AllByRecursion (IsTurnAmong m.shape.processors) turns → length legs < 2 ^ 50 → TagsMayRise m.shape (words_at_last m legs turns)
    tags_rise legs are turns among few =
        subst (λ (x : Situation). AreLegs x.shape x.code x.state.words legs → AllByRecursion (IsTurnAmong x.shape.processors) turns → TagsMayRise x.shape (words_at_last x legs turns)) (sym b.loads)
        (λ are among. may_rise legs are turns among few) are among

-- this holds with each sound code
pub runs_in_legs_are_as_code : Laws → RunsInLegsAreAsCode
runs_in_legs_are_as_code laws code input may sizes places keeper m b legs are turns among =
    as_codes laws code input may sizes keeper m b places legs are turns among

pub tags_may_rise : Laws → TagsMayRiseInLegsOfCode
tags_may_rise laws code input may sizes places keeper m b legs are turns among few =
    tags_rise laws code input may sizes keeper m b places legs are turns among few
