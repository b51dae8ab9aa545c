-- Runs of a sound code end as it does, run depth first. What the machine begins with is what the depth-first run does (`ShowsTheRun`), and the
-- code is sound: so an outcome of the run is the depth-first run's.
use Rattle.std.proofs.Common.{◌≡◌, ℕ, ◌+◌, ◌^◌, ◌<◌, ◌≤◌, List, [], length, map, Some, refl, sym, ap, ap₂, ◌∙◌, subst, arith, inl, inr}
use Rattle.std.proofs.lemmas.Bool.{cases_lt}
use Rattle.std.specs.List.{AllByRecursion, sum}
use Rattle.ppm_strands.specs.Tree.{Words, Tree, Code}
use Rattle.ppm_strands.specs.Calm.{Calm}
use Rattle.ppm_strands.specs.Run.{End, Ends}
use Rattle.ppm_strands.specs.Strand.{Frame}
use Rattle.ppm_words.specs.declared.named_array.NamedArray.{NamedArray}
use Rattle.ppm_words.specs.declared.outcome.Outcome.{Outcome}
use Rattle.ppm_words.specs.declared.outcome.Outcome.TheVariants as outcome
use Rattle.ppm_words.specs.declared.trap.Trap.{Trap}
use Rattle.ppm_cells.specs.Cells.{pool_at}
use Rattle.ppm_cells.specs.Finish.{finish_of, IsOutcome}
use Rattle.ppm_cells.specs.Memory.{read, AreWordsOf}
use Rattle.ppm_cells.specs.declared.cell.Cell.TheVariants.{FinishWord, RoomCounter}
use Rattle.ppm_cells.specs.declared.finish.Finish.{Finish}
use Rattle.ppm_cells.specs.declared.finish.Finish.TheVariants as finishes
use Rattle.ppm_cells.specs.declared.shape.Shape.{Shape}
use Rattle.ppm_code.specs.Strands.{Point, Result, Gave, Trapped}
use Rattle.ppm_code.specs.declared.code.CodeParts.{CodeParts}
use Rattle.ppm_code.specs.declared.location.FrameWord.{FrameWord}
use Rattle.ppm_depth.specs.Run.{ComesTo, arrays_at as arrays_by, pool_words, said_of}
use Rattle.ppm_layout.specs.Correct.{Opens as IsOpened}
use Rattle.ppm_layout.specs.Root.{root_strand as strand_of_image}
use Rattle.ppm_opening.specs.Correct.{ShowsTheRun, ImagesShowTheRun}
use Rattle.ppm_step.specs.Among.{IsTurnAmong}
use Rattle.ppm_step.specs.Laws.{reached}
use Rattle.ppm_step.specs.State.{State, opening}
use Rattle.ppm_step.specs.declared.turn.Turn.{Turn}
use Rattle.ppm_tickets.specs.Along.{forked, taken}
use Rattle.ppm_frames.specs.Seen.{arrays_at}
use Rattle.ppm_frames.specs.Skeletons.{Skeleton}
use Rattle.ppm_frames.specs.Views.{view}
use Rattle.ppm_kept.specs.Answers.{finish_by}
use Rattle.ppm_kept.specs.Running.{IsFair, strands}
use Rattle.ppm_runs.specs.Entries.{EndsAsRun, OnceInEachRun, RunsEndSo, RunsForkSo}
use Rattle.ppm_runs.specs.Moments.{AreOnce}
use Rattle.ppm_runs.specs.Spent.{RoomIsSpent, RoomIsWithin}
use Rattle.ppm_runs.specs.Unbroken.{NothingBreaks}
use Rattle.ppm_runs.specs.Work.{WorkIsWithin256}
use Rattle.ppm_core.specs.Situation.{Situation, loaded}
use Rattle.ppm_loading.specs.declared.loading.Sizes.{Sizes}
use Rattle.ppm_loading.specs.Loading.{OpensRun}
use Rattle.ppm_outcomes.specs.Meant.{undone_in, worked_in, EachIsTakenOnce}
use Rattle.ppm_outcomes.specs.AsCode.{MayRun, CodeEnds, CodeNeedsMoreRoom, CodeNeedsMoreTurns, EndsAsCode, IsAsCode, RunsAreAsCode}
use Rattle.ppm_loading.specs.Says.{arrays_from}
use Rattle.ppm_loading.proofs.ArrayLemmas.{same_arrays}
use Rattle.ppm_outcomes.proofs.EndLemmas.{keeper_opened, unset, words_opened}
use Rattle.ppm_runs.proofs.LongLemmas.{as_long}
use Rattle.ppm_outcomes.proofs.LengthLemmas.{run_length}
use Rattle.ppm_outcomes.proofs.FaultLemmas.{undone_few}
use Rattle.ppm_outcomes.proofs.PlaceLemmas.{of_place}

-- what the crates below show of every image and every run
pub record Laws : Type 0 where
  pub shown : ImagesShowTheRun
  pub runs : RunsEndSo
  pub forks : RunsForkSo
  pub once : OnceInEachRun
  pub room : RoomIsSpent
  pub pools : RoomIsWithin
  pub work : WorkIsWithin256
  pub whole : NothingBreaks

-- strands, a tree and words that are the same
module _ {c d : Code (Frame FrameWord Point) Result} {t u : Tree (Frame FrameWord Point) Result} {a b : Words}
    (strands_are : c ≡ d) (tree_is : t ≡ u) (words_are : a ≡ b) where
  pub calm_as : Calm d u b → Calm c t a
  calm_as h =
      subst (λ (x : Code (Frame FrameWord Point) Result). Calm x t a) (sym strands_are)
      (subst (λ (x : Tree (Frame FrameWord Point) Result). Calm d x a) (sym tree_is) (subst (λ (x : Words). Calm d u x) (sym words_are) h))

  pub ends_as : (e : End Result) → Ends c t a e → Ends d u b e
  ends_as e h =
      subst (λ (x : Words). Ends d u x e) words_are
      (subst (λ (x : Tree (Frame FrameWord Point) Result). Ends d x a e) tree_is
      (subst (λ (x : Code (Frame FrameWord Point) Result). Ends x t a e) strands_are h))

-- the outcome that a finish is
module _ (input : List NamedArray) (w : Words) where
  pub ended_said : (r : Result) → finishes.Ended ≡ finish_by r → said_of input w r ≡ outcome.Ended (arrays_by w 0 input)
  ended_said (Gave value) e = refl
  ended_said (Trapped trap line) e = absurd (different e)
    where
      different : finishes.Ended ≡ finishes.Trapped trap line → ⊥
      different k = cc

  pub trapped_said : (trap : Trap) (line : ℕ) (r : Result) → finishes.Trapped trap line ≡ finish_by r
      → said_of input w r ≡ outcome.Trapped trap line
  trapped_said trap line (Gave value) e = absurd (different e)
    where
      different : finishes.Trapped trap line ≡ finishes.Ended → ⊥
      different k = cc
  trapped_said trap line (Trapped other at) e =
      let same_trap : other ≡ trap = cc in
      let same_line : at ≡ line = cc in
      ap₂ (λ (x : Trap) (n : ℕ). outcome.Trapped x n) same_trap same_line

module _ (laws : Laws) (code : CodeParts) (input : List NamedArray) (may : MayRun code input) where
  pub fair : IsFair code
  fair = record { code_is = may.code_is; tidy = may.sound.tidy; free = may.sound.free }

  module _ (sizes : Sizes) (keeper : ℕ) (m : Situation) (b : OpensRun sizes code input keeper m) where
    abbrev s : Shape
    s = b.shape

    abbrev words : List ℕ
    words = b.image.words

    abbrev start : Situation
    start = loaded s code b.image.lengths words

    pub opened : IsOpened code input s keeper b.image
    opened = record {
      code_is = may.code_is;
      input_is = may.input_is;
      below = keeper_opened sizes code input keeper m b;
      image_is = b.opens;
    }

    pub shown : ShowsTheRun code input s words
    shown = laws.shown code input s keeper b.image opened may.names

    pub calm : Calm (strands s code) (strand_of_image code input) (arrays_at (view s words))
    calm = calm_as shown.strands shown.root shown.arrays may.sound.calm

    module _ (turns : List Turn) (among : AllByRecursion (IsTurnAmong s.processors) turns) where
      abbrev last : State
      last = reached s code words turns

      abbrev forks : List ℕ
      forks = forked s code (opening words s.processors) [] turns

      abbrev takes : List ℕ
      takes = taken s code (opening words s.processors) [] turns

      abbrev Says : Finish → Type 0
      Says v = finish_of (read s last.words FinishWord) ≡ Some v

      abbrev Well : Skeleton → Finish → Type 0
      Well tree v = EndsAsRun s code (strand_of_image code input) (arrays_at (view s words)) last forks takes tree v

      ends : (v : Finish) → Says v → IsOutcome v → (tree : Skeleton) × Well tree v
      ends v says out = laws.runs code input s keeper b.image fair opened calm turns among v says out

      -- the arrays of the words then
      fit : AreWordsOf s last.words
      fit = run_length s code (opening words s.processors) turns ∙ words_opened sizes code input keeper m b

      arrays_then : (tree : Skeleton) (v : Finish) (h : Well tree v)
          → arrays_from s b.image.lengths last.words 0 input ≡ arrays_by h.answer.end.words 0 input
      arrays_then tree v h =
          let all : sum (map (λ (a : NamedArray). length a.values) input) ≤ s.arrays = omega (arith, b.sized.arrays) in
          same_arrays s b.image.lengths last.words fit h.answer.end.words h.answer.arrays input b.opens.lengths_are all

      none_twice : AreOnce forks takes
      none_twice = laws.once code input s keeper b.image fair opened calm turns among

      -- the outcome is that of the code, run depth first
      depth_first_then : (tree : Skeleton) (v : Finish) (h : Well tree v) (o : Outcome) → said_of input h.answer.end.words h.answer.end.outcome ≡ o
          → CodeEnds code input o
      depth_first_then tree v h o said = (h.answer.end, ends_as shown.strands shown.root shown.arrays h.answer.end h.answer.ends, said)

      each : (tree : Skeleton) (v : Finish) → Well tree v → EachIsTakenOnce start turns
      each tree v h = record {
        once = none_twice;
        all = h.all;
        alike = as_long forks takes h.forked_once h.taken_once h.all;
      }

      -- as many are forked as the code forks
      as_many : (v : Finish) → Says v → IsOutcome v → (e : End Result) → ComesTo code input e → length forks ≡ e.counts.forks
      as_many v says out e comes =
          laws.forks code input s keeper b.image fair opened calm turns among v says out e
          (ends_as (sym shown.strands) (sym shown.root) (sym shown.arrays) e comes)

      -- a full pool is one of a place, and one that the code needs more of
      there : (place : ℕ) → Says (finishes.OutOfRoom place) → place < s.processors
      there = of_place s code may.code_is words (unset sizes code input keeper m b) [] tt turns among

      needs_more : (place : ℕ) → Says (finishes.OutOfRoom place) → CodeNeedsMoreRoom code input s.room
      needs_more place says e comes =
          laws.room code input s keeper b.image fair opened calm turns among place says e
          (ends_as (sym shown.strands) (sym shown.root) (sym shown.arrays) e comes)

      -- words are broken only after more than 2^34 work turns
      breaks : (place : ℕ) → Says (finishes.Broken place) → 2 ^ 34 < worked_in start turns
      breaks place says =
          elim (cases_lt (2 ^ 34) (worked_in start turns)) [
            | inl many ↦ many
            | inr few ↦ absurd ((laws.whole code input s keeper b.image fair opened calm turns among
                few).finish (finishes.Broken place) says)
          ]

      -- the work of all turns is within its bound
      works : CodeNeedsMoreTurns code input (undone_in start turns) (worked_in start turns)
      works e comes =
          laws.work code input s keeper b.image fair opened calm turns among e
          (ends_as (sym shown.strands) (sym shown.root) (sym shown.arrays) e comes)

      -- no place has given out more than the depth-first run takes
      pools : (e : End Result) → ComesTo code input e → (place : ℕ) → place < s.processors
          → read s last.words (RoomCounter place) ≤ pool_at s place + pool_words code e.counts
      pools e comes =
          laws.pools code input s keeper b.image fair opened calm turns among e
          (ends_as (sym shown.strands) (sym shown.root) (sym shown.arrays) e comes)

      as_code : IsAsCode start turns code input
      as_code = record { once = none_twice; ended = when_ended; trapped = when_trapped; full = λ place says. (there place says, needs_more place says); unbroken = breaks; work = works; few = undone_few s code turns (opening words s.processors); pools = pools }
        where
          when_ended : Says finishes.Ended → EndsAsCode start turns code input (outcome.Ended (arrays_from s b.image.lengths last.words 0 input))
          when_ended says =
              let r = ends finishes.Ended says tt in
              let said = ended_said input r.1.answer.end.words r.1.answer.end.outcome r.1.answer.outcome
              ∙ ap (λ (l : List NamedArray). outcome.Ended l) (sym (arrays_then r.0 finishes.Ended r.1)) in
              record {
                depth_first = depth_first_then r.0 finishes.Ended r.1 _ said;
                branches = each r.0 finishes.Ended r.1;
                forks = as_many finishes.Ended says tt;
              }

          when_trapped : (trap : Trap) (line : ℕ) → Says (finishes.Trapped trap line) → EndsAsCode start turns code input (outcome.Trapped trap line)
          when_trapped trap line says =
              let r = ends (finishes.Trapped trap line) says tt in
              let said = trapped_said input r.1.answer.end.words trap line r.1.answer.end.outcome r.1.answer.outcome in
              record {
                depth_first = depth_first_then r.0 (finishes.Trapped trap line) r.1 _ said;
                branches = each r.0 (finishes.Trapped trap line) r.1;
                forks = as_many (finishes.Trapped trap line) says tt;
              }

    pub as_codes : (turns : List Turn) → AllByRecursion (IsTurnAmong m.shape.processors) turns → IsAsCode m turns code input
    as_codes turns =
        subst (λ (x : Situation). AllByRecursion (IsTurnAmong x.shape.processors) turns → IsAsCode x turns code input) (sym b.loads)
        (λ among. as_code turns among)

-- this holds with each sound code
pub runs_are_as_code : Laws → RunsAreAsCode
runs_are_as_code laws code input may sizes keeper m b turns among = as_codes laws code input may sizes keeper m b turns among
