-- Runs in legs: words that come back with the finish word that stood there, or with none, are those of a run's state; so each leg goes on
-- from one.
use Rattle.std.proofs.Common.{◌≡◌, ◌≢◌, ◌⊎◌, ◌≤◌, ◌<◌, ℕ, ◌+◌, List, [], ◌∷◌, Some, inl, inr, refl, sym, ap, ◌∙◌, subst, arith}
use Rattle.std.specs.List.{AllByRecursion}
use Rattle.std.proofs.Math.Path.{fun_ext}
use Rattle.std.proofs.lemmas.Bool.{cases_eq}
use Rattle.ppm_strands.specs.Tree.{Words, Tree}
use Rattle.ppm_strands.specs.Calm.{Calm}
use Rattle.ppm_strands.specs.Run.{End, Ends}
use Rattle.ppm_words.specs.declared.named_array.NamedArray.{NamedArray}
use Rattle.ppm_cells.specs.Cells.{pool_at}
use Rattle.ppm_cells.specs.Finish.{finish_of, IsOutcome}
use Rattle.ppm_cells.specs.Memory.{read}
use Rattle.ppm_cells.specs.declared.cell.Cell.{Cell}
use Rattle.ppm_cells.specs.declared.cell.Cell.TheVariants.{FinishWord, CarryWord, DeadWord, RestartWord, MessageWord, HolderWord, Top, RoomCounter, EntryWord, BlockWord, ArrayWord}
use Rattle.ppm_cells.specs.declared.finish.Finish.TheVariants.{Unset, OutOfRoom}
use Rattle.ppm_cells.specs.declared.restart.RestartKind.{RestartKind}
use Rattle.ppm_cells.specs.declared.restart.RestartKind.TheVariants.{Run, Bump, Push1, Push2, Unwind, Arrive, Join, Pop1, Pop2, Seek, Steal, Check, Take, Take2}
use Rattle.ppm_cells.specs.declared.shape.Shape.{Shape}
use Rattle.ppm_cells.specs.declared.shape.Takeover.TheVariants.{ByPlaces}
use Rattle.ppm_strands.specs.Strand.{Frame}
use Rattle.ppm_code.specs.Sizes.{slots_of, frame_size}
use Rattle.ppm_code.specs.Strands.{Point, Result}
use Rattle.ppm_code.specs.declared.code.CodeParts.{CodeParts}
use Rattle.ppm_code.specs.declared.location.FrameWord.{FrameWord}
use Rattle.ppm_layout.specs.Correct.{Opens}
use Rattle.ppm_layout.specs.Root.{root_strand}
use Rattle.ppm_layout.specs.declared.images.Image.{Image}
use Rattle.ppm_step.specs.Among.{IsTurnAmong}
use Rattle.ppm_step.specs.Standings.{IsLost, IsDone}
use Rattle.ppm_step.specs.State.{State as RunState, stand_of, opening}
use Rattle.ppm_step.specs.declared.turn.Turn.{Turn}
use Rattle.ppm_step.proofs.FinishLemmas.{finish_stays}
use Rattle.ppm_step.proofs.RoomLemmas.{room_has_cause}
use Rattle.ppm_tickets.specs.Homes.{Home}
use Rattle.ppm_tickets.specs.Words.{has}
use Rattle.ppm_tickets.proofs.RenewalLemmas.{resumes}
use Rattle.ppm_frames.specs.Views.{view, written}
use Rattle.ppm_frames.specs.Seen.{arrays_at}
use Rattle.ppm_frames.specs.Skeletons.{Begins, InPlace, Skeleton, Leaf}
use Rattle.ppm_frames.proofs.ViewLemmas.{view_is}
use Rattle.ppm_frames.proofs.WriteLemmas.{write_here, write_else}
use Rattle.ppm_kept.specs.Births.{Births}
use Rattle.ppm_kept.specs.Running.{IsFair, strands}
use Rattle.ppm_kept.specs.Kept.{Resting, Setting, State, NoOutcome, Head, Ordered, IsKept}
use Rattle.ppm_kept.specs.Places.{kinds_of, places_of}
use Rattle.ppm_kept.proofs.BirthLemmas.{births_stay}
use Rattle.ppm_kept.proofs.CountLemmas.{Counted, asked, as_asked, answered}
use Rattle.ppm_kept.proofs.StopLemmas.{words_stay}
use Rattle.ppm_runs.specs.Run.{setting, IsRun}
use Rattle.ppm_runs.specs.Legs.{Leg, GoOn, words_then, state_then, AreLegs, homes_then, forked_then, taken_then, last_state, all_homes, all_forked, all_taken, LegsStay, OnceOverLegs, LegsComeTo, RoomOverLegs}
use Rattle.ppm_runs.proofs.BackLemmas.{view_back, kinds_back, bottoms_back, resting}
use Rattle.ppm_runs.proofs.MomentLemmas.{all_lead, are_once}
use Rattle.ppm_runs.proofs.OpenLemmas.{runs_open, not_broken}
use Rattle.ppm_runs.proofs.OutcomeLemmas.{runs_end, unset_is, unset_stands, finish_in}
use Rattle.ppm_runs.proofs.ShownLemmas.{halves}
use Rattle.ppm_runs.proofs.SpentLemmas.{front, spent_at}
use Rattle.ppm_tickets.proofs.Theorem.{lost_or}

-- a finish word that is 0 says no outcome
none_said : (w : ℕ) → w ≡ 0 → NoOutcome w
none_said w none v says out =
    subst IsOutcome {x = v} {y = Unset} (ap (finish_in v) (sym says ∙ ap finish_of none ∙ unset_stands)) out

-- what is kept is kept where no place is in a row
module _ (i : Setting) (root : Tree (Frame FrameWord Point) Result) (input : Words) (s : State) (t : Skeleton) (law : IsKept i root input s t) where
  abbrev idle : State
  idle = record { words = s.words; kind = s.kind; doing = λ p. Resting }

  head_idle : (x : ℕ) → Head i s t x → Head i idle t x
  head_idle x a = record { there = a.there; first = a.first; under = a.under; bare = a.bare }

  ordered_idle : (k : RestartKind) → Ordered i s t s.words k → Ordered i idle t s.words k
  ordered_idle (Arrive r d) a = head_idle (r + 1) a
  ordered_idle (Join r d) a = (head_idle (r + 1) a.0, a.1)
  ordered_idle (Run f y) a = tt
  ordered_idle (Bump r) a = tt
  ordered_idle (Push1 r) a = tt
  ordered_idle (Push2 r) a = tt
  ordered_idle (Unwind f) a = tt
  ordered_idle Pop1 a = tt
  ordered_idle (Pop2 r) a = tt
  ordered_idle Seek a = tt
  ordered_idle (Steal v x) a = tt
  ordered_idle (Check v x) a = tt
  ordered_idle (Take v x) a = tt
  ordered_idle (Take2 v) a = tt

  kept_idle : IsKept i root input idle t
  kept_idle = record {
    ahead = law.ahead;
    good = law.good;
    apart = law.apart;
    below = law.below;
    there = law.there;
    places = law.places;
    rooms = law.rooms;
    free = law.free;
    does = λ p. tt;
    orders = λ p. ordered_idle (s.kind p) (law.orders p);
    finished = law.finished;
    copies = law.copies;
    untaken = law.untaken;
    aims = λ q r f b taker about. absurd (cc);
    paid = law.paid;
    counted = law.counted;
  }

module _ (s : Shape) (code : CodeParts) (places : s.takeover ≡ ByPlaces) (fair : IsFair code) (root : Tree (Frame FrameWord Point) Result) (input : Words) (state : RunState) (h : ℕ → Home) (forked taken : List ℕ) (t : Skeleton) (run : IsRun s code root input state h forked taken t)
    (back : List ℕ) (on : GoOn s state.words back) where
  abbrev then_ : RunState
  then_ = opening back s.processors

  all_lost : (d : ℕ) → (stand_of then_ d ≡ IsLost) ⊎ (stand_of then_ d ≡ IsDone)
  all_lost d = elim (lost_or s.processors d) [ inl a ↦ inl a.0 | inr a ↦ inr a ]

  abbrev m : Cell → ℕ
  m = view s state.words

  abbrev n : Cell → ℕ
  n = view s back

  -- the state by places then
  abbrev back_so : State
  back_so = record { words = written m FinishWord (read s back FinishWord); kind = kinds_of s state.words; doing = λ p. Resting }

  back_is : places_of s then_ ≡ back_so
  back_is = λ k. record {
    words = view_back s state.words back on.renewal k;
    kind = kinds_back s state.words back on.renewal k;
    doing = fun_ext (λ p. resting (stand_of then_) all_lost s.processors p) k;
  }

  -- a finish word that is the same changes nothing
  same_words : read s back FinishWord ≡ read s state.words FinishWord → written m FinishWord (read s back FinishWord) ≡ m
  same_words same = fun_ext each
    where
      each : (c : Cell) → written m FinishWord (read s back FinishWord) c ≡ m c
      each FinishWord = write_here m FinishWord (read s back FinishWord) ∙ same ∙ sym (view_is s state.words FinishWord refl)
      each (CarryWord c) = write_else m FinishWord (read s back FinishWord) (CarryWord c) (λ e. cc)
      each (DeadWord c) = write_else m FinishWord (read s back FinishWord) (DeadWord c) (λ e. cc)
      each (RestartWord p) = write_else m FinishWord (read s back FinishWord) (RestartWord p) (λ e. cc)
      each (MessageWord p) = write_else m FinishWord (read s back FinishWord) (MessageWord p) (λ e. cc)
      each (HolderWord p) = write_else m FinishWord (read s back FinishWord) (HolderWord p) (λ e. cc)
      each (Top p) = write_else m FinishWord (read s back FinishWord) (Top p) (λ e. cc)
      each (RoomCounter p) = write_else m FinishWord (read s back FinishWord) (RoomCounter p) (λ e. cc)
      each (EntryWord p x) = write_else m FinishWord (read s back FinishWord) (EntryWord p x) (λ e. cc)
      each (BlockWord x) = write_else m FinishWord (read s back FinishWord) (BlockWord x) (λ e. cc)
      each (ArrayWord x) = write_else m FinishWord (read s back FinishWord) (ArrayWord x) (λ e. cc)

  -- whatever is asked of the counts
  module _ (i : Setting) (law : IsKept i root input (places_of s state) t) where
    same_kept : read s back FinishWord ≡ read s state.words FinishWord → IsKept i root input back_so t
    same_kept same =
        subst (λ (w : Cell → ℕ). IsKept i root input (record { words = w; kind = kinds_of s state.words; doing = λ p. Resting }) t) (sym (same_words same))
        (kept_idle i root input (places_of s state) t law)

    none_kept : IsFair i.code → read s back FinishWord ≡ 0 → IsKept i root input back_so t
    none_kept fair_i none = words_stay i fair_i root input (places_of s state) t law (read s back FinishWord) (none_said (read s back FinishWord) none)

    kept_back : IsFair i.code → IsKept i root input (places_of s then_) t
    kept_back fair_i = subst (λ (z : State). IsKept i root input z t) (sym back_is) (elim on.finish [ inl same ↦ same_kept same | inr none ↦ none_kept fair_i none ])

  -- the counts are the same
  counts_on : Counted (setting s code) root input (places_of s then_) t run.kept.ahead.0.capsules run.kept.ahead.0.forks
  counts_on = answered (setting s code) root input (places_of s state) t run.kept (places_of s then_) t
      (kept_back (asked (setting s code) root input (places_of s state) t run.kept) (as_asked (setting s code) root input (places_of s state) t run.kept) fair)

  born_back : Births (setting s code) back_so (has forked)
  born_back = let b = (births_stay (setting s code) fair root input (places_of s state) t run.kept (has forked) run.born 0).stored FinishWord (read s back FinishWord) IsLost tt in record { below = b.below; homes = b.homes }

  pub goes_on_back : IsRun s code root input then_ h forked taken t
  goes_on_back = record {
    lawful = resumes s code state back h forked taken places run.lawful on.renewal;
    kept = counts_on.0;
    agrees = run.agrees;
    last = λ r p held home. ap (λ (b : ℕ). b + 1) (bottoms_back s state.words back on.renewal p) ∙ run.last r p held home;
    ready = λ p r f y b ke de. absurd (let e = ap (λ (z : State). z.doing p) (sym back_is) ∙ de in cc);
    broken = λ c p e. absurd (not_broken (stand_of then_ c) p (all_lost c) e);
    born = subst (λ (z : State). Births (setting s code) z (has forked)) (sym back_is) born_back;
  }

  pub counted_back : run.kept.ahead.0.capsules ≤ goes_on_back.kept.ahead.0.capsules
  unfolding goes_on_back
  counted_back = let e = counts_on.1 in omega (arith, e)

  pub forks_back : goes_on_back.kept.ahead.0.forks ≡ run.kept.ahead.0.forks
  unfolding goes_on_back
  forks_back = counts_on.2

module _ (code : CodeParts) (input : List NamedArray) (s : Shape) (keeper : ℕ) (im : Image) (places : s.takeover ≡ ByPlaces) (fair : IsFair code) (opens : Opens code input s keeper im)
    (calm : Calm (strands s code) (root_strand code input) (arrays_at (view s im.words))) where
  abbrev root : Tree (Frame FrameWord Point) Result
  root = root_strand code input

  abbrev arrays : Words
  arrays = arrays_at (view s im.words)

  -- the state with which a run goes on, and the one after turns
  abbrev IsRunAt : List Leg → Skeleton → Type 0
  IsRunAt legs t = IsRun s code root arrays (state_then s code im.words legs) (homes_then s code im.words legs) (forked_then s code im.words legs) (taken_then s code im.words legs) t

  abbrev IsRunBehind : List Leg → List Turn → Skeleton → Type 0
  IsRunBehind legs turns t = IsRun s code root arrays (last_state s code im.words legs turns) (all_homes s code im.words legs turns) (all_forked s code im.words legs turns) (all_taken s code im.words legs turns) t

  behind : (legs : List Leg) → (t : Skeleton) × IsRunAt legs t → (turns : List Turn) → AllByRecursion (IsTurnAmong s.processors) turns → (t : Skeleton) × IsRunBehind legs turns t
  behind legs run turns all =
      all_lead s code places fair root arrays (state_then s code im.words legs) (homes_then s code im.words legs) (forked_then s code im.words legs) (taken_then s code im.words legs) run.0 turns all run.1

  begins_so : (legs : List Leg) → AreLegs s code im.words legs → (t : Skeleton) × IsRunAt legs t
  begins_so [] are = (Leaf (InPlace keeper) (Begins 0) (pool_at s keeper) (slots_of code code.root), runs_open code input s keeper im opens calm)
  begins_so (leg ∷ legs) are =
      let run = behind legs (begins_so legs are.0) leg.turns are.1 in (
        run.0,
        goes_on_back s code places fair root arrays (last_state s code im.words legs leg.turns) (all_homes s code im.words legs leg.turns) (all_forked s code im.words legs leg.turns) (all_taken s code im.words legs leg.turns)
            run.0 run.1 leg.back are.2,
      )

  stays : (legs : List Leg) → AreLegs s code im.words legs → (turns : List Turn) → AllByRecursion (IsTurnAmong s.processors) turns → (t : Skeleton) × IsRunBehind legs turns t
  stays legs are turns all = behind legs (begins_so legs are) turns all

  -- a pool was found full in the latest leg, or the finish word stood there before
  module _ (place : ℕ) (end : End Result) (ends : Ends (strands s code) root arrays end) where
    abbrev IsSpent : Type 0
    IsSpent = s.room < frame_size code code.root + end.counts.block_words

    abbrev SaysFull : ℕ → Type 0
    SaysFull w = finish_of w ≡ Some (OutOfRoom place)

    found : (legs : List Leg) → AreLegs s code im.words legs → (turns : List Turn) → AllByRecursion (IsTurnAmong s.processors) turns
        → read s (words_then s code im.words legs) FinishWord ≡ 0 → SaysFull (read s (last_state s code im.words legs turns).words FinishWord) → IsSpent
    found legs are turns all none says =
        let cause = room_has_cause s code opens.code_is (words_then s code im.words legs) turns place none says in
        let among = front (IsTurnAmong s.processors) cause.first (cause.turn ∷ cause.more) (subst (AllByRecursion (IsTurnAmong s.processors)) cause.turns_are all) in
        let run = stays legs are cause.first among in
        spent_at s code fair root arrays (last_state s code im.words legs cause.first) (all_homes s code im.words legs cause.first)
        (all_forked s code im.words legs cause.first) (all_taken s code im.words legs cause.first) [] run.0 (halves run.1) place cause.turn cause.finds end ends

    stood : (legs : List Leg) (turns : List Turn) → read s (words_then s code im.words legs) FinishWord ≢ 0
        → read s (last_state s code im.words legs turns).words FinishWord ≡ read s (words_then s code im.words legs) FinishWord
    stood legs turns some = finish_stays s code fair.code_is (words_then s code im.words legs) [] turns some

    spent : (legs : List Leg) → AreLegs s code im.words legs → (turns : List Turn) → AllByRecursion (IsTurnAmong s.processors) turns
        → SaysFull (read s (last_state s code im.words legs turns).words FinishWord) → IsSpent
    spent [] are turns all says = found [] are turns all (opens.image_is.opened FinishWord tt ∙ unset_is) says
    spent (leg ∷ legs) are turns all says = elim (cases_eq (read s leg.back FinishWord) 0) [
      | inl none ↦ found (leg ∷ legs) are turns all none says
      | inr some ↦ elim are.2.finish [
        | inl same ↦ spent legs are.0 leg.turns are.1 (ap finish_of (sym same) ∙ ap finish_of (sym (stood (leg ∷ legs) turns some)) ∙ says)
        | inr none ↦ absurd (some none)
      ]
    ]

pub legs_stay : LegsStay
legs_stay code input s keeper im places fair opens calm legs are turns all = stays code input s keeper im places fair opens calm legs are turns all

pub once_over_legs : OnceOverLegs
once_over_legs code input s keeper im places fair opens calm legs are turns all =
    let run = stays code input s keeper im places fair opens calm legs are turns all in
    are_once (all_homes s code im.words legs turns) (all_forked s code im.words legs turns) (all_taken s code im.words legs turns) run.1.lawful.1.counts

pub legs_come_to : LegsComeTo
legs_come_to code input s keeper im places fair opens calm legs are turns all finish says out =
    let run = stays code input s keeper im places fair opens calm legs are turns all in (
      run.0,
      runs_end s code (root_strand code input) (arrays_at (view s im.words)) (last_state s code im.words legs turns) (all_homes s code im.words legs turns)
          (all_forked s code im.words legs turns) (all_taken s code im.words legs turns) run.0 run.1 finish says out,
    )

pub room_over_legs : RoomOverLegs
room_over_legs code input s keeper im places fair opens calm legs are turns all place says end ends =
    spent code input s keeper im places fair opens calm place end ends legs are turns all says
