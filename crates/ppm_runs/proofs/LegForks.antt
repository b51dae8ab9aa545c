-- As many forks are counted over legs: nothing is where words come back.
use Rattle.std.proofs.Common.{◌≡◌, ℕ, List, [], ◌∷◌, inl, inr}
use Rattle.std.specs.List.{AllByRecursion}
use Rattle.ppm_strands.specs.Tree.{Words, Tree}
use Rattle.ppm_strands.specs.Calm.{Calm}
use Rattle.ppm_words.specs.declared.named_array.NamedArray.{NamedArray}
use Rattle.ppm_cells.specs.Cells.{pool_at}
use Rattle.ppm_cells.specs.declared.shape.Shape.{Shape}
use Rattle.ppm_cells.specs.declared.shape.Takeover.TheVariants.{ByPlaces}
use Rattle.ppm_strands.specs.Strand.{Frame}
use Rattle.ppm_code.specs.Sizes.{slots_of}
use Rattle.ppm_code.specs.Strands.{Point, Result}
use Rattle.ppm_code.specs.declared.code.CodeParts.{CodeParts}
use Rattle.ppm_code.specs.declared.location.FrameWord.{FrameWord}
use Rattle.ppm_layout.specs.Correct.{Opens}
use Rattle.ppm_layout.specs.Root.{root_strand}
use Rattle.ppm_layout.specs.declared.images.Image.{Image}
use Rattle.ppm_step.specs.Among.{IsTurnAmong}
use Rattle.ppm_step.specs.State.{State as RunState, opening}
use Rattle.ppm_step.specs.declared.turn.Turn.{Turn}
use Rattle.ppm_tickets.specs.Homes.{Home}
use Rattle.ppm_frames.specs.Views.{view}
use Rattle.ppm_frames.specs.Seen.{arrays_at}
use Rattle.ppm_frames.specs.Skeletons.{Begins, InPlace, Skeleton, Leaf}
use Rattle.ppm_kept.specs.Running.{IsFair, strands}
use Rattle.ppm_runs.specs.Legs.{Leg, AreLegs, GoOn, state_then, homes_then, forked_then, taken_then, last_state, all_homes, all_forked, all_taken, ForksOverLegs}
use Rattle.ppm_runs.proofs.CountedLemmas.{counted_on}
use Rattle.ppm_runs.proofs.ForkLemmas.{IsForked, as_run, forked_run, all_places, opens_forked, ends_forked}
use Rattle.ppm_runs.proofs.LegLemmas.{goes_on_back, forks_back}

module _ (code : CodeParts) (input : List NamedArray) (s : Shape) (keeper : ℕ) (im : Image) (places : s.takeover ≡ ByPlaces) (fair : IsFair code) (opens : Opens code input s keeper im)
    (calm : Calm (strands s code) (root_strand code input) (arrays_at (view s im.words))) where
  abbrev root : Tree (Frame FrameWord Point) Result
  root = root_strand code input

  abbrev arrays : Words
  arrays = arrays_at (view s im.words)

  -- the state with which a run goes on, and the one after turns
  abbrev IsForkedAt : List Leg → Skeleton → Type 0
  IsForkedAt legs t = IsForked s code root arrays (state_then s code im.words legs) (homes_then s code im.words legs) (forked_then s code im.words legs) (taken_then s code im.words legs) [] t

  abbrev IsForkedBehind : List Leg → List Turn → Skeleton → Type 0
  IsForkedBehind legs turns t = IsForked s code root arrays (last_state s code im.words legs turns) (all_homes s code im.words legs turns) (all_forked s code im.words legs turns) (all_taken s code im.words legs turns) [] t

  behind : (legs : List Leg) → (t : Skeleton) × IsForkedAt legs t → (turns : List Turn) → AllByRecursion (IsTurnAmong s.processors) turns → (t : Skeleton) × IsForkedBehind legs turns t
  behind legs now turns all =
      all_places s code places fair root arrays (state_then s code im.words legs) (homes_then s code im.words legs) (forked_then s code im.words legs) (taken_then s code im.words legs) now.0 turns all now.1

  -- where words come back
  back : (state : RunState) (h : ℕ → Home) (forked taken : List ℕ) (t : Skeleton) → IsForked s code root arrays state h forked taken [] t → (words : List ℕ) → GoOn s state.words words
      → IsForked s code root arrays (opening words s.processors) h forked taken [] t
  back state h forked taken t now words on =
      let run = as_run s code places fair root arrays state h forked taken t now in
      let then_ = goes_on_back s code places fair root arrays state h forked taken t run words on in
      forked_run s code places fair root arrays (opening words s.processors) h forked taken t then_
      (counted_on forked forked t t run.kept.ahead.0 then_.kept.ahead.0 now.counted (λ r e. e) (λ r e. inl e) (forks_back s code places fair root arrays state h forked taken t run words on) (λ r is. is) (λ r is. inr is))

  begins_so : (legs : List Leg) → AreLegs s code im.words legs → (t : Skeleton) × IsForkedAt legs t
  begins_so [] are = (Leaf (InPlace keeper) (Begins 0) (pool_at s keeper) (slots_of code code.root), opens_forked code input s keeper im fair opens calm)
  begins_so (leg ∷ legs) are =
      let now = behind legs (begins_so legs are.0) leg.turns are.1 in (
        now.0,
        back (last_state s code im.words legs leg.turns) (all_homes s code im.words legs leg.turns) (all_forked s code im.words legs leg.turns) (all_taken s code im.words legs leg.turns) now.0 now.1 leg.back are.2,
      )

  pub stays : (legs : List Leg) → AreLegs s code im.words legs → (turns : List Turn) → AllByRecursion (IsTurnAmong s.processors) turns → (t : Skeleton) × IsForkedBehind legs turns t
  stays legs are turns all = behind legs (begins_so legs are) turns all

pub forks_over_legs : ForksOverLegs
forks_over_legs code input s keeper im places fair opens calm legs are turns all finish says out end ends =
    let now = stays code input s keeper im places fair opens calm legs are turns all in
    ends_forked s code (root_strand code input) (arrays_at (view s im.words)) (last_state s code im.words legs turns) (all_homes s code im.words legs turns)
    (all_forked s code im.words legs turns) (all_taken s code im.words legs turns) [] now.0 now.1 finish says out end ends
