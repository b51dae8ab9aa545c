-- The work of runs in legs: where words come back, each row that was under way is lost.
use Rattle.std.proofs.Common.{◌≡◌, ◌≤◌, ℕ, suc, ◌+◌, ◌*◌, List, [], ◌∷◌, length, replicate, refl, sym, ap, ◌∙◌, arith}
use Rattle.std.specs.Prelude.{slice_get}
use Rattle.std.specs.List.{AllByRecursion}
use Rattle.std.proofs.Math.Path.{fun_ext}
use Rattle.ppm_strands.specs.Tree.{Words, Tree}
use Rattle.ppm_strands.specs.Calm.{Calm}
use Rattle.ppm_strands.specs.Run.{End, Ends}
use Rattle.ppm_strands.proofs.ToComeLemmas.{strands_are_counted}
use Rattle.ppm_words.specs.declared.named_array.NamedArray.{NamedArray}
use Rattle.ppm_cells.specs.declared.restart.RestartKind.{RestartKind}
use Rattle.ppm_cells.specs.declared.shape.Shape.{Shape}
use Rattle.ppm_cells.specs.declared.shape.Takeover.TheVariants.{ByPlaces}
use Rattle.ppm_strands.specs.Strand.{Frame}
use Rattle.ppm_code.specs.Strands.{Point, Result}
use Rattle.ppm_code.specs.declared.code.CodeParts.{CodeParts}
use Rattle.ppm_code.specs.declared.location.FrameWord.{FrameWord}
use Rattle.ppm_layout.specs.Correct.{Opens}
use Rattle.ppm_layout.specs.Root.{root_strand}
use Rattle.ppm_layout.specs.declared.images.Image.{Image}
use Rattle.ppm_step.specs.Among.{IsTurnAmong}
use Rattle.ppm_step.specs.Standings.{IsLost}
use Rattle.ppm_step.specs.State.{State as RunState, stand_in, stand_of, opening}
use Rattle.ppm_step.specs.declared.turn.Turn.{Turn}
use Rattle.ppm_paces.specs.Costs.{due}
use Rattle.ppm_paces.proofs.PaceLemmas.{most, made_few}
use Rattle.ppm_tickets.specs.Homes.{Home}
use Rattle.ppm_tickets.specs.View as spots
use Rattle.ppm_frames.specs.Views.{view}
use Rattle.ppm_frames.specs.Seen.{arrays_at}
use Rattle.ppm_frames.specs.Skeletons.{Skeleton}
use Rattle.ppm_kept.specs.Running.{IsFair, strands}
use Rattle.ppm_runs.specs.Run.{IsRun}
use Rattle.ppm_runs.specs.Legs.{Leg, GoOn, words_then, state_then, AreLegs, homes_then, forked_then, taken_then, work_then, strikes_then, last_state, all_homes, all_forked, all_taken, all_work, all_strikes, WorkOverLegs, WorkOverLegsIsWithin256}
use Rattle.ppm_runs.proofs.BackLemmas.{kinds_back}
use Rattle.ppm_runs.proofs.AgainLemmas.{again, again_none}
use Rattle.ppm_runs.proofs.BoundLemmas.{Stage, all_struck, work_of_stage, lost_paces, lost_claims, lost_most, first_run, first_stage, first_tree}
use Rattle.ppm_runs.proofs.LegLemmas.{goes_on_back, counted_back}
use Rattle.ppm_runs.proofs.ShownLemmas.{halves}
use Rattle.ppm_runs.proofs.StandLemmas.{kinds_same}
use Rattle.ppm_runs.proofs.SumLemmas.{sum, sum_le, sum_zero}

-- what comes back is a moment again, with a row lost by each processor
module _ (s : Shape) (code : CodeParts) (places : s.takeover ≡ ByPlaces) (fair : IsFair code) (root : Tree (Frame FrameWord Point) Result) (input : Words) (end : End Result) (ends : Ends (strands s code) root input end)
    (lost : ℕ) (state : RunState) (h : ℕ → Home) (forked taken : List ℕ) (t : Skeleton) (run : IsRun s code root input state h forked taken t) (work strikes : ℕ) (made : ℕ → ℕ)
    (stage : Stage s code fair root input end ends lost state h forked taken [] t (halves run) run.agrees work strikes made) (back : List ℕ) (on : GoOn s state.words back) where
  abbrev N : ℕ
  N = s.processors

  kinds_stay : spots.kinds s back ≡ spots.kinds s state.words
  kinds_stay = fun_ext (λ p. sym (kinds_same s back p) ∙ ap (λ (f : ℕ → RestartKind). f p) (kinds_back s state.words back on.renewal) ∙ kinds_same s state.words p)

  abbrev run_back : IsRun s code root input (opening back N) h forked taken t
  run_back = goes_on_back s code places fair root input state h forked taken t run back on

  back_stage : Stage s code fair root input end ends (lost + 172 * N) (opening back N) h forked taken [] t (halves run_back) run_back.agrees work strikes (λ c. 0)
  unfolding halves
  back_stage =
      let more = counted_back s code places fair root input state h forked taken t run back on in
      let dues = ap (λ (f : ℕ → RestartKind). sum N (λ p. due (f p))) kinds_stay in
      let few = sum_le N made (λ c. most (made c) (stand_of state c)) (λ c lt. (made_few s code fair.code_is c (made c) (stand_of state c) (stage.paces c)).0) in
      let still = sum_zero N (λ c. most 0 (stand_in (slice_get (replicate N IsLost) c))) (lost_most N) in
      let none = sum_zero N (λ c. 0) (λ c. refl) in
      let beside = sum_zero N (λ p. again s.takeover (stand_of (opening back N) p) (spots.kinds s back p)) (λ p. again_none s.takeover places (stand_of (opening back N) p) (spots.kinds s back p)) in
      let held = stage.held places in
      let bound = stage.bound in
      record {
        paces = lost_paces s N;
        claims = λ c. lost_claims s code fair root input (opening back N) h forked taken [] t (halves run_back) run_back.agrees c (stand_of (opening back N) c);
        paid = λ unset. omega (arith, held, dues, few, none, more, beside);
        held = λ places. omega (arith, held, dues, few, none, more, still);
        bound = omega (arith, bound, few, none, still);
      }

-- the rows lost
abbrev lost_in : ℕ → List Leg → ℕ
lost_in n [] = 0
lost_in n (leg ∷ legs) = lost_in n legs + 172 * n

times_more : (n k : ℕ) → n * suc k ≡ n + n * k
times_more n k = grind arith

pub none_of : (n : ℕ) → n * 0 ≡ 0
none_of n = grind arith

lost_are : (n : ℕ) (legs : List Leg) → lost_in n legs ≡ 172 * (n * length legs)
lost_are n [] = sym (ap (λ (k : ℕ). 172 * k) (none_of n))
lost_are n (leg ∷ legs) =
    let e = lost_are n legs in
    let m = times_more n (length legs) in
    let all : lost_in n legs + 172 * n ≡ 172 * (n * suc (length legs)) = omega (arith, e, m) in all

module _ (code : CodeParts) (input : List NamedArray) (s : Shape) (keeper : ℕ) (im : Image) (places : s.takeover ≡ ByPlaces) (fair : IsFair code) (opens : Opens code input s keeper im)
    (calm : Calm (strands s code) (root_strand code input) (arrays_at (view s im.words))) (end : End Result) (ends : Ends (strands s code) (root_strand code input) (arrays_at (view s im.words)) end) where
  abbrev root : Tree (Frame FrameWord Point) Result
  root = root_strand code input

  abbrev arrays : Words
  arrays = arrays_at (view s im.words)

  -- the moment with which a run goes on after legs
  record Begins (legs : List Leg) : Type 0 where
    tree : Skeleton
    made : ℕ → ℕ
    run : IsRun s code root arrays (state_then s code im.words legs) (homes_then s code im.words legs) (forked_then s code im.words legs) (taken_then s code im.words legs) tree
    stage : Stage s code fair root arrays end ends (lost_in s.processors legs) (state_then s code im.words legs) (homes_then s code im.words legs) (forked_then s code im.words legs) (taken_then s code im.words legs) [] tree (halves run) run.agrees
        (work_then s code im.words legs) (strikes_then s code im.words legs) made

  -- and the one after its turns
  record Behind (legs : List Leg) (turns : List Turn) : Type 0 where
    tree : Skeleton
    made : ℕ → ℕ
    run : IsRun s code root arrays (last_state s code im.words legs turns) (all_homes s code im.words legs turns) (all_forked s code im.words legs turns) (all_taken s code im.words legs turns) tree
    stage : Stage s code fair root arrays end ends (lost_in s.processors legs) (last_state s code im.words legs turns) (all_homes s code im.words legs turns) (all_forked s code im.words legs turns) (all_taken s code im.words legs turns) [] tree (halves run) run.agrees
        (all_work s code im.words legs turns) (all_strikes s code im.words legs turns) made

  behind : (legs : List Leg) → Begins legs → (turns : List Turn) → AllByRecursion (IsTurnAmong s.processors) turns → Behind legs turns
  behind legs b turns all =
      let on = all_struck s code fair root arrays end ends places (lost_in s.processors legs) (words_then s code im.words legs) turns (state_then s code im.words legs) refl (homes_then s code im.words legs)
      (forked_then s code im.words legs) (taken_then s code im.words legs) b.tree b.run (work_then s code im.words legs) (strikes_then s code im.words legs) b.made all b.stage in
      record { tree = on.0; made = _; run = on.1; stage = on.2 }

  begins : (legs : List Leg) → AreLegs s code im.words legs → Begins legs
  begins [] are = record {
    tree = first_tree code input s keeper im fair opens calm end ends;
    made = λ c. 0;
    run = first_run code input s keeper im fair opens calm end ends;
    stage = first_stage code input s keeper im fair opens calm end ends (first_run code input s keeper im fair opens calm end ends);
  }
  begins (leg ∷ legs) are =
      let on = behind legs (begins legs are.0) leg.turns are.1 in record {
        tree = on.tree;
        made = λ c. 0;
        run = run_back s code places fair root arrays end ends (lost_in s.processors legs) (last_state s code im.words legs leg.turns) (all_homes s code im.words legs leg.turns) (all_forked s code im.words legs leg.turns)
            (all_taken s code im.words legs leg.turns) on.tree on.run (all_work s code im.words legs leg.turns) (all_strikes s code im.words legs leg.turns) on.made on.stage leg.back are.2;
        stage = back_stage s code places fair root arrays end ends (lost_in s.processors legs) (last_state s code im.words legs leg.turns) (all_homes s code im.words legs leg.turns) (all_forked s code im.words legs leg.turns)
            (all_taken s code im.words legs leg.turns) on.tree on.run (all_work s code im.words legs leg.turns) (all_strikes s code im.words legs leg.turns) on.made on.stage leg.back are.2;
      }

  bounded : (legs : List Leg) → AreLegs s code im.words legs → (turns : List Turn) → AllByRecursion (IsTurnAmong s.processors) turns
      → all_work s code im.words legs turns ≤ 218 * end.counts.capsules + 171 * all_strikes s code im.words legs turns + 172 * (s.processors * length legs) + 6
  bounded legs are turns all =
      let on = behind legs (begins legs are) turns all in
      let le = work_of_stage s code fair root arrays end ends (lost_in s.processors legs) (last_state s code im.words legs turns) (all_homes s code im.words legs turns) (all_forked s code im.words legs turns)
      (all_taken s code im.words legs turns) [] on.tree (halves on.run) on.run.agrees (all_work s code im.words legs turns) (all_strikes s code im.words legs turns) on.made on.stage in
      let lost = lost_are s.processors legs in
      omega (arith, le, lost)

pub work_over_legs : WorkOverLegs
work_over_legs code input s keeper im places fair opens calm legs are turns all end ends = bounded code input s keeper im places fair opens calm end ends legs are turns all

pub work_over_legs_is_within_256 : WorkOverLegsIsWithin256
work_over_legs_is_within_256 code input s keeper im places fair opens calm legs are turns all end ends =
    let le = work_over_legs code input s keeper im places fair opens calm legs are turns all end ends in
    let some = strands_are_counted (strands s code) (root_strand code input) (arrays_at (view s im.words)) end ends in
    omega (arith, le, some)
