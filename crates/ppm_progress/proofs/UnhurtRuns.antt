-- Runs without hard faults, turn by turn: nobody dies, places stay home, and the tree advances.
use Rattle.std.proofs.Common.{◌≡◌, ◌≢◌, ◌⊎◌, ◌<◌, ℕ, true, false, List, [], ◌∷◌, ◌++◌, inl, inr, refl, subst}
use Rattle.std.specs.List.{AllByRecursion}
use Rattle.std.proofs.lemmas.Bool.{cases_Bool}
use Rattle.ppm_strands.specs.Tree.{Words, Tree}
use Rattle.ppm_strands.specs.Calm.{Calm}
use Rattle.ppm_words.specs.declared.named_array.NamedArray.{NamedArray}
use Rattle.ppm_cells.specs.Cells.{pool_at}
use Rattle.ppm_cells.specs.Memory.{read, AreWordsOf}
use Rattle.ppm_cells.specs.declared.cell.Cell.TheVariants.{FinishWord}
use Rattle.ppm_cells.specs.declared.shape.Shape.{Shape}
use Rattle.ppm_strands.specs.Strand.{Frame}
use Rattle.ppm_code.specs.Sizes.{slots_of}
use Rattle.ppm_code.specs.Strands.{Point, Result}
use Rattle.ppm_code.specs.declared.code.CodeParts.{CodeParts}
use Rattle.ppm_code.specs.declared.location.FrameWord.{FrameWord}
use Rattle.ppm_layout.specs.Correct.{Opens}
use Rattle.ppm_layout.specs.Root.{root_strand}
use Rattle.ppm_layout.specs.declared.images.Image.{Image}
use Rattle.ppm_step.specs.Among.{IsTurnAmong}
use Rattle.ppm_step.specs.Laws.{reached}
use Rattle.ppm_step.specs.Standings.{Standing, IsLost, IsPlaced, IsAt, IsWithin, IsRunning, IsBroken, IsDone}
use Rattle.ppm_step.specs.State.{State as RunState, stand_of, happens, after, opening, forks_of, takes_of, is_done_at}
use Rattle.ppm_step.proofs.FinishLemmas.{done_has_cause}
use Rattle.ppm_step.specs.declared.turn.Act.TheVariants.{Hard}
use Rattle.ppm_step.specs.declared.turn.Turn.{Turn}
use Rattle.ppm_tickets.specs.Along.{by_act, homes, forked as forked_in, taken as taken_in}
use Rattle.ppm_tickets.specs.Homes.{Home, Unborn}
use Rattle.ppm_tickets.specs.View as spots
use Rattle.ppm_frames.specs.Views.{view}
use Rattle.ppm_frames.specs.Seen.{arrays_at}
use Rattle.ppm_frames.specs.Skeletons.{Begins, InPlace, Skeleton, Leaf}
use Rattle.ppm_kept.specs.Running.{IsFair, strands}
use Rattle.ppm_kept.specs.Left.{left}
use Rattle.ppm_kept.specs.Places.{places_of}
use Rattle.ppm_kept.specs.Steps.{act_with}
use Rattle.ppm_runs.specs.Run.{setting}
use Rattle.ppm_runs.proofs.OrderlyLemmas.{how_or}
use Rattle.ppm_progress.specs.Idle.{IdleAreEmpty}
use Rattle.ppm_progress.specs.Works.{HurtsNone}
use Rattle.ppm_progress.proofs.AdvanceRuns.{IsAdvancing, alive_go_on}
use Rattle.ppm_progress.proofs.AliveLemmas.{AreAtHome, stays_home, first_home}
use Rattle.ppm_progress.proofs.IdleRuns.{first_empty}
use Rattle.ppm_progress.proofs.IdleTurns.{idle_stay_empty}
use Rattle.ppm_progress.proofs.ReadyLemmas.{advancing_first}
use Rattle.ppm_progress.proofs.WriteLemmas.{turn_wrote}

-- a state of a run in which nobody has died
pub record IsUnhurt (s : Shape) (code : CodeParts) (root : Tree (Frame FrameWord Point) Result) (input : Words) (state : RunState)
    (h : ℕ → Home) (forked taken : List ℕ) (t : Skeleton) : Type 0 where
  pub advancing : IsAdvancing s code root input state h forked taken t
  pub home : AreAtHome (spots.view s state.words)
  pub empty : IdleAreEmpty s state.words

module _ (s : Shape) (code : CodeParts) (fair : IsFair code) (root : Tree (Frame FrameWord Point) Result) (input : Words) where
  -- a turn that is no hard fault leads to the next
  pub step : (state : RunState) (h : ℕ → Home) (f tk : List ℕ) (t : Skeleton) → IsUnhurt s code root input state h f tk t
      → (turn : Turn) → IsTurnAmong s.processors turn → HurtsNone turn
      → (u : Skeleton) × IsUnhurt s code root input (happens s code state turn) (by_act s state.words turn.act (stand_of state turn.processor) h)
      (forks_of state turn ++ f) (takes_of state turn ++ tk) u
  step state h f tk t now turn among none =
      let run = now.advancing.run in
      let wrote = turn_wrote s code fair root input state h f tk [] t run.halves run.joint.agrees turn among.processor in
      let holding = run.halves.lawful.1.holding in
      let home = stays_home s code state.words turn.act (stand_of state turn.processor) (happens s code state turn).words none now.home holding wrote in
      let next = alive_go_on s code fair root input state h f tk t now.advancing turn among now.home.alive (how_or s.takeover) in
      let empty = idle_stay_empty s code fair root input state h f tk [] t run.halves run.joint.agrees turn among _ _ _ next.run.halves.lawful now.empty in
      let tree = act_with (setting s code) (left (setting s code) [] (places_of s state)).words state.words turn.act (stand_of state turn.processor) t in
      (tree, record { advancing = next; home = home; empty = empty })

  pub all_unhurt : (state : RunState) (h : ℕ → Home) (f tk : List ℕ) (t : Skeleton) (turns : List Turn)
      → AllByRecursion (IsTurnAmong s.processors) turns → AllByRecursion HurtsNone turns
      → IsUnhurt s code root input state h f tk t
      → (v : Skeleton) × IsUnhurt s code root input (after s code state turns) (homes s code state h turns)
      (forked_in s code state f turns) (taken_in s code state tk turns) v
  all_unhurt state h f tk t [] among none now = (t, now)
  all_unhurt state h f tk t (turn ∷ more) among none now =
      let next = step state h f tk t now turn among.0 none.0 in
      all_unhurt (happens s code state turn) (by_act s state.words turn.act (stand_of state turn.processor) h) (forks_of state turn ++ f)
      (takes_of state turn ++ tk) next.0 more among.1 none.1 next.1

-- nobody is done while the finish word is 0
pub done_is : (x : Standing) → is_done_at x ≡ true → x ≡ IsDone
done_is IsDone e = refl
done_is IsLost e = absurd (cc)
done_is (IsPlaced p) e = absurd (cc)
done_is (IsAt p re) e = absurd (cc)
done_is (IsWithin seat row) e = absurd (cc)
done_is (IsRunning seat rest) e = absurd (cc)
done_is (IsBroken p) e = absurd (cc)

none_struck : (first more : List Turn) (c : ℕ) → AllByRecursion HurtsNone (first ++ record { processor = c; act = Hard } ∷ more) → ⊥
none_struck [] more c none = none.0
none_struck (turn ∷ first) more c none = none_struck first more c none.1

-- a processor takes steps, or the finish word is set
pub live_or : (s : Shape) (code : CodeParts) → IsFair code → (ws : List ℕ) → AreWordsOf s ws → (turns : List Turn) → AllByRecursion HurtsNone turns
    → (c : ℕ) → c < s.processors
    → (is_done_at (stand_of (reached s code ws turns) c) ≡ false) ⊎ (read s (reached s code ws turns).words FinishWord ≢ 0)
live_or s code fair ws fit turns none c there = elim (cases_Bool (is_done_at (stand_of (reached s code ws turns) c))) [
  | inr going ↦ inl going
  | inl done ↦
      let stand = done_is (stand_of (reached s code ws turns) c) done in
      elim (done_has_cause s code fair.code_is ws turns c fit there stand) [
        | inl struck ↦ absurd (none_struck struck.first struck.more c (subst (AllByRecursion HurtsNone) struck.turns_are none))
        | inr set ↦ inr set
      ]
]

-- a run opens so
module _ (code : CodeParts) (input : List NamedArray) (s : Shape) (keeper : ℕ) (im : Image) (opens : Opens code input s keeper im)
    (calm : Calm (strands s code) (root_strand code input) (arrays_at (view s im.words))) where
  abbrev pub root : Tree (Frame FrameWord Point) Result
  root = root_strand code input

  abbrev pub arrays : Words
  arrays = arrays_at (view s im.words)

  abbrev pub first : RunState
  first = opening im.words s.processors

  abbrev pub seed : Skeleton
  seed = Leaf (InPlace keeper) (Begins 0) (pool_at s keeper) (slots_of code code.root)

  pub unhurt_first : IsUnhurt s code root arrays first (λ r. Unborn) [] [] seed
  unhurt_first = record {
    advancing = advancing_first code input s keeper im opens calm;
    home = first_home code input s keeper im opens;
    empty = first_empty code input s keeper im opens calm;
  }
