-- At each moment of a run a place that looks for work has no job: it has none where a run opens, and each turn leaves it so. At its bottom and above it
-- the shape of the deque has none.
use Rattle.std.proofs.Common.{◌≡◌, ◌⊎◌, ◌<◌, ℕ, Bool, true, false, List, [], ◌∷◌, ◌++◌, inl, inr, refl, sym, ap, ◌∙◌, subst, arith}
use Rattle.std.specs.List.{AllByRecursion}
use Rattle.std.specs.Prelude.{nat_lt}
use Rattle.std.proofs.lemmas.Bool.{cases_eq, ltb-true}
use Rattle.ppm_strands.specs.Tree.{Words, Tree}
use Rattle.ppm_strands.specs.Calm.{Calm}
use Rattle.ppm_words.specs.declared.named_array.NamedArray.{NamedArray}
use Rattle.ppm_cells.specs.Restart.{restart_of}
use Rattle.ppm_cells.specs.Memory.{read}
use Rattle.ppm_cells.specs.declared.cell.Cell.TheVariants.{RestartWord}
use Rattle.ppm_cells.specs.declared.restart.Restart.{Restart}
use Rattle.ppm_cells.specs.declared.shape.Shape.{Shape}
use Rattle.ppm_cells.specs.declared.shape.Takeover.TheVariants.{ByPlaces, ByEntries}
use Rattle.ppm_strands.specs.Strand.{Frame}
use Rattle.ppm_code.specs.Strands.{Point, Result}
use Rattle.ppm_code.specs.declared.code.CodeParts.{CodeParts}
use Rattle.ppm_code.specs.declared.location.FrameWord.{FrameWord}
use Rattle.ppm_layout.specs.Correct.{Opens}
use Rattle.ppm_layout.specs.Root.{root_strand}
use Rattle.ppm_layout.specs.declared.images.Image.{Image}
use Rattle.ppm_layout.proofs.ValueLemmas.{stands_for}
use Rattle.ppm_step.specs.Among.{IsTurnAmong}
use Rattle.ppm_step.specs.State.{State as RunState, stand_of, happens, after, opening, forks_of, takes_of}
use Rattle.ppm_step.specs.declared.turn.Turn.{Turn}
use Rattle.ppm_tickets.specs.Along.{by_act}
use Rattle.ppm_tickets.specs.Homes.{Home, Unborn}
use Rattle.ppm_tickets.specs.Lawful.{IsEmpty, IsJob, IsLocal, IsTaken, IsClaim}
use Rattle.ppm_tickets.specs.Renewal.{IsLawful}
use Rattle.ppm_tickets.specs.View as spots
use Rattle.ppm_tickets.specs.Words.{Word, Job, Taken, Slot}
use Rattle.ppm_tickets.proofs.ActLemmas.{restart_is}
use Rattle.ppm_tickets.proofs.EstateLemmas.{as_was}
use Rattle.ppm_tickets.proofs.ViewLemmas.{if_false}
use Rattle.ppm_frames.specs.Views.{view}
use Rattle.ppm_frames.specs.Seen.{arrays_at}
use Rattle.ppm_frames.specs.Skeletons.{Skeleton}
use Rattle.ppm_kept.specs.Running.{IsFair, strands}
use Rattle.ppm_kept.specs.Left.{Followed}
use Rattle.ppm_kept.specs.Steps.{tree_after}
use Rattle.ppm_runs.specs.Run.{setting, IsRun}
use Rattle.ppm_runs.specs.Entries.{IsHeired}
use Rattle.ppm_runs.proofs.HeiredLemmas.{heired_first, heirs_lead_on}
use Rattle.ppm_runs.proofs.MomentLemmas.{turns_lead_on}
use Rattle.ppm_runs.proofs.OpenLemmas.{runs_open}
use Rattle.ppm_runs.proofs.OrderlyLemmas.{how_or}
use Rattle.ppm_runs.proofs.ShownLemmas.{halves}
use Rattle.ppm_progress.specs.Idle.{IdleAreEmpty, IdleHaveNoJob, IdleAreEmptyInRuns}
use Rattle.ppm_progress.proofs.IdleLemmas.{local_is_bottom, no_job_idle}
use Rattle.ppm_progress.proofs.IdleTurns.{idle_stay_empty}

-- a taken entry is not local
taken_not_local : (w : Word) → IsTaken w → IsLocal w → ⊥
taken_not_local (Taken t x) is local_ = local_
taken_not_local _ is local_ = absurd is

-- a job is no entry of the other kinds, and none that was inherited
job_is_no_other : (w : Word) → IsJob w → IsTaken w ⊎ (IsLocal w ⊎ IsEmpty w) → ⊥
job_is_no_other (Job t r) is (inl taken) = taken
job_is_no_other (Job t r) is (inr (inl local_)) = local_
job_is_no_other (Job t r) is (inr (inr empty)) = empty
job_is_no_other _ is other = absurd is

job_is_no_claim : (w : Word) → IsJob w → IsClaim w → ⊥
job_is_no_claim (Job t r) is claim = claim
job_is_no_claim _ is claim = absurd is

-- where the entries below the bottom of a place that looks for work are taken, it has no job
no_jobs : (s : Shape) (code : CodeParts) (state : RunState) (h : ℕ → Home) (forked taken : List ℕ) → IsLawful s code state h forked taken
    → IdleAreEmpty s state.words → IdleHaveNoJob s state.words
no_jobs s code state h forked taken law empty p i idle job =
    let m = spots.view s state.words in
    let g = law.1.board.ghost in
    let b = spots.bottoms s state.words p in
    let deque = law.1.board.board.deque p in
    let below : (j : ℕ) → j < b → IsTaken (g (Slot p j)) = λ j lt. elim (law.1.board.covers.slots p j) [
      | inl same ↦ subst IsTaken (sym same.0) (empty p j idle lt)
      | inr z ↦ let at = local_is_bottom (λ n. g (Slot p n)) (spots.kinds s state.words p) b deque idle j z.local in absurd (omega (arith, at, lt))
    ] in
    elim (law.1.board.covers.slots p i) [
      | inl same ↦ job_is_no_other (g (Slot p i)) (subst IsJob (sym same.0) job)
          (no_job_idle (λ n. g (Slot p n)) (spots.kinds s state.words p) b deque idle i below)
      | inr z ↦ job_is_no_claim (m (Slot p i)) job z.claim
    ]

-- an entry of lawful words that is taken as if nothing were inherited is taken
floor_taken : (s : Shape) (code : CodeParts) (state : RunState) (h : ℕ → Home) (forked taken : List ℕ) (law : IsLawful s code state h forked taken)
    (p : ℕ) → IsTaken (spots.view s state.words (Slot p 0))
floor_taken s code state h forked taken law p =
    let floor = (law.1.board.board.deque p).floor in
    subst IsTaken (as_was (law.1.board.covers.slots p 0) (taken_not_local (law.1.board.ghost (Slot p 0)) floor)) floor

-- each bottom is 1 where a run opens
module _ (code : CodeParts) (input : List NamedArray) (s : Shape) (keeper : ℕ) (im : Image) (opens : Opens code input s keeper im) where
  first_bottom : (p : ℕ) → spots.bottoms s im.words p ≡ 1
  first_bottom p = by (nat_lt p s.processors) refl
    where
      some : p < s.processors → spots.bottoms s im.words p ≡ 1
      some lt = elim (cases_eq p keeper) [
        | inl same ↦
            let keeps = ap (λ (n : ℕ). restart_of (read s im.words (RestartWord n))) same ∙ (stands_for code input s keeper im opens).runs in
            ap (λ (x : Restart). x.bottom) (restart_is s im.words p lt ∙ ap spots.restart_or keeps)
        | inr ne ↦ ap (λ (x : Restart). x.bottom) (restart_is s im.words p lt ∙ ap spots.restart_or ((stands_for code input s keeper im opens).seeks p lt ne))
      ]

      by : (y : Bool) → nat_lt p s.processors ≡ y → spots.bottoms s im.words p ≡ 1
      by true e = some (ltb-true p s.processors e)
      by false e =
          ap (λ (x : Restart). x.bottom) (if_false (nat_lt p s.processors) (spots.restart_or (restart_of (read s im.words (RestartWord p)))) spots.seeking e)

  pub first_empty : (calm : Calm (strands s code) (root_strand code input) (arrays_at (view s im.words))) → IdleAreEmpty s im.words
  first_empty calm p i idle lt =
      let bottom = first_bottom p in
      let zero_ : i ≡ 0 = omega (arith, lt, bottom) in
      let law = (heired_first code input s keeper im opens calm).halves.lawful in
      subst (λ (n : ℕ). IsTaken (spots.view s im.words (Slot p n))) (sym zero_) (floor_taken s code (opening im.words s.processors) (λ r. Unborn) [] [] law p)

module _ (s : Shape) (code : CodeParts) (fair : IsFair code) (root : Tree (Frame FrameWord Point) Result) (input : Words) where
  pub all_places : s.takeover ≡ ByPlaces → (state : RunState) (h : ℕ → Home) (f tk : List ℕ) (t : Skeleton) → IsRun s code root input state h f tk t
      → (turns : List Turn) → AllByRecursion (IsTurnAmong s.processors) turns → IdleAreEmpty s state.words
      → IdleAreEmpty s (after s code state turns).words × IdleHaveNoJob s (after s code state turns).words
  all_places places state h f tk t run [] among empty = (empty, no_jobs s code state h f tk (halves run).lawful empty)
  all_places places state h f tk t run (turn ∷ more) among empty =
      let next = turns_lead_on s code places fair root input state h f tk t run turn among.0 in
      let then_ = idle_stay_empty s code fair root input state h f tk [] t (halves run) run.agrees turn among.0 _ _ _ next.lawful empty in
      all_places places (happens s code state turn) (by_act s state.words turn.act (stand_of state turn.processor) h) (forks_of state turn ++ f)
      (takes_of state turn ++ tk) (tree_after (setting s code) state turn t) next more among.1 then_

  all_entries : s.takeover ≡ ByEntries → (state : RunState) (h : ℕ → Home) (f tk : List ℕ) (l : List Followed) (t : Skeleton)
      → IsHeired s code root input state h f tk l t
      → (turns : List Turn) → AllByRecursion (IsTurnAmong s.processors) turns → IdleAreEmpty s state.words
      → IdleAreEmpty s (after s code state turns).words × IdleHaveNoJob s (after s code state turns).words
  all_entries ih state h f tk l t run [] among empty = (empty, no_jobs s code state h f tk run.halves.lawful empty)
  all_entries ih state h f tk l t run (turn ∷ more) among empty =
      let next = heirs_lead_on s code ih fair root input state h f tk l t run turn among.0 in
      let then_ = idle_stay_empty s code fair root input state h f tk l t run.halves run.joint.agrees turn among.0 _ _ _ next.2.halves.lawful empty in
      all_entries ih (happens s code state turn) (by_act s state.words turn.act (stand_of state turn.processor) h) (forks_of state turn ++ f)
      (takes_of state turn ++ tk) next.0 next.1 next.2 more among.1 then_

pub idle_are_empty_in_runs : IdleAreEmptyInRuns
idle_are_empty_in_runs code input s keeper im fair opens calm turns among =
    let root = root_strand code input in
    let arrays = arrays_at (view s im.words) in
    let first = opening im.words s.processors in
    let empty = first_empty code input s keeper im opens calm in
    elim (how_or s.takeover) [
      | inl places ↦ all_places s code fair root arrays places first (λ r. Unborn) [] [] _ (runs_open code input s keeper im opens calm) turns among empty
      | inr ih ↦ all_entries s code fair root arrays ih first (λ r. Unborn) [] [] [] _ (heired_first code input s keeper im opens calm) turns among empty
    ]
