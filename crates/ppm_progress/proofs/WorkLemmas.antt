-- At each moment some place is at work. A place that has a strand is at a kind of work. A right branch that waits was got back by a place that
-- pops, or was won by a thief; or it is a job in a deque, and then that place works, since one that looks for work has no job.
use Rattle.std.proofs.Common.{◌≡◌, ◌⊎◌, ◌≤◌, ◌<◌, ◌-◌, ℕ, Bool, true, false, List, inl, inr, refl, sym, ap, ◌∙◌, subst, arith}
use Rattle.std.proofs.Math.Path.{fun_ext}
use Rattle.std.specs.Prelude.{nat_lt}
use Rattle.std.proofs.lemmas.Bool.{cases_Bool, ltb-true, true≢false}
use Rattle.ppm_strands.specs.Tree.{Words, Tree}
use Rattle.ppm_cells.specs.Memory.{read}
use Rattle.ppm_cells.specs.Restart.{restart_of}
use Rattle.ppm_cells.specs.declared.cell.Cell.{Cell}
use Rattle.ppm_cells.specs.declared.cell.Cell.TheVariants.{RestartWord}
use Rattle.ppm_cells.specs.declared.restart.Restart.{Restart}
use Rattle.ppm_cells.specs.declared.restart.RestartKind.{RestartKind}
use Rattle.ppm_cells.specs.declared.restart.RestartKind.TheVariants.{Run, Bump, Push1, Push2, Unwind, Arrive, Join, Pop1, Pop2, Seek, Steal, Check, Take, Take2}
use Rattle.ppm_cells.specs.declared.shape.Shape.{Shape}
use Rattle.ppm_strands.specs.Strand.{Frame}
use Rattle.ppm_code.specs.Strands.{Point, Result}
use Rattle.ppm_code.specs.declared.code.CodeParts.{CodeParts}
use Rattle.ppm_code.specs.declared.location.FrameWord.{FrameWord}
use Rattle.ppm_step.specs.State.{State as RunState, stand_of, is_work, is_done_at}
use Rattle.ppm_tickets.specs.Homes.{Home, Unborn, Pushing, Listed, Popping, Stolen, Inline, Begun}
use Rattle.ppm_tickets.specs.Lawful.{IsLocal, IsEmpty, IsTaken, Deque, Pops, Steals, Carries, Closed}
use Rattle.ppm_tickets.specs.Renewal.{IsLawful}
use Rattle.ppm_tickets.specs.View as spots
use Rattle.ppm_tickets.specs.Words.{Word, Job, Spot, Message, Bid, Top, Slot, Holder, Carry, Dead, Restart as RestartSpot, Other}
use Rattle.ppm_tickets.proofs.EstateLemmas.{own}
use Rattle.ppm_tickets.proofs.ViewLemmas.{if_false}
use Rattle.ppm_frames.specs.Skeletons.{Waiting, Skeleton, Leaf, Calling, Forking, at}
use Rattle.ppm_kept.specs.Fates.{Offered}
use Rattle.ppm_kept.specs.Fates as fates
use Rattle.ppm_kept.specs.Kept.{carried}
use Rattle.ppm_kept.specs.Places.{kinds_of}
use Rattle.ppm_kept.specs.Unruns.{HasUnrun}
use Rattle.ppm_frames.specs.Views.{view}
use Rattle.ppm_runs.specs.Run.{fate_of}
use Rattle.ppm_runs.proofs.StandLemmas.{kinds_same}
use Rattle.ppm_advance.specs.Advance.{SomeWaits}
use Rattle.ppm_advance.proofs.AdvanceLemmas.{ready}
use Rattle.ppm_progress.specs.Idle.{IdleAreEmpty}
use Rattle.ppm_progress.specs.Works.{IsAtWork, Works}
use Rattle.ppm_progress.proofs.AdvanceRuns.{IsAdvancing}
use Rattle.ppm_progress.proofs.AliveLemmas.{AreAtHome, carries_own}
use Rattle.ppm_progress.proofs.IdleLemmas.{no_job_idle}

-- a kind with a strand is work, and so is one that pops
carried_is_work : (m : Cell → ℕ) (k : RestartKind) → 1 ≤ carried m k → is_work k ≡ true
carried_is_work m (Run f y) le = refl
carried_is_work m (Bump r) le = refl
carried_is_work m (Push1 r) le = refl
carried_is_work m (Push2 r) le = refl
carried_is_work m (Unwind f) le = refl
carried_is_work m (Arrive r d) le = refl
carried_is_work m (Join r d) le = refl
carried_is_work m Pop1 le = refl
carried_is_work m (Pop2 r) le = refl
carried_is_work m Seek le = absurd (omega (arith, le))
carried_is_work m (Steal v i) le = absurd (omega (arith, le))
carried_is_work m (Check v i) le = absurd (omega (arith, le))
carried_is_work m (Take v h) le = absurd (omega (arith, le))
carried_is_work m (Take2 v) le = absurd (omega (arith, le))

pops_is_work : (k : RestartKind) (w : Word) (r : ℕ) → Pops k w r → is_work k ≡ true
pops_is_work Pop1 w r pops = refl
pops_is_work (Pop2 x) w r pops = refl
pops_is_work _ w r pops = absurd pops

-- a job is no other entry
job_is_none : (w : Word) (t r : ℕ) → w ≡ Job t r → IsTaken w ⊎ (IsLocal w ⊎ IsEmpty w) → ⊥
job_is_none w t r e (inl a) = subst IsTaken e a
job_is_none w t r e (inr (inl a)) = subst IsLocal e a
job_is_none w t r e (inr (inr a)) = subst IsEmpty e a

-- a branch that waits has its block
waits_at : (t : Skeleton) → SomeWaits t → (r : ℕ) × HasUnrun Waiting r t
waits_at (Leaf w st f n) waits = absurd waits
waits_at (Calling f n y t) waits = waits_at t waits
waits_at (Forking f n y r a b) (inl here) = (r, inl (refl, here))
waits_at (Forking f n y r a b) (inr (inl in_left)) = let x = waits_at a in_left in (x.0, inr (inl x.1))
waits_at (Forking f n y r a b) (inr (inr in_right)) = let x = waits_at b in_right in (x.0, inr (inr x.1))

module _ (s : Shape) (code : CodeParts) (root : Tree (Frame FrameWord Point) Result) (input : Words) (state : RunState) (h : ℕ → Home)
    (forked taken : List ℕ) (t : Skeleton) (now : IsAdvancing s code root input state h forked taken t)
    (empty : IdleAreEmpty s state.words) (is_open : (v : ℕ) → Closed s.takeover (spots.view s state.words) v → ⊥) where
  abbrev m : Spot → Word
  m = spots.view s state.words

  abbrev K : ℕ → RestartKind
  K = spots.kinds s state.words

  abbrev pub Somewhere : Type 0
  Somewhere = (p : ℕ) × (p < s.processors) × IsAtWork m p (K p)

  -- a place that isn't there seeks
  there_or : (p : ℕ) → (p < s.processors) ⊎ (K p ≡ Seek)
  there_or p = by (nat_lt p s.processors) refl
    where
      by : (y : Bool) → nat_lt p s.processors ≡ y → (p < s.processors) ⊎ (K p ≡ Seek)
      by true e = inl (ltb-true p s.processors e)
      by false e =
          let read_ = spots.restart_or (restart_of (read s state.words (RestartWord p))) in
          inr (ap (λ (x : Restart). x.kind) (if_false (nat_lt p s.processors) read_ spots.seeking e))

  -- no place is closed, so the words are as if nothing were inherited
  ghost_is : (d : Spot) → now.run.halves.lawful.1.board.ghost d ≡ m d
  ghost_is (Slot v i) = own now.run.halves.lawful.1.board v i (is_open v)
  ghost_is (Message p) = now.run.halves.lawful.1.board.covers.others (Message p) (λ v i e. cc)
  ghost_is (Bid p) = now.run.halves.lawful.1.board.covers.others (Bid p) (λ v i e. cc)
  ghost_is (Top p) = now.run.halves.lawful.1.board.covers.others (Top p) (λ v i e. cc)
  ghost_is (Holder p) = now.run.halves.lawful.1.board.covers.others (Holder p) (λ v i e. cc)
  ghost_is (Carry p) = now.run.halves.lawful.1.board.covers.others (Carry p) (λ v i e. cc)
  ghost_is (Dead p) = now.run.halves.lawful.1.board.covers.others (Dead p) (λ v i e. cc)
  ghost_is (RestartSpot p) = now.run.halves.lawful.1.board.covers.others (RestartSpot p) (λ v i e. cc)
  ghost_is Other = now.run.halves.lawful.1.board.covers.others Other (λ v i e. cc)

  -- a place that is at work is there
  at_place : (p : ℕ) → IsAtWork m p (K p) → Somewhere
  at_place p work = elim (there_or p) [ inl lt ↦ (p, lt, work) | inr seeks ↦ absurd (seeking_none work seeks) ]
    where
      seeking_none : IsAtWork m p (K p) → K p ≡ Seek → ⊥
      seeking_none (inl works) seeks = true≢false (sym works ∙ ap is_work seeks)
      seeking_none (inr steals) seeks = subst (λ (k : RestartKind). Steals m p k steals.0) seeks steals.1

  -- a place that has a strand
  strand_at : (p : ℕ) → 1 ≤ at p t → Somewhere
  strand_at p one =
      let many = subst (λ (n : ℕ). 1 ≤ n) (now.run.halves.kept.places p) one in
      let work = carried_is_work (view s state.words) (kinds_of s state.words p) many in
      at_place p (inl (ap is_work (sym (kinds_same s state.words p)) ∙ work))

  -- a job of the entry i of place v
  job_at : (v i u r : ℕ) → m (Slot v i) ≡ Job u r → Somewhere
  job_at v i u r job = elim (cases_Bool (is_work (K v))) [
    | inl works ↦ at_place v (inl works)
    | inr looks ↦
        let b = spots.bottoms s state.words v in
        let ghosts = fun_ext (λ j. ghost_is (Slot v j)) in
        let deque : Deque (K v) b (λ j. m (Slot v j)) = subst (Deque (K v) b) ghosts (now.run.halves.lawful.1.board.board.deque v) in
        absurd (job_is_none (m (Slot v i)) u r job (no_job_idle (λ j. m (Slot v j)) (K v) b deque looks i (λ j lt. empty v j looks lt)))
  ]

  -- what the words show of a home
  carries : (r : ℕ) (x : Home) → h r ≡ x → Carries now.run.halves.lawful.1.board.ghost K (spots.bottoms s state.words) x r
  carries r x e =
      subst (λ (y : Home). Carries now.run.halves.lawful.1.board.ghost K (spots.bottoms s state.words) y r) e (now.run.halves.lawful.1.board.board.real r)

  -- a right branch that waits, by its home
  branch_at : (r : ℕ) (x : Home) → h r ≡ x → fate_of x ≡ Offered → Somewhere
  branch_at r (Listed v i u) e offered = job_at v i u r (sym (ghost_is (Slot v i)) ∙ carries r (Listed v i u) e)
  branch_at r (Popping p) e offered =
      at_place p (inl (pops_is_work (K p) (now.run.halves.lawful.1.board.ghost (Slot p (spots.bottoms s state.words p - 1))) r (carries r (Popping p) e)))
  branch_at r (Stolen p) e offered =
      at_place p (inr (r, subst (λ (g : Spot → Word). Steals g p (K p) r) (fun_ext ghost_is) (carries r (Stolen p) e)))
  branch_at r Unborn e offered = absurd (let x : fates.Unborn ≡ Offered = offered in cc)
  branch_at r (Pushing p) e offered = absurd (let x : fates.ToPush ≡ Offered = offered in cc)
  branch_at r Inline e offered = absurd (let x : fates.Inline ≡ Offered = offered in cc)
  branch_at r Begun e offered = absurd (let x : fates.Begun ≡ Offered = offered in cc)

  pub somewhere : Somewhere
  somewhere = elim (ready t now.advances) [
    | inl strand ↦ strand_at strand.0 strand.1
    | inr waits ↦
        let branch = waits_at t waits in
        branch_at branch.0 (h branch.0) refl (now.run.joint.agrees.waiting branch.0 branch.1)
  ]

-- where nobody is dead that place is its own processor's
pub works_at : (s : Shape) (code : CodeParts) (state : RunState) (h : ℕ → Home) (forked taken : List ℕ) → IsLawful s code state h forked taken
    → AreAtHome (spots.view s state.words) → (p : ℕ) → p < s.processors → is_done_at (stand_of state p) ≡ false
    → IsAtWork (spots.view s state.words) p (spots.kinds s state.words p) → Works s state p
works_at s code state h forked taken law home p lt live work = record {
  there = lt;
  alive = home.alive p;
  not_done = live;
  place = p;
  carried = carries_own s.takeover (spots.view s state.words) (spots.kinds s state.words) home law.1.holding law.1.rooted p;
  at_work = work;
}
