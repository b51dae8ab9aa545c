-- A turn leaves each place that looks for work without a job, with either takeover.
use Rattle.std.proofs.Common.{◌≡◌, ◌<◌, ◌+◌, ◌-◌, ℕ, true, false, List, inl, inr, refl, sym, ap, ◌∙◌, subst, arith}
use Rattle.std.proofs.Math.Path.{fun_ext}
use Rattle.std.proofs.lemmas.Bool.{cases_eq, cases_Bool}
use Rattle.ppm_strands.specs.Tree.{Words, Tree}
use Rattle.ppm_cells.specs.Memory.{write as store}
use Rattle.ppm_cells.specs.Restart.{restart_word}
use Rattle.ppm_cells.specs.declared.cell.Cell.TheVariants.{RestartWord}
use Rattle.ppm_cells.specs.declared.restart.Restart.{Restart}
use Rattle.ppm_cells.specs.declared.shape.Shape.{Shape}
use Rattle.ppm_cells.specs.declared.shape.Takeover.{Takeover}
use Rattle.ppm_cells.specs.declared.shape.Takeover.TheVariants.{ByPlaces, ByEntries}
use Rattle.ppm_strands.specs.Strand.{Frame}
use Rattle.ppm_code.specs.Strands.{Point, Result}
use Rattle.ppm_code.specs.declared.code.CodeParts.{CodeParts}
use Rattle.ppm_code.specs.declared.location.FrameWord.{FrameWord}
use Rattle.ppm_step.specs.Frames.{Installs}
use Rattle.ppm_step.specs.Standings.{Standing, IsWithin, IsRunning}
use Rattle.ppm_step.specs.State.{State as RunState, stand_of, acts, happens, is_work}
use Rattle.ppm_step.specs.declared.row.Row.TheVariants.{Now}
use Rattle.ppm_step.specs.declared.row.Seat.{Seat}
use Rattle.ppm_step.specs.declared.row.Then.TheVariants.{Install, Fork, Begin}
use Rattle.ppm_step.specs.declared.turn.Act.{Act}
use Rattle.ppm_step.specs.declared.turn.Act.TheVariants.{Step}
use Rattle.ppm_step.specs.declared.turn.Turn.{Turn}
use Rattle.ppm_tickets.specs.Homes.{Home}
use Rattle.ppm_tickets.specs.Lawful.{IsTaken, Deque, Closed, IsDead}
use Rattle.ppm_tickets.specs.Renewal.{IsLawful}
use Rattle.ppm_tickets.specs.Saw.{Sees}
use Rattle.ppm_tickets.specs.View.{view, kinds, bottoms, restart_at, with_restarts}
use Rattle.ppm_tickets.specs.Words.{Word, Spot, Slot, Dead}
use Rattle.ppm_tickets.proofs.EstateLemmas.{own}
use Rattle.ppm_tickets.proofs.ViewLemmas.{view_else}
use Rattle.ppm_frames.specs.Skeletons.{Skeleton}
use Rattle.ppm_kept.specs.Running.{IsFair}
use Rattle.ppm_kept.specs.Fates.{Agrees}
use Rattle.ppm_kept.specs.Left.{Followed}
use Rattle.ppm_runs.specs.Run.{fate_of}
use Rattle.ppm_runs.specs.Follow.{IsHalves}
use Rattle.ppm_runs.proofs.AgreeLemmas.{open_}
use Rattle.ppm_runs.proofs.ShownLemmas.{Within, within}
use Rattle.ppm_progress.specs.Idle.{IdleAreEmpty, IdleStayEmpty}
use Rattle.ppm_progress.proofs.IdleLemmas.{taken_stays, idle_bottom, local_is_bottom, installs_work, not_both, work_goes}
use Rattle.ppm_progress.proofs.RestartLemmas.{restart_goes_on}
use Rattle.ppm_progress.proofs.WriteLemmas.{Gives, Wrote, turn_wrote}

-- a place is closed by its dead word
closed_same : (how : Takeover) (n m : Spot → Word) (v : ℕ) → n (Dead v) ≡ m (Dead v) → Closed how n v → Closed how m v
closed_same ByPlaces n m v same shut = shut
closed_same ByEntries n m v same shut = subst IsDead same shut

module _ (s : Shape) (code : CodeParts) (fair : IsFair code) (root : Tree (Frame FrameWord Point) Result) (input : Words) (state : RunState)
    (h : ℕ → Home) (forked taken : List ℕ) (l : List Followed) (t : Skeleton) (run : IsHalves s code root input state h forked taken l t)
    (agrees : Agrees t (λ r. fate_of (h r))) (turn : Turn) (there : turn.processor < s.processors)
    (g : ℕ → Home) (born begun_ : List ℕ) (after : IsLawful s code (happens s code state turn) g born begun_)
    (empty : IdleAreEmpty s state.words) where
  abbrev c : ℕ
  c = turn.processor

  abbrev ws : List ℕ
  ws = state.words

  abbrev now : List ℕ
  now = (happens s code state turn).words

  abbrev m : Spot → Word
  m = view s ws

  wrote : Wrote s code ws turn.act (stand_of state c) now
  wrote = turn_wrote s code fair root input state h forked taken l t run agrees turn there

  -- the place's own processor installs a restart that looks for work
  module _ (v : ℕ) (seat : Seat) (re : Restart) (act : turn.act ≡ Step v) (e : stand_of state c ≡ IsWithin seat (Now (Install re)))
      (is : restart_at s now seat.place ≡ re) (idle : is_work re.kind ≡ false) where
    w : Within s code root input state h forked taken l t run c seat (Now (Install re))
    w = within s code root input state h forked taken l t run c seat (Now (Install re)) e

    abbrev p : ℕ
    p = seat.place

    stored : now ≡ store s ws (RestartWord p) (restart_word re)
    stored = ap (λ (a : Act). (acts s code state c a (stand_of state c)).words) act ∙ ap (λ (x : Standing). (acts s code state c (Step v) x).words) e

    same : (d : Spot) → view s (store s ws (RestartWord p) (restart_word re)) d ≡ view s now d
    same d = ap (λ (x : List ℕ). view s x d) (sym stored)

    slot_same : (i : ℕ) → view s now (Slot p i) ≡ m (Slot p i)
    slot_same i = sym (same (Slot p i)) ∙ view_else s ws (RestartWord p) (restart_word re) (Slot p i) w.place (λ shown z. cc)

    -- the place is open, so its deque has its shape by the words, before the turn and after it
    open_was : Closed s.takeover m p → ⊥
    open_was = open_ s code root input state h forked taken l t run c p w.sits.carried

    open_now : Closed s.takeover (view s now) p → ⊥
    open_now shut =
        let dead = sym (same (Dead p)) ∙ view_else s ws (RestartWord p) (restart_word re) (Dead p) w.place (λ shown z. cc) in
        open_was (closed_same s.takeover (view s now) m p dead shut)

    deque_was : Deque (kinds s ws p) (bottoms s ws p) (λ i. m (Slot p i))
    deque_was =
        subst (Deque (kinds s ws p) (bottoms s ws p)) (fun_ext (λ i. own run.lawful.1.board p i open_was)) (run.lawful.1.board.board.deque p)

    deque_now : Deque re.kind re.bottom (λ i. m (Slot p i))
    deque_now =
        let ghosts = fun_ext (λ i. own after.1.board p i open_now ∙ slot_same i) in
        let shown = subst (Deque (kinds s now p) (bottoms s now p)) ghosts (after.1.board.board.deque p) in
        subst (λ (x : Restart). Deque x.kind x.bottom (λ i. m (Slot p i))) is shown

    -- it looked for work: its bottom stays
    looked : is_work (kinds s ws p) ≡ false → (i : ℕ) → i < re.bottom → IsTaken (m (Slot p i))
    looked was i lt =
        let local_ = (idle_bottom re.kind (m (Slot p (re.bottom - 1))) (m (Slot p re.bottom)) (m (Slot p (re.bottom + 1))) idle deque_now.here).1 in
        let bottom = local_is_bottom (λ j. m (Slot p j)) (kinds s ws p) (bottoms s ws p) deque_was was re.bottom local_ in
        empty p i was (subst (λ (n : ℕ). i < n) bottom lt)

    -- it worked: it has found the entry below its bottom taken, and so are all below that
    worked : is_work (kinds s ws p) ≡ true → (i : ℕ) → i < re.bottom → IsTaken (m (Slot p i))
    worked was i lt =
        let work = ap is_work (sym w.sits.at.kind) ∙ was in
        elim (work_goes s (with_restarts m (kinds s ws) (bottoms s ws)) seat.own p seat.restart.bottom re seat.restart.kind work w.seen) [
          | inl works ↦ absurd (not_both (is_work re.kind) works idle)
          | inr so ↦ elim (cases_eq i (seat.restart.bottom - 1)) [
            | inl last ↦ subst (λ (n : ℕ). IsTaken (m (Slot p n))) (sym last) so.1
            | inr ne ↦ let low = so.0 in run.lawful.1.order.first p i (seat.restart.bottom - 1) (omega (arith, lt, ne, low)) so.1
          ]
        ]

    pub installs : (i : ℕ) → i < re.bottom → IsTaken (m (Slot p i))
    installs = elim (cases_Bool (is_work (kinds s ws p))) [ inl work ↦ worked work | inr looks ↦ looked looks ]

  -- each act by which a place is given a restart that looks for work finds the entries below its bottom taken
  given : (q : ℕ) (re : Restart) (act : Act) (x : Standing) → turn.act ≡ act → stand_of state c ≡ x → Gives act x q re → restart_at s now q ≡ re
      → is_work re.kind ≡ false → (i : ℕ) → i < re.bottom → IsTaken (m (Slot q i))
  given q re (Step v) (IsWithin seat (Now (Install r))) ea ex gives is idle i lt =
      let at = ap (restart_at s now) gives.0 ∙ is ∙ sym gives.1 in
      let looks = ap (λ (x : Restart). is_work x.kind) gives.1 ∙ idle in
      subst (λ (n : ℕ). IsTaken (m (Slot n i))) gives.0 (installs v seat r ea ex at looks i (subst (λ (x : Restart). i < x.bottom) (sym gives.1) lt))
  given q re (Step v) (IsWithin seat (Now (Fork r))) ea ex gives is idle i lt =
      absurd (not_both (is_work re.kind) (ap (λ (x : Restart). is_work x.kind) (sym gives.1)) idle)
  given q re (Step v) (IsWithin seat (Now (Begin r f b))) ea ex gives is idle i lt =
      absurd (not_both (is_work re.kind) (ap (λ (x : Restart). is_work x.kind) (sym gives.1)) idle)
  given q re (Step v) (IsRunning seat (Installs kind)) ea ex gives is idle i lt =
      let sees = subst (Sees s m (kinds s ws) (bottoms s ws) c) ex (run.lawful.1.sees c) in
      absurd (not_both (is_work re.kind) (ap (λ (x : Restart). is_work x.kind) (sym gives.1) ∙ installs_work kind sees.2) idle)
  given q re act _ ea ex gives is idle i lt = absurd gives

  pub stays_empty : IdleAreEmpty s now
  stays_empty q i idle lt = elim (restart_goes_on s code ws run.lawful.0 turn.act (stand_of state c) now wrote q) [
    | inl same ↦
        let was = ap (λ (x : Restart). is_work x.kind) (sym same) ∙ idle in
        taken_stays s code ws turn.act (stand_of state c) now q i (empty q i was (subst (λ (x : Restart). i < x.bottom) same lt)) wrote
    | inr new ↦
        let looks = ap (λ (x : Restart). is_work x.kind) (sym new.2) ∙ idle in
        let low = subst (λ (x : Restart). i < x.bottom) new.2 lt in
        taken_stays s code ws turn.act (stand_of state c) now q i (given q new.0 turn.act (stand_of state c) refl refl new.1 new.2 looks i low) wrote
  ]

pub idle_stay_empty : IdleStayEmpty
idle_stay_empty s code fair root input state h forked taken l t run agrees turn among g born begun after empty =
    stays_empty s code fair root input state h forked taken l t run agrees turn among.processor g born begun after empty
