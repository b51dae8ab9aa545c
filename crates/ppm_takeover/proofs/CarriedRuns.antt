-- At each moment of a run by places, over legs too, places whose holders live are carried by them; so what is at work isn't lost.
use Rattle.std.proofs.Common.{◌≡◌, ◌⊎◌, ◌<◌, ℕ, zero, suc, false, List, [], ◌∷◌, ◌++◌, inl, inr, refl, sym, ap, ◌∙◌, subst, replicate}
use Rattle.std.specs.List.{AllByRecursion}
use Rattle.std.specs.Prelude.{slice_get}
use Rattle.std.proofs.lemmas.Bool.{cases_Bool, true≢false}
use Rattle.ppm_strands.specs.Tree.{Words, Tree}
use Rattle.ppm_strands.specs.Calm.{Calm}
use Rattle.ppm_words.specs.declared.named_array.NamedArray.{NamedArray}
use Rattle.ppm_cells.specs.Memory.{AreWordsOf}
use Rattle.ppm_cells.specs.declared.restart.RestartKind.{RestartKind}
use Rattle.ppm_cells.specs.declared.restart.RestartKind.TheVariants.{Take2}
use Rattle.ppm_cells.specs.declared.shape.Shape.{Shape}
use Rattle.ppm_cells.specs.declared.shape.Takeover.TheVariants.{ByPlaces}
use Rattle.ppm_strands.specs.Strand.{Frame}
use Rattle.ppm_code.specs.Strands.{Point, Result}
use Rattle.ppm_code.specs.declared.code.CodeParts.{CodeParts}
use Rattle.ppm_code.specs.declared.location.FrameWord.{FrameWord}
use Rattle.ppm_layout.specs.Correct.{Opens}
use Rattle.ppm_layout.specs.Root.{root_strand}
use Rattle.ppm_layout.specs.declared.images.Image.{Image}
use Rattle.ppm_step.specs.Among.{IsTurnAmong}
use Rattle.ppm_step.specs.Laws.{reached, finish_at}
use Rattle.ppm_step.specs.Standings.{IsLost}
use Rattle.ppm_step.specs.State.{State as RunState, stand_in, stand_of, happens, after, opening, forks_of, takes_of, is_done_at}
use Rattle.ppm_step.specs.declared.turn.Turn.{Turn}
use Rattle.ppm_step.proofs.FinishLemmas.{AllSpare, opening_spares, turn_spares}
use Rattle.ppm_tickets.specs.Along.{by_act, homes, forked as forked_in, taken as taken_in}
use Rattle.ppm_tickets.specs.Homes.{Home}
use Rattle.ppm_tickets.specs.Lawful.{IsDead, IsAlive, Names}
use Rattle.ppm_tickets.specs.View as spots
use Rattle.ppm_tickets.specs.Words.{Word, Empty, Local, Job, Taken, Held, Number, Linked, Restarts, Unread, Spot, Holder, Dead}
use Rattle.ppm_frames.specs.Views.{view}
use Rattle.ppm_frames.specs.Seen.{arrays_at}
use Rattle.ppm_frames.specs.Skeletons.{Skeleton}
use Rattle.ppm_kept.specs.Running.{IsFair, strands}
use Rattle.ppm_runs.specs.Legs.{Leg, words_then, AreLegs, homes_then, forked_then, taken_then, last_state, all_homes, all_forked, all_taken}
use Rattle.ppm_runs.specs.Sound.{IsHolderWithin}
use Rattle.ppm_runs.proofs.OrderlyLemmas.{pooled}
use Rattle.ppm_runs.proofs.TagLemmas.{AreLow, turn_low, risen, begins_low}
use Rattle.ppm_runs.proofs.WholeLemmas.{in_two}
use Rattle.ppm_progress.specs.Idle.{IdleAreEmpty}
use Rattle.ppm_progress.specs.Works.{IsAtWork}
use Rattle.ppm_progress.proofs.AdvanceRuns.{IsAdvancing, places_go_on}
use Rattle.ppm_progress.proofs.AliveLemmas.{carries_own}
use Rattle.ppm_progress.proofs.IdleTurns.{idle_stay_empty}
use Rattle.ppm_progress.proofs.LegRuns.{unhurt_then}
use Rattle.ppm_progress.proofs.UnhurtRuns.{IsUnhurt, done_is}
use Rattle.ppm_progress.proofs.WorkLemmas.{somewhere}
use Rattle.ppm_progress.proofs.WorkRuns.{places_open}
use Rattle.ppm_progress.proofs.SpotLemmas.{dead_or}
use Rattle.ppm_progress.proofs.WriteLemmas.{Wrote, turn_wrote}
use Rattle.ppm_takeover.specs.Lost.{IsBidder, AreCarried, SomeWorkIsLeft, NothingIsLost, NothingIsLostOverLegs, HeldAreCarried}
use Rattle.ppm_takeover.proofs.CarriedTurns.{AreHeld, held_after}
use Rattle.ppm_takeover.proofs.DoneLemmas.{DoneHaveCause, done_after, lost_first}
use Rattle.ppm_takeover.proofs.StandRows.{KeepsBidAt}

module _ (s : Shape) (code : CodeParts) (places : s.takeover ≡ ByPlaces) (fair : IsFair code) (root : Tree (Frame FrameWord Point) Result) (input : Words)
    (raised : ℕ) (ws : List ℕ) where
  -- a state of a run with what holders carry
  pub record IsTended (state : RunState) (h : ℕ → Home) (forked taken : List ℕ) (t : Skeleton) : Type 0 where
    pub advancing : IsAdvancing s code root input state h forked taken t
    pub empty : IdleAreEmpty s state.words
    pub held : AreHeld s state
    pub spare : AllSpare s code fair.code_is state
    pub done : DoneHaveCause s state
    pub low : AreLow s raised state.words
    pub ones : (d : ℕ) → IsDead (spots.view s state.words (Dead d)) → spots.view s state.words (Dead d) ≡ Number 1

  ones_on : (state : RunState) (turn : Turn) → AreWordsOf s state.words
      → Wrote s code state.words turn.act (stand_of state turn.processor) (happens s code state turn).words
      → ((d : ℕ) → IsDead (spots.view s state.words (Dead d)) → spots.view s state.words (Dead d) ≡ Number 1)
      → (d : ℕ) → IsDead (spots.view s (happens s code state turn).words (Dead d)) → spots.view s (happens s code state turn).words (Dead d) ≡ Number 1
  ones_on state turn fit wrote was d dead =
      elim (dead_or s code state.words fit turn.act (stand_of state turn.processor) (happens s code state turn).words wrote d) [
        | inl same ↦ same ∙ was d (subst IsDead same dead)
        | inr one ↦ one
      ]

  abbrev Next : RunState → (ℕ → Home) → (forked taken : List ℕ) → Turn → Skeleton → Type 0
  Next state h f tk turn u =
      IsTended (happens s code state turn) (by_act s state.words turn.act (stand_of state turn.processor) h) (forks_of state turn ++ f)
      (takes_of state turn ++ tk) u

  pub tended_on : (first : List Turn) (state : RunState) → state ≡ reached s code ws first → (h : ℕ → Home) (f tk : List ℕ) (t : Skeleton)
      → IsTended state h f tk t → (turn : Turn) → IsTurnAmong s.processors turn → (u : Skeleton) × Next state h f tk turn u
  tended_on first state on h f tk t now turn among =
      let run = now.advancing.run in
      let next = places_go_on s code fair root input state h f tk t now.advancing turn among places in
      let wrote = turn_wrote s code fair root input state h f tk [] t run.halves run.joint.agrees turn among.processor in (
        _,
        record {
          advancing = next;
          empty = idle_stay_empty s code fair root input state h f tk [] t run.halves run.joint.agrees turn among _ _ _ next.run.halves.lawful now.empty;
          held = held_after s code places fair root input state h f tk [] t run.halves run.joint.agrees turn among.processor now.held;
          spare = turn_spares s code fair.code_is state turn now.spare;
          done = done_after s code fair ws first state on run.halves.lawful.0 turn among.processor wrote now.spare now.done;
          low = turn_low s code state h f tk run.halves.lawful (pooled s code fair root input state h f tk [] t run.halves run.joint.agrees) raised now.low
              turn among;
          ones = ones_on state turn run.halves.lawful.0 wrote now.ones;
        },
      )

  pub all_tended : (first : List Turn) (state : RunState) → state ≡ reached s code ws first → (h : ℕ → Home) (f tk : List ℕ) (t : Skeleton)
      → IsTended state h f tk t → (turns : List Turn) → AllByRecursion (IsTurnAmong s.processors) turns
      → (u : Skeleton) × IsTended (after s code state turns) (homes s code state h turns) (forked_in s code state f turns) (taken_in s code state tk turns) u
  all_tended first state on h f tk t now [] among = (t, now)
  all_tended first state on h f tk t now (turn ∷ more) among =
      let next = tended_on first state on h f tk t now turn among.0 in
      let behind = ap (λ (z : RunState). happens s code z turn) on ∙ sym (in_two s code (opening ws s.processors) first (turn ∷ [])) in
      all_tended (first ++ turn ∷ []) (happens s code state turn) behind (by_act s state.words turn.act (stand_of state turn.processor) h)
      (forks_of state turn ++ f) (takes_of state turn ++ tk) next.0 next.1 more among.1

  -- where a leg begins
  rows_first : (m : Spot → Word) (o n q : ℕ) → KeepsBidAt m o (stand_in (slice_get (replicate n IsLost) q))
  rows_first m o zero q = tt
  rows_first m o (suc n) zero = tt
  rows_first m o (suc n) (suc q) = rows_first m o n q

  held_first : (state : RunState) (h : ℕ → Home) (f tk : List ℕ) (t : Skeleton) → IsUnhurt s code root input state h f tk t
      → AreCarried (spots.view s state.words) (spots.kinds s state.words)
  held_first state h f tk t now p c names alive =
      let m = spots.view s state.words in
      let law = now.advancing.run.halves.lawful.1 in
      let own = carries_own s.takeover m (spots.kinds s state.words) now.home law.holding law.rooted c in
      let one : p ≡ c = subst (λ (w : Word). Names w c) (now.home.held p).1 names in
      inl (own ∙ ap Number (sym one))

  pub tended_first : (h : ℕ → Home) (f tk : List ℕ) (t : Skeleton) → IsUnhurt s code root input (opening ws s.processors) h f tk t → AreLow s raised ws
      → IsTended (opening ws s.processors) h f tk t
  tended_first h f tk t now low = record {
    advancing = now.advancing;
    empty = now.empty;
    held = record {
      carried = held_first (opening ws s.processors) h f tk t now;
      rows = λ o. rows_first (spots.view s ws) o s.processors o;
    };
    spare = opening_spares s code fair.code_is s.processors;
    done = λ c lt done. absurd (lost_first s.processors c lt done);
    low = low;
    ones = λ d dead. absurd (now.home.alive d dead);
  }

-- a word that says that its processor is dead, or not
dead_or_not : (w : Word) → IsDead w ⊎ (IsDead w → ⊥)
dead_or_not (Number zero) = inr (λ z. z)
dead_or_not (Number (suc n)) = inl tt
dead_or_not (Empty t) = inr (λ z. z)
dead_or_not (Local t x) = inr (λ z. z)
dead_or_not (Job t x) = inr (λ z. z)
dead_or_not (Taken t x) = inr (λ z. z)
dead_or_not (Held t x) = inr (λ z. z)
dead_or_not (Linked x) = inr (λ z. z)
dead_or_not (Restarts x y) = inr (λ z. z)
dead_or_not Unread = inr (λ z. z)

-- a holder word that is low names a processor that is there
low_names : (s : Shape) (raised : ℕ) (m : Spot → Word) (w : Word) → IsHolderWithin s raised m w → (c : ℕ) × (c < s.processors) × Names w c
low_names s raised m (Held t c) low = (c, low.0, refl)
low_names s raised m (Empty t) low = absurd low
low_names s raised m (Local t x) low = absurd low
low_names s raised m (Job t x) low = absurd low
low_names s raised m (Taken t x) low = absurd low
low_names s raised m (Number x) low = absurd low
low_names s raised m (Linked x) low = absurd low
low_names s raised m (Restarts x y) low = absurd low
low_names s raised m Unread low = absurd low

-- a place that its processor has left is not at work
left_not_at_work : (m : Spot → Word) (p : ℕ) (k : RestartKind) → IsBidder k → IsAtWork m p k → ⊥
left_not_at_work m p (Take2 v) left (inl work) = true≢false (sym work)
left_not_at_work m p (Take2 v) left (inr steals) = steals.1
left_not_at_work m p _ left work = absurd left

-- what is at work has who works there, or who comes to it, or a dead holder
module _ (s : Shape) (code : CodeParts) (places : s.takeover ≡ ByPlaces) (fair : IsFair code) (root : Tree (Frame FrameWord Point) Result) (input : Words)
    (raised : ℕ) (ws : List ℕ) (state : RunState) (h : ℕ → Home) (f tk : List ℕ) (t : Skeleton)
    (now : IsTended s code places fair root input raised ws state h f tk t) (unset : finish_at s state ≡ 0) where
  abbrev m : Spot → Word
  m = spots.view s state.words

  -- who lives is not done
  going : (c : ℕ) → c < s.processors → IsAlive m c → is_done_at (stand_of state c) ≡ false
  going c lt alive = elim (cases_Bool (is_done_at (stand_of state c))) [
    | inr live ↦ live
    | inl done ↦ elim (now.done c lt (done_is (stand_of state c) done)) [ inl set ↦ absurd (set unset) | inr dead ↦ absurd (alive dead) ]
  ]

  pub some_work_is_left : SomeWorkIsLeft s state
  some_work_is_left =
      let p = somewhere s code root input state h f tk t now.advancing now.empty (places_open s.takeover m places) in
      let d = low_names s raised m (m (Holder p.0)) (now.low p.0 p.1) in
      elim (dead_or_not (m (Dead d.0))) [
        | inl dead ↦ inr (inr (p.0, record { there = p.1; at_work = p.2; holder = d.0; held = d.2; dead = dead }))
        | inr alive ↦
            let live = going d.0 d.1 alive in
            elim (now.held.carried p.0 d.0 d.2 alive) [
              | inl carried ↦
                  inl (d.0, record { there = d.1; alive = alive; not_done = live; place = p.0; carried = carried; at_work = p.2 })
              | inr (inl took) ↦
                  inr (inl (d.0, record { there = d.1; alive = alive; not_done = live; place = p.0; took = took; holds = d.2; at_work = p.2 }))
              | inr (inr left) ↦ absurd (left_not_at_work m p.0 (spots.kinds s state.words p.0) left p.2)
            ]
      ]

-- over legs
module _ (code : CodeParts) (input : List NamedArray) (s : Shape) (keeper : ℕ) (im : Image) (places : s.takeover ≡ ByPlaces) (fair : IsFair code)
    (opens : Opens code input s keeper im) (calm : Calm (strands s code) (root_strand code input) (arrays_at (view s im.words))) where
  abbrev pub raised_by : List Leg → ℕ
  raised_by legs = risen code input s keeper im places fair opens calm legs

  pub tended_then : (legs : List Leg) (are : AreLegs s code im.words legs) (turns : List Turn) → AllByRecursion (IsTurnAmong s.processors) turns
      → (t : Skeleton)
      × IsTended s code places fair (root_strand code input) (arrays_at (view s im.words)) (raised_by legs) (words_then s code im.words legs)
      (last_state s code im.words legs turns) (all_homes s code im.words legs turns) (all_forked s code im.words legs turns)
      (all_taken s code im.words legs turns) t
  tended_then legs are turns among =
      let root = root_strand code input in
      let arrays = arrays_at (view s im.words) in
      let back = words_then s code im.words legs in
      let begins = unhurt_then code input s keeper im places fair opens calm legs are in
      let h = homes_then s code im.words legs in
      let f = forked_then s code im.words legs in
      let tk = taken_then s code im.words legs in
      let low = begins_low code input s keeper im places fair opens calm legs are in
      let first = tended_first s code places fair root arrays (raised_by legs) back h f tk begins.0 begins.1 low in
      all_tended s code places fair root arrays (raised_by legs) back [] (opening back s.processors) refl h f tk begins.0 first turns among

pub nothing_is_lost_over_legs : NothingIsLostOverLegs
nothing_is_lost_over_legs code input s keeper im places fair opens calm legs are turns among unset =
    let a = tended_then code input s keeper im places fair opens calm legs are turns among in
    some_work_is_left s code places fair (root_strand code input) (arrays_at (view s im.words)) (raised_by code input s keeper im places fair opens calm legs)
    (words_then s code im.words legs) (last_state s code im.words legs turns) (all_homes s code im.words legs turns) (all_forked s code im.words legs turns)
    (all_taken s code im.words legs turns) a.0 a.1 unset

pub nothing_is_lost : NothingIsLost
nothing_is_lost code input s keeper im places fair opens calm turns among unset =
    nothing_is_lost_over_legs code input s keeper im places fair opens calm [] tt turns among unset

pub held_are_carried : HeldAreCarried
held_are_carried code input s keeper im places fair opens calm legs are turns among =
    (tended_then code input s keeper im places fair opens calm legs are turns among).1.held.carried
