-- Moments of a run, with either takeover, at which a processor takes steps and carries a place; another one's turn leaves it so, and so does a step of its
-- own by which it doesn't move, or the finish word is set.
use Rattle.std.proofs.Common.{◌≡◌, ◌≢◌, ◌⊎◌, ◌<◌, ◌+◌, ◌*◌, ℕ, false, List, [], ◌∷◌, ◌++◌, inl, inr, refl, sym, ap, ◌∙◌, subst, arith, length}
use Rattle.std.specs.List.{AllByRecursion}
use Rattle.std.proofs.lemmas.Bool.{true≢false}
use Rattle.ppm_strands.specs.Tree.{Words, Tree}
use Rattle.ppm_cells.specs.Cells.{place_size}
use Rattle.ppm_cells.specs.Memory.{AreWordsOf}
use Rattle.ppm_cells.specs.declared.restart.Restart.{Restart}
use Rattle.ppm_cells.specs.declared.restart.RestartKind.{RestartKind}
use Rattle.ppm_cells.specs.declared.shape.Shape.{Shape}
use Rattle.ppm_strands.specs.Strand.{Frame}
use Rattle.ppm_code.specs.Strands.{Point, Result}
use Rattle.ppm_code.specs.declared.code.CodeParts.{CodeParts}
use Rattle.ppm_code.specs.declared.location.FrameWord.{FrameWord}
use Rattle.ppm_step.specs.Among.{IsTurnAmong}
use Rattle.ppm_step.specs.Frames.{Installs}
use Rattle.ppm_step.specs.Laws.{finish_at}
use Rattle.ppm_step.specs.Standings.{Standing, IsLost, IsPlaced, IsAt, IsWithin, IsRunning, IsBroken, IsDone}
use Rattle.ppm_step.specs.State.{State as RunState, stand_of, found_in, want_of, stand_after, acts, happens, is_done_at, forks_of, takes_of}
use Rattle.ppm_step.specs.declared.row.Row.TheVariants.{Now, Store}
use Rattle.ppm_step.specs.declared.row.Then.TheVariants.{Install, Fork, Begin, Move}
use Rattle.ppm_step.specs.declared.turn.Act.{Act}
use Rattle.ppm_step.specs.declared.turn.Act.TheVariants.{Step, Hard}
use Rattle.ppm_step.specs.declared.turn.Turn.{Turn}
use Rattle.ppm_step.proofs.ActLemmas.{after_act, acted, acts_live, moved}
use Rattle.ppm_step.proofs.FinishLemmas.{AllSpare, turn_spares}
use Rattle.ppm_step.proofs.StandLemmas.{Spares}
use Rattle.ppm_tickets.specs.Along.{by_act}
use Rattle.ppm_tickets.specs.Homes.{Home}
use Rattle.ppm_tickets.specs.Lawful.{IsAlive}
use Rattle.ppm_tickets.specs.Saw.{Carried, Sees}
use Rattle.ppm_tickets.specs.View as spots
use Rattle.ppm_tickets.specs.Words.{Word, Number, Spot, Holder, Carry}
use Rattle.ppm_frames.specs.Skeletons.{Skeleton}
use Rattle.ppm_kept.specs.Running.{IsFair}
use Rattle.ppm_runs.proofs.JoinLemmas.{stand_else}
use Rattle.ppm_runs.proofs.ShownLemmas.{names_one}
use Rattle.ppm_progress.specs.Works.{HurtsNone}
use Rattle.ppm_progress.proofs.AdvanceRuns.{IsAdvancing}
use Rattle.ppm_progress.proofs.RestartLemmas.{restart_goes_on}
use Rattle.ppm_progress.proofs.SpotLemmas.{carry_goes}
use Rattle.ppm_progress.proofs.UnhurtRuns.{IsUnhurt, step}
use Rattle.ppm_progress.proofs.WriteLemmas.{Gives, MovesTo, StoresAt, Wrote, turn_wrote}

abbrev pub number_of : Word → ℕ
number_of (Number n) = n
number_of _ = 0

pub some_words : (s : Shape) (words : List ℕ) → AreWordsOf s words → 0 < length words
some_words s words are = positive s.processors (s.processors * place_size s) s.arrays (length words) are
  where
    positive : (p x m n : ℕ) → n ≡ 1 + 2 * p + x + m → 0 < n
    positive p x m n e = omega (arith, e)

spares_going : (s : Shape) (x : Standing) → Spares s x → is_done_at x ≡ false
spares_going s IsLost a = refl
spares_going s (IsPlaced q) a = refl
spares_going s (IsAt q re) a = refl
spares_going s (IsWithin seat row) a = refl
spares_going s (IsRunning seat rest) a = refl
spares_going s (IsBroken q) a = refl
spares_going s IsDone a = absurd a

module _ (s : Shape) (code : CodeParts) (fair : IsFair code) (root : Tree (Frame FrameWord Point) Result) (input : Words) where
  -- a moment of a run
  pub record IsMoment (state : RunState) : Type 0 where
    pub homes : ℕ → Home
    pub forked : List ℕ
    pub taken : List ℕ
    pub tree : Skeleton
    pub advancing : IsAdvancing s code root input state homes forked taken tree
    pub spare : AllSpare s code fair.code_is state

  -- each one along these turns
  abbrev pub AreMoments : RunState → List Turn → Type 0
  AreMoments state [] = IsMoment state
  AreMoments state (turn ∷ more) = IsMoment state × AreMoments (happens s code state turn) more

  pub first_moment : (state : RunState) (turns : List Turn) → AreMoments state turns → IsMoment state
  first_moment state [] are = are
  first_moment state (turn ∷ more) are = are.0

  -- without hard faults
  pub unhurt_moments : (state : RunState) (h : ℕ → Home) (f tk : List ℕ) (t : Skeleton) → IsUnhurt s code root input state h f tk t
      → AllSpare s code fair.code_is state
      → (turns : List Turn) → AllByRecursion (IsTurnAmong s.processors) turns → AllByRecursion HurtsNone turns → AreMoments state turns
  unhurt_moments state h f tk t now spare [] among none =
      record { homes = h; forked = f; taken = tk; tree = t; advancing = now.advancing; spare = spare }
  unhurt_moments state h f tk t now spare (turn ∷ more) among none =
      let next = step s code fair root input state h f tk t now turn among.0 none.0 in (
        record { homes = h; forked = f; taken = tk; tree = t; advancing = now.advancing; spare = spare },
        unhurt_moments (happens s code state turn) (by_act s state.words turn.act (stand_of state turn.processor) h) (forks_of state turn ++ f)
            (takes_of state turn ++ tk) next.0 next.1 (turn_spares s code fair.code_is state turn spare) more among.1 none.1,
      )

  -- processor c takes steps and carries place p
  pub record IsOn (c p : ℕ) (state : RunState) : Type 0 where
    pub moment : IsMoment state
    pub going : is_done_at (stand_of state c) ≡ false
    pub carried : spots.view s state.words (Carry c) ≡ Number p

  module _ (state : RunState) (now : IsMoment state) where
    abbrev m : Spot → Word
    m = spots.view s state.words

    abbrev K : ℕ → RestartKind
    K = spots.kinds s state.words

    pub sees_at : (d : ℕ) (x : Standing) → stand_of state d ≡ x → Sees s m K (spots.bottoms s state.words) d x
    sees_at d x e = subst (Sees s m K (spots.bottoms s state.words) d) e (now.advancing.run.halves.lawful.1.sees d)

    alive_of : (d : ℕ) (x : Standing) → Sees s m K (spots.bottoms s state.words) d x → is_done_at x ≡ false → IsAlive m d
    alive_of d IsLost sees live = sees.alive
    alive_of d (IsPlaced q) sees live = sees.lives.alive
    alive_of d (IsAt q re) sees live = sees.0.lives.alive
    alive_of d (IsWithin seat row) sees live = sees.0.carried.lives.alive
    alive_of d (IsRunning seat rest) sees live = sees.0.carried.lives.alive
    alive_of d (IsBroken q) sees live = sees.alive
    alive_of d IsDone sees live = absurd (true≢false live)

    -- who takes steps lives
    pub alive_at : (d : ℕ) → is_done_at (stand_of state d) ≡ false → IsAlive m d
    alive_at d live = alive_of d (stand_of state d) (sees_at d (stand_of state d) refl) live

    pub wrote_at : (turn : Turn) → turn.processor < s.processors
        → Wrote s code state.words turn.act (stand_of state turn.processor) (happens s code state turn).words
    wrote_at turn lt =
        let run = now.advancing.run in
        turn_wrote s code fair root input state now.homes now.forked now.taken [] now.tree run.halves run.joint.agrees turn lt

    -- who gives a place a restart carries it, and so does who stores in a row there
    pub gives_carried : (d q : ℕ) (act : Act) (x : Standing) (re : Restart) → stand_of state d ≡ x → Gives act x q re → Carried s m d q
    gives_carried d q (Step v) (IsWithin seat (Now (Install r))) re e gives =
        subst (Carried s m d) gives.0 (sees_at d (IsWithin seat (Now (Install r))) e).0.carried
    gives_carried d q (Step v) (IsWithin seat (Now (Fork r))) re e gives =
        subst (Carried s m d) gives.0 (sees_at d (IsWithin seat (Now (Fork r))) e).0.carried
    gives_carried d q (Step v) (IsWithin seat (Now (Begin r g b))) re e gives =
        subst (Carried s m d) gives.0 (sees_at d (IsWithin seat (Now (Begin r g b))) e).0.carried
    gives_carried d q (Step v) (IsRunning seat (Installs kind)) re e gives =
        subst (Carried s m d) gives.0 (sees_at d (IsRunning seat (Installs kind)) e).0.carried
    gives_carried d q act _ re e gives = absurd gives

    pub stores_carried : (d q : ℕ) (x : Standing) → stand_of state d ≡ x → StoresAt x q → Carried s m d q
    stores_carried d q (IsWithin seat (Store cell content next)) e at =
        subst (Carried s m d) at (sees_at d (IsWithin seat (Store cell content next)) e).0.carried
    stores_carried d q _ e at = absurd at

    -- who moves moves itself
    pub moves_own : (d e q : ℕ) (act : Act) (x : Standing) → stand_of state d ≡ x → MovesTo act x e q → e ≡ d
    moves_own d e q (Step v) (IsWithin seat (Now (Move r))) is moves = sym moves.0 ∙ (sees_at d (IsWithin seat (Now (Move r))) is).0.own
    moves_own d e q act _ is moves = absurd moves

  module _ (c p : ℕ) (there : c < s.processors) (state : RunState) (now : IsOn c p state) where
    alive : IsAlive (spots.view s state.words) c
    alive = alive_at state now.moment c now.going

    pub own_place : (q : ℕ) → Carried s (spots.view s state.words) c q → p ≡ q
    own_place q carried = ap number_of (sym now.carried ∙ carried.carry)

    -- nobody else carries that place
    pub own_carrier : (d : ℕ) → Carried s (spots.view s state.words) d p → d ≡ c
    own_carrier d other =
        let held = now.moment.advancing.run.halves.lawful.1.holding.held in
        names_one (spots.view s state.words (Holder p)) d c (held d p other.lives.alive other.carry) (held c p alive now.carried)

    pub others_keep_kind : (turn : Turn) → turn.processor < s.processors → turn.processor ≢ c
        → spots.kinds s (happens s code state turn).words p ≡ spots.kinds s state.words p
    others_keep_kind turn lt ne =
        elim (restart_goes_on s code state.words now.moment.advancing.run.halves.lawful.0 turn.act (stand_of state turn.processor)
        (happens s code state turn).words (wrote_at state now.moment turn lt) p) [
          | inl same ↦ ap (λ (x : Restart). x.kind) same
          | inr new ↦
              absurd (ne (own_carrier turn.processor
              (gives_carried state now.moment turn.processor p turn.act (stand_of state turn.processor) new.0 refl new.1)))
        ]

    carries_then : (turn : Turn) → turn.processor < s.processors → ((q : ℕ) → MovesTo turn.act (stand_of state turn.processor) c q → ⊥)
        → spots.view s (happens s code state turn).words (Carry c) ≡ Number p
    carries_then turn lt stays =
        elim (carry_goes s code state.words now.moment.advancing.run.halves.lawful.0 turn.act (stand_of state turn.processor)
        (happens s code state turn).words (wrote_at state now.moment turn lt) c) [
          | inl same ↦ same ∙ now.carried
          | inr away ↦ absurd (stays away.0 away.1)
        ]

    pub other_here : (turn : Turn) → turn.processor < s.processors → turn.processor ≢ c → IsMoment (happens s code state turn)
        → IsOn c p (happens s code state turn)
    other_here turn lt ne next = record {
      moment = next;
      going = ap is_done_at (stand_else s code state turn.processor c turn.act (stand_of state turn.processor) (λ z. ne (sym z))) ∙ now.going;
      carried = carries_then turn lt
          (λ q moves. ne (sym (moves_own state now.moment turn.processor c q turn.act (stand_of state turn.processor) refl moves)));
    }

    -- a step of its own
    module _ (v : ℕ) where
      abbrev x : Standing
      x = stand_of state c

      abbrev next : Standing
      next = stand_after s code c (Step v) (found_in state.words (want_of s code c (Step v) x)) x

      abbrev Goes : RunState → Type 0
      Goes z = (is_done_at (stand_of z c) ≡ false) ⊎ (finish_at s z ≢ 0)

      goes_live : Spares s x → Goes (acted s code fair.code_is state c (Step v) x)
      goes_live live = elim (moved s code fair.code_is state.stand c c next) [
        | inr same ↦ inl (ap is_done_at same ∙ now.going)
        | inl stood ↦ elim (after_act s code fair.code_is c (Step v) state.words x live) [
          | inl spares ↦ inl (ap is_done_at stood.1 ∙ spares_going s next spares)
          | inr done ↦ elim done.1 [
            | inl hard ↦ absurd (let e : Step v ≡ Hard = hard in cc)
            | inr some ↦ inr (some (some_words s state.words now.moment.advancing.run.halves.lawful.0))
          ]
        ]
      ]

      pub goes_on : Goes (acts s code state c (Step v) x)
      goes_on = elim (now.moment.spare c) [
        | inl live ↦ subst Goes (sym (acts_live s code fair.code_is state c (Step v) x live)) (goes_live live)
        | inr done ↦ absurd (true≢false (sym (ap is_done_at done) ∙ now.going))
      ]

      pub own_here : ((q : ℕ) → MovesTo (Step v) x c q → ⊥) → IsMoment (happens s code state (record { processor = c; act = Step v }))
          → IsOn c p (happens s code state (record { processor = c; act = Step v }))
          ⊎ (finish_at s (happens s code state (record { processor = c; act = Step v })) ≢ 0)
      own_here stays then_ = elim goes_on [
        | inr set ↦ inr set
        | inl going ↦ inl (record { moment = then_; going = going; carried = carries_then (record { processor = c; act = Step v }) there stays })
      ]
