-- Who is done is dead by its word, or the finish word is set.
use Rattle.std.proofs.Common.{◌≡◌, ◌≢◌, ◌⊎◌, ◌<◌, ℕ, zero, suc, List, inl, inr, sym, ap, ◌∙◌, subst, arith}
use Rattle.std.proofs.Common.{replicate}
use Rattle.std.specs.Prelude.{slice_get}
use Rattle.std.proofs.lemmas.Bool.{cases_eq, lt-ltb}
use Rattle.ppm_cells.specs.Memory.{AreWordsOf}
use Rattle.ppm_cells.specs.declared.shape.Shape.{Shape}
use Rattle.ppm_code.specs.declared.code.CodeParts.{CodeParts}
use Rattle.ppm_step.specs.Laws.{reached, finish_at}
use Rattle.ppm_step.specs.Standings.{Standing, IsLost, IsDone}
use Rattle.ppm_step.specs.State.{State as RunState, stand_in, stand_of, found_in, words_after, want_of, stand_after, happens}
use Rattle.ppm_step.specs.declared.turn.Act.{Act}
use Rattle.ppm_step.specs.declared.turn.Act.TheVariants.{Hard}
use Rattle.ppm_step.specs.declared.turn.Turn.{Turn}
use Rattle.ppm_step.proofs.ActLemmas.{after_act, acted, acts_live, moved}
use Rattle.ppm_step.proofs.StandLemmas.{Spares, no_done}
use Rattle.ppm_tickets.specs.Lawful.{IsDead}
use Rattle.ppm_tickets.specs.View.{view}
use Rattle.ppm_tickets.specs.Words.{Dead}
use Rattle.ppm_tickets.proofs.ViewLemmas.{view_here}
use Rattle.ppm_kept.specs.Running.{IsFair}
use Rattle.ppm_runs.proofs.BoundLemmas.{finish_still}
use Rattle.ppm_runs.proofs.JoinLemmas.{stand_else}
use Rattle.ppm_progress.proofs.MomentLemmas.{some_words}
use Rattle.ppm_progress.proofs.WriteLemmas.{Wrote}
use Rattle.ppm_progress.proofs.SpotLemmas.{dead_goes}

-- of a state
abbrev pub DoneHaveCause : Shape → RunState → Type 0
DoneHaveCause s state = (c : ℕ) → c < s.processors → stand_of state c ≡ IsDone → (finish_at s state ≢ 0) ⊎ IsDead (view s state.words (Dead c))

module _ (s : Shape) (code : CodeParts) (fair : IsFair code) (ws : List ℕ) (first : List Turn) (state : RunState) (on : state ≡ reached s code ws first)
    (fit : AreWordsOf s state.words) (turn : Turn) (among : turn.processor < s.processors)
    (wrote : Wrote s code state.words turn.act (stand_of state turn.processor) (happens s code state turn).words)
    (spare : (q : ℕ) → Spares s (stand_of state q) ⊎ (stand_of state q ≡ IsDone)) (so_far : DoneHaveCause s state) where
  abbrev c : ℕ
  c = turn.processor

  abbrev x : Standing
  x = stand_of state c

  abbrev Cause : RunState → ℕ → Type 0
  Cause z q = (finish_at s z ≢ 0) ⊎ IsDead (view s z.words (Dead q))

  -- who was done before
  before : (q : ℕ) → q < s.processors → stand_of state q ≡ IsDone → Cause (happens s code state turn) q
  before q lt done = elim (so_far q lt done) [
    | inl set ↦ inl (finish_still s code fair ws first state on turn set)
    | inr dead ↦ inr (dead_goes s code state.words fit turn.act x (happens s code state turn).words wrote q dead)
  ]

  -- who comes to be done
  module _ (live : Spares s x) where
    abbrev next : Standing
    next = stand_after s code c turn.act (found_in state.words (want_of s code c turn.act x)) x

    dies : turn.act ≡ Hard → IsDead (view s (words_after state.words (want_of s code c turn.act x)) (Dead c))
    dies hard =
        subst (λ (a : Act). IsDead (view s (words_after state.words (want_of s code c a x)) (Dead c))) (sym hard)
        (subst IsDead (sym (view_here s state.words (Dead c) 1 fit (lt-ltb c s.processors among))) tt)

    comes : next ≡ IsDone → Cause (acted s code fair.code_is state c turn.act x) c
    comes done = elim (after_act s code fair.code_is c turn.act state.words x live) [
      | inl spares ↦ absurd (no_done s next spares done)
      | inr by ↦ elim by.1 [
        | inl hard ↦ inr (dies hard)
        | inr some ↦ inl (some (some_words s state.words fit))
      ]
    ]

    own : stand_of (acted s code fair.code_is state c turn.act x) c ≡ IsDone → Cause (acted s code fair.code_is state c turn.act x) c
    own done = elim (moved s code fair.code_is state.stand c c next) [
      | inl there ↦ comes (sym there.1 ∙ done)
      | inr same ↦ absurd (no_done s x live (sym same ∙ done))
    ]

  pub done_after : DoneHaveCause s (happens s code state turn)
  done_after q lt done = elim (cases_eq q c) [
    | inr ne ↦ before q lt (sym (stand_else s code state c q turn.act x ne) ∙ done)
    | inl one ↦ elim (spare c) [
      | inr was ↦ before q lt (ap (stand_of state) one ∙ was)
      | inl live ↦
          let mine = ap (stand_of (happens s code state turn)) (sym one) ∙ done in
          let e = acts_live s code fair.code_is state c turn.act x live in
          subst (λ (n : ℕ). Cause (happens s code state turn) n) (sym one)
          (subst (λ (z : RunState). stand_of z c ≡ IsDone → Cause z c) (sym e) (own live) mine)
    ]
  ]

-- none is where a run opens
pub lost_first : (n q : ℕ) → q < n → stand_in (slice_get (replicate n IsLost) q) ≡ IsDone → ⊥
lost_first zero q lt done = absurd (omega (arith, lt))
lost_first (suc n) zero lt done = let e : IsLost ≡ IsDone = done in cc
lost_first (suc n) (suc q) lt done = lost_first n q (omega (arith, lt)) done
