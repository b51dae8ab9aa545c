-- Along a run each processor keeps its pace.
use Rattle.std.proofs.Common.{◌≡◌, ◌≢◌, ◌<◌, ℕ, zero, suc, ◌==◌, if◌then◌else◌, Bool, true, false, List, [], ◌∷◌, replicate, refl, sym, ap, ◌∙◌, subst, arith}
use Rattle.std.specs.Prelude.{slice_get, slice_set}
use Rattle.std.proofs.lemmas.Bool.{eqb-true, eq-eqb}
use Rattle.ppm_cells.specs.declared.shape.Shape.{Shape}
use Rattle.ppm_code.specs.Code.{IsCode}
use Rattle.ppm_code.specs.declared.code.CodeParts.{CodeParts}
use Rattle.ppm_step.specs.Standings.{Standing, IsLost, IsPlaced, IsAt, IsWithin, IsRunning, IsBroken, IsDone}
use Rattle.ppm_step.specs.State.{State, stand_in, stand_of, found_in, want_of, stand_after, acts, happens, after, opening, is_done_at}
use Rattle.ppm_step.specs.declared.turn.Act.{Act}
use Rattle.ppm_step.specs.declared.turn.Act.TheVariants.{Step, Soft, Hard, Quit}
use Rattle.ppm_step.specs.declared.turn.Turn.{Turn}
use Rattle.ppm_paces.specs.Paces.{Paces, made_then, made_behind, made_in, RowsKeepPace}
use Rattle.ppm_paces.proofs.PaceLemmas.{Keeps, idle_keeps, step_keeps, soft_keeps, hard_keeps, quit_keeps}

-- where processors stand that are set
pub stand_own : (l : List Standing) (c : ℕ) (x : Standing) → stand_in (slice_get l c) ≢ IsDone → stand_in (slice_get (slice_set l c x) c) ≡ x
stand_own [] c x live = absurd (live refl)
stand_own (y ∷ l) zero x live = refl
stand_own (y ∷ l) (suc c) x live = stand_own l c x live

pub stand_other : (l : List Standing) (c d : ℕ) (x : Standing) → d ≢ c → stand_in (slice_get (slice_set l c x) d) ≡ stand_in (slice_get l d)
stand_other [] c d x ne = refl
stand_other (y ∷ l) zero zero x ne = absurd (ne refl)
stand_other (y ∷ l) zero (suc d) x ne = refl
stand_other (y ∷ l) (suc c) zero x ne = refl
stand_other (y ∷ l) (suc c) (suc d) x ne = stand_other l c d x (λ e. ne (ap suc e))

lost_there : (n c : ℕ) → c < n → stand_in (slice_get (replicate n IsLost) c) ≡ IsLost
lost_there zero c less = absurd (omega (arith, less))
lost_there (suc n) zero less = refl
lost_there (suc n) (suc c) less = lost_there n c (omega (arith, less))

module _ (s : Shape) (code : CodeParts) (is : IsCode code) where
  -- an act, by where it leaves the processor
  after_keeps : (c found made : ℕ) (act : Act) (x : Standing) → is_done_at x ≡ false → Paces s made x → Keeps s code is c made act x (stand_after s code c act found x)
  after_keeps c found made (Step v) x live p = step_keeps s code is c v found made x p
  after_keeps c found made Soft x live p = soft_keeps s code is c made x p
  after_keeps c found made Hard x live p = hard_keeps s code is c made x p
  after_keeps c found made (Quit why) x live p = quit_keeps s code is c made why x live p

  -- one that is done does nothing
  done_keeps : (c made : ℕ) (act : Act) → made ≡ 0 → Keeps s code is c made act IsDone IsDone
  done_keeps c made (Step v) none = idle_keeps s code is c made (Step v) none refl
  done_keeps c made Soft none = idle_keeps s code is c made Soft none refl
  done_keeps c made Hard none = idle_keeps s code is c made Hard none refl
  done_keeps c made (Quit why) none = idle_keeps s code is c made (Quit why) none refl

  module _ (state : State) (c made : ℕ) (act : Act) where
    live_keeps : (x : Standing) → stand_of state c ≡ x → is_done_at x ≡ false → Paces s made x
        → Keeps s code is c made act x (stand_in (slice_get (slice_set state.stand c (stand_after s code c act (found_in state.words (want_of s code c act x)) x)) c))
    live_keeps x e live p = subst (Keeps s code is c made act x) (sym (stand_own state.stand c _ (λ d. let z : true ≡ false = sym (ap is_done_at (sym e ∙ d)) ∙ live in cc)))
        (after_keeps c (found_in state.words (want_of s code c act x)) made act x live p)

    act_keeps : (x : Standing) → stand_of state c ≡ x → Paces s made x → Keeps s code is c made act x (stand_of (acts s code state c act x) c)
    act_keeps IsLost e p = live_keeps IsLost e refl p
    act_keeps (IsPlaced place) e p = live_keeps (IsPlaced place) e refl p
    act_keeps (IsAt place r) e p = live_keeps (IsAt place r) e refl p
    act_keeps (IsWithin seat row) e p = live_keeps (IsWithin seat row) e refl p
    act_keeps (IsRunning seat rest) e p = live_keeps (IsRunning seat rest) e refl p
    act_keeps (IsBroken place) e p = live_keeps (IsBroken place) e refl p
    act_keeps IsDone e p = subst (Keeps s code is c made act IsDone) (sym e) (done_keeps c made act p)

  pub turn_keeps : (state : State) (turn : Turn) (made : ℕ) → Paces s made (stand_of state turn.processor)
      → Keeps s code is turn.processor made turn.act (stand_of state turn.processor) (stand_of (happens s code state turn) turn.processor)
  turn_keeps state turn made p = act_keeps state turn.processor made turn.act (stand_of state turn.processor) refl p

  -- the others stand where they stood
  acts_else : (state : State) (c d : ℕ) (act : Act) (x : Standing) → d ≢ c → stand_of (acts s code state c act x) d ≡ stand_of state d
  acts_else state c d act IsDone ne = refl
  acts_else state c d act IsLost ne = stand_other state.stand c d _ ne
  acts_else state c d act (IsPlaced p) ne = stand_other state.stand c d _ ne
  acts_else state c d act (IsAt p r) ne = stand_other state.stand c d _ ne
  acts_else state c d act (IsWithin seat row) ne = stand_other state.stand c d _ ne
  acts_else state c d act (IsRunning seat rest) ne = stand_other state.stand c d _ ne
  acts_else state c d act (IsBroken p) ne = stand_other state.stand c d _ ne

  pub turn_else : (state : State) (turn : Turn) (d : ℕ) → d ≢ turn.processor → stand_of (happens s code state turn) d ≡ stand_of state d
  turn_else state turn d ne = acts_else state turn.processor d turn.act (stand_of state turn.processor) ne

  -- the pace of any processor after a turn
  pub paces_behind : (state : State) (turn : Turn) (d made : ℕ) → Paces s made (stand_of state d) → Paces s (made_behind s code d made state turn) (stand_of (happens s code state turn) d)
  paces_behind state turn d made p = by (turn.processor == d) refl
    where
      by : (b : Bool) → (turn.processor == d) ≡ b
          → Paces s (if b then made_then made turn.act (stand_of state d) (stand_of (happens s code state turn) d) else made) (stand_of (happens s code state turn) d)
      by true e = let same = eqb-true turn.processor d e in
          subst (λ (q : ℕ). Paces s (made_then made turn.act (stand_of state q) (stand_of (happens s code state turn) q)) (stand_of (happens s code state turn) q)) same
          (turn_keeps state turn made (subst (λ (q : ℕ). Paces s made (stand_of state q)) (sym same) p)).pace
      by false e = subst (Paces s made) (sym (turn_else state turn d (λ same. let z : true ≡ false = sym (eq-eqb turn.processor d (sym same)) ∙ e in cc))) p

  along : (d made : ℕ) (state : State) (turns : List Turn) → Paces s made (stand_of state d) → Paces s (made_in s code d made state turns) (stand_of (after s code state turns) d)
  along d made state [] p = p
  along d made state (turn ∷ turns) p = along d (made_behind s code d made state turn) (happens s code state turn) turns (paces_behind state turn d made p)

pub rows_keep_pace : RowsKeepPace
rows_keep_pace s code is words turns d there = along s code is d 0 (opening words s.processors) turns (subst (Paces s 0) (sym (lost_there s.processors d there)) refl)
