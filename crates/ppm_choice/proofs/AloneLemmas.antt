-- The run of a processor that acts alone.
use Rattle.std.proofs.Common.{◌≡◌, ◌∙◌, ℕ, if◌then◌else◌, List, [], ◌∷◌, ◌++◌, refl, sym, ap, subst}
use Rattle.std.proofs.lemmas.Bool.{eq-eqb}
use Rattle.ppm_cells.specs.declared.shape.Shape.{Shape}
use Rattle.ppm_code.specs.declared.code.CodeParts.{CodeParts}
use Rattle.ppm_plan.specs.Schedules.{Planned}
use Rattle.ppm_step.specs.declared.turn.Turn.{Turn}
use Rattle.ppm_step.specs.State.{State, stand_of, happens, after}
use Rattle.ppm_choice.specs.declared.limits.Limits.{Limits}
use Rattle.ppm_choice.specs.Deeds.{Deed, deeds_of, AreOf}
use Rattle.ppm_choice.specs.Obeying.{Past, behind, next_act, awake, Stops, Obeys}

-- the deed that a turn is
abbrev pub deed_of : (processor : ℕ) → State → Turn → Deed
deed_of processor state turn = record { stood = stand_of state processor; act = turn.act }

module _ (s : Shape) (code : CodeParts) where
  -- a turn of this processor comes first among its deeds
  first_deed : (processor : ℕ) (state : State) (turn : Turn) (turns : List Turn) → turn.processor ≡ processor
      → deeds_of s code processor state (turn ∷ turns)
      ≡ deed_of processor state turn ∷ deeds_of s code processor (happens s code state turn) turns
  first_deed processor state turn turns e =
      ap (λ b. (if b then deed_of processor state turn ∷ [] else []) ++ deeds_of s code processor (happens s code state turn) turns)
      (eq-eqb turn.processor processor e)

  module _ (plan : Planned) (limits : Limits) (processor : ℕ) where
    -- it obeys in these turns, with such a past
    abbrev pub ObeysFrom : Past → State → List Turn → Type 0
    ObeysFrom past state turns =
        Obeys plan limits processor past (deeds_of s code processor state turns) (stand_of (after s code state turns) processor)

    -- what is done after the first turn
    abbrev pub past_first : Past → State → Turn → Past
    past_first past state turn = behind (awake plan limits processor past (stand_of state processor)) (deed_of processor state turn)

    -- the first turn and those after it
    abbrev pub FirstObeys : Past → State → Turn → List Turn → Type 0
    FirstObeys past state turn turns =
        (¬ Stops plan limits processor past (stand_of state processor))
        × (turn.act ≡ next_act plan limits processor past (stand_of state processor))
        × ObeysFrom (past_first past state turn) (happens s code state turn) turns

    pub first_obeys : (past : Past) (state : State) (turn : Turn) (turns : List Turn) → turn.processor ≡ processor
        → ObeysFrom past state (turn ∷ turns) → FirstObeys past state turn turns
    first_obeys past state turn turns e =
        subst (λ deeds. Obeys plan limits processor past deeds (stand_of (after s code (happens s code state turn) turns) processor))
        (first_deed processor state turn turns e)

    pub begins_with : (past : Past) (state : State) (turn : Turn) (turns : List Turn) → turn.processor ≡ processor
        → FirstObeys past state turn turns → ObeysFrom past state (turn ∷ turns)
    begins_with past state turn turns e =
        subst (λ deeds. Obeys plan limits processor past deeds (stand_of (after s code (happens s code state turn) turns) processor))
        (sym (first_deed processor state turn turns e))

    same_turn : (state : State) (past : Past) (t u : Turn) → t.processor ≡ processor → u.processor ≡ processor
        → t.act ≡ next_act plan limits processor past (stand_of state processor)
        → u.act ≡ next_act plan limits processor past (stand_of state processor) → t ≡ u
    same_turn state past t u p q a b =
        let processors : t.processor ≡ u.processor = p ∙ sym q in
        let acts : t.act ≡ u.act = a ∙ sym b in
        λ i. record { processor = processors i; act = acts i }

    -- there is one run
    pub one_run : (past : Past) (state : State) (a b : List Turn) → AreOf processor a → AreOf processor b
        → ObeysFrom past state a → ObeysFrom past state b → a ≡ b
    one_run past state [] [] own other x y = refl
    one_run past state [] (u ∷ us) own other x y = absurd ((first_obeys past state u us other.0 y).0 x)
    one_run past state (t ∷ ts) [] own other x y = absurd ((first_obeys past state t ts own.0 x).0 y)
    one_run past state (t ∷ ts) (u ∷ us) own other x y =
        let first = first_obeys past state t ts own.0 x in
        let second = first_obeys past state u us other.0 y in
        let same = same_turn state past t u own.0 other.0 first.1 second.1 in
        let rest =
        subst (λ w. ObeysFrom (past_first past state w) (happens s code state w) us) (sym same) second.2 in
        ap (λ w. w ∷ ts) same
        ∙ ap (λ l. u ∷ l) (one_run (past_first past state t) (happens s code state t) ts us own.1 other.1 first.2 rest)
