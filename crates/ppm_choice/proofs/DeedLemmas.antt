-- The acts of a processor in a run, part by part.
use Rattle.std.proofs.Common.{◌≡◌, ◌≢◌, ◌∙◌, ◌⊎◌, ◌+◌, ◌==◌, ℕ, Bool, true, false, if◌then◌else◌, List, [], ◌∷◌, ◌++◌, length, inl, inr, refl, ap, arith}
use Rattle.std.proofs.lemmas.Bool.{eq-eqb}
use Rattle.std.proofs.lemmas.Bool.Decides.{eqb_tells}
use Rattle.std.proofs.lemmas.List.{length-append}
use Rattle.ppm_cells.specs.declared.shape.Shape.{Shape}
use Rattle.ppm_code.specs.declared.code.CodeParts.{CodeParts}
use Rattle.ppm_step.specs.declared.turn.Turn.{Turn}
use Rattle.ppm_step.specs.State.{State, stand_of, happens, after, along, work_of, is_work_turn}
use Rattle.ppm_choice.specs.Deeds.{Deed, deeds_by, deeds_of, work_by, work_made}
use Rattle.ppm_choice.specs.Obeying.{is_work_deed}
use Rattle.ppm_choice.proofs.TurnsLemmas.{tell_on}

-- how many of them are work turns
abbrev pub count_work : List Deed → ℕ
count_work [] = 0
count_work (deed ∷ deeds) = (if is_work_deed deed then 1 else 0) + count_work deeds

one_or_none : (b : Bool) (c : ℕ) → length (if b then c ∷ [] else []) ≡ (if b then 1 else 0)
one_or_none true c = refl
one_or_none false c = refl

module _ (s : Shape) (code : CodeParts) (c : ℕ) where
  -- the one that a turn of its own is
  abbrev pub deed_at : State → Turn → Deed
  deed_at state turn = record { stood = stand_of state c; act = turn.act }

  -- those of the turns before it, that one, and those of the turns after it
  pub deeds_split : (state : State) (first : List Turn) (turn : Turn) (more : List Turn) → turn.processor ≡ c
      → deeds_of s code c state (first ++ (turn ∷ more))
      ≡ deeds_of s code c state first
      ++ (deed_at (after s code state first) turn ∷ deeds_of s code c (happens s code (after s code state first) turn) more)
  deeds_split state first turn more e =
      tell_on s code (deeds_by c) state first (turn ∷ more)
      ∙ ap (λ b. deeds_of s code c state first
      ++ ((if b then deed_at (after s code state first) turn ∷ [] else []) ++ deeds_of s code c (happens s code (after s code state first) turn) more))
      (eq-eqb turn.processor c e)

  -- its work turns are counted among them
  pub work_is_counted : (state : State) (turns : List Turn) → work_made s code c state turns ≡ count_work (deeds_of s code c state turns)
  work_is_counted state [] = refl
  work_is_counted state (turn ∷ turns) =
      by (turn.processor == c) (eqb_tells turn.processor c) (work_is_counted (happens s code state turn) turns)
    where
      rest : List ℕ
      rest = along s code (work_by c) (happens s code state turn) turns

      deeds : List Deed
      deeds = deeds_of s code c (happens s code state turn) turns

      by : (b : Bool) → ((b ≡ true) × (turn.processor ≡ c)) ⊎ ((b ≡ false) × (turn.processor ≢ c)) → length rest ≡ count_work deeds
          → length ((if b then work_of state turn else []) ++ rest) ≡ count_work ((if b then deed_at state turn ∷ [] else []) ++ deeds)
      by true (inl t) e =
          omega (
            arith,
            length-append (work_of state turn) rest,
            one_or_none (is_work_turn turn.act (stand_of state turn.processor)) turn.processor
                ∙ ap (λ p. if is_work_turn turn.act (stand_of state p) then 1 else 0) t.1,
            e,
          )
      by true (inr t) e = cc (t.0)
      by false (inl t) e = cc (t.0)
      by false (inr t) e = e
