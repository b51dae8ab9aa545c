-- The steps of a RAM one after another: what is left to do tells what there was.
use Rattle.std.proofs.Common.{◌≡◌, ◌∙◌, ◌⊎◌, inl, inr, ℕ, suc, ◌+◌, ◌<◌, ◌≤◌, ℤ, List, Option, Result, Ok, Err, IfOk, refl, sym, ap, subst, arith}
use Rattle.ppm_words.specs.declared.outcome.Outcome.{Outcome}
use Rattle.ppm_words.specs.declared.outcome.Outcome.TheVariants as outcome
use Rattle.std.specs.Prelude.{slice_get}
use Rattle.ppm_ram.specs.declared.instruction.Instruction.{Instruction}
use Rattle.ppm_ram.specs.declared.ram.RamParts.{RamParts}
use Rattle.ppm_ram.specs.Program.{memory_of}
use Rattle.ppm_ram.specs.Meaning.{State, End, Move, GoesOn, Stops, done, step, EndsIn, Last, Further, begins, said_of, IsWithin, IsNotWithin, IsRunOf}

-- after so many steps from its beginning a RAM is in a state: it ends from there exactly where it ends from the beginning
pub record HasCome (r : RamParts) (steps : ℕ) (s : State) : Type 0 where
  pub forward : (k : ℕ) (e : End) → EndsIn r s k e → EndsIn r (begins (memory_of r)) (steps + k) e
  pub back : (k : ℕ) (e : End) → EndsIn r (begins (memory_of r)) k e → (j : ℕ) × (k ≡ steps + j) × EndsIn r s j e

pub at_first : (r : RamParts) → HasCome r 0 (begins (memory_of r))
at_first r = record {
  forward = λ k e h. subst (λ n. EndsIn r (begins (memory_of r)) n e) (omega arith) h;
  back = λ k e h. (k, omega arith, h);
}

-- what a state leads to tells how many steps there are
abbrev Goes : Move → Type 0
Goes (GoesOn t) = Unit {0}
Goes (Stops e) = ⊥

moves_differ : {s : State} {e : End} → GoesOn s ≡ Stops e → ⊥
moves_differ h = subst Goes h tt

abbrev state_in : State → Move → State
state_in s (GoesOn t) = t
state_in s (Stops e) = s

abbrev end_in : End → Move → End
end_in d (GoesOn t) = d
end_in d (Stops e) = e

module _ (r : RamParts) where
  -- one step less
  pub further_back : (s t : State) (k : ℕ) (e : End) → step r s ≡ GoesOn t → EndsIn r s k e → (j : ℕ) × (k ≡ suc j) × EndsIn r t j e
  further_back s t _ e goes (Last _ _ stops) = absurd (moves_differ (sym goes ∙ stops))
  further_back s t _ e goes (Further _ u j _ on rest) =
      (j, refl, subst (λ (v : State). EndsIn r v j e) (ap (state_in s) (sym on ∙ goes)) rest)

  -- the last step
  pub last_back : (s : State) (d : End) (k : ℕ) (e : End) → step r s ≡ Stops d → EndsIn r s k e → (k ≡ 1) × (e ≡ d)
  last_back s d _ e stops (Last _ _ h) = (refl, ap (end_in e) (sym h ∙ stops))
  last_back s d _ e stops (Further _ u j _ on rest) = absurd (moves_differ (sym on ∙ stops))

  -- a RAM takes a step at least
  pub some_step : (s : State) (k : ℕ) (e : End) → EndsIn r s k e → 1 ≤ k
  some_step s _ e (Last _ _ h) = omega arith
  some_step s _ e (Further _ u j _ on rest) = omega arith

  pub one_further : (steps : ℕ) (s t : State) → HasCome r steps s → step r s ≡ GoesOn t → HasCome r (steps + 1) t
  one_further steps s t h goes = record {
    forward = λ k e rest. subst (λ n. EndsIn r (begins (memory_of r)) n e) (omega arith) (h.forward (suc k) e (Further s t k e goes rest));
    back = λ k e all.
        let (j, is, rest) = h.back k e all in
        let (i, more, last) = further_back s t j e goes rest in
        (i, omega (arith, is, more), last);
  }

  -- the end
  pub ended : (steps limit : ℕ) (s : State) (e : End) (o : Outcome) → HasCome r steps s → step r s ≡ Stops e → steps < limit → o ≡ said_of e
      → IsRunOf r limit o
  ended steps limit s e o h stops less told =
      inl (record { end = e; steps = steps + 1; ends = h.forward 1 e (Last s e stops); within = omega (arith, less); told = told })

  pub not_ended : (steps : ℕ) (s : State) (o : Outcome) → HasCome r steps s → o ≡ outcome.NotWithin → IsRunOf r steps o
  not_ended steps s o h told =
      inr (record {
        more = λ k e all. let (j, is, rest) = h.back k e all in let some = some_step s j e rest in omega (arith, is, some);
        told = told;
      })

-- what holds of an answer, by what it tells
pub told_by : {E : Type 0} (P Q : Outcome → Type 0) (answer : Result Outcome E) → ((o : Outcome) → P o → Q o) → IfOk answer P → IfOk answer Q
told_by P Q (Ok o) go h = go o h
told_by P Q (Err e) go h = tt

-- a step from a state, by the instruction there
pub step_at : (r : RamParts) (s : State) (i : Option Instruction) → slice_get r.instructions s.at ≡ i → step r s ≡ done s i
step_at r s i e = ap (done s) e
