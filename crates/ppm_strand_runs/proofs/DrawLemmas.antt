-- What is drawn, word by word, and run by run.
use Rattle.std.proofs.Common.{◌≡◌, ◌∙◌, ℕ, zero, suc, ◌+◌, ◌%◌, ◌<◌, Bool, true, false, nat_lt, is_some, List, [], ◌∷◌, ◌++◌, Option, Some, None, refl, ap, sym, subst, arith}
use Rattle.std.proofs.Common.{ltb-true, ltb-false}
use Rattle.std.proofs.lemmas.Bool.{both_ways}
use Rattle.std.proofs.lemmas.List.{append_assoc}
use Rattle.rand_xoshiro.specs.Xoshiro256.{plus_plus}
use Rattle.ppm_words.specs.declared.named_array.NamedArray.{NamedArray}
use Rattle.ppm_plan.specs.declared.strand_item.StrandItem.{StrandItem}
use Rattle.ppm_racy.specs.declared.code.RacyParts.{RacyParts}
use Rattle.ppm_strand_runs.specs.declared.run.StrandRun.{StrandRun}
use Rattle.ppm_strand_runs.specs.Correct.{AreSteps}
use Rattle.ppm_strand_runs.specs.Draws.{step_of, steps_drawn, schedule_drawn, HasStood}
use Rattle.ppm_strand_runs.specs.Run.{IsRunOf}

-- all are steps
pub all_steps : (strands count : ℕ) (s : List ℕ) → AreSteps (steps_drawn strands count s)
all_steps strands zero s = tt
all_steps strands (suc count) s = (tt, all_steps strands count _)

-- a word more, and the step of it
pub one_more : (p n m : ℕ) (s s1 : List ℕ) (u : ℕ) (items more all : List StrandItem) → n ≡ suc m → (u, s1) ≡ plus_plus s
    → more ≡ items ++ step_of (u % p) ∷ [] → items ++ steps_drawn p n s ≡ all → more ++ steps_drawn p m s1 ≡ all
one_more p n m s s1 u items more all e e1 h whole =
    let first : (items ++ step_of (u % p) ∷ []) ++ steps_drawn p m s1 ≡ items ++ step_of (u % p) ∷ steps_drawn p m s1 =
    append_assoc items (step_of (u % p) ∷ []) (steps_drawn p m s1) in
    let begin : items ++ step_of (u % p) ∷ steps_drawn p m s1 ≡ items ++ steps_drawn p (suc m) s =
    ap (λ q. items ++ step_of (q.0 % p) ∷ steps_drawn p m q.1) e1 in
    ap (λ l. l ++ steps_drawn p m s1) h ∙ first ∙ begin ∙ ap (λ k. items ++ steps_drawn p k s) (sym e) ∙ whole

-- an option that is not something
pub not_some : {A : Type 0} (o : Option A) → is_some o ≡ false → o ≡ None
not_some None h = refl
not_some (Some x) h = absurd (both_ways true h refl)

module _ (code : RacyParts) (input : List NamedArray) (seed strands steps turns : ℕ) where
  -- nothing fell in so many runs
  abbrev pub HaveStood : ℕ → Type 0
  HaveStood number = (k : ℕ) → k < number → HasStood code input seed strands steps turns k

  pub none_yet : HaveStood 0
  none_yet k less = absurd (omega (arith, less))

  -- a run more
  pub one_stood : (number : ℕ) (schedule : List StrandItem) (run : StrandRun) → HaveStood number
      → schedule ≡ schedule_drawn code input seed strands steps turns number → IsRunOf code input schedule turns run → run.fall ≡ None → HaveStood (number + 1)
  one_stood number schedule run before drawn is stood k less = by (nat_lt k number) refl
    where
      here : k ≡ number → HasStood code input seed strands steps turns k
      here same = subst (HasStood code input seed strands steps turns) (sym same)
          (record { run = run; is = subst (λ (l : List StrandItem). IsRunOf code input l turns run) drawn is; stood = stood })

      by : (b : Bool) → nat_lt k number ≡ b → HasStood code input seed strands steps turns k
      by true e = before k (ltb-true k number e)
      by false e = here (omega (arith, less, ltb-false k number e))
