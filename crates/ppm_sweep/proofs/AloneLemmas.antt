-- One schedule of a sweep.
use Rattle.std.proofs.Common.{◌≡◌, sym, ap, subst, arith, ℕ, ◌+◌, nat_le, Bool, true, false, not, cond, ◌∙◌, refl, List, [], ◌∷◌, ◌++◌, length, length-append, Result, Ok, Err, OnOk, IfErr}
use Rattle.ppm_words.specs.declared.outcome.Outcome.{Outcome}
use Rattle.ppm_plan.specs.Refusals.{item_limit}
use Rattle.ppm_core.specs.Machine.{seen}
use Rattle.ppm_core.specs.Situation.{Situation}
use Rattle.ppm_choice.specs.Schedules.{schedule_turns}
use Rattle.ppm_following.specs.Followed.{followed}
use Rattle.ppm_sweep.specs.declared.found.Differing.{Differing}
use Rattle.ppm_sweep.specs.declared.found.Stop.{Stop}
use Rattle.ppm_sweep.specs.declared.found.Stop.TheVariants.{Differs, NoMemory}
use Rattle.ppm_sweep.specs.declared.found.Tally.{Tally}
use Rattle.ppm_sweep.specs.Found.{short, left_out, Stops, Finds}
use Rattle.ppm_sweep.specs.Meets.{Meets}
use Rattle.ppm_sweep.specs.Sweep.{Place, Swept, alone, is_short}
use Rattle.ppm_sweep.proofs.FoundLemmas.{counted}

-- want of memory says nothing
pub memory_stops : (m : Situation) (turns : ℕ) (wanted : Outcome) (swept : List Swept) (stop : Stop) → stop ≡ NoMemory → Stops m turns wanted swept stop
memory_stops m turns wanted swept stop e = subst (Stops m turns wanted swept) (sym e) tt

module _ (m : Situation) (turns : ℕ) (wanted : Outcome) (faults : ℕ) (p : Place) where
  -- its schedule
  abbrev pub one : Swept
  one = alone faults p

  -- whether it is short, as the lists before and after its place say
  is_short_by : (b : Bool) → nat_le (length p.front + length p.rest) item_limit ≡ b → is_short one ≡ b
  is_short_by b e = ap (λ n. nat_le n item_limit) (length-append p.front p.rest) ∙ e

  short_is : (b : Bool) → is_short one ≡ b → short (one ∷ []) ≡ cond b (one ∷ []) []
  short_is b e = ap (λ x. cond x (one ∷ []) []) e

  left_is : (b : Bool) → is_short one ≡ b → left_out (one ∷ []) ≡ cond (not b) (one ∷ []) []
  left_is b e = ap (λ x. cond (not x) (one ∷ []) []) e

  -- it has too many items, and is counted as left out
  pub too_many : nat_le (length p.front + length p.rest) item_limit ≡ false → (t u : Tally) (r : Result Unit Stop) → OnOk r (u.left ≡ t.left + 1)
      → (u.runs ≡ t.runs) × (u.met ≡ t.met) × (u.acts ≡ t.acts) → IfErr r (λ e. e ≡ NoMemory) → Finds m turns wanted (one ∷ []) t u r
  too_many e t u (Ok x) a others b =
      let long = is_short_by false e in
      counted m turns wanted (one ∷ []) [] (one ∷ []) t u (short_is false long) (left_is false long) tt
      (omega (arith, others.0)) (omega (arith, others.1)) (omega (arith, others.2)) a
  too_many e t u (Err stop) a others b = memory_stops m turns wanted (one ∷ []) stop b

  -- it comes to something else
  pub alone_differs : nat_le (length p.front + length p.rest) item_limit ≡ true → (d : Differing) → d.items.items ≡ p.front ++ p.rest
      → seen d.machine ≡ followed m (p.front ++ p.rest) turns → ¬ Meets wanted (seen d.machine) → (t u : Tally)
      → Finds m turns wanted (one ∷ []) t u (Err (Differs d))
  alone_differs e d items machine differs t u = record {
    before = [];
    first = one;
    after = [];
    swept_are = refl;
    few = is_short_by true e;
    all = tt;
    items = items;
    machine = machine;
    differs = λ h. differs (subst (Meets wanted) (sym machine) h);
  }

  -- it comes to the outcome, and is counted
  pub alone_comes : nat_le (length p.front + length p.rest) item_limit ≡ true → (n : Situation) → n ≡ followed m (p.front ++ p.rest) turns
      → Meets wanted n → n.turns ≡ length (schedule_turns m.shape m.code m.state (p.front ++ p.rest) turns) → (t u : Tally) (r : Result Unit Stop)
      → OnOk r (u.runs ≡ t.runs + 1) → OnOk r (u.met ≡ t.met + faults) → OnOk r (u.acts ≡ t.acts + n.turns) → u.left ≡ t.left
      → IfErr r (λ e. e ≡ NoMemory) → Finds m turns wanted (one ∷ []) t u r
  alone_comes e n is meets acts t u (Ok x) a b c d f =
      let few = is_short_by true e in
      counted m turns wanted (one ∷ []) (one ∷ []) [] t u (short_is true few) (left_is true few) (subst (Meets wanted) is meets, tt)
      a (omega (arith, b)) (omega (arith, c, acts)) (omega (arith, d))
  alone_comes e n is meets acts t u (Err stop) a b c d f = memory_stops m turns wanted (one ∷ []) stop f
