-- Each step of a run makes its weight less.
use Rattle.std.proofs.Common.{◌≡◌, ◌<◌, ◌≤◌, ◌+◌, ◌-◌, ℕ, ℤ, pos, Bool, true, false, List, [], ◌∷◌, Option, Some, None, Result, Ok, Err, refl, ap, subst, arith, nat_lt, length, get_or}
use Rattle.std.specs.Prelude.{if◌then◌else◌, ⊤}
use Rattle.std.proofs.lemmas.Bool.{ltb-false}
use Rattle.ppm_tree.specs.State.{then_with, nowhere, index_in, split_at}
use Rattle.ppm_tree.specs.Values.{holds}
use Rattle.ppm_serial.specs.declared.code.Stop.{Stop}
use Rattle.ppm_serial.specs.declared.code.Stop.TheVariants as stop
use Rattle.ppm_serial.specs.declared.code.Value.{Value}
use Rattle.ppm_serial.specs.declared.code.Step.{Step}
use Rattle.ppm_serial.specs.declared.code.Step.TheVariants as step
use Rattle.ppm_serial.specs.declared.stack.Rest.{Rest}
use Rattle.ppm_serial.specs.declared.stack.Rest.TheVariants as rest
use Rattle.ppm_serial.specs.declared.stack.Sweep.{Sweep}
use Rattle.ppm_serial.specs.declared.run.Run.{Run}
use Rattle.ppm_serial.specs.Worth.{worth, stopped}
use Rattle.ppm_serial.specs.Slots.{with_local_at}
use Rattle.ppm_serial.specs.Code.{Laid, step_at, routine_at}
use Rattle.ppm_serial.specs.Answers.{Does}
use Rattle.ppm_serial.specs.Running.{weight}
use Rattle.ppm_serial.specs.Machine.{spending, with_left, with_frame, with_stack, with_place, with_end, first_of, behind, inside, called}
use Rattle.ppm_serial.specs.Machine.{sweeping, swept_once, element_frame, doing, spending_some, worth_some}
use Rattle.ppm_serial.specs.Machine.{leaving, stepping, stepping_at}

-- a run that goes on weighs less than so much
abbrev pub Lighter : ℕ → Result Run Stop → Type 0
Lighter m (Ok t) = weight t < m
Lighter m (Err e) = ⊤

lighter_then : {A : Type 0} (m : ℕ) (o : Result A Stop) (go : A → Result Run Stop) → ((x : A) → Lighter m (go x)) → Lighter m (then_with o go)
lighter_then m (Ok x) go h = h x
lighter_then m (Err e) go h = tt

lighter_spent : (m k : ℕ) (s : Run) (go : Run → Result Run Stop) → ((l : ℕ) → l + k ≡ s.left → Lighter m (go (with_left s l))) → Lighter m (then_with (spending k s) go)
lighter_spent m k s go h = test (nat_lt s.left k) refl
  where
    test : (b : Bool) → nat_lt s.left k ≡ b → Lighter m (then_with (if b then Err stop.NotWithin else Ok (with_left s (s.left - k))) go)
    test true e = tt
    test false e = h (s.left - k) (let l = ltb-false s.left k e in omega (arith, l))

lighter_entry : (m k : ℕ) (s : Run) → ((l : ℕ) → l + k ≡ s.left → weight (with_left s l) < m) → Lighter m (spending k s)
lighter_entry m k s h = test (nat_lt s.left k) refl
  where
    test : (b : Bool) → nat_lt s.left k ≡ b → Lighter m (if b then Err stop.NotWithin else Ok (with_left s (s.left - k)))
    test true e = tt
    test false e = h (s.left - k) (let l = ltb-false s.left k e in omega (arith, l))

-- the blocks of an `each`
lighter_sweep : (m : ℕ) (w : Sweep) (s : Run) → weight s < m → Lighter m (sweeping w s)
lighter_sweep m w s h = test (nat_lt w.next w.region.length)
  where
    test : (b : Bool) → Lighter m (if b then then_with (spending 8 s) (λ t. Ok (with_place (with_frame (with_stack t (rest.Sweep (swept_once w) ∷ t.stack)) (element_frame w)) (first_of w.block)))
        else Ok (with_place (with_frame s w.frame) w.place))
    test true = lighter_spent m 8 s (λ t. Ok (with_place (with_frame (with_stack t (rest.Sweep (swept_once w) ∷ t.stack)) (element_frame w)) (first_of w.block))) (λ l e. omega (arith, e, h))
    test false = h

lighter_if : (m : ℕ) (b : Bool) (s t : Run) → weight s < m → weight t < m → Lighter m (Ok (if b then s else t))
lighter_if m true s t h i = h
lighter_if m false s t h i = i

-- a statement, after whose turn a run weighs two less
lighter_doing : (c : Laid) (st : Step) (m : ℕ) (s : Run) → weight s + 2 ≤ m → Lighter m (doing c st s)
lighter_doing c (step.Set k v) m s h = lighter_then m (worth s.frame s.store v) (λ x. Ok (with_frame s (with_local_at s.frame k x))) (λ x. omega (arith, h))
lighter_doing c (step.Put k line i v) m s h =
    lighter_then m (worth s.frame s.store i) _ (λ x. lighter_then m (worth s.frame s.store v) _ (λ y. lighter_then m (stopped (index_in line (get_or s.frame.regions k nowhere) x)) _ (λ j. omega (arith, h))))
lighter_doing c (step.Choose v p q) m s h =
    lighter_then m (worth s.frame s.store v) _ (λ x. lighter_if m (holds x) (inside p s.place s) (inside q s.place s) (omega (arith, h)) (omega (arith, h)))
lighter_doing c (step.Loop p) m s h = omega (arith, h)
lighter_doing c (step.Test v p) m s h =
    lighter_then m (worth s.frame s.store v) _ (λ x. lighter_if m (holds x) (inside p (first_of s.place.block) s) s (omega (arith, h)) (omega (arith, h)))
lighter_doing c (step.Call d) m s h = lighter_then m (called c s.frame s.store d) _ (λ g. lighter_entry m 1 _ (λ l e. omega (arith, h, e)))
lighter_doing c (step.Fork d e) m s h =
    lighter_then m (called c s.frame s.store d) _ (λ g. lighter_then m (called c s.frame s.store e) _ (λ g'. lighter_entry m 1 _ (λ l q. omega (arith, h, q))))
lighter_doing c (step.Split line k v q) m s h =
    lighter_then m (worth s.frame s.store v) _ (λ x. lighter_then m (stopped (split_at line (get_or s.frame.regions k nowhere) x)) _ (λ n. omega (arith, h)))
lighter_doing c (step.Each i x k b) m s h = lighter_spent m 8 s _ (λ l e. lighter_sweep m _ (with_left s l) (omega (arith, h, e)))

-- what is given
lighter_given : (m : ℕ) (o : Option Value) (s : Run) (go : Run → ℤ → Result Run Stop) → ((l : ℕ) (v : ℤ) → l ≤ s.left → Lighter m (go (with_left s l) v))
    → Lighter m (then_with (spending_some o s) (λ t. then_with (worth_some o t) (λ v. go t v)))
lighter_given m None s go h = h s.left (pos 0) (omega arith)
lighter_given m (Some v) s go h = lighter_spent m 1 s _ (λ l e. lighter_then m (worth s.frame s.store v) _ (λ x. h l x (omega (arith, e))))

lighter_leaving : (c : Laid) (k : List Rest) (m : ℕ) (s : Run) → s.stack ≡ k → s.ended ≡ false → weight s ≡ m → Lighter m (leaving c k s)
lighter_leaving c [] m s i e h = lighter_given m (routine_at c c.main).give s _ (λ l v le. weigh_end m s l le e h)
  where
    weigh_end : (m : ℕ) (s : Run) (l : ℕ) → l ≤ s.left → s.ended ≡ false → weight s ≡ m → weight (with_end (with_left s l)) < m
    weigh_end m s l le e h = let f = ap {B = ℕ} (λ (b : Bool). if b then 0 else 1) e in omega (arith, le, h, f)
lighter_leaving c (rest.Block p ∷ k) m s i e h = let f = ap length i in omega (arith, f, h)
lighter_leaving c (rest.Parts r p ∷ k) m s i e h = let f = ap length i in omega (arith, f, h)
lighter_leaving c (rest.Sweep w ∷ k) m s i e h = lighter_sweep m w (with_stack s k) (let f = ap length i in omega (arith, f, h))
lighter_leaving c (rest.Call q ∷ k) m s i e h = lighter_given m (routine_at c q.callee).give (with_stack s k) _ (λ l v le. let f = ap length i in omega (arith, f, h, le))
lighter_leaving c (rest.Left q x n g ∷ k) m s i e h =
    lighter_given m (routine_at c q.callee).give (with_stack s k) _ (λ l v le. lighter_entry m 1 _ (λ j o. let f = ap length i in omega (arith, f, h, le, o)))
lighter_leaving c (rest.Right q x n ∷ k) m s i e h = lighter_given m (routine_at c q.callee).give (with_stack s k) _ (λ l v le. let f = ap length i in omega (arith, f, h, le))

lighter_at : (c : Laid) (o : Option Step) (s : Run) → s.ended ≡ false → Lighter (weight s) (stepping_at c o s)
lighter_at c None s e = lighter_leaving c s.stack (weight s) s refl e refl
lighter_at c (Some st) s e = lighter_spent (weight s) 1 s (λ t. doing c st (with_place t (behind t.place))) (λ l h. lighter_doing c st (weight s) (with_place (with_left s l) (behind s.place)) (omega (arith, h)))

-- a step that is done leaves less
pub lighter : {B : Type 0} (c : Laid) (s u : Run) (r : Result B Stop) (x : B) → s.ended ≡ false → r ≡ Ok x → Does r u (stepping c s) → weight u < weight s
lighter c s u r x e is d =
    let said = subst (λ (r : Result _ Stop). Does r u (stepping c s)) is d in
    subst (λ (o : Result Run Stop). Lighter (weight s) o) said (lighter_at c (step_at c s.place) s e)
