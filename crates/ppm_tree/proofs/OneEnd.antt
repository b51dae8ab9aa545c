-- Blocks and procedures have one end at most: by recursion on one run, each rule is the only one for the other.
use Rattle.std.proofs.Common.{◌≡◌, ℕ, suc, ℤ, pos, true, false, List, Result, Ok, Err, refl, sym, ap, ap₂, subst, subst₂}
use Rattle.ppm_tree.specs.Tree.{Named, Expression, Block, Procedure}
use Rattle.ppm_tree.specs.Values.{holds}
use Rattle.ppm_tree.specs.State.{TrapAt, Region, Locals, Frame, with_locals, Arrays, procedure_named}
use Rattle.ppm_tree.specs.Meaning.{Form, Plain, Whole, Counts, spent, both, give_turn, given, End, Ended, Trapped, arrays_of, goes_on, chosen}
use Rattle.ppm_tree.specs.Meaning.{first_trap, returned, joined, forked, began, swept, with_parts, Runs, Follows, Loops, Enters, Sweeps}
use Rattle.ppm_tree.specs.Meaning.{Done, Lets, Assigns, Puts, Ifs, IfTraps, Whiles, Calls, CallTraps, Forks, ForkStops, ForkTraps, Splits, SplitTraps}
use Rattle.ppm_tree.specs.Meaning.{Eaches, GoesOn, Stops, TestFails, TestTraps, Turns, TurnTraps, Enter, Swept, Sweep, SweepStops}
use Rattle.ppm_tree.specs.Meaning as run
use Rattle.ppm_tree.specs.Correct.{HasOneEnd}

-- a value or a trap that comes once and again is one
pub ok_same : {A T : Type 0} {r : Result A T} {x y : A} → r ≡ Ok x → r ≡ Ok y → x ≡ y
ok_same p q = cc

pub not_both : {A T : Type 0} {r : Result A T} {x : A} {e : T} → r ≡ Ok x → r ≡ Err e → ⊥
not_both p q = cc

err_same : {A T : Type 0} {r : Result A T} {x y : T} → r ≡ Err x → r ≡ Err y → x ≡ y
err_same p q = cc

-- after a trap the plain form does not go on
pub not_on : {A : Type 0} {form : Form} {x : End A} {stop : TrapAt} {a : Arrays} → form ≡ Plain → x ≡ Trapped stop a → goes_on form x ≡ true → ⊥
not_on {form = Plain} {x = Ended v b} p q h = cc
not_on {form = Plain} {x = Trapped s b} p q h = cc
not_on {form = Whole} p q h = cc

-- a test does not hold and fail
pub not_twice : {v w : ℤ} → v ≡ w → holds v ≡ false → holds w ≡ true → ⊥
not_twice p q r = let e = ap holds p in cc

-- the value of an end, or another where it is a trap
abbrev value_or : {A : Type 0} → A → End A → A
value_or x (Ended v a) = v
value_or x (Trapped stop a) = x

-- what two ends without a trap leave
pub same_value : {A : Type 0} {x y : A} {a b : Arrays} → Ended x a ≡ Ended y b → x ≡ y
same_value {x = x} p = ap (value_or x) p

-- an end is no trap
pub no_end : {A : Type 0} {x : A} {stop : TrapAt} {a b : Arrays} → Ended x a ≡ Trapped stop b → ⊥
no_end p = cc

-- a trap of a procedure, as one of its caller
abbrev to_caller : End ℤ → Locals → End Locals
to_caller (Ended v a) l = Ended l a
to_caller (Trapped stop a) l = Trapped stop a

abbrev to_callee : TrapAt → Arrays → End ℤ
to_callee stop a = Trapped stop a

abbrev of_block : TrapAt → Arrays → End Locals
of_block stop a = Trapped stop a

as_locals : {s t : TrapAt} {a b : Arrays} → to_callee s a ≡ to_callee t b → of_block s a ≡ of_block t b
as_locals p = ap (λ (z : End ℤ). to_caller z (λ x. pos 0)) p

-- two counts and two ends are the same
abbrev Same_ : {A : Type 0} → Counts → Counts → End A → End A → Type 0
Same_ j k y z = (j ≡ k) × (y ≡ z)

module _ (form : Form) (procedures : List Procedure) where
  mutual
    pub one : {b : Block} {f : Frame} {a : Arrays} {j k : Counts} {y z : End Locals} → Runs form procedures b f a j y
        → Runs form procedures b f a k z → Same_ j k y z
    one (Done f a) (Done f' a') = (refl, refl)
    one (Lets x e b f a r) (Lets x' e' b' f' a' r') = let p = one_follows r r' in (ap (both (spent 1)) p.0, p.1)
    one (Assigns x e b f a r) (Assigns x' e' b' f' a' r') = let p = one_follows r r' in (ap (both (spent 1)) p.0, p.1)
    one (Puts x i e b f a r) (Puts x' i' e' b' f' a' r') = let p = one_follows r r' in (ap (both (spent 1)) p.0, p.1)
    one (Ifs e s t b f a v is r w) (Ifs e' s' t' b' f' a' v' {j = j'} {k = k'} {y = y'} {z = z'} is' r' w') =
        let p = one r (subst (λ (v : ℤ). Runs form procedures (chosen (holds v) s t) f a j' y') (ok_same is' is) r') in
        let q = one_follows w (subst (λ (y : End Locals). Follows form procedures b f y k' z') (sym p.1) w') in
        (ap₂ (λ (j k : Counts). both (spent 1) (both j k)) p.0 q.0, q.1)
    one (Ifs e s t b f a v is r w) (IfTraps e' s' t' b' f' a' stop is') = absurd (not_both is is')
    one (IfTraps e s t b f a stop is) (Ifs e' s' t' b' f' a' v is' r w) = absurd (not_both is' is)
    one (IfTraps e s t b f a stop is) (IfTraps e' s' t' b' f' a' stop' is') = (refl, ap (λ (s : TrapAt). Trapped s a) (err_same is is'))
    one (Whiles e s b f a r w) (Whiles e' s' b' f' a' {k = k'} {z = z'} r' w') =
        let p = one_loops r r' in
        let q = one_follows w (subst (λ (y : End Locals). Follows form procedures b f y k' z') (sym p.1) w') in
        (ap₂ (λ (j k : Counts). both (spent 1) (both j k)) p.0 q.0, q.1)
    one (Calls s b f g a is r w) (Calls s' b' f' g' a' {j = j'} {k = k'} {y = y'} {z = z'} is' r' w') =
        let p = one_enters r (subst (λ (g : Frame). Enters form procedures (procedure_named procedures s.callee.name) g a j' y') (ok_same is' is) r') in
        let q = one_follows w (subst (λ (y : End ℤ). Follows form procedures b f (returned s.target f y) k' z') (sym p.1) w') in
        (ap₂ (λ (j k : Counts). both (began (run.Call s.callee.name)) (both j k)) p.0 q.0, q.1)
    one (Calls s b f g a is r w) (CallTraps s' b' f' a' stop is') = absurd (not_both is is')
    one (CallTraps s b f a stop is) (Calls s' b' f' g a' is' r w) = absurd (not_both is' is)
    one (CallTraps s b f a stop is) (CallTraps s' b' f' a' stop' is') = (refl, ap (λ (s : TrapAt). Trapped s a) (err_same is is'))
    one (Forks s t b f g h a is l on r w) (Forks s' t' b' f' g' h' a' {i = i'} {j = j'} {k = k'} {x = x'} {y = y'} {z = z'} is' l' on' r' w') =
        let e = ok_same is' is in
        let o = one_enters l (subst (λ (g : Frame). Enters form procedures (procedure_named procedures s.callee.name) g a i' x') (ap (λ
        (p : Frame × Frame). p.0) e) l') in
        let p = one_enters r (subst₂ (λ (h : Frame) (x : End ℤ). Enters form procedures (procedure_named procedures t.callee.name) h
        (arrays_of x) j' y') (ap (λ (p : Frame × Frame). p.1) e) (sym o.1) r') in
        let q = one_follows w (subst₂ (λ (x y : End ℤ). Follows form procedures b f (joined s.target t.target f x y) k' z') (sym o.1) (sym p.1) w') in
        (ap₂ (λ (i k : Counts). both (forked s t) (both i k)) o.0 (ap₂ both p.0 q.0), q.1)
    one (Forks s t b f g h a is l on r w) (ForkStops s' t' b' f' g' h' a' c stop {i = i'} is' plain l') =
        let o = one_enters l (subst (λ (g : Frame). Enters form procedures (procedure_named procedures s.callee.name) g a i' (Trapped stop c)) (ap (λ
        (p : Frame × Frame). p.0) (ok_same is' is)) l') in
        absurd (not_on plain o.1 on)
    one (Forks s t b f g h a is l on r w) (ForkTraps s' t' b' f' a' stop is') = absurd (not_both is is')
    one (ForkStops s t b f g h a c stop is plain l) (Forks s' t' b' f' g' h' a' {i = i'} {x = x'} is' l' on r w) =
        let o = one_enters l (subst (λ (g : Frame). Enters form procedures (procedure_named procedures s.callee.name) g a i' x') (ap (λ
        (p : Frame × Frame). p.0) (ok_same is' is)) l') in
        absurd (not_on plain (sym o.1) on)
    one (ForkStops s t b f g h a c stop is plain l) (ForkStops s' t' b' f' g' h' a' c' stop' {i = i'} is' plain' l') =
        let o = one_enters l (subst (λ (g : Frame). Enters form procedures (procedure_named procedures s.callee.name) g a i' (Trapped stop' c')) (ap
        (λ (p : Frame × Frame). p.0) (ok_same is' is)) l') in
        (ap (both (forked s t)) o.0, as_locals o.1)
    one (ForkStops s t b f g h a c stop is plain l) (ForkTraps s' t' b' f' a' stop' is') = absurd (not_both is is')
    one (ForkTraps s t b f a stop is) (Forks s' t' b' f' g h a' is' l on r w) = absurd (not_both is' is)
    one (ForkTraps s t b f a stop is) (ForkStops s' t' b' f' g h a' c stop' is' plain l) = absurd (not_both is' is)
    one (ForkTraps s t b f a stop is) (ForkTraps s' t' b' f' a' stop' is') = (refl, ap (λ (s : TrapAt). Trapped s a) (err_same is is'))
    one (Splits line r e x y s b f a n is d w) (Splits line' r' e' x' y' s' b' f' a' n' {j = j'} {k = k'} {u = u'} {z = z'} is' d' w') =
        let p = one d (subst (λ (n : ℕ). Runs form procedures s (with_parts f (f.regions r.name) n x y) a j' u') (ok_same is' is) d') in
        let q = one_follows w (subst (λ (y : End Locals). Follows form procedures b f y k' z') (sym p.1) w') in
        (ap₂ (λ (j k : Counts). both (spent 1) (both j k)) p.0 q.0, q.1)
    one (Splits line r e x y s b f a n is d w) (SplitTraps line' r' e' x' y' s' b' f' a' stop is') = absurd (not_both is is')
    one (SplitTraps line r e x y s b f a stop is) (Splits line' r' e' x' y' s' b' f' a' n is' d w) = absurd (not_both is' is)
    one (SplitTraps line r e x y s b f a stop is) (SplitTraps line' r' e' x' y' s' b' f' a' stop' is') =
        (refl, ap (λ (s : TrapAt). Trapped s a) (err_same is is'))
    one (Eaches i x r s b f a d w) (Eaches i' x' r' s' b' f' a' {k = k'} {z = z'} d' w') =
        let p = one_sweeps d d' in
        let q = one_follows w (subst (λ (y : End Locals). Follows form procedures b f y k' z') (sym p.1) w') in
        (ap₂ (λ (j k : Counts). both (swept i x r s (f.regions r.name).length) (both j k)) p.0 q.0, q.1)

    pub one_follows : {b : Block} {f : Frame} {u : End Locals} {j k : Counts} {y z : End Locals} → Follows form procedures b f u j y
        → Follows form procedures b f u k z → Same_ j k y z
    one_follows (GoesOn b f l a r) (GoesOn b' f' l' a' r') = one r r'
    one_follows (Stops b f stop a) (Stops b' f' stop' a') = (refl, refl)

    pub one_loops : {e : Expression} {s : Block} {f : Frame} {a : Arrays} {j k : Counts} {y z : End Locals} → Loops form procedures e s f a j y
        → Loops form procedures e s f a k z → Same_ j k y z
    one_loops (TestFails e s f a v is fail) (TestFails e' s' f' a' v' is' fail') = (refl, refl)
    one_loops (TestFails e s f a v is fail) (TestTraps e' s' f' a' stop is') = absurd (not_both is is')
    one_loops (TestFails e s f a v is fail) (Turns e' s' f' a' c v' l is' hold r w) = absurd (not_twice (ok_same is is') fail hold)
    one_loops (TestFails e s f a v is fail) (TurnTraps e' s' f' a' c v' stop is' hold r) = absurd (not_twice (ok_same is is') fail hold)
    one_loops (TestTraps e s f a stop is) (TestFails e' s' f' a' v' is' fail) = absurd (not_both is' is)
    one_loops (TestTraps e s f a stop is) (TestTraps e' s' f' a' stop' is') = (refl, ap (λ (s : TrapAt). Trapped s a) (err_same is is'))
    one_loops (TestTraps e s f a stop is) (Turns e' s' f' a' c v l is' hold r w) = absurd (not_both is' is)
    one_loops (TestTraps e s f a stop is) (TurnTraps e' s' f' a' c v stop' is' hold r) = absurd (not_both is' is)
    one_loops (Turns e s f a c v l is hold r w) (TestFails e' s' f' a' v' is' fail) = absurd (not_twice (ok_same is' is) fail hold)
    one_loops (Turns e s f a c v l is hold r w) (TestTraps e' s' f' a' stop is') = absurd (not_both is is')
    one_loops (Turns e s f a c v l is hold r w) (Turns e' s' f' a' c' v' l' {k = k'} {z = z'} is' hold' r' w') =
        let p = one r r' in
        let q = one_loops w (subst₂ (λ (l : Locals) (a : Arrays). Loops form procedures e s (with_locals f l) a k' z') (sym (same_value p.1)) (sym
        (ap arrays_of p.1)) w') in
        (ap₂ (λ (j k : Counts). both (spent 1) (both j k)) p.0 q.0, q.1)
    one_loops (Turns e s f a c v l is hold r w) (TurnTraps e' s' f' a' c' v' stop is' hold' r') = let p = one r r' in absurd (no_end p.1)
    one_loops (TurnTraps e s f a c v stop is hold r) (TestFails e' s' f' a' v' is' fail) = absurd (not_twice (ok_same is' is) fail hold)
    one_loops (TurnTraps e s f a c v stop is hold r) (TestTraps e' s' f' a' stop' is') = absurd (not_both is is')
    one_loops (TurnTraps e s f a c v stop is hold r) (Turns e' s' f' a' c' v' l is' hold' r' w) = let p = one r r' in absurd (no_end (sym p.1))
    one_loops (TurnTraps e s f a c v stop is hold r) (TurnTraps e' s' f' a' c' v' stop' is' hold' r') = let p = one r r' in (ap (both (spent 1)) p.0, p.1)

    pub one_enters : {p : Procedure} {f : Frame} {a : Arrays} {j k : Counts} {y z : End ℤ} → Enters form procedures p f a j y
        → Enters form procedures p f a k z → Same_ j k y z
    one_enters (Enter p f a r) (Enter p' f' a' r') =
        let q = one r r' in
        (ap₂ (λ (j : Counts) (y : End Locals). both (spent 1) (both j (give_turn p.give y))) q.0 q.1, ap (given p.give f) q.1)

    pub one_sweeps : {i x : Named} {s : Block} {r : Region} {f : Frame} {n m : ℕ} {a : Arrays} {j k : Counts} {y z : End Locals}
        → Sweeps form procedures i x s r f n m a j y → Sweeps form procedures i x s r f n m a k z → Same_ j k y z
    one_sweeps (Swept i x s r f n a) (Swept i' x' s' r' f' n' a') = (refl, refl)
    one_sweeps (Sweep i x s r f n m a d on w) (Sweep i' x' s' r' f' n' m' a' {k = k'} {z = z'} d' on' w') =
        let p = one d d' in
        let q = one_sweeps w (subst (λ (y : End Locals). Sweeps form procedures i x s r f (suc n) m (arrays_of y) k' z') (sym p.1) w') in
        (ap₂ (λ (j k : Counts). both (spent 8) (both j k)) p.0 q.0, ap₂ first_trap p.1 q.1)
    one_sweeps (Sweep i x s r f n m a d on w) (SweepStops i' x' s' r' f' n' m' a' c stop plain d') = let p = one d d' in absurd (not_on plain p.1 on)
    one_sweeps (SweepStops i x s r f n m a c stop plain d) (Sweep i' x' s' r' f' n' m' a' d' on w) = let p = one d d' in absurd (not_on plain (sym p.1) on)
    one_sweeps (SweepStops i x s r f n m a c stop plain d) (SweepStops i' x' s' r' f' n' m' a' c' stop' plain' d') = let p =
        one d d' in (ap (both (spent 8)) p.0, p.1)

  -- the law of one end, of all blocks and procedures
  pub one_end : HasOneEnd form procedures
  one_end = record { block = λ b f a j k y z d d'. one d d'; procedure = λ p f a j k y z d d'. one_enters d d' }
