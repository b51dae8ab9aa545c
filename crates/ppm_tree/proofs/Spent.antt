-- A run that is stopped after so many turns ends within no fewer: by recursion on it, against the run that ends.
use Rattle.std.proofs.Common.{◌≡◌, ◌≤◌, ℕ, suc, ℤ, List, sym, ap, subst, subst₂, arith}
use Rattle.ppm_tree.specs.Tree.{Named, Expression, Block, Procedure}
use Rattle.ppm_tree.specs.Values.{holds}
use Rattle.ppm_tree.specs.State.{Region, Locals, Frame, with_locals, Arrays, procedure_named}
use Rattle.ppm_tree.specs.Meaning.{Form, Counts, End, arrays_of, chosen, returned, joined, with_parts, Runs, Follows, Loops, Enters, Sweeps}
use Rattle.ppm_tree.specs.Meaning.{Lets, Assigns, Puts, Ifs, IfTraps, Whiles, Calls, CallTraps, Forks, ForkStops, ForkTraps, Splits, SplitTraps}
use Rattle.ppm_tree.specs.Meaning.{Eaches, GoesOn, TestFails, TestTraps, Turns, TurnTraps, Enter, Sweep, SweepStops}
use Rattle.ppm_tree.specs.Begun.{Begins, BeginsBehind, BeginsLoop, BeginsBody, BeginsSweep}
use Rattle.ppm_tree.specs.Begun.{Here, BehindLet, BehindAssign, BehindPut, InIf, BehindIf, InWhile, BehindWhile, InCall, BehindCall, InLeft, InRight}
use Rattle.ppm_tree.specs.Begun.{BehindFork, InSplit, BehindSplit, InEach, BehindEach}
use Rattle.ppm_tree.specs.Begun.{Behind, AtLoop, InTurn, BehindTurn, AtEntry, InBody, AtEach, InBlock, BehindBlock}
use Rattle.ppm_tree.proofs.OneEnd.{ok_same, not_both, not_twice, not_on, same_value, no_end, one, one_loops, one_enters, one_sweeps}

module _ (form : Form) (procedures : List Procedure) where
  -- what is entered in one frame is entered in an equal one
  in_frame : {q : Procedure} {g h : Frame} {a : Arrays} {k : Counts} {z : End ℤ} → g ≡ h → Enters form procedures q g a k z → Enters form procedures q h a k z
  in_frame {q = q} {a = a} {k = k} {z = z} e r = subst (λ (g : Frame). Enters form procedures q g a k z) e r

  -- what follows one end follows an equal one
  behind_end : {b : Block} {f : Frame} {u v : End Locals} {k : Counts} {z : End Locals} → u ≡ v → Follows form procedures b f u k z
      → Follows form procedures b f v k z
  behind_end {b = b} {f = f} {k = k} {z = z} e w = subst (λ (u : End Locals). Follows form procedures b f u k z) e w

  mutual
    pub spends : {n : ℕ} {b : Block} {f : Frame} {a : Arrays} {k : Counts} {z : End Locals} → Begins form procedures n b f a
        → Runs form procedures b f a k z → n ≤ k.turns
    spends (Here b f a) r = omega arith
    spends (BehindLet x e b f a q) (Lets x' e' b' f' a' w) = let l = rest q w in omega (arith, l)
    spends (BehindAssign x e b f a q) (Assigns x' e' b' f' a' w) = let l = rest q w in omega (arith, l)
    spends (BehindPut x i e b f a q) (Puts x' i' e' b' f' a' w) = let l = rest q w in omega (arith, l)
    spends (InIf e s t b f a v is q) (Ifs e' s' t' b' f' a' v' {j = j} {y = y} is' r w) =
        let l = spends q (subst (λ (v : ℤ). Runs form procedures (chosen (holds v) s t) f a j y) (ok_same is' is) r) in omega (arith, l)
    spends (InIf e s t b f a v is q) (IfTraps e' s' t' b' f' a' stop is') = absurd (not_both is is')
    spends (BehindIf e s t b f a v is d q) (Ifs e' s' t' b' f' a' v' {j = j} {y = y} is' r w) =
        let o = one form procedures d (subst (λ (v : ℤ). Runs form procedures (chosen (holds v) s t) f a j y) (ok_same is' is) r) in
        let l = rest q (behind_end (sym o.1) w) in
        omega (arith, l)
    spends (BehindIf e s t b f a v is d q) (IfTraps e' s' t' b' f' a' stop is') = absurd (not_both is is')
    spends (InWhile e s b f a q) (Whiles e' s' b' f' a' r w) = let l = loop q r in omega (arith, l)
    spends (BehindWhile e s b f a d q) (Whiles e' s' b' f' a' r w) =
        let o = one_loops form procedures d r in
        let l = rest q (behind_end (sym o.1) w) in
        omega (arith, l)
    spends (InCall s b f g a is q) (Calls s' b' f' g' a' is' r w) = let l = body q (in_frame (ok_same is' is) r) in omega (arith, l)
    spends (InCall s b f g a is q) (CallTraps s' b' f' a' stop is') = absurd (not_both is is')
    spends (BehindCall s b f g a is d q) (Calls s' b' f' g' a' is' r w) =
        let o = one_enters form procedures d (in_frame (ok_same is' is) r) in
        let l = rest q (behind_end (ap (returned s.target f) (sym o.1)) w) in
        omega (arith, l)
    spends (BehindCall s b f g a is d q) (CallTraps s' b' f' a' stop is') = absurd (not_both is is')
    spends (InLeft s t b f g h a is q) (Forks s' t' b' f' g' h' a' is' r on r' w) =
        let l = body q (in_frame (ap (λ (p : Frame × Frame). p.0) (ok_same is' is)) r) in omega (arith, l)
    spends (InLeft s t b f g h a is q) (ForkStops s' t' b' f' g' h' a' c stop is' plain r) =
        let l = body q (in_frame (ap (λ (p : Frame × Frame). p.0) (ok_same is' is)) r) in omega (arith, l)
    spends (InLeft s t b f g h a is q) (ForkTraps s' t' b' f' a' stop is') = absurd (not_both is is')
    spends (InRight s t b f g h a is d on q) (Forks s' t' b' f' g' h' a' {j = j} {y = y} is' r on' r' w) =
        let e = ok_same is' is in
        let o = one_enters form procedures d (in_frame (ap (λ (p : Frame × Frame). p.0) e) r) in
        let r'' = subst (λ (x : End ℤ). Enters form procedures (procedure_named procedures t.callee.name) h' (arrays_of x) j y) (sym o.1) r' in
        let l = body q (in_frame (ap (λ (p : Frame × Frame). p.1) e) r'') in
        omega (arith, l)
    spends (InRight s t b f g h a is d on q) (ForkStops s' t' b' f' g' h' a' c stop is' plain r) =
        let o = one_enters form procedures d (in_frame (ap (λ (p : Frame × Frame). p.0) (ok_same is' is)) r) in absurd (not_on plain o.1 on)
    spends (InRight s t b f g h a is d on q) (ForkTraps s' t' b' f' a' stop is') = absurd (not_both is is')
    spends (BehindFork s t b f g h a is d on d' q) (Forks s' t' b' f' g' h' a' {j = j} {y = y} is' r on' r' w) =
        let e = ok_same is' is in
        let o = one_enters form procedures d (in_frame (ap (λ (p : Frame × Frame). p.0) e) r) in
        let r'' = subst (λ (x : End ℤ). Enters form procedures (procedure_named procedures t.callee.name) h' (arrays_of x) j y) (sym o.1) r' in
        let o' = one_enters form procedures d' (in_frame (ap (λ (p : Frame × Frame). p.1) e) r'') in
        let l = rest q (behind_end (λ i. joined s.target t.target f (sym o.1 i) (sym o'.1 i)) w) in
        omega (arith, l)
    spends (BehindFork s t b f g h a is d on d' q) (ForkStops s' t' b' f' g' h' a' c stop is' plain r) =
        let o = one_enters form procedures d (in_frame (ap (λ (p : Frame × Frame). p.0) (ok_same is' is)) r) in absurd (not_on plain o.1 on)
    spends (BehindFork s t b f g h a is d on d' q) (ForkTraps s' t' b' f' a' stop is') = absurd (not_both is is')
    spends (InSplit line r e x y s b f a m is q) (Splits line' r' e' x' y' s' b' f' a' m' {j = j} {u = u} is' d w) =
        let l = spends q (subst (λ (m : ℕ). Runs form procedures s (with_parts f (f.regions r.name) m x y) a j u) (ok_same is' is) d) in omega (arith, l)
    spends (InSplit line r e x y s b f a m is q) (SplitTraps line' r' e' x' y' s' b' f' a' stop is') = absurd (not_both is is')
    spends (BehindSplit line r e x y s b f a m is c q) (Splits line' r' e' x' y' s' b' f' a' m' {j = j} {u = u} is' d w) =
        let o = one form procedures c (subst (λ (m : ℕ). Runs form procedures s (with_parts f (f.regions r.name) m x y) a j u) (ok_same is' is) d) in
        let l = rest q (behind_end (sym o.1) w) in
        omega (arith, l)
    spends (BehindSplit line r e x y s b f a m is c q) (SplitTraps line' r' e' x' y' s' b' f' a' stop is') = absurd (not_both is is')
    spends (InEach i x r s b f a q) (Eaches i' x' r' s' b' f' a' d w) = let l = sweep q d in omega (arith, l)
    spends (BehindEach i x r s b f a c q) (Eaches i' x' r' s' b' f' a' d w) =
        let o = one_sweeps form procedures c d in
        let l = rest q (behind_end (sym o.1) w) in
        omega (arith, l)

    rest : {n : ℕ} {b : Block} {f : Frame} {u : End Locals} {k : Counts} {z : End Locals} → BeginsBehind form procedures n b f u
        → Follows form procedures b f u k z → n ≤ k.turns
    rest (Behind b f l a q) (GoesOn b' f' l' a' r) = spends q r

    loop : {n : ℕ} {e : Expression} {s : Block} {f : Frame} {a : Arrays} {k : Counts} {z : End Locals} → BeginsLoop form procedures n e s f a
        → Loops form procedures e s f a k z → n ≤ k.turns
    loop (AtLoop e s f a) r = omega arith
    loop (InTurn e s f a v is hold q) (TestFails e' s' f' a' v' is' fail) = absurd (not_twice (ok_same is' is) fail hold)
    loop (InTurn e s f a v is hold q) (TestTraps e' s' f' a' stop is') = absurd (not_both is is')
    loop (InTurn e s f a v is hold q) (Turns e' s' f' a' c v' l is' hold' r w) = let m = spends q r in omega (arith, m)
    loop (InTurn e s f a v is hold q) (TurnTraps e' s' f' a' c v' stop is' hold' r) = let m = spends q r in omega (arith, m)
    loop (BehindTurn e s f a c v l is hold d q) (TestFails e' s' f' a' v' is' fail) = absurd (not_twice (ok_same is' is) fail hold)
    loop (BehindTurn e s f a c v l is hold d q) (TestTraps e' s' f' a' stop is') = absurd (not_both is is')
    loop (BehindTurn e s f a c v l is hold d q) (Turns e' s' f' a' c' v' l' {k = k} {z = z} is' hold' r w) =
        let o = one form procedures d r in
        let m = loop q (subst₂ (λ (l : Locals) (a : Arrays). Loops form procedures e s (with_locals f l) a k z) (sym (same_value o.1)) (sym
        (ap arrays_of o.1)) w) in
        omega (arith, m)
    loop (BehindTurn e s f a c v l is hold d q) (TurnTraps e' s' f' a' c' v' stop is' hold' r) = let o = one form procedures d r in absurd (no_end o.1)

    pub body : {n : ℕ} {p : Procedure} {f : Frame} {a : Arrays} {k : Counts} {z : End ℤ} → BeginsBody form procedures n p f a
        → Enters form procedures p f a k z → n ≤ k.turns
    body (AtEntry p f a) r = omega arith
    body (InBody p f a q) (Enter p' f' a' r) = let l = spends q r in omega (arith, l)

    sweep : {n : ℕ} {i x : Named} {s : Block} {r : Region} {f : Frame} {j m : ℕ} {a : Arrays} {k : Counts} {z : End Locals}
        → BeginsSweep form procedures n i x s r f j m a → Sweeps form procedures i x s r f j m a k z → n ≤ k.turns
    sweep (AtEach i x s r f j m a) d = omega arith
    sweep (InBlock i x s r f j m a q) (Sweep i' x' s' r' f' j' m' a' d on w) = let l = spends q d in omega (arith, l)
    sweep (InBlock i x s r f j m a q) (SweepStops i' x' s' r' f' j' m' a' c stop plain d) = let l = spends q d in omega (arith, l)
    sweep (BehindBlock i x s r f j m a c on q) (Sweep i' x' s' r' f' j' m' a' {k = k} {z = z} d on' w) =
        let o = one form procedures c d in
        let l = sweep q (subst (λ (y : End Locals). Sweeps form procedures i x s r f (suc j) m (arrays_of y) k z) (sym o.1) w) in
        omega (arith, l)
    sweep (BehindBlock i x s r f j m a c on q) (SweepStops i' x' s' r' f' j' m' a' c' stop plain d) =
        let o = one form procedures c d in absurd (not_on plain o.1 on)
