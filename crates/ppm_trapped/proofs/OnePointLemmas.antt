-- Two points that a run reaches and at which it traps are one: what is about to be done at the first one is never passed.
use Rattle.std.proofs.Common.{◌≡◌, ◌⊎◌, ℕ, zero, suc, ◌+◌, ℤ, List, Option, Some, refl, sym, ap, subst, arith, inl, inr}
use Rattle.ppm_tree.specs.declared.named.Named.{Named}
use Rattle.ppm_tree.specs.Tree.{Statement, Block, Nil, While, Give, Procedure}
use Rattle.ppm_tree.specs.Values.{holds}
use Rattle.ppm_tree.specs.State.{TrapAt, then_with, Region, Locals, Frame, Arrays, split_at, evaluate, with_locals, procedure_named, entered, both_entered}
use Rattle.ppm_tree.specs.Meaning.{Plain, Counts, spent, both, Ended, Trapped, arrays_of, chosen, with_parts, with_element, Runs, Enters, Sweeps, SweepStops}
use Rattle.ppm_tree.proofs.OneEnd.{ok_same, not_both, no_end, same_value, one, one_enters, one_sweeps}
use Rattle.ppm_trapped.specs.Sites.{Does, Gives, Point, statement_trap, deed_trap, Meets, Reaches, Begins}
use Rattle.ppm_trapped.specs.Sites.{Itself, InChosen, InLoop, Again, InCall, InLeft, InRight, InParts, InElement, First, Later, InBody, AtGive}
use Rattle.ppm_trapped.specs.Correct.{TrapPointsAreOne}
use Rattle.ppm_trapped.proofs.SiteLemmas.{trap_is, BlockTraps, ProcedureTraps, meets, reaches, begins, sweeps_on}

-- two numbers are one, or one is below the other
record Apart (m n : ℕ) : Type 0 where
  more : ℕ
  below : m + suc more ≡ n

apart : (m n : ℕ) → (m ≡ n) ⊎ Apart m n ⊎ Apart n m
apart zero zero = inl refl
apart zero (suc n) = inr (inl (record { more = n; below = omega arith }))
apart (suc m) zero = inr (inr (record { more = m; below = omega arith }))
apart (suc m) (suc n) = go (apart m n) where
  go : (m ≡ n) ⊎ Apart m n ⊎ Apart n m → (suc m ≡ suc n) ⊎ Apart (suc m) (suc n) ⊎ Apart (suc n) (suc m)
  go (inl e) = inl (ap suc e)
  go (inr (inl d)) = let e = d.below in inr (inl (record { more = d.more; below = omega (arith, e) }))
  go (inr (inr d)) = let e = d.below in inr (inr (record { more = d.more; below = omega (arith, e) }))

some_same : {A : Type 0} {x y : A} {o : Option A} → o ≡ Some x → o ≡ Some y → x ≡ y
some_same p q = cc

module _ (ps : List Procedure) where
  -- what is evaluated at a point has a trap
  abbrev IsTrap : Point → Type 0
  IsTrap z = (stop : TrapAt) × deed_trap ps z.frame z.arrays z.deed ≡ Some stop

  -- a statement that has a trap itself is met at no other point
  alone : {p : Procedure} {s : Statement} {f : Frame} {a : Arrays} {z : Point} {stop : TrapAt} → Meets ps p s f a z
      → statement_trap ps f a s ≡ Some stop → z ≡ record { procedure = p; deed = Does s; frame = f; arrays = a }
  alone (Itself p s f a) h = refl
  alone {stop = stop} (InChosen p e s t f a v z is m) h = absurd (not_both is (trap_is (evaluate f a e) stop h))
  alone {stop = stop} (InLoop p e s f a v z is hold m) h = absurd (not_both is (trap_is (evaluate f a e) stop h))
  alone {stop = stop} (Again p e s f a c v l k z is hold run m) h = absurd (not_both is (trap_is (evaluate f a e) stop h))
  alone {stop = stop} (InCall p s f g a z is m) h = absurd (not_both is (trap_is (entered ps f a s) stop h))
  alone {stop = stop} (InLeft p s t f g k a z is m) h = absurd (not_both is (trap_is (both_entered ps f a s t) stop h))
  alone {stop = stop} (InRight p s t f g k a c v j z is left m) h = absurd (not_both is (trap_is (both_entered ps f a s t) stop h))
  alone {stop = stop} (InParts p line r e x y s f a n z is m) h =
      absurd (not_both is (trap_is (then_with (evaluate f a e) (split_at line (f.regions r.name))) stop h))
  alone (InElement p i x r s f a c n k z below front m) h = cc

  -- a block that traps does not end
  no_block : {b : Block} {f : Frame} {a c : Arrays} {k : Counts} {l : Locals} {stop : TrapAt} → BlockTraps ps b f a stop
      → Runs Plain ps b f a k (Ended l c) → ⊥
  no_block t run = no_end (one Plain ps run t.runs).1

  -- nor does a procedure
  no_procedure : {p : Procedure} {f : Frame} {a c : Arrays} {k : Counts} {v : ℤ} {stop : TrapAt} → ProcedureTraps ps p f a stop
      → Enters Plain ps p f a k (Ended v c) → ⊥
  no_procedure t run = no_end (one_enters Plain ps run t.enters).1

  -- nor do the blocks of an `each` down to one that traps, whichever comes after it
  no_sweep : (i x : Named) (s : Block) (r : Region) (f : Frame) {n : ℕ} {a b c : Arrays} {k j : Counts} {stop : TrapAt} (more : ℕ)
      → Sweeps Plain ps i x s r f 0 n a k (Ended f.locals b) → BlockTraps ps s (with_element f r n i x) b stop
      → Sweeps Plain ps i x s r f 0 (n + suc more) a j (Ended f.locals c) → ⊥
  no_sweep i x s r f {n = n} {b = b} {stop = stop} more front t all =
      let at : n ≡ 0 + n = omega arith in
      let rest = SweepStops i x s r f n more b t.arrays stop refl t.runs in
      let q = sweeps_on ps i x s r f front refl (subst (λ (o : ℕ). Sweeps Plain ps i x s r f o (suc more) b (both (spent 8) t.counts) (Trapped stop t.arrays)) at rest) in
      no_end (one_sweeps Plain ps all q.1).1

  -- what a procedure gives is one
  abbrev giving : Procedure → Frame → Give → Locals → Arrays → Point
  giving p f g l a = record { procedure = p; deed = Gives g; frame = with_locals f l; arrays = a }

  one_give : (p : Procedure) (f : Frame) {d e : Give} {l m : Locals} {a b : Arrays} → d ≡ e → Ended l a ≡ Ended m b → giving p f d l a ≡ giving p f e m b
  one_give p f {d = d} {e = e} {l = l} {m = m} {a = a} {b = b} same ends =
      let same_l : l ≡ m = same_value ends in
      let same_a : a ≡ b = ap arrays_of ends in
      λ i. giving p f (same i) (same_l i) (same_a i)

  -- two elements at whose blocks the run traps are one
  one_element : {p : Procedure} {f : Frame} {a c d : Arrays} {y z : Point} {j o : Counts} → IsTrap y → IsTrap z → (i x : Named) (s : Block) (r : Region) (k l : ℕ)
      → Sweeps Plain ps i x s r f 0 k a j (Ended f.locals c) → Sweeps Plain ps i x s r f 0 l a o (Ended f.locals d)
      → Reaches ps p s (with_element f r k i x) c y → Reaches ps p s (with_element f r l i x) d z → (l ≡ k) ⊎ Apart l k ⊎ Apart k l → l ≡ k
  one_element g h i x s r k l front front' m n (inl e) = e
  one_element {p = p} {f = f} {a = a} {c = c} {d = d} {z = z} {j = j} g h i x s r k l front front' m n (inr (inl e)) =
      absurd (no_sweep i x s r f e.more front' (reaches ps p s (with_element f r l i x) d z h.0 n h.1)
      (subst (λ (k : ℕ). Sweeps Plain ps i x s r f 0 k a j (Ended f.locals c)) (sym e.below) front))
  one_element {p = p} {f = f} {a = a} {c = c} {d = d} {y = y} {o = o} g h i x s r k l front front' m n (inr (inr e)) =
      absurd (no_sweep i x s r f e.more front (reaches ps p s (with_element f r k i x) c y g.0 m g.1)
      (subst (λ (l : ℕ). Sweeps Plain ps i x s r f 0 l a o (Ended f.locals d)) (sym e.below) front'))

  mutual
    one_meets : {p : Procedure} {s : Statement} {f : Frame} {a : Arrays} {y z : Point} → IsTrap y → IsTrap z → Meets ps p s f a y → Meets ps p s f a z → y ≡ z
    one_meets g h (Itself p s f a) n = sym (alone n g.1)
    one_meets g h m (Itself p s f a) = alone m h.1
    one_meets g h (InChosen p e s t f a v _ is m) (InChosen _ _ _ _ _ _ w z is' n) =
        one_reaches g h m (subst (λ (v : ℤ). Reaches ps p (chosen (holds v) s t) f a z) (ok_same is' is) n)
    one_meets g h (InLoop p e s f a v y is hold m) (InLoop _ _ _ _ _ w z is' hold' n) = one_reaches g h m n
    one_meets g h (InLoop p e s f a v y is hold m) (Again _ _ _ _ _ c w l k z is' hold' run n) = absurd (no_block (reaches ps p s f a y g.0 m g.1) run)
    one_meets g h (Again p e s f a c v l k y is hold run m) (InLoop _ _ _ _ _ w z is' hold' n) = absurd (no_block (reaches ps p s f a z h.0 n h.1) run)
    one_meets g h (Again p e s f a c v l k y is hold run m) (Again _ _ _ _ _ d w o j z is' hold' run' n) =
        let q = (one Plain ps run' run).1 in
        one_meets g h m (subst (λ (c : Arrays). Meets ps p (While e s) (with_locals f l) c z) (ap arrays_of q)
        (subst (λ (l : Locals). Meets ps p (While e s) (with_locals f l) d z) (same_value q) n))
    one_meets g h (InCall p s f b a y is m) (InCall _ _ _ c _ z is' n) =
        one_begins g h m (subst (λ (b : Frame). Begins ps (procedure_named ps s.callee.name) b a z) (ok_same is' is) n)
    one_meets g h (InLeft p s t f b k a y is m) (InLeft _ _ _ _ c j _ z is' n) =
        one_begins g h m (subst (λ (b : Frame). Begins ps (procedure_named ps s.callee.name) b a z) (ap (λ (q : Frame × Frame). q.0) (ok_same is' is)) n)
    one_meets g h (InLeft p s t f b k a y is m) (InRight _ _ _ _ c j _ d v i z is' left n) =
        absurd (no_procedure (begins ps (procedure_named ps s.callee.name) b a y g.0 m g.1)
        (subst (λ (b : Frame). Enters Plain ps (procedure_named ps s.callee.name) b a i (Ended v d)) (ap (λ (q : Frame × Frame). q.0) (ok_same is' is)) left))
    one_meets g h (InRight p s t f b k a d v i y is left m) (InLeft _ _ _ _ c j _ z is' n) =
        absurd (no_procedure (begins ps (procedure_named ps s.callee.name) c a z h.0 n h.1)
        (subst (λ (b : Frame). Enters Plain ps (procedure_named ps s.callee.name) b a i (Ended v d)) (ap (λ (q : Frame × Frame). q.0) (ok_same is is')) left))
    one_meets g h (InRight p s t f b k a d v i y is left m) (InRight _ _ _ _ c j _ o w u z is' left' n) =
        let q = (one_enters Plain ps (subst (λ (b : Frame). Enters Plain ps (procedure_named ps s.callee.name) b a u (Ended w o)) (ap (λ (q : Frame × Frame). q.0) (ok_same is' is)) left') left).1 in
        one_begins g h m (subst (λ (d : Arrays). Begins ps (procedure_named ps t.callee.name) k d z) (ap arrays_of q)
        (subst (λ (k : Frame). Begins ps (procedure_named ps t.callee.name) k o z) (ap (λ (q : Frame × Frame). q.1) (ok_same is' is)) n))
    one_meets g h (InParts p line r e x u s f a k y is m) (InParts _ _ _ _ _ _ _ _ _ j z is' n) =
        one_reaches g h m (subst (λ (k : ℕ). Reaches ps p s (with_parts f (f.regions r.name) k x u) a z) (ok_same is' is) n)
    one_meets g h (InElement p i x r s f a c k j y below front m) (InElement _ _ _ _ _ _ _ d l o z below' front' n) =
        let e = one_element g h i x s (f.regions r.name) k l front front' m n (apart l k) in
        let q = (one_sweeps Plain ps (subst (λ (l : ℕ). Sweeps Plain ps i x s (f.regions r.name) f 0 l a o (Ended f.locals d)) e front') front).1 in
        one_reaches g h m (subst (λ (c : Arrays). Reaches ps p s (with_element f (f.regions r.name) k i x) c z) (ap arrays_of q)
        (subst (λ (l : ℕ). Reaches ps p s (with_element f (f.regions r.name) l i x) d z) e n))

    one_reaches : {p : Procedure} {b : Block} {f : Frame} {a : Arrays} {y z : Point} → IsTrap y → IsTrap z → Reaches ps p b f a y → Reaches ps p b f a z → y ≡ z
    one_reaches g h (First p s b f a y m) (First _ _ _ _ _ z n) = one_meets g h m n
    one_reaches g h (First p s b f a y m) (Later _ _ _ _ _ d l k z run n) = absurd (no_block (meets ps p s Nil f a y g.0 m g.1) run)
    one_reaches g h (Later p s b f a c l k y run m) (First _ _ _ _ _ z n) = absurd (no_block (meets ps p s Nil f a z h.0 n h.1) run)
    one_reaches g h (Later p s b f a c l k y run m) (Later _ _ _ _ _ d o j z run' n) =
        let q = (one Plain ps run' run).1 in
        one_reaches g h m (subst (λ (c : Arrays). Reaches ps p b (with_locals f l) c z) (ap arrays_of q)
        (subst (λ (l : Locals). Reaches ps p b (with_locals f l) d z) (same_value q) n))

    one_begins : {p : Procedure} {f : Frame} {a : Arrays} {y z : Point} → IsTrap y → IsTrap z → Begins ps p f a y → Begins ps p f a z → y ≡ z
    one_begins g h (InBody p f a y m) (InBody _ _ _ z n) = one_reaches g h m n
    one_begins g h (InBody p f a y m) (AtGive _ d _ _ c l k run is) = absurd (no_block (reaches ps p p.body f a y g.0 m g.1) run)
    one_begins g h (AtGive p d f a c l k run is) (InBody _ _ _ z n) = absurd (no_block (reaches ps p p.body f a z h.0 n h.1) run)
    one_begins g h (AtGive p d f a c l k run is) (AtGive _ e _ _ b m j run' is') = one_give p f (some_same is is') (one Plain ps run run').1

-- so it is with programs
pub trap_points_are_one : TrapPointsAreOne
trap_points_are_one t y z s stop g h = one_begins t.procedures (s, g.trap) (stop, h.trap) g.reached h.reached
