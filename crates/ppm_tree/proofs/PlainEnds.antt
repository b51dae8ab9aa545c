-- Where the whole form ends, the plain one ends alike: by recursion on the whole run.
use Rattle.std.proofs.Common.{◌≡◌, ℕ, suc, ℤ, true, List, Option, Ok, refl, sym, subst, subst₂, append_assoc, arith}
use Rattle.ppm_tree.specs.Tree.{Named, Expression, Side, Block, Then, Give, Procedure}
use Rattle.ppm_tree.specs.Tree as tree
use Rattle.ppm_tree.specs.Values.{holds}
use Rattle.ppm_tree.specs.State.{TrapAt, Region, Locals, Frame, with_locals, Arrays, evaluate, both_entered, procedure_named}
use Rattle.ppm_tree.specs.Meaning.{Form, Plain, Whole, Counts, none, spent, both, give_turn, given, assigned, stored, End, Ended, Trapped, end_of}
use Rattle.ppm_tree.specs.Meaning.{arrays_of, goes_on, first_trap, returned, joined, forked, began, swept, with_element, Runs, Follows, Loops, Enters, Sweeps}
use Rattle.ppm_tree.specs.Meaning.{Done, Lets, Assigns, Puts, Ifs, IfTraps, Whiles, Calls, CallTraps, Forks, ForkStops, ForkTraps, Splits, SplitTraps}
use Rattle.ppm_tree.specs.Meaning.{Eaches, GoesOn, Stops, TestFails, TestTraps, Turns, TurnTraps, Enter, Swept, Sweep, SweepStops}
use Rattle.ppm_tree.specs.Meaning as run
use Rattle.ppm_tree.specs.Correct.{IsAlike, Same, SameTrap}

-- an end is alike to itself
alike : {A : Type 0} (k : Counts) (z : End A) → IsAlike k z k z
alike k (Ended x a) = Same k x a
alike k (Trapped stop a) = SameTrap k k stop a a (omega arith)

-- with as much before both
behind : {A : Type 0} (i : Counts) {j k : Counts} {y z : End A} → IsAlike j y k z → IsAlike (both i j) y (both i k) z
behind i (Same k x a) = Same (both i k) x a
behind i (SameTrap j k stop a b le) = SameTrap (both i j) (both i k) stop a b (omega (arith, le))

-- with more after the later one of two that trap
longer : {A : Type 0} (i : Counts) {j k : Counts} {y z : End A} → IsAlike j y k z → (stop : TrapAt) (a : Arrays) → z ≡ Trapped stop a
    → IsAlike j y (both k i) z
longer i (Same k x a) stop b p = absurd (cc)
longer i (SameTrap j k s a b le) stop c p = SameTrap j (both k i) s a b (omega (arith, le))

-- what is alike to no trap is the same
same_counts : {A : Type 0} {j k : Counts} {y z : End A} → IsAlike j y k z → (x : A) (a : Arrays) → z ≡ Ended x a → j ≡ k
same_counts (Same k x a) x' a' p = refl
same_counts (SameTrap j k stop a b le) x' a' p = absurd (cc)

same_end : {A : Type 0} {j k : Counts} {y z : End A} → IsAlike j y k z → (x : A) (a : Arrays) → z ≡ Ended x a → y ≡ z
same_end (Same k x a) x' a' p = refl
same_end (SameTrap j k stop a b le) x' a' p = absurd (cc)

-- what a caller makes of ends alike
returned_alike : (t : Option Named) (f : Frame) {j k : Counts} {y z : End ℤ} → IsAlike j y k z → IsAlike j (returned t f y) k (returned t f z)
returned_alike t f (Same k x a) = alike k (returned t f (Ended x a))
returned_alike t f (SameTrap j k stop a b le) = SameTrap j k stop a b le

-- what a body gives after ends alike
given_alike : (g : Option Give) (f : Frame) {j k : Counts} {y z : End Locals} → IsAlike j y k z
    → IsAlike (both j (give_turn g y)) (given g f y) (both k (give_turn g z)) (given g f z)
given_alike g f (Same k x a) = alike (both k (give_turn g (Ended x a))) (given g f (Ended x a))
given_alike g f (SameTrap j k stop a b le) = SameTrap (both j none) (both k none) stop a b (omega (arith, le))

-- three counts one after the other, either way
counts_same : {j k : Counts} → j.turns ≡ k.turns → j.forks ≡ k.forks → j.begun ≡ k.begun → j ≡ k
counts_same p q r = λ i. record { turns = p i; forks = q i; begun = r i }

both_assoc : (i j k : Counts) → both (both i j) k ≡ both i (both j k)
both_assoc i j k = counts_same (omega arith) (omega arith) (append_assoc i.begun j.begun k.begun)

grouped : {A : Type 0} (i j k l m : Counts) {y z : End A} → IsAlike (both (both i j) k) y (both (both i l) m) z
    → IsAlike (both i (both j k)) y (both i (both l m)) z
grouped i j k l m {y} {z} h = subst₂ (λ (j k : Counts). IsAlike j y k z) (both_assoc i j k) (both_assoc i l m) h

-- the whole form is not the plain one
not_plain : Whole ≡ Plain → ⊥
not_plain p = cc

-- what runs after a trap is the trap
stays : {form : Form} {procedures : List Procedure} {b : Block} {f : Frame} {u : End Locals} {k : Counts} {z : End Locals} → Follows form procedures b f u k z
    → (stop : TrapAt) (a : Arrays) → u ≡ Trapped stop a → z ≡ Trapped stop a
stays (GoesOn b f l a r) stop c p = absurd (cc)
stays (Stops b f stop a) stop' a' p = p

module _ (procedures : List Procedure) where
  -- the plain form ends so too
  abbrev PlainRuns : Block → Frame → Arrays → Counts → End Locals → Type 0
  PlainRuns b f a k z = (j : Counts) × (y : End Locals) × Runs Plain procedures b f a j y × IsAlike j y k z

  abbrev PlainLoops : Expression → Block → Frame → Arrays → Counts → End Locals → Type 0
  PlainLoops e s f a k z = (j : Counts) × (y : End Locals) × Loops Plain procedures e s f a j y × IsAlike j y k z

  abbrev PlainEnters : Procedure → Frame → Arrays → Counts → End ℤ → Type 0
  PlainEnters p f a k z = (j : Counts) × (y : End ℤ) × Enters Plain procedures p f a j y × IsAlike j y k z

  abbrev PlainSweeps : Named → Named → Block → Region → Frame → ℕ → ℕ → Arrays → Counts → End Locals → Type 0
  PlainSweeps i x s r f n m a k z = (j : Counts) × (y : End Locals) × Sweeps Plain procedures i x s r f n m a j y × IsAlike j y k z

  -- the rest of a block, after ends alike
  abbrev PlainFollows : Block → Frame → End Locals → Counts → End Locals → Type 0
  PlainFollows b f u k z = (i j : Counts) (v : End Locals) → IsAlike i v j u
      → (l : Counts) × (y : End Locals) × Follows Plain procedures b f v l y × IsAlike (both i l) y (both j k) z

  goes_alike : {b : Block} {f : Frame} {k : Counts} {z : End Locals} (l : Locals) (a : Arrays) → PlainRuns b (with_locals f l) a k z
      → PlainFollows b f (Ended l a) k z
  goes_alike l a p _ _ _ (Same k x c) = (p.0, p.1, GoesOn _ _ l a p.2, behind k p.3)

  stops_alike : {b : Block} {f : Frame} (stop : TrapAt) (a : Arrays) → PlainFollows b f (Trapped stop a) none (Trapped stop a)
  stops_alike stop a _ _ _ (SameTrap i j s c d le) =
      (none, Trapped stop c, Stops _ _ stop c, SameTrap (both i none) (both j none) stop c d (omega (arith, le)))

  -- a statement that spends a turn, and what follows it
  one_turn : (b : Block) (f : Frame) (u : End Locals) (k : Counts) (z : End Locals) → PlainFollows b f u k z
      → (j : Counts) × (y : End Locals) × Follows Plain procedures b f u j y × IsAlike (both (spent 1) j) y (both (spent 1) k) z
  one_turn b f u k z p = p (spent 1) (spent 1) u (alike (spent 1) u)

  -- the ends of two branches, alike, after a left one without a trap
  joined_alike : (x y : Option Named) (f : Frame) (v : ℤ) (a : Arrays) {j k : Counts} {u w : End ℤ} → IsAlike j u k w
      → IsAlike j (joined x y f (Ended v a) u) k (joined x y f (Ended v a) w)
  joined_alike x y f v a (Same k w b) = alike k (joined x y f (Ended v a) (Ended w b))
  joined_alike x y f v a (SameTrap j k stop b c le) = SameTrap j k stop b c le

  -- a fork whose left branch ends alike, from what the right one and the rest do
  fork_alike : (s t : Side) (b : Block) (f g h : Frame) (a : Arrays) {i i' j k : Counts} {x x' y : End ℤ} {z : End Locals}
      → both_entered procedures f a s t ≡ Ok (g, h) → Enters Plain procedures (procedure_named procedures s.callee.name) g a i' x' → IsAlike i' x' i x
      → PlainEnters (procedure_named procedures t.callee.name) h (arrays_of x) j y → PlainFollows b f (joined s.target t.target f x y) k z
      → Follows Whole procedures b f (joined s.target t.target f x y) k z
      → PlainRuns (Then (tree.Fork s t) b) f a (both (forked s t) (both i (both j k))) z
  fork_alike s t b f g h a {j = j} {y = y} is l (Same i v c) r w w' =
      let q = w (both i r.0) (both i j) _ (joined_alike s.target t.target f v c (behind i r.3)) in
      (both (forked s t) (both i (both r.0 q.0)), q.1, Forks s t b f g h a is l refl r.2 q.2, behind (forked s t) (grouped i r.0 q.0 j _ q.3))
  fork_alike s t b f g h a {j = j} {k = k} {y = y} {z = z} is l (SameTrap i' i stop c d le) r w w' =
      let e = stays w' stop (arrays_of y) refl in
      let stopped = SameTrap (both (forked s t) i') (both (forked s t) (both i (both j k))) stop c (arrays_of y) (omega (arith, le)) in (
        both (forked s t) i',
        Trapped stop c,
        ForkStops s t b f g h a c stop is refl l,
        subst (λ (z : End Locals). IsAlike (both (forked s t) i') (Trapped stop c) (both (forked s t) (both i (both j k))) z) (sym e) stopped,
      )

  -- one block of an `each` that ends alike, from what those after it do
  sweep_alike : (i x : Named) (s : Block) (r : Region) (f : Frame) (n m : ℕ) (a : Arrays) {j j' k : Counts} {y y' z : End Locals}
      → Runs Plain procedures s (with_element f r n i x) a j' y' → IsAlike j' y' j y → PlainSweeps i x s r f (suc n) m (arrays_of y) k z
      → PlainSweeps i x s r f n (suc m) a (both (spent 8) (both j k)) (first_trap y z)
  sweep_alike i x s r f n m a d (Same j v c) q = (both (spent 8) (both j q.0), q.1, Sweep i x s r f n m a d refl q.2, behind (spent 8) (behind j q.3))
  sweep_alike i x s r f n m a {k = k} {z = z} d (SameTrap j' j stop c e le) q = (
    both (spent 8) j',
    Trapped stop c,
    SweepStops i x s r f n m a c stop refl d,
    SameTrap (both (spent 8) j') (both (spent 8) (both j k)) stop c
        (arrays_of z) (omega (arith, le)),
  )

  -- one block of a loop that ends alike, from what the loop after it does
  turn_alike : (e : Expression) (s : Block) (f : Frame) (a c : Arrays) (v : ℤ) (l : Locals) {j k : Counts} {z : End Locals}
      → evaluate f a e ≡ Ok v → holds v ≡ true → PlainRuns s f a j (Ended l c) → PlainLoops e s (with_locals f l) c k z
      → PlainLoops e s f a (both (spent 1) (both j k)) z
  turn_alike e s f a c v l is hold (_, _, r, Same j x d) q =
      (both (spent 1) (both j q.0), q.1, Turns e s f a c v l is hold r q.2, behind (spent 1) (behind j q.3))

  turn_traps_alike : (e : Expression) (s : Block) (f : Frame) (a c : Arrays) (v : ℤ) (stop : TrapAt) {j : Counts}
      → evaluate f a e ≡ Ok v → holds v ≡ true → PlainRuns s f a j (Trapped stop c) → PlainLoops e s f a (both (spent 1) j) (Trapped stop c)
  turn_traps_alike e s f a c v stop is hold (_, _, r, SameTrap i j _ b _ le) =
      (both (spent 1) i, Trapped stop b, TurnTraps e s f a b v stop is hold r, SameTrap (both (spent 1) i) (both (spent 1) j) stop b c (omega (arith, le)))

  mutual
    pub whole : {b : Block} {f : Frame} {a : Arrays} {k : Counts} {z : End Locals} → Runs Whole procedures b f a k z → PlainRuns b f a k z
    whole (Done f a) = (none, Ended f.locals a, Done f a, alike none (Ended f.locals a))
    whole (Lets x e b f a {k = k} {z = z} r) = let p =
        one_turn b f (assigned x e f a) k z (whole_follows r) in (both (spent 1) p.0, p.1, Lets x e b f a p.2, p.3)
    whole (Assigns x e b f a {k = k} {z = z} r) = let p =
        one_turn b f (assigned x e f a) k z (whole_follows r) in (both (spent 1) p.0, p.1, Assigns x e b f a p.2, p.3)
    whole (Puts x i e b f a {k = k} {z = z} r) = let p =
        one_turn b f (stored x i e f a) k z (whole_follows r) in (both (spent 1) p.0, p.1, Puts x i e b f a p.2, p.3)
    whole (Ifs e s t b f a v is r w) =
        let p = whole r in
        let q = whole_follows w p.0 _ p.1 p.3 in
        (both (spent 1) (both p.0 q.0), q.1, Ifs e s t b f a v is p.2 q.2, behind (spent 1) q.3)
    whole (IfTraps e s t b f a stop is) = (spent 1, Trapped stop a, IfTraps e s t b f a stop is, alike (spent 1) (Trapped stop a))
    whole (Whiles e s b f a r w) =
        let p = whole_loops r in
        let q = whole_follows w p.0 _ p.1 p.3 in
        (both (spent 1) (both p.0 q.0), q.1, Whiles e s b f a p.2 q.2, behind (spent 1) q.3)
    whole (Calls s b f g a is r w) =
        let p = whole_enters r in
        let q = whole_follows w p.0 _ _ (returned_alike s.target f p.3) in
        (both (began (run.Call s.callee.name)) (both p.0 q.0), q.1, Calls s b f g a is p.2 q.2, behind (began (run.Call s.callee.name)) q.3)
    whole (CallTraps s b f a stop is) = (
      began (run.Call s.callee.name),
      Trapped stop a,
      CallTraps s b f a stop is,
      alike (began
          (run.Call s.callee.name)) (Trapped stop a),
    )
    whole (Forks s t b f g h a is l on r w) = let p = whole_enters l in fork_alike s t b f g h a is p.2 p.3 (whole_enters r) (whole_follows w) w
    whole (ForkStops s t b f g h a c stop is plain l) = absurd (not_plain plain)
    whole (ForkTraps s t b f a stop is) = (
      began (run.Fork s.callee.name t.callee.name),
      Trapped stop a,
      ForkTraps s t b f a stop is,
      alike (began
          (run.Fork s.callee.name t.callee.name)) (Trapped stop a),
    )
    whole (Splits line r e x y s b f a n is d w) =
        let p = whole d in
        let q = whole_follows w p.0 _ p.1 p.3 in
        (both (spent 1) (both p.0 q.0), q.1, Splits line r e x y s b f a n is p.2 q.2, behind (spent 1) q.3)
    whole (SplitTraps line r e x y s b f a stop is) = (spent 1, Trapped stop a, SplitTraps line r e x y s b f a stop is, alike (spent 1) (Trapped stop a))
    whole (Eaches i x r s b f a d w) =
        let c = swept i x r s (f.regions r.name).length in
        let p = whole_sweeps d in
        let q = whole_follows w p.0 _ p.1 p.3 in
        (both c (both p.0 q.0), q.1, Eaches i x r s b f a p.2 q.2, behind c q.3)

    whole_follows : {b : Block} {f : Frame} {u : End Locals} {k : Counts} {z : End Locals} → Follows Whole procedures b f u k z → PlainFollows b f u k z
    whole_follows (GoesOn b f l a r) = goes_alike l a (whole r)
    whole_follows (Stops b f stop a) = stops_alike stop a

    whole_loops : {e : Expression} {s : Block} {f : Frame} {a : Arrays} {k : Counts} {z : End Locals} → Loops Whole procedures e s f a k z
        → PlainLoops e s f a k z
    whole_loops (TestFails e s f a v is fail) = (spent 1, Ended f.locals a, TestFails e s f a v is fail, alike (spent 1) (Ended f.locals a))
    whole_loops (TestTraps e s f a stop is) = (spent 1, Trapped stop a, TestTraps e s f a stop is, alike (spent 1) (Trapped stop a))
    whole_loops (Turns e s f a c v l is hold r w) = turn_alike e s f a c v l is hold (whole r) (whole_loops w)
    whole_loops (TurnTraps e s f a c v stop is hold r) = turn_traps_alike e s f a c v stop is hold (whole r)

    pub whole_enters : {p : Procedure} {f : Frame} {a : Arrays} {k : Counts} {z : End ℤ} → Enters Whole procedures p f a k z → PlainEnters p f a k z
    whole_enters (Enter p f a r) =
        let q = whole r in
        (both (spent 1) (both q.0 (give_turn p.give q.1)), given p.give f q.1, Enter p f a q.2, behind (spent 1) (given_alike p.give f q.3))

    whole_sweeps : {i x : Named} {s : Block} {r : Region} {f : Frame} {n m : ℕ} {a : Arrays} {k : Counts} {z : End Locals}
        → Sweeps Whole procedures i x s r f n m a k z → PlainSweeps i x s r f n m a k z
    whole_sweeps (Swept i x s r f n a) = (none, Ended f.locals a, Swept i x s r f n a, alike none (Ended f.locals a))
    whole_sweeps (Sweep i x s r f n m a d on w) = let p = whole d in sweep_alike i x s r f n m a p.2 p.3 (whole_sweeps w)
    whole_sweeps (SweepStops i x s r f n m a c stop plain d) = absurd (not_plain plain)
