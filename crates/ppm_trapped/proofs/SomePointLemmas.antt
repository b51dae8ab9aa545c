-- A run to a trap reaches a point at which what is evaluated has this trap: by recursion on the run.
use Rattle.std.proofs.Common.{◌≡◌, ◌<◌, ℕ, zero, suc, ◌+◌, ℤ, pos, List, Option, Some, None, Result, Ok, Err, refl, sym, ap, subst, arith, ◌∙◌}
use Rattle.ppm_tree.specs.declared.named.Named.{Named}
use Rattle.ppm_tree.specs.Tree.{Expression, Statement, Block, Nil, Then, Let, Assign, Put, If, While, Split, Give, Procedure}
use Rattle.ppm_tree.specs.Tree as tree
use Rattle.ppm_tree.specs.State.{TrapAt, Region, Locals, Frame, Arrays, evaluate, put_values, with_local, with_locals, with_word}
use Rattle.ppm_tree.specs.Meaning.{Plain, Counts, spent, both, none, End, Ended, Trapped, end_of, returned, joined, given, with_element}
use Rattle.ppm_tree.specs.Meaning.{Runs, Follows, Loops, Enters, Sweeps}
use Rattle.ppm_tree.specs.Meaning.{Done, Lets, Assigns, Puts, Ifs, IfTraps, Whiles, Calls, CallTraps, Forks, ForkStops, ForkTraps, Splits, SplitTraps, Eaches}
use Rattle.ppm_tree.specs.Meaning.{GoesOn, Stops, TestFails, TestTraps, Turns, TurnTraps, Enter, Swept, Sweep, SweepStops}
use Rattle.ppm_trapped.specs.Sites.{Gives, Point, trap_of, statement_trap, deed_trap, Meets, Reaches, Begins}
use Rattle.ppm_trapped.specs.Sites.{Itself, InChosen, InLoop, Again, InCall, InLeft, InRight, InParts, InElement, First, Later, InBody, AtGive}
use Rattle.ppm_trapped.specs.Correct.{TrapsHavePoints}
use Rattle.ppm_trapped.proofs.SiteLemmas.{sweeps_on}

-- ends that are one trap
abbrev trapped : (A : Type 0) → TrapAt → Arrays → End A
trapped A s a = Trapped s a

trap_same : {A : Type 0} {s t : TrapAt} {a b : Arrays} → trapped A s a ≡ trapped A t b → s ≡ t
trap_same e = cc

-- the trap of a result whose end is one
of_end : {A B : Type 0} (r : Result A TrapAt) (a b : Arrays) (value : A → B) (arrays : A → Arrays) (stop : TrapAt)
    → end_of r a (λ x. Ended (value x) (arrays x)) ≡ Trapped stop b → trap_of r ≡ Some stop
of_end (Ok x) a b value arrays stop e = cc
of_end (Err s) a b value arrays stop e = ap (λ (t : TrapAt). Some t) (trap_same e)

-- a trap of a block, as one of a procedure
abbrev to_callee : End Locals → End ℤ
to_callee (Ended l a) = Ended (pos 0) a
to_callee (Trapped stop a) = Trapped stop a

-- the trap of a callee, by that of the caller
of_returned : (x : Option Named) (f : Frame) (y : End ℤ) (stop : TrapAt) (b : Arrays) → returned x f y ≡ Trapped stop b → y ≡ Trapped stop b
of_returned x f (Ended v a) stop b e = cc
of_returned x f (Trapped s a) stop b e = ap to_callee e

-- the trap of the right branch, where the left one has ended
of_joined : (x y : Option Named) (f : Frame) (v : ℤ) (c : Arrays) (z : End ℤ) (stop : TrapAt) (b : Arrays) → joined x y f (Ended v c) z ≡ Trapped stop b
    → z ≡ Trapped stop b
of_joined x y f v c (Ended w a) stop b e = cc
of_joined x y f v c (Trapped s a) stop b e = ap to_callee e

module _ (ps : List Procedure) where
  -- a point of these at which what is evaluated has the trap
  record Has (Reached : Point → Type 0) (stop : TrapAt) : Type 0 where
    point : Point
    reached : Reached point
    trap : deed_trap ps point.frame point.arrays point.deed ≡ Some stop

  -- in others, if each is one of these
  moved : {R Q : Point → Type 0} {stop : TrapAt} → ((z : Point) → R z → Q z) → Has R stop → Has Q stop
  moved to h = record { point = h.point; reached = to h.point h.reached; trap = h.trap }

  -- the statement itself
  here : (p : Procedure) (s : Statement) (b : Block) (f : Frame) (a : Arrays) (stop : TrapAt) → statement_trap ps f a s ≡ Some stop
      → Has (Reaches ps p (Then s b) f a) stop
  here p s b f a stop e = record { point = _; reached = First p s b f a _ (Itself p s f a); trap = e }

  -- within the statement
  within : (p : Procedure) (s : Statement) (b : Block) (f : Frame) (a : Arrays) {stop : TrapAt} → Has (Meets ps p s f a) stop
      → Has (Reaches ps p (Then s b) f a) stop
  within p s b f a h = moved (λ z m. First p s b f a z m) h

  -- the rest of a block traps: the statement in front has, or it has ended
  data After (p : Procedure) (b : Block) (f : Frame) (y : End Locals) (stop : TrapAt) : Type 0 where
    AtOnce : (a : Arrays) → y ≡ Trapped stop a → After p b f y stop
    Behind : (l : Locals) (c : Arrays) → y ≡ Ended l c → Has (Reaches ps p b (with_locals f l) c) stop → After p b f y stop

  -- the run of a statement alone that has ended
  ended : (f : Frame) (l : Locals) (c : Arrays) (y : End Locals) → y ≡ Ended l c → Follows Plain ps Nil f y none (Ended l c)
  ended f l c y e = subst (λ (y : End Locals). Follows Plain ps Nil f y none (Ended l c)) (sym e) (GoesOn Nil f l c (Done (with_locals f l) c))

  -- a point after a statement, whose run alone makes this end
  behind : (p : Procedure) (s : Statement) (b : Block) (f : Frame) (a : Arrays) (stop : TrapAt) (y : End Locals)
      → ((l : Locals) (c : Arrays) → y ≡ Ended l c → (k : Counts) × Runs Plain ps (Then s Nil) f a k (Ended l c))
      → ((c : Arrays) → y ≡ Trapped stop c → Has (Reaches ps p (Then s b) f a) stop) → After p b f y stop → Has (Reaches ps p (Then s b) f a) stop
  behind p s b f a stop y run traps (AtOnce c e) = traps c e
  behind p s b f a stop y run traps (Behind l c e h) = let r = run l c e in moved (λ z m. Later p s b f a c l r.0 z r.1 m) h

  -- the blocks of an `each` so far, and one more
  one_more : (i x : Named) (s : Block) (r : Region) (f : Frame) (n : ℕ) {a b c : Arrays} {k j : Counts} {l : Locals}
      → Sweeps Plain ps i x s r f 0 n a k (Ended f.locals b) → Runs Plain ps s (with_element f r n i x) b j (Ended l c)
      → (m : Counts) × Sweeps Plain ps i x s r f 0 (suc n) a m (Ended f.locals c)
  one_more i x s r f n {a = a} {b = b} {c = c} {j = j} front run =
      let at : n ≡ 0 + n = omega arith in
      let size : n + 1 ≡ suc n = omega arith in
      let last : Sweeps Plain ps i x s r f n 1 b (both (spent 8) (both j none)) (Ended f.locals c) = Sweep i x s r f n zero b run refl (Swept i x s r f (suc n) c) in
      let q = sweeps_on ps i x s r f front refl (subst (λ (o : ℕ). Sweeps Plain ps i x s r f o 1 b (both (spent 8) (both j none)) (Ended f.locals c)) at last) in
      (q.0, subst (λ (m : ℕ). Sweeps Plain ps i x s r f 0 m a q.0 (Ended f.locals c)) size q.1)

  -- a point in one of the first blocks of an `each`, so many
  record InBlocks (p : Procedure) (i x : Named) (s : Block) (r : Region) (f : Frame) (a : Arrays) (size : ℕ) (z : Point) : Type 0 where
    index : ℕ
    counts : Counts
    arrays : Arrays
    below : index < size
    front : Sweeps Plain ps i x s r f 0 index a counts (Ended f.locals arrays)
    reached : Reaches ps p s (with_element f r index i x) arrays z

  mutual
    runs : (p : Procedure) {b : Block} {f : Frame} {a c : Arrays} {k : Counts} {z : End Locals} (stop : TrapAt) → Runs Plain ps b f a k z
        → z ≡ Trapped stop c → Has (Reaches ps p b f a) stop
    runs p stop (Done f a) e = cc
    runs p stop (Lets x e b f a w) i =
        behind p (Let x e) b f a stop _ (λ l c q. (_, Lets x e Nil f a (ended f l c _ q)))
        (λ c q. here p (Let x e) b f a stop (of_end (evaluate f a e) a c (λ v. (with_local f x.name v).locals) (λ v. a) stop q)) (follows p stop w i)
    runs p stop (Assigns x e b f a w) i =
        behind p (Assign x e) b f a stop _ (λ l c q. (_, Assigns x e Nil f a (ended f l c _ q)))
        (λ c q. here p (Assign x e) b f a stop (of_end (evaluate f a e) a c (λ v. (with_local f x.name v).locals) (λ v. a) stop q)) (follows p stop w i)
    runs p stop (Puts x o e b f a w) i =
        behind p (Put x o e) b f a stop _ (λ l c q. (_, Puts x o e Nil f a (ended f l c _ q)))
        (λ c q. here p (Put x o e) b f a stop (of_end (put_values f a x o e) a c (λ v. f.locals) (λ v. with_word a (f.regions x.name) v.0 v.1) stop q)) (follows p stop w i)
    runs p stop (Ifs e s t b f a v is r w) i =
        behind p (If e s t) b f a stop _ (λ l c q. (_, Ifs e s t Nil f a v is r (ended f l c _ q)))
        (λ c q. within p (If e s t) b f a (moved (λ z m. InChosen p e s t f a v z is m) (runs p stop r q))) (follows p stop w i)
    runs p stop (IfTraps e s t b f a o is) i = here p (If e s t) b f a stop (ap trap_of is ∙ ap (λ (t : TrapAt). Some t) (trap_same i))
    runs p stop (Whiles e s b f a r w) i =
        behind p (While e s) b f a stop _ (λ l c q. (_, Whiles e s Nil f a r (ended f l c _ q)))
        (λ c q. within p (While e s) b f a (loops p stop r q)) (follows p stop w i)
    runs p stop (Calls s b f g a {y = y} is r w) i =
        behind p (tree.Call s) b f a stop _ (λ l c q. (_, Calls s Nil f g a is r (ended f l c _ q)))
        (λ c q. within p (tree.Call s) b f a (moved (λ z m. InCall p s f g a z is m) (enters stop r (of_returned s.target f y stop c q)))) (follows p stop w i)
    runs p stop (CallTraps s b f a o is) i = here p (tree.Call s) b f a stop (ap trap_of is ∙ ap (λ (t : TrapAt). Some t) (trap_same i))
    runs p stop (Forks s t b f g h a {x = Ended v d} {y = y} is left on right w) i =
        behind p (tree.Fork s t) b f a stop _ (λ l c q. (_, Forks s t Nil f g h a is left on right (ended f l c _ q)))
        (λ c q. within p (tree.Fork s t) b f a (moved (λ z m. InRight p s t f g h a d v _ z is left m)
        (enters stop right (of_joined s.target t.target f v d y stop c q)))) (follows p stop w i)
    runs p stop (Forks s t b f g h a {x = Trapped o d} is left on right w) i = cc
    runs p stop (ForkStops s t b f g h a d o is plain left) i =
        within p (tree.Fork s t) b f a (moved (λ z m. InLeft p s t f g h a z is m) (enters stop left (ap (λ (o : TrapAt). Trapped o d) (trap_same i))))
    runs p stop (ForkTraps s t b f a o is) i = here p (tree.Fork s t) b f a stop (ap trap_of is ∙ ap (λ (t : TrapAt). Some t) (trap_same i))
    runs p stop (Splits line r e x y s b f a n is d w) i =
        behind p (Split line r e x y s) b f a stop _ (λ l c q. (_, Splits line r e x y s Nil f a n is d (ended f l c _ q)))
        (λ c q. within p (Split line r e x y s) b f a (moved (λ z m. InParts p line r e x y s f a n z is m) (runs p stop d q))) (follows p stop w i)
    runs p stop (SplitTraps line r e x y s b f a o is) i = here p (Split line r e x y s) b f a stop (ap trap_of is ∙ ap (λ (t : TrapAt). Some t) (trap_same i))
    runs p stop (Eaches i x r s b f a d w) e =
        behind p (tree.Each i x r s) b f a stop _ (λ l c q. (_, Eaches i x r s Nil f a d (ended f l c _ q)))
        (λ c q. within p (tree.Each i x r s) b f a (moved (λ z m. InElement p i x r s f a m.arrays m.index m.counts z m.below m.front m.reached)
        (sweeps p i x s stop (f.regions r.name).length (omega arith) (Swept i x s (f.regions r.name) f 0 a) d q))) (follows p stop w e)

    follows : (p : Procedure) {b : Block} {f : Frame} {y z : End Locals} {c : Arrays} {k : Counts} (stop : TrapAt) → Follows Plain ps b f y k z
        → z ≡ Trapped stop c → After p b f y stop
    follows p stop (GoesOn b f l a r) e = Behind l a refl (runs p stop r e)
    follows p stop (Stops b f o a) e = AtOnce a (ap (λ (o : TrapAt). Trapped o a) (trap_same e))

    loops : (p : Procedure) {e : Expression} {s : Block} {f : Frame} {a c : Arrays} {k : Counts} {z : End Locals} (stop : TrapAt)
        → Loops Plain ps e s f a k z → z ≡ Trapped stop c → Has (Meets ps p (While e s) f a) stop
    loops p stop (TestFails e s f a v is fail) i = cc
    loops p stop (TestTraps e s f a o is) i =
        record { point = _; reached = Itself p (While e s) f a; trap = ap trap_of is ∙ ap (λ (t : TrapAt). Some t) (trap_same i) }
    loops p stop (Turns e s f a d v l is hold r w) i = moved (λ z m. Again p e s f a d v l _ z is hold r m) (loops p stop w i)
    loops p stop (TurnTraps e s f a d v o is hold r) i =
        moved (λ z m. InLoop p e s f a v z is hold m) (runs p stop r (ap (λ (o : TrapAt). Trapped o d) (trap_same i)))

    enters : {p : Procedure} {f : Frame} {a c : Arrays} {k : Counts} {z : End ℤ} (stop : TrapAt) → Enters Plain ps p f a k z → z ≡ Trapped stop c
        → Has (Begins ps p f a) stop
    enters stop (Enter p f a {y = Trapped o d} r) e =
        moved (λ z m. InBody p f a z m) (runs p stop r (ap (λ (o : TrapAt). Trapped o d) (trap_same e)))
    enters {c = c} stop (Enter p f a {j = j} {y = Ended l d} r) e = go p.give refl e
      where
        go : (g : Option Give) → p.give ≡ g → given g f (Ended l d) ≡ Trapped stop c → Has (Begins ps p f a) stop
        go None is e = cc
        go (Some g) is e = record {
          point = record { procedure = p; deed = Gives g; frame = with_locals f l; arrays = d };
          reached = AtGive p g f a d l j r is;
          trap = of_end (evaluate (with_locals f l) d g.value) d c (λ v. v) (λ v. d) stop e;
        }

    -- the blocks of an `each` from one on, after those that have ended
    sweeps : (p : Procedure) (i x : Named) (s : Block) {r : Region} {f : Frame} {n m : ℕ} {a b c : Arrays} {j k : Counts} {z : End Locals} (stop : TrapAt)
        (size : ℕ) → n + m ≡ size → Sweeps Plain ps i x s r f 0 n a j (Ended f.locals b) → Sweeps Plain ps i x s r f n m b k z → z ≡ Trapped stop c
        → Has (InBlocks p i x s r f a size) stop
    sweeps p i x s stop size all front (Swept _ _ _ r f n b) e = cc
    sweeps p i x s stop size all front (Sweep _ _ _ r f n m b {y = Ended l d} run on rest) e =
        let more : suc n + m ≡ size = omega (arith, all) in sweeps p i x s stop size more (one_more i x s r f n front run).1 rest e
    sweeps p i x s stop size all front (Sweep _ _ _ r f n m b {y = Trapped o d} run on rest) e = cc
    sweeps p i x s {j = j} stop size all front (SweepStops _ _ _ r f n m b d o plain run) e =
        let below : n < size = omega (arith, all) in
        moved (λ z q. record { index = n; counts = j; arrays = b; below = below; front = front; reached = q })
        (runs p stop run (ap (λ (o : TrapAt). Trapped o d) (trap_same e)))

-- so it is with programs
pub traps_have_points : TrapsHavePoints
traps_have_points t k stop a run = let h = enters t.procedures stop run refl in (h.point, record { reached = h.reached; trap = h.trap })
