-- Where the plain form ends without a trap, the whole one ends the same: by recursion on the plain run.
use Rattle.std.proofs.Common.{ℕ, ℤ, List, Option, Some, None, refl}
use Rattle.ppm_tree.specs.Tree.{Named, Expression, Block, Give, Procedure, ProgramTree}
use Rattle.ppm_tree.specs.State.{Region, Locals, Frame, Arrays}
use Rattle.ppm_tree.specs.Meaning.{Plain, Whole, Counts, given, End, Ended, Trapped, first_trap, returned, joined, Runs, Follows, Loops, Enters, Sweeps}
use Rattle.ppm_tree.specs.Meaning.{Done, Lets, Assigns, Puts, Ifs, IfTraps, Whiles, Calls, CallTraps, Forks, ForkStops, ForkTraps, Splits, SplitTraps}
use Rattle.ppm_tree.specs.Meaning.{Eaches, GoesOn, Stops, TestFails, TestTraps, Turns, TurnTraps, Enter, Swept, Sweep, SweepStops}
use Rattle.ppm_tree.specs.Correct.{EndsWhole}
use Rattle.ppm_tree.proofs.PlainEnds.{whole_enters}

-- an end without a trap
abbrev IsEnd : {A : Type 0} → End A → Type 0
IsEnd (Ended x a) = Unit {0}
IsEnd (Trapped stop a) = ⊥

-- what a call, a fork, an `each` or a body ends with, without a trap, comes from such ends
before_return : (t : Option Named) (f : Frame) (y : End ℤ) → IsEnd (returned t f y) → IsEnd y
before_return t f (Ended v a) h = h
before_return t f (Trapped stop a) h = h

before_join : (s t : Option Named) (f : Frame) (x y : End ℤ) → IsEnd (joined s t f x y) → IsEnd x × IsEnd y
before_join s t f (Ended v a) (Ended w b) h = (h, h)
before_join s t f (Ended v a) (Trapped stop b) h = absurd h
before_join s t f (Trapped stop a) y h = absurd h

before_give : (g : Option Give) (f : Frame) (y : End Locals) → IsEnd (given g f y) → IsEnd y
before_give None f (Ended l a) h = h
before_give (Some g) f (Ended l a) h = record {}
before_give g f (Trapped stop a) h = h

before_rest : (y z : End Locals) → IsEnd (first_trap y z) → IsEnd y × IsEnd z
before_rest (Ended l a) z h = (record {}, h)
before_rest (Trapped stop a) z h = absurd h

module _ (procedures : List Procedure) where
  -- what follows is without a trap only after what has none
  before : {b : Block} {f : Frame} {u : End Locals} {k : Counts} {z : End Locals} → Follows Plain procedures b f u k z → IsEnd z → IsEnd u
  before (GoesOn b f l a r) h = record {}
  before (Stops b f stop a) h = h

  mutual
    wholly : {b : Block} {f : Frame} {a : Arrays} {k : Counts} {z : End Locals} → Runs Plain procedures b f a k z → IsEnd z → Runs Whole procedures b f a k z
    wholly (Done f a) h = Done f a
    wholly (Lets x e b f a r) h = Lets x e b f a (wholly_follows r h)
    wholly (Assigns x e b f a r) h = Assigns x e b f a (wholly_follows r h)
    wholly (Puts x i e b f a r) h = Puts x i e b f a (wholly_follows r h)
    wholly (Ifs e s t b f a v is r w) h = Ifs e s t b f a v is (wholly r (before w h)) (wholly_follows w h)
    wholly (IfTraps e s t b f a stop is) h = absurd h
    wholly (Whiles e s b f a r w) h = Whiles e s b f a (wholly_loops r (before w h)) (wholly_follows w h)
    wholly (Calls s b f g a {y = y} is r w) h = Calls s b f g a is (wholly_enters r (before_return s.target f y (before w h))) (wholly_follows w h)
    wholly (CallTraps s b f a stop is) h = absurd h
    wholly (Forks s t b f g i a {x = x} {y = y} is l on r w) h =
        let ends = before_join s.target t.target f x y (before w h) in
        Forks s t b f g i a is (wholly_enters l ends.0) refl (wholly_enters r ends.1) (wholly_follows w h)
    wholly (ForkStops s t b f g i a c stop is plain l) h = absurd h
    wholly (ForkTraps s t b f a stop is) h = absurd h
    wholly (Splits line r e x y s b f a n is d w) h = Splits line r e x y s b f a n is (wholly d (before w h)) (wholly_follows w h)
    wholly (SplitTraps line r e x y s b f a stop is) h = absurd h
    wholly (Eaches i x r s b f a d w) h = Eaches i x r s b f a (wholly_sweeps d (before w h)) (wholly_follows w h)

    wholly_follows : {b : Block} {f : Frame} {u : End Locals} {k : Counts} {z : End Locals} → Follows Plain procedures b f u k z → IsEnd z
        → Follows Whole procedures b f u k z
    wholly_follows (GoesOn b f l a r) h = GoesOn b f l a (wholly r h)
    wholly_follows (Stops b f stop a) h = Stops b f stop a

    wholly_loops : {e : Expression} {s : Block} {f : Frame} {a : Arrays} {k : Counts} {z : End Locals} → Loops Plain procedures e s f a k z → IsEnd z
        → Loops Whole procedures e s f a k z
    wholly_loops (TestFails e s f a v is fail) h = TestFails e s f a v is fail
    wholly_loops (TestTraps e s f a stop is) h = TestTraps e s f a stop is
    wholly_loops (Turns e s f a c v l is hold r w) h = Turns e s f a c v l is hold (wholly r (record {})) (wholly_loops w h)
    wholly_loops (TurnTraps e s f a c v stop is hold r) h = absurd h

    wholly_enters : {p : Procedure} {f : Frame} {a : Arrays} {k : Counts} {z : End ℤ} → Enters Plain procedures p f a k z → IsEnd z
        → Enters Whole procedures p f a k z
    wholly_enters (Enter p f a {y = y} r) h = Enter p f a (wholly r (before_give p.give f y h))

    wholly_sweeps : {i x : Named} {s : Block} {r : Region} {f : Frame} {n m : ℕ} {a : Arrays} {k : Counts} {z : End Locals}
        → Sweeps Plain procedures i x s r f n m a k z → IsEnd z → Sweeps Whole procedures i x s r f n m a k z
    wholly_sweeps (Swept i x s r f n a) h = Swept i x s r f n a
    wholly_sweeps (Sweep i x s r f n m a {y = y} {z = z} d on w) h =
        let ends = before_rest y z h in
        Sweep i x s r f n m a (wholly d ends.0) refl (wholly_sweeps w ends.1)
    wholly_sweeps (SweepStops i x s r f n m a c stop plain d) h = absurd h

-- where the whole form of a program ends, so does the plain one, and the other way round without a trap
pub ends_whole : (t : ProgramTree) → EndsWhole t
ends_whole t = record {
  plain = λ a k z r. whole_enters t.procedures r;
  whole = λ a b k v r. wholly_enters t.procedures r (record {});
}
