-- A run that reaches a point at which what is evaluated traps is a run to that trap.
use Rattle.std.proofs.Common.{◌≡◌, ℕ, suc, ◌+◌, ◌-◌, ℤ, List, Option, Some, Result, Ok, Err, refl, sym, ap, subst, arith, ◌∙◌}
use Rattle.ppm_tree.specs.declared.named.Named.{Named}
use Rattle.ppm_tree.specs.Tree.{Expression, Statement, Block, Nil, Then, Let, Assign, Put, If, While, Split, Give, Procedure}
use Rattle.ppm_tree.specs.Tree as tree
use Rattle.ppm_tree.specs.State.{TrapAt, then_with, Region, Locals, Frame, Arrays, split_at, evaluate, put_values, with_word, with_local, with_locals, procedure_named, entered, both_entered}
use Rattle.ppm_tree.specs.Meaning.{Plain, Counts, spent, both, none, began, forked, swept, give_turn, given, End, Ended, Trapped, end_of}
use Rattle.ppm_tree.specs.Meaning.{Call, Fork, Runs, Follows, Loops, Enters, Sweeps, with_element}
use Rattle.ppm_tree.specs.Meaning.{Done, Lets, Assigns, Puts, Ifs, IfTraps, Whiles, Calls, CallTraps, Forks, ForkStops, ForkTraps, Splits, SplitTraps, Eaches}
use Rattle.ppm_tree.specs.Meaning.{GoesOn, Stops, TestTraps, Turns, TurnTraps, Enter, Swept, Sweep, SweepStops}
use Rattle.ppm_trapped.specs.Sites.{Point, trap_of, statement_trap, deed_trap, Meets, Reaches, Begins}
use Rattle.ppm_trapped.specs.Sites.{Itself, InChosen, InLoop, Again, InCall, InLeft, InRight, InParts, InElement, First, Later, InBody, AtGive}
use Rattle.ppm_trapped.specs.Correct.{TrapPointsTrap}

pub trap_is : {A : Type 0} (r : Result A TrapAt) (stop : TrapAt) → trap_of r ≡ Some stop → r ≡ Err stop
trap_is (Ok x) stop e = cc
trap_is (Err s) stop e = cc

module _ (ps : List Procedure) where
  -- runs to a trap
  pub record BlockTraps (b : Block) (f : Frame) (a : Arrays) (stop : TrapAt) : Type 0 where
    pub counts : Counts
    pub arrays : Arrays
    pub runs : Runs Plain ps b f a counts (Trapped stop arrays)

  record LoopTraps (e : Expression) (s : Block) (f : Frame) (a : Arrays) (stop : TrapAt) : Type 0 where
    counts : Counts
    arrays : Arrays
    loops : Loops Plain ps e s f a counts (Trapped stop arrays)

  pub record ProcedureTraps (p : Procedure) (f : Frame) (a : Arrays) (stop : TrapAt) : Type 0 where
    pub counts : Counts
    pub arrays : Arrays
    pub enters : Enters Plain ps p f a counts (Trapped stop arrays)

  -- the statement itself
  itself : (s : Statement) (b : Block) (f : Frame) (a : Arrays) (stop : TrapAt) → statement_trap ps f a s ≡ Some stop → BlockTraps (Then s b) f a stop
  itself (Let x e) b f a stop h = record {
    counts = both (spent 1) none;
    arrays = a;
    runs = Lets x e b f a (subst (λ (y : End Locals). Follows Plain ps b f y none (Trapped stop a))
        (sym (ap (λ (r : Result ℤ TrapAt). end_of r a (λ v. Ended (with_local f x.name v).locals a)) (trap_is (evaluate f a e) stop h))) (Stops b f stop a));
  }
  itself (Assign x e) b f a stop h = record {
    counts = both (spent 1) none;
    arrays = a;
    runs = Assigns x e b f a (subst (λ (y : End Locals). Follows Plain ps b f y none (Trapped stop a))
        (sym (ap (λ (r : Result ℤ TrapAt). end_of r a (λ v. Ended (with_local f x.name v).locals a)) (trap_is (evaluate f a e) stop h))) (Stops b f stop a));
  }
  itself (Put x i e) b f a stop h = record {
    counts = both (spent 1) none;
    arrays = a;
    runs = Puts x i e b f a (subst (λ (y : End Locals). Follows Plain ps b f y none (Trapped stop a))
        (sym (ap (λ (r : Result (ℕ × ℤ) TrapAt). end_of r a (λ q. Ended f.locals (with_word a (f.regions x.name) q.0 q.1))) (trap_is (put_values f a x i e) stop h)))
        (Stops b f stop a));
  }
  itself (If e s t) b f a stop h = record { counts = spent 1; arrays = a; runs = IfTraps e s t b f a stop (trap_is (evaluate f a e) stop h) }
  itself (While e s) b f a stop h = record {
    counts = both (spent 1) (both (spent 1) none);
    arrays = a;
    runs = Whiles e s b f a (TestTraps e s f a stop (trap_is (evaluate f a e) stop h)) (Stops b f stop a);
  }
  itself (tree.Call s) b f a stop h = record { counts = began (Call s.callee.name); arrays = a; runs = CallTraps s b f a stop (trap_is (entered ps f a s) stop h) }
  itself (tree.Fork s t) b f a stop h = record {
    counts = began (Fork s.callee.name t.callee.name);
    arrays = a;
    runs = ForkTraps s t b f a stop (trap_is (both_entered ps f a s t) stop h);
  }
  itself (Split line r e x y s) b f a stop h = record {
    counts = spent 1;
    arrays = a;
    runs = SplitTraps line r e x y s b f a stop (trap_is (then_with (evaluate f a e) (split_at line (f.regions r.name))) stop h);
  }
  itself (tree.Each i x r s) b f a stop h = cc

  -- the blocks of an `each` that have ended, and those after them
  pub sweeps_on : (i x : Named) (s : Block) (r : Region) (f : Frame) {from n m : ℕ} {a a' : Arrays} {j k : Counts} {l : Locals} {u y : End Locals}
      → Sweeps Plain ps i x s r f from n a j u → u ≡ Ended l a' → Sweeps Plain ps i x s r f (from + n) m a' k y
      → (c : Counts) × Sweeps Plain ps i x s r f from (n + m) a c y
  sweeps_on i x s r f {m = m} {a' = a'} {k = k} {y = y} (Swept _ _ _ _ _ from a) e w =
      let z : from + 0 ≡ from = omega arith in
      let o : m ≡ 0 + m = omega arith in
      let same : a' ≡ a = ap arrays_in (sym e) in (
        k,
        subst (λ (q : ℕ). Sweeps Plain ps i x s r f from q a k y) o
            (subst (λ (q : ℕ). Sweeps Plain ps i x s r f q m a k y) z (subst (λ (c : Arrays). Sweeps Plain ps i x s r f (from + 0) m c k y) same w)),
      )
    where
      arrays_in : End Locals → Arrays
      arrays_in (Ended l a) = a
      arrays_in (Trapped stop a) = a
  sweeps_on i x s r f {m = m} {a' = a'} {k = k} {y = y} (Sweep _ _ _ _ _ from n a {j = j} {y = Ended l b} {z = z} run on rest) e w =
      let o : from + suc n ≡ suc from + n = omega arith in
      let q = sweeps_on i x s r f rest e (subst (λ (q : ℕ). Sweeps Plain ps i x s r f q m a' k y) o w) in
      let longer : suc (n + m) ≡ suc n + m = omega arith in (
        both (spent 8) (both j q.0),
        subst (λ (size : ℕ). Sweeps Plain ps i x s r f from size a (both (spent 8) (both j q.0)) y) longer (Sweep i x s r f from (n + m) a run refl q.1),
      )
  sweeps_on i x s r f (Sweep _ _ _ _ _ from n a {y = Trapped stop b} run on rest) e w = cc
  sweeps_on i x s r f (SweepStops _ _ _ _ _ from n a b stop plain run) e w = cc

  -- what comes after a statement that has ended
  follows_nil : {f : Frame} {y z : End Locals} {k : Counts} {l : Locals} {a : Arrays} → Follows Plain ps Nil f y k z → z ≡ Ended l a → y ≡ Ended l a
  follows_nil (GoesOn b f l a (Done g c)) e = e
  follows_nil (Stops b f stop a) e = e

  then_runs : (s : Statement) (b : Block) {f : Frame} {a a' : Arrays} {k j : Counts} {z y : End Locals} {l : Locals} → Runs Plain ps (Then s Nil) f a k z → z ≡ Ended l a'
      → Follows Plain ps b f (Ended l a') j y → (c : Counts) × Runs Plain ps (Then s b) f a c y
  then_runs s b {j = j} {y = y} (Lets x e d f a w) i g = (both (spent 1) j, Lets x e b f a (subst (λ u. Follows Plain ps b f u j y) (sym (follows_nil w i)) g))
  then_runs s b {j = j} {y = y} (Assigns x e d f a w) i g = (both (spent 1) j, Assigns x e b f a (subst (λ u. Follows Plain ps b f u j y) (sym (follows_nil w i)) g))
  then_runs s b {j = j} {y = y} (Puts x o e d f a w) i g = (both (spent 1) j, Puts x o e b f a (subst (λ u. Follows Plain ps b f u j y) (sym (follows_nil w i)) g))
  then_runs s b {j = j} {y = y} (Ifs e p q d f a v {j = c} said r w) i g =
      (both (spent 1) (both c j), Ifs e p q b f a v said r (subst (λ u. Follows Plain ps b f u j y) (sym (follows_nil w i)) g))
  then_runs s b (IfTraps e p q d f a stop said) i g = cc
  then_runs s b {j = j} {y = y} (Whiles e p d f a {j = c} r w) i g =
      (both (spent 1) (both c j), Whiles e p b f a r (subst (λ u. Follows Plain ps b f u j y) (sym (follows_nil w i)) g))
  then_runs s b {j = j} {y = y} (Calls t d f h a {j = c} said r w) i g =
      (both (began (Call t.callee.name)) (both c j), Calls t b f h a said r (subst (λ u. Follows Plain ps b f u j y) (sym (follows_nil w i)) g))
  then_runs s b (CallTraps t d f a stop said) i g = cc
  then_runs s b {j = j} {y = y} (Forks t u d f m n a {i = c} {j = o} said r on q w) i g =
      (both (forked t u) (both c (both o j)), Forks t u b f m n a said r on q (subst (λ u. Follows Plain ps b f u j y) (sym (follows_nil w i)) g))
  then_runs s b (ForkStops t u d f m n a c stop said plain r) i g = cc
  then_runs s b (ForkTraps t u d f a stop said) i g = cc
  then_runs s b {j = j} {y = y} (Splits line r e p q d o f a n {j = c} said t w) i g =
      (both (spent 1) (both c j), Splits line r e p q d b f a n said t (subst (λ u. Follows Plain ps b f u j y) (sym (follows_nil w i)) g))
  then_runs s b (SplitTraps line r e p q d o f a stop said) i g = cc
  then_runs s b {j = j} {y = y} (Eaches p q r d o f a {j = c} t w) i g =
      (both (swept p q r d (f.regions r.name).length) (both c j), Eaches p q r d b f a t (subst (λ u. Follows Plain ps b f u j y) (sym (follows_nil w i)) g))

  mutual
    -- a loop
    loops : (p : Procedure) (e : Expression) (s : Block) (f : Frame) (a : Arrays) (z : Point) (stop : TrapAt) → Meets ps p (While e s) f a z
        → deed_trap ps z.frame z.arrays z.deed ≡ Some stop → LoopTraps e s f a stop
    loops p e s f a z stop (Itself _ _ _ _) h = record { counts = spent 1; arrays = a; loops = TestTraps e s f a stop (trap_is (evaluate f a e) stop h) }
    loops p e s f a z stop (InLoop _ _ _ _ _ v _ said holds_ m) h =
        let w = reaches p s f a z stop m h in
        record { counts = both (spent 1) w.counts; arrays = w.arrays; loops = TurnTraps e s f a w.arrays v stop said holds_ w.runs }
    loops p e s f a z stop (Again _ _ _ _ _ a' v l k _ said holds_ run m) h =
        let w = loops p e s (with_locals f l) a' z stop m h in
        record { counts = both (spent 1) (both k w.counts); arrays = w.arrays; loops = Turns e s f a a' v l said holds_ run w.loops }

    -- a statement
    pub meets : (p : Procedure) (s : Statement) (b : Block) (f : Frame) (a : Arrays) (z : Point) (stop : TrapAt) → Meets ps p s f a z
        → deed_trap ps z.frame z.arrays z.deed ≡ Some stop → BlockTraps (Then s b) f a stop
    meets p s b f a z stop (Itself _ _ _ _) h = itself s b f a stop h
    meets p s b f a z stop (InChosen _ e u t _ _ v _ said m) h =
        let w = reaches p (_) f a z stop m h in
        record { counts = both (spent 1) (both w.counts none); arrays = w.arrays; runs = Ifs e u t b f a v said w.runs (Stops b f stop w.arrays) }
    meets p s b f a z stop (InLoop _ e u _ _ v _ said holds_ m) h =
        let w = reaches p u f a z stop m h in record {
          counts = both (spent 1) (both (both (spent 1) w.counts) none);
          arrays = w.arrays;
          runs = Whiles e u b f a (TurnTraps e u f a w.arrays v stop said holds_ w.runs) (Stops b f stop w.arrays);
        }
    meets p s b f a z stop (Again _ e u _ _ a' v l k _ said holds_ run m) h =
        let w = loops p e u (with_locals f l) a' z stop m h in record {
          counts = both (spent 1) (both (both (spent 1) (both k w.counts)) none);
          arrays = w.arrays;
          runs = Whiles e u b f a (Turns e u f a a' v l said holds_ run w.loops) (Stops b f stop w.arrays);
        }
    meets p s b f a z stop (InCall _ t _ g _ _ said m) h =
        let w = begins (procedure_named ps t.callee.name) g a z stop m h in
        record { counts = both (began (Call t.callee.name)) (both w.counts none); arrays = w.arrays; runs = Calls t b f g a said w.enters (Stops b f stop w.arrays) }
    meets p s b f a z stop (InLeft _ t u _ g k _ _ said m) h =
        let w = begins (procedure_named ps t.callee.name) g a z stop m h in
        record { counts = both (forked t u) w.counts; arrays = w.arrays; runs = ForkStops t u b f g k a w.arrays stop said refl w.enters }
    meets p s b f a z stop (InRight _ t u _ g k _ a' v c _ said left m) h =
        let w = begins (procedure_named ps u.callee.name) k a' z stop m h in
        record { counts = both (forked t u) (both c (both w.counts none)); arrays = w.arrays; runs = Forks t u b f g k a said left refl w.enters (Stops b f stop w.arrays) }
    meets p s b f a z stop (InParts _ line r e x y t _ _ n _ said m) h =
        let w = reaches p t _ a z stop m h in
        record { counts = both (spent 1) (both w.counts none); arrays = w.arrays; runs = Splits line r e x y t b f a n said w.runs (Stops b f stop w.arrays) }
    meets p s b f a z stop (InElement _ i x r t _ _ a' n k _ below front m) h =
        let w = reaches p t (with_element f (f.regions r.name) n i x) a' z stop m h in
        let rest = SweepStops i x t (f.regions r.name) f n ((f.regions r.name).length - suc n) a' w.arrays stop refl w.runs in
        let at : n ≡ 0 + n = omega arith in
        let q = sweeps_on i x t (f.regions r.name) f front refl (subst (λ (o : ℕ). Sweeps Plain ps i x t (f.regions r.name) f o (suc ((f.regions r.name).length - suc n)) a' (both (spent 8) w.counts) (Trapped stop w.arrays)) at rest) in
        let all : n + suc ((f.regions r.name).length - suc n) ≡ (f.regions r.name).length = omega (arith, below) in record {
          counts = both (swept i x r t (f.regions r.name).length) (both q.0 none);
          arrays = w.arrays;
          runs = Eaches i x r t b f a (subst (λ (o : ℕ). Sweeps Plain ps i x t (f.regions r.name) f 0 o a q.0 (Trapped stop w.arrays)) all q.1) (Stops b f stop w.arrays);
        }

    -- a block
    pub reaches : (p : Procedure) (b : Block) (f : Frame) (a : Arrays) (z : Point) (stop : TrapAt) → Reaches ps p b f a z
        → deed_trap ps z.frame z.arrays z.deed ≡ Some stop → BlockTraps b f a stop
    reaches p b f a z stop (First _ s d _ _ _ m) h = meets p s d f a z stop m h
    reaches p b f a z stop (Later _ s d _ _ a' l k _ run m) h =
        let w = reaches p d (with_locals f l) a' z stop m h in
        let q = then_runs s d run refl (GoesOn d f l a' w.runs) in
        record { counts = q.0; arrays = w.arrays; runs = q.1 }

    -- a procedure
    pub begins : (p : Procedure) (f : Frame) (a : Arrays) (z : Point) (stop : TrapAt) → Begins ps p f a z
        → deed_trap ps z.frame z.arrays z.deed ≡ Some stop → ProcedureTraps p f a stop
    begins p f a z stop (InBody _ _ _ _ m) h =
        let w = reaches p p.body f a z stop m h in
        record { counts = both (spent 1) (both w.counts none); arrays = w.arrays; enters = Enter p f a w.runs }
    begins p f a z stop (AtGive _ g _ _ a' l k run some_) h = record {
      counts = both (spent 1) (both k (give_turn p.give (Ended l a')));
      arrays = a';
      enters = subst (λ (y : End ℤ). Enters Plain ps p f a (both (spent 1) (both k (give_turn p.give (Ended l a')))) y)
          (ap (λ (g : Option Give). given g f (Ended l a')) some_
          ∙ ap (λ (r : Result ℤ TrapAt). end_of r a' (λ v. Ended v a')) (trap_is (evaluate (with_locals f l) a' g.value) stop h)) (Enter p f a run);
    }

-- so it is with programs
pub trap_points : TrapPointsTrap
trap_points t z stop h = let w = begins t.procedures _ _ _ z stop h.reached h.trap in (w.counts, w.arrays, w.enters)
