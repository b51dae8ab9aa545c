-- Each block ends or spends as many turns as one likes: a step from n turns to one more.
use Rattle.std.proofs.Common.{◌≡◌, ℕ, zero, suc, ℤ, Bool, true, false, List, Result, Ok, Err, ◌⊎◌, inl, inr, refl, subst}
use Rattle.ppm_tree.specs.Tree.{Named, Expression, Side, Block, Nil, Then, Let, Assign, Put, If, While, Split, Each, Procedure}
use Rattle.ppm_tree.specs.Tree as tree
use Rattle.ppm_tree.specs.Values.{holds}
use Rattle.ppm_tree.specs.State.{TrapAt, then_with, Region, Locals, Frame, with_locals, Arrays, split_at, evaluate, procedure_named, entered, both_entered}
use Rattle.ppm_tree.specs.Meaning.{Form, Plain, Whole, Counts, none, spent, both, began, forked, swept, give_turn, given, End, Ended, Trapped}
use Rattle.ppm_tree.specs.Meaning.{arrays_of, assigned, stored, chosen, returned, joined, first_trap, goes_on, with_parts, with_element, Runs}
use Rattle.ppm_tree.specs.Meaning.{Follows, Loops, Enters, Sweeps}
use Rattle.ppm_tree.specs.Meaning.{Done, Lets, Assigns, Puts, Ifs, IfTraps, Whiles, Calls, CallTraps, Forks, ForkStops, ForkTraps, Splits, SplitTraps}
use Rattle.ppm_tree.specs.Meaning.{Eaches, GoesOn, Stops, TestFails, TestTraps, Turns, TurnTraps, Enter, Swept, Sweep, SweepStops}
use Rattle.ppm_tree.specs.Meaning as run
use Rattle.ppm_tree.specs.Begun.{Begins, BeginsBehind, BeginsLoop, BeginsBody, BeginsSweep, NoneIsStuck}
use Rattle.ppm_tree.specs.Begun.{Here, BehindLet, BehindAssign, BehindPut, InIf, BehindIf, InWhile, BehindWhile, InCall, BehindCall, InLeft, InRight}
use Rattle.ppm_tree.specs.Begun.{BehindFork, InSplit, BehindSplit, InEach, BehindEach}
use Rattle.ppm_tree.specs.Begun.{Behind, AtLoop, InTurn, BehindTurn, AtEntry, InBody, AtEach, InBlock, BehindBlock}
use Rattle.ppm_tree.specs.Program.{main_of, main_frame}
use Rattle.ppm_tree.proofs.Spent.{body}

-- where nothing goes on beside a stretch, the form is the plain one and it ended at a trap
abbrev IsStopped : {A : Type 0} → Form → End A → Type 0
IsStopped form x = (form ≡ Plain) × (stop : TrapAt) × (c : Arrays) × (x ≡ Trapped stop c)

goes_or_stops : {A : Type 0} (form : Form) (x : End A) → (goes_on form x ≡ true) ⊎ IsStopped form x
goes_or_stops Whole x = inl refl
goes_or_stops Plain (Ended v c) = inl refl
goes_or_stops Plain (Trapped stop c) = inr (refl, stop, c, refl)

module _ (form : Form) (procedures : List Procedure) where
  abbrev OfBlock : ℕ → Block → Frame → Arrays → Type 0
  OfBlock n b f a = ((k : Counts) × (z : End Locals) × Runs form procedures b f a k z) ⊎ Begins form procedures n b f a

  abbrev OfRest : ℕ → Block → Frame → End Locals → Type 0
  OfRest n b f u = ((k : Counts) × (z : End Locals) × Follows form procedures b f u k z) ⊎ BeginsBehind form procedures n b f u

  abbrev OfLoop : ℕ → Expression → Block → Frame → Arrays → Type 0
  OfLoop n e s f a = ((k : Counts) × (z : End Locals) × Loops form procedures e s f a k z) ⊎ BeginsLoop form procedures n e s f a

  abbrev OfBody : ℕ → Procedure → Frame → Arrays → Type 0
  OfBody n p f a = ((k : Counts) × (z : End ℤ) × Enters form procedures p f a k z) ⊎ BeginsBody form procedures n p f a

  abbrev OfSweep : ℕ → Named → Named → Block → Region → Frame → ℕ → ℕ → Arrays → Type 0
  OfSweep n i x s r f k m a = ((j : Counts) × (z : End Locals) × Sweeps form procedures i x s r f k m a j z) ⊎ BeginsSweep form procedures n i x s r f k m a

  -- all of them, for one number of turns
  record Goes (n : ℕ) : Type 0 where
    block : (b : Block) (f : Frame) (a : Arrays) → OfBlock n b f a
    loop : (e : Expression) (s : Block) (f : Frame) (a : Arrays) → OfLoop n e s f a
    body : (p : Procedure) (f : Frame) (a : Arrays) → OfBody n p f a
    sweep : (i x : Named) (s : Block) (r : Region) (f : Frame) (k m : ℕ) (a : Arrays) → OfSweep n i x s r f k m a

  module _ (n : ℕ) (p : Goes n) where
    -- what stands after a statement that ended
    rest : (b : Block) (f : Frame) (u : End Locals) → OfRest n b f u
    rest b f (Ended l a) = elim (p.block b (with_locals f l) a) [ inl d ↦ inl (d.0, d.1, GoesOn b f l a d.2) | inr q ↦ inr (Behind b f l a q) ]
    rest b f (Trapped stop a) = inl (none, Trapped stop a, Stops b f stop a)

    of_let : (x : Named) (e : Expression) (b : Block) (f : Frame) (a : Arrays) → OfBlock (suc n) (Then (Let x e) b) f a
    of_let x e b f a = elim (rest b f (assigned x e f a)) [ inl d ↦ inl (both (spent 1) d.0, d.1, Lets x e b f a d.2) | inr q ↦ inr (BehindLet x e b f a q) ]

    of_assign : (x : Named) (e : Expression) (b : Block) (f : Frame) (a : Arrays) → OfBlock (suc n) (Then (Assign x e) b) f a
    of_assign x e b f a = elim (rest b f (assigned x e f a)) [
      | inl d ↦ inl (both (spent 1) d.0, d.1, Assigns x e b f a d.2)
      | inr q ↦ inr
          (BehindAssign x e b f a q)
    ]

    of_put : (x : Named) (i e : Expression) (b : Block) (f : Frame) (a : Arrays) → OfBlock (suc n) (Then (Put x i e) b) f a
    of_put x i e b f a = elim (rest b f (stored x i e f a)) [
      | inl d ↦ inl (both (spent 1) d.0, d.1, Puts x i e b f a d.2)
      | inr q ↦ inr
          (BehindPut x i e b f a q)
    ]

    of_if : (e : Expression) (s t b : Block) (f : Frame) (a : Arrays) (r : Result ℤ TrapAt) → evaluate f a e ≡ r → OfBlock (suc n) (Then (If e s t) b) f a
    of_if e s t b f a (Err stop) is = inl (spent 1, Trapped stop a, IfTraps e s t b f a stop is)
    of_if e s t b f a (Ok v) is = elim (p.block (chosen (holds v) s t) f a) [
      | inr q ↦ inr (InIf e s t b f a v is q)
      | inl c ↦ elim (rest b f c.1) [
        | inl d ↦ inl (both (spent 1) (both c.0 d.0), d.1, Ifs e s t b f a v is c.2 d.2)
        | inr q ↦ inr
            (BehindIf e s t b f a v is c.2 q)
      ]
    ]

    of_while : (e : Expression) (s b : Block) (f : Frame) (a : Arrays) → OfBlock (suc n) (Then (While e s) b) f a
    of_while e s b f a = elim (p.loop e s f a) [
      | inr q ↦ inr (InWhile e s b f a q)
      | inl c ↦ elim (rest b f c.1) [ inl d ↦ inl (both (spent 1) (both c.0 d.0), d.1, Whiles e s b f a c.2 d.2) | inr q ↦ inr (BehindWhile e s b f a c.2 q) ]
    ]

    of_call : (s : Side) (b : Block) (f : Frame) (a : Arrays) (r : Result Frame TrapAt) → entered procedures f a s ≡ r
        → OfBlock (suc n) (Then (tree.Call s) b) f a
    of_call s b f a (Err stop) is = inl (began (run.Call s.callee.name), Trapped stop a, CallTraps s b f a stop is)
    of_call s b f a (Ok g) is = elim (p.body (procedure_named procedures s.callee.name) g a) [
      | inr q ↦ inr (InCall s b f g a is q)
      | inl c ↦ elim (rest b f (returned s.target f c.1)) [
        | inl d ↦ inl (both (began (run.Call s.callee.name)) (both c.0 d.0), d.1, Calls s b f g a is c.2 d.2)
        | inr q ↦ inr (BehindCall s b f g a is c.2 q)
      ]
    ]

    -- a fork whose left branch ended, and lets the right one begin
    of_right : (s t : Side) (b : Block) (f g h : Frame) (a : Arrays) (i : Counts) (x : End ℤ) → both_entered procedures f a s t ≡ Ok (g, h)
        → Enters form procedures (procedure_named procedures s.callee.name) g a i x → goes_on form x ≡ true → OfBlock (suc n) (Then (tree.Fork s t) b) f a
    of_right s t b f g h a i x is l on = elim (p.body (procedure_named procedures t.callee.name) h (arrays_of x)) [
      | inr q ↦ inr (InRight s t b f g h a is l on q)
      | inl c ↦ elim (rest b f (joined s.target t.target f x c.1)) [
        | inl d ↦ inl (both (forked s t) (both i (both c.0 d.0)), d.1, Forks s t b f g h a is l on c.2 d.2)
        | inr q ↦ inr (BehindFork s t b f g h a is l on c.2 q)
      ]
    ]

    of_stop : (s t : Side) (b : Block) (f g h : Frame) (a : Arrays) (i : Counts) (x : End ℤ) → both_entered procedures f a s t ≡ Ok (g, h)
        → Enters form procedures (procedure_named procedures s.callee.name) g a i x → IsStopped form x → OfBlock (suc n) (Then (tree.Fork s t) b) f a
    of_stop s t b f g h a i x is l (plain, stop, c, e) =
        let l' = subst (λ (x : End ℤ). Enters form procedures (procedure_named procedures s.callee.name) g a i x) e l in
        inl (both (forked s t) i, Trapped stop c, ForkStops s t b f g h a c stop is plain l')

    of_fork : (s t : Side) (b : Block) (f : Frame) (a : Arrays) (r : Result (Frame × Frame) TrapAt) → both_entered procedures f a s t ≡ r
        → OfBlock (suc n) (Then (tree.Fork s t) b) f a
    of_fork s t b f a (Err stop) is = inl (began (run.Fork s.callee.name t.callee.name), Trapped stop a, ForkTraps s t b f a stop is)
    of_fork s t b f a (Ok (g, h)) is = elim (p.body (procedure_named procedures s.callee.name) g a) [
      | inr q ↦ inr (InLeft s t b f g h a is q)
      | inl c ↦ elim (goes_or_stops form c.1) [ inl on ↦ of_right s t b f g h a c.0 c.1 is c.2 on | inr stopped ↦ of_stop s t b f g h a c.0 c.1 is c.2 stopped ]
    ]

    of_split : (line : ℕ) (r : Named) (e : Expression) (x y : Named) (s b : Block) (f : Frame) (a : Arrays) (v : Result ℕ TrapAt)
        → then_with (evaluate f a e) (split_at line (f.regions r.name)) ≡ v → OfBlock (suc n) (Then (Split line r e x y s) b) f a
    of_split line r e x y s b f a (Err stop) is = inl (spent 1, Trapped stop a, SplitTraps line r e x y s b f a stop is)
    of_split line r e x y s b f a (Ok m) is = elim (p.block s (with_parts f (f.regions r.name) m x y) a) [
      | inr q ↦ inr (InSplit line r e x y s b f a m is q)
      | inl c ↦ elim (rest b f c.1) [
        | inl d ↦ inl (both (spent 1) (both c.0 d.0), d.1, Splits line r e x y s b f a m is c.2 d.2)
        | inr q ↦ inr (BehindSplit line r e x y s b f a m is c.2 q)
      ]
    ]

    of_each : (i x r : Named) (s b : Block) (f : Frame) (a : Arrays) → OfBlock (suc n) (Then (Each i x r s) b) f a
    of_each i x r s b f a = elim (p.sweep i x s (f.regions r.name) f 0 (f.regions r.name).length a) [
      | inr q ↦ inr (InEach i x r s b f a q)
      | inl c ↦ elim (rest b f c.1) [
        | inl d ↦ inl (both (swept i x r s (f.regions r.name).length) (both c.0 d.0), d.1, Eaches i x r s b f a c.2 d.2)
        | inr q ↦ inr (BehindEach i x r s b f a c.2 q)
      ]
    ]

    next_block : (b : Block) (f : Frame) (a : Arrays) → OfBlock (suc n) b f a
    next_block Nil f a = inl (none, Ended f.locals a, Done f a)
    next_block (Then (Let x e) b) f a = of_let x e b f a
    next_block (Then (Assign x e) b) f a = of_assign x e b f a
    next_block (Then (Put x i e) b) f a = of_put x i e b f a
    next_block (Then (If e s t) b) f a = of_if e s t b f a (evaluate f a e) refl
    next_block (Then (While e s) b) f a = of_while e s b f a
    next_block (Then (tree.Call s) b) f a = of_call s b f a (entered procedures f a s) refl
    next_block (Then (tree.Fork s t) b) f a = of_fork s t b f a (both_entered procedures f a s t) refl
    next_block (Then (Split line r e x y s) b) f a = of_split line r e x y s b f a (then_with (evaluate f a e) (split_at line (f.regions r.name))) refl
    next_block (Then (Each i x r s) b) f a = of_each i x r s b f a

    -- a loop whose test holds, from the end of its block
    of_turn : (e : Expression) (s : Block) (f : Frame) (a : Arrays) (v : ℤ) (j : Counts) (y : End Locals) → evaluate f a e ≡ Ok v → holds v ≡ true
        → Runs form procedures s f a j y → OfLoop (suc n) e s f a
    of_turn e s f a v j (Trapped stop c) is hold r = inl (both (spent 1) j, Trapped stop c, TurnTraps e s f a c v stop is hold r)
    of_turn e s f a v j (Ended l c) is hold r = elim (p.loop e s (with_locals f l) c) [
      | inl d ↦ inl (both (spent 1) (both j d.0), d.1, Turns e s f a c v l is hold r d.2)
      | inr q ↦ inr (BehindTurn e s f a c v l is hold r q)
    ]

    of_test : (e : Expression) (s : Block) (f : Frame) (a : Arrays) (v : ℤ) (h : Bool) → evaluate f a e ≡ Ok v → holds v ≡ h → OfLoop (suc n) e s f a
    of_test e s f a v false is fail = inl (spent 1, Ended f.locals a, TestFails e s f a v is fail)
    of_test e s f a v true is hold = elim (p.block s f a) [ inr q ↦ inr (InTurn e s f a v is hold q) | inl c ↦ of_turn e s f a v c.0 c.1 is hold c.2 ]

    next_loop : (e : Expression) (s : Block) (f : Frame) (a : Arrays) (r : Result ℤ TrapAt) → evaluate f a e ≡ r → OfLoop (suc n) e s f a
    next_loop e s f a (Err stop) is = inl (spent 1, Trapped stop a, TestTraps e s f a stop is)
    next_loop e s f a (Ok v) is = of_test e s f a v (holds v) is refl

    next_body : (q : Procedure) (f : Frame) (a : Arrays) → OfBody (suc n) q f a
    next_body q f a = elim (p.block q.body f a) [
      | inl c ↦ inl (both (spent 1) (both c.0 (give_turn q.give c.1)), given q.give f c.1, Enter q f a c.2)
      | inr r ↦ inr (InBody q f a r)
    ]

    of_blocks : (i x : Named) (s : Block) (r : Region) (f : Frame) (k m : ℕ) (a : Arrays) (j : Counts) (y : End Locals)
        → Runs form procedures s (with_element f r k i x) a j y → goes_on form y ≡ true → OfSweep (suc n) i x s r f k (suc m) a
    of_blocks i x s r f k m a j y d on = elim (p.sweep i x s r f (suc k) m (arrays_of y)) [
      | inl c ↦ inl (both (spent 8) (both j c.0), first_trap y c.1, Sweep i x s r f k m a d on c.2)
      | inr q ↦ inr (BehindBlock i x s r f k m a d on q)
    ]

    of_stopped : (i x : Named) (s : Block) (r : Region) (f : Frame) (k m : ℕ) (a : Arrays) (j : Counts) (y : End Locals)
        → Runs form procedures s (with_element f r k i x) a j y → IsStopped form y → OfSweep (suc n) i x s r f k (suc m) a
    of_stopped i x s r f k m a j y d (plain, stop, c, e) =
        let d' = subst (λ (y : End Locals). Runs form procedures s (with_element f r k i x) a j y) e d in
        inl (both (spent 8) j, Trapped stop c, SweepStops i x s r f k m a c stop plain d')

    next_sweep : (i x : Named) (s : Block) (r : Region) (f : Frame) (k m : ℕ) (a : Arrays) → OfSweep (suc n) i x s r f k m a
    next_sweep i x s r f k zero a = inl (none, Ended f.locals a, Swept i x s r f k a)
    next_sweep i x s r f k (suc m) a = elim (p.block s (with_element f r k i x) a) [
      | inr q ↦ inr (InBlock i x s r f k m a q)
      | inl c ↦ elim (goes_or_stops form c.1) [
        | inl on ↦ of_blocks i x s r f k m a c.0 c.1 c.2 on
        | inr stopped ↦ of_stopped i x s r f k m a c.0 c.1 c.2 stopped
      ]
    ]

  goes : (n : ℕ) → Goes n
  goes zero = record {
    block = λ b f a. inr (Here b f a);
    loop = λ e s f a. inr (AtLoop e s f a);
    body = λ q f a. inr (AtEntry q f a);
    sweep = λ i x s r f k m a. inr (AtEach i x s r f k m a);
  }
  goes (suc n) = let p = goes n in record {
    block = next_block n p;
    loop = λ e s f a. next_loop n p e s f a (evaluate f a e) refl;
    body = next_body n p;
    sweep = next_sweep n p;
  }

-- no run of a program is stuck
pub none_is_stuck : NoneIsStuck
none_is_stuck form t a = record {
  goes_on = λ n. (goes form t.procedures n).body (main_of t) (main_frame t.arrays (main_of t).parameters) a;
  spends = λ n k z q r. body form t.procedures q r;
}
