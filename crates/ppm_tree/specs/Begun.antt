-- Runs that are stopped: a block, a loop, a procedure or an `each` begins, and spends so many turns or more. No state is stuck.
use Rattle.std.specs.Prelude.{◌≡◌, ◌≤◌, ℕ, zero, suc, ℤ, true, List, Ok, ◌⊎◌}
use Rattle.ppm_tree.specs.Tree.{Named, Expression, Side, Block, Then, Let, Assign, Put, If, While, Split, Procedure, ProgramTree}
use Rattle.ppm_tree.specs.Tree as tree
use Rattle.ppm_tree.specs.Values.{holds}
use Rattle.ppm_tree.specs.State.{then_with, Region, Locals, Frame, with_locals, Arrays, split_at, evaluate, procedure_named, entered, both_entered}
use Rattle.ppm_tree.specs.Meaning.{Form, Counts, End, Ended, arrays_of, assigned, stored, chosen, returned, joined, goes_on, with_parts, with_element}
use Rattle.ppm_tree.specs.Meaning.{Runs, Loops, Enters, Sweeps}
use Rattle.ppm_tree.specs.Program.{main_of, main_frame, Means}

module _ (form : Form) (procedures : List Procedure) where
  mutual
    -- a block spends so many turns: it is stopped here, in a part of its first statement, or after that
    pub data Begins : ℕ → Block → Frame → Arrays → Type 0 where
      Here : (b : Block) (f : Frame) (a : Arrays) → Begins zero b f a
      BehindLet : (x : Named) (e : Expression) (b : Block) (f : Frame) (a : Arrays) {n : ℕ}
          → BeginsBehind n b f (assigned x e f a) → Begins (suc n) (Then (Let x e) b) f a
      BehindAssign : (x : Named) (e : Expression) (b : Block) (f : Frame) (a : Arrays) {n : ℕ}
          → BeginsBehind n b f (assigned x e f a) → Begins (suc n) (Then (Assign x e) b) f a
      BehindPut : (x : Named) (i e : Expression) (b : Block) (f : Frame) (a : Arrays) {n : ℕ}
          → BeginsBehind n b f (stored x i e f a) → Begins (suc n) (Then (Put x i e) b) f a
      InIf : (e : Expression) (s t b : Block) (f : Frame) (a : Arrays) (v : ℤ) {n : ℕ}
          → evaluate f a e ≡ Ok v → Begins n (chosen (holds v) s t) f a → Begins (suc n) (Then (If e s t) b) f a
      BehindIf : (e : Expression) (s t b : Block) (f : Frame) (a : Arrays) (v : ℤ) {j : Counts} {y : End Locals} {n : ℕ}
          → evaluate f a e ≡ Ok v → Runs form procedures (chosen (holds v) s t) f a j y → BeginsBehind n b f y → Begins (suc n) (Then (If e s t) b) f a
      InWhile : (e : Expression) (s b : Block) (f : Frame) (a : Arrays) {n : ℕ} → BeginsLoop n e s f a → Begins (suc n) (Then (While e s) b) f a
      BehindWhile : (e : Expression) (s b : Block) (f : Frame) (a : Arrays) {j : Counts} {y : End Locals} {n : ℕ}
          → Loops form procedures e s f a j y → BeginsBehind n b f y → Begins (suc n) (Then (While e s) b) f a
      InCall : (s : Side) (b : Block) (f g : Frame) (a : Arrays) {n : ℕ} → entered procedures f a s ≡ Ok g
          → BeginsBody n (procedure_named procedures s.callee.name) g a → Begins (suc n) (Then (tree.Call s) b) f a
      BehindCall : (s : Side) (b : Block) (f g : Frame) (a : Arrays) {j : Counts} {y : End ℤ} {n : ℕ} → entered procedures f a s ≡ Ok g
          → Enters form procedures (procedure_named procedures s.callee.name) g a j y → BeginsBehind n b f (returned s.target f y)
          → Begins (suc n) (Then (tree.Call s) b) f a
      InLeft : (s t : Side) (b : Block) (f g h : Frame) (a : Arrays) {n : ℕ} → both_entered procedures f a s t ≡ Ok (g, h)
          → BeginsBody n (procedure_named procedures s.callee.name) g a → Begins (suc n) (Then (tree.Fork s t) b) f a
      InRight : (s t : Side) (b : Block) (f g h : Frame) (a : Arrays) {i : Counts} {x : End ℤ} {n : ℕ} → both_entered procedures f a s t ≡ Ok (g, h)
          → Enters form procedures (procedure_named procedures s.callee.name) g a i x → goes_on form x ≡ true
          → BeginsBody n (procedure_named procedures t.callee.name) h (arrays_of x) → Begins (suc n) (Then (tree.Fork s t) b) f a
      BehindFork : (s t : Side) (b : Block) (f g h : Frame) (a : Arrays) {i j : Counts} {x y : End ℤ} {n : ℕ} → both_entered procedures f a s t ≡ Ok (g, h)
          → Enters form procedures (procedure_named procedures s.callee.name) g a i x → goes_on form x ≡ true
          → Enters form procedures (procedure_named procedures t.callee.name) h (arrays_of x) j y
          → BeginsBehind n b f (joined s.target t.target f x y) → Begins (suc n) (Then (tree.Fork s t) b) f a
      InSplit : (line : ℕ) (r : Named) (e : Expression) (x y : Named) (s b : Block) (f : Frame) (a : Arrays) (m : ℕ) {n : ℕ}
          → then_with (evaluate f a e) (split_at line (f.regions r.name)) ≡ Ok m
          → Begins n s (with_parts f (f.regions r.name) m x y) a → Begins (suc n) (Then (Split line r e x y s) b) f a
      BehindSplit : (line : ℕ) (r : Named) (e : Expression) (x y : Named) (s b : Block) (f : Frame) (a : Arrays) (m : ℕ) {j : Counts} {u : End Locals} {n : ℕ}
          → then_with (evaluate f a e) (split_at line (f.regions r.name)) ≡ Ok m
          → Runs form procedures s (with_parts f (f.regions r.name) m x y) a j u → BeginsBehind n b f u
          → Begins (suc n) (Then (Split line r e x y s) b) f a
      InEach : (i x r : Named) (s b : Block) (f : Frame) (a : Arrays) {n : ℕ}
          → BeginsSweep n i x s (f.regions r.name) f 0 (f.regions r.name).length a → Begins (suc n) (Then (tree.Each i x r s) b) f a
      BehindEach : (i x r : Named) (s b : Block) (f : Frame) (a : Arrays) {j : Counts} {y : End Locals} {n : ℕ}
          → Sweeps form procedures i x s (f.regions r.name) f 0 (f.regions r.name).length a j y → BeginsBehind n b f y
          → Begins (suc n) (Then (tree.Each i x r s) b) f a

    -- the rest of a block does, after a statement without a trap
    pub data BeginsBehind : ℕ → Block → Frame → End Locals → Type 0 where
      Behind : (b : Block) (f : Frame) (l : Locals) (a : Arrays) {n : ℕ} → Begins n b (with_locals f l) a → BeginsBehind n b f (Ended l a)

    -- a loop does: in a block, or after one
    pub data BeginsLoop : ℕ → Expression → Block → Frame → Arrays → Type 0 where
      AtLoop : (e : Expression) (s : Block) (f : Frame) (a : Arrays) → BeginsLoop zero e s f a
      InTurn : (e : Expression) (s : Block) (f : Frame) (a : Arrays) (v : ℤ) {n : ℕ}
          → evaluate f a e ≡ Ok v → holds v ≡ true → Begins n s f a → BeginsLoop (suc n) e s f a
      BehindTurn : (e : Expression) (s : Block) (f : Frame) (a c : Arrays) (v : ℤ) (l : Locals) {j : Counts} {n : ℕ}
          → evaluate f a e ≡ Ok v → holds v ≡ true → Runs form procedures s f a j (Ended l c) → BeginsLoop n e s (with_locals f l) c
          → BeginsLoop (suc n) e s f a

    -- a procedure does, in its body
    pub data BeginsBody : ℕ → Procedure → Frame → Arrays → Type 0 where
      AtEntry : (p : Procedure) (f : Frame) (a : Arrays) → BeginsBody zero p f a
      InBody : (p : Procedure) (f : Frame) (a : Arrays) {n : ℕ} → Begins n p.body f a → BeginsBody (suc n) p f a

    -- the blocks of an `each` do: in one, or after it
    pub data BeginsSweep : ℕ → Named → Named → Block → Region → Frame → ℕ → ℕ → Arrays → Type 0 where
      AtEach : (i x : Named) (s : Block) (r : Region) (f : Frame) (k m : ℕ) (a : Arrays) → BeginsSweep zero i x s r f k m a
      InBlock : (i x : Named) (s : Block) (r : Region) (f : Frame) (k m : ℕ) (a : Arrays) {n : ℕ}
          → Begins n s (with_element f r k i x) a → BeginsSweep (suc n) i x s r f k (suc m) a
      BehindBlock : (i x : Named) (s : Block) (r : Region) (f : Frame) (k m : ℕ) (a : Arrays) {j : Counts} {y : End Locals} {n : ℕ}
          → Runs form procedures s (with_element f r k i x) a j y → goes_on form y ≡ true → BeginsSweep n i x s r f (suc k) m (arrays_of y)
          → BeginsSweep (suc n) i x s r f k (suc m) a

-- For each number of turns a program ends, or spends as many; and it ends within no fewer than it spends.
pub record IsNeverStuck (form : Form) (t : ProgramTree) (a : Arrays) : Type 0 where
  pub goes_on : (n : ℕ)
      → ((k : Counts) × (z : End ℤ) × Means form t a k z) ⊎ BeginsBody form t.procedures n (main_of t) (main_frame t.arrays (main_of t).parameters) a
  pub spends : (n : ℕ) (k : Counts) (z : End ℤ) → BeginsBody form t.procedures n (main_of t) (main_frame t.arrays (main_of t).parameters) a
      → Means form t a k z → n ≤ k.turns

-- no program is stuck, from any arrays, in either form
abbrev pub NoneIsStuck : Type 0
NoneIsStuck = (form : Form) (t : ProgramTree) (a : Arrays) → IsNeverStuck form t a
