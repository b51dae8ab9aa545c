-- Where a run may come to: blocks of procedures, with the declarations in force there and the frame.
use Rattle.std.specs.Prelude.{◌≡◌, ◌≤◌, ◌<◌, ℕ, ◌++◌, map, Ok}
use Rattle.ppm_tree.specs.declared.named.Named.{Named}
use Rattle.ppm_tree.specs.Tree.{Expression, Side, Statement, Block, Then, If, While, Split, Each, Procedure, ProgramTree}
use Rattle.ppm_tree.specs.Tree as tree
use Rattle.ppm_tree.specs.State.{Region, first_part, second_part, Locals, Frame, with_region, with_locals, Arrays, procedure_named, entered, both_entered}
use Rattle.ppm_tree.specs.Meaning.{with_parts, with_element}
use Rattle.ppm_tree.specs.Program.{main_frame, main_of}
use Rattle.ppm_regions.specs.Scope.{Scope, scope_of, split_scope, each_scope, lets_of}

-- the procedure that a side calls
abbrev pub callee : ProgramTree → Side → Procedure
callee t s = procedure_named t.procedures s.callee.name

-- the frame of the block of a split
abbrev pub split_frame : Frame → Named → ℕ → Named → Named → Frame
split_frame f r n x y = with_parts f (f.regions r.name) n x y

-- and of an element's block of an `each`
abbrev pub each_frame : Frame → Named → ℕ → Named → Named → Frame
each_frame f r k i x = with_element f (f.regions r.name) k i x

-- so many words of a region, from one of them on
abbrev pub stretch : ℕ → ℕ → Region → Region
stretch n m r = first_part m (second_part n r)

-- the frame with any part of the region of an `each` in the place of an element
abbrev pub part_frame : Frame → Named → Region → Frame
part_frame f x q = with_region f x.name q

module _ (t : ProgramTree) where
  -- In the procedure p, entered with the frame g, a run may come to this block in this frame, where these declarations are in force:
  -- whatever the arrays are there, and the locals.
  pub data ComesTo : (p : Procedure) (g : Frame) → Scope → Block → Frame → Type 0 where
    -- it begins in `main`
    Main : ComesTo (main_of t) (main_frame t.arrays (main_of t).parameters) (scope_of (main_of t)) (main_of t).body
        (main_frame t.arrays (main_of t).parameters)
    -- it goes on after a statement
    Behind : (p : Procedure) (g : Frame) (scope : Scope) (s : Statement) (b : Block) (f : Frame) (l : Locals)
        → ComesTo p g scope (Then s b) f → ComesTo p g (scope ++ lets_of s) b (with_locals f l)
    -- it goes into the blocks of a statement
    InHolds : (p : Procedure) (g : Frame) (scope : Scope) (e : Expression) (s u b : Block) (f : Frame)
        → ComesTo p g scope (Then (If e s u) b) f → ComesTo p g scope s f
    InElse : (p : Procedure) (g : Frame) (scope : Scope) (e : Expression) (s u b : Block) (f : Frame)
        → ComesTo p g scope (Then (If e s u) b) f → ComesTo p g scope u f
    InWhile : (p : Procedure) (g : Frame) (scope : Scope) (e : Expression) (s b : Block) (f : Frame) (l : Locals)
        → ComesTo p g scope (Then (While e s) b) f → ComesTo p g scope s (with_locals f l)
    InSplit : (p : Procedure) (g : Frame) (scope : Scope) (line : ℕ) (r : Named) (e : Expression) (x y : Named) (s b : Block) (f : Frame) (n : ℕ)
        → n ≤ (f.regions r.name).length → ComesTo p g scope (Then (Split line r e x y s) b) f
        → ComesTo p g (split_scope scope r x y) s (split_frame f r n x y)
    InEach : (p : Procedure) (g : Frame) (scope : Scope) (i x r : Named) (s b : Block) (f : Frame) (k : ℕ)
        → k < (f.regions r.name).length → ComesTo p g scope (Then (Each i x r s) b) f
        → ComesTo p g (each_scope scope r i x) s (each_frame f r k i x)
    -- it goes into a callee, and into both branches of a fork
    InCall : (p : Procedure) (g : Frame) (scope : Scope) (s : Side) (b : Block) (f h : Frame) (a : Arrays)
        → entered t.procedures f a s ≡ Ok h → ComesTo p g scope (Then (tree.Call s) b) f
        → ComesTo (callee t s) h (scope_of (callee t s)) (callee t s).body h
    InLeft : (p : Procedure) (g : Frame) (scope : Scope) (s u : Side) (b : Block) (f l r : Frame) (a : Arrays)
        → both_entered t.procedures f a s u ≡ Ok (l, r) → ComesTo p g scope (Then (tree.Fork s u) b) f
        → ComesTo (callee t s) l (scope_of (callee t s)) (callee t s).body l
    InRight : (p : Procedure) (g : Frame) (scope : Scope) (s u : Side) (b : Block) (f l r : Frame) (a : Arrays)
        → both_entered t.procedures f a s u ≡ Ok (l, r) → ComesTo p g scope (Then (tree.Fork s u) b) f
        → ComesTo (callee t u) r (scope_of (callee t u)) (callee t u).body r
