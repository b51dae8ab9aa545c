-- Where a run of the meaning stands when it is stopped, and that each such position is one that a run may come to.
use Rattle.std.specs.Prelude.{◌≡◌, ◌≤◌, ℕ, List}
use Rattle.ppm_tree.specs.declared.named.Named.{Named}
use Rattle.ppm_tree.specs.Tree.{Expression, Block, Then, While, Each, Procedure, ProgramTree}
use Rattle.ppm_tree.specs.State.{Region, Locals, Frame, with_locals, Arrays}
use Rattle.ppm_tree.specs.Meaning.{Form, End}
use Rattle.ppm_tree.specs.Program.{main_frame, main_of}
use Rattle.ppm_tree.specs.Begun.{Begins, BeginsBehind, BeginsLoop, BeginsBody, BeginsSweep}
use Rattle.ppm_tree.specs.Begun.{Here, BehindLet, BehindAssign, BehindPut, InIf, BehindIf, InWhile, BehindWhile, InCall, BehindCall, InLeft, InRight}
use Rattle.ppm_tree.specs.Begun.{BehindFork, InSplit, BehindSplit, InEach, BehindEach}
use Rattle.ppm_tree.specs.Begun.{Behind, AtLoop, InTurn, BehindTurn, AtEntry as Entry, InBody, AtEach, InBlock, BehindBlock}
use Rattle.ppm_regions.specs.Scope.{Scope, scope_of}
use Rattle.ppm_ownership.specs.Coming.{ComesTo}

-- a position: at the rest of a block, at the test of a loop, at the entry of a procedure, before a block of an `each` or after the last
pub data Position : Type 0 where
  AtBlock : (rest : Block) (f : Frame) → Position
  AtTest : (test : Expression) (block : Block) (f : Frame) → Position
  AtEntry : (p : Procedure) (f : Frame) → Position
  AtElement : (index part : Named) (block : Block) (r : Region) (f : Frame) (k : ℕ) → Position

module _ {form : Form} {procedures : List Procedure} where
  abbrev mutual
    -- the position of a run that is stopped
    pub position : {n : ℕ} {b : Block} {f : Frame} {a : Arrays} → Begins form procedures n b f a → Position
    position (Here b f a) = AtBlock b f
    position (BehindLet x e b f a rest) = position_behind rest
    position (BehindAssign x e b f a rest) = position_behind rest
    position (BehindPut x i e b f a rest) = position_behind rest
    position (InIf e s u b f a v is inside) = position inside
    position (BehindIf e s u b f a v is run rest) = position_behind rest
    position (InWhile e s b f a inside) = position_in_loop inside
    position (BehindWhile e s b f a run rest) = position_behind rest
    position (InCall s b f g a is inside) = position_in_body inside
    position (BehindCall s b f g a is run rest) = position_behind rest
    position (InLeft s u b f g h a is inside) = position_in_body inside
    position (InRight s u b f g h a is left on inside) = position_in_body inside
    position (BehindFork s u b f g h a is left on right rest) = position_behind rest
    position (InSplit line r e x y s b f a m is inside) = position inside
    position (BehindSplit line r e x y s b f a m is run rest) = position_behind rest
    position (InEach i x r s b f a inside) = position_in_sweep inside
    position (BehindEach i x r s b f a run rest) = position_behind rest

    -- after a statement, in a loop, in a procedure, in the blocks of an `each`
    pub position_behind : {n : ℕ} {b : Block} {f : Frame} {u : End Locals} → BeginsBehind form procedures n b f u → Position
    position_behind (Behind b f l a rest) = position rest

    pub position_in_loop : {n : ℕ} {e : Expression} {s : Block} {f : Frame} {a : Arrays} → BeginsLoop form procedures n e s f a → Position
    position_in_loop (AtLoop e s f a) = AtTest e s f
    position_in_loop (InTurn e s f a v is hold inside) = position inside
    position_in_loop (BehindTurn e s f a c v l is hold run rest) = position_in_loop rest

    pub position_in_body : {n : ℕ} {p : Procedure} {f : Frame} {a : Arrays} → BeginsBody form procedures n p f a → Position
    position_in_body (Entry p f a) = AtEntry p f
    position_in_body (InBody p f a inside) = position inside

    pub position_in_sweep : {n : ℕ} {i x : Named} {s : Block} {r : Region} {f : Frame} {k m : ℕ} {a : Arrays}
        → BeginsSweep form procedures n i x s r f k m a → Position
    position_in_sweep (AtEach i x s r f k m a) = AtElement i x s r f k
    position_in_sweep (InBlock i x s r f k m a inside) = position inside
    position_in_sweep (BehindBlock i x s r f k m a run on rest) = position_in_sweep rest

-- a run may come to the position: to the block, to the loop that has the test, to the body, to the `each` that has the block
pub data IsComeTo (t : ProgramTree) : Position → Type 0 where
  ToBlock : (p : Procedure) (g : Frame) (scope : Scope) (b : Block) (f : Frame) → ComesTo t p g scope b f → IsComeTo t (AtBlock b f)
  ToTest : (p : Procedure) (g : Frame) (scope : Scope) (e : Expression) (s b : Block) (f : Frame) (l : Locals)
      → ComesTo t p g scope (Then (While e s) b) f → IsComeTo t (AtTest e s (with_locals f l))
  ToEntry : (p : Procedure) (f : Frame) → ComesTo t p f (scope_of p) p.body f → IsComeTo t (AtEntry p f)
  ToElement : (p : Procedure) (g : Frame) (scope : Scope) (i x r : Named) (s b : Block) (whole : Region) (f : Frame) (k : ℕ)
      → whole ≡ f.regions r.name → k ≤ whole.length → ComesTo t p g scope (Then (Each i x r s) b) f → IsComeTo t (AtElement i x s whole f k)

-- after whatever number of turns a run of a program is stopped, in either form and from whatever arrays, it stands where a run may come to
abbrev pub PositionsAreComeTo : Type 0
PositionsAreComeTo = (form : Form) (t : ProgramTree) (a : Arrays) (n : ℕ)
    → (stopped : BeginsBody form t.procedures n (main_of t) (main_frame t.arrays (main_of t).parameters) a) → IsComeTo t (position_in_body stopped)
