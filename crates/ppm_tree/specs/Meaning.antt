-- The serial meaning: a big-step relation on blocks and procedures, with what a run spends and begins, in two forms.
use Rattle.std.specs.Prelude.{◌≡◌, ℕ, zero, suc, ◌+◌, ◌-◌, ℤ, pos, Bool, true, false, List, [], ◌∷◌, ◌++◌, Option, Some, None, Result, Ok, Err}
use Rattle.ppm_tree.specs.Tree.{Named, Expression, Side, Block, Nil, Then, Let, Assign, Put, If, While, Split, Give, Procedure}
use Rattle.ppm_tree.specs.Tree as tree
use Rattle.ppm_tree.specs.Values.{holds}
use Rattle.ppm_tree.specs.State.{TrapAt, then_with, Region, first_part, second_part, part_at, Locals, Frame, with_region, with_local, with_locals}
use Rattle.ppm_tree.specs.State.{Arrays, with_word, split_at, evaluate, put_values, procedure_named, entered, both_entered, delivered}

-- Plain: a trap stops the run. Whole: both branches of a fork run, and all blocks of an `each`; those after a trap run from
-- the arrays that it leaves, which by the region rules are to them as at the start (`run_in_either_order` of `ppm_ownership`).
pub data Form : Type 0 where
  Plain : Form
  Whole : Form

-- what asks for a frame of its own: a call, a fork, an `each` of so many elements, by what they name
pub data Begun : Type 0 where
  Call : (callee : List ℕ) → Begun
  Fork : (left right : List ℕ) → Begun
  Each : (index part region : List ℕ) (block : Block) (elements : ℕ) → Begun

-- what a run spends and begins: turns, forks whose arguments don't trap, and what it begins in order, trapped arguments or not
pub record Counts : Type 0 where
  pub turns : ℕ
  pub forks : ℕ
  pub begun : List Begun

-- so many turns, and nothing else
abbrev pub spent : ℕ → Counts
spent n = record { turns = n; forks = 0; begun = [] }

-- nothing
abbrev pub none : Counts
none = spent 0

-- one after the other
abbrev pub both : Counts → Counts → Counts
both j k = record { turns = j.turns + k.turns; forks = j.forks + k.forks; begun = j.begun ++ k.begun }

-- a call, or a fork whose arguments trap
abbrev pub began : Begun → Counts
began b = record { turns = 1; forks = 0; begun = b ∷ [] }

-- a fork whose branches begin
abbrev pub forked : Side → Side → Counts
forked left right = record { turns = 1; forks = 1; begun = Fork left.callee.name right.callee.name ∷ [] }

-- an `each`: 9 turns at its start, and a fork less than it has elements
abbrev pub swept : Named → Named → Named → Block → ℕ → Counts
swept i x a block m = record { turns = 9; forks = m - 1; begun = Each i.name x.name a.name block m ∷ [] }

-- how a stretch of a run ends: with what it leaves, or at a trap; the arrays stay as they are there
pub data End (A : Type 0) : Type 0 where
  Ended : (value : A) (arrays : Arrays) → End A
  Trapped : (stop : TrapAt) (arrays : Arrays) → End A

-- the arrays in the end
abbrev pub arrays_of : {A : Type 0} → End A → Arrays
arrays_of (Ended x arrays) = arrays
arrays_of (Trapped stop arrays) = arrays

-- the end of what takes no turns of its own: with what it makes of a value
abbrev pub end_of : {A B : Type 0} → Result A TrapAt → Arrays → (A → End B) → End B
end_of (Ok x) arrays make = make x
end_of (Err stop) arrays make = Trapped stop arrays

-- the end of a `let` or an assignment to a local
abbrev pub assigned : Named → Expression → Frame → Arrays → End Locals
assigned x e frame arrays = end_of (evaluate frame arrays e) arrays (λ v. Ended (with_local frame x.name v).locals arrays)

-- the end of an assignment to an element
abbrev pub stored : Named → Expression → Expression → Frame → Arrays → End Locals
stored x index e frame arrays = end_of (put_values frame arrays x index e) arrays
    (λ p. Ended frame.locals (with_word arrays (frame.regions x.name) p.0 p.1))

-- the block that a test chooses
abbrev pub chosen : Bool → Block → Block → Block
chosen true block else = block
chosen false block else = else

-- the end of a call for its caller: the value is stored in the target
abbrev pub returned : Option Named → Frame → End ℤ → End Locals
returned x frame (Ended v arrays) = Ended (delivered x v frame).locals arrays
returned x frame (Trapped stop arrays) = Trapped stop arrays

-- the end of a fork, from those of its branches: the left's trap, else the right's, else the values are stored, the left one first
abbrev pub joined : Option Named → Option Named → Frame → End ℤ → End ℤ → End Locals
joined x y frame (Trapped stop arrays) right = Trapped stop (arrays_of right)
joined x y frame (Ended v arrays) (Trapped stop arrays') = Trapped stop arrays'
joined x y frame (Ended v arrays) (Ended w arrays') = Ended (delivered y w (delivered x v frame)).locals arrays'

-- the end of one block of an `each` and of those after it: the trap of the least index, else the locals as they were
abbrev pub first_trap : End Locals → End Locals → End Locals
first_trap (Ended locals arrays) rest = rest
first_trap (Trapped stop arrays) rest = Trapped stop (arrays_of rest)

-- whether what is beside a stretch still runs after it: always in the whole form, else where it has no trap
abbrev pub goes_on : {A : Type 0} → Form → End A → Bool
goes_on Whole end = true
goes_on Plain (Ended x arrays) = true
goes_on Plain (Trapped stop arrays) = false

-- the end of a body, once its statements have ended: with the value that it gives, 0 where it gives none
abbrev pub given : Option Give → Frame → End Locals → End ℤ
given g frame (Trapped stop arrays) = Trapped stop arrays
given None frame (Ended locals arrays) = Ended (pos 0) arrays
given (Some g) frame (Ended locals arrays) = end_of (evaluate (with_locals frame locals) arrays g.value) arrays (λ v. Ended v arrays)

-- the turn of a `give`, where it is begun
abbrev pub give_turn : Option Give → End Locals → Counts
give_turn g (Trapped stop arrays) = none
give_turn None (Ended locals arrays) = none
give_turn (Some g) (Ended locals arrays) = spent 1

-- a frame in which the parts of a region have names
abbrev pub with_parts : Frame → Region → ℕ → Named → Named → Frame
with_parts frame r n x y = with_region (with_region frame x.name (first_part n r)) y.name (second_part n r)

-- the frame of a block of an `each`: the index, and the part of one element
abbrev pub with_element : Frame → Region → ℕ → Named → Named → Frame
with_element frame r i index part = with_region (with_local frame index.name (pos i)) part.name (part_at i r)

module _ (form : Form) (procedures : List Procedure) where
  mutual
    -- A block runs in a frame from arrays, spends and begins what it counts, and ends so. A statement spends one turn as it begins.
    pub data Runs : Block → Frame → Arrays → Counts → End Locals → Type 0 where
      -- nothing is left of the block
      Done : (f : Frame) (a : Arrays) → Runs Nil f a none (Ended f.locals a)
      -- x is e from here on
      Lets : (x : Named) (e : Expression) (b : Block) (f : Frame) (a : Arrays) {k : Counts} {z : End Locals}
          → Follows b f (assigned x e f a) k z → Runs (Then (Let x e) b) f a (both (spent 1) k) z
      Assigns : (x : Named) (e : Expression) (b : Block) (f : Frame) (a : Arrays) {k : Counts} {z : End Locals}
          → Follows b f (assigned x e f a) k z → Runs (Then (Assign x e) b) f a (both (spent 1) k) z
      Puts : (x : Named) (i e : Expression) (b : Block) (f : Frame) (a : Arrays) {k : Counts} {z : End Locals}
          → Follows b f (stored x i e f a) k z → Runs (Then (Put x i e) b) f a (both (spent 1) k) z
      -- the test chooses a block
      Ifs : (e : Expression) (s t b : Block) (f : Frame) (a : Arrays) (v : ℤ) {j k : Counts} {y z : End Locals}
          → evaluate f a e ≡ Ok v → Runs (chosen (holds v) s t) f a j y → Follows b f y k z
          → Runs (Then (If e s t) b) f a (both (spent 1) (both j k)) z
      IfTraps : (e : Expression) (s t b : Block) (f : Frame) (a : Arrays) (stop : TrapAt)
          → evaluate f a e ≡ Err stop → Runs (Then (If e s t) b) f a (spent 1) (Trapped stop a)
      -- the tests and blocks of a loop
      Whiles : (e : Expression) (s b : Block) (f : Frame) (a : Arrays) {j k : Counts} {y z : End Locals}
          → Loops e s f a j y → Follows b f y k z → Runs (Then (While e s) b) f a (both (spent 1) (both j k)) z
      -- the callee runs in a frame of its arguments
      Calls : (s : Side) (b : Block) (f g : Frame) (a : Arrays) {j k : Counts} {y : End ℤ} {z : End Locals}
          → entered procedures f a s ≡ Ok g → Enters (procedure_named procedures s.callee.name) g a j y
          → Follows b f (returned s.target f y) k z → Runs (Then (tree.Call s) b) f a (both (began (Call s.callee.name)) (both j k)) z
      CallTraps : (s : Side) (b : Block) (f : Frame) (a : Arrays) (stop : TrapAt)
          → entered procedures f a s ≡ Err stop → Runs (Then (tree.Call s) b) f a (began (Call s.callee.name)) (Trapped stop a)
      -- the left branch and then the right one
      Forks : (s t : Side) (b : Block) (f g h : Frame) (a : Arrays) {i j k : Counts} {x y : End ℤ} {z : End Locals}
          → both_entered procedures f a s t ≡ Ok (g, h)
          → Enters (procedure_named procedures s.callee.name) g a i x → goes_on form x ≡ true
          → Enters (procedure_named procedures t.callee.name) h (arrays_of x) j y
          → Follows b f (joined s.target t.target f x y) k z → Runs (Then (tree.Fork s t) b) f a (both (forked s t) (both i (both j k))) z
      -- a trap of the left branch stops the plain form before the right one
      ForkStops : (s t : Side) (b : Block) (f g h : Frame) (a a' : Arrays) (stop : TrapAt) {i : Counts}
          → both_entered procedures f a s t ≡ Ok (g, h) → form ≡ Plain
          → Enters (procedure_named procedures s.callee.name) g a i (Trapped stop a')
          → Runs (Then (tree.Fork s t) b) f a (both (forked s t) i) (Trapped stop a')
      ForkTraps : (s t : Side) (b : Block) (f : Frame) (a : Arrays) (stop : TrapAt)
          → both_entered procedures f a s t ≡ Err stop
          → Runs (Then (tree.Fork s t) b) f a (began (Fork s.callee.name t.callee.name)) (Trapped stop a)
      -- the block has the two parts in its frame
      Splits : (line : ℕ) (r : Named) (e : Expression) (x y : Named) (s b : Block) (f : Frame) (a : Arrays) (n : ℕ) {j k : Counts} {u z : End Locals}
          → then_with (evaluate f a e) (split_at line (f.regions r.name)) ≡ Ok n
          → Runs s (with_parts f (f.regions r.name) n x y) a j u → Follows b f u k z
          → Runs (Then (Split line r e x y s) b) f a (both (spent 1) (both j k)) z
      SplitTraps : (line : ℕ) (r : Named) (e : Expression) (x y : Named) (s b : Block) (f : Frame) (a : Arrays) (stop : TrapAt)
          → then_with (evaluate f a e) (split_at line (f.regions r.name)) ≡ Err stop
          → Runs (Then (Split line r e x y s) b) f a (spent 1) (Trapped stop a)
      -- the block runs for each index, from 0 upwards
      Eaches : (i x r : Named) (s b : Block) (f : Frame) (a : Arrays) {j k : Counts} {y z : End Locals}
          → Sweeps i x s (f.regions r.name) f 0 (f.regions r.name).length a j y → Follows b f y k z
          → Runs (Then (tree.Each i x r s) b) f a (both (swept i x r s (f.regions r.name).length) (both j k)) z

    -- the rest of a block, after a statement that ended so: it runs with the new locals, or a trap is the end
    pub data Follows : Block → Frame → End Locals → Counts → End Locals → Type 0 where
      GoesOn : (b : Block) (f : Frame) (l : Locals) (a : Arrays) {k : Counts} {z : End Locals}
          → Runs b (with_locals f l) a k z → Follows b f (Ended l a) k z
      Stops : (b : Block) (f : Frame) (stop : TrapAt) (a : Arrays) → Follows b f (Trapped stop a) none (Trapped stop a)

    -- the tests and blocks of a loop; each test spends a turn
    pub data Loops : Expression → Block → Frame → Arrays → Counts → End Locals → Type 0 where
      TestFails : (e : Expression) (s : Block) (f : Frame) (a : Arrays) (v : ℤ)
          → evaluate f a e ≡ Ok v → holds v ≡ false → Loops e s f a (spent 1) (Ended f.locals a)
      TestTraps : (e : Expression) (s : Block) (f : Frame) (a : Arrays) (stop : TrapAt)
          → evaluate f a e ≡ Err stop → Loops e s f a (spent 1) (Trapped stop a)
      Turns : (e : Expression) (s : Block) (f : Frame) (a a' : Arrays) (v : ℤ) (l : Locals) {j k : Counts} {z : End Locals}
          → evaluate f a e ≡ Ok v → holds v ≡ true → Runs s f a j (Ended l a') → Loops e s (with_locals f l) a' k z
          → Loops e s f a (both (spent 1) (both j k)) z
      TurnTraps : (e : Expression) (s : Block) (f : Frame) (a a' : Arrays) (v : ℤ) (stop : TrapAt) {j : Counts}
          → evaluate f a e ≡ Ok v → holds v ≡ true → Runs s f a j (Trapped stop a')
          → Loops e s f a (both (spent 1) j) (Trapped stop a')

    -- a procedure runs in the frame of its arguments; its entry spends a turn, and so does its `give`
    pub data Enters : Procedure → Frame → Arrays → Counts → End ℤ → Type 0 where
      Enter : (p : Procedure) (f : Frame) (a : Arrays) {j : Counts} {y : End Locals}
          → Runs p.body f a j y → Enters p f a (both (spent 1) (both j (give_turn p.give y))) (given p.give f y)

    -- The blocks of an `each` for so many indices from one on; each that is begun spends 8 turns. The locals stay as they were.
    pub data Sweeps : Named → Named → Block → Region → Frame → ℕ → ℕ → Arrays → Counts → End Locals → Type 0 where
      Swept : (i x : Named) (s : Block) (r : Region) (f : Frame) (n : ℕ) (a : Arrays) → Sweeps i x s r f n zero a none (Ended f.locals a)
      Sweep : (i x : Named) (s : Block) (r : Region) (f : Frame) (n m : ℕ) (a : Arrays) {j k : Counts} {y z : End Locals}
          → Runs s (with_element f r n i x) a j y → goes_on form y ≡ true → Sweeps i x s r f (suc n) m (arrays_of y) k z
          → Sweeps i x s r f n (suc m) a (both (spent 8) (both j k)) (first_trap y z)
      -- a trap stops the plain form before the next block
      SweepStops : (i x : Named) (s : Block) (r : Region) (f : Frame) (n m : ℕ) (a a' : Arrays) (stop : TrapAt) {j : Counts}
          → form ≡ Plain → Runs s (with_element f r n i x) a j (Trapped stop a')
          → Sweeps i x s r f n (suc m) a (both (spent 8) j) (Trapped stop a')
