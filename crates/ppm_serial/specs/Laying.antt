-- A program's tree and its code: which steps stand for which statements.
use Rattle.std.specs.Prelude.{◌≡◌, ◌<◌, ℕ, suc, List, [], ◌∷◌, ◌++◌, length, get_or, map, codes, ⊤, Bool, true, false, Option, Some, None, Result, Ok, Err, if◌then◌else◌}
use Rattle.std.specs.Str.{bytes_eq}
use Rattle.ppm_tree.specs.declared.named.Named.{Named}
use Rattle.ppm_tree.specs.declared.tree.Parameter.{Parameter}
use Rattle.ppm_tree.specs.Tree.{Expression, Argument, Side, Statement, Block, Nil, Then, Let, Assign, Put, If, While, Split, Give, Procedure}
use Rattle.ppm_tree.specs.Tree.{expression_of}
use Rattle.ppm_tree.specs.Tree as tree
use Rattle.ppm_tree.specs.declared.tree.Argument as declared
use Rattle.ppm_tree.specs.declared.mode.Mode.{Mode}
use Rattle.ppm_tree.specs.declared.mode.Mode.TheVariants as mode
use Rattle.ppm_tree.specs.State.{Arrays, Frame, lent, nowhere, evaluate, with_arguments, procedure_named}
use Rattle.ppm_serial.specs.declared.code.Stop.{Stop}
use Rattle.ppm_serial.specs.declared.code.Value.{Value}
use Rattle.ppm_serial.specs.declared.code.Passed.{Passed}
use Rattle.ppm_serial.specs.declared.code.Passed.TheVariants as passed
use Rattle.ppm_serial.specs.declared.code.Call.{Call}
use Rattle.ppm_serial.specs.declared.code.Parts.{Parts}
use Rattle.ppm_serial.specs.declared.code.Step.{Step}
use Rattle.ppm_serial.specs.declared.code.Step.TheVariants as step
use Rattle.ppm_serial.specs.declared.code.Routine.{Routine}
use Rattle.ppm_serial.specs.Slots.{Slots}
use Rattle.ppm_serial.specs.Worth.{worth, stopped}
use Rattle.ppm_serial.specs.Names.{Slotted, slot_in, names_of, frame_of}
use Rattle.ppm_serial.specs.Code.{Laid, routine_at}
use Rattle.ppm_serial.specs.Machine.{passing}

-- a frame has a slot for each of these names
pub record Fits (n : Slotted) (s : Slots) : Type 0 where
  pub locals : length s.locals ≡ length n.locals
  pub regions : length s.regions ≡ length n.regions

-- an expression over slots is worth what the expression is
abbrev pub IsWorth : Slotted → Expression → Value → Type 0
IsWorth n e v = (s : Slots) (a : Arrays) → worth s a v ≡ stopped (evaluate (frame_of n s) a e)

-- the slot of a local, which is one of the frame's
pub record IsLocal (n : Slotted) (x : List ℕ) (k : ℕ) : Type 0 where
  pub slot : k ≡ slot_in n.locals x
  pub there : k < length n.locals

-- the slot of a region, which is one of the frame's
pub record IsRegion (n : Slotted) (x : List ℕ) (k : ℕ) : Type 0 where
  pub slot : k ≡ slot_in n.regions x
  pub there : k < length n.regions

-- the slot of a target, if there is one
abbrev pub IsTarget : Slotted → Option Named → Option ℕ → Type 0
IsTarget n None None = ⊤
IsTarget n (Some x) (Some k) = IsLocal n x.name k
IsTarget n None (Some k) = ⊥
IsTarget n (Some x) None = ⊥

-- the slots of a callee, as its frame
abbrev pub as_frame : Slotted → Result Slots Stop → Result Frame Stop
as_frame n (Ok s) = Ok (frame_of n s)
as_frame n (Err e) = Err e

-- slots that fit, if there are any
abbrev pub FitsIfAny : Slotted → Result Slots Stop → Type 0
FitsIfAny n (Ok s) = Fits n s
FitsIfAny n (Err e) = ⊤

-- what is passed is what the arguments are for the parameters
pub record Passes (n m : Slotted) (ps : List Parameter) (es : List Argument) (vs : List Passed) (s : Slots) (a : Arrays) (g : Slots) : Type 0 where
  pub value : as_frame m (passing s a vs g) ≡ stopped (with_arguments (frame_of n s) a ps es (frame_of m g))
  pub fits : FitsIfAny m (passing s a vs g)

-- the place of the procedure with a name: the first one, or after the last
abbrev pub place_in : List Procedure → List ℕ → ℕ
place_in [] x = 0
place_in (p ∷ procedures) x = if bytes_eq p.name.name x then 0 else suc (place_in procedures x)

module _ (procedures : List Procedure) where
  -- a call stands for one
  pub record IsCall (n : Slotted) (s : Side) (c : Call) : Type 0 where
    pub target : IsTarget n s.target c.target
    pub callee : c.callee ≡ place_in procedures s.callee.name
    pub passed : (t : Slots) (a : Arrays) (g : Slots) → Fits n t → Fits (names_of (procedure_named procedures s.callee.name)) g
        → Passes n (names_of (procedure_named procedures s.callee.name)) (procedure_named procedures s.callee.name).parameters s.arguments c.passed.items t a g

  module _ (blocks : List (List Step)) (n : Slotted) where
    mutual
      -- a step stands for a statement
      pub data Stands : Statement → Step → Type 0 where
        StandsLet : (x : Named) (e : Expression) (k : ℕ) (v : Value) → IsLocal n x.name k → IsWorth n e v → Stands (Let x e) (step.Set k v)
        StandsAssign : (x : Named) (e : Expression) (k : ℕ) (v : Value) → IsLocal n x.name k → IsWorth n e v → Stands (Assign x e) (step.Set k v)
        StandsPut : (x : Named) (i e : Expression) (k : ℕ) (j v : Value) → k ≡ slot_in n.regions x.name → IsWorth n i j → IsWorth n e v
            → Stands (Put x i e) (step.Put k x.line j v)
        StandsIf : (e : Expression) (p c : Block) (v : Value) (i j : ℕ) → IsWorth n e v → Lies p (get_or blocks i []) → Lies c (get_or blocks j [])
            → Stands (If e p c) (step.Choose v i j)
        StandsWhile : (e : Expression) (p : Block) (v : Value) (i j : ℕ) → get_or blocks i [] ≡ step.Test v j ∷ [] → IsWorth n e v → Lies p (get_or blocks j [])
            → Stands (While e p) (step.Loop i)
        StandsCall : (s : Side) (c : Call) → IsCall n s c → Stands (tree.Call s) (step.Call c)
        StandsFork : (s t : Side) (c d : Call) → IsCall n s c → IsCall n t d → Stands (tree.Fork s t) (step.Fork c d)
        StandsSplit : (line : ℕ) (r : Named) (e : Expression) (x y : Named) (p : Block) (k : ℕ) (v : Value) (q : Parts) → k ≡ slot_in n.regions r.name
            → IsWorth n e v → IsRegion n x.name q.first → IsRegion n y.name q.second → Lies p (get_or blocks q.block [])
            → Stands (Split line r e x y p) (step.Split line k v q)
        StandsEach : (i x r : Named) (p : Block) (j k m b : ℕ) → IsLocal n i.name j → IsRegion n x.name k → m ≡ slot_in n.regions r.name
            → Lies p (get_or blocks b []) → Stands (tree.Each i x r p) (step.Each j k m b)

      -- steps stand for a block
      pub data Lies : Block → List Step → Type 0 where
        LiesNil : Lies Nil []
        LiesThen : (s : Statement) (b : Block) (st : Step) (steps : List Step) → Stands s st → Lies b steps → Lies (Then s b) (st ∷ steps)

-- what a procedure gives
abbrev pub IsGive : Slotted → Option Give → Option Value → Type 0
IsGive n None None = ⊤
IsGive n (Some g) (Some v) = IsWorth n g.value v
IsGive n None (Some v) = ⊥
IsGive n (Some g) None = ⊥

-- a procedure of a code stands for one of the program
pub record IsRoutine (procedures : List Procedure) (blocks : List (List Step)) (p : Procedure) (r : Routine) : Type 0 where
  pub locals : r.locals ≡ length (names_of p).locals
  pub regions : r.regions ≡ length (names_of p).regions
  pub body : Lies procedures blocks (names_of p) p.body (get_or blocks r.body [])
  pub give : IsGive (names_of p) p.give r.give

-- a code stands for the procedures of a program
pub record IsLaid (procedures : List Procedure) (c : Laid) : Type 0 where
  pub main : c.main ≡ place_in procedures (codes "main")
  pub routine : (x : List ℕ) → IsRoutine procedures c.blocks (procedure_named procedures x) (routine_at c (place_in procedures x))

-- a local, or a region, of a name has a slot
abbrev pub HasLocal : Slotted → List ℕ → Type 0
HasLocal n x = slot_in n.locals x < length n.locals

abbrev pub HasRegion : Slotted → List ℕ → Type 0
HasRegion n x = slot_in n.regions x < length n.regions

abbrev pub HasTarget : Slotted → Option Named → Type 0
HasTarget n None = ⊤
HasTarget n (Some x) = HasLocal n x.name

abbrev mutual
  -- all names that a statement writes have slots
  pub HasWritten : Slotted → Statement → Type 0
  HasWritten n (Let x e) = HasLocal n x.name
  HasWritten n (Assign x e) = HasLocal n x.name
  HasWritten n (Put x i e) = ⊤
  HasWritten n (If e p c) = HasNames n p × HasNames n c
  HasWritten n (While e p) = HasNames n p
  HasWritten n (tree.Call s) = HasTarget n s.target
  HasWritten n (tree.Fork s t) = HasTarget n s.target × HasTarget n t.target
  HasWritten n (Split line r e x y p) = HasRegion n x.name × HasRegion n y.name × HasNames n p
  HasWritten n (tree.Each i x r p) = HasLocal n i.name × HasRegion n x.name × HasNames n p

  -- all names that the statements of a block write do
  pub HasNames : Slotted → Block → Type 0
  HasNames n Nil = ⊤
  HasNames n (Then s b) = HasWritten n s × HasNames n b

-- blocks with others after them
abbrev pub Grows : List (List Step) → List (List Step) → Type 0
Grows old new = (added : List (List Step)) × (new ≡ old ++ added)

-- the region that an argument lends, by its slot
abbrev pub IsLent : Slotted → Expression → Option ℕ → Type 0
IsLent n e (Some j) = (s : Slots) → lent (frame_of n s) e ≡ get_or s.regions j nowhere
IsLent n e None = (f : Frame) → lent f e ≡ nowhere

-- whether a parameter is a number
abbrev pub is_number : Mode → Bool
is_number mode.Int = true
is_number mode.Mut = false
is_number mode.Ref = false

-- a region is lent to a parameter
abbrev pub Lends : Slotted → Slotted → List ℕ → Expression → Passed → Type 0
Lends n m x e (passed.Number k v) = ⊥
Lends n m x e (passed.Region k j) = (k ≡ slot_in m.regions x) × IsLent n e (Some j)
Lends n m x e (passed.Nowhere k) = (k ≡ slot_in m.regions x) × IsLent n e None

-- a local gets a value
abbrev pub Sets : Slotted → List ℕ → Expression → Step → Type 0
Sets n x e st = (k : ℕ) × (v : Value) × (st ≡ step.Set k v) × (k ≡ slot_in n.locals x) × IsWorth n e v

-- the arguments that declared types hold
abbrev pub arguments_of : List declared.Argument → List Argument
arguments_of es = map (λ a. record { line = a.line; value = expression_of a.value }) es

-- what an argument passes to a parameter
abbrev pub PassesOne : Slotted → Slotted → Parameter → Expression → Passed → Type 0
PassesOne n m p e (passed.Number k v) = (is_number p.mode ≡ true) × (k ≡ slot_in m.locals p.name.name) × IsWorth n e v
PassesOne n m p e (passed.Region k j) = (is_number p.mode ≡ false) × Lends n m p.name.name e (passed.Region k j)
PassesOne n m p e (passed.Nowhere k) = (is_number p.mode ≡ false) × Lends n m p.name.name e (passed.Nowhere k)

-- what arguments pass to parameters, as far as there are both
pub data PassesAll (n m : Slotted) : List Parameter → List Argument → List Passed → Type 0 where
  NoParameter : (es : List Argument) → PassesAll n m [] es []
  NoArgument : (p : Parameter) (ps : List Parameter) → PassesAll n m (p ∷ ps) [] []
  OneMore : (p : Parameter) (ps : List Parameter) (e : Argument) (es : List Argument) (v : Passed) (vs : List Passed) → PassesOne n m p e.value v
      → PassesAll n m ps es vs → PassesAll n m (p ∷ ps) (e ∷ es) (v ∷ vs)

-- what is passed, after what was there
abbrev pub PassesMore : Slotted → Slotted → List Parameter → List Argument → List Passed → List Passed → Type 0
PassesMore n m ps es old new = (vs : List Passed) × (new ≡ old ++ vs) × PassesAll n m ps es vs

module _ (procedures : List Procedure) where
  -- a statement is laid out, with its blocks after those that were there
  pub record LaysStep (n : Slotted) (s : Statement) (old new : List (List Step)) (st : Step) : Type 0 where
    pub grows : Grows old new
    pub stands : (longer : List (List Step)) → Grows new longer → HasWritten n s → Stands procedures longer n s st

  -- a block is laid out, after those that were there
  pub record LaysBlock (n : Slotted) (b : Block) (old new : List (List Step)) (place : ℕ) : Type 0 where
    pub grows : Grows old new
    pub lies : (longer : List (List Step)) → Grows new longer → HasNames n b → Lies procedures longer n b (get_or longer place [])

  -- the statements of a block that are laid out, with these left
  pub record LaysSome (n : Slotted) (b left : Block) (old new : List (List Step)) (steps : List Step) : Type 0 where
    pub grows : Grows old new
    pub names : HasNames n b → HasNames n left
    pub lies : (longer : List (List Step)) → Grows new longer → HasNames n b → (rest : List Step) → Lies procedures longer n left rest
        → Lies procedures longer n b (steps ++ rest)

  -- a procedure is laid out
  pub record LaysRoutine (p : Procedure) (old new : List (List Step)) (r : Routine) : Type 0 where
    pub grows : Grows old new
    pub routine : (longer : List (List Step)) → Grows new longer → IsRoutine procedures longer p r

  -- procedures are, one after the other
  abbrev pub ArePlaced : List (List Step) → List Procedure → List Routine → Type 0
  ArePlaced blocks [] [] = ⊤
  ArePlaced blocks [] (r ∷ rs) = ⊥
  ArePlaced blocks (p ∷ ps) [] = ⊥
  ArePlaced blocks (p ∷ ps) (r ∷ rs) = IsRoutine procedures blocks p r × ArePlaced blocks ps rs

  -- procedures are laid out after those that were there
  pub record LaysMore (ps : List Procedure) (old new : List (List Step)) (before after : List Routine) : Type 0 where
    pub grows : Grows old new
    pub added : List Routine
    pub all : after ≡ before ++ added
    pub placed : (longer : List (List Step)) → Grows new longer → ArePlaced longer ps added
