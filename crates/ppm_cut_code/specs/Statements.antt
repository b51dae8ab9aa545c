-- The capsules of statements: those of each go on at the capsule after it.
use Rattle.std.specs.Prelude.{ℕ, zero, suc, ◌+◌, pos, List, [], ◌∷◌, ◌++◌, Option, Some, None, length, if◌then◌else◌}
use Rattle.std.specs.Str.{bytes_eq}
use Rattle.ppm_code.specs.declared.act.End.TheVariants as ends
use Rattle.ppm_code.specs.declared.instr.Instr.{Instr}
use Rattle.ppm_code.specs.declared.instr.Instr.TheVariants as instr
use Rattle.ppm_tree.specs.declared.mode.Mode.{Mode}
use Rattle.ppm_tree.specs.declared.mode.Mode.TheVariants as mode
use Rattle.ppm_tree.specs.declared.named.Named.{Named}
use Rattle.ppm_tree.specs.declared.tree.Parameter.{Parameter}
use Rattle.ppm_tree.specs.Tree.{Expression, Argument, Side, Statement, Block, Nil, Then, Give, Procedure}
use Rattle.ppm_tree.specs.Tree as tree
use Rattle.ppm_tree.specs.State.{procedure_named}
use Rattle.ppm_cut_code.specs.Layout.{Layout, slot_of, target_of, caught, register}
use Rattle.ppm_cut_code.specs.Expressions.{size_of, expression_code}
use Rattle.ppm_cut_code.specs.Numbers.{behind, end_of, hidden_behind, hidden_behind_block, halving, halved, element_block}
use Rattle.ppm_cut_code.specs.Slots.{procedure_slots, hidden_slots, frame_words, fork_words}

-- the instructions of a capsule
abbrev pub Instrs : Type 0
Instrs = List Instr

-- a capsule that only goes on
abbrev pub onward : ℕ → Instrs
onward next = instr.Ends (ends.Next next) ∷ []

-- `let x = e`: the slot of x is the first that no name has
abbrev pub let_code : Layout → Expression → (next : ℕ) → Instrs
let_code layout e next = expression_code layout e 0 0 (instr.StoreCur (length layout) (register 0) ∷ onward next)

-- `x = e`: the value goes into a spare slot, and the next capsule moves it
abbrev pub value_code : Layout → (spare : ℕ) → Expression → (next : ℕ) → Instrs
value_code layout spare e next = expression_code layout e 0 0 (instr.StoreCur spare (register 0) ∷ onward next)

abbrev pub move_code : Layout → (spare : ℕ) → Named → (next : ℕ) → Instrs
move_code layout spare x next = instr.LoadSlot (register 0) spare ∷ instr.StoreCur (slot_of layout x.name) (register 0) ∷ onward next

-- `x[i] = e`: index and value go into the spare slots, and the next capsule puts
abbrev pub element_code : Layout → (spare : ℕ) → (index value : Expression) → (next : ℕ) → Instrs
element_code layout spare index value next =
    expression_code layout index 0 0 (expression_code layout value 1 (size_of index)
    (instr.StoreCur spare (register 0) ∷ instr.StoreCur (suc spare) (register 1) ∷ onward next))

abbrev pub put_code : Layout → (spare : ℕ) → Named → (next : ℕ) → Instrs
put_code layout spare x next =
    instr.LoadSlot (register 0) (slot_of layout x.name) ∷ instr.LoadSlot (register 1) spare ∷ instr.LoadSlot (register 2) (suc spare)
    ∷ instr.Put (register 0) (register 1) (register 2) x.line ∷ onward next

-- a test: where it holds the run goes on inside, else after the block
abbrev pub test_code : Layout → Expression → (inside next : ℕ) → Instrs
test_code layout e inside next =
    expression_code layout e 0 0 (instr.BranchZero (register 0) (suc (suc (size_of e))) ∷ instr.Ends (ends.Next inside) ∷ onward next)

-- `split r at e into x, y`: both parts go into the first slots that no name has
abbrev pub split_code : Layout → (line : ℕ) → Named → Expression → (next : ℕ) → Instrs
split_code layout line r e next =
    expression_code layout e 0 0 (instr.LoadSlot (register 1) (slot_of layout r.name)
    ∷ instr.CutLeft (register 2) (register 1) (register 0) line ∷ instr.CutRight (register 3) (register 1) (register 0) line
    ∷ instr.StoreCur (length layout) (register 2) ∷ instr.StoreCur (suc (length layout)) (register 3) ∷ onward next)

-- an argument for a region: that of the name; no other argument is admitted for one
abbrev pub lent_code : Layout → Expression → (d : ℕ) → Instr
lent_code layout (tree.Name x) d = instr.LoadSlot (register d) (slot_of layout x.name)
lent_code layout e d = instr.Const (register d) (pos 0)

-- how many instructions an argument for a parameter of this mode has
abbrev pub argument_size : Mode → Expression → ℕ
argument_size mode.Int e = size_of e
argument_size m e = 1

abbrev pub argument_code : Layout → Mode → Expression → (d at : ℕ) → Instrs → Instrs
argument_code layout mode.Int e d at rest = expression_code layout e d at rest
argument_code layout mode.Mut e d at rest = lent_code layout e d ∷ rest
argument_code layout mode.Ref e d at rest = lent_code layout e d ∷ rest

-- the arguments of a call, each in a register of its own, from register d on
abbrev pub arguments_size : List Parameter → List Argument → ℕ
arguments_size [] arguments = 0
arguments_size (p ∷ parameters) [] = 0
arguments_size (p ∷ parameters) (a ∷ arguments) = argument_size p.mode a.value + arguments_size parameters arguments

abbrev pub arguments_code : Layout → List Parameter → List Argument → (d at : ℕ) → Instrs → Instrs
arguments_code layout [] arguments d at rest = rest
arguments_code layout (p ∷ parameters) [] d at rest = rest
arguments_code layout (p ∷ parameters) (a ∷ arguments) d at rest =
    argument_code layout p.mode a.value d at (arguments_code layout parameters arguments (suc d) (at + argument_size p.mode a.value) rest)

-- how many arguments there are for parameters
abbrev pub paired : List Parameter → List Argument → ℕ
paired [] arguments = 0
paired (p ∷ parameters) [] = 0
paired (p ∷ parameters) (a ∷ arguments) = suc (paired parameters arguments)

-- so many registers from d on go into words of the new block, from an offset on
abbrev pub stores_code : (offset d count : ℕ) → Instrs → Instrs
stores_code offset d zero rest = rest
stores_code offset d (suc count) rest = instr.StoreNew offset (register d) ∷ stores_code (suc offset) (suc d) count rest

-- how a block goes on after its last statement: at a capsule, or the frame is over, with what its body gives
pub data Last : Type 0 where
  OnTo : (next : ℕ) → Last
  Gives : Option Give → Last

-- the value that a body gives goes into its frame, and the frame is over
abbrev pub give_code : Layout → Option Give → Instrs
give_code layout None = instr.Ends ends.Finish ∷ []
give_code layout (Some g) = expression_code layout g.value 0 0 (instr.Give (register 0) ∷ instr.Ends ends.Finish ∷ [])

-- the capsule with which a block ends
abbrev pub last_code : Layout → Last → Instrs
last_code layout (OnTo next) = onward next
last_code layout (Gives g) = give_code layout g

-- the region of an `each`, the index 0, and the names of outside that its block names; then the hidden procedure is called
abbrev pub loads_code : Layout → (names : Layout) → (d : ℕ) → Instrs → Instrs
loads_code layout [] d rest = rest
loads_code layout (x ∷ names) d rest = instr.LoadSlot (register d) (slot_of layout x) ∷ loads_code layout names (suc d) rest

abbrev pub each_code : Layout → Named → Block → (hidden next : ℕ) → Instrs
each_code layout r block hidden next =
    let names = caught layout block in
    instr.Room (frame_words (hidden_slots (length names) block)) ∷ instr.LoadSlot (register 0) (slot_of layout r.name)
    ∷ instr.Const (register 1) (pos 0)
    ∷ loads_code layout names 2 (stores_code 6 0 (suc (suc (length names))) (instr.Ends (ends.Call hidden next None) ∷ []))

-- The hidden procedure is entered: where its part has more than one element it goes on by halves, where it has one at the block.
abbrev pub entry_code : (entry : ℕ) → Instrs
entry_code entry =
    instr.LoadSlot (register 0) 0 ∷ instr.Len (register 0) (register 0) ∷ instr.Const (register 1) (pos 1)
    ∷ instr.Less (register 2) (register 1) (register 0)
    ∷ instr.BranchZero (register 2) 6 ∷ instr.Ends (ends.Next (halving entry)) ∷ instr.BranchZero (register 0) 8
    ∷ instr.Ends (ends.Next (element_block entry)) ∷ instr.Ends ends.Finish ∷ []

-- By halves: it forks itself over the first half of its part from its first index on, and over the second half from as many further. So
-- many names of outside go to both. The line is that of the region's name; nothing here can trap.
abbrev pub names_code : (slot d count : ℕ) → Instrs → Instrs
names_code slot d zero rest = rest
names_code slot d (suc count) rest = instr.LoadSlot (register d) slot ∷ names_code (suc slot) (suc d) count rest

abbrev pub halving_code : (entry hidden slots names line : ℕ) → Instrs
halving_code entry hidden slots names line =
    let left_at : ℕ = 11 in
    let right_at : ℕ = 11 + frame_words slots in
    instr.Room (fork_words slots slots)
    ∷ instr.LoadSlot (register 0) 0 ∷ instr.Len (register 1) (register 0) ∷ instr.Const (register 2) (pos 2)
    ∷ instr.Div (register 1) (register 1) (register 2) line
    ∷ instr.CutLeft (register 2) (register 0) (register 1) line ∷ instr.CutRight (register 3) (register 0) (register 1) line
    ∷ instr.LoadSlot (register 4) 1 ∷ instr.Add (register 5) (register 4) (register 1) line
    ∷ names_code 2 6 names
    (instr.StoreNew left_at (register 2) ∷ instr.StoreNew (suc left_at) (register 4)
    ∷ stores_code (suc (suc left_at)) 6 names
    (instr.StoreNew right_at (register 3) ∷ instr.StoreNew (suc right_at) (register 5)
    ∷ stores_code (suc (suc right_at)) 6 names
    (instr.Ends (ends.Fork hidden hidden (halved entry) None None) ∷ [])))

-- the layout of a hidden procedure: its part, its first index, and the names of outside
abbrev pub hidden_layout : Layout → Named → Named → Block → Layout
hidden_layout layout i x block = x.name ∷ i.name ∷ caught layout block

-- the names that a statement adds for the rest of its block
abbrev pub with_lets : Layout → Statement → Layout
with_lets layout (tree.Let x e) = layout ++ x.name ∷ []
with_lets layout s = layout

-- and that a split adds for its own block
abbrev pub with_parts : Layout → Named → Named → Layout
with_parts layout x y = layout ++ x.name ∷ y.name ∷ []

-- the number of the first procedure of the name
abbrev pub number_of : List Procedure → List ℕ → ℕ
number_of [] x = 0
number_of (p ∷ procedures) x = if bytes_eq p.name.name x then 0 else suc (number_of procedures x)

module _ (procedures : List Procedure) where
  -- the procedure that a side calls, its parameters, its number, and the slots of its frames
  abbrev pub callee_parameters : Side → List Parameter
  callee_parameters s = (procedure_named procedures s.callee.name).parameters

  abbrev pub callee_number : Side → ℕ
  callee_number s = number_of procedures s.callee.name

  abbrev pub callee_slots : Side → ℕ
  callee_slots s = procedure_slots (procedure_named procedures s.callee.name)

  -- a call: the frame of the callee lies at the front of the new block
  abbrev pub call_code : Layout → Side → (next : ℕ) → Instrs
  call_code layout s next =
      let parameters = callee_parameters s in
      instr.Room (frame_words (callee_slots s))
      ∷ arguments_code layout parameters s.arguments 0 1 (stores_code 6 0 (paired parameters s.arguments)
      (instr.Ends (ends.Call (callee_number s) next (target_of layout s.target)) ∷ []))

  -- a fork: the arguments of both branches come before either frame is filled
  abbrev pub fork_code : Layout → (left right : Side) → (next : ℕ) → Instrs
  fork_code layout left right next =
      let l = callee_parameters left in
      let r = callee_parameters right in
      let lefts = paired l left.arguments in
      let rights = paired r right.arguments in
      instr.Room (fork_words (callee_slots left) (callee_slots right))
      ∷ arguments_code layout l left.arguments 0 1 (arguments_code layout r right.arguments lefts (suc (arguments_size l left.arguments))
      (stores_code 11 0 lefts (stores_code (11 + frame_words (callee_slots left)) lefts rights
      (instr.Ends (ends.Fork (callee_number left) (callee_number right) next (target_of layout left.target) (target_of layout right.target)) ∷ []))))

  -- The capsules of a statement, the first of which has the number `at`, in a procedure whose spare slots begin at `spare`. The hidden
  -- procedures of the statement begin at the number h.
  abbrev mutual
    pub statement_code : (spare : ℕ) → Layout → (at h : ℕ) → Statement → List Instrs
    statement_code spare layout at h (tree.Let x e) = let_code layout e (suc at) ∷ []
    statement_code spare layout at h (tree.Assign x e) = value_code layout spare e (suc at) ∷ move_code layout spare x (suc (suc at)) ∷ []
    statement_code spare layout at h (tree.Put x index e) =
        element_code layout spare index e (suc at) ∷ put_code layout spare x (suc (suc at)) ∷ []
    statement_code spare layout at h (tree.If e holds other) =
        let first = suc (end_of holds (suc at)) in
        let next = suc (end_of other first) in
        test_code layout e (suc at) first
        ∷ (block_code spare layout (suc at) h (OnTo next) holds ++ block_code spare layout first (hidden_behind_block holds h) (OnTo next) other)
    statement_code spare layout at h (tree.While e block) =
        test_code layout e (suc at) (suc (end_of block (suc at))) ∷ block_code spare layout (suc at) h (OnTo at) block
    statement_code spare layout at h (tree.Call s) = call_code layout s (suc at) ∷ []
    statement_code spare layout at h (tree.Fork s t) = fork_code layout s t (suc at) ∷ []
    statement_code spare layout at h (tree.Split line r e x y block) =
        split_code layout line r e (suc at) ∷ block_code spare (with_parts layout x y) (suc at) h (OnTo (suc (end_of block (suc at)))) block
    statement_code spare layout at h (tree.Each i x r block) = each_code layout r block h (suc at) ∷ []

    -- the capsules of a block, the last of which is how it goes on
    pub block_code : (spare : ℕ) → Layout → (at h : ℕ) → Last → Block → List Instrs
    block_code spare layout at h last Nil = last_code layout last ∷ []
    block_code spare layout at h last (Then s rest) =
        statement_code spare layout at h s ++ block_code spare (with_lets layout s) (behind s at) (hidden_behind s h) last rest
