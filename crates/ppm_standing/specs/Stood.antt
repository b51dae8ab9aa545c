-- What is told of the place where a run stands: the line, the procedure, what names stand for, and the calls that are open.
use Rattle.std.specs.Prelude.{◌≡◌, ◌+◌, ℕ, suc, List, [], ◌∷◌, Option, Some, None, if◌then◌else◌, nat_eq}
use Rattle.ppm_tree.specs.declared.named.Named.{Named}
use Rattle.ppm_tree.specs.Tree.{Expression, Side, Statement, Block, Nil, Then, Let, Assign, Put, If, While, Split, Give, Procedure, ProgramTree}
use Rattle.ppm_tree.specs.Tree as tree
use Rattle.ppm_standing.specs.Rests.{Rest}
use Rattle.ppm_standing.specs.Rests as rest
use Rattle.ppm_standing.specs.Nexts.{Next, Run}
use Rattle.ppm_standing.specs.Nexts as next
use Rattle.ppm_by_name.specs.declared.held.Reading.{Reading}
use Rattle.ppm_standing.specs.declared.stood.Stood.{Stood}
use Rattle.ppm_by_name.specs.Readings.{read_in, statement_readings}
use Rattle.ppm_standing.specs.Standing.{stand}

-- a line, or another one where it is 0
abbrev pub or_line : ℕ → ℕ → ℕ
or_line line other = if nat_eq line 0 then other else line

-- the line of the first sign or name of an expression that has one; 0 where there are numbers alone
abbrev pub expression_line : Expression → ℕ
expression_line (tree.Number z) = 0
expression_line (tree.Name x) = x.line
expression_line (tree.Element x index) = x.line
expression_line (tree.Len x) = x.line
expression_line (tree.Minus line e) = line
expression_line (tree.Binary o line left right) = or_line (expression_line left) line

-- the line of a call: of its target, or of its procedure
abbrev pub target_line : Option Named → ℕ → ℕ
target_line None line = line
target_line (Some x) line = x.line

abbrev pub side_line : Side → ℕ
side_line s = target_line s.target s.callee.line

-- the line of a statement: of its first name or sign, 0 where there is none
abbrev pub statement_line : Statement → ℕ
statement_line (Let x e) = x.line
statement_line (Assign x e) = x.line
statement_line (Put x i e) = x.line
statement_line (If e s t) = expression_line e
statement_line (While e s) = expression_line e
statement_line (tree.Call s) = side_line s
statement_line (tree.Fork s t) = side_line s
statement_line (Split line r e x y s) = line
statement_line (tree.Each i x r s) = i.line

-- the line of the first statement of a block, 0 where there is none
abbrev pub block_line : Block → ℕ
block_line Nil = 0
block_line (Then s b) = statement_line s

-- the line of what a procedure gives, 0 where it gives nothing
abbrev pub give_line : Option Give → ℕ
give_line None = 0
give_line (Some g) = g.line

-- the line of what goes on after a block
abbrev pub rest_line : Rest → Option Give → ℕ
rest_line (rest.Block b) g = block_line b
rest_line (rest.Loop e s) g = or_line (expression_line e) (block_line s)
rest_line (rest.Parts f b) g = block_line b
rest_line (rest.Sweeps q) g = q.index.line
rest_line (rest.Call c) g = give_line g
rest_line (rest.Left c t h) g = give_line g
rest_line (rest.Right c t v) g = give_line g

-- the line of what comes next, 0 where no line is kept
abbrev pub next_line : Next → Option Give → ℕ
next_line next.Enter g = 0
next_line (next.Block b) g = block_line b
next_line (next.Test e s) g = or_line (expression_line e) (block_line s)
next_line (next.Leave r) g = rest_line r g
next_line next.Last g = give_line g

module _ (procedures : List Procedure) where
  -- the names of the first statement of a block
  abbrev pub block_readings : Block → Run → List Reading
  block_readings Nil w = []
  block_readings (Then s b) w = statement_readings procedures w.frame s

  -- of what a procedure gives
  abbrev pub give_readings : Option Give → Run → List Reading
  give_readings None w = []
  give_readings (Some g) w = read_in w.frame g.value []

  -- of what goes on after a block, where it spends turns
  abbrev pub rest_readings : Rest → Run → List Reading
  rest_readings (rest.Call c) w = give_readings w.procedure.give w
  rest_readings (rest.Left c t h) w = give_readings w.procedure.give w
  rest_readings (rest.Right c t v) w = give_readings w.procedure.give w
  rest_readings _ w = []

  -- of what comes next
  abbrev pub next_readings : Next → Run → List Reading
  next_readings next.Enter w = []
  next_readings (next.Block b) w = block_readings b w
  next_readings (next.Test e s) w = read_in w.frame e []
  next_readings (next.Leave r) w = rest_readings r w
  next_readings next.Last w = give_readings w.procedure.give w

-- the line of a call that is open, if it is one
abbrev pub called_line : Rest → Option ℕ
called_line (rest.Call c) = Some (side_line c.side)
called_line (rest.Left c t h) = Some (side_line c.side)
called_line (rest.Right c t v) = Some (side_line t)
called_line _ = None

-- one more, if there is one
abbrev pub one_more : Option ℕ → ℕ → ℕ
one_more None n = n
one_more (Some line) n = suc n

-- how many calls are open
abbrev pub calls_in : List Rest → ℕ
calls_in [] = 0
calls_in (r ∷ k) = one_more (called_line r) (calls_in k)

-- the line of a call, or another one
abbrev pub call_or : Option ℕ → ℕ → ℕ
call_or None other = other
call_or (Some line) other = line

-- the line of the innermost call, 0 where none is open
abbrev pub innermost : List Rest → ℕ
innermost [] = 0
innermost (r ∷ k) = call_or (called_line r) (innermost k)

-- what is told of the place where a run stands
pub record IsStood (procedures : List Procedure) (w : Run) (stood : Stood) : Type 0 where
  pub line : stood.line ≡ or_line (next_line w.next w.procedure.give) w.procedure.name.line
  pub procedure : stood.procedure ≡ w.procedure.name.name
  pub declared_in : stood.procedure_line ≡ w.procedure.name.line
  pub values : stood.values ≡ next_readings procedures w.next w
  pub calls : stood.calls ≡ calls_in w.around
  pub call_line : stood.call_line ≡ innermost w.around

-- how many calls are open, and the line of the innermost one
abbrev pub IsCounted : List Rest → ℕ × ℕ → Type 0
IsCounted k c = (c.0 ≡ calls_in k) × (c.1 ≡ innermost k)

-- the calls of what was open are so many, and those of what is left; the line is that of the innermost one, if there was one
abbrev pub IsCounting : List Rest → ℕ → ℕ → List Rest → Type 0
IsCounting all calls line left = (calls_in all ≡ calls + calls_in left) × (innermost all ≡ (if nat_eq calls 0 then innermost left else line))

-- what is told of the run of a program with so many turns: where it stands, if it stands anywhere
abbrev pub IsStandOf : ProgramTree → ℕ → Option Stood → Type 0
IsStandOf t turns None = stand t turns ≡ None
IsStandOf t turns (Some stood) = (w : Run) × (stand t turns ≡ Some w) × IsStood t.procedures w stood
