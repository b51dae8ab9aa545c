-- A run of the serial meaning by steps, over names: what comes next, and what is open around it, as a list. It stands where the next step takes more
-- turns than are left.
use Rattle.std.specs.Prelude.{◌≡◌, ◌-◌, ◌+◌, ◌*◌, ℕ, zero, suc, ℤ, pos, nat_lt, true, false, List, [], ◌∷◌, length, Option, Some, None, Result, Ok, Err, ⊤, if◌then◌else◌}
use Rattle.ppm_tree.specs.declared.named.Named.{Named}
use Rattle.ppm_tree.specs.Tree.{Expression, Side, Statement, Block, Nil, Then, Let, Assign, Put, If, While, Split, Give, Procedure, ProgramTree}
use Rattle.ppm_tree.specs.Tree as tree
use Rattle.ppm_tree.specs.Values.{holds}
use Rattle.ppm_tree.specs.State.{TrapAt, then_with, Frame, Arrays, with_local, with_word, split_at, evaluate, put_values, procedure_named}
use Rattle.ppm_tree.specs.State.{entered, both_entered, delivered}
use Rattle.ppm_tree.specs.Meaning.{chosen, with_parts, with_element}
use Rattle.ppm_tree.specs.Program.{values_of, initial_arrays, main_of, main_frame}
use Rattle.ppm_by_name.specs.declared.stop.Stop.{Stop}
use Rattle.ppm_by_name.specs.declared.stop.Stop.TheVariants as stop
use Rattle.ppm_standing.specs.Rests.{Caller, Sweep, Rest}
use Rattle.ppm_standing.specs.Rests as rest
use Rattle.ppm_standing.specs.Nexts.{Next, Run}
use Rattle.ppm_standing.specs.Nexts as next

-- a call leaves what is said, or stops at the trap that is said; want of memory is free
abbrev pub Does : {A B : Type 0} → Result B Stop → A → Result A TrapAt → Type 0
Does (Ok x) left said = said ≡ Ok left
Does (Err (stop.Trapped t line)) left said = said ≡ Err (t, line)
Does (Err stop.NoMemory) left said = ⊤

-- a value is what is said, or the call stops at the trap that is said
abbrev pub Gives : {A : Type 0} → Result A Stop → Result A TrapAt → Type 0
Gives (Ok x) said = said ≡ Ok x
Gives (Err (stop.Trapped t line)) said = said ≡ Err (t, line)
Gives (Err stop.NoMemory) said = ⊤

-- a run with other parts
abbrev pub to : Next → Run → Run
to n w = record { procedure = w.procedure; frame = w.frame; store = w.store; next = n; around = w.around; left = w.left; ended = w.ended }

abbrev pub with_frame : Frame → Run → Run
with_frame f w = record { procedure = w.procedure; frame = f; store = w.store; next = w.next; around = w.around; left = w.left; ended = w.ended }

abbrev pub with_store : Arrays → Run → Run
with_store a w = record { procedure = w.procedure; frame = w.frame; store = a; next = w.next; around = w.around; left = w.left; ended = w.ended }

abbrev pub with_around : List Rest → Run → Run
with_around k w = record { procedure = w.procedure; frame = w.frame; store = w.store; next = w.next; around = k; left = w.left; ended = w.ended }

abbrev pub with_left : ℕ → Run → Run
with_left n w = record { procedure = w.procedure; frame = w.frame; store = w.store; next = w.next; around = w.around; left = n; ended = w.ended }

abbrev pub with_end : Run → Run
with_end w = record { procedure = w.procedure; frame = w.frame; store = w.store; next = next.Enter; around = w.around; left = w.left; ended = true }

-- one thing more is open, inside of the others
abbrev pub opened : Rest → Run → Run
opened r w = with_around (r ∷ w.around) w

-- a procedure that is about to be entered with a frame
abbrev pub entering : Procedure → Frame → List Rest → Run → Run
entering p f k w = record { procedure = p; frame = f; store = w.store; next = next.Enter; around = k; left = w.left; ended = w.ended }

-- who called goes on, with this frame
abbrev pub back : Caller → Frame → Run → Run
back c f w = record { procedure = c.procedure; frame = f; store = w.store; next = next.Block c.rest; around = w.around; left = w.left; ended = w.ended }

-- a block comes next, and this is open around it
abbrev pub inside : Block → Rest → Run → Run
inside b r w = to (next.Block b) (with_around (r ∷ w.around) w)

-- who waits for a callee
abbrev pub waiting : Side → Block → Run → Caller
waiting s b w = record { procedure = w.procedure; frame = w.frame; rest = b; side = s }

-- the blocks of an `each`, from the first one on
abbrev pub all_of : Named → Named → Named → Block → Block → Run → Sweep
all_of i x r s b w = record { index = i; part = x; block = s; region = w.frame.regions r.name; next = 0; frame = w.frame; rest = b }

-- those after the next one
abbrev pub swept_once : Sweep → Sweep
swept_once q = record { index = q.index; part = q.part; block = q.block; region = q.region; next = suc q.next; frame = q.frame; rest = q.rest }

-- the next block of an `each`, or what follows the last one
abbrev pub sweeping : Sweep → Run → Run
sweeping q w =
    if nat_lt q.next q.region.length
    then inside q.block (rest.Sweeps (swept_once q)) (with_frame (with_element q.frame q.region q.next q.index q.part) w)
    else to (next.Block q.rest) (with_frame q.frame w)

-- what a procedure gives at its end, 0 if it gives nothing
abbrev pub gives : Option Give → Run → Result ℤ TrapAt
gives None w = Ok (pos 0)
gives (Some g) w = evaluate w.frame w.store g.value

-- the test of a loop chooses its block, after which the test comes again
abbrev pub testing : Expression → Block → Run → Result Run TrapAt
testing e s w = then_with (evaluate w.frame w.store e) (λ v. Ok (if holds v then inside s (rest.Loop e s) w else to (next.Block Nil) w))

-- the end of a block, which leaves what is open around it
abbrev pub closing : List Rest → Run → Run
closing [] w = to next.Last w
closing (r ∷ k) w = to (next.Leave r) (with_around k w)

-- the regions of one frame, and the locals of another
abbrev pub with_regions : Frame → Frame → Frame
with_regions f g = record { regions = f.regions; locals = g.locals }

module _ (procedures : List Procedure) where
  -- the procedure that a call names
  abbrev pub callee : Side → Procedure
  callee s = procedure_named procedures s.callee.name

  -- a statement with a block after it is done, or as far as its first block or callee
  abbrev pub doing : Statement → Block → Run → Result Run TrapAt
  doing (Let x e) b w = then_with (evaluate w.frame w.store e) (λ v. Ok (to (next.Block b) (with_frame (with_local w.frame x.name v) w)))
  doing (Assign x e) b w = then_with (evaluate w.frame w.store e) (λ v. Ok (to (next.Block b) (with_frame (with_local w.frame x.name v) w)))
  doing (Put x i e) b w = then_with (put_values w.frame w.store x i e) (λ p. Ok (to (next.Block b) (with_store (with_word w.store (w.frame.regions x.name) p.0 p.1) w)))
  doing (If e s t) b w = then_with (evaluate w.frame w.store e) (λ v. Ok (inside (chosen (holds v) s t) (rest.Block b) w))
  doing (While e s) b w = Ok (to (next.Test e s) (with_around (rest.Block b ∷ w.around) w))
  doing (tree.Call s) b w = then_with (entered procedures w.frame w.store s) (λ g. Ok (entering (callee s) g (rest.Call (waiting s b w) ∷ w.around) w))
  doing (tree.Fork s t) b w = then_with (both_entered procedures w.frame w.store s t) (λ q. Ok (entering (callee s) q.0 (rest.Left (waiting s b w) t q.1 ∷ w.around) w))
  doing (Split line r e x y s) b w = then_with (then_with (evaluate w.frame w.store e) (split_at line (w.frame.regions r.name)))
      (λ n. Ok (inside s (rest.Parts w.frame b) (with_frame (with_parts w.frame (w.frame.regions r.name) n x y) w)))
  doing (tree.Each i x r s) b w = Ok (to (next.Block Nil) (with_around (rest.Sweeps (all_of i x r s b w) ∷ w.around) w))

  -- what was open around a block goes on after it
  abbrev pub leaving : Rest → Run → Result Run TrapAt
  leaving (rest.Block b) w = Ok (to (next.Block b) w)
  leaving (rest.Loop e s) w = Ok (to (next.Test e s) w)
  leaving (rest.Parts f b) w = Ok (to (next.Block b) (with_frame (with_regions f w.frame) w))
  leaving (rest.Sweeps q) w = Ok (sweeping q w)
  leaving (rest.Call c) w = then_with (gives w.procedure.give w) (λ v. Ok (back c (delivered c.side.target v c.frame) w))
  leaving (rest.Left c t h) w = then_with (gives w.procedure.give w) (λ v. Ok (entering (callee t) h (rest.Right c t v ∷ w.around) w))
  leaving (rest.Right c t v) w = then_with (gives w.procedure.give w) (λ u. Ok (back c (delivered t.target u (delivered c.side.target v c.frame)) w))

  -- a block goes on
  abbrev pub passing : Block → Run → Result Run TrapAt
  passing Nil w = Ok (closing w.around w)
  passing (Then s b) w = doing s b w

  -- one step, without its turns
  abbrev pub advancing : Next → Run → Result Run TrapAt
  advancing next.Enter w = Ok (to (next.Block w.procedure.body) w)
  advancing (next.Block b) w = passing b w
  advancing (next.Test e s) w = testing e s w
  advancing (next.Leave r) w = leaving r w
  advancing next.Last w = then_with (gives w.procedure.give w) (λ v. Ok (with_end w))

-- the turn of what a procedure gives
abbrev pub give_cost : Option Give → ℕ
give_cost None = 0
give_cost (Some g) = 1

-- the turns of what goes on after a block: 8 of a further block of an `each`, and that of what a procedure gives
abbrev pub rest_cost : Rest → Option Give → ℕ
rest_cost (rest.Block b) g = 0
rest_cost (rest.Loop e s) g = 0
rest_cost (rest.Parts f b) g = 0
rest_cost (rest.Sweeps q) g = if nat_lt q.next q.region.length then 8 else 0
rest_cost (rest.Call c) g = give_cost g
rest_cost (rest.Left c t h) g = give_cost g
rest_cost (rest.Right c t v) g = give_cost g

-- the turns of a statement as it begins
abbrev pub statement_cost : Statement → ℕ
statement_cost (tree.Each i x r s) = 9
statement_cost _ = 1

abbrev pub block_cost : Block → ℕ
block_cost Nil = 0
block_cost (Then s b) = statement_cost s

-- the turns that the next step takes
abbrev pub next_cost : Next → Option Give → ℕ
next_cost next.Enter g = 1
next_cost (next.Block b) g = block_cost b
next_cost (next.Test e s) g = 1
next_cost (next.Leave r) g = rest_cost r g
next_cost next.Last g = give_cost g

abbrev pub cost : Run → ℕ
cost w = next_cost w.next w.procedure.give

-- a step, with its turns
abbrev pub step : List Procedure → Run → Result Run TrapAt
step procedures w = advancing procedures w.next (with_left (w.left - cost w) w)

-- goes on after a step; a trap is no such place
abbrev pub on : Result Run TrapAt → (Run → Option Run) → Option Run
on (Ok w) go = go w
on (Err stop) go = None

-- Where a run stands within so many steps: before one that takes more turns than are left. A run that ends or traps stands nowhere.
abbrev pub stands : ℕ → List Procedure → Run → Option Run
stands zero procedures w = None
stands (suc n) procedures w = if w.ended then None else if nat_lt w.left (cost w) then Some w else on (step procedures w) (stands n procedures)

-- a program's run before the entry of `main`, with so many turns
abbrev pub beginning : ProgramTree → ℕ → Run
beginning t turns = record {
  procedure = main_of t;
  frame = main_frame t.arrays (main_of t).parameters;
  store = values_of (initial_arrays t);
  next = next.Enter;
  around = [];
  left = turns;
  ended = false;
}

-- more steps than a run makes with so many turns: each spends turns, or closes what earlier ones opened
abbrev pub steps_of : ℕ → ℕ
steps_of turns = 4 * turns + 4

-- where it stands after so many turns
abbrev pub stand : ProgramTree → ℕ → Option Run
stand t turns = stands (steps_of turns) t.procedures (beginning t turns)
