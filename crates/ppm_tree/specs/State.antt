-- What a run holds, and what an expression is worth in it.
use Rattle.std.specs.Prelude.{ℕ, ◌+◌, ◌-◌, ℤ, pos, negsuc, nat_lt, nat_le, Bool, true, false}
use Rattle.std.specs.Prelude.{List, [], ◌∷◌, Option, Some, None, Result, Ok, Err, get_or, set, if◌then◌else◌}
use Rattle.std.specs.Str.{bytes_eq}
use Rattle.ppm_words.specs.declared.trap.Trap.{Trap}
use Rattle.ppm_words.specs.declared.trap.Trap.TheVariants as trap
use Rattle.ppm_tree.specs.declared.mode.Mode.{Mode}
use Rattle.ppm_tree.specs.declared.mode.Mode.TheVariants as mode
use Rattle.ppm_tree.specs.Tree.{Named, Expression, Argument, Side, Parameter, Procedure}
use Rattle.ppm_tree.specs.Tree as tree
use Rattle.ppm_tree.specs.Values.{applied, decided, negated}

-- a trap with its line
abbrev pub TrapAt : Type 0
TrapAt = Trap × ℕ

-- goes on with what was found, or stops at the trap
abbrev pub then_with : {A B T : Type 0} → Result A T → (A → Result B T) → Result B T
then_with (Ok x) go = go x
then_with (Err stop) go = Err stop

-- a result whose trap is in this line
abbrev pub at_line : {A : Type 0} → ℕ → Result A Trap → Result A TrapAt
at_line line (Ok x) = Ok x
at_line line (Err t) = Err (t, line)

-- goes on where a test passes, else traps
abbrev pub tested : {A : Type 0} → Bool → TrapAt → A → Result A TrapAt
tested true stop x = Ok x
tested false stop x = Err stop

-- a stretch of an array: which array, its first word there, and how many words
pub record Region : Type 0 where
  pub array : ℕ
  pub start : ℕ
  pub length : ℕ

-- what a name without a region stands for; an admitted program has no such name
abbrev pub nowhere : Region
nowhere = record { array = 0; start = 0; length = 0 }

-- the first words of a region, so many
abbrev pub first_part : ℕ → Region → Region
first_part n r = record { array = r.array; start = r.start; length = n }

-- the words of a region after the first ones, so many
abbrev pub second_part : ℕ → Region → Region
second_part n r = record { array = r.array; start = r.start + n; length = r.length - n }

-- the one word of a region at an index
abbrev pub part_at : ℕ → Region → Region
part_at i r = record { array = r.array; start = r.start + i; length = 1 }

-- the regions of a frame, by their names
abbrev pub Regions : Type 0
Regions = List ℕ → Region

-- the locals of a frame, by their names
abbrev pub Locals : Type 0
Locals = List ℕ → ℤ

-- what names stand for, with one name standing for something else
abbrev pub with_name : {A : Type 0} → (List ℕ → A) → List ℕ → A → List ℕ → A
with_name names x v y = if bytes_eq x y then v else names y

-- a frame: its regions and its locals
pub record Frame : Type 0 where
  pub regions : Regions
  pub locals : Locals

-- the frame of a procedure before its arguments
abbrev pub empty_frame : Frame
empty_frame = record { regions = λ x. nowhere; locals = λ x. pos 0 }

-- a frame with a region
abbrev pub with_region : Frame → List ℕ → Region → Frame
with_region frame x r = record { regions = with_name frame.regions x r; locals = frame.locals }

-- a frame with a local
abbrev pub with_local : Frame → List ℕ → ℤ → Frame
with_local frame x v = record { regions = frame.regions; locals = with_name frame.locals x v }

-- a frame with other locals
abbrev pub with_locals : Frame → Locals → Frame
with_locals frame locals = record { regions = frame.regions; locals = locals }

-- the arrays of a run, by their places in the program
abbrev pub Arrays : Type 0
Arrays = List (List ℤ)

-- the words of the array at a place
abbrev pub array_at : Arrays → ℕ → List ℤ
array_at arrays a = get_or arrays a []

-- the word of a region at an index
abbrev pub word_at : Arrays → Region → ℕ → ℤ
word_at arrays r i = get_or (array_at arrays r.array) (r.start + i) (pos 0)

-- the arrays with a value at an index of a region
abbrev pub with_word : Arrays → Region → ℕ → ℤ → Arrays
with_word arrays r i v = set arrays r.array (set (array_at arrays r.array) (r.start + i) v)

-- an index of a region: from 0 to its length less one
abbrev pub index_in : ℕ → Region → ℤ → Result ℕ TrapAt
index_in line r (pos i) = tested (nat_lt i r.length) (trap.Index, line) i
index_in line r (negsuc i) = Err (trap.Index, line)

-- how many words the first part of a split region has: from 0 to its length
abbrev pub split_at : ℕ → Region → ℤ → Result ℕ TrapAt
split_at line r (pos n) = tested (nat_le n r.length) (trap.Split, line) n
split_at line r (negsuc n) = Err (trap.Split, line)

-- goes on with the right operand where the left one has not decided
abbrev pub unless_decided : Option ℤ → Result ℤ TrapAt → Result ℤ TrapAt
unless_decided (Some v) right = Ok v
unless_decided None right = right

-- the value of an expression; operands are evaluated from left to right
abbrev pub evaluate : Frame → Arrays → Expression → Result ℤ TrapAt
evaluate frame arrays (tree.Number z) = Ok z
evaluate frame arrays (tree.Name x) = Ok (frame.locals x.name)
evaluate frame arrays (tree.Element x index) =
    then_with (evaluate frame arrays index) (λ i. then_with (index_in x.line (frame.regions x.name) i) (λ k. Ok (word_at arrays (frame.regions x.name) k)))
evaluate frame arrays (tree.Len x) = Ok (pos (frame.regions x.name).length)
evaluate frame arrays (tree.Minus line e) = then_with (evaluate frame arrays e) (λ v. at_line line (negated v))
evaluate frame arrays (tree.Binary o line left right) =
    then_with (evaluate frame arrays left) (λ x. unless_decided (decided o x)
    (then_with (evaluate frame arrays right) (λ y. at_line line (applied o x y))))

-- the index and the value of an assignment to an element: index, then value, then the test of the index
abbrev pub put_values : Frame → Arrays → Named → Expression → Expression → Result (ℕ × ℤ) TrapAt
put_values frame arrays x index value =
    then_with (evaluate frame arrays index) (λ i. then_with (evaluate frame arrays value) (λ v.
    then_with (index_in x.line (frame.regions x.name) i) (λ k. Ok (k, v))))

-- the region that an argument lends; an admitted program lends by a name alone
abbrev pub lent : Frame → Expression → Region
lent frame (tree.Name x) = frame.regions x.name
lent frame _ = nowhere

-- the callee's frame with one argument more: a number is evaluated, a region is lent
abbrev pub with_argument : Frame → Arrays → Mode → List ℕ → Expression → Frame → Result Frame TrapAt
with_argument frame arrays mode.Int x e callee = then_with (evaluate frame arrays e) (λ v. Ok (with_local callee x v))
with_argument frame arrays mode.Mut x e callee = Ok (with_region callee x (lent frame e))
with_argument frame arrays mode.Ref x e callee = Ok (with_region callee x (lent frame e))

-- the callee's frame with its arguments, which are evaluated from left to right; an admitted program has as many as parameters
abbrev pub with_arguments : Frame → Arrays → List Parameter → List Argument → Frame → Result Frame TrapAt
with_arguments frame arrays [] arguments callee = Ok callee
with_arguments frame arrays (p ∷ parameters) [] callee = Ok callee
with_arguments frame arrays (p ∷ parameters) (a ∷ arguments) callee =
    then_with (with_argument frame arrays p.mode p.name.name a.value callee) (with_arguments frame arrays parameters arguments)

-- what a name without a procedure stands for; an admitted program has no such name
abbrev pub no_procedure : Procedure
no_procedure = record { name = record { name = []; line = 0 }; parameters = []; body = tree.Nil; give = None }

-- the procedure with the name
abbrev pub procedure_named : List Procedure → List ℕ → Procedure
procedure_named [] x = no_procedure
procedure_named (p ∷ procedures) x = if bytes_eq p.name.name x then p else procedure_named procedures x

-- the frame that a call makes for its callee
abbrev pub entered : List Procedure → Frame → Arrays → Side → Result Frame TrapAt
entered procedures frame arrays s = with_arguments frame arrays (procedure_named procedures s.callee.name).parameters s.arguments empty_frame

-- the frames that a fork makes for its branches: the arguments of both come before either branch
abbrev pub both_entered : List Procedure → Frame → Arrays → Side → Side → Result (Frame × Frame) TrapAt
both_entered procedures frame arrays left right =
    then_with (entered procedures frame arrays left) (λ f. then_with (entered procedures frame arrays right) (λ g. Ok (f, g)))

-- a value in its target, if there is one
abbrev pub delivered : Option Named → ℤ → Frame → Frame
delivered None v frame = frame
delivered (Some x) v frame = with_local frame x.name v
