-- The limits of a program, of its code and of a machine, and of values: the one home of each that several layers speak of.
use Rattle.std.specs.Prelude.{ℕ, ◌^◌}

-- the bytes of a name
abbrev pub name_limit : ℕ
name_limit = 32

-- values are from -2^63 to 2^63 - 1: those of a word in two's complement
abbrev pub value_bound : ℕ
value_bound = 2 ^ 63

-- the arrays of a program
abbrev pub array_limit : ℕ
array_limit = 64

-- the words of all its arrays together
abbrev pub word_limit : ℕ
word_limit = 4194304

-- the procedures of a program, each `each` counted with them, and those of a code
abbrev pub procedure_limit : ℕ
procedure_limit = 1024

-- the parameters of a procedure, and the arguments of a call
abbrev pub parameter_limit : ℕ
parameter_limit = 12

-- the nodes in the expressions of one statement
abbrev pub node_limit : ℕ
node_limit = 48

-- the constructs that are open at a place of a text
abbrev pub depth_limit : ℕ
depth_limit = 32

-- the lines of a source of at most 1,048,576 bytes
abbrev pub line_limit : ℕ
line_limit = 1048577

-- the capsules of a code
abbrev pub capsule_limit : ℕ
capsule_limit = 65535

-- the processors of a machine, and so its places and its watchers
abbrev pub processor_limit : ℕ
processor_limit = 64

-- the words that one capsule may ask for
abbrev pub room_limit : ℕ
room_limit = 1048576

-- the entries of a deque
abbrev pub entry_limit : ℕ
entry_limit = 65536

-- the work turns that a processor may make, the acts of a replay, and how often an item of a schedule is done
abbrev pub turn_limit : ℕ
turn_limit = 268435456
