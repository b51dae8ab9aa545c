-- How the words of the machine are written, each by what it is.
use Rattle.std.specs.Prelude.{ℕ, ◌^◌, ◌%◌, ◌==◌, nat_lt, if◌then◌else◌, Option, Some, None, List, [], ◌∷◌, ◌++◌, codes, decimal}
use Rattle.std.specs.Fmt.{signed_decimal}
use Rattle.ppm_words.specs.TwosComplement.{value_of}
use Rattle.ppm_words.specs.declared.trap.Trap.{Trap}
use Rattle.ppm_words.specs.declared.trap.Trap.TheVariants.{Overflow, DivZero, Index, Split}
use Rattle.ppm_cells.specs.declared.side.Side.{Side}
use Rattle.ppm_cells.specs.declared.side.Side.TheVariants.{Left, Right}
use Rattle.ppm_cells.specs.declared.restart.Restart.{Restart}
use Rattle.ppm_cells.specs.declared.restart.RestartKind.{RestartKind}
use Rattle.ppm_cells.specs.declared.restart.RestartKind.TheVariants.{Run, Bump, Push1, Push2, Unwind, Arrive, Join, Pop1, Pop2, Seek, Steal, Check, Take, Take2}
use Rattle.ppm_cells.specs.declared.entry.Entry.{Entry}
use Rattle.ppm_cells.specs.declared.entry.Entry.TheVariants.{Empty, Local, Job, Taken}
use Rattle.ppm_cells.specs.declared.holder.Holder.{Holder}
use Rattle.ppm_cells.specs.declared.link.Link.{Link}
use Rattle.ppm_cells.specs.declared.link.LinkKind.{LinkKind}
use Rattle.ppm_cells.specs.declared.link.LinkKind.TheVariants.{Root, Call, Branch, Fork}
use Rattle.ppm_cells.specs.declared.finish.Finish.{Finish}
use Rattle.ppm_cells.specs.declared.finish.Finish.TheVariants.{Unset, Ended, Trapped, OutOfTurns, OutOfRoom, Stopped, Broken}
use Rattle.ppm_cells.specs.Restart.{restart_of}
use Rattle.ppm_cells.specs.Entry.{entry_of}
use Rattle.ppm_cells.specs.Holder.{holder_of}
use Rattle.ppm_cells.specs.Link.{link_of}
use Rattle.ppm_cells.specs.Finish.{finish_of}
use Rattle.ppm_naming.specs.declared.kind.WordKind.{WordKind}
use Rattle.ppm_naming.specs.declared.kind.WordKind.TheVariants as kind

-- a number in brackets
abbrev pub one_text : ℕ → List ℕ
one_text n = 40 ∷ decimal n ++ 41 ∷ []

-- two numbers in brackets, with a separator between them
abbrev pub two_text : (first : ℕ) (separator : List ℕ) (second : ℕ) → List ℕ
two_text first separator second = 40 ∷ decimal first ++ separator ++ decimal second ++ 41 ∷ []

-- the tag of an entry or of a holder word
abbrev pub tag_text : ℕ → List ℕ
tag_text tag = 35 ∷ decimal tag

-- a branch of a fork
abbrev pub side_name : Side → List ℕ
side_name Left = codes "left"
side_name Right = codes "right"

-- a fork block and a branch of it, in brackets
abbrev pub branch_text : (block : ℕ) → Side → List ℕ
branch_text block side = 40 ∷ decimal block ++ 44 ∷ side_name side ++ 41 ∷ []

-- the name of a trap
abbrev pub trap_name : Trap → List ℕ
trap_name Overflow = codes "overflow"
trap_name DivZero = codes "divzero"
trap_name Index = codes "index"
trap_name Split = codes "split"

-- a trap and its line in the source, in brackets
abbrev pub trapped_text : Trap → (line : ℕ) → List ℕ
trapped_text trap line = 40 ∷ trap_name trap ++ 44 ∷ decimal line ++ 41 ∷ []

-- the name of a kind of restart words
abbrev pub restart_name : RestartKind → List ℕ
restart_name (Run frame copy) = codes "Run"
restart_name (Bump block) = codes "Bump"
restart_name (Push1 block) = codes "Push1"
restart_name (Push2 block) = codes "Push2"
restart_name (Unwind frame) = codes "Unwind"
restart_name (Arrive block side) = codes "Arrive"
restart_name (Join block side) = codes "Join"
restart_name Pop1 = codes "Pop1"
restart_name (Pop2 block) = codes "Pop2"
restart_name Seek = codes "Seek"
restart_name (Steal victim slot) = codes "Steal"
restart_name (Check victim slot) = codes "Check"
restart_name (Take victim dead) = codes "Take"
restart_name (Take2 victim) = codes "Take2"

-- what it goes on with, in brackets: a frame with its copy, a block, a frame, a branch, a place with a slot or with a dead processor
abbrev pub subject_text : RestartKind → List ℕ
subject_text (Run frame copy) = two_text frame (codes ",") copy
subject_text (Bump block) = one_text block
subject_text (Push1 block) = one_text block
subject_text (Push2 block) = one_text block
subject_text (Unwind frame) = one_text frame
subject_text (Arrive block side) = branch_text block side
subject_text (Join block side) = branch_text block side
subject_text Pop1 = []
subject_text (Pop2 block) = one_text block
subject_text Seek = []
subject_text (Steal victim slot) = two_text victim (codes "/") slot
subject_text (Check victim slot) = two_text victim (codes "/") slot
subject_text (Take victim dead) = two_text victim (codes ",p") dead
subject_text (Take2 victim) = one_text victim

-- a restart word: its kind, what it goes on with, and the bottom of the deque
abbrev pub restart_text : Restart → List ℕ
restart_text r = restart_name r.kind ++ subject_text r.kind ++ 94 ∷ decimal r.bottom

-- a place that took an entry, and whether it took it out of a local one
abbrev pub taker_text : ℕ → List ℕ
taker_text taker = if nat_lt taker 64 then one_text taker else 40 ∷ decimal (taker % 64) ++ codes ",local)"

-- an entry: its kind, its block or its taker, and its tag
abbrev pub entry_text : Entry → List ℕ
entry_text (Empty tag) = codes "Empty" ++ tag_text tag
entry_text (Local tag block) = codes "Local" ++ one_text block ++ tag_text tag
entry_text (Job tag block) = codes "Job" ++ one_text block ++ tag_text tag
entry_text (Taken tag taker) = codes "Taken" ++ taker_text taker ++ tag_text tag

-- a holder word: its processor and its tag
abbrev pub holder_text : Holder → List ℕ
holder_text h = 112 ∷ decimal h.processor ++ tag_text h.tag

-- where a link leads
abbrev pub lead_text : LinkKind → List ℕ
lead_text Root = codes "root"
lead_text (Call frame copy) = codes "call" ++ two_text frame (codes ",") copy
lead_text (Branch side block) = side_name side ++ one_text block
lead_text (Fork frame copy) = codes "fork" ++ two_text frame (codes ",") copy

-- a link, without its size
abbrev pub link_text : Link → List ℕ
link_text link = lead_text link.kind

-- how a run or a strand ended
abbrev pub finish_text : Finish → List ℕ
finish_text Unset = codes "none"
finish_text Ended = codes "ended"
finish_text (Trapped trap line) = codes "trap" ++ trapped_text trap line
finish_text (OutOfTurns processor) = codes "turns" ++ one_text processor
finish_text (OutOfRoom place) = codes "room" ++ one_text place
finish_text Stopped = codes "stopped"
finish_text (Broken place) = codes "broken" ++ one_text place

-- the text of what a word stands for; a word that stands for nothing is decimal
abbrev pub or_decimal : {V : Type 0} → (V → List ℕ) → (word : ℕ) → Option V → List ℕ
or_decimal text word None = decimal word
or_decimal text word (Some v) = text v

-- which branch of a fork came first to its join
abbrev pub order_text : (word : ℕ) → List ℕ
order_text word =
    if word == 0 then codes "none"
    else (if word == 1 then codes "left"
    else (if word == 2 then codes "right"
    else (if word == 3 then codes "both"
    else decimal word)))

-- the entry that a word stands for
abbrev pub entry_word_text : (word : ℕ) → List ℕ
entry_word_text word = or_decimal entry_text word (entry_of word)

-- who carries a place by a word
abbrev pub holder_word_text : (word : ℕ) → List ℕ
holder_word_text word = or_decimal holder_text word (holder_of word)

-- a message: none, an entry from 2^62 on, and else a holder word
abbrev pub message_text : (word : ℕ) → List ℕ
message_text word =
    if word == 0 then codes "-"
    else (if nat_lt word (2 ^ 62) then holder_word_text word else entry_word_text word)

-- a word, as its kind is written
abbrev pub value_text : WordKind → (word : ℕ) → List ℕ
value_text kind.Number word = decimal word
value_text kind.Signed word = signed_decimal (value_of word)
value_text kind.Order word = order_text word
value_text kind.Restart word = or_decimal restart_text word (restart_of word)
value_text kind.Entry word = entry_word_text word
value_text kind.Holder word = holder_word_text word
value_text kind.Message word = message_text word
value_text kind.Link word = or_decimal link_text word (link_of word)
value_text kind.Finish word = or_decimal finish_text word (finish_of word)
