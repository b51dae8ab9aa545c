-- The names of cells and of procedures, and how the word of a cell is written.
use Rattle.std.specs.Prelude.{ℕ, ◌-◌, nat_lt, if◌then◌else◌, Option, Some, None, List, [], ◌∷◌, ◌++◌, slice_get, codes, decimal}
use Rattle.ppm_cells.specs.declared.cell.Cell.{Cell}
use Rattle.ppm_cells.specs.declared.cell.Cell.TheVariants.{FinishWord, CarryWord, DeadWord, RestartWord, MessageWord, HolderWord}
use Rattle.ppm_cells.specs.declared.cell.Cell.TheVariants.{Top, RoomCounter, EntryWord, BlockWord, ArrayWord}
use Rattle.ppm_naming.specs.declared.kind.WordKind.{WordKind}
use Rattle.ppm_naming.specs.declared.kind.WordKind.TheVariants as kind
use Rattle.ppm_naming.specs.declared.names.ProcedureName.{ProcedureName}
use Rattle.ppm_naming.specs.declared.names.ProcedureName.TheVariants.{Named, EachOf, Numbered}
use Rattle.ppm_naming.specs.declared.names.Names.{Names}

-- how the word of a cell is written; what a word of a block is, its cell does not say
abbrev pub kind_of : Cell → WordKind
kind_of FinishWord = kind.Finish
kind_of (CarryWord processor) = kind.Number
kind_of (DeadWord processor) = kind.Number
kind_of (RestartWord place) = kind.Restart
kind_of (MessageWord place) = kind.Message
kind_of (HolderWord place) = kind.Holder
kind_of (Top place) = kind.Number
kind_of (RoomCounter place) = kind.Number
kind_of (EntryWord place slot) = kind.Entry
kind_of (BlockWord at) = kind.Signed
kind_of (ArrayWord index) = kind.Signed

-- how a procedure is called
abbrev pub procedure_name_text : ProcedureName → List ℕ
procedure_name_text (Named name) = name
procedure_name_text (EachOf line) = codes "each:" ++ decimal line
procedure_name_text (Numbered number) = codes "proc:" ++ decimal number

-- how a procedure is called, and `?` for none
abbrev pub called : Option ProcedureName → List ℕ
called None = codes "?"
called (Some name) = procedure_name_text name

-- the procedure with a number; `?` where there is none
abbrev pub procedure_text : Names → (number : ℕ) → List ℕ
procedure_text names number = called (slice_get names.procedures number)

-- an index in brackets
abbrev pub index_text : ℕ → List ℕ
index_text index = 91 ∷ decimal index ++ 93 ∷ []

-- the array word that lies `left` words after the first one of these arrays: the array in which it lies with its index there,
-- and `array` with the index among all array words where it lies in none
abbrev pub element_from : (index : ℕ) → (arrays : List (List ℕ)) → (lengths : List ℕ) → (left : ℕ) → List ℕ
element_from index (name ∷ arrays) (len ∷ lengths) left =
    if nat_lt left len then name ++ index_text left else element_from index arrays lengths (left - len)
element_from index [] lengths left = codes "array" ++ index_text index
element_from index (name ∷ arrays) [] left = codes "array" ++ index_text index

-- an array word by its array
abbrev pub element_text : (arrays : List (List ℕ)) → (lengths : List ℕ) → (index : ℕ) → List ℕ
element_text arrays lengths index = element_from index arrays lengths index

-- a name, a point and a number
abbrev pub numbered : (name : List ℕ) (number : ℕ) → List ℕ
numbered name number = name ++ 46 ∷ decimal number

-- the name of a cell
abbrev pub cell_text : Names → (lengths : List ℕ) → Cell → List ℕ
cell_text names lengths FinishWord = codes "finish"
cell_text names lengths (CarryWord processor) = numbered (codes "carry") processor
cell_text names lengths (DeadWord processor) = numbered (codes "dead") processor
cell_text names lengths (RestartWord place) = numbered (codes "restart") place
cell_text names lengths (MessageWord place) = numbered (codes "message") place
cell_text names lengths (HolderWord place) = numbered (codes "holder") place
cell_text names lengths (Top place) = numbered (codes "top") place
cell_text names lengths (RoomCounter place) = numbered (codes "room") place
cell_text names lengths (EntryWord place slot) = numbered (numbered (codes "entry") place) slot
cell_text names lengths (BlockWord at) = numbered (codes "word") at
cell_text names lengths (ArrayWord index) = element_text names.arrays lengths index
