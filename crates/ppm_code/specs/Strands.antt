-- The strands of a code: its capsules as a table, and how its frames go on.
use Rattle.std.specs.Prelude.{ℕ, ◌+◌, nat_lt, if◌then◌else◌, Bool, true, false, cond, List, [], Option, Some, None, slice_get}
use Rattle.ppm_strands.specs.Tree.{Tree, Strand, Call as Calling, Fork as Forking, Over}
use Rattle.ppm_strands.specs.Capsule.{Memory}
use Rattle.ppm_strands.specs.Strand.{Frame, Table, MayBeginAgain}
use Rattle.ppm_words.specs.declared.trap.Trap.{Trap}
use Rattle.ppm_code.specs.declared.location.FrameWord.{FrameWord}
use Rattle.ppm_code.specs.declared.location.FrameWord.TheVariants.{Slot, Value}
use Rattle.ppm_code.specs.declared.act.End.{End}
use Rattle.ppm_code.specs.declared.act.End.TheVariants.{Next, Finish, Trap as Trapping, Call, Fork}
use Rattle.ppm_code.specs.declared.code.Capsule.{Capsule as CodeCapsule}
use Rattle.ppm_code.specs.declared.code.Procedure.{Procedure}
use Rattle.ppm_code.specs.declared.code.CodeParts.{CodeParts}
use Rattle.ppm_code.specs.declared.instr.Instr.{Instr}
use Rattle.ppm_code.specs.Locations.{Where, code_locations, same_frame_word}
use Rattle.ppm_code.specs.Capsules.{capsule_of}
use Rattle.ppm_code.specs.Paths.{HasNoConflict}
use Rattle.ppm_code.specs.Sizes.{slots_of, value_at, slot_at, left_at, right_at}

-- how a frame is over: with the value that it gave, or by a trap at a line
pub data Result : Type 0 where
  Gave : ℕ → Result
  Trapped : Trap → ℕ → Result

abbrev pub is_trap : Result → Bool
is_trap (Gave value) = false
is_trap (Trapped trap line) = true

-- where a frame stands: at a capsule, and in which slots it still takes the value of a left branch, and of its callee or right branch
pub record Point : Type 0 where
  pub capsule : ℕ
  pub left_to : Option ℕ
  pub to : Option ℕ

abbrev pub at_capsule : ℕ → Point
at_capsule number = record { capsule = number; left_to = None; to = None }

-- the words of a frame with a value in a slot, if one is named
abbrev pub with_value : Option ℕ → ℕ → (FrameWord → ℕ) → FrameWord → ℕ
with_value None value own word = own word
with_value (Some slot) value own word = cond (same_frame_word word (Slot slot)) value (own word)

-- the words of a frame of so many slots that lies in a new block; after its slots it has none
abbrev pub built : (slots frame : ℕ) → (ℕ → ℕ) → FrameWord → ℕ
built slots frame block (Slot slot) = if nat_lt slot slots then block (frame + slot_at slot) else 0
built slots frame block Value = block (frame + value_at)

-- the instructions of a capsule; none where there is no capsule
abbrev pub instrs_in : Option CodeCapsule → List Instr
instrs_in None = []
instrs_in (Some c) = c.instrs

abbrev pub instrs_of : CodeParts → ℕ → List Instr
instrs_of code number = instrs_in (slice_get code.capsules number)

-- the capsule with which a procedure begins
abbrev pub entry_in : Option Procedure → ℕ
entry_in None = 0
entry_in (Some p) = p.entry

abbrev pub entry_of : CodeParts → ℕ → ℕ
entry_of code procedure = entry_in (slice_get code.procedures procedure)

-- the strand of a procedure, in a frame with these words
abbrev pub begun : CodeParts → ℕ → (FrameWord → ℕ) → Tree (Frame FrameWord Point) Result
begun code procedure own = Strand (record { own = own; point = at_capsule (entry_of code procedure) })

-- what an end opens, by the words of the frame and of the new block
abbrev pub opens : CodeParts → End → (FrameWord → ℕ) → (ℕ → ℕ) → Tree (Frame FrameWord Point) Result
opens code (Next capsule) own block = Strand (record { own = own; point = at_capsule capsule })
opens code Finish own block = Over (Gave (own Value))
opens code (Trapping trap line) own block = Over (Trapped trap line)
opens code (Call procedure capsule to) own block =
    Calling (record { own = own; point = record { capsule = capsule; left_to = None; to = to } })
    (begun code procedure (built (slots_of code procedure) 0 block))
opens code (Fork left right capsule left_to right_to) own block =
    Forking (record { own = own; point = record { capsule = capsule; left_to = left_to; to = right_to } })
    (begun code left (built (slots_of code left) left_at block)) (begun code right (built (slots_of code right) (right_at code left) block))

-- a frame once its left branch is over: it has its value
abbrev pub kept : Frame FrameWord Point → Result → Frame FrameWord Point
kept f (Trapped trap line) = f
kept f (Gave value) =
    record { own = with_value f.point.left_to value f.own; point = record { capsule = f.point.capsule; left_to = None; to = f.point.to } }

-- how a frame goes on after its callee or its branches: with the value, or trapped itself
abbrev pub resume : Frame FrameWord Point → Result → Tree (Frame FrameWord Point) Result
resume f (Trapped trap line) = Over (Trapped trap line)
resume f (Gave value) = Strand (record { own = with_value f.point.to value f.own; point = at_capsule f.point.capsule })

-- the capsules of a code as a table; the words of a new block are 0
abbrev pub table_of : CodeParts → (array_words : ℕ) → Table FrameWord ℕ Point End Result
table_of code array_words = record {
  capsule = λ point. capsule_of array_words (instrs_of code point.capsule);
  opens = λ point. opens code;
  blank = λ word. 0;
  resume = resume;
  kept = kept;
  is_trap = is_trap;
}

-- the root's strand: region words in its first slots, 0 in the others
abbrev pub root_of : CodeParts → (FrameWord → ℕ) → Tree (Frame FrameWord Point) Result
root_of code own = begun code code.root own

-- where no capsule has a conflict on any path, each may be begun again, from any words: so the laws of tables hold of the code
abbrev pub CapsulesMayBeginAgain : Type 0
CapsulesMayBeginAgain = (code : CodeParts) (array_words : ℕ) (point : Point) (m : Memory Where)
    → HasNoConflict (instrs_of code point.capsule) → MayBeginAgain code_locations (table_of code array_words) point m
