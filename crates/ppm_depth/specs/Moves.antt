-- The strand's moves on its stack: by the end of a capsule, and where what a frame waits for is over.
use Rattle.std.specs.Prelude.{◌<◌, ℕ, ◌+◌, List, [], ◌∷◌, ◌++◌, Option, Some, None, IfSome, get_or, set, take}
use Rattle.ppm_strands.specs.Run.{Counts}
use Rattle.ppm_code.specs.declared.act.End.{End}
use Rattle.ppm_code.specs.declared.act.End.TheVariants.{Next, Finish, Trap, Call, Fork}
use Rattle.ppm_code.specs.declared.code.CodeParts.{CodeParts}
use Rattle.ppm_code.specs.declared.location.FrameWord.TheVariants.{Slot, Value}
use Rattle.ppm_code.specs.Sizes.{left_at, right_at}
use Rattle.ppm_code.specs.Strands.{entry_of}
use Rattle.ppm_depth.specs.Store.{own_at}
use Rattle.ppm_depth.specs.declared.capsule.Done.{Done}
use Rattle.ppm_depth.specs.declared.frame.Frame.{Frame}
use Rattle.ppm_depth.specs.declared.frame.Finish.{Finish as Finished}
use Rattle.ppm_depth.specs.declared.frame.Finish.TheVariants.{Gave, Trapped}
use Rattle.ppm_depth.specs.declared.frame.For.{For}
use Rattle.ppm_depth.specs.declared.frame.For.TheVariants.{Callee, Left, Right}
use Rattle.ppm_depth.specs.declared.frame.Now.{Now}
use Rattle.ppm_depth.specs.declared.frame.Now.TheVariants.{At, Over}
use Rattle.ppm_depth.specs.declared.frame.Waiting.{Waiting}

-- the frame of a procedure that begins at a word
abbrev pub entry_at : CodeParts → (procedure base : ℕ) → Frame
entry_at code procedure base = record { base = base; capsule = entry_of code procedure }

-- a frame, moved to another capsule
abbrev pub moved : Frame → ℕ → Frame
moved frame capsule = record { base = frame.base; capsule = capsule }

-- what is done after a capsule of a frame, by its end
abbrev pub now_after : CodeParts → Frame → (block : ℕ) → List ℕ → End → Now
now_after code frame block blocks (Next capsule) = At (moved frame capsule)
now_after code frame block blocks Finish = Over (Gave (get_or blocks (own_at frame.base Value) 0))
now_after code frame block blocks (Trap trap line) = Over (Trapped trap line)
now_after code frame block blocks (Call procedure capsule to) = At (entry_at code procedure block)
now_after code frame block blocks (Fork left right capsule left_to right_to) = At (entry_at code left (block + left_at))

-- the stack then: without the new block where no frame was built
abbrev pub stack_after : (block : ℕ) → List ℕ → End → List ℕ
stack_after block blocks (Next capsule) = take block blocks
stack_after block blocks Finish = take block blocks
stack_after block blocks (Trap trap line) = take block blocks
stack_after block blocks (Call procedure capsule to) = blocks
stack_after block blocks (Fork left right capsule left_to right_to) = blocks

-- the frames that wait then
abbrev pub waiting_after : CodeParts → Frame → (block : ℕ) → List Waiting → End → List Waiting
waiting_after code frame block waiting (Next capsule) = waiting
waiting_after code frame block waiting Finish = waiting
waiting_after code frame block waiting (Trap trap line) = waiting
waiting_after code frame block waiting (Call procedure capsule to) =
    waiting ++ (record { frame = moved frame capsule; block = block; on = Callee to } ∷ [])
waiting_after code frame block waiting (Fork left right capsule left_to right_to) =
    waiting ++ (record {
      frame = moved frame capsule;
      block = block;
      on = Left (entry_at code right (block + right_at code left)) left_to right_to;
    } ∷ [])

-- the forks that an end opens
abbrev pub forks_by : End → ℕ
forks_by (Next capsule) = 0
forks_by Finish = 0
forks_by (Trap trap line) = 0
forks_by (Call procedure capsule to) = 0
forks_by (Fork left right capsule left_to right_to) = 1

-- the counts of a capsule
abbrev pub counts_by : Done → Counts
counts_by done = record { capsules = 1; forks = forks_by done.end; block_words = done.asked }

-- the stack with a value in a slot, if one is named
abbrev pub with_slot : Frame → Option ℕ → ℕ → List ℕ → List ℕ
with_slot frame None value blocks = blocks
with_slot frame (Some slot) value blocks = set blocks (own_at frame.base (Slot slot)) value

-- the slot lies in a stack of so many words
abbrev pub IsSlotThere : Frame → Option ℕ → ℕ → Type 0
IsSlotThere frame to top = IfSome to (λ slot. own_at frame.base (Slot slot) < top)

-- a frame goes on with a value, or is over by a trap
abbrev pub gone_on : Frame → Finished → Now
gone_on frame (Gave value) = At frame
gone_on frame (Trapped trap line) = Over (Trapped trap line)

abbrev pub stack_gone_on : Frame → Option ℕ → Finished → List ℕ → List ℕ
stack_gone_on frame to (Gave value) blocks = with_slot frame to value blocks
stack_gone_on frame to (Trapped trap line) blocks = blocks

-- after both branches: over by the left one's trap, else as after the right one
abbrev pub joined : Frame → (left right : Finished) → Now
joined frame (Gave value) right = gone_on frame right
joined frame (Trapped trap line) right = Over (Trapped trap line)

abbrev pub stack_joined : Frame → Option ℕ → Finished → Option ℕ → Finished → List ℕ → List ℕ
stack_joined frame left_to (Gave value) to right blocks = stack_gone_on frame to right (with_slot frame left_to value blocks)
stack_joined frame left_to (Trapped trap line) to right blocks = blocks

-- where that for which a frame waits is over: what is done then, the stack, and what is added to the frames that wait
abbrev pub resumed : Waiting → For → Finished → Now
resumed w (Callee to) finish = gone_on w.frame finish
resumed w (Left right left_to to) finish = At right
resumed w (Right left left_to to) finish = joined w.frame left finish

abbrev pub stack_resumed : Waiting → For → Finished → List ℕ → List ℕ
stack_resumed w (Callee to) finish blocks = stack_gone_on w.frame to finish (take w.block blocks)
stack_resumed w (Left right left_to to) finish blocks = blocks
stack_resumed w (Right left left_to to) finish blocks = stack_joined w.frame left_to left to finish (take w.block blocks)

abbrev pub waiting_resumed : Waiting → For → Finished → List Waiting → List Waiting
waiting_resumed w (Callee to) finish waiting = waiting
waiting_resumed w (Left right left_to to) finish waiting =
    waiting ++ (record { frame = w.frame; block = w.block; on = Right finish left_to to } ∷ [])
waiting_resumed w (Right left left_to to) finish waiting = waiting

-- the slots that it takes values in lie below its block, and that in the stack
abbrev pub AreSlotsThere : Frame → For → ℕ → Type 0
AreSlotsThere frame (Callee to) top = IsSlotThere frame to top
AreSlotsThere frame (Left right left_to to) top = Unit {0}
AreSlotsThere frame (Right left left_to to) top = IsSlotThere frame left_to top × IsSlotThere frame to top

-- how much of the strand's work waits, so that each turn but a capsule leaves less
abbrev pub pending_for : For → ℕ
pending_for (Callee to) = 2
pending_for (Left right left_to to) = 4
pending_for (Right left left_to to) = 2

abbrev pub pending : List Waiting → ℕ
pending [] = 0
pending (w ∷ ws) = pending_for w.on + pending ws

-- a frame at a capsule is a turn more than one that is over
abbrev pub turns_of : Now → ℕ
turns_of (At frame) = 1
turns_of (Over finish) = 0
