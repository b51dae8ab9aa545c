-- The text of each answer on out and on err.
use Rattle.std.specs.Prelude.{ℕ, ℤ, List, [], ◌∷◌, ◌++◌, codes, decimal, if◌then◌else◌, nat_eq, ⊤}
use Rattle.std.specs.List.{flat_map}
use Rattle.std.specs.Fmt.{signed_decimal}
use Rattle.ppm_words.specs.declared.named_array.NamedArray.{NamedArray}
use Rattle.ppm_words.specs.declared.trap.Trap.{Trap}
use Rattle.ppm_words.specs.declared.trap.Trap.TheVariants as trap
use Rattle.ppm_cells.specs.declared.shape.Takeover.{Takeover}
use Rattle.ppm_cells.specs.declared.shape.Takeover.TheVariants as takeover
use Rattle.ppm_answers.specs.declared.refusal.Pass.{Pass}
use Rattle.ppm_answers.specs.declared.refusal.Pass.TheVariants as pass
use Rattle.ppm_answers.specs.declared.refusal.Refusal.{Refusal}
use Rattle.ppm_answers.specs.declared.refused.Refused.{Refused}
use Rattle.ppm_answers.specs.declared.refused.Refused.TheVariants as refused
use Rattle.ppm_answers.specs.declared.saved.SavedRefusal.{SavedRefusal}
use Rattle.ppm_answers.specs.declared.conflict.Class.{Class}
use Rattle.ppm_answers.specs.declared.conflict.Class.TheVariants as class
use Rattle.ppm_answers.specs.declared.conflict.Conflict.{Conflict}
use Rattle.ppm_answers.specs.declared.conflict.ListingRefusal.{ListingRefusal}
use Rattle.ppm_answers.specs.declared.gap.Gap.{Gap}
use Rattle.ppm_answers.specs.declared.gap.Gap.TheVariants as gaps
use Rattle.ppm_answers.specs.declared.gap.Hung.{Hung}
use Rattle.ppm_answers.specs.declared.gap.LeftOut.{LeftOut}
use Rattle.ppm_answers.specs.declared.gap.OtherBlock.{OtherBlock}
use Rattle.ppm_answers.specs.declared.gap.Unbuilt.{Unbuilt}
use Rattle.ppm_answers.specs.declared.case.InputRefusal.{InputRefusal}
use Rattle.ppm_answers.specs.declared.case.UntidyStore.{UntidyStore}
use Rattle.ppm_answers.specs.declared.counts.Counts.{Counts}
use Rattle.ppm_answers.specs.declared.race.Touch.{Touch}
use Rattle.ppm_answers.specs.declared.race.Touch.TheVariants as touches
use Rattle.ppm_answers.specs.declared.race.Opener.{Opener}
use Rattle.ppm_answers.specs.declared.race.Visit.{Visit}
use Rattle.ppm_answers.specs.declared.race.Touching.{Touching}
use Rattle.ppm_answers.specs.declared.race.Race.{Race}
use Rattle.ppm_answers.specs.declared.ran.Ran.{Ran}
use Rattle.ppm_answers.specs.declared.ran.Ran.TheVariants as ran
use Rattle.ppm_answers.specs.declared.run_counts.RunCounts.{RunCounts}
use Rattle.ppm_answers.specs.declared.sums.Sums.{Sums}
use Rattle.ppm_answers.specs.declared.sweep.Sweep.{Sweep}
use Rattle.ppm_answers.specs.declared.sweep.Came.{Came}
use Rattle.ppm_answers.specs.declared.sweep.Came.TheVariants as came
use Rattle.ppm_answers.specs.declared.sweep.Difference.{Difference}
use Rattle.ppm_answers.specs.declared.tally.Tally.{Tally}
use Rattle.ppm_answers.specs.declared.answer.Answer.{Answer}
use Rattle.ppm_answers.specs.declared.answer.Answer.TheVariants as answers

-- the text and a line feed
abbrev pub ended_line : List ℕ → List ℕ
ended_line text = text ++ 10 ∷ []

-- a space and the value in decimal
abbrev pub value_text : ℤ → List ℕ
value_text z = 32 ∷ signed_decimal z

-- a line with the array's name and its values
abbrev pub array_text : NamedArray → List ℕ
array_text a = ended_line (a.name ++ flat_map value_text a.values)

-- the arrays, a line each
abbrev pub arrays_text : List NamedArray → List ℕ
arrays_text arrays = flat_map array_text arrays

-- the name of a trap
abbrev pub trap_name : Trap → List ℕ
trap_name trap.Overflow = codes "overflow"
trap_name trap.DivZero = codes "divzero"
trap_name trap.Index = codes "index"
trap_name trap.Split = codes "split"

-- a line with the trap and its line in the source
abbrev pub trap_text : Trap → ℕ → List ℕ
trap_text t line = ended_line (codes "trap " ++ trap_name t ++ codes " line " ++ decimal line)

-- the name of a pass
abbrev pub pass_name : Pass → List ℕ
pass_name pass.Text = codes "text"
pass_name pass.Syntax = codes "syntax"
pass_name pass.Region = codes "region"
pass_name pass.Cut = codes "cut"
pass_name pass.Ram = codes "ram"

-- what a pass says where its faults are: in a line, or at a place
abbrev pub place_name : Pass → List ℕ
place_name pass.Text = codes "at"
place_name pass.Syntax = codes "at"
place_name pass.Region = codes "line"
place_name pass.Cut = codes "at"
place_name pass.Ram = codes "line"

-- a line with a pass that refuses and its fault's number, and where that is
abbrev pub fault_text : List ℕ → ℕ → List ℕ → ℕ → List ℕ
fault_text pass number at place =
    ended_line (codes "source refused: " ++ pass ++ codes " " ++ decimal number ++ codes " " ++ at ++ codes " " ++ decimal place)

-- the line of a refusal
abbrev pub refusal_text : Refusal → List ℕ
refusal_text r = fault_text (pass_name r.pass) r.number (place_name r.pass) r.place

-- a line with the processor that has no turns left
abbrev pub turns_text : ℕ → List ℕ
turns_text processor = ended_line (codes "out of turns: processor " ++ decimal processor)

-- a line with the place that has no room left
abbrev pub room_text : ℕ → List ℕ
room_text place = ended_line (codes "out of room: place " ++ decimal place)

-- a line with the turns within which a run did not end
abbrev pub not_within_text : ℕ → List ℕ
not_within_text turns = ended_line (codes "not within " ++ decimal turns ++ codes " turns")

-- a line with the acts within which a replay did not end
abbrev pub unfinished_text : ℕ → List ℕ
unfinished_text acts = ended_line (codes "unfinished after " ++ decimal acts ++ codes " turns")

-- a line with the place whose words are broken
abbrev pub broken_text : ℕ → List ℕ
broken_text place = ended_line (codes "saved words broken: place " ++ decimal place)

-- a line with the fault's number of a plan or schedule
abbrev pub plan_text : ℕ → List ℕ
plan_text number = ended_line (codes "plan refused: " ++ decimal number)

-- a line with the forks and the takes of a replay
abbrev pub tally_text : Tally → List ℕ
tally_text t = ended_line (codes "forks " ++ decimal t.forks ++ codes " takes " ++ decimal t.takes)

-- a line with what `self` tells of its run: how many values and forks there were, their sum, and the last value
abbrev pub sums_text : Sums → List ℕ
sums_text s = ended_line (codes "size " ++ decimal s.size ++ codes " forks " ++ decimal s.forks
    ++ codes " sum " ++ signed_decimal s.sum ++ codes " last " ++ signed_decimal s.last)

-- what `check` says of a code that it accepts
abbrev pub accepted_text : List ℕ
accepted_text = ended_line (codes "ok")

-- the name of a class, with the number of a slot or of a block's word
abbrev pub class_text : Class → List ℕ
class_text (class.Cur slot) = codes "cur " ++ decimal slot
class_text (class.New word) = codes "new " ++ decimal word
class_text class.Value = codes "value"
class_text class.Room = codes "room"
class_text class.Array = codes "array"

-- the words of a conflict: its capsule, the instruction that reads, the one that writes, and the class
abbrev pub conflict_words : Conflict → List ℕ
conflict_words c = codes "conflict: capsule " ++ decimal c.capsule ++ codes " read " ++ decimal c.read_at
    ++ codes " write " ++ decimal c.write_at ++ codes " class " ++ class_text c.class

-- a line with a conflict
abbrev pub conflict_text : Conflict → List ℕ
conflict_text c = ended_line (conflict_words c)

-- the end of a line with the lines of an instruction that reads and of one that writes
abbrev pub lines_end : ℕ → ℕ → List ℕ
lines_end read write = ended_line (codes " lines " ++ decimal read ++ codes " " ++ decimal write)

-- a line with a conflict, and with the lines of its two instructions
abbrev pub conflict_at_text : Conflict → ℕ → ℕ → List ℕ
conflict_at_text c read write = conflict_words c ++ lines_end read write

-- a line with a word of the frame that is left out: the instruction that finds, the one that stores, the end that is come to without, and the class
abbrev pub left_out_text : LeftOut → List ℕ
left_out_text g = ended_line (codes "left out: capsule " ++ decimal g.capsule ++ codes " find " ++ decimal g.find
    ++ codes " write " ++ decimal g.write ++ codes " stop " ++ decimal g.stop ++ codes " class " ++ class_text g.class)

-- a line with a word of the new block that isn't built: the instruction that stores it, and the end that is come to without
abbrev pub unbuilt_text : Unbuilt → List ℕ
unbuilt_text g = ended_line (codes "unbuilt: capsule " ++ decimal g.capsule ++ codes " write " ++ decimal g.write
    ++ codes " stop " ++ decimal g.stop ++ codes " class new " ++ decimal g.word)

-- a line with an end that builds a block, and one that builds something else
abbrev pub other_block_text : OtherBlock → List ℕ
other_block_text g = ended_line (codes "other block: capsule " ++ decimal g.capsule ++ codes " end " ++ decimal g.end
    ++ codes " stop " ++ decimal g.stop)

-- a line with a trap that hangs on what was found
abbrev pub hung_text : Hung → List ℕ
hung_text g = ended_line (codes "hung: capsule " ++ decimal g.capsule ++ codes " trap " ++ decimal g.trap)

-- a line with a gap
abbrev pub gap_text : Gap → List ℕ
gap_text (gaps.LeftOut g) = left_out_text g
gap_text (gaps.Unbuilt g) = unbuilt_text g
gap_text (gaps.OtherBlock g) = other_block_text g
gap_text (gaps.Hung g) = hung_text g

-- a line with the fault of a text that is no listing, and where that is
abbrev pub listing_text : ListingRefusal → List ℕ
listing_text r = ended_line (codes "listing refused: " ++ decimal r.number ++ codes " line " ++ decimal r.line)

-- a line with the fault of a text that is none of a saved state, and where that is
abbrev pub saved_line : SavedRefusal → List ℕ
saved_line r = ended_line (codes "saved refused: " ++ decimal r.number ++ codes " line " ++ decimal r.line)

-- a line with the counts of a depth-first run
abbrev pub counts_text : Counts → List ℕ
counts_text c = ended_line (codes "capsules " ++ decimal c.capsules ++ codes " forks " ++ decimal c.forks
    ++ codes " pool words " ++ decimal c.pool_words)

-- a line with the counts of a code that is sound with its input
abbrev pub sound_text : Counts → List ℕ
sound_text c = codes "sound: " ++ counts_text c

-- a line with the capsules within which a depth-first run did not end
abbrev pub not_within_capsules_text : ℕ → List ℕ
not_within_capsules_text capsules = ended_line (codes "not within " ++ decimal capsules ++ codes " capsules")

-- the word for a touch
abbrev pub touch_name : Touch → List ℕ
touch_name touches.Read = codes "read"
touch_name touches.Write = codes "write"

-- a line with the word on which a race is: its array and its index there
abbrev pub word_line : List ℕ → ℕ → List ℕ
word_line array index = ended_line (codes "race: word " ++ array ++ codes " " ++ decimal index)

-- a line with the capsule that opened the fork, and which one of the run it is
abbrev pub fork_line : Opener → List ℕ
fork_line f = ended_line (codes "fork: run " ++ decimal f.run ++ codes " capsule " ++ decimal f.capsule)

-- a line with the capsule of the left branch, and what it did
abbrev pub left_line : Visit → List ℕ
left_line v = ended_line (codes "left: run " ++ decimal v.run ++ codes " capsule " ++ decimal v.capsule ++ codes " " ++ touch_name v.touch)

-- a line with the capsule of the right branch, its instruction, the line of that in the text, and what it does
abbrev pub right_line : Touching → List ℕ
right_line t = ended_line (codes "right: run " ++ decimal t.run ++ codes " capsule " ++ decimal t.capsule ++ codes " at " ++ decimal t.at
    ++ codes " line " ++ decimal t.line ++ codes " " ++ touch_name t.touch)

-- the four lines of a race
abbrev pub race_text : Race → List ℕ
race_text r = word_line r.array r.index ++ fork_line r.fork ++ left_line r.left ++ right_line r.right

-- a line with a store that is not tidy, and where that is
abbrev pub untidy_text : UntidyStore → List ℕ
untidy_text u =
    ended_line (codes "untidy: capsule " ++ decimal u.capsule ++ codes " store " ++ decimal u.store ++ codes " line " ++ decimal u.line)

-- a line with the fault of a text that is no case, and where that is
abbrev pub input_text : InputRefusal → List ℕ
input_text r = ended_line (codes "input refused: " ++ decimal r.number ++ codes " line " ++ decimal r.line)

-- the runs of a sweep that all came to one end, the faults that it put into them, and their acts
abbrev pub sweep_words : Sweep → List ℕ
sweep_words s = codes "ok: " ++ decimal s.runs ++ codes " runs, " ++ decimal s.met ++ codes " met, " ++ decimal s.acts ++ codes " acts"

-- the end of a line with the schedules of a sweep that were left out, if any were
abbrev pub left_end : ℕ → List ℕ
left_end left = ended_line (if nat_eq left 0 then [] else codes ", " ++ decimal left ++ codes " left out")

-- the line of such a sweep
abbrev pub sweep_text : Sweep → List ℕ
sweep_text s = sweep_words s ++ left_end s.left

-- the word for what is taken over
abbrev pub takeover_name : Takeover → List ℕ
takeover_name takeover.ByPlaces = codes "place"
takeover_name takeover.ByEntries = codes "entry"

-- what a replay says of what its run came to, without its tally
abbrev pub came_text : Came → List ℕ
came_text (came.Ended arrays) = arrays_text arrays
came_text (came.Trapped t line) = trap_text t line
came_text (came.Unfinished acts) = unfinished_text acts
came_text (came.OutOfRoom place) = room_text place
came_text (came.Broken place) = broken_text place

-- the first words of a line with what is counted in a run of a machine: its acts
abbrev pub acts_words : RunCounts → List ℕ
acts_words c = codes "acts " ++ decimal c.acts ++ codes " work " ++ decimal c.work ++ codes " looks " ++ decimal c.looks ++ codes " "

-- the next ones: its branches
abbrev pub branch_words : RunCounts → List ℕ
branch_words c = codes "forks " ++ decimal c.forks ++ codes " takes " ++ decimal c.takes ++ codes " stolen " ++ decimal c.stolen
    ++ codes " takeovers " ++ decimal c.takeovers ++ codes " "

-- and the last ones: its faults and its room
abbrev pub fault_words : RunCounts → List ℕ
fault_words c = ended_line (codes "soft " ++ decimal c.soft ++ codes " hard " ++ decimal c.hard ++ codes " missed " ++ decimal c.missed
    ++ codes " room " ++ decimal c.room)

-- the line
abbrev pub run_counts_text : RunCounts → List ℕ
run_counts_text c = acts_words c ++ branch_words c ++ fault_words c

-- the forks and takes among the counts
abbrev pub tally_in : RunCounts → Tally
tally_in c = record { forks = c.forks; takes = c.takes }

-- what is written on out of a replay that came to this, with the counts of its run: its end, its tally, and then the counts
abbrev pub counted_out : Came → RunCounts → List ℕ
counted_out (came.Ended arrays) c = arrays_text arrays ++ tally_text (tally_in c) ++ run_counts_text c
counted_out (came.Trapped t line) c = trap_text t line ++ tally_text (tally_in c) ++ run_counts_text c
counted_out (came.Unfinished acts) c = []
counted_out (came.OutOfRoom place) c = []
counted_out (came.Broken place) c = []

-- and on err: why it has no end, and then the counts
abbrev pub counted_err : Came → RunCounts → List ℕ
counted_err (came.Unfinished acts) c = unfinished_text acts ++ run_counts_text c
counted_err (came.OutOfRoom place) c = room_text place ++ run_counts_text c
counted_err (came.Broken place) c = broken_text place ++ run_counts_text c
counted_err (came.Ended arrays) c = []
counted_err (came.Trapped t line) c = []

-- what is written on out of a run on threads that came to this, with the counts of its run: its end, and then the counts
abbrev pub ran_out : Ran → RunCounts → List ℕ
ran_out (ran.Ended arrays) c = arrays_text arrays ++ run_counts_text c
ran_out (ran.Trapped t line) c = trap_text t line ++ run_counts_text c
ran_out (ran.OutOfTurns processor) c = []
ran_out (ran.OutOfRoom place) c = []
ran_out (ran.Broken place) c = []

-- and on err: why it has no end, and then the counts
abbrev pub ran_err : Ran → RunCounts → List ℕ
ran_err (ran.OutOfTurns processor) c = turns_text processor ++ run_counts_text c
ran_err (ran.OutOfRoom place) c = room_text place ++ run_counts_text c
ran_err (ran.Broken place) c = broken_text place ++ run_counts_text c
ran_err (ran.Ended arrays) c = []
ran_err (ran.Trapped t line) c = []

-- a line with the schedule of a run that came to something else
abbrev pub schedule_line : List ℕ → List ℕ
schedule_line schedule = ended_line (codes "differs: " ++ schedule)

-- a line with what is taken over in a run
abbrev pub takeover_line : Takeover → List ℕ
takeover_line t = ended_line (codes "takeover " ++ takeover_name t)

-- the two lines of such a run, and what it came to
abbrev pub difference_text : Difference → List ℕ
difference_text d = schedule_line d.schedule ++ takeover_line d.takeover ++ came_text d.came

-- what is written on out of a run of strands in which all stood, with lines that tell its turns: the lines, and the arrays or the trap
abbrev pub stood_out : List ℕ → Came → List ℕ
stood_out lines (came.Ended arrays) = lines ++ came_text (came.Ended arrays)
stood_out lines (came.Trapped t line) = lines ++ came_text (came.Trapped t line)
stood_out lines (came.Unfinished acts) = []
stood_out lines (came.OutOfRoom place) = []
stood_out lines (came.Broken place) = []

-- and on err: the lines, and why it has no end
abbrev pub stood_err : List ℕ → Came → List ℕ
stood_err lines (came.Ended arrays) = []
stood_err lines (came.Trapped t line) = []
stood_err lines (came.Unfinished acts) = lines ++ came_text (came.Unfinished acts)
stood_err lines (came.OutOfRoom place) = lines ++ came_text (came.OutOfRoom place)
stood_err lines (came.Broken place) = lines ++ came_text (came.Broken place)

-- those of a run in which something fell: the lines of its turns, what it came to, and what fell
abbrev pub fell_text : List ℕ → Came → List ℕ → List ℕ
fell_text lines c fall = (lines ++ came_text c) ++ fall

-- a line with the runs of strands in none of which something fell
abbrev pub all_stood_text : ℕ → List ℕ
all_stood_text runs = ended_line (codes "ok: " ++ decimal runs ++ codes " runs")

-- the line of a refusal that is explained
abbrev pub refused_text : Refused → List ℕ
refused_text (refused.Source r) = refusal_text r
refused_text (refused.Listing r) = listing_text r
refused_text (refused.Conflict c) = conflict_text c
refused_text (refused.Input r) = input_text r
refused_text (refused.ConflictAt c read write) = conflict_at_text c read write
refused_text (refused.Untidy u) = untidy_text u
refused_text (refused.Saved r) = saved_line r
refused_text (refused.Plan number) = plan_text number

-- what is written on out
abbrev pub out_text : Answer → List ℕ
out_text (answers.Ended arrays) = arrays_text arrays
out_text (answers.Trapped t line) = trap_text t line
out_text (answers.TrapExplained t line notes) = trap_text t line ++ notes
out_text (answers.EndedWith arrays tally) = arrays_text arrays ++ tally_text tally
out_text (answers.TrappedWith t line tally) = trap_text t line ++ tally_text tally
out_text (answers.ReplayedWith c counts) = counted_out c counts
out_text (answers.RanWith r counts) = ran_out r counts
out_text (answers.Summed sums) = sums_text sums
out_text (answers.Listed listing) = listing
out_text (answers.Saved text) = text
out_text (answers.Traced text) = text
out_text (answers.Shown text) = text
out_text answers.Accepted = accepted_text
out_text (answers.Counted arrays counts) = arrays_text arrays ++ counts_text counts
out_text (answers.TrappedAfter t line counts) = trap_text t line ++ counts_text counts
out_text (answers.Sound counts) = sound_text counts
out_text (answers.Swept sweep) = sweep_text sweep
out_text (answers.Stood lines c) = stood_out lines c
out_text (answers.AllStood runs) = all_stood_text runs
out_text (answers.Fell lines c fall) = []
out_text (answers.NotWithin turns) = []
out_text (answers.StandExplained turns notes) = []
out_text (answers.OutOfTurns processor) = []
out_text (answers.OutOfRoom place) = []
out_text (answers.Unfinished acts) = []
out_text (answers.Broken place) = []
out_text (answers.PlanRefused number) = []
out_text (answers.SourceRefused r) = []
out_text (answers.Explained r notes) = []
out_text (answers.Conflicting c) = []
out_text (answers.Gapped g) = []
out_text (answers.ListingRefused r) = []
out_text (answers.SavedRefused r) = []
out_text (answers.NotWithinCapsules capsules) = []
out_text (answers.Raced race) = []
out_text (answers.Untidy u) = []
out_text (answers.ConflictingAt c read write) = []
out_text (answers.InputRefused r) = []
out_text (answers.Differs difference) = []
out_text answers.WordsRefused = []
out_text answers.ReadFault = []
out_text answers.NoMemory = []

-- what is written on err
abbrev pub err_text : Answer → List ℕ
err_text (answers.NotWithin turns) = not_within_text turns
err_text (answers.StandExplained turns notes) = not_within_text turns ++ notes
err_text (answers.OutOfTurns processor) = turns_text processor
err_text (answers.OutOfRoom place) = room_text place
err_text (answers.Unfinished acts) = unfinished_text acts
err_text (answers.ReplayedWith c counts) = counted_err c counts
err_text (answers.RanWith r counts) = ran_err r counts
err_text (answers.Broken place) = broken_text place
err_text (answers.PlanRefused number) = plan_text number
err_text (answers.SourceRefused r) = refusal_text r
err_text (answers.Explained r notes) = refused_text r ++ notes
err_text (answers.Conflicting c) = conflict_text c
err_text (answers.Gapped g) = gap_text g
err_text (answers.ListingRefused r) = listing_text r
err_text (answers.SavedRefused r) = saved_line r
err_text (answers.NotWithinCapsules capsules) = not_within_capsules_text capsules
err_text (answers.Raced race) = race_text race
err_text (answers.Untidy u) = untidy_text u
err_text (answers.ConflictingAt c read write) = conflict_at_text c read write
err_text (answers.InputRefused r) = input_text r
err_text (answers.Differs difference) = difference_text difference
err_text (answers.Stood lines c) = stood_err lines c
err_text (answers.Fell lines c fall) = fell_text lines c fall
err_text (answers.AllStood runs) = []
err_text answers.WordsRefused = ended_line (codes "words refused")
err_text answers.ReadFault = ended_line (codes "read fault")
err_text answers.NoMemory = ended_line (codes "out of memory")
err_text (answers.Ended arrays) = []
err_text (answers.Trapped t line) = []
err_text (answers.EndedWith arrays tally) = []
err_text (answers.TrappedWith t line tally) = []
err_text (answers.Summed sums) = []
err_text (answers.Listed listing) = []
err_text (answers.Saved text) = []
err_text (answers.Traced text) = []
err_text (answers.Shown text) = []
err_text (answers.TrapExplained t line notes) = []
err_text answers.Accepted = []
err_text (answers.Counted arrays counts) = []
err_text (answers.TrappedAfter t line counts) = []
err_text (answers.Sound counts) = []
err_text (answers.Swept sweep) = []

-- what is written on err where out failed
abbrev pub write_fault_text : List ℕ
write_fault_text = ended_line (codes "write fault")

-- the answer's texts are the same each time, so they take no memory
abbrev pub IsFixed : Answer → Type 0
IsFixed answers.Accepted = ⊤
IsFixed answers.WordsRefused = ⊤
IsFixed answers.ReadFault = ⊤
IsFixed answers.NoMemory = ⊤
IsFixed _ = ⊥
