-- The status of each answer, and the number of each status.
use Rattle.std.specs.Prelude.{ℕ}
use Rattle.ppm_answers.specs.declared.answer.Answer.{Answer}
use Rattle.ppm_answers.specs.declared.answer.Answer.TheVariants as answers
use Rattle.ppm_answers.specs.declared.ran.Ran.{Ran}
use Rattle.ppm_answers.specs.declared.ran.Ran.TheVariants as ran
use Rattle.ppm_answers.specs.declared.sweep.Came.{Came}
use Rattle.ppm_answers.specs.declared.sweep.Came.TheVariants as came
use Rattle.ppm_answers.specs.declared.refused.Refused.{Refused}
use Rattle.ppm_answers.specs.declared.refused.Refused.TheVariants as refused
use Rattle.ppm_answers.specs.declared.status.Status.{Status}
use Rattle.ppm_answers.specs.declared.status.Status.TheVariants as statuses

-- the status of what a run came to
abbrev pub came_status : Came → Status
came_status (came.Ended arrays) = statuses.Ended
came_status (came.Trapped t line) = statuses.Trapped
came_status (came.Unfinished acts) = statuses.OutOfTurns
came_status (came.OutOfRoom place) = statuses.OutOfRoom
came_status (came.Broken place) = statuses.Broken

-- the status of what a run on threads came to
abbrev pub ran_status : Ran → Status
ran_status (ran.Ended arrays) = statuses.Ended
ran_status (ran.Trapped t line) = statuses.Trapped
ran_status (ran.OutOfTurns processor) = statuses.OutOfTurns
ran_status (ran.OutOfRoom place) = statuses.OutOfRoom
ran_status (ran.Broken place) = statuses.Broken

-- the status of a refusal, which is that of the command that reads the text
abbrev pub refused_status : Refused → Status
refused_status (refused.Source r) = statuses.SourceRefused
refused_status (refused.Listing r) = statuses.CodeRefused
refused_status (refused.Conflict c) = statuses.CodeRefused
refused_status (refused.Input r) = statuses.CodeRefused
refused_status (refused.ConflictAt c read write) = statuses.CodeRefused
refused_status (refused.Untidy u) = statuses.CodeRefused
refused_status (refused.Saved r) = statuses.SavedRefused
refused_status (refused.Plan number) = statuses.WordsRefused

-- the status of an answer whose texts are written
abbrev pub status_of : Answer → Status
status_of (answers.Ended arrays) = statuses.Ended
status_of (answers.Trapped t line) = statuses.Trapped
status_of (answers.EndedWith arrays tally) = statuses.Ended
status_of (answers.TrappedWith t line tally) = statuses.Trapped
status_of (answers.Unfinished acts) = statuses.OutOfTurns
status_of (answers.ReplayedWith c counts) = came_status c
status_of (answers.RanWith r counts) = ran_status r
status_of (answers.NotWithin turns) = statuses.NotWithin
status_of (answers.StandExplained turns notes) = statuses.NotWithin
status_of (answers.OutOfTurns processor) = statuses.OutOfTurns
status_of (answers.OutOfRoom place) = statuses.OutOfRoom
status_of (answers.Broken place) = statuses.Broken
status_of (answers.Summed sums) = statuses.Ended
status_of (answers.Listed listing) = statuses.Ended
status_of (answers.Saved text) = statuses.Ended
status_of (answers.Traced text) = statuses.Ended
status_of (answers.Shown text) = statuses.Ended
status_of (answers.TrapExplained t line notes) = statuses.Trapped
status_of (answers.SourceRefused r) = statuses.SourceRefused
status_of (answers.Explained r notes) = refused_status r
status_of answers.Accepted = statuses.Ended
status_of (answers.Conflicting c) = statuses.CodeRefused
status_of (answers.Gapped g) = statuses.CodeRefused
status_of (answers.ListingRefused r) = statuses.CodeRefused
status_of (answers.SavedRefused r) = statuses.SavedRefused
status_of (answers.Counted arrays counts) = statuses.Ended
status_of (answers.TrappedAfter t line counts) = statuses.Trapped
status_of (answers.Sound counts) = statuses.Ended
status_of (answers.NotWithinCapsules capsules) = statuses.NotWithin
status_of (answers.Raced race) = statuses.CodeRefused
status_of (answers.Untidy u) = statuses.CodeRefused
status_of (answers.ConflictingAt c read write) = statuses.CodeRefused
status_of (answers.InputRefused r) = statuses.CodeRefused
status_of (answers.Swept sweep) = statuses.Ended
status_of (answers.Differs difference) = statuses.Differs
status_of (answers.Stood lines c) = came_status c
status_of (answers.Fell lines c fall) = statuses.CodeRefused
status_of (answers.AllStood runs) = statuses.Ended
status_of answers.WordsRefused = statuses.WordsRefused
status_of (answers.PlanRefused number) = statuses.WordsRefused
status_of answers.ReadFault = statuses.ReadFault
status_of answers.NoMemory = statuses.NoMemory

-- the number that the program ends with
abbrev pub number_of : Status → ℕ
number_of statuses.Ended = 0
number_of statuses.Trapped = 1
number_of statuses.SourceRefused = 2
number_of statuses.WordsRefused = 3
number_of statuses.OutOfTurns = 4
number_of statuses.OutOfRoom = 5
number_of statuses.ReadFault = 7
number_of statuses.WriteFault = 8
number_of statuses.NoMemory = 9
number_of statuses.CodeRefused = 10
number_of statuses.NotWithin = 11
number_of statuses.SavedRefused = 12
number_of statuses.Broken = 13
number_of statuses.Differs = 14
