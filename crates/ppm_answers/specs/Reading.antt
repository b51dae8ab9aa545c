-- What a command may answer that reads a text, and what it is to answer.
use Rattle.std.specs.Prelude.{◌≡◌, ℕ, ◌<◌, List, ◌++◌, length, ⊤}
use Rattle.std.specs.Io.KnownBytes.{Keeps}
use Rattle.ppm_ports.specs.declared.read_error.ReadError.{ReadError}
use Rattle.ppm_ports.specs.declared.read_error.ReadError.TheVariants as errors
use Rattle.ppm_ports.specs.Ports.{Port, Fails, Holds}
use Rattle.ppm_ports.specs.Outside.{ToldLists, KeepFronts, Ports, Outside}
use Rattle.ppm_ports.specs.Whole.{ReadsTo, ReadsFront}
use Rattle.ppm_answers.specs.declared.answer.Answer.{Answer}
use Rattle.ppm_answers.specs.declared.answer.Answer.TheVariants as answers
use Rattle.ppm_answers.specs.declared.status.Status.{Status}
use Rattle.ppm_answers.specs.Delivery.{Delivers}

-- these bytes were read, all that were left or one more than the limit, and no read failed
pub record Reads (limit : ℕ) (source : Port) (bytes : List ℕ) : Type 0 where
  pub whole : ReadsTo limit source.before source.now bytes
  pub holds : Holds source

-- some bytes were read, one more than the limit at most
abbrev pub ReadsSome : ℕ → Port → Type 0
ReadsSome limit source = ReadsFront limit source.before source.now

-- nothing was read, and no read failed
pub record IsUnread (source : Port) : Type 0 where
  pub kept : Keeps source.before source.now
  pub holds : Holds source

-- the answers that each command has which reads up to a limit
abbrev pub ReadingMay : ℕ → Port → Answer → Type 0
ReadingMay limit source answers.ReadFault = Fails source × ReadsSome limit source
ReadingMay limit source answers.NoMemory = ReadsSome limit source × Holds source
ReadingMay limit source _ = ⊥

-- the answer where a text was not read whole
abbrev pub unread_answer : ReadError → Answer
unread_answer errors.Failed = answers.ReadFault
unread_answer errors.NoMemory = answers.NoMemory

-- the text that was read has this answer, of those that texts have
abbrev pub ReadHas : ℕ → (List ℕ → Answer → Type 0) → Port → Answer → Type 0
ReadHas limit Has source answer = (text : List ℕ) × Reads limit source text × Has text answer

-- an answer that the text has, or want of memory
abbrev pub TextMay : (List ℕ → Answer → Type 0) → List ℕ → Answer → Type 0
TextMay Has text answers.NoMemory = ⊤
TextMay Has text answer = Has text answer

-- the answers of a command that judges a text: that of the text that was read, or those of any reading
abbrev pub JudgingMay : ℕ → (List ℕ → Answer → Type 0) → Port → Answer → Type 0
JudgingMay limit Has source answers.ReadFault = ReadingMay limit source answers.ReadFault
JudgingMay limit Has source answers.NoMemory = ReadingMay limit source answers.NoMemory
JudgingMay limit Has source answer = ReadHas limit Has source answer

-- two answers of a text are one
abbrev pub AreOne : (List ℕ → Answer → Type 0) → Type 0
AreOne Has = (text : List ℕ) (a b : Answer) → Has text a → Has text b → a ≡ b

-- what stands after more bytes than the limit changes no answer of a text
abbrev pub FrontsDecide : ℕ → (List ℕ → Answer → Type 0) → Type 0
FrontsDecide limit Has = (text rest : List ℕ) (a : Answer) → limit < length text → Has text a → Has (text ++ rest) a

-- an answer that may come was delivered, also where a port failed at its text
pub record DeliversAnswer (may : Answer → Type 0) (o : Ports) (status : Status) : Type 0 where
  pub answer : Answer
  pub cause : may answer
  pub delivered : Delivers o.out o.err answer status

-- what watchers were told where an answer comes: of a command that tells them nothing, no list changes
abbrev pub TellsNothing : Answer → ToldLists → ToldLists → Type 0
TellsNothing answer before now = now ≡ before

-- That of a command whose run tells them its turns. What is refused, or can't be read, is so before the run, and nothing was told; memory
-- may be wanting before the run, in it or after it, and each list keeps what it had before; with every other answer it is what the run says.
abbrev pub TellsOfRun : (Answer → ToldLists → ToldLists → Type 0) → Answer → ToldLists → ToldLists → Type 0
TellsOfRun Tells answers.NoMemory before now = KeepFronts before now
TellsOfRun Tells answers.ReadFault before now = TellsNothing answers.ReadFault before now
TellsOfRun Tells answers.WordsRefused before now = TellsNothing answers.WordsRefused before now
TellsOfRun Tells (answers.PlanRefused number) before now = TellsNothing (answers.PlanRefused number) before now
TellsOfRun Tells (answers.SourceRefused r) before now = TellsNothing (answers.SourceRefused r) before now
TellsOfRun Tells (answers.Explained r notes) before now = TellsNothing (answers.Explained r notes) before now
TellsOfRun Tells (answers.ListingRefused r) before now = TellsNothing (answers.ListingRefused r) before now
TellsOfRun Tells (answers.SavedRefused r) before now = TellsNothing (answers.SavedRefused r) before now
TellsOfRun Tells (answers.Conflicting c) before now = TellsNothing (answers.Conflicting c) before now
TellsOfRun Tells (answers.ConflictingAt c read write) before now = TellsNothing (answers.ConflictingAt c read write) before now
TellsOfRun Tells (answers.Untidy u) before now = TellsNothing (answers.Untidy u) before now
TellsOfRun Tells (answers.InputRefused r) before now = TellsNothing (answers.InputRefused r) before now
TellsOfRun Tells (answers.Ended arrays) before now = Tells (answers.Ended arrays) before now
TellsOfRun Tells (answers.Trapped t line) before now = Tells (answers.Trapped t line) before now
TellsOfRun Tells (answers.TrapExplained t line notes) before now = Tells (answers.TrapExplained t line notes) before now
TellsOfRun Tells (answers.EndedWith arrays tally) before now = Tells (answers.EndedWith arrays tally) before now
TellsOfRun Tells (answers.TrappedWith t line tally) before now = Tells (answers.TrappedWith t line tally) before now
TellsOfRun Tells (answers.Unfinished acts) before now = Tells (answers.Unfinished acts) before now
TellsOfRun Tells (answers.ReplayedWith came counts) before now = Tells (answers.ReplayedWith came counts) before now
TellsOfRun Tells (answers.RanWith ran counts) before now = Tells (answers.RanWith ran counts) before now
TellsOfRun Tells (answers.NotWithin turns) before now = Tells (answers.NotWithin turns) before now
TellsOfRun Tells (answers.StandExplained turns notes) before now = Tells (answers.StandExplained turns notes) before now
TellsOfRun Tells (answers.OutOfTurns processor) before now = Tells (answers.OutOfTurns processor) before now
TellsOfRun Tells (answers.OutOfRoom place) before now = Tells (answers.OutOfRoom place) before now
TellsOfRun Tells (answers.Broken place) before now = Tells (answers.Broken place) before now
TellsOfRun Tells (answers.Summed sums) before now = Tells (answers.Summed sums) before now
TellsOfRun Tells (answers.Listed listing) before now = Tells (answers.Listed listing) before now
TellsOfRun Tells (answers.Saved text) before now = Tells (answers.Saved text) before now
TellsOfRun Tells (answers.Traced text) before now = Tells (answers.Traced text) before now
TellsOfRun Tells (answers.Shown text) before now = Tells (answers.Shown text) before now
TellsOfRun Tells answers.Accepted before now = Tells answers.Accepted before now
TellsOfRun Tells (answers.Counted arrays counts) before now = Tells (answers.Counted arrays counts) before now
TellsOfRun Tells (answers.TrappedAfter t line counts) before now = Tells (answers.TrappedAfter t line counts) before now
TellsOfRun Tells (answers.Sound counts) before now = Tells (answers.Sound counts) before now
TellsOfRun Tells (answers.NotWithinCapsules capsules) before now = Tells (answers.NotWithinCapsules capsules) before now
TellsOfRun Tells (answers.Raced race) before now = Tells (answers.Raced race) before now
TellsOfRun Tells (answers.Gapped g) before now = Tells (answers.Gapped g) before now
TellsOfRun Tells (answers.Swept sweep) before now = Tells (answers.Swept sweep) before now
TellsOfRun Tells (answers.Differs difference) before now = Tells (answers.Differs difference) before now
TellsOfRun Tells (answers.Stood lines came) before now = Tells (answers.Stood lines came) before now
TellsOfRun Tells (answers.Fell lines came fall) before now = Tells (answers.Fell lines came fall) before now
TellsOfRun Tells (answers.AllStood runs) before now = Tells (answers.AllStood runs) before now

-- an answer that may come was delivered, also where a port failed at its text; and watchers were told what belongs to it
pub record Answers (may : Answer → Type 0) (Tells : Answer → ToldLists → ToldLists → Type 0) (o : Outside) (status : Status) : Type 0 where
  pub answer : Answer
  pub cause : may answer
  pub delivered : Delivers o.out o.err answer status
  pub told : Tells answer o.told_before o.told_now
