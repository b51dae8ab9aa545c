-- `explain` of the trap of a source, or of where its turns are spent: what it says of a text, when it may give each answer, and what follows from each status.
use Rattle.std.specs.Prelude.{◌≡◌, ◌++◌, ℕ, List, Some}
use Rattle.ppm_words.specs.declared.named_array.NamedArray.{NamedArray}
use Rattle.ppm_words.specs.declared.outcome.Outcome.TheVariants as outcome
use Rattle.ppm_words.specs.declared.trap.Trap.{Trap}
use Rattle.ppm_ports.specs.Ports.{Port, Gets}
use Rattle.ppm_ports.specs.Outside.{Ports}
use Rattle.ppm_text.specs.Limits.{text_limit}
use Rattle.ppm_tree.specs.Tree.{ProgramTree}
use Rattle.ppm_tree.specs.Program.{Serial}
use Rattle.ppm_trapped.specs.declared.told.Told.{Told}
use Rattle.ppm_standing.specs.declared.stood.Stood.{Stood}
use Rattle.ppm_standing.specs.Nexts.{Run}
use Rattle.ppm_trapped.specs.Sites.{Point, TrapsAt}
use Rattle.ppm_trapped.specs.Walks.{IsTold}
use Rattle.ppm_standing.specs.Standing.{stand}
use Rattle.ppm_standing.specs.Stood.{IsStood}
use Rattle.ppm_program.specs.Programs.{HasProgram}
use Rattle.ppm_answers.specs.declared.answer.Answer.{Answer}
use Rattle.ppm_answers.specs.declared.answer.Answer.TheVariants as answers
use Rattle.ppm_answers.specs.declared.refused.Refused.{Refused}
use Rattle.ppm_answers.specs.declared.status.Status.{Status}
use Rattle.ppm_answers.specs.declared.status.Status.TheVariants as statuses
use Rattle.ppm_answers.specs.Texts.{accepted_text, not_within_text, refused_text, trap_text}
use Rattle.ppm_answers.specs.Reading.{ReadHas, JudgingMay, AreOne, FrontsDecide}
use Rattle.ppm_answers.specs.Rows.{PortsSay, TextRows, IsShown, IsDone}
use Rattle.ppm_cli.specs.declared.explain.ExplainedText.TheVariants as texts
use Rattle.ppm_commands.specs.Serial.{ComesTo}
use Rattle.ppm_notes.specs.Traps.{stand_notes, trap_notes}
use Rattle.ppm_explained.specs.Explaining.{IsExplained}

-- the text has a program whose run ends within so many turns
pub record EndsWithin (turns : ℕ) (text : List ℕ) : Type 0 where
  pub arrays : List NamedArray
  pub comes : ComesTo turns text (outcome.Ended arrays)

-- The text has a program whose run within so many turns is this trap in this line; the run traps at a point with it, and the notes are those of
-- what is told of this point.
pub record IsTrapExplained (turns : ℕ) (text : List ℕ) (t : Trap) (line : ℕ) (notes : List ℕ) : Type 0 where
  pub tree : ProgramTree
  pub program : HasProgram text tree
  pub serial : Serial tree turns (outcome.Trapped t line)
  pub point : Point
  pub traps : TrapsAt tree point (t, line)
  pub told : Told
  pub is_told : IsTold tree.procedures point told
  pub is : notes ≡ trap_notes text told

-- The text has a program whose run takes more turns; within these it stands at a place, and the notes are those of what is told of it.
pub record IsStandExplained (turns : ℕ) (text : List ℕ) (notes : List ℕ) : Type 0 where
  pub comes : ComesTo turns text outcome.NotWithin
  pub run : Run
  pub stands : stand comes.tree turns ≡ Some run
  pub stood : Stood
  pub is_stood : IsStood comes.tree.procedures run stood
  pub is : notes ≡ stand_notes text stood

-- the answer that a text has where its trap is explained
abbrev pub TrapHas : ℕ → List ℕ → Answer → Type 0
TrapHas turns text answers.Accepted = EndsWithin turns text
TrapHas turns text (answers.TrapExplained t line notes) = IsTrapExplained turns text t line notes
TrapHas turns text (answers.StandExplained n notes) = (n ≡ turns) × IsStandExplained turns text notes
TrapHas turns text (answers.Explained r notes) = IsExplained texts.Source text r notes
TrapHas turns text _ = ⊥

-- Within each number of turns two answers of a text are one, and what stands after more bytes than a text may have changes none. Each text has one:
-- it is refused for a reason that has notes, or its program has an outcome, of which a trap has notes, and so has a run that takes more turns.
pub record HasOneAnswer (turns : ℕ) : Type 0 where
  pub one : AreOne (TrapHas turns)
  pub front : FrontsDecide text_limit (TrapHas turns)
  pub some : (text : List ℕ) → ((r : Refused) (notes : List ℕ) → ¬ IsExplained texts.Source text r notes) → (a : Answer) × TrapHas turns text a

-- `explain --trap yes` has one answer, whatever the number of turns
abbrev pub HaveOneAnswer : Type 0
HaveOneAnswer = (turns : ℕ) → HasOneAnswer turns

-- the answers of `explain --trap yes`
abbrev pub TrapMay : ℕ → Port → Answer → Type 0
TrapMay turns source answer = JudgingMay text_limit (TrapHas turns) source answer

module _ (turns : ℕ) (o : Ports) where
  -- the text that was read has this answer
  abbrev pub HasRead : Answer → Type 0
  HasRead answer = ReadHas text_limit (TrapHas turns) o.source answer

  -- the run of the text that was read ends within the turns, and out got exactly `ok`
  abbrev pub WritesOk : Type 0
  WritesOk = HasRead answers.Accepted × Gets o.out accepted_text

  -- The run of the text that was read is a trap within the turns, and out got exactly the line that `serial` writes of it, and the notes after it.
  pub record WritesTrap : Type 0 where
    pub trap : Trap
    pub line : ℕ
    pub notes : List ℕ
    pub read : HasRead (answers.TrapExplained trap line notes)
    pub gets : Gets o.out (trap_text trap line ++ notes)

  -- The text that was read is refused, and err got exactly the line that `serial` writes of this refusal, and the notes after it.
  pub record WritesNotes : Type 0 where
    pub refusal : Refused
    pub notes : List ℕ
    pub read : HasRead (answers.Explained refusal notes)
    pub gets : Gets o.err (refused_text refusal ++ notes)

  -- The program of the text that was read spends more turns, and err got exactly the line that `serial` writes of this, and the notes after it.
  pub record WritesStand : Type 0 where
    pub notes : List ℕ
    pub read : HasRead (answers.StandExplained turns notes)
    pub gets : Gets o.err (not_within_text turns ++ notes)

  -- what each status says: 0, 1, 2 and 11 come only where the text that was read ends so
  abbrev pub TrapSays : Status → Type 0
  TrapSays statuses.Ended = WritesOk
  TrapSays statuses.Trapped = WritesTrap
  TrapSays statuses.SourceRefused = WritesNotes
  TrapSays statuses.NotWithin = WritesStand
  TrapSays status = PortsSay o status

-- The rows of `explain --trap yes`: what each status says; where all goes well, the answer that the text has is written, and of a source whose bytes
-- are known, the one that they have.
pub record TrapRows (turns : ℕ) (o : Ports) (status : Status) : Type 0 where
  pub rows : TextRows text_limit (TrapHas turns) (TrapSays turns o) o status
  pub shown : IsShown (TrapHas turns) o status

-- `explain --trap yes` is done
abbrev pub IsTrapTold : ℕ → Ports → Status → Type 0
IsTrapTold turns o status = IsDone (TrapMay turns) (TrapRows turns) o status
