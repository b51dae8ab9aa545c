-- The command `explain`: what it says of a text, when it may give each answer, and what follows from each status.
use Rattle.std.specs.Prelude.{◌≡◌, ◌++◌, ℕ, List}
use Rattle.ppm_ports.specs.Ports.{Port, Gets}
use Rattle.ppm_ports.specs.Outside.{Ports}
use Rattle.ppm_answers.specs.declared.answer.Answer.{Answer}
use Rattle.ppm_answers.specs.declared.answer.Answer.TheVariants as answers
use Rattle.ppm_answers.specs.declared.refused.Refused.{Refused}
use Rattle.ppm_answers.specs.declared.status.Status.{Status}
use Rattle.ppm_answers.specs.declared.status.Status.TheVariants as statuses
use Rattle.ppm_answers.specs.Statuses.{refused_status}
use Rattle.ppm_answers.specs.Texts.{accepted_text, refused_text}
use Rattle.ppm_answers.specs.Reading.{ReadHas, JudgingMay, AreOne, FrontsDecide}
use Rattle.ppm_answers.specs.Rows.{PortsSay, TextRows, IsShown, IsDone}
use Rattle.ppm_cli.specs.declared.explain.ExplainedText.{ExplainedText}
use Rattle.ppm_explained.specs.Texts.{limit_of, IsAccepted, IsRefused, AreNotesOf}

-- the text is refused for this reason, and these are the notes of it
pub record IsExplained (kind : ExplainedText) (text : List ℕ) (r : Refused) (notes : List ℕ) : Type 0 where
  pub refusal : IsRefused kind text r
  pub told : AreNotesOf kind text r notes

-- the answer that a text has where it is explained
abbrev pub ExplainHas : ExplainedText → List ℕ → Answer → Type 0
ExplainHas kind text answers.Accepted = IsAccepted kind text
ExplainHas kind text (answers.Explained r notes) = IsExplained kind text r notes
ExplainHas kind text _ = ⊥

-- Two answers of a text are one, and what stands after more bytes than a text may have changes none. Each text has one: it is accepted, or refused
-- for a reason that has notes.
pub record HasOneAnswer (kind : ExplainedText) : Type 0 where
  pub one : AreOne (ExplainHas kind)
  pub front : FrontsDecide (limit_of kind) (ExplainHas kind)
  pub some : (text : List ℕ) → ((r : Refused) (notes : List ℕ) → ¬ IsExplained kind text r notes) → IsAccepted kind text

-- each kind of text that is explained has one answer
abbrev pub HaveOneAnswer : Type 0
HaveOneAnswer = (kind : ExplainedText) → HasOneAnswer kind

-- the answers of `explain`
abbrev pub ExplainMay : ExplainedText → Port → Answer → Type 0
ExplainMay kind source answer = JudgingMay (limit_of kind) (ExplainHas kind) source answer

module _ (kind : ExplainedText) (o : Ports) where
  -- the text that was read has this answer
  abbrev pub HasRead : Answer → Type 0
  HasRead answer = ReadHas (limit_of kind) (ExplainHas kind) o.source answer

  -- the text that was read is accepted, and out got exactly `ok`
  abbrev pub WritesOk : Type 0
  WritesOk = HasRead answers.Accepted × Gets o.out accepted_text

  -- The text that was read is refused, and err got exactly the line that the command writes of this refusal which reads the text, and the notes
  -- after it.
  pub record WritesNotes (status : Status) : Type 0 where
    pub refusal : Refused
    pub notes : List ℕ
    pub own : status ≡ refused_status refusal
    pub read : HasRead (answers.Explained refusal notes)
    pub gets : Gets o.err (refused_text refusal ++ notes)

  -- what each status of `explain` says: 0 comes only where the text that was read is accepted, and those of refusals only where it is refused
  abbrev pub ExplainSays : Status → Type 0
  ExplainSays statuses.Ended = WritesOk
  ExplainSays statuses.SourceRefused = WritesNotes statuses.SourceRefused
  ExplainSays statuses.CodeRefused = WritesNotes statuses.CodeRefused
  ExplainSays statuses.SavedRefused = WritesNotes statuses.SavedRefused
  ExplainSays status = PortsSay o status

-- The rows of `explain`: what each status says; where all goes well, the answer that the text has is written, and of a source whose bytes are
-- known, the one that they have.
pub record ExplainRows (kind : ExplainedText) (o : Ports) (status : Status) : Type 0 where
  pub rows : TextRows (limit_of kind) (ExplainHas kind) (ExplainSays kind o) o status
  pub shown : IsShown (ExplainHas kind) o status

-- `explain` is done
abbrev pub IsToldWhy : ExplainedText → Ports → Status → Type 0
IsToldWhy kind o status = IsDone (ExplainMay kind) (ExplainRows kind) o status
