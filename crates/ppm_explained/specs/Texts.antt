-- What is accepted, and what is said of a refusal, by the text that is explained.
use Rattle.std.specs.Prelude.{◌≡◌, ℕ, List}
use Rattle.ppm_text.specs.Limits.{text_limit}
use Rattle.ppm_tree.specs.Tree.{ProgramTree}
use Rattle.ppm_code.specs.declared.code.CodeParts.{CodeParts}
use Rattle.ppm_program.specs.Programs.{HasProgram}
use Rattle.ppm_program.specs.Refusals.{IsRefusal}
use Rattle.ppm_listing_reader.specs.Limits.{listing_limit}
use Rattle.ppm_listing_reader.specs.Correct.{IsListing}
use Rattle.ppm_loading.specs.Telling.{line_at, IsUntidy, MayBeRun}
use Rattle.ppm_words.specs.declared.named_array.NamedArray.{NamedArray}
use Rattle.ppm_cells.specs.declared.shape.Shape.{Shape}
use Rattle.ppm_code.specs.Free.{IsFree}
use Rattle.ppm_case.specs.Correct.{HasCase}
use Rattle.ppm_case.specs.Rules.{case_limit}
use Rattle.ppm_saved.specs.declared.names.NamedLength.{NamedLength}
use Rattle.ppm_saved_reader.specs.Correct.{IsSavedText}
use Rattle.ppm_saved_reader.specs.Rules.{saved_limit}
use Rattle.ppm_answers.specs.declared.answer.Answer.{Answer}
use Rattle.ppm_answers.specs.declared.answer.Answer.TheVariants as answers
use Rattle.ppm_answers.specs.declared.conflict.Conflict.{Conflict}
use Rattle.ppm_answers.specs.declared.refused.Refused.{Refused}
use Rattle.ppm_answers.specs.declared.refused.Refused.TheVariants as refused
use Rattle.ppm_answers.specs.Refused.{refused_answer}
use Rattle.ppm_cli.specs.declared.explain.ExplainedText.{ExplainedText}
use Rattle.ppm_cli.specs.declared.explain.ExplainedText.TheVariants as texts
use Rattle.ppm_commands.specs.Cases.{HasOfCase}
use Rattle.ppm_commands.specs.Check.{CheckHas}
use Rattle.ppm_commands.specs.Races.{HasConflict}
use Rattle.ppm_commands.specs.Show.{ShowHas}
use Rattle.ppm_explain.specs.Sources.{AreNotes}
use Rattle.ppm_notes.specs.Lines.{case_notes, input_notes, saved_notes, untidy_notes}
use Rattle.ppm_notes.specs.Listings.{listing_notes, conflict_notes}

-- how many bytes are read of each text at most, but for one
abbrev pub limit_of : ExplainedText → ℕ
limit_of texts.Source = text_limit
limit_of texts.Listing = listing_limit
limit_of texts.Case = case_limit
limit_of texts.Saved = saved_limit

-- the text has a program
pub record HasSomeProgram (text : List ℕ) : Type 0 where
  pub tree : ProgramTree
  pub program : HasProgram text tree

-- the text is that of a state
pub record HasSomeState (text : List ℕ) : Type 0 where
  pub shape : Shape
  pub arrays : List NamedLength
  pub code : CodeParts
  pub words : List ℕ
  pub saved : IsSavedText text shape arrays code words

-- the text is of a case whose code may be run again and is tidy
abbrev pub HasReadyCase : List ℕ → Type 0
HasReadyCase text = (c : HasCase text) × MayBeRun c.code

-- The text is accepted: a source has a program, a listing is accepted by `check`, a case is one that `races` runs, and a saved text is that of a
-- state.
abbrev pub IsAccepted : ExplainedText → List ℕ → Type 0
IsAccepted texts.Source text = HasSomeProgram text
IsAccepted texts.Listing text = CheckHas text answers.Accepted
IsAccepted texts.Case text = HasReadyCase text
IsAccepted texts.Saved text = HasSomeState text

-- a source is refused for this reason
abbrev pub IsSourceRefused : List ℕ → Refused → Type 0
IsSourceRefused text (refused.Source r) = IsRefusal text r
IsSourceRefused text r = ⊥

-- what `races` answers of a case that it does not run: its first conflict, or its first store that is not tidy
abbrev pub UnreadyOf : CodeParts → List NamedArray → Answer → Type 0
UnreadyOf code input (answers.ConflictingAt c read write) = HasConflict code input c read write
UnreadyOf code input (answers.Untidy u) = IsFree code × IsUntidy code input u
UnreadyOf code input _ = ⊥

-- The text is refused for this reason: a source as each command refuses it, a listing as `check` does, a case as `races` does before it runs it, and
-- a saved text as `show` does.
abbrev pub IsRefused : ExplainedText → List ℕ → Refused → Type 0
IsRefused texts.Source text r = IsSourceRefused text r
IsRefused texts.Listing text r = CheckHas text (refused_answer r)
IsRefused texts.Case text r = HasOfCase UnreadyOf text (refused_answer r)
IsRefused texts.Saved text r = ShowHas text (refused_answer r)

-- the notes of a conflict, by the lines in which its two instructions stand
pub record AreConflictNotes (text : List ℕ) (c : Conflict) (notes : List ℕ) : Type 0 where
  pub code : CodeParts
  pub listed : IsListing text code
  pub is : notes ≡ conflict_notes text (line_at 0 code c.capsule c.read_at) (line_at 0 code c.capsule c.write_at)

-- these are the notes of a source that is refused for this reason
abbrev pub AreSourceNotes : List ℕ → Refused → List ℕ → Type 0
AreSourceNotes text (refused.Source r) notes = AreNotes text r notes
AreSourceNotes text r notes = ⊥

-- those of a listing
abbrev pub AreListingNotes : List ℕ → Refused → List ℕ → Type 0
AreListingNotes text (refused.Listing r) notes = notes ≡ listing_notes text r
AreListingNotes text (refused.Conflict c) notes = AreConflictNotes text c notes
AreListingNotes text r notes = ⊥

-- those of a case
abbrev pub AreCaseNotes : List ℕ → Refused → List ℕ → Type 0
AreCaseNotes text (refused.Input r) notes = notes ≡ input_notes text r
AreCaseNotes text (refused.Listing r) notes = notes ≡ case_notes text r
AreCaseNotes text (refused.ConflictAt c read write) notes = notes ≡ conflict_notes text read write
AreCaseNotes text (refused.Untidy u) notes = notes ≡ untidy_notes text u
AreCaseNotes text r notes = ⊥

-- those of a saved text
abbrev pub AreSavedNotes : List ℕ → Refused → List ℕ → Type 0
AreSavedNotes text (refused.Saved r) notes = notes ≡ saved_notes text r
AreSavedNotes text r notes = ⊥

-- those of each text
abbrev pub AreNotesOf : ExplainedText → List ℕ → Refused → List ℕ → Type 0
AreNotesOf texts.Source text r notes = AreSourceNotes text r notes
AreNotesOf texts.Listing text r notes = AreListingNotes text r notes
AreNotesOf texts.Case text r notes = AreCaseNotes text r notes
AreNotesOf texts.Saved text r notes = AreSavedNotes text r notes
