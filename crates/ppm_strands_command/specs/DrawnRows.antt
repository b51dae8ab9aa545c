-- What follows from each status of `strands` by schedules that are drawn.
use Rattle.std.specs.Prelude.{◌⊎◌, ℕ, List}
use Rattle.ppm_ports.specs.Ports.{Gets}
use Rattle.ppm_ports.specs.Outside.{Ports}
use Rattle.ppm_case.specs.Rules.{case_limit}
use Rattle.ppm_cli.specs.declared.strands.DrawnStrandsOptions.{DrawnStrandsOptions}
use Rattle.ppm_answers.specs.declared.case.InputRefusal.{InputRefusal}
use Rattle.ppm_answers.specs.declared.case.UntidyStore.{UntidyStore}
use Rattle.ppm_answers.specs.declared.conflict.ListingRefusal.{ListingRefusal}
use Rattle.ppm_answers.specs.declared.sweep.Came.{Came}
use Rattle.ppm_answers.specs.declared.answer.Answer.{Answer}
use Rattle.ppm_answers.specs.declared.answer.Answer.TheVariants as answers
use Rattle.ppm_answers.specs.declared.status.Status.{Status}
use Rattle.ppm_answers.specs.declared.status.Status.TheVariants as statuses
use Rattle.ppm_answers.specs.Texts.{all_stood_text, fell_text, input_text, listing_text, untidy_text}
use Rattle.ppm_answers.specs.Reading.{ReadHas}
use Rattle.ppm_answers.specs.Rows.{PortsSay, TextRows, IsShown, IsDone}
use Rattle.ppm_strands_command.specs.Drawn.{DrawnHas, DrawnMay}

module _ (options : DrawnStrandsOptions) (o : Ports) where
  -- the text that was read has this answer, with these options
  abbrev pub HasRead : Answer → Type 0
  HasRead answer = ReadHas case_limit (DrawnHas options) o.source answer

  -- nothing fell in any of the runs of the case that was read, and out got exactly the line that says so
  abbrev pub WritesAllStood : Type 0
  WritesAllStood = HasRead (answers.AllStood options.runs) × Gets o.out (all_stood_text options.runs)

  -- in one of the runs something fell, and err got exactly the lines of the first such run: what it came to, and its first fall
  abbrev pub WritesFall : Type 0
  WritesFall = (lines : List ℕ) × (c : Came) × (fall : List ℕ) × HasRead (answers.Fell lines c fall) × Gets o.err (fell_text lines c fall)

  -- the code that was read has a store that is not tidy, and err got exactly the line of the first
  abbrev pub WritesUntidy : Type 0
  WritesUntidy = (u : UntidyStore) × HasRead (answers.Untidy u) × Gets o.err (untidy_text u)

  -- the text that was read is of no case, for a fault of its arrays or its root, and err got exactly its line
  abbrev pub WritesInputFault : Type 0
  WritesInputFault = (r : InputRefusal) × HasRead (answers.InputRefused r) × Gets o.err (input_text r)

  -- or for a fault of its listing
  abbrev pub WritesListingFault : Type 0
  WritesListingFault = (r : ListingRefusal) × HasRead (answers.ListingRefused r) × Gets o.err (listing_text r)

  -- what each status says; the others never come
  abbrev pub DrawnSays : Status → Type 0
  DrawnSays statuses.Ended = WritesAllStood
  DrawnSays statuses.CodeRefused = WritesFall ⊎ WritesUntidy ⊎ WritesInputFault ⊎ WritesListingFault
  DrawnSays status = PortsSay o status

  -- The rows of `strands` with such options. The answer that a text has is written, whichever it is.
  pub record DrawnRows (status : Status) : Type 0 where
    pub rows : TextRows case_limit (DrawnHas options) DrawnSays o status
    pub shown : IsShown (DrawnHas options) o status

-- `strands` by drawn schedules is done
abbrev pub AreRunByDraws : DrawnStrandsOptions → Ports → Status → Type 0
AreRunByDraws options = IsDone (DrawnMay options) (DrawnRows options)
