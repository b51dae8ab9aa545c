-- What follows from each status of `strands` by a schedule.
use Rattle.std.specs.Prelude.{◌⊎◌, ℕ, List}
use Rattle.ppm_words.specs.declared.named_array.NamedArray.{NamedArray}
use Rattle.ppm_words.specs.declared.trap.Trap.{Trap}
use Rattle.ppm_ports.specs.Ports.{Gets}
use Rattle.ppm_ports.specs.Outside.{Ports}
use Rattle.ppm_case.specs.Rules.{case_limit}
use Rattle.ppm_plan.specs.Strands.{strand_form}
use Rattle.ppm_cli.specs.declared.strands.StrandsOptions.{StrandsOptions}
use Rattle.ppm_answers.specs.declared.case.InputRefusal.{InputRefusal}
use Rattle.ppm_answers.specs.declared.case.UntidyStore.{UntidyStore}
use Rattle.ppm_answers.specs.declared.conflict.ListingRefusal.{ListingRefusal}
use Rattle.ppm_answers.specs.declared.sweep.Came.{Came}
use Rattle.ppm_answers.specs.declared.sweep.Came.TheVariants as came
use Rattle.ppm_answers.specs.declared.answer.Answer.{Answer}
use Rattle.ppm_answers.specs.declared.answer.Answer.TheVariants as answers
use Rattle.ppm_answers.specs.declared.status.Status.{Status}
use Rattle.ppm_answers.specs.declared.status.Status.TheVariants as statuses
use Rattle.ppm_answers.specs.Texts.{fell_text, input_text, listing_text, stood_err, stood_out, untidy_text}
use Rattle.ppm_answers.specs.Reading.{IsUnread, ReadHas}
use Rattle.ppm_answers.specs.Rows.{PortsSay, PlannedRows, IsShown, IsDone}
use Rattle.ppm_loading.specs.MachineRows.{RefusesPlan}
use Rattle.ppm_loading.specs.Planned.{IsRefusedBy, HasByItems}
use Rattle.ppm_strands_command.specs.Strands.{TextHas, StrandsHas, StrandsMay}

module _ (options : StrandsOptions) (schedule : List ℕ) (o : Ports) where
  -- the text that was read has this answer, with these options and this schedule
  abbrev pub HasRead : Answer → Type 0
  HasRead answer = ReadHas case_limit (HasByItems strand_form schedule 1 (TextHas options)) o.source answer

  -- the run of the case that was read ended with arrays and all stood, and out got exactly its lines and the arrays
  abbrev pub WritesArrays : Type 0
  WritesArrays = (lines : List ℕ) × (arrays : List NamedArray) × HasRead (answers.Stood lines (came.Ended arrays))
      × Gets o.out (stood_out lines (came.Ended arrays))

  -- or with a trap
  abbrev pub WritesTrap : Type 0
  WritesTrap = (lines : List ℕ) × (t : Trap) × (line : ℕ) × HasRead (answers.Stood lines (came.Trapped t line))
      × Gets o.out (stood_out lines (came.Trapped t line))

  -- all stood in so many turns and it has not ended, and err got exactly its lines and that
  abbrev pub WritesUnfinished : Type 0
  WritesUnfinished = (lines : List ℕ) × (turns : ℕ) × HasRead (answers.Stood lines (came.Unfinished turns))
      × Gets o.err (stood_err lines (came.Unfinished turns))

  -- in the run something fell, and err got exactly its lines, what it came to, and the first fall
  abbrev pub WritesFall : Type 0
  WritesFall = (lines : List ℕ) × (c : Came) × (fall : List ℕ) × HasRead (answers.Fell lines c fall) × Gets o.err (fell_text lines c fall)

  -- the code that was read has a store that is not tidy, and err got exactly the line of the first
  abbrev pub WritesUntidy : Type 0
  WritesUntidy = (u : UntidyStore) × HasRead (answers.Untidy u) × Gets o.err (untidy_text u)

  -- the text that was read is of no case, for a fault of its arrays or its root, and err got exactly its line
  abbrev pub WritesInputFault : Type 0
  WritesInputFault = (r : InputRefusal) × HasRead (answers.InputRefused r) × Gets o.err (input_text r)

  -- or for a fault of its listing
  abbrev pub WritesListingFault : Type 0
  WritesListingFault = (r : ListingRefusal) × HasRead (answers.ListingRefused r) × Gets o.err (listing_text r)

  -- what each status says; the others never come
  abbrev pub StrandsSays : Status → Type 0
  StrandsSays statuses.Ended = WritesArrays
  StrandsSays statuses.Trapped = WritesTrap
  StrandsSays statuses.OutOfTurns = WritesUnfinished
  StrandsSays statuses.CodeRefused = WritesFall ⊎ WritesUntidy ⊎ WritesInputFault ⊎ WritesListingFault
  StrandsSays statuses.WordsRefused = RefusesPlan strand_form schedule 1 o × IsUnread o.source
  StrandsSays status = PortsSay o status

  -- The rows of `strands` with such options and such a schedule. The answer that a text has is written, whichever it is.
  pub record StrandsRows (status : Status) : Type 0 where
    pub rows : PlannedRows (IsRefusedBy strand_form schedule 1) (HasByItems strand_form schedule 1 (TextHas options)) case_limit StrandsSays o status
    pub shown : IsShown (StrandsHas options schedule) o status

-- `strands` by a schedule is done
abbrev pub AreRunBySchedule : StrandsOptions → (schedule : List ℕ) → Ports → Status → Type 0
AreRunBySchedule options schedule = IsDone (StrandsMay options schedule) (StrandsRows options schedule)
