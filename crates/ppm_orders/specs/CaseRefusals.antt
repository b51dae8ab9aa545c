-- What is written where the text that was read is of no case, of each command that runs one.
use Rattle.std.specs.Prelude.{◌⊎◌}
use Rattle.ppm_ports.specs.Ports.{Gets}
use Rattle.ppm_ports.specs.Outside.{Ports}
use Rattle.ppm_answers.specs.declared.answer.Answer.{Answer}
use Rattle.ppm_answers.specs.declared.answer.Answer.TheVariants as answers
use Rattle.ppm_answers.specs.declared.case.InputRefusal.{InputRefusal}
use Rattle.ppm_answers.specs.declared.conflict.ListingRefusal.{ListingRefusal}
use Rattle.ppm_answers.specs.Texts.{input_text, listing_text}

-- the answers of what was read, and the ports
module _ (HasRead : Answer → Type 0) (o : Ports) where
  -- the text has a fault of its arrays or of its root, and err got exactly its line
  abbrev pub WritesInputRefusal : Type 0
  WritesInputRefusal = (r : InputRefusal) × HasRead (answers.InputRefused r) × Gets o.err (input_text r)

  -- it has a fault of its listing, and err got exactly its line
  abbrev pub WritesListingRefusal : Type 0
  WritesListingRefusal = (r : ListingRefusal) × HasRead (answers.ListingRefused r) × Gets o.err (listing_text r)

  -- one of both
  abbrev pub RefusesCase : Type 0
  RefusesCase = WritesInputRefusal ⊎ WritesListingRefusal
