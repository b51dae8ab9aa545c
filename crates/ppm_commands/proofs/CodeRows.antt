-- The rows of `code`.
use Rattle.std.proofs.Common.{◌≡◌, ℕ, List, Some, subst}
use Rattle.ppm_ports.specs.Ports.{Gets}
use Rattle.ppm_ports.specs.Outside.{Ports}
use Rattle.ppm_ports.specs.Whole.{ReadsTo}
use Rattle.ppm_text.specs.Limits.{text_limit}
use Rattle.ppm_cut_code.specs.Routines.{code_of}
use Rattle.ppm_answers.specs.declared.answer.Answer.{Answer}
use Rattle.ppm_answers.specs.declared.answer.Answer.TheVariants as answers
use Rattle.ppm_answers.specs.declared.status.Status.{Status}
use Rattle.ppm_answers.specs.Statuses.{status_of}
use Rattle.ppm_answers.specs.Delivery.{IsWritten}
use Rattle.ppm_answers.specs.Reading.{ReadHas, TextMay, DeliversAnswer}
use Rattle.ppm_answers.proofs.WholeText.{whole}
use Rattle.ppm_answers.proofs.Judged.{are_causes}
use Rattle.ppm_answers.proofs.RowsLemmas.{shown}
use Rattle.ppm_answers.proofs.RowsLemmas as rows_lemmas
use Rattle.ppm_program.specs.Programs.{HasProgram}
use Rattle.ppm_tree.specs.Tree.{ProgramTree}
use Rattle.ppm_commands.specs.Code.{CodeHas, CodeReads, ProgramMay, HaveOneAnswer, IsFaithful, CodesAreFaithful, CodeMay, HasRead, WritesListing, CodeSays, CodeRows}

-- no text has a read fault
pub no_fault : (text : List ℕ) → ¬ CodeReads text answers.ReadFault
no_fault text h = h

-- what is said of its program is said of a text
pub program_reads : (text : List ℕ) (t : ProgramTree) (a : Answer) → HasProgram text t → ProgramMay t a → TextMay CodeReads text a
program_reads text t (answers.Listed listing) p h = record { lists = record { tree = t; program = p; listed = h.0 }; fits = h.1 }
program_reads text t answers.NoMemory p h = tt
program_reads text t a p h = absurd h

-- an answer of a text that was read is one that a text has
has_of : (text : List ℕ) (a : Answer) → CodeReads text a → CodeHas text a
has_of text (answers.Listed listing) h = h.lists
has_of text (answers.SourceRefused r) h = h
has_of text a h = absurd h

module _ (law : HaveOneAnswer) (faithful : CodesAreFaithful) (o : Ports) where
  -- what is true of a listing that is written
  listing : (l : List ℕ) → HasRead o.source (answers.Listed l) → Gets o.out l → WritesListing o
  listing l h g =
      let code : IsFaithful h.2.lists.tree = faithful h.0 h.2.lists.tree h.2.lists.program in
      record {
        listing = l;
        read = h;
        gets = g;
        accepted = record {
          code = code_of h.2.lists.tree;
          listed = record { code = code.rules; fits = h.2.fits; same = h.2.lists.listed };
          free = code.free;
        };
        faithful = code;
      }

  -- what an answer's own status says follows from the answer
  by_answer : (answer : Answer) → HasRead o.source answer → IsWritten o.out o.err answer (status_of answer) → CodeSays o (status_of answer)
  by_answer (answers.Listed l) h w = listing l h w.out_takes.0
  by_answer (answers.SourceRefused r) h w = (r, h, w.err_takes.0)
  by_answer answer h w = absurd h.2

  -- an answer of what was read of a known source is one that its bytes have
  of_all : (all : List ℕ) (a : Answer) → o.source.before ≡ Some all → HasRead o.source a → CodeHas all a
  of_all all a e h =
      whole text_limit CodeHas law.front all o.source.now h.0 a (subst (λ l. ReadsTo text_limit l o.source.now h.0) e h.1.whole)
      (has_of h.0 a h.2)

  pub code_rows : (status : Status) → DeliversAnswer (CodeMay o.source) o status → CodeRows o status
  code_rows status d =
      let rows = rows_lemmas.rows CodeMay HasRead (are_causes text_limit CodeReads) o status d CodeHas (CodeSays o) of_all
      (record { read_fault = λ f. f; write_fault = λ f. f; memory = tt }) by_answer in
      record { rows = rows; shown = shown HasRead CodeHas (CodeSays o) o status law.one rows }
