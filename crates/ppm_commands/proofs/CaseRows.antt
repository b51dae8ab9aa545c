-- The rows of `code` with arrays.
use Rattle.std.proofs.Common.{◌≡◌, ◌≤◌, ℕ, List, Some, length, sym, subst}
use Rattle.ppm_ports.specs.Ports.{Gets}
use Rattle.ppm_ports.specs.Outside.{Ports}
use Rattle.ppm_ports.specs.Whole.{ReadsTo}
use Rattle.ppm_text.specs.Limits.{text_limit}
use Rattle.ppm_cut_code.specs.Routines.{code_of}
use Rattle.ppm_answers.specs.declared.answer.Answer.{Answer}
use Rattle.ppm_answers.specs.declared.answer.Answer.TheVariants as answers
use Rattle.ppm_answers.specs.declared.status.Status.{Status}
use Rattle.ppm_answers.specs.Statuses.{status_of}
use Rattle.ppm_answers.specs.Delivery.{IsWritten}
use Rattle.ppm_answers.specs.Reading.{ReadHas, TextMay, DeliversAnswer}
use Rattle.ppm_answers.proofs.WholeText.{whole}
use Rattle.ppm_answers.proofs.Judged.{are_causes}
use Rattle.ppm_answers.proofs.RowsLemmas.{shown}
use Rattle.ppm_answers.proofs.RowsLemmas as rows_lemmas
use Rattle.ppm_case.specs.Case.{IsCaseOf}
use Rattle.ppm_program.specs.Programs.{HasProgram}
use Rattle.ppm_tree.specs.Program.{initial_arrays}
use Rattle.ppm_tree.specs.Tree.{ProgramTree}
use Rattle.ppm_commands.specs.Code.{IsFaithful, CodesAreFaithful}
use Rattle.ppm_commands.specs.Case.{CaseHas, CaseReads, ProgramMay, HaveOneAnswer, AreCases, CaseMay, HasRead, WritesCode, CaseSays, CaseRows}

-- no text has a read fault
pub no_fault : (text : List ℕ) → ¬ CaseReads text answers.ReadFault
no_fault text h = h

-- what is said of its program is said of a text
pub program_reads : (text : List ℕ) (t : ProgramTree) (a : Answer) → HasProgram text t → ProgramMay t a → TextMay CaseReads text a
program_reads text t (answers.Listed written) p h =
    record { writes = record { tree = t; program = p; written_is = h.0 }; fits = h.1 }
program_reads text t answers.NoMemory p h = tt
program_reads text t a p h = absurd h

-- an answer of a text that was read is one that a text has
has_of : (text : List ℕ) (a : Answer) → CaseReads text a → CaseHas text a
has_of text (answers.Listed written) h = h.writes
has_of text (answers.SourceRefused r) h = h
has_of text a h = absurd h

module _ (law : HaveOneAnswer) (are : AreCases) (faithful : CodesAreFaithful) (o : Ports) where
  -- what is true of a text that is written
  written : (w : List ℕ) → HasRead o.source (answers.Listed w) → Gets o.out w → WritesCode o
  written w h g =
      let t : ProgramTree = h.2.writes.tree in
      let code : IsFaithful t = faithful h.0 t h.2.writes.program in
      record {
        written = w;
        read = h;
        gets = g;
        case = subst (λ (l : List ℕ). IsCaseOf l (code_of t) (initial_arrays t)) (sym h.2.writes.written_is)
            (are.cases h.0 t h.2.writes.program h.2.fits);
        input = are.inputs h.0 t h.2.writes.program;
        sound = code.sound (initial_arrays t) (are.inputs h.0 t h.2.writes.program);
        faithful = code;
      }

  -- what an answer's own status says follows from the answer
  by_answer : (answer : Answer) → HasRead o.source answer → IsWritten o.out o.err answer (status_of answer) → CaseSays o (status_of answer)
  by_answer (answers.Listed w) h d = written w h d.out_takes.0
  by_answer (answers.SourceRefused r) h d = (r, h, d.err_takes.0)
  by_answer answer h d = absurd h.2

  -- an answer of what was read of a known source is one that its bytes have
  of_all : (all : List ℕ) (a : Answer) → o.source.before ≡ Some all → HasRead o.source a → CaseHas all a
  of_all all a e h =
      whole text_limit CaseHas law.front all o.source.now h.0 a (subst (λ l. ReadsTo text_limit l o.source.now h.0) e h.1.whole)
      (has_of h.0 a h.2)

  pub case_rows : (status : Status) → DeliversAnswer (CaseMay o.source) o status → CaseRows o status
  case_rows status d =
      let rows = rows_lemmas.rows CaseMay HasRead (are_causes text_limit CaseReads) o status d CaseHas (CaseSays o) of_all
      (record { read_fault = λ f. f; write_fault = λ f. f; memory = tt }) by_answer in
      record { rows = rows; shown = shown HasRead CaseHas (CaseSays o) o status law.one rows }
