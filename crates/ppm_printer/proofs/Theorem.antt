-- A canonical text has its tree again: its tokens are had where they were printed, and derive the tree with the lines of its text.
-- It has no other, since a text has one list of tokens and tokens have one tree; so the text tells the program, lines apart.
use Rattle.std.proofs.Common.{◌≡◌, ◌∙◌, ℕ, List, [], sym, ap, subst}
use Rattle.ppm_text.proofs.ReadingLemmas.{one_reading}
use Rattle.ppm_tree.specs.Tree.{ProgramTree}
use Rattle.ppm_grammar.specs.Derivation.{IsText}
use Rattle.ppm_grammar.proofs.Theorem.{have_one_answer}
use Rattle.ppm_rows.specs.Values.{Program, program_in}
use Rattle.ppm_rows.specs.Language.{language}
use Rattle.ppm_rows.specs.Limits.{limits}
use Rattle.ppm_rows.specs.Follow.{may_follow}
use Rattle.ppm_rows.proofs.OneAnswer.{is_tested}
use Rattle.ppm_printer.specs.Spelled.{text_of}
use Rattle.ppm_printer.specs.Canonical.{program_tokens, canonical_text}
use Rattle.ppm_tree.specs.Lines.{without_lines}
use Rattle.ppm_printer.specs.Correct.{IsTextOfTree, PrintedTextsHaveTheirTree, CanonicalTextsTellPrograms}
use Rattle.ppm_printer.proofs.LexingLemmas.{located_from, lexed}
use Rattle.ppm_printer.proofs.FineLemmas.{fine_program}
use Rattle.ppm_printer.proofs.FormLemmas.{program_formed}
use Rattle.ppm_printer.proofs.Reading.{done}
use Rattle.ppm_printer.proofs.ProgramsAgain.{program_again}
use Rattle.ppm_printer.proofs.BareLemmas.{program_bare}

-- the text has its tree
pub has_its_tree : PrintedTextsHaveTheirTree
has_its_tree t within =
    let fine = fine_program t within in
    let stands = program_again t fine in
    let text = stands.reads [] [] [] done in
    record {
      tokens = located_from 0 1 (program_tokens t);
      lexed = lexed (program_tokens t) (program_formed t fine);
      again = stands.again;
      marks = text.marks;
      derived = text.derived;
      same = stands.same;
    }

-- a text has one tree at most
one_tree : (text : List ℕ) (s t : ProgramTree) (a : IsTextOfTree text s) (b : IsTextOfTree text t) → a.again ≡ b.again
one_tree text s t a b =
    let tokens : b.tokens ≡ a.tokens = (one_reading text).tokens b.tokens a.tokens b.lexed a.lexed in
    let derived : IsText language a.tokens (Program b.again) b.marks = subst (λ ts. IsText language ts (Program b.again) b.marks) tokens b.derived in
    ap program_in ((have_one_answer language may_follow is_tested limits a.tokens).tree (Program a.again) (Program b.again) a.marks b.marks a.derived derived).0

-- programs have one canonical text exactly where they are the same, lines apart
pub tell_programs : CanonicalTextsTellPrograms
tell_programs s t within also = (
  λ e.
      let a = has_its_tree s within in
      let b = subst (λ text. IsTextOfTree text t) (sym e) (has_its_tree t also) in
      sym a.same ∙ ap without_lines (one_tree (canonical_text s) s t a b) ∙ b.same,
  λ e. sym (ap text_of (program_bare s)) ∙ ap canonical_text e ∙ ap text_of (program_bare t),
)
