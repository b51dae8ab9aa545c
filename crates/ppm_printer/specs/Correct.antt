-- A canonical text has the tree that it was printed from, lines apart.
use Rattle.std.specs.Prelude.{◌≡◌, ◌↔◌, ℕ, List}
use Rattle.ppm_text.specs.declared.token.Token.{Token}
use Rattle.ppm_text.specs.Lexing.{IsTextOf}
use Rattle.ppm_tree.specs.Tree.{ProgramTree}
use Rattle.ppm_tree.specs.Limits.{IsWithin}
use Rattle.ppm_grammar.specs.Derivation.{Mark, IsText}
use Rattle.ppm_rows.specs.Values.{Program}
use Rattle.ppm_rows.specs.Language.{Counted, language}
use Rattle.ppm_printer.specs.Canonical.{canonical_text}
use Rattle.ppm_tree.specs.Lines.{without_lines}

-- the bytes are lexed into tokens, and these are a text of the grammar with the tree, lines apart; limits on the text are not asked for
pub record IsTextOfTree (text : List ℕ) (t : ProgramTree) : Type 0 where
  pub tokens : List Token
  pub lexed : IsTextOf text tokens
  pub again : ProgramTree
  pub marks : List (Mark Counted)
  pub derived : IsText language tokens (Program again) marks
  pub same : without_lines again ≡ without_lines t

-- the canonical text of each tree within the limits has that tree; it may itself pass those on its length and on openings
abbrev pub PrintedTextsHaveTheirTree : Type 0
PrintedTextsHaveTheirTree = (t : ProgramTree) → IsWithin t → IsTextOfTree (canonical_text t) t

-- two programs within the limits have one canonical text exactly where they are the same, lines apart
abbrev pub CanonicalTextsTellPrograms : Type 0
CanonicalTextsTellPrograms = (s t : ProgramTree) → IsWithin s → IsWithin t → (canonical_text s ≡ canonical_text t) ↔ (without_lines s ≡ without_lines t)
